-- How the functions that pack and unpack go through numbers and places.
use Rattle.std.proofs.Common.{◌≡◌, ℕ, zero, suc, ◌+◌, ◌-◌, ◌*◌, ◌/◌, ◌%◌, ◌^◌, ◌<◌, ◌≤◌, Bool, true, false, ◌&&◌, ◌||◌, ◌==◌, List, [], ◌∷◌, ◌++◌, length, get_or, Some, None, Option, sym, ap, subst, ◌∙◌, arith, nat_lt, append_assoc, append-nil, ltb-true, refl, ◌≢◌, true≢false, if◌then◌else◌, IsTrue}
use Rattle.std.proofs.lemmas.Option.{option_and_then_some, cond_some}
use Rattle.ft_rows.proofs.Common.{option_and_then, eqb-true, eqb-false, and_parts, nat_tests, Spot, leb128_within, going_on, is_spot, is_after, origin, spots_after, rise_after, are_spots, spot_from, passes, checked, read_after, BeginsWith, BeginsWithSpot, HasNoNumber}
use Rattle.ft_rows.specs.Packed.{leb128, numbers_in, unpacked}
use Rattle.ft_rows.proofs.PackedLemmas.{reach, more_fuel, last_byte, is_spot-fits, same_some}

-- a number from 128 on is its low seven bits and the rest
pub leb128-low : (n : ℕ) → 128 ≤ n → n < 2 ^ 64 → leb128 n ≡ (n % 128 + 128) ∷ leb128 (n / 128)
unfolding leb128 reach
leb128-low n low small =
    let large : nat_lt n 128 ≡ false = grind (arith, nat_tests) in
    let fewer : n / 128 < reach 8 = omega arith in
    ap (λ t. if t then n ∷ [] else (n % 128 + 128) ∷ leb128_within 9 (n / 128)) large ∙ ap (λ bs. (n % 128 + 128) ∷ bs) (more_fuel 8 (n / 128) fewer)

pub one_byte_more : (bytes rest : List ℕ) (n : ℕ) → 128 ≤ n → n < 2 ^ 64 → bytes ++ leb128 n ≡ rest → (bytes ++ (n % 128 + 128) ∷ []) ++ leb128 (n / 128) ≡ rest
one_byte_more bytes rest n low small h = append_assoc bytes ((n % 128 + 128) ∷ []) (leb128 (n / 128)) ∙ ap (λ bs. bytes ++ bs) (sym (leb128-low n low small)) ∙ h

pub last_byte_more : (bytes rest : List ℕ) (n : ℕ) → n < 128 → bytes ++ leb128 n ≡ rest → bytes ++ n ∷ [] ≡ rest
last_byte_more bytes rest n small h = ap (λ bs. bytes ++ bs) (sym (last_byte n (grind (arith, nat_tests)))) ∙ h

-- ---- reading

low_byte : (b : ℕ) (rest : List ℕ) → b < 128 → numbers_in (b ∷ rest) ≡ option_and_then (λ ns. Some (b ∷ ns)) (numbers_in rest)
unfolding numbers_in
low_byte b rest low =
    let ends : nat_lt b 128 ≡ true = grind (arith, nat_tests) in
    ap (λ t. option_and_then (λ ns. if t then Some (b ∷ ns) else going_on b ns) (numbers_in rest)) ends

high_byte : (b : ℕ) (bs : List ℕ) → 128 ≤ b → numbers_in (b ∷ bs) ≡ option_and_then (going_on b) (numbers_in bs)
unfolding numbers_in
high_byte b bs high =
    let more : nat_lt b 128 ≡ false = grind (arith, nat_tests) in
    ap (λ t. option_and_then (λ ns. if t then Some (b ∷ ns) else going_on b ns) (numbers_in bs)) more

behind_first : (bytes rest : List ℕ) (b : ℕ) → bytes ≡ b ∷ rest → length rest < length bytes
behind_first bytes rest b is = let l : length bytes ≡ suc (length rest) = ap length is in omega arith

-- a byte below 128 is a number of its own
pub ends_number : (bytes rest : List ℕ) (b : ℕ) → bytes ≡ b ∷ rest → b < 128 → BeginsWith bytes b rest
ends_number bytes rest b is low = record { numbers = ap numbers_in is ∙ low_byte b rest low; shorter = behind_first bytes rest b is }

-- any other one is the low end of a number, whose upper part isn't 0
pub begins_number : (bytes bs rest : List ℕ) (b n : ℕ) → bytes ≡ b ∷ bs → 128 ≤ b → 0 < n → BeginsWith bs n rest → BeginsWith bytes (b - 128 + 128 * n) rest
begins_number bytes bs rest b zero is high some h = absurd (omega (arith, some))
begins_number bytes bs rest b (suc n) is high some h =
    let l = behind_first bytes bs b is in
    record { numbers = ap numbers_in is ∙ high_byte b bs high ∙ ap (option_and_then (going_on b)) h.numbers ∙ both (numbers_in rest); shorter = omega (arith, l, h.shorter) }
  where
    both : (o : Option (List ℕ)) → option_and_then (going_on b) (option_and_then (λ ns. Some (suc n ∷ ns)) o) ≡ option_and_then (λ ns. Some ((b - 128 + 128 * suc n) ∷ ns)) o
    both None = refl
    both (Some ns) = refl

pub no_numbers : (bytes : List ℕ) (n : ℕ) (ns : List ℕ) → bytes ≡ [] → numbers_in bytes ≡ Some (n ∷ ns) → ⊥
unfolding numbers_in
no_numbers bytes n ns none is = let e = sym (ap numbers_in none) ∙ is in cc

pub number_is : (bytes rest : List ℕ) (b n : ℕ) (ns : List ℕ) → bytes ≡ b ∷ rest → b < 128 → numbers_in bytes ≡ Some (n ∷ ns) → n ≡ b
number_is bytes rest b n ns first low is = go (numbers_in rest) (sym (low_byte b rest low) ∙ sym (ap numbers_in first) ∙ is)
  where
    go : (o : Option (List ℕ)) → option_and_then (λ ms. Some (b ∷ ms)) o ≡ Some (n ∷ ns) → n ≡ b
    go None k = absurd (let no = k in cc)
    go (Some ms) k = ap (λ l. get_or l 0 0) (sym (same_some (b ∷ ms) (n ∷ ns) k))

-- what stands above the low end of a number
pub upper_of : (bytes bs : List ℕ) (b n : ℕ) (ns : List ℕ) → bytes ≡ b ∷ bs → 128 ≤ b → numbers_in bytes ≡ Some (n ∷ ns) → (h : ℕ) × (ms : List ℕ) × (numbers_in bs ≡ Some (suc h ∷ ms)) × (n ≡ b - 128 + 128 * suc h)
upper_of bytes bs b n ns first high is = go (numbers_in bs) refl (sym (high_byte b bs high) ∙ sym (ap numbers_in first) ∙ is)
  where
    go : (o : Option (List ℕ)) → numbers_in bs ≡ o → option_and_then (going_on b) o ≡ Some (n ∷ ns) → (h : ℕ) × (ms : List ℕ) × (numbers_in bs ≡ Some (suc h ∷ ms)) × (n ≡ b - 128 + 128 * suc h)
    go None e k = absurd (let no = k in cc)
    go (Some []) e k = absurd (let no = k in cc)
    go (Some (zero ∷ ms)) e k = absurd (let no = k in cc)
    go (Some (suc h ∷ ms)) e k = (h, ms, e, ap (λ l. get_or l 0 0) (sym (same_some ((b - 128 + 128 * suc h) ∷ ms) (n ∷ ns) k)))

-- bytes have a number
pub some_number : (bytes : List ℕ) → 0 < length bytes → numbers_in bytes ≢ Some []
unfolding numbers_in
some_number [] some is = omega (arith, some)
some_number (b ∷ bytes) some is =
    option_and_then_some (λ (ms : List ℕ). if nat_lt b 128 then Some (b ∷ ms) else going_on b ms) (numbers_in bytes) [] is
    (λ ms read next. elim (nat_lt b 128) as (λ t. (if t then Some (b ∷ ms) else going_on b ms) ≡ Some [] → ⊥) [ true ↦ λ e. cc | false ↦ λ e. none ms e ] next)
  where
    none : (ms : List ℕ) → going_on b ms ≡ Some [] → ⊥
    none [] e = cc
    none (zero ∷ ms) e = cc
    none (suc high ∷ ms) e = cc

-- ---- the first place

-- no place has a number above all limits
low_numbers : (first : Bool) (last : Spot) (c p l z : ℕ) → passes first last (spot_from last c p l z) ≡ true → (c ≤ 1000000) × (p ≤ 1000000) × (l ≤ 1000000) × (z ≤ 1000000)
low_numbers first last c p l z h =
    let s = spot_from last c p l z in
    let fits = is_spot-fits s (and_parts (is_spot s) (first || is_after last s) h).0 in
    (omega (arith, fits.column), omega (arith, fits.pos), omega (arith, fits.place), fits.size)

refused : (first : Bool) (last : Spot) (c p l z : ℕ) (ns : List ℕ) → ((c ≤ 1000000) × (p ≤ 1000000) × (l ≤ 1000000) × (z ≤ 1000000) → ⊥) → checked first last (c ∷ p ∷ l ∷ z ∷ ns) ≡ None
refused first last c p l z ns high =
    let s = spot_from last c p l z in
    elim (passes first last s) as (λ t. passes first last s ≡ t → (if t then option_and_then (λ (ss : List Spot). Some (s ∷ ss)) (checked false s ns) else None) ≡ None) [
      | true ↦ λ is. absurd (high (low_numbers first last c p l z is))
      | false ↦ λ is. refl
    ] refl

none_tested : (t : Bool) → ◌≡◌ {A = Option (List Spot)} None (if t then None else None)
none_tested true = refl
none_tested false = refl

-- numbers that end before there are four of them, or go on with one that is too great, say no place
cut : (first : Bool) (last : Spot) (pre : List ℕ) (o : Option (List ℕ)) → length pre < 4 → (o ≡ Some [] → pre ≢ []) → ((n : ℕ) (ns : List ℕ) → o ≡ Some (n ∷ ns) → 1000000 < n)
    → option_and_then (checked first last) (option_and_then (λ ns. Some (pre ++ ns)) o) ≡ None
cut first last pre None few some high = refl
cut first last [] (Some []) few some high = absurd (some refl refl)
cut first last [] (Some (c ∷ [])) few some high = refl
cut first last [] (Some (c ∷ p ∷ [])) few some high = refl
cut first last [] (Some (c ∷ p ∷ l ∷ [])) few some high = refl
cut first last [] (Some (c ∷ p ∷ l ∷ z ∷ ns)) few some high = refused first last c p l z ns (λ low. let great = high c (p ∷ l ∷ z ∷ ns) refl in omega (arith, great, low.0))
cut first last (c ∷ []) (Some []) few some high = refl
cut first last (c ∷ []) (Some (p ∷ [])) few some high = refl
cut first last (c ∷ []) (Some (p ∷ l ∷ [])) few some high = refl
cut first last (c ∷ []) (Some (p ∷ l ∷ z ∷ ns)) few some high = refused first last c p l z ns (λ low. let great = high p (l ∷ z ∷ ns) refl in omega (arith, great, low.1))
cut first last (c ∷ p ∷ []) (Some []) few some high = refl
cut first last (c ∷ p ∷ []) (Some (l ∷ [])) few some high = refl
cut first last (c ∷ p ∷ []) (Some (l ∷ z ∷ ns)) few some high = refused first last c p l z ns (λ low. let great = high l (z ∷ ns) refl in omega (arith, great, low.2))
cut first last (c ∷ p ∷ l ∷ []) (Some []) few some high = refl
cut first last (c ∷ p ∷ l ∷ []) (Some (z ∷ ns)) few some high = refused first last c p l z ns (λ low. let great = high z ns refl in omega (arith, great, low.3))
cut first last (c ∷ p ∷ l ∷ z ∷ pre) o few some high = absurd (omega (arith, few))

-- the numbers of bytes are these and those of what is left
pub record Begins (bytes pre left : List ℕ) : Type 0 where
  pub numbers : numbers_in bytes ≡ option_and_then (λ ns. Some (pre ++ ns)) (numbers_in left)
  pub shorter : length left ≤ length bytes

pub begins : (bytes : List ℕ) → Begins bytes [] bytes
begins bytes = record { numbers = same (numbers_in bytes); shorter = omega arith }
  where
    same : (o : Option (List ℕ)) → o ≡ option_and_then (λ ns. Some ns) o
    same None = refl
    same (Some ns) = refl

pub one_more : {bytes pre left rest : List ℕ} {n : ℕ} → Begins bytes pre left → BeginsWith left n rest → Begins bytes (pre ++ n ∷ []) rest
one_more {bytes} {pre} {left} {rest} {n} h k = record {
  numbers = h.numbers ∙ ap (option_and_then (λ ns. Some (pre ++ ns))) k.numbers ∙ longer (numbers_in rest);
  shorter = omega (arith, h.shorter, k.shorter);
}
  where
    longer : (o : Option (List ℕ)) → option_and_then (λ ns. Some (pre ++ ns)) (option_and_then (λ ns. Some (n ∷ ns)) o) ≡ option_and_then (λ ns. Some ((pre ++ n ∷ []) ++ ns)) o
    longer None = refl
    longer (Some ns) = ap Some (sym (append_assoc pre (n ∷ []) ns))

pub no_spot : {bytes pre left : List ℕ} → (first : Bool) (last : Spot) → length pre < 4 → Begins bytes pre left → HasNoNumber left → IsTrue (nat_lt 0 (length bytes)) → read_after first last bytes ≡ None
no_spot {bytes} {pre} {left} first last few h none some =
    ap (option_and_then (checked first last)) h.numbers
    ∙ cut first last pre (numbers_in left) few (λ e no. some_number bytes (ltb-true 0 (length bytes) some) (h.numbers ∙ ap (option_and_then (λ ns. Some (pre ++ ns))) e ∙ ap Some (ap (λ xs. xs ++ []) no))) none

first_spot : (first : Bool) (last : Spot) (c p l z : ℕ) (bytes rest : List ℕ) (t : Bool) → Begins bytes (c ∷ p ∷ l ∷ z ∷ []) rest → passes first last (spot_from last c p l z) ≡ t
    → read_after first last bytes ≡ (if t then option_and_then (λ ss. Some (spot_from last c p l z ∷ ss)) (read_after false (spot_from last c p l z) rest) else None)
first_spot first last c p l z bytes rest t h is = ap (option_and_then (checked first last)) h.numbers ∙ go (numbers_in rest)
  where
    s : Spot
    s = spot_from last c p l z

    go : (o : Option (List ℕ)) → option_and_then (checked first last) (option_and_then (λ ns. Some (c ∷ p ∷ l ∷ z ∷ ns)) o) ≡ (if t then option_and_then (λ ss. Some (s ∷ ss)) (option_and_then (checked false s) o) else None)
    go None = none_tested t
    go (Some ns) = ap (λ b. if b then option_and_then (λ (ss : List Spot). Some (s ∷ ss)) (checked false s ns) else None) is

-- bytes whose first place fails a test
pub no_place : {c p l z : ℕ} {bytes rest : List ℕ} → (first : Bool) (last : Spot) → Begins bytes (c ∷ p ∷ l ∷ z ∷ []) rest → passes first last (spot_from last c p l z) ≡ false → read_after first last bytes ≡ None
no_place {c} {p} {l} {z} {bytes} {rest} first last h is = first_spot first last c p l z bytes rest false h is

pub a_place : {c p l z : ℕ} {bytes left rest : List ℕ} → (first : Bool) (last : Spot) (spot : Spot) → Begins bytes (c ∷ p ∷ l ∷ []) left → BeginsWith left z rest
    → (passes first last (spot_from last c p l z) ≡ true) × (spot ≡ spot_from last c p l z) → BeginsWithSpot first last bytes spot rest
a_place {c} {p} {l} {z} {bytes} {left} {rest} first last spot h k found = record {
  places = first_spot first last c p l z bytes rest true (one_more h k) found.0 ∙ (λ i. option_and_then (λ ss. Some (sym found.1 i ∷ ss)) (read_after false (sym found.1 i) rest));
  shorter = omega (arith, h.shorter, k.shorter);
}

-- ---- places that are tested as they come

and_true : (b : Bool) → (b && true) ≡ b
and_true true = refl
and_true false = refl

abbrev risen : Spot → List Spot → Option (List Spot)
risen last ss = if rise_after last ss then Some ss else None

one_tested : (t u : Bool) (s : Spot) (ss : List Spot) → (if t && u then Some (s ∷ ss) else None) ≡ (if t then option_and_then (λ (xs : List Spot). Some (s ∷ xs)) (if u then Some ss else None) else None)
one_tested true true s ss = refl
one_tested true false s ss = refl
one_tested false u s ss = refl

tested : (t : Bool) (s : Spot) (o : Option (List Spot)) (own : Option (List Spot)) → option_and_then (risen s) o ≡ own → (last : List Spot → Bool) → ((ss : List Spot) → last (s ∷ ss) ≡ (t && rise_after s ss))
    → option_and_then (λ ss. if last ss then Some ss else None) (option_and_then (λ ss. Some (s ∷ ss)) o) ≡ (if t then option_and_then (λ ss. Some (s ∷ ss)) own else None)
tested t s None own is last same = none_tested t ∙ ap (λ (x : Option (List Spot)). if t then option_and_then (λ ss. Some (s ∷ ss)) x else None) is
tested t s (Some ss) own is last same =
    ap (λ b. if b then Some (s ∷ ss) else None) (same ss) ∙ one_tested t (rise_after s ss) s ss ∙ ap (λ (x : Option (List Spot)). if t then option_and_then (λ xs. Some (s ∷ xs)) x else None) is

checked_behind : (last : Spot) (ns : List ℕ) → option_and_then (risen last) (spots_after last ns) ≡ checked false last ns
checked_behind last [] = refl
checked_behind last (c ∷ []) = refl
checked_behind last (c ∷ p ∷ []) = refl
checked_behind last (c ∷ p ∷ l ∷ []) = refl
checked_behind last (c ∷ p ∷ l ∷ z ∷ ns) =
    let s = spot_from last c p l z in
    tested (passes false last s) s (spots_after s ns) (checked false s ns) (checked_behind s ns) (rise_after last) (λ ss. refl)

abbrev pub if_some : List ℕ → Option (List Spot)
if_some [] = None
if_some (n ∷ ns) = checked true origin (n ∷ ns)

checked_first : (ns : List ℕ) → option_and_then (λ ss. if are_spots ss then Some ss else None) (spots_after origin ns) ≡ if_some ns
checked_first [] = refl
checked_first (c ∷ []) = refl
checked_first (c ∷ p ∷ []) = refl
checked_first (c ∷ p ∷ l ∷ []) = refl
checked_first (c ∷ p ∷ l ∷ z ∷ ns) =
    let s = spot_from origin c p l z in
    tested (passes true origin s) s (spots_after s ns) (checked false s ns) (checked_behind s ns) are_spots (λ ss. ap (λ b. b && rise_after s ss) (sym (and_true (is_spot s))))

pub unpacked-checked : (bytes ns : List ℕ) → numbers_in bytes ≡ Some ns → unpacked bytes ≡ if_some ns
unfolding unpacked
unpacked-checked bytes ns h = ap (λ o. option_and_then (λ ss. if are_spots ss then Some ss else None) (option_and_then (spots_after origin) o)) h ∙ checked_first ns

pub unpacked-empty : (bytes : List ℕ) → bytes ≡ [] → unpacked bytes ≡ None
unfolding unpacked numbers_in
unpacked-empty bytes e = ap unpacked e

joined : (xs ys : List Spot) (s : Spot) (o : Option (List Spot)) → ys ≡ xs ++ s ∷ [] → option_and_then (λ ss. Some (xs ++ ss)) (option_and_then (λ ss. Some (s ∷ ss)) o) ≡ option_and_then (λ ss. Some (ys ++ ss)) o
joined xs ys s None e = refl
joined xs ys s (Some ss) e = ap Some (sym (append_assoc xs (s ∷ []) ss) ∙ ap (λ l. l ++ ss) (sym e))

-- one place more
pub one_passed : (first : Bool) (last : Spot) (bytes rest : List ℕ) (xs : List Spot) (spot : Spot) (all : Option (List Spot)) → BeginsWithSpot first last bytes spot rest
    → all ≡ option_and_then (λ ss. Some (xs ++ ss)) (read_after first last bytes) → all ≡ option_and_then (λ ss. Some ((xs ++ spot ∷ []) ++ ss)) (read_after false spot rest)
one_passed first last bytes rest xs spot all begins h = h ∙ ap (option_and_then (λ ss. Some (xs ++ ss))) begins.places ∙ joined xs (xs ++ spot ∷ []) spot (read_after false spot rest) refl

pub unpacked-no_length : (bytes : List ℕ) → (length bytes == 0) ≡ true → unpacked bytes ≡ None
unpacked-no_length [] h = unpacked-empty [] refl
unpacked-no_length (b ∷ bytes) h = absurd (let none : suc (length bytes) ≡ 0 = eqb-true (suc (length bytes)) 0 h in omega (arith, none))

pub unpacked-is_read : (bytes : List ℕ) → (length bytes == 0) ≡ false → unpacked bytes ≡ read_after true origin bytes
unfolding unpacked
unpacked-is_read bytes some = go (numbers_in bytes) refl
  where
    go : (o : Option (List ℕ)) → numbers_in bytes ≡ o → unpacked bytes ≡ option_and_then (checked true origin) (numbers_in bytes)
    go None e = ap (λ o. option_and_then (λ ss. if are_spots ss then Some ss else None) (option_and_then (spots_after origin) o)) e ∙ sym (ap (option_and_then (checked true origin)) e)
    go (Some []) e = absurd (some_number bytes (let more : length bytes ≢ 0 = eqb-false (length bytes) 0 some in omega arith) e)
    go (Some (n ∷ ns)) e = unpacked-checked bytes (n ∷ ns) e ∙ sym (ap (option_and_then (checked true origin)) e)

pub whole : (o : Option (List Spot)) → o ≡ option_and_then (λ ss. Some ([] ++ ss)) o
whole None = refl
whole (Some ss) = refl

-- the places of all bytes, where nothing is left
pub nothing_left : (first : Bool) (last : Spot) (left : List ℕ) (xs : List Spot) → (length left == 0) ≡ true → option_and_then (λ ss. Some (xs ++ ss)) (read_after first last left) ≡ Some xs
unfolding numbers_in
nothing_left first last [] xs h = ap Some (append-nil xs)
nothing_left first last (b ∷ left) xs h = absurd (let none : suc (length left) ≡ 0 = eqb-true (suc (length left)) 0 h in omega (arith, none))

-- no list of places is empty
pub no_spots : (bytes : List ℕ) → unpacked bytes ≢ Some []
unfolding unpacked
no_spots bytes h =
    option_and_then_some (λ (xs : List Spot). if are_spots xs then Some xs else None) (option_and_then (spots_after origin) (numbers_in bytes)) [] h
    (λ xs read kept. let test = cond_some (are_spots xs) xs [] kept in true≢false (sym (subst (λ ys. are_spots ys ≡ true) test.1 test.0)))

pub some_places : (bytes : List ℕ) (spots : List Spot) → unpacked bytes ≡ Some spots → spots ≢ []
some_places bytes spots h none = no_spots bytes (h ∙ ap Some none)
