-- A packed list is read as the spots that it was made of.
use Rattle.std.proofs.Common.{◌≡◌, ℕ, zero, suc, ◌+◌, ◌-◌, ◌*◌, ◌/◌, ◌%◌, ◌^◌, ◌<◌, ◌≤◌, true, false, ◌&&◌, List, [], ◌∷◌, ◌++◌, Some, None, refl, sym, ap, subst, ◌∙◌, arith, nat_lt, nat_le, ◌==◌, ⊎_elim, IsTrue, if◌then◌else◌, unwrap_or, slice_index}
use Rattle.std.proofs.lemmas.Option.{option_and_then_some, cond_some}
use Rattle.ft_rows.proofs.Common.{flat_map, option_and_then, and_parts, or_cases, ltb-true, ltb-false, leb-true, eqb-true, eqb-false, nat_tests, Spot, leb128_within, going_on, origin, numbers_after, spots_after, is_after, is_spot, rise_after, are_spots, PackedIsRead, PackedIsExact, OnlyPackedIsRead}
use Rattle.ft_rows.specs.Packed.{leb128, numbers_in, packed, unpacked}

-- ---- numbers

-- what k + 1 bytes reach
unfoldable pub reach : ℕ → ℕ
reach zero = 128
reach (suc k) = 128 * reach k

goes_on : (b high : ℕ) (ns : List ℕ) → 0 < high → going_on b (high ∷ ns) ≡ Some ((b - 128 + 128 * high) ∷ ns)
goes_on b zero ns h = absurd (omega (arith, h))
goes_on b (suc high) ns h = refl

-- the number at the front is read, whatever numbers follow
reads_number : (k n : ℕ) (rest : List ℕ) (ns : List ℕ) → n < reach k → numbers_in rest ≡ Some ns → numbers_in (leb128_within (suc k) n ++ rest) ≡ Some (n ∷ ns)
unfolding reach numbers_in
reads_number zero n rest ns h read =
    elim (nat_lt n 128) as (λ b. nat_lt n 128 ≡ b → numbers_in ((if b then n ∷ [] else (n % 128 + 128) ∷ []) ++ rest) ≡ Some (n ∷ ns)) [
      | true ↦ λ small. ap (option_and_then (λ (ms : List ℕ). if nat_lt n 128 then Some (n ∷ ms) else going_on n ms)) read ∙ ap (λ b. if b then Some (n ∷ ns) else going_on n ns) small
      | false ↦ λ large. absurd (let at_least : 128 ≤ n = ltb-false n 128 large in omega arith)
    ] refl
reads_number (suc k) n rest ns h read =
    elim (nat_lt n 128) as (λ b. nat_lt n 128 ≡ b → numbers_in ((if b then n ∷ [] else (n % 128 + 128) ∷ leb128_within (suc k) (n / 128)) ++ rest) ≡ Some (n ∷ ns)) [
      | true ↦ λ small. ap (option_and_then (λ (ms : List ℕ). if nat_lt n 128 then Some (n ∷ ms) else going_on n ms)) read ∙ ap (λ b. if b then Some (n ∷ ns) else going_on n ns) small
      | false ↦ λ large.
          let at_least : 128 ≤ n = ltb-false n 128 large in
          let fewer : n / 128 < reach k = omega (arith, h) in
          let b = n % 128 + 128 in
          let not_last : nat_lt b 128 ≡ false = grind (arith, nat_tests) in
          ap (option_and_then (λ (ms : List ℕ). if nat_lt b 128 then Some (b ∷ ms) else going_on b ms)) (reads_number k (n / 128) rest ns fewer read)
          ∙ ap (λ t. if t then Some (b ∷ n / 128 ∷ ns) else going_on b (n / 128 ∷ ns)) not_last
          ∙ goes_on b (n / 128) ns (omega arith)
          ∙ ap (λ m. Some (m ∷ ns)) (let whole : b - 128 + 128 * (n / 128) ≡ n = omega arith in whole)
    ] refl

-- each number is within what ten bytes reach
abbrev AreSmall : List ℕ → Type 0
AreSmall [] = Unit {0}
AreSmall (n ∷ ns) = (n < 2 ^ 70) × AreSmall ns

reads_numbers : (ns : List ℕ) → AreSmall ns → numbers_in (flat_map leb128 ns) ≡ Some ns
unfolding leb128 numbers_in reach
reads_numbers [] small = refl
reads_numbers (n ∷ ns) small = reads_number 9 n (flat_map leb128 ns) ns small.0 (reads_numbers ns small.1)

-- ---- spots

-- a spot that numbers can say after last
record Follows (last s : Spot) : Type 0 where
  pub column : last.column ≤ s.column
  pub pos : s.column ≡ last.column → last.pos ≤ s.pos
  pub place : s.column ≡ last.column → last.place ≤ s.place

abbrev AllFollow : Spot → List Spot → Type 0
AllFollow last [] = Unit {0}
AllFollow last (s ∷ ss) = Follows last s × AllFollow s ss

-- a number that counts on from a where the columns are one is read back
counted : (c l a x : ℕ) → l ≤ c → (c ≡ l → a ≤ x) → (if c - l == 0 then a else 0) + (x - (if c == l then a else 0)) ≡ x
counted c l a x below rises =
    elim (c == l) as (λ b. (c == l) ≡ b → (if c - l == 0 then a else 0) + (x - (if b then a else 0)) ≡ x) [
      | true ↦ λ same. let e : c ≡ l = eqb-true c l same in let low = rises e in let zero_between : (c - l == 0) ≡ true = grind (arith, nat_tests) in ap (λ b. (if b then a else 0) + (x - a)) zero_between ∙ omega arith
      | false ↦ λ apart. let ne = eqb-false c l apart in let some_between : (c - l == 0) ≡ false = grind (arith, nat_tests) in ap (λ b. (if b then a else 0) + (x - 0)) some_between ∙ omega arith
    ] refl

spot_back : (last s : Spot) → Follows last s →
    ◌≡◌ {A = Spot} (record {
      column = last.column + (s.column - last.column);
      pos = (if s.column - last.column == 0 then last.pos else 0) + (s.pos - (if s.column == last.column then last.pos else 0));
      place = (if s.column - last.column == 0 then last.place else 0) + (s.place - (if s.column == last.column then last.place else 0));
      size = s.size;
    }) s
spot_back last s f =
    let column : last.column + (s.column - last.column) ≡ s.column = omega (arith, f.column) in
    let pos = counted s.column last.column last.pos s.pos f.column f.pos in
    let place = counted s.column last.column last.place s.place f.column f.place in
    λ i. record { column = column i; pos = pos i; place = place i; size = s.size }

reads_spots : (last : Spot) (ss : List Spot) → AllFollow last ss → spots_after last (numbers_after last ss) ≡ Some ss
reads_spots last [] f = refl
reads_spots last (s ∷ ss) f =
    ap (λ (x : Spot). option_and_then (λ (rest : List Spot). Some (x ∷ rest)) (spots_after x (numbers_after s ss))) (spot_back last s f.0)
    ∙ ap (option_and_then (λ (rest : List Spot). Some (s ∷ rest))) (reads_spots s ss f.1)

is_after-follows : (last s : Spot) → is_after last s ≡ true → Follows last s
is_after-follows last s h =
    ⊎_elim (λ later.
    let less : last.column < s.column = ltb-true last.column s.column later in
    record { column = omega arith; pos = λ e. absurd (omega arith); place = λ e. absurd (omega arith) })
    (λ behind.
    let parts = and_parts (last.column == s.column && nat_lt last.pos s.pos) (nat_lt last.place s.place) behind in
    let fronts = and_parts (last.column == s.column) (nat_lt last.pos s.pos) parts.0 in
    let same : last.column ≡ s.column = eqb-true last.column s.column fronts.0 in
    let pos : last.pos < s.pos = ltb-true last.pos s.pos fronts.1 in
    let place : last.place < s.place = ltb-true last.place s.place parts.1 in
    record { column = omega arith; pos = λ e. omega arith; place = λ e. omega arith })
    (or_cases (nat_lt last.column s.column) (last.column == s.column && nat_lt last.pos s.pos && nat_lt last.place s.place) h)

rise_after-follow : (last : Spot) (ss : List Spot) → rise_after last ss ≡ true → AllFollow last ss
rise_after-follow last [] h = tt
rise_after-follow last (s ∷ ss) h =
    let parts = and_parts (is_spot s && is_after last s) (rise_after s ss) h in
    (is_after-follows last s (and_parts (is_spot s) (is_after last s) parts.0).1, rise_after-follow s ss parts.1)

-- what limits say of one spot
pub record Fits (s : Spot) : Type 0 where
  pub column : s.column ≤ 99
  pub pos : s.pos < 1000000
  pub place : s.place < 1000000
  pub size : s.size ≤ 1000000

pub is_spot-fits : (s : Spot) → is_spot s ≡ true → Fits s
is_spot-fits s h =
    let a = and_parts (nat_le s.column 99 && nat_lt s.pos 1000000 && nat_lt s.place 1000000 && nat_lt 0 s.size) (nat_le s.size 1000000) h in
    let b = and_parts (nat_le s.column 99 && nat_lt s.pos 1000000 && nat_lt s.place 1000000) (nat_lt 0 s.size) a.0 in
    let c = and_parts (nat_le s.column 99 && nat_lt s.pos 1000000) (nat_lt s.place 1000000) b.0 in
    let d = and_parts (nat_le s.column 99) (nat_lt s.pos 1000000) c.0 in
    record { column = leb-true s.column 99 d.0; pos = ltb-true s.pos 1000000 d.1; place = ltb-true s.place 1000000 c.1; size = leb-true s.size 1000000 a.1 }

below_reach : (x : ℕ) → x ≤ 1000000 → x < 2 ^ 70
below_reach x h = omega arith

abbrev pub AllFit : List Spot → Type 0
AllFit [] = Unit {0}
AllFit (s ∷ ss) = Fits s × AllFit ss

rise_after-fit : (last : Spot) (ss : List Spot) → rise_after last ss ≡ true → AllFit ss
rise_after-fit last [] h = tt
rise_after-fit last (s ∷ ss) h =
    let parts = and_parts (is_spot s && is_after last s) (rise_after s ss) h in
    (is_spot-fits s (and_parts (is_spot s) (is_after last s) parts.0).0, rise_after-fit s ss parts.1)

numbers_small : (last : Spot) (ss : List Spot) → AllFit ss → AreSmall (numbers_after last ss)
numbers_small last [] f = tt
numbers_small last (s ∷ ss) f =
    let fits = f.0 in
    (below_reach _ (omega (arith, fits.column)), (below_reach _ (omega (arith, fits.pos)), (below_reach _ (omega (arith, fits.place)), (below_reach _ fits.size, numbers_small s ss f.1))))

pub packed_is_read : PackedIsRead
unfolding packed unpacked
packed_is_read [] h = absurd (let no = h in cc)
packed_is_read (s ∷ ss) h =
    let parts = and_parts (is_spot s) (rise_after s ss) h in
    let fits = is_spot-fits s parts.0 in
    let first : Follows origin s = record { column = omega arith; pos = λ e. omega arith; place = λ e. omega arith } in
    ap (λ o. option_and_then (λ (xs : List Spot). if are_spots xs then Some xs else None) (option_and_then (spots_after origin) o)) (reads_numbers (numbers_after origin (s ∷ ss)) (numbers_small origin (s ∷ ss) (fits, rise_after-fit s ss parts.1)))
    ∙ ap (option_and_then (λ (xs : List Spot). if are_spots xs then Some xs else None)) (reads_spots origin (s ∷ ss) (first, rise_after-follow s ss parts.1))
    ∙ ap (λ b. if b then Some (s ∷ ss) else None) h

pub packed_is_exact : PackedIsExact
packed_is_exact ss ts h k same = ap (λ o. unwrap_or o ss) (sym (packed_is_read ss h) ∙ ap unpacked same ∙ packed_is_read ts k)

-- ---- only packed lists are read

-- more fuel than a number needs changes nothing
pub more_fuel : (k n : ℕ) → n < reach k → leb128_within (suc k) n ≡ leb128_within (suc (suc k)) n
unfolding reach
more_fuel zero n h = elim (nat_lt n 128) as (λ b. nat_lt n 128 ≡ b → (if b then n ∷ [] else (n % 128 + 128) ∷ []) ≡ (if b then n ∷ [] else (n % 128 + 128) ∷ leb128_within 1 (n / 128))) [
  | true ↦ λ small. refl
  | false ↦ λ large. absurd (let at_least : 128 ≤ n = ltb-false n 128 large in omega arith)
] refl
more_fuel (suc k) n h = elim (nat_lt n 128) as (λ b. nat_lt n 128 ≡ b → (if b then n ∷ [] else (n % 128 + 128) ∷ leb128_within (suc k) (n / 128)) ≡ (if b then n ∷ [] else (n % 128 + 128) ∷ leb128_within (suc (suc k)) (n / 128))) [
  | true ↦ λ small. refl
  | false ↦ λ large. let fewer : n / 128 < reach k = omega (arith, h) in ap (λ bs. (n % 128 + 128) ∷ bs) (more_fuel k (n / 128) fewer)
] refl

-- a byte that goes on, before what stands for the rest
leb128-goes_on : (b high : ℕ) → 128 ≤ b → b < 256 → b - 128 + 128 * suc high < 2 ^ 70 → leb128 (b - 128 + 128 * suc high) ≡ b ∷ leb128 (suc high)
unfolding leb128 reach
leb128-goes_on b high low byte small =
    let n = b - 128 + 128 * suc high in
    let large : nat_lt n 128 ≡ false = grind (arith, nat_tests) in
    let first : n % 128 + 128 ≡ b = omega arith in
    let rest : n / 128 ≡ suc high = omega arith in
    let fewer : suc high < reach 8 = omega arith in
    ap (λ t. if t then n ∷ [] else (n % 128 + 128) ∷ leb128_within 9 (n / 128)) large
    ∙ (λ i. first i ∷ leb128_within 9 (rest i))
    ∙ ap (λ bs. b ∷ bs) (more_fuel 8 (suc high) fewer)

pub same_some : {A : Type 0} (x y : A) → Some x ≡ Some y → x ≡ y
same_some x y e = ap (λ o. unwrap_or o x) e

abbrev AreBytes : List ℕ → Type 0
AreBytes [] = Unit {0}
AreBytes (b ∷ bs) = (b < 256) × AreBytes bs

are_bytes : (bs : List ℕ) → ((i : ℕ) → slice_index bs i < 256) → AreBytes bs
are_bytes [] h = tt
are_bytes (b ∷ bs) h = (h 0, are_bytes bs (λ i. h (suc i)))

pub last_byte : (b : ℕ) → nat_lt b 128 ≡ true → leb128 b ≡ b ∷ []
unfolding leb128
last_byte b last = ap (λ t. if t then b ∷ [] else (b % 128 + 128) ∷ leb128_within 9 (b / 128)) last

writes_rest : (b : ℕ) (bs ms ns : List ℕ) → b < 256 → AreSmall ns → 128 ≤ b → (AreSmall ms → flat_map leb128 ms ≡ bs) → going_on b ms ≡ Some ns → flat_map leb128 ns ≡ b ∷ bs
writes_rest b bs [] ns byte small low rest is = absurd (let no = is in cc)
writes_rest b bs (zero ∷ ms) ns byte small low rest is = absurd (let no = is in cc)
writes_rest b bs (suc high ∷ ms) ns byte small low rest is =
    let e = same_some ((b - 128 + 128 * suc high) ∷ ms) ns is in
    let smalls = subst AreSmall (sym e) small in
    ap (flat_map leb128) (sym e) ∙ ap (λ xs. xs ++ flat_map leb128 ms) (leb128-goes_on b high low byte smalls.0)
    ∙ ap (λ xs. b ∷ xs) (rest (omega (arith, smalls.0), smalls.1))

-- the numbers that bytes spell are written as those bytes
writes_numbers : (bs ns : List ℕ) → AreBytes bs → AreSmall ns → numbers_in bs ≡ Some ns → flat_map leb128 ns ≡ bs
unfolding numbers_in
writes_numbers [] ns bytes small h = ap (flat_map leb128) (sym (same_some [] ns h))
writes_numbers (b ∷ bs) ns bytes small h =
    option_and_then_some (λ (ms : List ℕ). if nat_lt b 128 then Some (b ∷ ms) else going_on b ms) (numbers_in bs) ns h
    (λ ms read then'. elim (nat_lt b 128) as (λ t. nat_lt b 128 ≡ t → (if t then Some (b ∷ ms) else going_on b ms) ≡ Some ns → flat_map leb128 ns ≡ b ∷ bs) [
      | true ↦ λ last is. let e = same_some (b ∷ ms) ns is in
          ap (flat_map leb128) (sym e) ∙ (λ i. last_byte b last i ++ writes_numbers bs ms bytes.1 (subst AreSmall (sym e) small).1 read i)
      | false ↦ λ more is. writes_rest b bs ms ns bytes.0 small (ltb-false b 128 more) (λ smalls. writes_numbers bs ms bytes.1 smalls read) is
    ] refl then')

-- a number that counts on from a is said again
counted_back : (l c a p : ℕ) → ((if c == 0 then a else 0) + p) - (if l + c == l then a else 0) ≡ p
counted_back l c a p = elim (c == 0) as (λ t. (c == 0) ≡ t → ((if t then a else 0) + p) - (if l + c == l then a else 0) ≡ p) [
  | true ↦ λ none. let e : c ≡ 0 = eqb-true c 0 none in let same : (l + c == l) ≡ true = grind (arith, nat_tests) in ap (λ t. (a + p) - (if t then a else 0)) same ∙ omega arith
  | false ↦ λ some. let ne = eqb-false c 0 some in let apart : (l + c == l) ≡ false = grind (arith, nat_tests) in ap (λ t. (0 + p) - (if t then a else 0)) apart ∙ omega arith
] refl

pub writes_spots : (last : Spot) (ns : List ℕ) (ss : List Spot) → spots_after last ns ≡ Some ss → numbers_after last ss ≡ ns
writes_spots last [] ss h = ap (numbers_after last) (sym (same_some [] ss h))
writes_spots last (c ∷ []) ss h = absurd (let no = h in cc)
writes_spots last (c ∷ p ∷ []) ss h = absurd (let no = h in cc)
writes_spots last (c ∷ p ∷ l ∷ []) ss h = absurd (let no = h in cc)
writes_spots last (c ∷ p ∷ l ∷ z ∷ ns) ss h =
    let s : Spot = record { column = last.column + c; pos = (if c == 0 then last.pos else 0) + p; place = (if c == 0 then last.place else 0) + l; size = z } in
    option_and_then_some (λ (rest : List Spot). Some (s ∷ rest)) (spots_after s ns) ss h
    (λ rest read then'. let e = same_some (s ∷ rest) ss then' in
    let column : (last.column + c) - last.column ≡ c = omega arith in
    ap (numbers_after last) (sym e)
    ∙ (λ i. column i ∷ counted_back last.column c last.pos p i ∷ counted_back last.column c last.place l i ∷ z ∷ writes_spots s ns rest read i))

pub fits_all : (ss : List Spot) → are_spots ss ≡ true → AllFit ss
fits_all [] h = tt
fits_all (s ∷ ss) h = let parts = and_parts (is_spot s) (rise_after s ss) h in (is_spot-fits s parts.0, rise_after-fit s ss parts.1)

pub only_packed_is_read : OnlyPackedIsRead
unfolding packed unpacked
only_packed_is_read bytes ss are h =
    option_and_then_some (λ (xs : List Spot). if are_spots xs then Some xs else None) (option_and_then (spots_after origin) (numbers_in bytes)) ss h
    (λ xs read kept. let test = cond_some (are_spots xs) xs ss kept in
    option_and_then_some (spots_after origin) (numbers_in bytes) xs read
    (λ ns spelt spots.
    let again = writes_spots origin ns xs spots in
    let small = subst AreSmall again (numbers_small origin xs (fits_all xs test.0)) in
    (subst (λ ys. IsTrue (are_spots ys)) test.1 test.0, ap (λ ys. flat_map leb128 (numbers_after origin ys)) (sym test.1) ∙ ap (flat_map leb128) again ∙ writes_numbers bytes ns (are_bytes bytes are) small spelt)))
