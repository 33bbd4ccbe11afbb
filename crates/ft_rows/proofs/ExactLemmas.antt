-- Bytes stand for places where these are read from them one after another.
use Rattle.std.proofs.Common.{◌≡◌, ℕ, ◌+◌, ◌<◌, Bool, true, false, true≢false, List, [], ◌∷◌, map, length, drop, get_or, not, suc, pos, Option, Some, None, refl, sym, ap, ◌∙◌, arith, ◌≢◌, unwrap_or, ◌↔◌, ◌==◌, ◌&&◌, IsTrue, nat_lt, if◌then◌else◌}
use Rattle.ft_rows.proofs.Common.{option_and_then, eqb-true, eq-eqb, false_from_ne_true, and_parts, nat_tests, drop_more, Spot, origin, Posting, spot_of, spot_from, passes, checked, read_after, BeginsWithSpot}
use Rattle.ft_rows.specs.Packed.{numbers_in, unpacked}
use Rattle.ft_rows.proofs.PackedLemmas.{same_some}
use Rattle.ft_rows.proofs.ReadLemmas.{some_number, unpacked-is_read}

never_none : (n : ℕ) → (suc n == 0) ≡ false
never_none n = false_from_ne_true (suc n == 0) (λ h. let e : suc n ≡ 0 = eqb-true (suc n) 0 h in omega arith)

pub never_first : (n : ℕ) → (n + 1 == 0) ≡ false
never_first n = false_from_ne_true (n + 1 == 0) (λ h. let e : n + 1 ≡ 0 = eqb-true (n + 1) 0 h in omega arith)

-- no bytes are no places, and bytes are some
read_none : (first : Bool) (last : Spot) (ps : List Spot) → read_after first last [] ≡ Some ps → ps ≡ []
unfolding numbers_in
read_none first last ps h = sym (same_some [] ps h)

none_read : (first : Bool) (last : Spot) (bytes : List ℕ) → read_after first last bytes ≡ Some [] → bytes ≡ []
none_read first last [] h = refl
none_read first last (b ∷ bytes) h = absurd (go (numbers_in (b ∷ bytes)) refl h)
  where
    go : (o : Option (List ℕ)) → numbers_in (b ∷ bytes) ≡ o → option_and_then (checked first last) o ≡ Some [] → ⊥
    go None e k = cc
    go (Some []) e k = some_number (b ∷ bytes) (omega arith) e
    go (Some (c ∷ [])) e k = cc
    go (Some (c ∷ p ∷ [])) e k = cc
    go (Some (c ∷ p ∷ l ∷ [])) e k = cc
    go (Some (c ∷ p ∷ l ∷ z ∷ ns)) e k =
        let s = spot_from last c p l z in
        elim (passes first last s) as (λ t. (if t then option_and_then (λ (ss : List Spot). Some (s ∷ ss)) (checked false s ns) else None) ≡ Some [] → ⊥) [
          | true ↦ λ k. elim (checked false s ns) as (λ o. option_and_then (λ (ss : List Spot). Some (s ∷ ss)) o ≡ Some [] → ⊥) [ None ↦ λ k. cc | Some ss ↦ λ k. cc ] k
          | false ↦ λ k. cc
        ] k

-- Places that aren't none stand for bytes just where they are read from them.
pub unpacked-reads : (bytes : List ℕ) (ps : List Spot) → ps ≢ [] → (unpacked bytes ≡ Some ps) ↔ (read_after true origin bytes ≡ Some ps)
unfolding unpacked numbers_in
unpacked-reads [] ps some = (λ h. absurd (let no = h in cc), λ h. absurd (some (read_none true origin ps h)))
unpacked-reads (b ∷ bytes) ps some = let same = unpacked-is_read (b ∷ bytes) (never_none (length bytes)) in (λ h. sym same ∙ h, λ h. same ∙ h)

abbrev head_of : Spot → List Spot → Spot
head_of d [] = d
head_of d (s ∷ ss) = s

-- ---- one place after another

-- the places of all bytes are these just where those of what is left are the ones to come
abbrev pub Reads : List ℕ → List Spot → Bool → Spot → List ℕ → List Spot → Type 0
Reads bytes all first last left ps = (read_after true origin bytes ≡ Some all) ↔ (read_after first last left ≡ Some ps)

pub begun : (bytes : List ℕ) (all : List Spot) → Reads bytes all true origin bytes all
begun bytes all = (λ h. h, λ h. h)

module _ (bytes : List ℕ) (all : List Spot) (first : Bool) (last : Spot) (left : List ℕ) (s : Spot) (ss : List Spot) (reads : Reads bytes all first last left (s ∷ ss)) where
  pub goes_on : (rest : List ℕ) → BeginsWithSpot first last left s rest → Reads bytes all false s rest ss
  goes_on rest begins = (
    λ h. joined (read_after false s rest) (sym begins.places ∙ reads.0 h),
    λ h. reads.1 (begins.places ∙ ap (option_and_then (λ xs. Some (s ∷ xs))) h),
  )
    where
      joined : (o : Option (List Spot)) → option_and_then (λ xs. Some (s ∷ xs)) o ≡ Some (s ∷ ss) → o ≡ Some ss
      joined None h = absurd (let no = h in cc)
      joined (Some xs) h = ap (λ (o : Option (List Spot)). Some (drop 1 (unwrap_or o []))) h

  pub another : (spot : Spot) (rest : List ℕ) → BeginsWithSpot first last left spot rest → spot ≢ s → read_after true origin bytes ≢ Some all
  another spot rest begins differs h = go (read_after false spot rest) (sym begins.places ∙ reads.0 h)
    where
      go : (o : Option (List Spot)) → option_and_then (λ xs. Some (spot ∷ xs)) o ≡ Some (s ∷ ss) → ⊥
      go None k = cc
      go (Some xs) k = differs (ap (λ (o : Option (List Spot)). head_of spot (unwrap_or o [])) k)

  pub nothing : (IsTrue (nat_lt 0 (length left)) → read_after first last left ≡ None) → read_after true origin bytes ≢ Some all
  nothing none h = go left none (reads.0 h)
    where
      go : (left : List ℕ) → (IsTrue (nat_lt 0 (length left)) → read_after first last left ≡ None) → read_after first last left ≡ Some (s ∷ ss) → ⊥
      go [] none k = absurd (let no = read_none first last (s ∷ ss) k in cc)
      go (b ∷ bs) none k = absurd (let no = sym (none (grind (arith, nat_tests))) ∙ k in cc)

-- no place is left
pub ends : (bytes : List ℕ) (all : List Spot) (first : Bool) (last : Spot) (left : List ℕ) → Reads bytes all first last left [] → (read_after true origin bytes ≡ Some all) ↔ (left ≡ [])
unfolding numbers_in
ends bytes all first last left reads = (λ h. none_read first last left (reads.0 h), λ h. reads.1 (ap (read_after first last) h))

-- ---- the places of postings

pub same_spot : (s t : Spot) → ((s.column == t.column) && ((s.pos == t.pos) && ((s.place == t.place) && (s.size == t.size)))) ≡ true → s ≡ t
same_spot s t h =
    let a = and_parts (s.column == t.column) ((s.pos == t.pos) && ((s.place == t.place) && (s.size == t.size))) h in
    let b = and_parts (s.pos == t.pos) ((s.place == t.place) && (s.size == t.size)) a.1 in
    let c = and_parts (s.place == t.place) (s.size == t.size) b.1 in
    λ i. record { column = eqb-true s.column t.column a.0 i; pos = eqb-true s.pos t.pos b.0 i; place = eqb-true s.place t.place c.0 i; size = eqb-true s.size t.size c.1 i }

pub other_spot : (s t : Spot) → ((s.column == t.column) && ((s.pos == t.pos) && ((s.place == t.place) && (s.size == t.size)))) ≡ false → s ≢ t
other_spot s t h is =
    let one : ((s.column == s.column) && ((s.pos == s.pos) && ((s.place == s.place) && (s.size == s.size)))) ≡ true = λ i. eq-eqb s.column s.column refl i && (eq-eqb s.pos s.pos refl i && (eq-eqb s.place s.place refl i && eq-eqb s.size s.size refl i)) in
    true≢false (sym one ∙ ap (λ t. (s.column == t.column) && ((s.pos == t.pos) && ((s.place == t.place) && (s.size == t.size)))) is ∙ h)

abbrev pub no_posting : Posting
no_posting = record { docid = pos 0; spot = origin }

abbrev pub spot_at : List Posting → ℕ → Spot
spot_at ps i = (get_or ps i no_posting).spot

pub left_are : (ps : List Posting) (i : ℕ) → i < length ps → map spot_of (drop i ps) ≡ spot_at ps i ∷ map spot_of (drop (i + 1) ps)
left_are ps i within = ap (map spot_of) (drop_more ps i no_posting within)

-- ---- some postings, or none

pub is_nil : {X : Type 0} (xs : List X) → (length xs == 0) ≡ true → xs ≡ []
is_nil [] h = refl
is_nil (x ∷ xs) h = absurd (true≢false (sym h ∙ never_none (length xs)))

pub some_at : (ps : List Posting) (i : ℕ) → i < length ps → map spot_of ps ≢ []
some_at [] i within e = omega (arith, within)
some_at (p ∷ ps) i within e = let none = e in cc

pub some_told : (ps : List Posting) (b : Bool) → b ≡ (length ps == 0) → not b ≡ true → map spot_of ps ≢ []
some_told [] b is h e = true≢false (sym h ∙ ap not is)
some_told (p ∷ ps) b is h e = let none = e in cc

pub told_some : (ps : List Posting) (b : Bool) → b ≡ (length ps == 0) → map spot_of ps ≢ [] → not b ≡ true
told_some [] b is some = absurd (some refl)
told_some (p ∷ ps) b is some = ap not (is ∙ never_none (length ps))
