-- How lists become entries.
use Rattle.std.proofs.Common.{◌≡◌, ℕ, ℤ, Bool, true, false, ◌&&◌, cond, List, [], ◌∷◌, ◌++◌, map, append-nil, refl, ap, ap₂, is_eq, flat_map, int_eq}
use Rattle.ft_store.proofs.Common.{AllByRecursion, where_key, map-append, Row, same_bytes, ListKey, list_key_cmp, name_cmp, StoredEntry, bare_list}
use Rattle.ft_store.proofs.Common.{entries_with, entries_of, AreWhole, and_parts}
use Rattle.std.proofs.lemmas.List.Concat.{flat_map-append}
use Rattle.ft_values.specs.declared.rows.Spot.{Spot}

-- rows of lists, each with such a property, and one row more
module _ {X : Type 0} (Is : X → Type 0) (found : Row → X) (row : Row) where
  pub all_more : (rows : List Row) → AllByRecursion Is (map found rows) → Is (found row) → AllByRecursion Is (map found (rows ++ row ∷ []))
  all_more [] all last = (last, tt)
  all_more (r ∷ rows) all last = (all.0, all_more rows all.1 last)

  were_all : (rows : List Row) → AllByRecursion Is (map found (rows ++ row ∷ [])) → AllByRecursion Is (map found rows) × Is (found row)
  were_all [] all = (tt, all.0)
  were_all (r ∷ rows) all = let rest = were_all rows all.1 in ((all.0, rest.0), rest.1)

  pub others_more : (rows : List Row) → ¬ AllByRecursion Is (map found rows) → ¬ AllByRecursion Is (map found (rows ++ row ∷ []))
  others_more rows others all = others (were_all rows all).0

  pub other_last : (rows : List Row) → ¬ Is (found row) → ¬ AllByRecursion Is (map found (rows ++ row ∷ []))
  other_last rows other all = other (were_all rows all).1

module _ {K : Type 0} (found : Row → K × List Spot) (row : Row) where
  pub entries_more : (f : K × List Spot → List StoredEntry) (rows : List Row) (old new : List StoredEntry) → new ≡ old ++ f (found row) → old ≡ flat_map f (map found rows) → new ≡ flat_map f (map found (rows ++ row ∷ []))
  entries_more f rows old new added before = simp (added, before, map-append, flat_map-append, append-nil)

-- ---- lists without their tables and terms

pub whole_bare : (lists : List (ListKey × List Spot)) → AreWhole lists → AreWhole (map bare_list lists)
whole_bare [] whole = tt
whole_bare (l ∷ lists) whole = (whole.0, whole_bare lists whole.1)

pub bare_whole : (lists : List (ListKey × List Spot)) → AreWhole (map bare_list lists) → AreWhole lists
bare_whole [] whole = tt
bare_whole (l ∷ lists) whole = (whole.0, bare_whole lists whole.1)

-- the lists of one term that are asked
abbrev asks : ℤ → List ℕ → ListKey → Bool
asks tab term k = int_eq tab k.0 && is_eq (name_cmp term k.1)

abbrev asked : ℤ → List ℕ → List (ListKey × List Spot) → List (ListKey × List Spot)
asked tab term lists = where_key list_key_cmp (asks tab term) lists

-- their entries
pub term_entries : (tab : ℤ) (term : List ℕ) (lists : List (ListKey × List Spot)) → flat_map (entries_with term) (map bare_list (asked tab term lists)) ≡ entries_of (asked tab term lists)
term_entries tab term [] = refl
term_entries tab term (l ∷ lists) = go (asks tab term l.0) refl (term_entries tab term lists)
  where
    go : (b : Bool) → asks tab term l.0 ≡ b → flat_map (entries_with term) (map bare_list (asked tab term lists)) ≡ entries_of (asked tab term lists)
        → flat_map (entries_with term) (map bare_list (cond b (l ∷ asked tab term lists) (asked tab term lists))) ≡ entries_of (cond b (l ∷ asked tab term lists) (asked tab term lists))
    go true passed rest = ap₂ (λ xs ys. xs ++ ys) (ap (λ t. entries_with t (bare_list l)) (same_bytes term l.0.1 (and_parts _ _ passed).1)) rest
    go false passed rest = rest
