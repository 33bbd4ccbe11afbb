-- Lists that are expected, gone through beside rows.
use Rattle.std.proofs.Common.{◌≡◌, ℕ, ℤ, zero, suc, ◌+◌, ◌<◌, Bool, true, false, true≢false, cond, not, IsTrue, List, [], ◌∷◌, ◌++◌, map, length, get_or, take, drop, refl, sym, ap, subst, ◌∙◌, arith, append_assoc, append-nil, length-drop, string_bytes, ◌↔◌, MatchBool, int_eq, drop-drop}
use Rattle.ft_store.proofs.Common.{map-append, append_cancel_left, drop_more, Row, ListKey}
use Rattle.ft_values.specs.declared.rows.Spot.{Spot}
use Rattle.ft_rows.specs.declared.terms.Posting.{Posting}
use Rattle.ft_rows.specs.declared.terms.TermLists.{TermLists}
use Rattle.ft_rows.specs.Terms.{spot_of, joined_posting, lists_of_postings, AreFirstList, lists_by_terms}
use Rattle.ft_store.specs.Found.{found_places}
use Rattle.ft_store.specs.Expected.{left_under, left_of, HasMore, IsList}

-- ---- terms

inside_terms : (ts : List TermLists) (i n : ℕ) → HasMore (drop i ts) n → i < length ts
inside_terms [] zero n h = absurd h
inside_terms [] (suc i) n h = absurd h
inside_terms (t ∷ ts) zero n h = omega arith
inside_terms (t ∷ ts) (suc i) n h = omega (arith, inside_terms ts i n h)

term_here : (ts : List TermLists) (i n : ℕ) (t : TermLists) → HasMore (drop i ts) n → t ≡ get_or ts i t → drop i ts ≡ t ∷ drop (i + 1) ts
term_here ts i n t h is = drop_more ts i t (inside_terms ts i n h) ∙ ap (λ u. u ∷ drop (i + 1) ts) (sym is)

-- postings of the term are left
inside_postings : (ts : List TermLists) (i n : ℕ) (t : TermLists) → HasMore (drop i ts) n → t ≡ get_or ts i t → n < length t.postings.items
inside_postings ts i n t h is = subst (λ us. HasMore us n) (term_here ts i n t h is) h

-- the next list, and what is left after it
next_list : (tab : ℤ) (ts : List TermLists) (i n : ℕ) (t : TermLists) (p : Posting) (ps : List Posting) (count : ℕ) → HasMore (drop i ts) n → t ≡ get_or ts i t → p ∷ ps ≡ drop n t.postings.items → AreFirstList (p ∷ ps) count
    → left_of tab (drop i ts) n ≡ ((tab, string_bytes t.term, p.docid), map spot_of (take count (p ∷ ps))) ∷ left_of tab (drop i ts) (n + count)
next_list tab ts i n t p ps count h is rest first =
    let key : ℤ × List Spot → ListKey × List Spot = λ l. ((tab, string_bytes t.term, l.0), l.1) in
    let list : ListKey × List Spot = ((tab, string_bytes t.term, p.docid), map spot_of (take count (p ∷ ps))) in
    let here = term_here ts i n t h is in
    let behind : drop count (p ∷ ps) ≡ drop (n + count) t.postings.items = ap (drop count) rest ∙ drop-drop count n t.postings.items in
    let under : left_under tab t n ≡ list ∷ left_under tab t (n + count) =
    ap (λ qs. map key (lists_of_postings qs)) (sym rest) ∙ ap (map key) first.2 ∙ ap (λ qs. list ∷ map key (lists_of_postings qs)) behind in
    ap (λ us. left_of tab us n) here ∙ ap (λ ls. ls ++ lists_by_terms tab (drop (i + 1) ts)) under ∙ ap (λ us. list ∷ left_of tab us (n + count)) (sym here)

-- where postings are left, lists are
some_joined : (p : Posting) (ls : List (ℤ × List Spot)) → joined_posting p ls ≡ [] → ⊥
some_joined p [] e = cc
some_joined p (l ∷ ls) e = go (int_eq p.docid l.0) e
  where
    go : (b : Bool) → cond b ((p.docid, p.spot ∷ l.1) ∷ ls) ((p.docid, p.spot ∷ []) ∷ l ∷ ls) ≡ [] → ⊥
    go true e = cc
    go false e = cc

some_under : (key : ℤ × List Spot → ListKey × List Spot) (ps : List Posting) (more : List (ListKey × List Spot)) → 0 < length ps → map key (lists_of_postings ps) ++ more ≡ [] → ⊥
some_under key [] more h e = absurd (omega arith)
some_under key (p ∷ ps) more h e = some_joined p (lists_of_postings ps) (none key (lists_of_postings (p ∷ ps)) more e)
  where
    none : (key : ℤ × List Spot → ListKey × List Spot) (ls : List (ℤ × List Spot)) (more : List (ListKey × List Spot)) → map key ls ++ more ≡ [] → ls ≡ []
    none key [] more e = refl
    none key (l ∷ ls) more e = absurd (let no = e in cc)

pub some_left : (tab : ℤ) (ts : List TermLists) (n : ℕ) → HasMore ts n → left_of tab ts n ≡ [] → ⊥
some_left tab [] n h e = h
some_left tab (t ∷ ts) n h e = some_under (λ l. ((tab, string_bytes t.term, l.0), l.1)) (drop n t.postings.items) (lists_by_terms tab ts) (omega (arith, length-drop n t.postings.items)) e

-- ---- rows

module _ {X Y : Type 0} (found : X → Y) (rows : List X) where
  module _ (left all : List Y) (so_far : map found rows ++ left ≡ all) where
    left_is : (more : List Y) → map found rows ++ more ≡ all → more ≡ left
    left_is more e = append_cancel_left (map found rows) more left (e ∙ sym so_far)

    one_found : (row : X) (rest : List Y) → left ≡ found row ∷ rest → map found (rows ++ row ∷ []) ++ rest ≡ all
    one_found row rest is = ap (λ ys. ys ++ rest) (map-append found rows (row ∷ [])) ∙ append_assoc (map found rows) (found row ∷ []) rest ∙ ap (λ ys. map found rows ++ ys) (sym is) ∙ so_far

    another_found : (row : X) (y : Y) (rest : List Y) → left ≡ y ∷ rest → (found row ≡ y → ⊥) → (more : List X) → map found ((rows ++ row ∷ []) ++ more) ≡ all → ⊥
    another_found row y rest is other more e =
        let apart = ap (map found) (append_assoc rows (row ∷ []) more) ∙ map-append found rows (row ∷ more) in
        other (let same = left_is (found row ∷ map found more) (sym apart ∙ e) ∙ is in cc)

    -- a row more is the next list, or another one
    pub row_found : (row : X) (y : Y) (rest : List Y) (same : Bool) → left ≡ y ∷ rest → IsTrue same ↔ (found row ≡ y)
        → MatchBool same (map found (rows ++ row ∷ []) ++ rest ≡ all) ((more : List X) → map found ((rows ++ row ∷ []) ++ more) ≡ all → ⊥)
    row_found row y rest true is same = one_found row rest (is ∙ ap (λ z. z ∷ rest) (sym (same.0 refl)))
    row_found row y rest false is same = another_found row y rest is (λ e. true≢false (sym (same.1 e)))

    -- after the last row a list is left, or none is
    pub at_end : (value : List Y) (Some None : Type 0) (some : Bool) → map found rows ≡ value → MatchBool some Some None → (Some → left ≡ [] → ⊥) → (None → left ≡ []) → IsTrue (not some) ↔ (value ≡ all)
    at_end value Some None true shown has if_some if_none = (
      λ t. absurd (true≢false (sym t)),
      λ e. absurd (if_some has (sym (left_is [] (append-nil (map found rows) ∙ shown ∙ e)))),
    )
    at_end value Some None false shown none if_some if_none = (
      λ t. sym shown ∙ sym (append-nil (map found rows)) ∙ ap (λ ys. map found rows ++ ys) (sym (if_none none)) ∙ so_far,
      λ e. refl,
    )

  -- rows that no others can follow to become the lists that are expected
  pub others_at_end : (all value : List Y) → map found rows ≡ value → ((more : List X) → map found (rows ++ more) ≡ all → ⊥) → IsTrue false ↔ (value ≡ all)
  others_at_end all value shown others = (λ t. absurd (true≢false (sym t)), λ e. absurd (others [] (ap (map found) (append-nil rows) ∙ shown ∙ e)))

-- ---- the next list

-- a row more is the list that the first of the postings left make, or another one
pub next_found : (tab : ℤ) (ts : List TermLists) (i n : ℕ) (t : TermLists) (left list : List Posting) (count : ℕ) → HasMore (drop i ts) n → t ≡ get_or ts i t → left ≡ drop n t.postings.items → AreFirstList left count → list ≡ take count left
    → (rows : List Row) (all : List (ListKey × List Spot)) → map (found_places tab) rows ++ left_of tab (drop i ts) n ≡ all → (row : Row) (same : Bool) → IsTrue same ↔ IsList tab row (string_bytes t.term) list
    → MatchBool same (map (found_places tab) (rows ++ row ∷ []) ++ left_of tab (drop i ts) (n + count) ≡ all) ((more : List Row) → map (found_places tab) ((rows ++ row ∷ []) ++ more) ≡ all → ⊥)
next_found tab ts i n t [] list count h is rest first front rows all so_far row same decided =
    let within = inside_postings ts i n t h is in
    absurd (omega (arith, ap length rest, length-drop n t.postings.items))
next_found tab ts i n t (p ∷ ps) list zero h is rest first front rows all so_far row same decided = absurd (omega (arith, first.0))
next_found tab ts i n t (p ∷ ps) list (suc k) h is rest first front rows all so_far row same decided =
    row_found (found_places tab) rows _ all so_far row _ _ same (next_list tab ts i n t p ps (suc k) h is rest first) (subst (λ (l : List Posting). IsTrue same ↔ IsList tab row (string_bytes t.term) l) front decided)
