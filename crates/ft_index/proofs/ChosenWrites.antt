-- Rewrites of the documents that are chosen.
use Rattle.std.proofs.Common.{◌≡◌, ℕ, Bool, true, false, cond, not, List, [], ◌∷◌, ◌++◌, map, filter, Option, Some, None, ℤ, refl, sym, ap, subst, ◌∙◌, Contains, flat_map, Ordering, Less, Greater, int_cmp, is_lt, is_eq}
use Rattle.ft_index.proofs.Common.{eq_by_cmp_equiv, AllByRecursion, ordering_reverse, int_cmp_total, tied_itself, put, find, by_order, below_all}
use Rattle.ft_index.proofs.Common.{is_sorted, and_parts, and_from, recursion_from_All, Cell, Content, Documents, IsContent, Filter, is_chosen, chosen}
use Rattle.ft_index.proofs.Common.{without_docid, docids_of, Rewrite, under_docids, rewritten, document_if, LeadsTo}
use Rattle.std.proofs.lemmas.List.Elements.{All-contains_itself}
use Rattle.ft_documents.specs.Rewrite.{with_cells}
use Rattle.ft_index.proofs.OneTable.{less}
use Rattle.ft_documents.proofs.{all_found, are_of}

-- ---- what rewrites leave alone

-- a rewrite of a later document
later : (d : ℤ × List Cell) (ds : Documents) (docid : ℤ) (after : Option (List Cell)) → is_lt (int_cmp d.0 docid) ≡ true → with_cells docid after (d ∷ ds) ≡ d ∷ with_cells docid after ds
later d ds docid None below = ap (λ b. cond (not b) (d ∷ without_docid docid ds) (without_docid docid ds)) ((eq_by_cmp_equiv int_cmp_total).symm docid d.0 ∙ ap is_eq (less _ below))
later d ds docid (Some cells) below =
    let greater : int_cmp docid d.0 ≡ Greater = int_cmp_total.antisymm docid d.0 ∙ ap ordering_reverse (less _ below) in
    ap (λ o. by_order o ((docid, cells) ∷ d ∷ ds) ((d.0, cells) ∷ ds) (d ∷ put int_cmp docid cells ds)) greater

pub spare_first : (d : ℤ × List Cell) (rs : List Rewrite) (ds : Documents) → below_all int_cmp d.0 (under_docids rs) ≡ true → rewritten rs (d ∷ ds) ≡ d ∷ rewritten rs ds
spare_first d [] ds below = refl
spare_first d (r ∷ rs) ds below =
    let parts = and_parts (is_lt (int_cmp d.0 r.docid)) (below_all int_cmp d.0 (under_docids rs)) below in
    ap (rewritten rs) (later d ds r.docid r.after parts.0) ∙ spare_first d rs (with_cells r.docid r.after ds) parts.1

all_later : (docid : ℤ) (ds : Documents) → below_all int_cmp docid ds ≡ true → without_docid docid ds ≡ ds
all_later docid [] below = refl
all_later docid (d ∷ ds) below =
    let parts = and_parts (is_lt (int_cmp docid d.0)) (below_all int_cmp docid ds) below in
    go (int_cmp docid d.0) (less _ parts.0) (all_later docid ds parts.1)
  where
    go : (o : Ordering) → o ≡ Less → without_docid docid ds ≡ ds → cond (not (is_eq o)) (d ∷ without_docid docid ds) (without_docid docid ds) ≡ d ∷ ds
    go o less rest = ap (λ x. cond (not (is_eq x)) (d ∷ without_docid docid ds) (without_docid docid ds)) less ∙ ap (λ l. d ∷ l) rest

-- ---- rewrites of documents that pass a test

module _ (after : ℤ × List Cell → Option (List Cell)) where
  -- the rewrite of a document, and the documents after those that pass are rewritten
  abbrev pub rewrite_of : ℤ × List Cell → Rewrite
  rewrite_of d = record { docid = d.0; before = Some d.1; after = after d }

  abbrev pub each_rewritten : (ℤ × List Cell → Bool) → Documents → Documents
  each_rewritten p documents = flat_map (λ (d : ℤ × List Cell). cond (p d) (document_if d.0 (after d)) (d ∷ [])) documents

  below_passed : (x : ℤ) (p : ℤ × List Cell → Bool) (ds : Documents) → below_all int_cmp x ds ≡ true → below_all int_cmp x (under_docids (map rewrite_of (filter p ds))) ≡ true
  below_passed x p [] below = refl
  below_passed x p (d ∷ ds) below =
      let parts = and_parts (is_lt (int_cmp x d.0)) (below_all int_cmp x ds) below in
      let rest = below_passed x p ds parts.1 in
      elim (p d) as (λ b. below_all int_cmp x (under_docids (map rewrite_of (cond b (d ∷ filter p ds) (filter p ds)))) ≡ true) [
        | true ↦ and_from (is_lt (int_cmp x d.0)) (below_all int_cmp x (under_docids (map rewrite_of (filter p ds)))) parts.0 rest
        | false ↦ rest
      ]

  pub rise : (p : ℤ × List Cell → Bool) (ds : Documents) → is_sorted int_cmp ds ≡ true → is_sorted int_cmp (under_docids (map rewrite_of (filter p ds))) ≡ true
  rise p [] sorted = refl
  rise p (d ∷ ds) sorted =
      let parts = and_parts (below_all int_cmp d.0 ds) (is_sorted int_cmp ds) sorted in
      let rest = rise p ds parts.1 in
      elim (p d) as (λ b. is_sorted int_cmp (under_docids (map rewrite_of (cond b (d ∷ filter p ds) (filter p ds)))) ≡ true) [
        | true ↦ and_from (below_all int_cmp d.0 (under_docids (map rewrite_of (filter p ds)))) (is_sorted int_cmp (under_docids (map rewrite_of (filter p ds)))) (below_passed d.0 p ds parts.0) rest
        | false ↦ rest
      ]

  pub befores : (look : ℤ → Option (List Cell)) (p : ℤ × List Cell → Bool) (ds : Documents) → AllByRecursion (λ (d : ℤ × List Cell). look d.0 ≡ Some d.1) ds → AllByRecursion (λ (r : Rewrite). r.before ≡ look r.docid) (map rewrite_of (filter p ds))
  befores look p [] found = tt
  befores look p (d ∷ ds) found =
      let rest = befores look p ds found.1 in
      elim (p d) as (λ b. AllByRecursion (λ (r : Rewrite). r.before ≡ look r.docid) (map rewrite_of (cond b (d ∷ filter p ds) (filter p ds)))) [ true ↦ (sym found.0, rest) | false ↦ rest ]

  pub all_rewritten : (p : ℤ × List Cell → Bool) (ds : Documents) → is_sorted int_cmp ds ≡ true → rewritten (map rewrite_of (filter p ds)) ds ≡ each_rewritten p ds
  all_rewritten p [] sorted = refl
  all_rewritten p (d ∷ ds) sorted =
      let parts = and_parts (below_all int_cmp d.0 ds) (is_sorted int_cmp ds) sorted in
      go (p d) (after d) refl parts.0 (all_rewritten p ds parts.1)
    where
      rest : List Rewrite
      rest = map rewrite_of (filter p ds)

      behind : (x : ℤ × List Cell) → x.0 ≡ d.0 → below_all int_cmp d.0 ds ≡ true → below_all int_cmp x.0 (under_docids rest) ≡ true
      behind x same below = ap (λ k. below_all int_cmp k (under_docids rest)) same ∙ below_passed d.0 p ds below

      go : (b : Bool) (a : Option (List Cell)) → after d ≡ a → below_all int_cmp d.0 ds ≡ true → rewritten rest ds ≡ each_rewritten p ds →
          rewritten (map rewrite_of (cond b (d ∷ filter p ds) (filter p ds))) (d ∷ ds) ≡ cond b (document_if d.0 (after d)) (d ∷ []) ++ each_rewritten p ds
      go false a is below more = spare_first d rest ds (behind d refl below) ∙ ap (λ l. d ∷ l) more
      go true None is below more =
          ap (λ o. rewritten rest (with_cells d.0 o (d ∷ ds))) is
          ∙ ap (λ o. rewritten rest (cond (not (is_eq o)) (d ∷ without_docid d.0 ds) (without_docid d.0 ds))) (tied_itself int_cmp_total d.0)
          ∙ ap (rewritten rest) (all_later d.0 ds below) ∙ more ∙ ap (λ o. document_if d.0 o ++ each_rewritten p ds) (sym is)
      go true (Some cells) is below more =
          ap (λ o. rewritten rest (with_cells d.0 o (d ∷ ds))) is
          ∙ ap (λ o. rewritten rest (by_order o ((d.0, cells) ∷ d ∷ ds) ((d.0, cells) ∷ ds) (d ∷ put int_cmp d.0 cells ds))) (tied_itself int_cmp_total d.0)
          ∙ spare_first (d.0, cells) rest ds (behind (d.0, cells) refl below) ∙ ap (λ l. (d.0, cells) ∷ l) more ∙ ap (λ o. document_if d.0 o ++ each_rewritten p ds) (sym is)

  near_of : (touched : List ℤ) (ds : Documents) → AllByRecursion (Contains touched) (docids_of ds) → AllByRecursion (λ (r : Rewrite). Contains touched r.docid) (map rewrite_of ds)
  near_of touched [] h = tt
  near_of touched (d ∷ ds) h = (h.0, near_of touched ds h.1)

  -- So rewrites of chosen documents lead to a content.
  pub chosen_lead : (name : List ℕ) (content : Content) (f : Filter) (documents : Documents) (touched : List ℤ) → IsContent name content → each_rewritten (is_chosen content f) content.documents ≡ documents → IsContent name (record content { documents = documents }) →
      AllByRecursion (Contains touched) (docids_of (chosen content f)) → LeadsTo content documents touched (map rewrite_of (chosen content f))
  unfolding chosen
  chosen_lead name content f documents touched is leads makes near =
      let rs = map rewrite_of (filter (is_chosen content f) content.documents) in
      let made = all_rewritten (is_chosen content f) content.documents is.rising ∙ leads in
      record {
        are_of = are_of name content rs (rise (is_chosen content f) content.documents is.rising) (befores (λ k. find int_cmp k content.documents) (is_chosen content f) content.documents (all_found content.documents is.rising))
            (subst (λ ds. IsContent name (record content { documents = ds })) (sym made) makes);
        made = made;
        near = near_of touched (filter (is_chosen content f) content.documents) near;
      }

-- the docids of documents themselves
pub own_docids : (ds : Documents) → AllByRecursion (Contains (docids_of ds)) (docids_of ds)
own_docids ds = recursion_from_All (Contains (docids_of ds)) (docids_of ds) (All-contains_itself (docids_of ds))
