-- The row changes of documents that are written anew group by group, one group's after the
-- other's.
use Rattle.std.proofs.Common.{◌≡◌, ℕ, true, false, cond, List, [], ◌∷◌, ◌++◌, length, Option, Some, None, ℤ, refl, sym, ap, subst, ◌∙◌, All, Contains, IfSome, IsTrue, flat_map, int_cmp, int_eq, is_lt}
use Rattle.sqlite_trees.proofs.ListLemmas.{all_of}
use Rattle.sqlite_keyed.proofs.ListLemmas.{all_from_test, test_from_all, all_weaker}
use Rattle.ft_documents.proofs.Common.{list_all, AllByRecursion, int_cmp_total, eq_by_cmp_equiv, int_cmp-IsAntisymmetric, find, below_all, is_sorted, and_parts, and_from, map-append, All-nil, All-append, All-map, recursion_from_All, All-from_recursion, Cell, Change, all_applied, Column, Documents, Content, is_document, content_rows, index_rows, table_rows, table_index, IsOfDocids, Rewrite, with_cells, rewritten, rewritten_content, rewritten_docids, under_docids, FitIfAny, AreOf, HasContent, AreRight, rewrite_changes}
use Rattle.ft_documents.proofs.KeyedRows.{below_apart, found_holds, each_found}
use Rattle.ft_documents.proofs.RightLemmas.{applied_append, order_after, are_right}
use Rattle.ft_documents.proofs.RewriteLemmas.{sorted_rewritten, written, find_rewritten}
use Rattle.ft_documents.proofs.NearLemmas.{changes_near, contains_own}

-- ---- two lists, one after the other

all_parts : {X : Type 0} (P : X → Type 0) (xs ys : List X) → AllByRecursion P (xs ++ ys) → AllByRecursion P xs × AllByRecursion P ys
all_parts P [] ys all = (tt, all)
all_parts P (x ∷ xs) ys all = let rest = all_parts P xs ys all.1 in ((all.0, rest.0), rest.1)

below_parts : (docid : ℤ) (xs ys : List (ℤ × Rewrite)) → below_all int_cmp docid (xs ++ ys) ≡ true → (below_all int_cmp docid xs ≡ true) × (below_all int_cmp docid ys ≡ true)
below_parts docid [] ys h = (refl, h)
below_parts docid (x ∷ xs) ys h =
    let parts = and_parts (is_lt (int_cmp docid x.0)) (below_all int_cmp docid (xs ++ ys)) h in
    let rest = below_parts docid xs ys parts.1 in
    (and_from (is_lt (int_cmp docid x.0)) (below_all int_cmp docid xs) parts.0 rest.0, rest.1)

sorted_parts : (xs ys : List (ℤ × Rewrite)) → is_sorted int_cmp (xs ++ ys) ≡ true → (is_sorted int_cmp xs ≡ true) × (is_sorted int_cmp ys ≡ true)
sorted_parts [] ys h = (refl, h)
sorted_parts (x ∷ xs) ys h =
    let parts = and_parts (below_all int_cmp x.0 (xs ++ ys)) (is_sorted int_cmp (xs ++ ys)) h in
    let rest = sorted_parts xs ys parts.1 in
    (and_from (below_all int_cmp x.0 xs) (is_sorted int_cmp xs) (below_parts x.0 xs ys parts.0).0 rest.0, rest.1)

-- the documents of those after aren't among the first
nor_this : (x : ℤ × Rewrite) (xs : List (ℤ × Rewrite)) (rs : List Rewrite) → below_all int_cmp x.0 (under_docids rs) ≡ true → AllByRecursion (λ (r : Rewrite). find int_cmp r.docid xs ≡ None) rs → AllByRecursion (λ (r : Rewrite). find int_cmp r.docid (x ∷ xs) ≡ None) rs
nor_this x xs [] below none = tt
nor_this x xs (r ∷ rs) below none =
    let parts = and_parts (is_lt (int_cmp x.0 r.docid)) (below_all int_cmp x.0 (under_docids rs)) below in
    let other : int_eq r.docid x.0 ≡ false = (eq_by_cmp_equiv int_cmp_total).symm r.docid x.0 ∙ below_apart _ parts.0 in
    (ap (λ b. cond b (Some x.1) (find int_cmp r.docid xs)) other ∙ none.0, nor_this x xs rs parts.1 none.1)

not_among : (xs : List (ℤ × Rewrite)) (rs : List Rewrite) → is_sorted int_cmp (xs ++ under_docids rs) ≡ true → AllByRecursion (λ (r : Rewrite). find int_cmp r.docid xs ≡ None) rs
not_among [] rs h = all_of (λ (r : Rewrite). find int_cmp r.docid (under_docids []) ≡ None) (λ _. refl) rs
not_among (x ∷ xs) rs h =
    let parts = and_parts (below_all int_cmp x.0 (xs ++ under_docids rs)) (is_sorted int_cmp (xs ++ under_docids rs)) h in
    nor_this x xs rs (below_parts x.0 xs (under_docids rs) parts.0).1 (not_among xs rs parts.1)

-- ---- documents stay documents of their table

module _ (width : ℕ) (rewrites : List Rewrite) (documents : Documents) (rising : is_sorted int_cmp (under_docids rewrites) ≡ true) (fit : All (FitIfAny width) rewrites) (fits : list_all (is_document width) documents ≡ true) where
  abbrev IsFit : ℤ × List Cell → Type 0
  IsFit d = is_document width d ≡ true

  abbrev Fits : ℤ × Rewrite → Type 0
  Fits e = IfSome e.1.after (λ cells. IsTrue (is_document width (e.0, cells)))

  found_fit : (docid : ℤ) (cells : List Cell) (r : Option Rewrite) → find int_cmp docid (under_docids rewrites) ≡ r → written r (find int_cmp docid documents) ≡ Some cells → IsFit (docid, cells)
  found_fit docid cells None is found = found_holds int_cmp int_cmp_total int_cmp-IsAntisymmetric IsFit docid cells documents (All-from_recursion IsFit documents (all_from_test (is_document width) documents fits)) found
  found_fit docid cells (Some r) is found = subst (λ o. IfSome o (λ cells. IsTrue (is_document width (docid, cells)))) found (found_holds int_cmp int_cmp_total int_cmp-IsAntisymmetric Fits docid r (under_docids rewrites) (All-map Fits (λ (r : Rewrite). (r.docid, r)) rewrites fit) is)

  fit_rewritten : is_sorted int_cmp documents ≡ true → list_all (is_document width) (rewritten rewrites documents) ≡ true
  fit_rewritten sorted =
      let all = rewritten rewrites documents in
      test_from_all (is_document width) all
      (all_weaker (λ d. find int_cmp d.0 all ≡ Some d.1) IsFit (λ d found. found_fit d.0 d.1 (find int_cmp d.0 (under_docids rewrites)) refl (sym (find_rewritten d.0 rewrites documents rising) ∙ found)) all
      (each_found int_cmp int_cmp_total int_cmp-IsAntisymmetric all (sorted_rewritten rewrites documents sorted)))

-- ---- what is known of documents after the first

known_still : (first rest : List Rewrite) (documents : Documents) → is_sorted int_cmp (under_docids first) ≡ true → AllByRecursion (λ (r : Rewrite). find int_cmp r.docid (under_docids first) ≡ None) rest → AllByRecursion (λ (r : Rewrite). r.before ≡ find int_cmp r.docid documents) rest
    → AllByRecursion (λ (r : Rewrite). r.before ≡ find int_cmp r.docid (rewritten first documents)) rest
known_still first [] documents sorted none known = tt
known_still first (r ∷ rs) documents sorted none known = (
  known.0 ∙ sym (find_rewritten r.docid first documents sorted ∙ ap (λ o. written o (find int_cmp r.docid documents)) none.0),
  known_still first rs documents sorted none.1 known.1,
)

rewritten_both : (first rest : List Rewrite) (documents : Documents) → rewritten (first ++ rest) documents ≡ rewritten rest (rewritten first documents)
rewritten_both [] rest documents = refl
rewritten_both (r ∷ rs) rest documents = rewritten_both rs rest (with_cells r.docid r.after documents)

module _ (first rest : List Rewrite) (content : Content) (are : AreOf content (first ++ rest)) where
  rising : is_sorted int_cmp (under_docids first ++ under_docids rest) ≡ true
  rising = subst (λ l. is_sorted int_cmp l ≡ true) (map-append (λ (r : Rewrite). (r.docid, r)) first rest) are.rising

  abbrev known : Rewrite → Type 0
  known r = r.before ≡ find int_cmp r.docid content.documents

  all_known : AllByRecursion known (first ++ rest)
  all_known = recursion_from_All known (first ++ rest) are.befores

  abbrev width : ℕ
  width = length content.columns

  all_fit : AllByRecursion (FitIfAny width) (first ++ rest)
  all_fit = recursion_from_All (FitIfAny width) (first ++ rest) are.afters

  first_of : AreOf content first
  first_of = record {
    rising = (sorted_parts (under_docids first) (under_docids rest) rising).0;
    befores = All-from_recursion known first (all_parts known first rest all_known).0;
    afters = All-from_recursion (FitIfAny width) first (all_parts (FitIfAny width) first rest all_fit).0;
  }

  rest_of : AreOf (rewritten_content first content) rest
  rest_of = record {
    rising = (sorted_parts (under_docids first) (under_docids rest) rising).1;
    befores = All-from_recursion (λ (r : Rewrite). r.before ≡ find int_cmp r.docid (rewritten first content.documents)) rest
        (known_still first rest content.documents first_of.rising (not_among (under_docids first) rest rising) (all_parts known first rest all_known).1);
    afters = All-from_recursion (FitIfAny width) rest (all_parts (FitIfAny width) first rest all_fit).1;
  }

-- ---- groups

-- the changes of a group, and right ones of those after it
then_right : (tab : ℤ) (columns : List Column) (first rest : List Rewrite) (changes : List Change) → AreRight tab columns rest changes → AreRight tab columns (first ++ rest) (rewrite_changes tab columns first ++ changes)
then_right tab columns first rest changes right name content store has same are =
    let of_first = first_of first rest content are in
    let done = are_right tab columns first name content store has same of_first in
    let mid = all_applied (rewrite_changes tab columns first) store in
    let has_mid : HasContent name (rewritten_content first content) tab mid = record {
      order = order_after tab columns first store has.order;
      is_content = record {
        columns = has.is_content.columns;
        documents = fit_rewritten (length content.columns) first content.documents of_first.rising of_first.afters has.is_content.documents has.is_content.rising;
        rising = sorted_rewritten first content.documents has.is_content.rising;
      };
      rows = done.0;
      index = done.1;
    } in
    let last = right name (rewritten_content first content) mid has_mid same (rest_of first rest content are) in
    let both = applied_append (rewrite_changes tab columns first) changes store in
    let made : rewritten_content rest (rewritten_content first content) ≡ rewritten_content (first ++ rest) content = λ i. record content { documents = sym (rewritten_both first rest content.documents) i } in
    (ap (table_rows tab) both ∙ last.0 ∙ ap content_rows made, ap (table_index tab) both ∙ last.1 ∙ ap index_rows made)

pub groups_right : (tab : ℤ) (columns : List Column) (groups : List (List Rewrite)) → AreRight tab columns (flat_map (λ group. group) groups) (flat_map (rewrite_changes tab columns) groups)
groups_right tab columns [] = λ name content store has same are. (has.rows, has.index)
groups_right tab columns (group ∷ groups) = then_right tab columns group (flat_map (λ g. g) groups) (flat_map (rewrite_changes tab columns) groups) (groups_right tab columns groups)

-- and each is of one of the documents
each_near : (tab : ℤ) (columns : List Column) (docids : List ℤ) (groups : List (List Rewrite)) → AllByRecursion (λ (r : Rewrite). Contains docids r.docid) (flat_map (λ group. group) groups) → All (IsOfDocids tab docids) (flat_map (rewrite_changes tab columns) groups)
each_near tab columns docids [] own = All-nil (IsOfDocids tab docids)
each_near tab columns docids (group ∷ groups) own =
    let D : Rewrite → Type 0 = λ r. Contains docids r.docid in
    All-append (IsOfDocids tab docids) (rewrite_changes tab columns group) (flat_map (rewrite_changes tab columns) groups)
    (changes_near tab docids columns group (All-from_recursion D group (all_parts D group (flat_map (λ g. g) groups) own).0))
    (each_near tab columns docids groups (all_parts D group (flat_map (λ g. g) groups) own).1)

pub groups_near : (tab : ℤ) (columns : List Column) (groups : List (List Rewrite)) → All (IsOfDocids tab (rewritten_docids (flat_map (λ group. group) groups))) (flat_map (rewrite_changes tab columns) groups)
groups_near tab columns groups =
    let rewrites = flat_map (λ (group : List Rewrite). group) groups in
    each_near tab columns (rewritten_docids rewrites) groups (recursion_from_All (λ (r : Rewrite). Contains (rewritten_docids rewrites) r.docid) rewrites (contains_own rewrites))
