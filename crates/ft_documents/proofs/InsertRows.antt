-- Rows of an Insert one after another, and the rewrites that they make.
use Rattle.std.proofs.Common.{◌≡◌, ◌^◌, ◌-◌, Bool, true, false, cond, ◌||◌, List, [], ◌∷◌, map, Option, Some, None, Result, Ok, Err, ℤ, pos, refl, sym, ap, ◌∙◌, arith, inl, inr, ◌+ℤ◌, unwrap_or, is_some, IfSome, ◌⊎◌, Vec, Global, Less, Equal, Greater, int_cmp, int_eq, is_eq, is_lt, ℕ, zero, suc, ◌&&◌, zip, subst, slice_get, option_map}
use Rattle.std.proofs.Math.Bool.{or-false, or-true}
use Rattle.ft_content.specs.Step.{inserted_rows}
use Rattle.ft_documents.proofs.Common.{eq_by_cmp, int_cmp_total, int_cmp_is, eq_by_cmp_equiv, by_order, put, find, below_all, is_sorted, find-put, is_sorted-put, same_entries, and_parts, Decides-int_eq, ints, exact_signed, AllByRecursion, slice_get-map, same_Some, Value, Cell, Fault, Documents, Column, next_docid, has_docid, insert_row, append_document, then_rows, docids_named, new_cells, cells_of, shown_new, shown_documents, with_new, new_rewrite, AreBeside, all_put, NewDocuments, Rewrite, under_docids, rewritten, has_given, AreKnown, IsNewIn, AreInserts}
use Rattle.ft_documents.proofs.FoundLemmas.{not_some}
use Rattle.ft_documents.proofs.KeyedRows.{itself, true_of, of_true, sorted_put, or_else, find_all_put, less}
use Rattle.ft_values.specs.declared.fault.Fault.TheVariants as faults

-- ---- a document that is put among the new ones

pub put_shown : (docid : ℤ) (cells : Vec Value Global) (es : List (ℤ × Vec Value Global)) → map shown_new (put int_cmp docid cells es) ≡ put int_cmp docid (cells_of cells) (map shown_new es)
put_shown docid cells [] = refl
put_shown docid cells (e ∷ es) =
    elim (int_cmp docid e.0) as (λ o. map shown_new (by_order o ((docid, cells) ∷ e ∷ es) ((e.0, cells) ∷ es) (e ∷ put int_cmp docid cells es))
    ≡ by_order o ((docid, cells_of cells) ∷ shown_new e ∷ map shown_new es) ((e.0, cells_of cells) ∷ map shown_new es) (shown_new e ∷ put int_cmp docid (cells_of cells) (map shown_new es))) [
      | Less ↦ refl
      | Equal ↦ refl
      | Greater ↦ ap (λ l. shown_new e ∷ l) (put_shown docid cells es)
    ]

pub all_put_more : (docid : ℤ) (cells : List Cell) (new documents : Documents) → is_sorted int_cmp new ≡ true → is_sorted int_cmp documents ≡ true → all_put int_cmp (put int_cmp docid cells new) documents ≡ put int_cmp docid cells (all_put int_cmp new documents)
all_put_more docid cells new documents rising sorted =
    let more : is_sorted int_cmp (put int_cmp docid cells new) ≡ true = true_of _ (is_sorted-put int_cmp int_cmp_total docid cells new (of_true _ rising)) in
    let all : is_sorted int_cmp (all_put int_cmp new documents) ≡ true = sorted_put int_cmp int_cmp_total exact_signed new documents sorted in
    same_entries int_cmp int_cmp_total exact_signed (all_put int_cmp (put int_cmp docid cells new) documents) (put int_cmp docid cells (all_put int_cmp new documents))
    (of_true _ (sorted_put int_cmp int_cmp_total exact_signed (put int_cmp docid cells new) documents sorted))
    (is_sorted-put int_cmp int_cmp_total docid cells (all_put int_cmp new documents) (of_true _ all))
    (λ q.
    find_all_put int_cmp int_cmp_total exact_signed q (put int_cmp docid cells new) documents more
    ∙ ap (λ o. or_else int_cmp int_cmp_total exact_signed o (find int_cmp q documents)) (find-put int_cmp int_cmp_total q docid cells new)
    ∙ elim (eq_by_cmp int_cmp q docid) as (λ b. or_else int_cmp int_cmp_total exact_signed (cond b (Some cells) (find int_cmp q new)) (find int_cmp q documents) ≡ cond b (Some cells) (or_else int_cmp int_cmp_total exact_signed (find int_cmp q new) (find int_cmp q documents))) [ true ↦ refl | false ↦ refl ]
    ∙ sym (find-put int_cmp int_cmp_total q docid cells (all_put int_cmp new documents) ∙ ap (cond (eq_by_cmp int_cmp q docid) (Some cells)) (find_all_put int_cmp int_cmp_total exact_signed q new documents rising)))

-- a docid that neither the table nor the new documents have
pub not_stored : (docid : ℤ) (new documents : Documents) → is_sorted int_cmp new ≡ true → find int_cmp docid (all_put int_cmp new documents) ≡ None → find int_cmp docid documents ≡ None
not_stored docid new documents rising none = go (find int_cmp docid new) (sym (find_all_put int_cmp int_cmp_total exact_signed docid new documents rising) ∙ none)
  where
    go : (o : Option (List Cell)) → or_else int_cmp int_cmp_total exact_signed o (find int_cmp docid documents) ≡ None → find int_cmp docid documents ≡ None
    go None h = h
    go (Some v) h = absurd (let no = h in cc)

pub has_all : (docid : ℤ) (new documents : Documents) → is_sorted int_cmp new ≡ true → has_docid (all_put int_cmp new documents) docid ≡ (has_docid documents docid || is_some (find int_cmp docid new))
has_all docid new documents rising =
    ap is_some (find_all_put int_cmp int_cmp_total exact_signed docid new documents rising)
    ∙ elim (find int_cmp docid new) as (λ o. is_some (or_else int_cmp int_cmp_total exact_signed o (find int_cmp docid documents)) ≡ (is_some (find int_cmp docid documents) || is_some o)) [
      | None ↦ sym (or-false (is_some (find int_cmp docid documents)))
      | Some v ↦ sym (or-true (is_some (find int_cmp docid documents)))
    ]

-- ---- the docid of a row is new

next_of_one : (n k : ℤ) → cond (int_eq n (pos (2 ^ 63 - 1))) None (Some (n +ℤ pos 1)) ≡ Some k → int_cmp n k ≡ Less
next_of_one n k = elim (int_eq n (pos (2 ^ 63 - 1))) as (λ b. cond b None (Some (n +ℤ pos 1)) ≡ Some k → int_cmp n k ≡ Less) [
  | true ↦ λ h. absurd (let no = h in cc)
  | false ↦ λ h. (let same : n +ℤ pos 1 ≡ k = ap (λ o. unwrap_or o k) h in ap (int_cmp n) (sym same) ∙ sym (int_cmp_is n (n +ℤ pos 1) Less (omega (arith, ints))))
]

next_behind : (k : ℤ) (d : ℤ × List Cell) (ds : Documents) → is_sorted int_cmp (d ∷ ds) ≡ true → next_docid (d ∷ ds) ≡ Some k → int_cmp d.0 k ≡ Less
next_behind k d [] sorted next = next_of_one d.0 k next
next_behind k d (e ∷ es) sorted next =
    let parts = and_parts (below_all int_cmp d.0 (e ∷ es)) (is_sorted int_cmp (e ∷ es)) sorted in
    int_cmp_total.trans d.0 e.0 k (less (int_cmp d.0 e.0) (and_parts (is_lt (int_cmp d.0 e.0)) (below_all int_cmp d.0 es) parts.0).0) (next_behind k e es parts.1 next)

not_here : (k n : ℤ) → int_cmp n k ≡ Less → eq_by_cmp int_cmp k n ≡ false
not_here k n is = (eq_by_cmp_equiv int_cmp_total).symm k n ∙ ap is_eq is

next_is_new : (k : ℤ) (documents : Documents) → is_sorted int_cmp documents ≡ true → next_docid documents ≡ Some k → find int_cmp k documents ≡ None
next_is_new k [] sorted next = refl
next_is_new k (d ∷ []) sorted next = ap (λ b. cond b (Some d.1) None) (not_here k d.0 (next_behind k d [] sorted next))
next_is_new k (d ∷ e ∷ es) sorted next =
    let parts = and_parts (below_all int_cmp d.0 (e ∷ es)) (is_sorted int_cmp (e ∷ es)) sorted in
    ap (λ b. cond b (Some d.1) (find int_cmp k (e ∷ es))) (not_here k d.0 (next_behind k d (e ∷ es) sorted next)) ∙ next_is_new k (e ∷ es) parts.1 next

-- where one is put under two docids alike, and the first was new, so was the other
same_docid : (a b : ℤ) (cells : List Cell) (documents : Documents) → find int_cmp a documents ≡ None → put int_cmp a cells documents ≡ put int_cmp b cells documents → find int_cmp b documents ≡ None
same_docid a b cells documents none same = go (eq_by_cmp int_cmp a b) refl
    (sym (find-put int_cmp int_cmp_total a b cells documents) ∙ ap (find int_cmp a) (sym same) ∙ find-put int_cmp int_cmp_total a a cells documents)
  where
    go : (t : Bool) → eq_by_cmp int_cmp a b ≡ t → cond (eq_by_cmp int_cmp a b) (Some cells) (find int_cmp a documents) ≡ cond (eq_by_cmp int_cmp a a) (Some cells) (find int_cmp a documents) → find int_cmp b documents ≡ None
    go true e found = ap (λ k. find int_cmp k documents) (sym ((Decides-int_eq a b).0 e)) ∙ none
    go false e found = absurd (let no : None ≡ Some cells = sym (ap (λ t. cond t (Some cells) (find int_cmp a documents)) e ∙ none) ∙ found ∙ ap (λ t. cond t (Some cells) (find int_cmp a documents)) (itself a) in cc)

put_in : Result Documents Fault → Documents → Documents
put_in (Ok documents) other = documents
put_in (Err fault) other = other

-- the docid that a row is put under is new
pub row_is_new : (documents : Documents) (docids : List ℤ) (cells : List Cell) (docid : ℤ) → is_sorted int_cmp documents ≡ true → insert_row documents docids cells ≡ Ok (put int_cmp docid cells documents) → find int_cmp docid documents ≡ None
unfolding put_in
row_is_new documents [] cells docid sorted is = go (next_docid documents) refl is
  where
    go : (next : Option ℤ) → next_docid documents ≡ next → append_document documents next cells ≡ Ok (put int_cmp docid cells documents) → find int_cmp docid documents ≡ None
    go None e h = absurd (let no = h in cc)
    go (Some k) e h = same_docid k docid cells documents (next_is_new k documents sorted e) (ap (λ r. put_in r []) h)
row_is_new documents (given ∷ docids) cells docid sorted is = go (has_docid documents given) refl is
  where
    go : (taken : Bool) → has_docid documents given ≡ taken → cond taken (Err (faults.DocidTaken given)) (Ok (put int_cmp given cells documents)) ≡ Ok (put int_cmp docid cells documents) → find int_cmp docid documents ≡ None
    go true e h = absurd (let no = h in cc)
    go false e h = same_docid given docid cells documents (not_some (find int_cmp given documents) e) (ap (λ r. put_in r []) h)

-- whether a docid that is given is taken, in the store or by a new document
pub taken_is : (given : Option ℤ) (new documents : Documents) (stored taken : Bool) → is_sorted int_cmp new ≡ true → IfSome given (λ docid. has_docid documents docid ≡ stored) →
    ((stored ≡ true) × (taken ≡ true)) ⊎ ((stored ≡ false) × IfSome given (λ docid. taken ≡ is_some (find int_cmp docid new))) → IfSome given (λ docid. has_docid (all_put int_cmp new documents) docid ≡ taken)
taken_is None new documents stored taken rising there by = tt
taken_is (Some docid) new documents stored taken rising there (inl both) = has_all docid new documents rising ∙ ap (λ b. b || is_some (find int_cmp docid new)) (there ∙ both.0) ∙ sym both.1
taken_is (Some docid) new documents stored taken rising there (inr none) = has_all docid new documents rising ∙ ap (λ b. b || is_some (find int_cmp docid new)) (there ∙ none.0) ∙ sym none.1

-- ---- rows of an Insert one after another, and the rewrites that they make

pub rows_step : (columns : List Column) (values : List (List ℕ × Cell)) (rows : List (List (List ℕ × Cell))) (documents after : Documents) → insert_row documents (docids_named values) (new_cells values columns) ≡ Ok after →
    inserted_rows columns (values ∷ rows) documents ≡ inserted_rows columns rows after
unfolding inserted_rows
rows_step columns values rows documents after is = ap (λ r. then_rows r (inserted_rows columns rows)) is

pub rows_fail : (columns : List Column) (values : List (List ℕ × Cell)) (rows : List (List (List ℕ × Cell))) (documents : Documents) (fault : Fault) → insert_row documents (docids_named values) (new_cells values columns) ≡ Err fault →
    inserted_rows columns (values ∷ rows) documents ≡ Err fault
unfolding inserted_rows
rows_fail columns values rows documents fault is = ap (λ r. then_rows r (inserted_rows columns rows)) is

pub rows_none : (columns : List Column) (documents : Documents) → inserted_rows columns [] documents ≡ Ok documents
unfolding inserted_rows
rows_none columns documents = refl

pub row_at : {X : Type 0} (names : List (List ℕ)) (f : X → List Cell) (rows : List X) (k : ℕ) (row : X) → slice_get rows k ≡ Some row → slice_get (map (zip names) (map f rows)) k ≡ Some (zip names (f row))
row_at names f rows k row is = slice_get-map (zip names) (map f rows) k ∙ ap (option_map (zip names)) (slice_get-map f rows k ∙ ap (option_map f) is)

-- ---- what is known of docids that are given

given_is : (documents : Documents) (given : Option ℤ) → IfSome given (λ docid. has_docid documents docid ≡ has_given documents given)
given_is documents None = tt
given_is documents (Some docid) = refl

pub known_from : {X : Type 0} (documents : Documents) (names : List (List ℕ)) (f : X → List Cell) (rows : List X) → AreKnown documents (map (zip names) (map f rows)) (map (λ row. has_given documents (slice_get (docids_named (zip names (f row))) 0)) rows)
known_from documents names f [] k values is = absurd (let no = is in cc)
known_from documents names f (row ∷ rows) zero values is =
    let test = has_given documents (slice_get (docids_named (zip names (f row))) 0) in
    subst (λ (vs : List (List ℕ × Cell)). IfSome (slice_get (docids_named vs) 0) (λ docid. has_docid documents docid ≡ test)) (same_Some (zip names (f row)) values is) (given_is documents (slice_get (docids_named (zip names (f row))) 0))
known_from documents names f (row ∷ rows) (suc k) values is = known_from documents names f rows k values is

-- ---- the rewrites of new documents

pub rewritten_new : (new documents : Documents) → rewritten (map new_rewrite new) documents ≡ all_put int_cmp new documents
rewritten_new [] documents = refl
rewritten_new (d ∷ ds) documents = rewritten_new ds (put int_cmp d.0 d.1 documents)

below_new : (x : ℤ) (new : Documents) → below_all int_cmp x (under_docids (map new_rewrite new)) ≡ below_all int_cmp x new
below_new x [] = refl
below_new x (d ∷ ds) = ap (λ b. is_lt (int_cmp x d.0) && b) (below_new x ds)

pub sorted_new : (new : Documents) → is_sorted int_cmp (under_docids (map new_rewrite new)) ≡ is_sorted int_cmp new
sorted_new [] = refl
sorted_new (d ∷ ds) = λ i. below_new d.0 ds i && sorted_new ds i

befores_new : (documents new : Documents) → AllByRecursion (λ (d : ℤ × List Cell). find int_cmp d.0 documents ≡ None) new → AllByRecursion (λ (r : Rewrite). r.before ≡ find int_cmp r.docid documents) (map new_rewrite new)
befores_new documents [] h = tt
befores_new documents (d ∷ ds) h = (sym h.0, befores_new documents ds h.1)

news_new : (documents new : Documents) → AllByRecursion (λ (d : ℤ × List Cell). find int_cmp d.0 documents ≡ None) new → AllByRecursion (IsNewIn documents) (map new_rewrite new)
news_new documents [] h = tt
news_new documents (d ∷ ds) h = ((h.0, (d.1, refl)), news_new documents ds h.1)

pub new_are_inserts : (documents : Documents) (new : NewDocuments) (rewrites : List Rewrite) (inserted : Result Documents Fault) → rewrites ≡ map new_rewrite (shown_documents new) → AreBeside documents new → inserted ≡ Ok (with_new new documents) → AreInserts documents rewrites inserted
new_are_inserts documents new rewrites inserted are beside made = subst (λ (rs : List Rewrite). AreInserts documents rs inserted) (sym are) (record {
  rising = sorted_new (shown_documents new) ∙ beside.rising;
  befores = befores_new documents (shown_documents new) beside.apart;
  news = news_new documents (shown_documents new) beside.apart;
  made = made ∙ ap Ok (sym (rewritten_new (shown_documents new) documents));
})
