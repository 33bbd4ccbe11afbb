-- What a plan does to one document's lists makes the lists right.
use Rattle.std.proofs.Common.{◌≡◌, ℕ, true, false, cond, T, List, [], ◌∷◌, Option, Some, None, ℤ, refl, sym, ap, subst, ◌∙◌, append-nil}
use Rattle.ft_content.proofs.Common.{flat_map, int_cmp, int_eq, is_eq, eq_by_cmp_equiv, int_cmp_total, tied_itself, int_cmp-IsAntisymmetric, find, where_key, is_sorted, is_sorted-put, is_sorted-where_key, find-where_key, same_entries, Cell, Documents, Entry, key_cmp, key_of, spots_at, document_entries, content_with, spots_of_key, some_if_any, document_lists}
use Rattle.ft_content.specs.Content.{Column}
use Rattle.ft_content.specs.Index.{spot_lists, entries}
use Rattle.ft_content.proofs.IndexLemmas.{key_cmp_total, lists_are_entries, spots_in-own, own_entries, where_docid, same_docid}

-- lists made from entries are in order
pub sorted_lists : (es : List Entry) → T (is_sorted key_cmp (spot_lists es))
unfolding spot_lists
sorted_lists [] = tt
sorted_lists (e ∷ es) = is_sorted-put key_cmp key_cmp_total (key_of e) (e.spot ∷ spots_at (spot_lists es) (key_of e)) (spot_lists es) (sorted_lists es)

-- a document's own lists, where the docid is its own
own_found : (columns : List Column) (docid : ℤ) (cells : List Cell) (term : List ℕ) → find key_cmp (term, docid) (document_lists columns docid (Some cells)) ≡ some_if_any (spots_of_key (term, docid) (document_entries columns (docid, cells)))
own_found columns docid cells term = lists_are_entries (document_entries columns (docid, cells)) term docid

-- the documents of one docid
abbrev of_docid : ℤ → Option (List Cell) → Documents
of_docid docid None = []
of_docid docid (Some cells) = (docid, cells) ∷ []

sorted_of_docid : (docid : ℤ) (held : Option (List Cell)) → T (is_sorted int_cmp (of_docid docid held))
sorted_of_docid docid None = tt
sorted_of_docid docid (Some cells) = tt

found_itself : (docid : ℤ) (held : Option (List Cell)) → held ≡ find int_cmp docid (of_docid docid held)
found_itself docid None = refl
found_itself docid (Some cells) = ap (λ o. cond (is_eq o) (Some cells) None) (sym (tied_itself int_cmp_total docid))

found_apart : (docid q : ℤ) (held : Option (List Cell)) → int_eq q docid ≡ false → None ≡ find int_cmp q (of_docid docid held)
found_apart docid q None apart = refl
found_apart docid q (Some cells) apart = ap (λ b. cond b (Some cells) None) (sym apart)

found_own : (documents : Documents) (docid : ℤ) → T (is_sorted int_cmp documents) → where_key int_cmp (int_eq docid) documents ≡ of_docid docid (find int_cmp docid documents)
found_own documents docid sorted =
    let held = find int_cmp docid documents in
    same_entries int_cmp int_cmp_total int_cmp-IsAntisymmetric _ _ (is_sorted-where_key int_cmp (int_eq docid) documents sorted) (sorted_of_docid docid held)
    (λ q. find-where_key int_cmp (int_eq docid) q (λ x tie. ap (int_eq docid) (sym (int_cmp-IsAntisymmetric q x tie))) documents
    ∙ elim (int_eq docid q) as (λ b. int_eq docid q ≡ b → cond b (find int_cmp q documents) None ≡ find int_cmp q (of_docid docid held)) [
      | true ↦ λ same. let e = same_docid docid q same in subst (λ (x : ℤ). find int_cmp x documents ≡ find int_cmp x (of_docid docid held)) e (found_itself docid held)
      | false ↦ λ apart. found_apart docid q held ((eq_by_cmp_equiv int_cmp_total).symm q docid ∙ apart)
    ] refl)

-- the lists that a document had
held_entries : (columns : List Column) (docid : ℤ) (held : Option (List Cell)) (term : List ℕ) → some_if_any (spots_of_key (term, docid) (flat_map (document_entries columns) (of_docid docid held))) ≡ find key_cmp (term, docid) (document_lists columns docid held)
held_entries columns docid None term = refl
held_entries columns docid (Some cells) term = ap (λ es. some_if_any (spots_of_key (term, docid) es)) (append-nil (document_entries columns (docid, cells))) ∙ sym (own_found columns docid cells term)

pub old_found : (columns : List Column) (documents : Documents) (docid : ℤ) (term : List ℕ) → T (is_sorted int_cmp documents) → find key_cmp (term, docid) (spot_lists (entries (content_with columns documents))) ≡ find key_cmp (term, docid) (document_lists columns docid (find int_cmp docid documents))
unfolding entries
old_found columns documents docid term sorted =
    let es = flat_map (document_entries columns) documents in
    lists_are_entries es term docid
    ∙ ap some_if_any (spots_in-own term docid es)
    ∙ ap (λ xs. some_if_any (spots_of_key (term, docid) xs)) (where_docid (document_entries columns) (λ (e : Entry). e.docid) (λ p. own_entries p columns) (int_eq docid) documents ∙ ap (flat_map (document_entries columns)) (found_own documents docid sorted))
    ∙ held_entries columns docid (find int_cmp docid documents) term
