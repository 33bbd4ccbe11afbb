-- The rewrites of an Insert are rewrites of its table's content.
use Rattle.std.proofs.Common.{◌≡◌, ℕ, true, List, [], length, Option, Some, None, ℤ, refl, sym, ap, subst, ◌∙◌, map, IfSome, IsTrue, int_cmp}
use Rattle.sqlite_keyed.proofs.ListLemmas.{all_from_test, all_unmap, all_weaker, all-map}
use Rattle.ft_documents.proofs.Common.{AllByRecursion, list_all, int_cmp_total, find, is_sorted, All-from_recursion, exact_signed, Cell, Documents, Content, IsContent, is_document, Rewrite, AreOf, FitIfAny, under_docids, rewritten, content_with, new_rewrite}
use Rattle.ft_documents.proofs.RewriteLemmas.{written, find_rewritten}
use Rattle.ft_documents.proofs.InsertRows.{rewritten_new, sorted_new}
use Rattle.ft_documents.proofs.KeyedRows.{found_holds, put_in_order}
use Rattle.ft_documents.proofs.KeyedRows as keyed

-- ---- each rewrite is found under its docid

each_found : (rs : List Rewrite) → is_sorted int_cmp (under_docids rs) ≡ true → AllByRecursion (λ (r : Rewrite). find int_cmp r.docid (under_docids rs) ≡ Some r) rs
each_found rs sorted = all_unmap (λ (e : ℤ × Rewrite). find int_cmp e.0 (under_docids rs) ≡ Some e.1) (λ (r : Rewrite). (r.docid, r)) rs (keyed.each_found int_cmp int_cmp_total exact_signed (under_docids rs) sorted)

-- and what it leaves after all of them
pub all_written : (documents : Documents) (rs : List Rewrite) → is_sorted int_cmp (under_docids rs) ≡ true → AllByRecursion (λ (r : Rewrite). find int_cmp r.docid (rewritten rs documents) ≡ r.after) rs
all_written documents rs sorted =
    all_weaker (λ (r : Rewrite). find int_cmp r.docid (under_docids rs) ≡ Some r) (λ (r : Rewrite). find int_cmp r.docid (rewritten rs documents) ≡ r.after)
    (λ r found. find_rewritten r.docid rs documents sorted ∙ ap (λ o. written o (find int_cmp r.docid documents)) found) rs (each_found rs sorted)

-- a document that is found among fit ones is fit
found_fit : (width : ℕ) (documents : Documents) (docid : ℤ) (cells : List Cell) → list_all (is_document width) documents ≡ true → find int_cmp docid documents ≡ Some cells → is_document width (docid, cells) ≡ true
found_fit width documents docid cells fit found =
    let P : ℤ × List Cell → Type 0 = λ d. is_document width d ≡ true in
    found_holds int_cmp int_cmp_total exact_signed P docid cells documents (All-from_recursion P documents (all_from_test (is_document width) documents fit)) found

fit_if_any : (width : ℕ) (documents : Documents) (r : Rewrite) → list_all (is_document width) documents ≡ true → find int_cmp r.docid documents ≡ r.after → FitIfAny width r
fit_if_any width documents r fit found = go r.after found
  where
    go : (after : Option (List Cell)) → find int_cmp r.docid documents ≡ after → IfSome after (λ cells. IsTrue (is_document width (r.docid, cells)))
    go None is = tt
    go (Some cells) is = found_fit width documents r.docid cells fit is

-- Rewrites that know what each document was, and make a content, are rewrites of the content.
pub are_of : (name : List ℕ) (content : Content) (rewrites : List Rewrite) → is_sorted int_cmp (under_docids rewrites) ≡ true → AllByRecursion (λ (r : Rewrite). r.before ≡ find int_cmp r.docid content.documents) rewrites →
    IsContent name (record content { documents = rewritten rewrites content.documents }) → AreOf content rewrites
are_of name content rewrites rising befores is = record {
  rising = rising;
  befores = All-from_recursion (λ (r : Rewrite). r.before ≡ find int_cmp r.docid content.documents) rewrites befores;
  afters = All-from_recursion (FitIfAny (length content.columns)) rewrites
      (all_weaker (λ (r : Rewrite). find int_cmp r.docid (rewritten rewrites content.documents) ≡ r.after) (FitIfAny (length content.columns)) (λ r. fit_if_any (length content.columns) (rewritten rewrites content.documents) r is.documents) rewrites (all_written content.documents rewrites rising));
}

-- the documents of a content are put into its table anew
pub put_anew : (name : List ℕ) (content : Content) → IsContent name content →
    (rewritten (map new_rewrite content.documents) [] ≡ content.documents) × AreOf (content_with content.columns []) (map new_rewrite content.documents)
put_anew name content is =
    let bare = content_with content.columns [] in
    let rewrites = map new_rewrite content.documents in
    let made : rewritten rewrites [] ≡ content.documents = rewritten_new content.documents [] ∙ put_in_order int_cmp int_cmp_total exact_signed content.documents is.rising in (
      made,
      are_of name bare rewrites (sorted_new content.documents ∙ is.rising) (all-map (λ (r : Rewrite). r.before ≡ find int_cmp r.docid bare.documents) new_rewrite (λ d. refl) content.documents)
          (subst (λ ds. IsContent name (record content { documents = ds })) (sym made) is),
    )
