-- the docid of the row is new, or refused
use Rattle.std.proofs.Common.{◌≡◌, inl, inr, ℤ, Bool, List, Vec, Global, None, Some, Ok, Err, map, zip, Option, Result, FitsSigned, w64, to_z, of_z, to_z-of_z, sym, ap, subst, ◌∙◌, rules, slice_get, is_some, IfSome, MatchOption, int_cmp, is_eq}
use Rattle.sqlite_keyed.proofs.SliceLemmas.{is_some-map}
use Rattle.ft_documents.proofs.Common.{AllByRecursion, lookup, int_cmp_total, find, put, is_sorted, is_sorted-put, exact_signed, Value, Cell, shown_value, Fault, Documents, cells_of, column_of, placed, last_docid, shown_new, shown_documents, with_new, AreBeside, Places, all_put}
use Rattle.ft_documents.proofs.KeyedRows.{find_looked_up, keys_put, true_of, of_true, find-values, sorted_put}
use Rattle.ft_documents.proofs.IndexOf.{insert_put}
use Rattle.ft_documents.proofs.InsertRows.{taken_is, row_is_new, put_shown, all_put_more, not_stored}
use Rattle.ft_documents.proofs.new_documents.NewDocuments.add.Goals.{then-is_stored, else-is_stored, After-docid_for_row}
use Rattle.ft_content.specs.Step as step
use Rattle.ft_documents.proofs.new_documents.NewDocuments.add.Goals as goal

is_there : (entries : List (ℤ × Vec Value Global)) (docid : ℤ) (b : Bool) → FitsSigned w64 docid → b ≡ is_some (lookup (λ k. is_eq (int_cmp (to_z w64 (of_z w64 docid)) k)) entries) → b ≡ is_some (find int_cmp docid (map shown_new entries))
is_there entries docid b fits is =
    is ∙ ap is_some (sym (find_looked_up int_cmp (to_z w64 (of_z w64 docid)) entries) ∙ ap (λ k. find int_cmp k entries) (to_z-of_z fits))
    ∙ sym (ap is_some (find-values int_cmp cells_of docid entries) ∙ is_some-map cells_of (find int_cmp docid entries))

if_some : {P Q : ℤ → Type 0} (N : Type 0) (o : Option ℤ) → MatchOption o N P → ((x : ℤ) → P x → Q x) → IfSome o Q
if_some N None h f = tt
if_some N (Some x) h f = f x h

module _ (c : After-docid_for_row) (documents : Documents) where
  abbrev docids : List ℤ
  docids = step.docids_named (zip (map (λ n. n.now) c.args.names.now) (map shown_value c.args.row.now))

  abbrev cells : List Cell
  cells = step.new_cells (zip (map (λ n. n.now) c.args.names.now) (map shown_value c.args.row.now)) (map column_of c.args.columns.now)

  row_is : AreBeside documents c.args.self.now → IfSome (slice_get docids 0) (λ docid. step.has_docid documents docid ≡ c.args.is_stored) →
      step.insert_row (with_new c.args.self.now documents) docids cells ≡ placed (with_new c.args.self.now documents) cells c.docid_for_row.result
  row_is beside stored =
      let new = shown_documents c.args.self.now in
      let all = with_new c.args.self.now documents in
      let given : c.row_docid-given.result ≡ slice_get docids 0 = c.row_docid-given.ensures in
      let taken = taken_is (slice_get docids 0) new documents c.args.is_stored c.if-is_stored.is_taken beside.rising stored
      (elim c.if-is_stored.branch [
        | then-is_stored w ↦ inl (w.if-is_stored.true, w.is_taken-is ∙ w.if-is_stored.true)
        | else-is_stored w ↦ inr (
          w.if-is_stored.false,
          subst (λ (o : Option ℤ). IfSome o (λ docid. c.if-is_stored.is_taken ≡ is_some (find int_cmp docid new))) given
              (subst (λ b. IfSome c.row_docid-given.result (λ docid. b ≡ is_some (find int_cmp docid new))) (sym w.is_taken-is) (if_some _ c.row_docid-given.result w.is_some_and-is_taken.ensures (λ x p. let has : w.is_some_and-is_taken.result ≡ is_some (lookup (λ k. is_eq (int_cmp (to_z w64 (of_z w64 x)) k)) c.args.self.now.documents.entries) = search rules in let fits : FitsSigned w64 x = search rules in is_there c.args.self.now.documents.entries x _ fits has))),
        )
      ]) in
      c.docid_for_row.ensures all docids cells beside.last (sym given) (subst (λ (o : Option ℤ). IfSome o (λ docid. step.has_docid all docid ≡ c.if-is_stored.is_taken)) (sym given) taken)

pub returns-in_err-docid : goal.returns-in_err-docid
returns-in_err-docid c documents beside stored =
    let at = (goal.at.returns-in_err-docid c).After-docid_for_row in
    let all = with_new c.args.self.now documents in
    let fault : Fault = c.in_err-docid.field-0.0 in
    let is : c.from_residual.result ≡ Err fault = search rules in
    let refused : c.docid_for_row.result ≡ Err fault = search rules in
    subst (λ (r : Result (Unit {0}) Fault). Places documents (step.insert_row all (docids at documents) (cells at documents)) c.args.self.now r) (sym is) (inr (row_is at documents beside stored ∙ ap (placed all (cells at documents)) refused))

pub returns : goal.returns
returns c documents beside stored =
    let at = (goal.at.returns c).After-docid_for_row in
    let new = shown_documents c.args.self.now in
    let all = with_new c.args.self.now documents in
    let fits : FitsSigned w64 c.in_ok-docid.docid = search rules in
    let docid : ℤ = c.in_ok-docid.docid in
    let passed : to_z w64 (of_z w64 c.in_ok-docid.docid) ≡ c.in_ok-docid.docid = to_z-of_z fits in
    let made : step.insert_row all (docids at documents) (cells at documents) ≡ Ok (put int_cmp docid (cells at documents) all) = row_is at documents beside stored ∙ ap (placed all (cells at documents)) c.in_ok-docid.was in
    let none = row_is_new all (docids at documents) (cells at documents) docid (sorted_put int_cmp int_cmp_total exact_signed new documents beside.sorted) made in
    let held = c.args.self.now.documents.entries in
    let added : List Cell = cells_of c.in_ok-cells.cells in
    let last_fits : FitsSigned w64 c.last_docid_after.result = search rules in
    let grown : map shown_new c.insert.new.self.entries ≡ put int_cmp docid added new =
    ap (map shown_new) (c.in_ok-insert.ensures.entries ∙ insert_put int_cmp (to_z w64 (of_z w64 docid)) c.in_ok-cells.cells held ∙ ap (λ k. put int_cmp k c.in_ok-cells.cells held) passed) ∙ put_shown docid c.in_ok-cells.cells held in
    let with_it : all_put int_cmp (map shown_new c.insert.new.self.entries) documents ≡ put int_cmp docid added all = ap (λ l. all_put int_cmp l documents) grown ∙ all_put_more docid added new documents beside.rising beside.sorted in (
      record {
        sorted = beside.sorted;
        rising = ap (is_sorted int_cmp) grown ∙ true_of _ (is_sorted-put int_cmp int_cmp_total docid added new (of_true _ beside.rising));
        apart = subst (AllByRecursion (λ (d : ℤ × List Cell). find int_cmp d.0 documents ≡ None)) (sym grown) (keys_put int_cmp (λ k. find int_cmp k documents ≡ None) docid added new (not_stored docid new documents beside.rising none) beside.apart);
        last = ap last_docid with_it ∙ ap (λ k. last_docid (put int_cmp k added all)) (sym passed)
            ∙ c.last_docid_after.ensures all added (sorted_put int_cmp int_cmp_total exact_signed new documents beside.sorted) beside.last ∙ ap Some (sym (to_z-of_z last_fits));
      },
      made ∙ ap Ok (ap (λ cells. put int_cmp docid cells all) (sym c.in_ok-cells.ensures) ∙ sym with_it),
    )
