use Rattle.std.proofs.Common.{◌≡◌, ℕ, false, true, map, string_bytes, sym, ap, subst, ◌∙◌, int_eq}
use Rattle.ft_documents.proofs.Common.{pointwise, length-map, are_columns, column_of, AreDocumentCells, listed_rows, shown_row, numbered_column}
use Rattle.ft_documents.specs.Standing.{numbered_from}
use Rattle.ft_documents.proofs.StandingContent.{content_of, parts_of, compared}
use Rattle.ft_documents.proofs.standing_rows.is_content.Goals.{then-eq, else-eq}
use Rattle.ft_documents.proofs.standing_rows.is_content.Goals as goal

pub returns-then-not-are_numbered : goal.returns-then-not-are_numbered
returns-then-not-are_numbered c = λ are.
    let p = parts_of (string_bytes c.args.table.now.name) (listed_rows c.args.table.now c.args.cells.now) (map column_of c.args.columns.now) are in
    ((λ no. absurd (let h : false ≡ true = no in cc)), (λ h. sym c.if-not-are_numbered.true ∙ c.are_numbered.ensures ∙ ap (λ cs. numbered_from 0 (map numbered_column cs)) c.as_slice.ensures.value ∙ (p h).numbered))

pub returns-then-not-branch : goal.returns-then-not-branch
returns-then-not-branch c = λ are.
    let p = parts_of (string_bytes c.args.table.now.name) (listed_rows c.args.table.now c.args.cells.now) (map column_of c.args.columns.now) are in
    ((λ no. absurd (let h : false ≡ true = no in cc)), (λ h. sym c.if-not-branch.true ∙ c.in_ok-are_columns.ensures ∙ ap (λ n. are_columns n (map column_of c.args.columns.now)) c.as_str.ensures.value ∙ (p h).columns))

pub returns : goal.returns
returns c = λ are.
    let p = parts_of (string_bytes c.args.table.now.name) (listed_rows c.args.table.now c.args.cells.now) (map column_of c.args.columns.now) are in
    let long = length-map c.args.columns.now column_of in
    let same = compared c.args.table.now.skipped.items _ c.eq.result (c.eq.ensures ∙ ap (pointwise int_eq c.args.table.now.skipped.items) c.in_ok-skipped.ensures) in
    let D : ℕ → Type 0 = λ n. AreDocumentCells n (map shown_row c.args.cells.now) in
    elim c.if-eq.branch [
      | then-eq w ↦ (
        (λ t. content_of (string_bytes c.args.table.now.name) (listed_rows c.args.table.now c.args.cells.now) (map column_of c.args.columns.now) are (record {
          numbered = ap (λ cs. numbered_from 0 (map numbered_column cs)) (sym c.as_slice.ensures.value) ∙ sym c.are_numbered.ensures ∙ c.if-not-are_numbered.false;
          columns = ap (λ n. are_columns n (map column_of c.args.columns.now)) (sym c.as_str.ensures.value) ∙ sym c.in_ok-are_columns.ensures ∙ c.if-not-branch.false;
          skipped = same.0 w.if-eq.true;
          documents = subst D (sym long) (w.are_documents.ensures.0 (sym w.result-is ∙ t));
        })),
        (λ h. w.result-is ∙ w.are_documents.ensures.1 (subst D long (p h).documents)),
      )
      | else-eq w ↦ (
        (λ t. absurd (let no : false ≡ true = sym w.if-eq.false ∙ sym w.result-is ∙ t in cc)),
        (λ h. w.result-is ∙ same.1 (p h).skipped),
      )
    ]
