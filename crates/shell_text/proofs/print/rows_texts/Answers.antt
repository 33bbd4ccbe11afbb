use Rattle.std.proofs.Common.{sym, ap, ◌∙◌, ◌++◌, ◌∷◌, [], map, take, Vec, Global, List, ℕ}
use Rattle.std.proofs.lemmas.List.{take_more, map-append}
use Rattle.shell_text.specs.Print.{bytes_of, printed_cell, value_of_cell}
use Rattle.shell_text.specs.declared.print.Cell.{Cell}
use Rattle.shell_text.proofs.print.rows_texts.Goals as goal

pub loop-row-preserved : goal.loop-row-preserved
loop-row-preserved c =
    let i = c.loop-row.row-index in
    let rows = c.args.rows.now in
    let item = c.row-item.result in
    let texts : Vec Cell Global → List (List ℕ) = λ row. map (λ cell. printed_cell c.args.settings.now (value_of_cell cell)) row.items in
    ap (map bytes_of) c.in_ok-push.ensures.items ∙ map-append bytes_of c.loop-row.texts.items (c.in_ok-row_texts.field-0 ∷ [])
    ∙ ap (λ t. t ++ bytes_of c.in_ok-row_texts.field-0 ∷ []) c.loop-row.invariant
    ∙ ap (λ t. map texts (take i rows) ++ t ∷ []) (c.in_ok-row_texts.ensures ∙ ap (map (λ cell. printed_cell c.args.settings.now (value_of_cell cell))) c.as_slice.ensures.value)
    ∙ sym (map-append texts (take i rows) (item ∷ [])) ∙ ap (map texts) (ap (λ x. take i rows ++ x ∷ []) c.row-item.is ∙ sym (take_more rows i item c.loop-row-test.true))
