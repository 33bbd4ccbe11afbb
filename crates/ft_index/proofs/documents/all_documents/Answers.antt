-- the documents that the rows are of
use Rattle.std.proofs.Common.{rules, ℕ, ap, ◌∙◌, to_z-of_z}
use Rattle.ft_store.specs.Kept.{value_in, more_rows, shows}
use Rattle.ft_documents.proofs.{all_read}
use Rattle.ft_index.proofs.SelectAnswers.{all_rows}
use Rattle.ft_index.proofs.Doing.{store_blamed}
use Rattle.ft_index.proofs.documents.all_documents.Goals as goal

pub returns-clause-told : goal.returns-clause-told
returns-clause-told g c = λ content rows.
    c.in_ok-gathered.ensures
    ∙ all_read c.args.tab (value_in g.S.Store c.args.store.now) rows.name content c.in_ok-cells.field-0.items rows.is_content rows.rows
    ((simp (to_z-of_z, c.ranges.tab) at c.in_ok-cells.ensures.rows) rows.clean)

pub returns-clause-counted : goal.returns-clause-counted
returns-clause-counted g c content rows =
    let read = c.in_ok-cells.field-0 in
    c.in_ok-cells.ensures.read.counted
    ∙ ap (λ (n : ℕ). more_rows n c.args.store.now) (read.ok.0 ∙ all_rows c.args.tab (value_in g.S.Store c.args.store.now) rows.name content read.items rows.is_content rows.rows
    ((simp (to_z-of_z, c.ranges.tab) at c.in_ok-cells.ensures.rows) rows.clean))

pub returns-in_err-cells-clause-refused : goal.returns-in_err-cells-clause-refused
returns-in_err-cells-clause-refused g c = store_blamed (shows g.S.Store c.args.store.now) (shows g.S.Store c.cells.new.self) c.in_err-cells.field-0.0 c.cells.result c.from_residual.result (search rules) (search rules) (search rules) c.cells.ensures.refused
