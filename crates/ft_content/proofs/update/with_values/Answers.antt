-- every column and cell came
use Rattle.std.proofs.Common.{◌≡◌, map, ap, sym, ◌∙◌, zip, Bor}
use Rattle.ft_content.proofs.Common.{YieldsList-from_slice, YieldsList-from_zip, YieldsList-end, Value, Cell, shown_value, Column, value_under, column_of, set_of}
use Rattle.ft_content.specs.Content.{Column as PlainColumn}
use Rattle.ft_content.proofs.Lists.{map_of_map}
use Rattle.ft_content.proofs.GivenLemmas.{zip_of_maps}
use Rattle.ft_content.proofs.update.with_values.Goals as goal

pub returns : goal.returns
returns c =
    let under : PlainColumn × Cell → Cell = λ (p : PlainColumn × Cell). value_under (map set_of c.args.sets.now) p.0 p.1 in
    let shown : Column × Value → PlainColumn × Cell = λ (p : Column × Value). (column_of p.0, shown_value p.1) in
    let pointed : Bor Column × Bor Value → Column × Value = λ (p : Bor Column × Bor Value). (p.0.now, p.1.now) in
    let came : map pointed c.loop-column.yielded ≡ zip c.args.columns.now c.args.cells.now =
    (YieldsList-end (YieldsList-from_zip (YieldsList-from_slice c.args.columns.now cc) (YieldsList-from_slice c.args.cells.now cc)) c.loop-column.yielded c.loop-column.column-iterator c.loop-column.yielded_by _ c.next.new.self c.in-None.is c.next.ensures.steps).0 in
    c.loop-column.invariant
    ∙ sym (map_of_map (λ (p : Column × Value). under (shown p)) pointed c.loop-column.yielded) ∙ ap (map (λ (p : Column × Value). under (shown p))) came
    ∙ sym (map_of_map under shown (zip c.args.columns.now c.args.cells.now)) ∙ ap (map under) (sym (zip_of_maps column_of shown_value c.args.columns.now c.args.cells.now))
