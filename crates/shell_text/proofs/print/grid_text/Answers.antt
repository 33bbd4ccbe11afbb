use Rattle.std.proofs.Common.{◌≡◌, sym, ap, ◌∙◌, subst, map, length, false, arith, vec_len, string_bytes, Vec, Global}
use Rattle.std.specs.Prelude.{IfOk, ◌==◌}
use Rattle.shell_text.specs.Print.{bytes_of, printed_cell, name_in, value_of_cell}
use Rattle.shell_text.specs.declared.print.Cell.{Cell}
use Rattle.shell_text.proofs.Grids.{printed_grid}
use Rattle.shell_text.proofs.print.grid_text.Goals as goal

pub returns : goal.returns
returns c =
    let grid = c.args.grid.now in
    let settings = c.args.settings.now in
    let some : (length grid.rows.items == 0) ≡ false = let e : length grid.rows.items ≡ vec_len grid.rows = omega (arith, grid.rows.ok.0) in ap (λ n. n == 0) e ∙ sym c.is_empty.ensures ∙ c.if-is_empty.false in
    subst (λ t. IfOk c.layout.result (λ text. text.items ≡ t))
    (printed_grid settings grid (bytes_of c.in_ok-names.names) _ some
    (c.in_ok-names.ensures ∙ ap (λ m. map (λ name. name_in m (string_bytes name)) c.as_slice.result.now) c.mode.ensures ∙ ap (map (λ name. name_in settings.mode (string_bytes name))) c.as_slice.ensures.value)
    (ap (map (λ (row : Vec Cell Global). map (λ cell. printed_cell settings (value_of_cell cell)) row.items)) c.as_slice-2.ensures.value))
    c.layout.ensures
