use Rattle.std.proofs.Common.{◌≡◌, map, take, string_bytes}
use Rattle.std.specs.List.{flat_map}
use Rattle.shell_text.specs.Print.{printed_cell, separated, shows_headers, value_of_cell, with_header}
use Rattle.shell_text.proofs.print.separated_lines.Given as goal

abbrev pub invariant-loop-row : goal.invariant-loop-row
invariant-loop-row l = string_bytes l.text ≡ flat_map (separated l.settings.separator)
    (with_header (shows_headers l.settings) (map string_bytes l.names) (map (λ row. map (λ cell. printed_cell l.settings (value_of_cell cell)) row.items) (take l.row-index l.rows)))
