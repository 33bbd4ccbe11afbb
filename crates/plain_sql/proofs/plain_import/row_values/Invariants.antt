-- the values so far
use Rattle.std.proofs.Common.{◌≡◌, map, option_map}
use Rattle.sqlite.specs.Values.{bound}
use Rattle.plain_sql.specs.PlainImports as forms
use Rattle.plain_sql.proofs.plain_import.row_values.Given as goal

abbrev pub invariant-loop-field : goal.invariant-loop-field
invariant-loop-field l = bound l.row.items ≡ map forms.field_value (map (option_map (λ text. text.now)) l.yielded)
