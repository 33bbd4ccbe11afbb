-- the columns so far
use Rattle.std.proofs.Common.{◌≡◌, ◌++◌, take, map, codes, string_bytes}
use Rattle.plain_sql.proofs.Common.{flat_map, text_column}
use Rattle.plain_sql.proofs.imports.push_columns.Given as goal

abbrev pub invariant-loop-column : goal.invariant-loop-column
invariant-loop-column l = string_bytes l.text ≡ string_bytes l.initial.text ++ flat_map (λ y. codes ", " ++ text_column y) (map string_bytes (take l.column-index l.rest))
