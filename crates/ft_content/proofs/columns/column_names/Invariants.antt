-- the names so far
use Rattle.std.proofs.Common.{◌≡◌, map, take, string_bytes}
use Rattle.ft_content.proofs.Common.{names_of, column_of}
use Rattle.ft_content.proofs.columns.column_names.Given as goal

abbrev pub invariant-loop-column : goal.invariant-loop-column
invariant-loop-column l = map string_bytes l.names.items ≡ names_of (map column_of (take l.column-index l.columns))
