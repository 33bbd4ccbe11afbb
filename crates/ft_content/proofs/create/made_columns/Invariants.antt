-- the columns so far
use Rattle.std.proofs.Common.{◌≡◌, map, string_bytes}
use Rattle.ft_content.proofs.Common.{made_column, option_of, column_of}
use Rattle.ft_content.proofs.create.made_columns.Given as goal

abbrev pub invariant-loop-name : goal.invariant-loop-name
invariant-loop-name l = map column_of l.columns.items ≡ map (made_column (map option_of l.options)) (map string_bytes l.yielded)
