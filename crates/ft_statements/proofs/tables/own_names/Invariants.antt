-- the names so far
use Rattle.std.proofs.Common.{◌≡◌, take}
use Rattle.ft_statements.proofs.Common.{info_names, texts_of}
use Rattle.ft_statements.proofs.tables.own_names.Given as goal

abbrev pub invariant-loop-table : goal.invariant-loop-table
invariant-loop-table l = texts_of l.names ≡ info_names (take l.table-index l.tables)
