-- the names so far
use Rattle.std.proofs.Common.{◌≡◌, map, string_bytes}
use Rattle.ft_statements.proofs.Common.{info_names, texts_of, listed}
use Rattle.ft_statements.proofs.tables.all_names.Given as goal

abbrev pub invariant-loop-name : goal.invariant-loop-name
invariant-loop-name l = texts_of l.names ≡ listed (info_names l.tables) (map string_bytes l.yielded)
