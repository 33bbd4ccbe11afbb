-- the numbers so far
use Rattle.std.proofs.Common.{◌≡◌, map, take}
use Rattle.ft_documents.proofs.Common.{skipped_from, column_of}
use Rattle.ft_documents.proofs.tables.skipped.Given as goal

abbrev pub invariant-loop-number : goal.invariant-loop-number
invariant-loop-number l = l.numbers.items ≡ skipped_from 0 (map column_of (take l.number l.columns))
