use Rattle.std.proofs.Common.{take, All}
use Rattle.ft_store.specs.Anew.{IsShortNote}
use Rattle.ft_store.proofs.clear.are_short.Given as goal

abbrev pub invariant-loop-row : goal.invariant-loop-row
invariant-loop-row l = All IsShortNote (take l.row-index l.rows)
