-- the numbers so far
use Rattle.plain_sql.proofs.Common.{state, IfClean, IsOnlyBelow, Stays}
use Rattle.plain_sql.proofs.plain_import.column_count.Given as goal

abbrev pub invariant-loop-count : goal.invariant-loop-count
invariant-loop-count g l = IfClean g.P.Store l.fn.plain l.plain (Stays (state g.P.Store l.fn.plain) (state g.P.Store l.plain) × IsOnlyBelow (state g.P.Store l.fn.plain).now.schema l.table l.count l.found)
