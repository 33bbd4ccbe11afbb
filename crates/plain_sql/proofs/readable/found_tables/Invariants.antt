-- the names so far
use Rattle.std.proofs.Common.{map, take, string_bytes}
use Rattle.plain_sql.proofs.Common.{texts_of, Finds}
use Rattle.plain_sql.proofs.readable.found_tables.Given as goal

abbrev pub invariant-loop-name : goal.invariant-loop-name
invariant-loop-name g l = Finds g.P.Store (map string_bytes (take l.name-index l.names)) l.fn.plain l.plain (texts_of l.found)
