-- none of the values so far is a float
use Rattle.std.proofs.Common.{◌≡◌, drop}
use Rattle.plain_sql.proofs.Common.{list_any, is_float}
use Rattle.plain_sql.proofs.answers.has_float.Given as goal

abbrev pub invariant-loop-at : goal.invariant-loop-at
invariant-loop-at l = list_any is_float (drop l.at l.row) ≡ list_any is_float l.row
