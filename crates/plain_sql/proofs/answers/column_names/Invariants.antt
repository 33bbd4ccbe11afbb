-- the names so far, and those of the other columns
use Rattle.std.proofs.Common.{◌≡◌, ◌+◌, ◌++◌, drop, map, string_bytes}
use Rattle.plain_sql.specs.Answers as forms
use Rattle.plain_sql.proofs.answers.column_names.Given as goal

abbrev pub invariant-loop-at : goal.invariant-loop-at
invariant-loop-at l = map string_bytes l.texts.items ++ forms.column_names (l.at + 1) (drop l.at l.names) ≡ forms.column_names 1 l.names
