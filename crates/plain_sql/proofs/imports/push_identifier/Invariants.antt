-- the characters so far
use Rattle.std.proofs.Common.{◌≡◌, ◌++◌, string_bytes}
use Rattle.plain_sql.proofs.Common.{flat_map, doubled}
use Rattle.plain_sql.proofs.imports.push_identifier.Given as goal

abbrev pub invariant-loop-c : goal.invariant-loop-c
invariant-loop-c l = string_bytes l.text ≡ string_bytes l.initial.text ++ flat_map doubled l.yielded
