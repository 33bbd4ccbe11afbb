-- the marks so far
use Rattle.std.proofs.Common.{◌≡◌, ◌++◌, string_bytes}
use Rattle.plain_sql.proofs.ImportLemmas.{marks}
use Rattle.plain_sql.proofs.imports.push_marks.Given as goal

abbrev pub invariant-loop-place : goal.invariant-loop-place
invariant-loop-place l = string_bytes l.text ≡ string_bytes l.fn.text ++ marks l.place
