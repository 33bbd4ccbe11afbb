-- the texts so far
use Rattle.std.proofs.Common.{◌≡◌, ◌++◌, take, string_bytes}
use Rattle.ft_statements.proofs.Common.{flat_map, plain}
use Rattle.ft_statements.proofs.CreateLemmas.{behind_space}
use Rattle.ft_statements.proofs.create.joined.Given as goal

abbrev pub invariant-loop-word : goal.invariant-loop-word
invariant-loop-word l = string_bytes l.text ≡ string_bytes l.initial.text ++ flat_map behind_space (plain (take l.word-index l.rest))
