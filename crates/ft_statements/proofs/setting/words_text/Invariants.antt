-- the words so far
use Rattle.std.proofs.Common.{◌≡◌, ◌++◌, take, map, string_bytes}
use Rattle.ft_statements.proofs.Common.{flat_map}
use Rattle.ft_statements.proofs.CreateLemmas.{spaced}
use Rattle.ft_statements.proofs.setting.words_text.Given as goal

abbrev pub invariant-loop-word : goal.invariant-loop-word
invariant-loop-word l = string_bytes l.text ≡ string_bytes l.initial.text ++ flat_map spaced (map string_bytes (take l.word-index l.rest))
