-- the words so far, and those that are left
use Rattle.std.proofs.Common.{◌≡◌, ◌++◌, map, drop, string_bytes}
use Rattle.ft_line.specs.Line.{dashed_words}
use Rattle.ft_line.proofs.LineLemmas.{left}
use Rattle.ft_line.proofs.line.dashed_words.Given as goal

abbrev pub invariant-loop-word : goal.invariant-loop-word
invariant-loop-word l = map string_bytes l.texts.items ++ left l.rewrites (map (λ word. word.now) (drop l.word-index l.words)) ≡ dashed_words (map (λ word. word.now) l.words)
