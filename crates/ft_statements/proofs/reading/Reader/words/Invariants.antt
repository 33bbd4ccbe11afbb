-- the words that are left
use Rattle.std.proofs.Common.{◌≡◌, drop, map}
use Rattle.ft_statements.proofs.Common.{read, words, rest_of}
use Rattle.ft_statements.proofs.reading.Reader.words.Given as goal

abbrev pub invariant-loop-word : goal.invariant-loop-word
invariant-loop-word l = read (words (map (λ w. w.now) l.words)) (rest_of l.initial.ahead) ≡ read (words (map (λ w. w.now) (drop l.word-index l.words))) (rest_of l.ahead)
