-- the words, what the command finds in them, and what that means
use Rattle.std.proofs.Common.{◌∙◌, ap, map, string_bytes}
use Rattle.ft_line.proofs.LineLemmas.{reads_line}
use Rattle.ft_line.proofs.line.read_line.Goals as goal

pub returns : goal.returns
returns c = reads_line (map (λ word. word.now) c.args.words.now) (map string_bytes c.as_slice.result.now) c.in_ok-matches.matches c.meaning_of.result
    (ap (map string_bytes) c.as_slice.ensures.value ∙ c.in_ok-words.ensures) c.in_ok-matches.ensures.ok c.meaning_of.ensures
