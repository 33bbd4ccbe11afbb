-- the first word and those after it
use Rattle.std.proofs.Common.{◌++◌, sym, ◌∙◌}
use Rattle.ft_statements.proofs.Common.{flat_map, take_all, plain}
use Rattle.ft_statements.proofs.CreateLemmas.{behind_space, joined_first}
use Rattle.ft_statements.proofs.create.joined.Goals as goal

pub returns : goal.returns
returns c =
    c.loop-word.invariant
    ∙ (λ i. c.in_ok-text.ensures i ++ flat_map behind_space (plain (take_all c.loop-word.word-index _ c.loop-word-test.false i)))
    ∙ sym (joined_first c.args.words.now _ c.in-len1-up.len_at_least)
