-- the first word and those after it
use Rattle.std.proofs.Common.{◌++◌, map, string_bytes, sym, ap, ◌∙◌}
use Rattle.ft_statements.proofs.Common.{flat_map, take_all}
use Rattle.ft_statements.proofs.CreateLemmas.{spaced, words_first}
use Rattle.ft_statements.proofs.setting.words_text.Goals as goal

pub returns : goal.returns
returns c =
    c.loop-word.invariant
    ∙ (λ i. (c.in_ok-text.ensures.ok ∙ c.as_str.ensures.value ∙ ap string_bytes c.first-item.is) i ++ flat_map spaced (map string_bytes (take_all c.loop-word.word-index _ c.loop-word-test.false i)))
    ∙ sym (words_first c.args.words.now _ c.in-len1-up.len_at_least)
