-- words/without_marks/Answers.antt
-- the characters between the marks
use Rattle.std.proofs.Common.{◌≡◌, ap, ◌∙◌, sym, subst, false, length, string_bytes, IfOk, chars, encode_utf8_all}
use Rattle.ft_statements.proofs.Common.{IsUtf8, halved, closing}
use Rattle.ft_statements.proofs.WordLemmas.{no_mark, inside_marks}
use Rattle.ft_statements.proofs.words.without_marks.Goals as goal

pub returns-in_default : goal.returns-in_default
returns-in_default c = c.new.ensures.bytes ∙ ap encode_utf8_all (sym (no_mark c.args.text.now (ap length (sym c.chars-inside.ensures.rest) ∙ c.in_default.ensures.steps.0.0)))

pub returns : goal.returns
returns c =
    let between = inside_marks c.args.text.now c.next.new.self c.next_back.new.self c.in-Some.mark c.next_back.result c.utf8.text (subst IsUtf8 c.as_str.ensures c.as_str.utf8)
    (sym c.chars-inside.ensures.rest ∙ c.in-Some.ensures.steps.0) c.next_back.ensures.steps in
    let same = ap (λ mark. halved mark false (chars c.as_str.result.now)) c.closing.ensures ∙ ap (λ inside. halved (closing c.in-Some.mark) false (chars inside)) c.as_str.ensures ∙ sym between in
    subst (λ bytes. IfOk c.halved.result (λ found. string_bytes found ≡ bytes)) (ap encode_utf8_all same) c.halved.ensures
