-- words/halved/Answers.antt
-- one character at a time
use Rattle.std.proofs.Common.{◌≡◌, true, false, ap, ◌∙◌, string_bytes, arith, ◌&&◌, ◌==◌}
use Rattle.std.proofs.lemmas.Bool.Decides.{nat_tests}
use Rattle.ft_statements.proofs.Common.{chars_rest}
use Rattle.ft_statements.proofs.WordLemmas.{begins, passes, takes, ends}
use Rattle.ft_statements.proofs.words.halved.Goals.{else-after-via-then-after+else-c-mark, else-after-via-else-after}
use Rattle.ft_statements.proofs.words.halved.Goals as goal

pub loop-c-init : goal.loop-c-init
loop-c-init c = begins c.args.mark c.args.text.now (string_bytes c.new-found.result) (chars_rest c.into_iter-c-iterator.result) c.utf8.text c.new-found.ensures.bytes (ap chars_rest c.into_iter-c-iterator.ensures.into_iter_gives ∙ c.chars-c-items.ensures.rest)

pub loop-c-preserved-then-c-mark : goal.loop-c-preserved-then-c-mark
loop-c-preserved-then-c-mark c =
    let both : (c.loop-c.after && c.in-Some.c == c.args.mark) ≡ true = grind (arith, nat_tests) in
    passes c.args.mark c.args.text.now (string_bytes c.loop-c.found) c.loop-c.after (chars_rest c.loop-c.c-iterator) c.loop-c.invariant c.in-Some.c (chars_rest c.next.new.self) c.in-Some.ensures.steps.0 both

pub loop-c-preserved : goal.loop-c-preserved
loop-c-preserved c =
    let neither : (c.loop-c.after && c.in-Some.c == c.args.mark) ≡ false =
    elim c.else-after.branch [
      | else-after-via-then-after+else-c-mark w ↦ grind (arith, nat_tests, w.if-c-mark.false)
      | else-after-via-else-after w ↦ ap (λ b. b && c.in-Some.c == c.args.mark) w.if-after.false
    ] in
    takes c.args.mark c.args.text.now (string_bytes c.loop-c.found) c.loop-c.after (chars_rest c.loop-c.c-iterator) c.loop-c.invariant c.in-Some.c (chars_rest c.next.new.self) (string_bytes c.push.new.self) c.in-Some.ensures.steps.0 c.in_ok-push.ensures.bytes neither

pub returns : goal.returns
returns c = ends c.args.mark c.args.text.now (string_bytes c.loop-c.found) c.loop-c.after (chars_rest c.loop-c.c-iterator) c.loop-c.invariant c.in-None.ensures.steps.0.0
