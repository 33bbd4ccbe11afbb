use Rattle.std.proofs.Common.{refl, sym, ap, subst, ◌∙◌, ◌≤◌, length, get_or, arith, rules}
use Rattle.ft_match.proofs.Common.{IsCharBoundary-after_ascii, is_eligible}
use Rattle.ft_match.proofs.TokenSteps.{left_past}
use Rattle.ft_match.proofs.text.token_start.Goals as goal

pub loop-place-init : goal.loop-place-init
loop-place-init c = (omega arith, c.requires, λ count. refl)

pub loop-place-preserved : goal.loop-place-preserved
loop-place-preserved c =
    search (rules, c.loop-place.invariant.0, IsCharBoundary-after_ascii c.args.text.now c.loop-place.place c.utf8.text, left_past c.args.text.now)

pub returns-else-not-is_eligible : goal.returns-else-not-is_eligible
returns-else-not-is_eligible c = record {
  later = c.loop-place.invariant.0;
  cut = c.loop-place.invariant.1;
  same = c.loop-place.invariant.2;
  begun =
      λ inside. ap (λ bytes. is_eligible (get_or bytes c.loop-place.place 0)) (sym c.as_bytes-bytes.ensures.value) ∙ sym c.is_eligible.ensures
      ∙ c.if-not-is_eligible.false;
}

pub returns-after-loop-place : goal.returns-after-loop-place
returns-after-loop-place c = record {
  later = c.loop-place.invariant.0;
  cut = c.loop-place.invariant.1;
  same = c.loop-place.invariant.2;
  begun = λ inside. absurd (omega (arith, inside, subst (λ bytes. length bytes ≤ c.loop-place.place) c.as_bytes-bytes.ensures.value c.loop-place-test.false));
}
