use Rattle.std.proofs.Common.{sym, ap, subst, ◌≡◌, ◌∙◌, ◌<◌, ◌≤◌, false, true≢false, length, get_or, arith, IsCharBoundary, ⊎_elim}
use Rattle.ft_match.proofs.Common.{IsCharBoundary-before_ascii, IsCharBoundary-end, order, is_eligible}
use Rattle.ft_match.proofs.TokenSteps.{ascii, run_begins, run_goes_on, run_ends}
use Rattle.ft_match.proofs.text.token_end.Goals as goal

pub loop-place-init : goal.loop-place-init
loop-place-init c = run_begins c.requires.0

pub loop-place-preserved : goal.loop-place-preserved
loop-place-preserved c =
    let place = c.loop-place.place in
    let is_text = c.as_bytes-bytes.ensures.value in
    run_goes_on c.loop-place.invariant (subst (λ bytes. place < length bytes) is_text c.loop-place-test.true)
    (ap (λ bytes. is_eligible (get_or bytes place 0)) (sym is_text) ∙ sym c.is_eligible.ensures ∙ c.if-is_eligible.true)

pub returns-else-is_eligible : goal.returns-else-is_eligible
returns-else-is_eligible c =
    let text = c.args.text.now in
    let place = c.loop-place.place in
    let is_text = c.as_bytes-bytes.ensures.value in
    let inside : place < length text = subst (λ bytes. place < length bytes) is_text c.loop-place-test.true in
    let other : is_eligible (get_or text place 0) ≡ false =
    ap (λ bytes. is_eligible (get_or bytes place 0)) (sym is_text) ∙ sym c.is_eligible.ensures ∙ c.if-is_eligible.false in
    record {
      later = c.loop-place.invariant.begun;
      some = λ _ eligible. ⊎_elim
          (λ (more : c.args.start < place). more)
          (λ (none : place ≤ c.args.start).
          let here : place ≡ c.args.start = omega (arith, none, c.loop-place.invariant.begun) in
          absurd (true≢false (sym eligible ∙ ap (λ i. is_eligible (get_or text i 0)) (sym here) ∙ other)))
          (order c.args.start place);
      cut = IsCharBoundary-before_ascii text place inside (ascii _ other);
      token = λ count longer. run_ends c.loop-place.invariant longer (λ _. other) count;
    }

pub returns-after-loop-place : goal.returns-after-loop-place
returns-after-loop-place c =
    let text = c.args.text.now in
    let place = c.loop-place.place in
    let past : length text ≤ place = subst (λ bytes. length bytes ≤ place) c.as_bytes-bytes.ensures.value c.loop-place-test.false in
    let last : length text ≡ place = omega (arith, past, c.loop-place.invariant.inside) in
    record {
      later = c.loop-place.invariant.begun;
      some = λ inside _. omega (arith, inside, past);
      cut = subst (IsCharBoundary text) last (IsCharBoundary-end text);
      token = λ count longer. run_ends c.loop-place.invariant longer (λ inside. absurd (omega (arith, inside, past))) count;
    }
