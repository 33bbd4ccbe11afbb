-- by the tests of the places to come
use Rattle.std.proofs.Common.{◌≡◌, ◌+◌, Bool, not, ◌==◌, true, false, refl, sym, ap, ◌∙◌, drop, length}
use Rattle.ft_rows.proofs.Common.{drop_more, drop_all}
use Rattle.ft_rows.proofs.PackTests.{fails_all, all_pass}
use Rattle.ft_rows.proofs.packed.can_pack.Goals as goal

pub returns-then-not-passes-clause-cannot : goal.returns-then-not-passes-clause-cannot
returns-then-not-passes-clause-cannot c = λ can. fails_all (c.loop-at.at == 0) c.loop-at.last c.args.spots.now (drop c.loop-at.at c.args.spots.now) _ (drop (c.loop-at.at + 1) c.args.spots.now) c.loop-at.invariant
    (drop_more c.args.spots.now c.loop-at.at _ c.loop-at-test.true) (sym c.passes.ensures ∙ c.if-not-passes.true) can

flip : (b : Bool) → not b ≡ true → b ≡ false
flip true h = absurd (let no = h in cc)
flip false h = refl

pub returns-clause-can : goal.returns-clause-can
returns-clause-can c = λ h. all_pass (c.loop-at.at == 0) c.loop-at.last c.args.spots.now (drop c.loop-at.at c.args.spots.now) c.loop-at.invariant (drop_all c.loop-at.at c.args.spots.now c.loop-at-test.false)
    (λ none. let long : c.is_empty.result ≡ true = c.is_empty.ensures ∙ ap (λ l. length l == 0) none in let no = sym long ∙ flip c.is_empty.result h in cc)
