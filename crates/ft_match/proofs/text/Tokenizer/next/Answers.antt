use Rattle.std.proofs.Common.{◌≡◌, ◌∙◌, sym, ◌<◌, ◌≤◌, [], length, arith, ⊎_elim}
use Rattle.ft_match.proofs.Common.{order}
use Rattle.ft_match.proofs.TokenSteps.{left_none}
use Rattle.ft_match.proofs.text.Tokenizer.next.Goals as goal

-- where no token begins, none is left
pub returns-then-start-end-clause-next : goal.returns-then-start-end-clause-next
returns-then-start-end-clause-next c =
    let text = c.self.inside.text.now in
    let start = c.token_start-start.result in
    let past : length text ≤ start = ⊎_elim
    (λ (more : start < length text). absurd (omega (arith, c.token_end-end.ensures.some more (c.token_start-start.ensures.begun more), c.if-start-end.true)))
    (λ (past : length text ≤ start). past)
    (order start (length text)) in
    let none : c.args.self.now ≡ [] =
    sym c.self.view_is ∙ c.token_start-start.ensures.same c.self.inside.count ∙ left_none text c.self.inside.count start past in
    (none, none)
