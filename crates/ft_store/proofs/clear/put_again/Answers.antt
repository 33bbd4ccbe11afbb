use Rattle.std.proofs.Common.{inl, inr, arith}
use Rattle.ft_store.proofs.InsideLemmas.{for_reasons}
use Rattle.ft_store.proofs.clear.put_again.Goals as goal

pub returns-in-Some-clause-changes : goal.returns-in-Some-clause-changes
returns-in-Some-clause-changes g c =
    let short = c.in-Some.ensures.found.2 in
    rw c.in-Some.ensures.found.0 (for_reasons g.S.Store _ _ _ _ 1 _ _ c.put_note.ensures.changes (λ db why. elim why [ inl full ↦ full | inr big ↦ absurd (omega (arith, short, big)) ]))
