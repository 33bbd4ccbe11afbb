use Rattle.std.proofs.Common.{◌≡◌, ◌++◌, List, length, Ok}
use Rattle.ft_store.proofs.Common.{Change}
use Rattle.ft_store.specs.Parts.{changes_in}
use Rattle.ft_store.specs.Changes.{MakesSome}
use Rattle.ft_store.proofs.write.change_parts.Given as goal

-- what was made so far, and what comes are what was to come
abbrev pub invariant-loop-tx : goal.invariant-loop-tx
invariant-loop-tx g l =
    let whole = changes_in (g.P.Parts.to_come l.initial.parts) in
    (done : List Change) × (whole ≡ done ++ changes_in (g.P.Parts.to_come l.parts)) × MakesSome {X = Unit {0}} g.S.Store l.initial.tx.conn l.tx.conn (Ok tt) (λ _. done) whole

abbrev pub decreases-loop-tx : goal.decreases-loop-tx
decreases-loop-tx g l = length (g.P.Parts.to_come l.parts)
