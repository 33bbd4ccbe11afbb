use Rattle.std.proofs.Common.{to_z-of_z, arith, inl, inr}
use Rattle.ft_store.proofs.InsideLemmas.{for_reasons}
use Rattle.ft_store.proofs.AddedLemmas.{put_skip}
use Rattle.ft_store.proofs.statements.put_skip.Goals as goal

pub returns : goal.returns
returns g c =
    for_reasons g.S.Store _ _ _ _ 1 _ _ ((simp (to_z-of_z, c.ranges.tab, c.ranges.column) at (rw (c.to_sql.ensures, c.to_sql-2.ensures) at c.put.ensures.changes)) 13 _ 3 0 (put_skip g.S.Store c.args.tab c.args.column)) (λ db why. elim why [ inl full ↦ full | inr big ↦ absurd (omega (arith, big)) ])
