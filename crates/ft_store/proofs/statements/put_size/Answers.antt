use Rattle.std.proofs.Common.{to_z-of_z, arith, inl, inr}
use Rattle.ft_store.proofs.InsideLemmas.{for_reasons}
use Rattle.ft_store.proofs.AddedLemmas.{put_size}
use Rattle.ft_store.proofs.statements.put_size.Goals as goal

pub returns : goal.returns
returns g c =
    for_reasons g.S.Store _ _ _ _ 1 _ _ ((simp (to_z-of_z, c.ranges.tab, c.ranges.docid, c.ranges.column, c.ranges.n) at (rw (c.to_sql.ensures, c.to_sql-2.ensures, c.to_sql-3.ensures, c.to_sql-4.ensures) at c.put.ensures.changes)) 9 _ 5 0 (put_size g.S.Store c.args.tab c.args.docid c.args.column c.args.n)) (λ db why. elim why [ inl full ↦ full | inr big ↦ absurd (omega (arith, big)) ])
