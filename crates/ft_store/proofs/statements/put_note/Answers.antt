use Rattle.ft_store.proofs.AddedLemmas.{put_note}
use Rattle.ft_store.proofs.statements.put_note.Goals as goal

pub returns-clause-changes : goal.returns-clause-changes
returns-clause-changes g c = (rw c.to_sql.ensures at c.put.ensures.changes) 11 _ 2 _ (put_note g.S.Store c.args.name.now)

pub returns-clause-others : goal.returns-clause-others
returns-clause-others g c = (rw c.to_sql.ensures at c.put.ensures.others) 11 _ 2 _ (put_note g.S.Store c.args.name.now)
