use Rattle.ft_store.proofs.InsideLemmas.{landed, not_landed, replaced, rest_kept, rest_unchanged, unchanged_then}
use Rattle.std.proofs.Common.{◌≡◌, ◌⊎◌, Err, sym, subst, arith, rules}
use Rattle.ft_store.specs.Puts.{IsFull, IsTooBig}
use Rattle.ft_store.specs.Changes.{Changes}
use Rattle.ft_store.proofs.statements.put.Goals as goal

pub returns-in_err-add-clause-changes : goal.returns-in_err-add-clause-changes
returns-in_err-add-clause-changes g c = λ tree f values count by.
    let is : c.from_residual.result ≡ Err c.in_err-add.field-0.0 = search rules in
    let add = c.in_err-add.ensures in
    subst (λ r. Changes g.S.Store c.args.tx.now.conn c.add.new.tx.conn r f 1 (λ db. IsFull 1 (db tree) ⊎ IsTooBig values count)) (sym is)
    (not_landed g.S.Store _ _ _ _ _ _ tree f values count by _ add.done.stays add.refused)

pub returns-then-branch-clause-changes : goal.returns-then-branch-clause-changes
returns-then-branch-clause-changes g c = λ tree f values count by. (landed g.S.Store _ _ _ _ _ _ tree f values count by _ c.if-branch.true c.in_ok-add.ensures.done).0

pub returns-then-branch-clause-others : goal.returns-then-branch-clause-others
returns-then-branch-clause-others g c = λ tree f values count by. (landed g.S.Store _ _ _ _ _ _ tree f values count by _ c.if-branch.true c.in_ok-add.ensures.done).1

pub returns-clause-changes : goal.returns-clause-changes
returns-clause-changes g c = λ tree f values count by.
    unchanged_then g.S.Store _ _ _ _ _ _ _ c.if-branch.false c.in_ok-add.ensures.done f 1 _ (replaced g.S.Store _ _ _ _ _ _ _ _ tree f values count by c.in_ok-run.ensures.done c.run-2.ensures.done c.run-2.ensures.refused)

pub returns-clause-others : goal.returns-clause-others
returns-clause-others g c = λ tree f values count by.
    rest_unchanged g.S.Store _ _ c.run-2.new.tx.conn _ _ _ _ c.if-branch.false c.in_ok-add.ensures.done tree (λ clean. omega (arith, c.in_ok-run.ensures.done.stays.survives.clean, c.run-2.ensures.done.stays.survives.clean, clean)) (rest_kept g.S.Store _ _ _ _ _ _ _ _ tree f values count by c.in_ok-run.ensures.done c.run-2.ensures.done)
