use Rattle.std.proofs.Common.{rules, subst, arith, ◌+◌, Ok}
use Rattle.ft_store.specs.Changes.{MakesAll}
use Rattle.ft_store.proofs.MadeLemmas.{ends_all, one_between, first_made, all_made}
use Rattle.ft_store.proofs.write.apply_each.Goals as goal

pub loop-change-preserved : goal.loop-change-preserved
loop-change-preserved g c =
    let at = c.loop-change.change-index in
    first_made g.S.Store c.args.tx.now.conn c.loop-change.tx.conn c.args.changes.now c.apply.new.tx.conn (Ok tt) at (at + 1) (omega arith) c.loop-change.invariant
    (subst (MakesAll g.S.Store c.loop-change.tx.conn c.apply.new.tx.conn (Ok tt)) (one_between c.args.changes.now at c.change-item.result c.loop-change-test.true c.change-item.is) c.in_ok-apply.ensures)

pub returns : goal.returns
returns g c = all_made g.S.Store c.args.tx.now.conn c.loop-change.tx.conn c.args.changes.now c.loop-change.change-index c.loop-change-test.false c.loop-change.invariant

pub returns-in_err-apply : goal.returns-in_err-apply
returns-in_err-apply g c =
    let at = c.loop-change.change-index in
    ends_all g.S.Store c.args.tx.now.conn c.apply.new.tx.conn c.apply.result c.from_residual.result c.in_err-apply.field-0.0 _ _ _ (search rules) (search rules)
    (first_made g.S.Store c.args.tx.now.conn c.loop-change.tx.conn c.args.changes.now c.apply.new.tx.conn c.apply.result at (at + 1) (omega arith) c.loop-change.invariant
    (subst (MakesAll g.S.Store c.loop-change.tx.conn c.apply.new.tx.conn c.apply.result) (one_between c.args.changes.now at c.change-item.result c.loop-change-test.true c.change-item.is) c.apply.ensures))
