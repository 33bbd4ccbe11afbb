use Rattle.std.proofs.Common.{rules, arith, ◌+◌, Ok}
use Rattle.ft_store.proofs.MadeLemmas.{ends_all, first_made, all_made}
use Rattle.ft_store.proofs.write.apply_all.Goals as goal

pub loop-at-preserved : goal.loop-at-preserved
loop-at-preserved g c =
    let at = c.loop-at.at in
    (search rules, first_made g.S.Store c.args.tx.now.conn c.loop-at.tx.conn c.args.changes.now c.apply_group.new.tx.conn (Ok tt) at (at + c.group_size.result) (omega arith) c.loop-at.invariant.1 c.in_ok-apply_group.ensures)

pub returns : goal.returns
returns g c = all_made g.S.Store c.args.tx.now.conn c.loop-at.tx.conn c.args.changes.now c.loop-at.at c.loop-at-test.false c.loop-at.invariant.1

pub returns-in_err-apply_group : goal.returns-in_err-apply_group
returns-in_err-apply_group g c =
    let at = c.loop-at.at in
    ends_all g.S.Store c.args.tx.now.conn c.apply_group.new.tx.conn c.apply_group.result c.from_residual.result c.in_err-apply_group.field-0.0 _ _ _ (search rules) (search rules)
    (first_made g.S.Store c.args.tx.now.conn c.loop-at.tx.conn c.args.changes.now c.apply_group.new.tx.conn c.apply_group.result at (at + c.group_size.result) (omega arith) c.loop-at.invariant.1 c.apply_group.ensures)
