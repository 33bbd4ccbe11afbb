use Rattle.std.proofs.Common.{[], ap, map, rules, sym, append-nil, Bool, if◌then◌else◌}
use Rattle.ft_store.proofs.Common.{shown_change}
use Rattle.ft_store.proofs.MadeLemmas.{made_so, ends_all, part_made}
use Rattle.ft_store.proofs.write.apply_group.Goals as goal

pub returns-in_err-added : goal.returns-in_err-added
returns-in_err-added g c =
    ends_all g.S.Store c.args.tx.now.conn c.add_group.new.tx.conn c.add_group.result c.from_residual.result c.in_err-added.field-0.0 _ _ _ (search rules) (search rules) c.add_group.ensures

pub returns-then-added : goal.returns-then-added
returns-then-added g c =
    let all = map shown_change c.args.changes.now in
    made_so g.S.Store c.args.tx.now.conn c.add_group.new.tx.conn _ tt _ all all (ap (λ (b : Bool). if b then all else []) c.if-added.true) c.in_ok-added.ensures

pub returns : goal.returns
returns g c =
    let all = map shown_change c.args.changes.now in
    part_made g.S.Store c.args.tx.now.conn c.add_group.new.tx.conn c.apply_each.new.tx.conn c.apply_each.result [] (λ _. all) all [] all (sym (append-nil all))
    (made_so g.S.Store c.args.tx.now.conn c.add_group.new.tx.conn _ tt _ [] all (ap (λ (b : Bool). if b then all else []) c.if-added.false) c.in_ok-added.ensures) c.apply_each.ensures
