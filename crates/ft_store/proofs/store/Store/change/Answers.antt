use Rattle.std.proofs.Common.{ap, map, not, ◌∙◌}
use Rattle.ft_store.proofs.Common.{state, shown_change, all_applied}
use Rattle.ft_store.specs.Kept.{value_in}
use Rattle.ft_store.proofs.ChainLemmas.{stored_trees}
use Rattle.ft_store.proofs.store.Store.change.Goals as goal

pub returns-clause-alone : goal.returns-clause-alone
returns-clause-alone g c = λ clean is_open db left.
    let made = c.in_ok-change.ensures.done.made.all clean in
    stored_trees (state g.S.Store c.change.new.conn) db _ made.0 (made.1 ∙ ap (λ s. all_applied (map shown_change c.args.changes.now) (value_in g.S.Store s)) c.self.view_is) (c.is_autocommit-settled.ensures.settled (c.is_autocommit-settled.ensures.value ∙ ap not c.in_ok-change.ensures.done.mode) is_open)
    (g.met.S.Store.settled c.change.new.conn.store db is_open left)
