use Rattle.ft_store.proofs.Common.{IsSound}
use Rattle.std.proofs.Common.{subst}
use Rattle.ft_store.specs.Kept.{IsKept, shows}
use Rattle.ft_store.proofs.NamedLemmas.{in_order, named_apart}
use Rattle.ft_store.proofs.store.Store.is_in_order.Goals as goal

pub returns-clause-order : goal.returns-clause-order
returns-clause-order g c = in_order (shows g.S.Store c.args.self.now).now.trees

pub returns-clause-names : goal.returns-clause-names
returns-clause-names g c clean is_open =
    let kept = (subst (λ s. IsKept g.S.Store s.held) c.self.view_is c.self.invariant).store clean is_open in
    let db = (shows g.S.Store c.args.self.now).now.trees in
    named_apart db (subst (λ s. IsSound s db) kept.schema kept.sound) kept.numbered.1.0
