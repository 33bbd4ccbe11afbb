-- where it is refused, nothing is run
use Rattle.std.proofs.Common.{not, [], refl, ap, ◌∙◌, subst, rules, arith}
use Rattle.ft_store.proofs.Common.{state}
use Rattle.ft_store.specs.Kept.{Pings, StoreState}
use Rattle.ft_store.proofs.AnswerLemmas.{nothing_blamed}
use Rattle.ft_store.proofs.BlameLemmas.{not_memory, kept_either, not_run}
use Rattle.ft_store.proofs.ChainLemmas.{kept_store}
use Rattle.ft_store.proofs.store.Store.ping.Goals as goal

pub invariant_of-self : goal.invariant_of-self
invariant_of-self g c =
    let old = state g.S.Store c.self.inside.conn in
    let new = state g.S.Store c.prepare.new.self in
    let settled = c.is_autocommit-settled.ensures.settled (c.is_autocommit-settled.ensures.value ∙ ap not c.self.invariant.settled) in
    record {
      settled = c.prepare.ensures.mode c.self.invariant.settled;
      store = kept_store old new (λ _. ⊥) (λ clean. kept_either old new settled (not_run _ [] old new _ (c.in_err-_statement.ensures.err clean []))) c.prepare.ensures.survives c.self.invariant.store;
    }

pub returns-in_err-_statement : goal.returns-in_err-_statement
returns-in_err-_statement g c =
    let old = state g.S.Store c.self.inside.conn in
    let new = state g.S.Store c.prepare.new.self in
    let settled = c.is_autocommit-settled.ensures.settled (c.is_autocommit-settled.ensures.value ∙ ap not c.self.invariant.settled) in
    subst (λ (k : StoreState g.row.S.Denot). Pings g.S.Store k (record { held = c.prepare.new.self; rows_read = c.self.inside.rows_read }) c.from_residual.result) c.self.view_is (record {
      kept = λ clean. kept_either old new settled (not_run _ [] old new _ (c.in_err-_statement.ensures.err clean []));
      live = search rules;
      survives = c.prepare.ensures.survives;
      unread = refl;
      cause = search rules;
      refused = λ clean is. nothing_blamed old new (c.self.invariant.store (omega (arith, c.prepare.ensures.survives.clean, clean))) _ (not_memory _ (search rules)) (c.in_err-_statement.ensures.err clean []);
    })
