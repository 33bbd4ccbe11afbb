use Rattle.std.proofs.Common.{◌≡◌, refl, ap, subst, ◌∙◌, arith, rules, not, IfErr}
use Rattle.ft_opening.proofs.Common.{state, HasCleanDisk, IfErr-weaker}
use Rattle.ft_store.specs.Calls.{Keeps}
use Rattle.ft_opening.specs.Adopted.{TellsAs, GivesVersion, error_cause}
use Rattle.ft_store.specs.declared.fault.StoreFault.TheVariants as fault
use Rattle.ft_store.specs.Blame.{IsBlamed}
use Rattle.ft_opening.proofs.AdoptLemmas.{blamed_on, error_blamed, gives_of, undone_keeps}
use Rattle.ft_opening.proofs.adopt.version_answer.Goals as goal

pub returns-clause-told : goal.returns-clause-told
returns-clause-told g c =
    let same : c.rollback.new.self.0 ≡ c.conn-1.given.0 = search rules in
    let mid = state g.S.Store c.query_all-found.new.self.conn.now in
    subst (λ h. HasCleanDisk (state g.S.Store h) → TellsAs g.S.Store c.args.conn.now c.query_all-found.result) same
    (λ clean.
    let before : HasCleanDisk mid = omega (arith, c.rollback.ensures.survives.clean, clean) in
    let gives = gives_of (state g.S.Store c.transaction-tx.result.conn.now) mid c.query_all-found.result (c.query_all-found.ensures.ok before) (c.query_all-found.ensures.err before) in
    (c.query_all-found.new.self.conn.now, subst (λ h. GivesVersion (state g.S.Store h) mid c.query_all-found.result) c.transaction-tx.ensures.begun gives))

pub returns-clause-alone : goal.returns-clause-alone
returns-clause-alone g c =
    let same : c.rollback.new.self.0 ≡ c.conn-1.given.0 = search rules in
    let old = state g.S.Store c.args.conn.now in
    let mid = state g.S.Store c.query_all-found.new.self.conn.now in
    let settled = c.is_autocommit-settled.ensures.settled (c.is_autocommit-settled.ensures.value ∙ ap not c.requires.settled) in
    record {
      kept =
          subst (λ h. HasCleanDisk (state g.S.Store h) → Keeps old (state g.S.Store h)) same
          (λ clean.
          let before : HasCleanDisk mid = omega (arith, c.rollback.ensures.survives.clean, clean) in
          let gives = gives_of (state g.S.Store c.transaction-tx.result.conn.now) mid c.query_all-found.result (c.query_all-found.ensures.ok before) (c.query_all-found.ensures.err before) in
          undone_keeps old (state g.S.Store (record c.args.conn.now { in_transaction = Rattle.std.proofs.Common.true })) mid (state g.S.Store c.rollback.new.self.0) c.query_all-found.result settled (λ o. o) refl refl
          (subst (λ h. GivesVersion (state g.S.Store h) mid c.query_all-found.result) c.transaction-tx.ensures.begun gives) (c.rollback.ensures.undone clean));
      mode = search rules;
      survives = search rules;
    }

pub returns-clause-refused : goal.returns-clause-refused
returns-clause-refused g c =
    let same : c.rollback.new.self.0 ≡ c.conn-1.given.0 = search rules in
    let begun = state g.S.Store c.transaction-tx.result.conn.now in
    let mid = state g.S.Store c.query_all-found.new.self.conn.now in
    subst (λ h. HasCleanDisk (state g.S.Store h) → IfErr c.query_all-found.result (λ e. error_cause e ≡ fault.Refused → IsBlamed (state g.S.Store c.args.conn.now) (state g.S.Store h))) same
    (λ clean.
    IfErr-weaker c.query_all-found.result _ _
    (λ e fails is. subst (λ h. IsBlamed (state g.S.Store h) (state g.S.Store c.rollback.new.self.0)) c.transaction-tx.ensures.begun
    (blamed_on begun mid (state g.S.Store c.rollback.new.self.0) _ (error_blamed begun mid e fails is) c.rollback.ensures.survives))
    (c.query_all-found.ensures.err (omega (arith, c.rollback.ensures.survives.clean, clean))))
