use Rattle.std.proofs.Common.{arith, subst, rules, to_z-of_z, sym, true≢false}
use Rattle.ft_store.proofs.Common.{Database, state}
use Rattle.ft_store.specs.Anew.{IsFree}
use Rattle.ft_store.proofs.ClearLemmas.{free_more, stands_then, stands_store}
use Rattle.ft_store.proofs.InsideLemmas.{stays_as, stays_more}
use Rattle.ft_store.proofs.clear.is_alone.Goals as goal

pub loop-at-preserved : goal.loop-at-preserved
loop-at-preserved g c =
    let old = state g.S.Store c.args.tx.now.conn.now in
    let was = state g.S.Store c.loop-at.tx.conn.now in
    let now = state g.S.Store c.is_free.new.tx.conn.now in (
      stays_more c.loop-at.invariant.0 c.is_free.ensures.done.stays tt,
      λ clean inside store.
          let before = c.loop-at.invariant.1 (omega (arith, c.is_free.ensures.done.stays.survives.clean)) inside store in
          let step = (simp (to_z-of_z, c.ranges.tab) at c.in_ok-is_free.ensures.done.steps) clean before.0.inside (stands_store old was before.0 store) in
          (stands_then old was now before.0 step.0, λ _. before.0.opened step.1, rw (to_z-of_z c.ranges.tab) (free_more c.args.from c.loop-at.at c.args.tab old.now.trees (simp (to_z-of_z, c.ranges.tab) at before.2) (subst (λ (d : Database). IsFree c.loop-at.at c.args.tab d.trees) before.0.now (step.2 c.if-not-branch.false)))),
    )

pub returns-clause-done : goal.returns-clause-done
returns-clause-done g c = record {
  steps = λ clean inside store.
      let before = c.loop-at.invariant.1 clean inside store in
      (before.0, before.1 (omega (arith, c.requires, c.loop-at-test.false)), λ _ i low high. (simp (to_z-of_z, c.ranges.tab) at before.2) i low (omega (arith, high, c.loop-at-test.false)));
  stays = stays_as c.loop-at.invariant.0 (search rules);
}

pub returns-then-not-branch-clause-done : goal.returns-then-not-branch-clause-done
returns-then-not-branch-clause-done g c =
    let old = state g.S.Store c.args.tx.now.conn.now in
    let was = state g.S.Store c.loop-at.tx.conn.now in
    let now = state g.S.Store c.is_free.new.tx.conn.now in
    record {
      steps = λ clean inside store.
          let before = c.loop-at.invariant.1 (omega (arith, c.is_free.ensures.done.stays.survives.clean)) inside store in
          let step = c.in_ok-is_free.ensures.done.steps clean before.0.inside (stands_store old was before.0 store) in
          (stands_then old was now before.0 step.0, before.0.opened step.1, λ no. absurd (true≢false (sym no)));
      stays = stays_more c.loop-at.invariant.0 c.is_free.ensures.done.stays tt;
    }
