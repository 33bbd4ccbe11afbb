use Rattle.std.proofs.Common.{arith, rules, to_z-of_z}
use Rattle.ft_store.proofs.Common.{state}
use Rattle.ft_store.specs.Anew.{Thins}
use Rattle.ft_store.proofs.InsideLemmas.{stays_more}
use Rattle.ft_store.proofs.ClearLemmas.{thins_more}
use Rattle.ft_store.proofs.clear.thin_lists.Goals as goal

pub loop-letter-preserved : goal.loop-letter-preserved
loop-letter-preserved g c =
    let old = state g.S.Store c.args.tx.now.conn.now in
    let was = state g.S.Store c.loop-letter.tx.conn.now in
    let now = state g.S.Store c.drop_lists_from.new.tx.conn.now in (
      stays_more c.loop-letter.invariant.0 c.drop_lists_from.ensures.done.stays tt,
      λ clean inside store.
          let before : Thins c.args.tab old was = simp (to_z-of_z, c.ranges.tab) at (c.loop-letter.invariant.1 (omega (arith, c.drop_lists_from.ensures.done.stays.survives.clean)) inside store) in
          rw (to_z-of_z c.ranges.tab)
          (thins_more c.args.tab _ old was now before ((simp (to_z-of_z, c.ranges.tab) at c.in_ok-drop_lists_from.ensures.done.steps) clean before.inside before.store) (c.in_ok-drop_lists_from.ensures.grown clean before.inside before.store)),
    )

pub returns-in_err-drop_lists_from-clause-done : goal.returns-in_err-drop_lists_from-clause-done
returns-in_err-drop_lists_from-clause-done g c = record { steps = search rules; stays = stays_more c.loop-letter.invariant.0 c.drop_lists_from.ensures.done.stays (search rules) }
