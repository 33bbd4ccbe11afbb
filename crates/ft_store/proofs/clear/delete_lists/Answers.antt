use Rattle.std.proofs.Common.{arith, inl, to_z-of_z}
use Rattle.ft_store.proofs.Common.{on_ok_weaker, state, HasCleanDisk}
use Rattle.ft_store.specs.Calls.{IsPlainFault}
use Rattle.ft_store.proofs.BlameLemmas.{blamed_then}
use Rattle.ft_store.proofs.RefusedLemmas.{drop_lists}
use Rattle.ft_store.proofs.InsideLemmas.{stays_then, only}
use Rattle.ft_store.proofs.CantLemmas.{trees_then}
use Rattle.ft_store.proofs.ClearLemmas.{thins_then, ok_both}
use Rattle.ft_store.proofs.clear.delete_lists.Goals as goal

pub returns : goal.returns
returns g c =
    let old = state g.S.Store c.args.tx.now.conn.now in
    let mid = state g.S.Store c.thin_lists.new.tx.conn.now in
    let new = state g.S.Store c.delete.new.tx.conn.now in
    let thinned = simp (to_z-of_z, c.ranges.tab) at c.in_ok-thin_lists.ensures.done.steps in
    let gone = (simp (to_z-of_z, c.ranges.tab) at (rw c.to_sql.ensures at c.delete.ensures)) 7 _ (drop_lists g.S.Store c.args.tab) in
    let was_clean = λ (clean : HasCleanDisk new). (let mid_clean : HasCleanDisk mid = omega (arith, gone.done.stays.survives.clean, clean) in mid_clean) in
    record {
      done = record {
        steps = λ clean inside store. let one = thinned (was_clean clean) inside store in on_ok_weaker c.delete.result (thins_then c.args.tab old mid new one) (gone.done.steps clean one.inside one.store);
        stays = stays_then g.S.Store IsPlainFault c.args.tx.now.conn c.thin_lists.new.tx.conn c.delete.new.tx.conn c.thin_lists.result c.delete.result c.thin_lists.ensures.done.stays gone.done.stays;
      };
      grown = λ clean inside store.
          let one = thinned (was_clean clean) inside store in
          on_ok_weaker c.delete.result (λ both. trees_then 0 0 old.now.trees mid.now.trees new.now.trees (one.grown both.0.shown.was_open) both.1) (ok_both _ _ c.delete.result (gone.done.steps clean one.inside one.store) (gone.grown clean one.inside one.store));
      refused = λ clean inside store is.
          let one = thinned (was_clean clean) inside store in
          inl (blamed_then old mid new _ _ (was_clean clean) c.thin_lists.ensures.done.stays.survives gone.done.stays.survives (only g.S.Store _ _ _ _ gone clean one.inside one.store is));
    }
