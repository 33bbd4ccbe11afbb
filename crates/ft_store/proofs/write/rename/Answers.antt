use Rattle.std.proofs.Common.{[], ◌∷◌, ℕ, Ok, arith, inl, inr, refl, subst, to_z-of_z, int_cmp}
use Rattle.ft_store.proofs.Common.{on_ok_weaker, put, state, ExecutesInside, HasCleanDisk, Int, Text, StoreValue}
use Rattle.ft_store.specs.Rows.{value_of}
use Rattle.ft_store.specs.Calls.{IsPlainFault}
use Rattle.ft_store.specs.Puts.{IsOthers}
use Rattle.ft_store.proofs.Texts.{add_name_text}
use Rattle.ft_store.proofs.AddNameLemmas.{adds_name, add_name_why, others_before}
use Rattle.ft_store.proofs.BlameLemmas.{blamed_then}
use Rattle.ft_store.proofs.InsideLemmas.{stays_then}
use Rattle.ft_store.proofs.PutLemmas.{then_step, free_table}
use Rattle.ft_store.proofs.CantLemmas.{trees_then}
use Rattle.ft_store.proofs.write.rename.Goals as goal

pub returns : goal.returns
returns g c =
    let old = state g.S.Store c.args.tx.now.conn.now in
    let mid = state g.S.Store c.clear_rows.new.tx.conn.now in
    let new = state g.S.Store c.run.new.tx.conn.now in
    let tab = c.args.tab in
    let name = c.args.name.now in
    let cleared = simp (to_z-of_z, c.ranges.tab) at c.in_ok-clear_rows.ensures in
    let runs = (simp (to_z-of_z, c.ranges.tab) at (rw (c.beside.ensures, c.to_sql.ensures) at c.run.ensures.done.steps)) in
    let refuses = (simp (to_z-of_z, c.ranges.tab) at (rw (c.beside.ensures, c.to_sql.ensures) at c.run.ensures.refused)) in
    let was_clean = λ (clean : HasCleanDisk new). (let mid_clean : HasCleanDisk mid = omega (arith, c.run.ensures.done.stays.survives.clean, clean) in mid_clean) in
    record {
      done = record {
        steps = λ clean inside kept.
            let one = cleared.done.steps (was_clean clean) inside kept in
            on_ok_weaker c.run.result (λ (ran : (count : ℕ) × ExecutesInside 0 add_name_text (Int tab ∷ Text name ∷ []) mid new (Ok count)). then_step old mid new _ (λ (v : StoreValue). record v { tables = put int_cmp tab name v.tables }) one (adds_name tab name mid new ran.0 one.store (free_table old mid _ tab (value_of old.now.trees).tables one refl) ran.1).0)
            (runs clean one.shown.mode);
        stays = stays_then g.S.Store IsPlainFault c.args.tx.now.conn c.clear_rows.new.tx.conn c.run.new.tx.conn c.clear_rows.result c.run.result c.clear_rows.ensures.done.stays c.run.ensures.done.stays;
      };
      grown = λ clean inside kept.
          let one = cleared.done.steps (was_clean clean) inside kept in
          on_ok_weaker c.run.result (λ (ran : (count : ℕ) × ExecutesInside 0 add_name_text (Int tab ∷ Text name ∷ []) mid new (Ok count)). trees_then 0 0 old.now.trees mid.now.trees new.now.trees (cleared.grown (was_clean clean) inside kept) (adds_name tab name mid new ran.0 one.store (free_table old mid _ tab (value_of old.now.trees).tables one refl) ran.1).1)
          (runs clean one.shown.mode);
      refused = λ clean inside kept is.
          let one = cleared.done.steps (was_clean clean) inside kept in
          let free = free_table old mid _ tab (value_of old.now.trees).tables one refl in
          elim (add_name_why tab name mid new c.ranges.tab (λ _. free) (λ _. one.store) (refuses clean one.shown.mode is)) [
            | inl blamed ↦ inl (blamed_then old mid new _ _ (was_clean clean) c.clear_rows.ensures.done.stays.survives c.run.ensures.done.stays.survives blamed)
            | inr (inl big) ↦ inr (inl big)
            | inr (inr other) ↦ inr (inr (others_before tab name (value_of old.now.trees).tables (subst (λ (v : StoreValue). IsOthers tab name v.tables) one.is other)))
          ];
    }
