use Rattle.std.proofs.Common.{◌∙◌, [], ◌∷◌, pos, sym, ap, rules, FitsSigned, w64, to_z-of_z, ◌==◌}
use Rattle.ft_store.proofs.Common.{state, lit, Int}
use Rattle.ft_store.specs.Anew.{IsNear, probe_tree, probe_term}
use Rattle.ft_store.proofs.ClearLemmas.{empty_rows, free_of}
use Rattle.ft_store.proofs.InsideLemmas.{stays_as}
use Rattle.ft_store.proofs.clear.is_free.Goals as goal

pub returns-in_err-found-clause-refused : goal.returns-in_err-found-clause-refused
returns-in_err-found-clause-refused g c = λ clean inside store is.
    let fits : FitsSigned w64 c.probe_number-number.result = search rules in
    (simp (to_z-of_z, fits) at (rw c.to_sql.ensures at c.look.ensures.refused)) (probe_tree c.args.at) (probe_term c.args.at ∷ []) (lit (Int (pos 1))) (lit (Int (pos 0))) (c.probe_text.ensures c.requires c.probe_number-number.result) clean inside store (search rules)

pub returns-clause-done : goal.returns-clause-done
returns-clause-done g c = record {
  steps = λ clean inside store.
      let old = state g.S.Store c.args.tx.now.conn.now in
      let new = state g.S.Store c.look.new.tx.conn.now in
      let fits : FitsSigned w64 c.probe_number-number.result = search rules in
      let near : IsNear c.args.at c.args.tab c.probe_number-number.result = simp (to_z-of_z, c.ranges.tab) at c.probe_number-number.ensures in
      let text = c.probe_text.result.now in
      let found = c.in_ok-found.found in
      let it = (simp (to_z-of_z, fits) at (rw c.to_sql.ensures at c.in_ok-found.ensures.done.steps)) (probe_tree c.args.at) (probe_term c.args.at ∷ []) (lit (Int (pos 1))) (lit (Int (pos 0))) (c.probe_text.ensures c.requires c.probe_number-number.result) clean inside store in (
        it.0,
        it.1,
        λ free.
            free_of c.args.at text c.args.tab c.probe_number-number.result old new found.items (c.probe_text.ensures c.requires) near (store it.1).schema (empty_rows found.items (sym (ap (λ n. n == 0) found.ok.0) ∙ sym c.is_empty.ensures ∙ free)) it.2,
      );
  stays = stays_as c.look.ensures.done.stays (search rules);
}
