use Rattle.std.proofs.Common.{rules, pos, [], ◌∷◌, to_z-of_z}
use Rattle.ft_store.proofs.Common.{lit, Int}
use Rattle.ft_store.proofs.Texts.{is_param, many_lists}
use Rattle.ft_store.proofs.InsideLemmas.{stays_as}
use Rattle.ft_store.proofs.clear.has_many.Goals as goal

pub returns-in_err-found-clause-refused : goal.returns-in_err-found-clause-refused
returns-in_err-found-clause-refused g c = λ clean inside store is.
    (simp (to_z-of_z, c.ranges.tab) at (rw c.to_sql.ensures at c.look.ensures.refused)) 7 (is_param 1 0 ∷ []) (lit (Int (pos 1))) (lit (Int (pos 200))) (many_lists c.args.tab) clean inside store (search rules)

pub returns-clause-done : goal.returns-clause-done
returns-clause-done g c = record {
  steps = λ clean inside store.
      let found = (simp (to_z-of_z, c.ranges.tab) at (rw c.to_sql.ensures at c.in_ok-found.ensures.done.steps)) 7 (is_param 1 0 ∷ []) (lit (Int (pos 1))) (lit (Int (pos 200))) (many_lists c.args.tab) clean inside store in
      (found.0, found.1, tt);
  stays = stays_as c.look.ensures.done.stays (search rules);
}
