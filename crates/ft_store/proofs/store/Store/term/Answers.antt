use Rattle.std.proofs.Common.{map, ap, ◌∙◌, to_z-of_z, flat_map}
use Rattle.ft_store.proofs.Common.{state, shown_list, entries_with}
use Rattle.ft_store.specs.Rows.{value_of}
use Rattle.ft_store.proofs.EntryLemmas.{term_entries}
use Rattle.ft_store.proofs.store.Store.term.Goals as goal

pub returns-clause-rows : goal.returns-clause-rows
returns-clause-rows g c = λ clean.
    let lists = (value_of (state g.S.Store c.self.inside.conn).now.trees).lists in
    let read = simp (to_z-of_z, c.ranges.tab) at (c.in_ok-lists.ensures.given.rows clean) in
    rw (← c.self.view_is) (
      c.in_ok-found.ensures ∙ ap (λ ls. flat_map (entries_with c.args.term.now) (map shown_list ls)) c.as_slice.ensures.value ∙ ap (flat_map (entries_with c.args.term.now)) read.0 ∙ term_entries c.args.tab c.args.term.now lists,
      read.1,
    )
