-- by how the rows of the table stand
use Rattle.std.proofs.Common.{rules, ◌≡◌, List, map, Ok, sym, ap, subst, ◌∙◌, FitsSigned, w64, to_z, of_z, to_z-of_z}
use Rattle.ft_index.proofs.Common.{Change, value_in, TableInfo, shown_info, shown_rewrite, table_rows, HasRows, PlansFrom, AreHeld, IsUp, HasState}
use Rattle.ft_index.proofs.Common.{Contents, with_tables}
use Rattle.ft_commands.specs.Command as plain
use Rattle.ft_documents.specs.NewDocuments.{new_rewrite}
use Rattle.ft_index.proofs.Doing.{looks_up, rows_then}
use Rattle.ft_index.proofs.OpenedTables.{told_here}
use Rattle.ft_index.proofs.RebuildPlans.{IsPutAnew, plan_right, plan_stale, plan_loose, stale_content}
use Rattle.ft_index.proofs.special.rebuilt.Goals as goal

pub returns-in-Sound-clause-told : goal.returns-in-Sound-clause-told
returns-in-Sound-clause-told g c = λ tables name is. (
  λ changes are up contents held.
      let v = value_in g.S.Store c.args.store.now in
      let known = shown_info c.args.table.now in
      let t = told_here v tables contents name known c.is_in_order.ensures.order held is in
      let stands = c.in_ok-known_state.ensures.told t.table.1.held up.clean (subst (λ k. HasState v k t.table.1.held) t.told t.stands) in
      subst (λ (cs : List Change). PlansFrom contents (plain.Rebuild name) v (Ok cs)) (sym are) (plan_right v tables contents name known c.is_in_order.ensures.order held t (sym c.in-Sound.is ∙ stands)),
  λ _ _ _. tt,
)

pub returns-in_ok-rewrites-in-Stale-clause-told : goal.returns-in_ok-rewrites-in-Stale-clause-told
returns-in_ok-rewrites-in-Stale-clause-told g c = λ tables name is.
    let v = value_in g.S.Store c.args.store.now in
    let known = shown_info c.args.table.now in
    let old = c.args.store.now in
    let mid = c.known_state.new.store in
    let new = c.all_documents.new.store in
    let one = c.in_ok-known_state.ensures.asks.only in
    let two = c.in_ok-all_documents-in-Stale.ensures.looks.only in
    let rewrites = map shown_rewrite c.in_ok-rewrites-in-Stale.rewrites.items in
    let order = c.is_in_order.ensures.order in
    let stale : IsUp g.S.Store (with_tables new tables) → (contents : Contents) → AreHeld v tables contents → IsPutAnew v contents name known rewrites = λ up contents held.
    let t = told_here v tables contents name known order held is in
    let fits : FitsSigned w64 known.id = search rules in
    let stands = c.in_ok-known_state.ensures.told t.table.1.held (looks_up g.S.Store mid new tables tables two up).clean (subst (λ k. HasState v k t.table.1.held) t.told t.stands) in
    let id : to_z w64 (of_z w64 known.id) ≡ t.table.0 = to_z-of_z fits ∙ ap (λ (k : TableInfo). k.id) (sym t.told) in
    record {
      told = t;
      stale = sym c.in-Stale.is ∙ stands;
      all = λ content is_content rows.
          let has : HasRows g.S.Store (to_z w64 (of_z w64 known.id)) old new content = record { clean = up.clean; is_open = up.is_open; name = t.table.1.name; is_content = is_content; rows = ap (λ k. table_rows k v) id ∙ rows } in
          c.in_ok-rewrites-in-Stale.ensures ∙ ap (map new_rewrite) (c.in_ok-all_documents-in-Stale.ensures.told content (rows_then g.S.Store old mid new one two (to_z w64 (of_z w64 known.id)) content has));
    } in (
      λ changes are up contents held. subst (λ (cs : List Change). PlansFrom contents (plain.Rebuild name) v (Ok cs)) (sym are.are) (let s = stale up contents held in plan_stale v tables contents name known order held s.told rewrites are.rest s.stale s.all are.of_written.0 are.of_written.1),
      λ up contents held.
          let s = stale up contents held in
          let k = stale_content v tables contents name known order held s.told rewrites s.stale s.all in
          record { content = k.0; columns_are = k.1; are_of = k.2 },
    )

pub returns-in-Loose-clause-told : goal.returns-in-Loose-clause-told
returns-in-Loose-clause-told g c = λ tables name is up contents held.
    let v = value_in g.S.Store c.args.store.now in
    let known = shown_info c.args.table.now in
    let t = told_here v tables contents name known c.is_in_order.ensures.order held is in
    let stands = c.in_ok-known_state.ensures.told t.table.1.held up.clean (subst (λ k. HasState v k t.table.1.held) t.told t.stands) in
    plan_loose v tables contents name known c.is_in_order.ensures.order held t (sym c.in-Loose.is ∙ stands)
