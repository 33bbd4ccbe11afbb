-- by the plan, and what the store does
use Rattle.std.proofs.Common.{All, rules, inl, inr, ◌≡◌, List, map, Ok, Err, None, Result, Vec, Global, refl, sym, ap, subst, ◌∙◌, FitsSigned, w64, to_z, of_z, to_z-of_z}
use Rattle.ft_index.proofs.Common.{shown_change, TakesOut, value_in, shows, RowChange, Fault, RustTableInfo, same_name, Contents, TableInfo}
use Rattle.ft_index.proofs.Common.{shown_info, info_named, without_info, AreHeld, PlansFrom, ReachesStep, table_info, changes_of, Does, with_tables}
use Rattle.std.proofs.lemmas.Option.{slice_get_read, slice_get_within, same_Some}
use Rattle.ft_store.proofs.{nothing_put}
use Rattle.ft_commands.specs.declared.command.Reply.TheVariants as replies
use Rattle.ft_commands.specs.Command as plain
use Rattle.ft_content.specs.Step.{after as after_step}
use Rattle.ft_documents.proofs.{placed, unplaced}
use Rattle.ft_index.proofs.Doing.{does_failed, does_undone, does_made, reached, no_look, takes_can}
use Rattle.ft_index.proofs.TablePlans.{told_dropped, told_spared, drop_done}
use Rattle.ft_index.proofs.tables.drop_table.Goals as goal
use Rattle.ft_index.proofs.tables.drop_table.Goals.{After-drop_changes, After-change_rows, in-Some, in_default}

-- what is planned over what the store holds
planned_in : (g : _) (c : After-drop_changes g) (planned : Result (Vec RowChange Global) Fault) → c.drop_changes.result ≡ planned → (contents : Contents) → AreHeld (value_in g.S.Store c.args.store.now) (map shown_info c.args.tables.now.items) contents →
    PlansFrom contents (plain.Drop c.args.table.now c.args.if_there) (value_in g.S.Store c.args.store.now) (changes_of planned)
planned_in g c planned is contents held =
    let value = value_in g.S.Store c.args.store.now in
    subst (λ (r : Result (Vec RowChange Global) Fault). PlansFrom contents (plain.Drop c.args.table.now c.args.if_there) value (changes_of r)) is
    (c.drop_changes.ensures.plans value contents c.is_in_order.ensures.order (subst (λ ts. AreHeld value (map shown_info ts) contents) (sym c.as_slice.ensures.value) held))

reaches_in : (g : _) (c : After-change_rows g) (contents : Contents) → AreHeld (value_in g.S.Store c.args.store.now) (map shown_info c.args.tables.now.items) contents →
    ReachesStep contents (plain.Drop c.args.table.now c.args.if_there) (value_in g.S.Store c.args.store.now) (map shown_change c.as_slice-2.result.now)
reaches_in g c contents held =
    let planned : c.drop_changes.result ≡ Ok c.in_ok-changes.changes = search rules in
    subst (λ (cs : List RowChange). ReachesStep contents (plain.Drop c.args.table.now c.args.if_there) (value_in g.S.Store c.args.store.now) (map shown_change cs)) (sym c.as_slice-2.ensures.value)
    (reached contents (plain.Drop c.args.table.now c.args.if_there) (value_in g.S.Store c.args.store.now) (map shown_change c.in_ok-changes.changes.items) (planned_in g (goal.at.After-change_rows g c).After-drop_changes _ planned contents held))

pub returns-in_err-changes-clause-does : goal.returns-in_err-changes-clause-does
returns-in_err-changes-clause-does g c =
    let fault : Fault = c.in_err-changes.field-0.0 in
    let is : c.from_residual.result ≡ Err fault = search rules in
    let planned : c.drop_changes.result ≡ Err fault = search rules in
    let old = c.args.store.now in
    does_failed g.S.Store old old (map shown_info c.args.tables.now.items) (plain.Drop c.args.table.now c.args.if_there) (no_look g.S.Store old) fault c.from_residual.result is
    (λ up. planned_in g (goal.at.returns-in_err-changes-clause-does g c).After-drop_changes _ planned)

pub returns-in_err-change_rows-clause-does : goal.returns-in_err-change_rows-clause-does
returns-in_err-change_rows-clause-does g c =
    let fault : Fault = c.in_err-change_rows.field-0.0 in
    let is : c.from_residual-in_err-change_rows.result ≡ Err fault = search rules in
    let refused : c.change_rows.result ≡ Err fault = search rules in
    let old = c.args.store.now in
    does_undone g.S.Store old old (map shown_info c.args.tables.now.items) (plain.Drop c.args.table.now c.args.if_there) (no_look g.S.Store old) (λ clean is_open. is_open) c.change_rows.new.store (map shown_change c.as_slice-2.result.now) c.change_rows.result c.change_rows.ensures.makes
    (λ up. reaches_in g (goal.at.returns-in_err-change_rows-clause-does g c).After-change_rows) fault c.from_residual-in_err-change_rows.result is refused

pub returns-clause-does : goal.returns-clause-does
returns-clause-does g c =
    let old = c.args.store.now in
    let tables = map shown_info c.args.tables.now.items in
    let name = c.args.table.now in
    let command = plain.Drop name c.args.if_there in
    let value = value_in g.S.Store old in
    let done : c.change_rows.result ≡ Ok tt = search rules in
    let here : c.as_slice-known.result.now ≡ c.args.tables.now.items = c.as_slice-known.ensures.value in
    let does : (after : List TableInfo) → map shown_info c.match-table_place.tables.items ≡ after → ((contents : Contents) → AreHeld value tables contents → after ≡ map table_info (after_step contents command)) → Does g.S.Store (with_tables old tables) command (Ok replies.Done) (with_tables c.change_rows.new.store (map shown_info c.match-table_place.tables.items)) = λ after told are.
    subst (λ (ts : List TableInfo). Does g.S.Store (with_tables old tables) command (Ok replies.Done) (with_tables c.change_rows.new.store ts)) (sym told)
    (does_made g.S.Store old old tables command (no_look g.S.Store old) (λ clean is_open. is_open) c.change_rows.new.store (map shown_change c.as_slice-2.result.now) c.change_rows.result c.change_rows.ensures.makes
    (λ up. reaches_in g (goal.at.returns-clause-does g c).After-change_rows) after done (λ contents held fine. are contents held) (λ contents. drop_done contents name c.args.if_there)) in
    elim c.match-table_place.branch [
      | in-Some w ↦
          let s = placed shown_info (λ (t : TableInfo). same_name t.name name) c.as_slice-known.result.now w.in-Some.place (sym c.table_place.ensures ∙ w.in-Some.is) in
          let named = ap (λ ts. info_named (map shown_info ts) name) (sym here) ∙ s.found in
          let fits : FitsSigned w64 w.index-known-place.result.id = search rules in
          does (without_info s.item.id tables)
          (ap (λ (v : Vec RustTableInfo Global). map shown_info v.items) w.tables-is ∙ w.remove_table.ensures
          ∙ ap (λ (t : RustTableInfo). without_info (to_z w64 (of_z w64 t.id)) tables) (sym w.index-known-place.is)
          ∙ ap (λ k. without_info k tables) (to_z-of_z fits)
          ∙ ap (λ (t : RustTableInfo). without_info t.id tables) (same_Some w.index-known-place.result s.item (sym (slice_get_read c.as_slice-known.result.now _ w.in-Some.place w.index-known-place.result refl (slice_get_within c.as_slice-known.result.now w.in-Some.place s.item s.is) w.index-known-place.is) ∙ s.is)))
          (λ contents held. told_dropped value tables contents name c.args.if_there (shown_info s.item) c.is_in_order.ensures.order held named)
      | in_default w ↦
          let none : c.table_place.result ≡ None = search rules in
          let named = ap (λ ts. info_named (map shown_info ts) name) (sym here) ∙ unplaced shown_info (λ (t : TableInfo). same_name t.name name) c.as_slice-known.result.now (sym c.table_place.ensures ∙ none) in
          does tables (ap (λ (v : Vec RustTableInfo Global). map shown_info v.items) w.tables-is) (λ contents held. told_spared value tables contents name c.args.if_there held named)
    ]

pub returns-in_err-change_rows-clause-refused : goal.returns-in_err-change_rows-clause-refused
returns-in_err-change_rows-clause-refused g c = λ clean is.
    let changes = c.as_slice-2.result.now in
    let takes = subst (All TakesOut) (sym c.as_slice-2.ensures.value) c.in_ok-changes.ensures.drops in
    elim (c.change_rows.ensures.refused (takes_can changes takes) clean (search rules)) [
      | inl blamed ↦ blamed
      | inr cant ↦ absurd (nothing_put (shows g.S.Store c.args.store.now).now.trees changes takes cant)
    ]
