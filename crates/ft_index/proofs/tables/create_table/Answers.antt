-- by what is made, and what the store does
use Rattle.std.proofs.Common.{rules, refl, inl, inr, ◌≡◌, ◌∷◌, [], List, map, Option, Ok, Err, None, Some, Result, sym, ap, subst, ◌∙◌}
use Rattle.ft_index.proofs.Common.{Ghosts, StoreState, shows, value_in, CantPutAll, Change, shown_change, Fault, Reply, Contents, shown_info}
use Rattle.ft_index.proofs.Common.{creation_of, with_info, AreHeld, ReachesStep, table_info, PlansTable, table_change, Does, MakesRows, with_tables}
use Rattle.ft_index.proofs.Common.{behind}
use Rattle.ft_values.specs.declared.table.TableInfo.{TableInfo}
use Rattle.ft_content.specs.Views.{TableInfo as PlainInfo}
use Rattle.ft_commands.specs.declared.command.Reply.TheVariants as replies
use Rattle.ft_commands.specs.declared.command.Creation.{Creation}
use Rattle.ft_values.specs.declared.fault.Fault.TheVariants as faults
use Rattle.ft_index.proofs.Doing.{made_can, no_rewrites, does_read, does_failed, does_undone, does_made, done_blamed, reached, no_look}
use Rattle.ft_index.proofs.TablePlans.{made_is_held, create_kept, create_reply, create_refused, create_makes}
use Rattle.ft_index.proofs.tables.create_table.Goals as goal
use Rattle.ft_index.proofs.tables.create_table.Goals.{After-made_table, After-change_rows}

-- what is made of contents that the tables are of
makes_in : (g : _) (c : After-made_table g) (made : Result (Option TableInfo) Fault) → c.made_table.result ≡ made → (contents : Contents) → map shown_info c.args.tables.now.items ≡ map table_info contents → PlansTable contents c.args.creation.now made
makes_in g c made is contents told = subst (PlansTable contents c.args.creation.now) is (c.made_table.ensures.makes contents (ap (map shown_info) c.as_slice.ensures.value ∙ told))

reaches_in : (g : _) (c : After-made_table g) (made : TableInfo) → c.made_table.result ≡ Ok (Some made) → (contents : Contents) → AreHeld (value_in g.S.Store c.args.store.now) (map shown_info c.args.tables.now.items) contents →
    ReachesStep contents (creation_of c.args.creation.now) (value_in g.S.Store c.args.store.now) (table_change made ∷ [])
reaches_in g c made is contents held = reached contents (creation_of c.args.creation.now) (value_in g.S.Store c.args.store.now) (table_change made ∷ []) (create_makes contents c.args.creation.now (value_in g.S.Store c.args.store.now) (map shown_info c.args.tables.now.items) made c.is_in_order.ensures.order held (makes_in g c _ is contents held.told))

pub returns-in_err-made-clause-does : goal.returns-in_err-made-clause-does
returns-in_err-made-clause-does g c =
    let fault : Fault = c.in_err-made.field-0.0 in
    let is : c.from_residual.result ≡ Err fault = search rules in
    let made : c.made_table.result ≡ Err fault = search rules in
    let old = c.args.store.now in
    let tables = map shown_info c.args.tables.now.items in
    does_failed g.S.Store old old tables (creation_of c.args.creation.now) (no_look g.S.Store old) fault c.from_residual.result is
    (λ up contents held. create_refused contents c.args.creation.now (value_in g.S.Store old) tables fault (makes_in g (goal.at.returns-in_err-made-clause-does g c).After-made_table _ made contents held.told))

-- where memory lacks, nothing is made
lacks : {S : Type 0} (g : Ghosts S) (old : StoreState S) (tables : List PlainInfo) (creation : Creation) (answer : Result Reply Fault) → answer ≡ Err faults.Memory → Does g (with_tables old tables) (creation_of creation) answer (with_tables old tables)
lacks g old tables creation answer is = does_failed g old old tables (creation_of creation) (no_look g old) faults.Memory answer is (λ up contents held. inl refl)

pub returns-in_err-adding-clause-does : goal.returns-in_err-adding-clause-does
returns-in_err-adding-clause-does g c = lacks g.S.Store c.args.store.now (map shown_info c.args.tables.now.items) c.args.creation.now _ (search rules)

pub returns-in_err-changes-clause-does : goal.returns-in_err-changes-clause-does
returns-in_err-changes-clause-does g c = lacks g.S.Store c.args.store.now (map shown_info c.args.tables.now.items) c.args.creation.now _ (search rules)

pub returns-in_err-place-clause-does : goal.returns-in_err-place-clause-does
returns-in_err-place-clause-does g c =
    let same : c.insert_table.new.tables.items ≡ c.args.tables.now.items = search rules in
    subst (λ (ts : List TableInfo). Does g.S.Store (with_tables c.args.store.now (map shown_info c.args.tables.now.items)) (creation_of c.args.creation.now) c.from_residual-in_err-place.result (with_tables c.args.store.now (map shown_info ts))) (sym same)
    (lacks g.S.Store c.args.store.now (map shown_info c.args.tables.now.items) c.args.creation.now _ (search rules))

pub returns-in_default-clause-does : goal.returns-in_default-clause-does
returns-in_default-clause-does g c =
    let none : c.made_table.result ≡ Ok None = search rules in
    does_read g.S.Store c.args.store.now c.args.store.now (map shown_info c.args.tables.now.items) (creation_of c.args.creation.now) (no_look g.S.Store c.args.store.now) (Ok replies.Done) (λ clean is_open. is_open)
    (λ up contents held. inr (create_kept contents c.args.creation.now (makes_in g (goal.at.returns-in_default-clause-does g c).After-made_table _ none contents held.told)))

-- the one change
makes_one : (g : _) (c : After-change_rows g) → MakesRows g.S.Store c.args.store.now c.change_rows.new.store (table_change c.in-Some.made ∷ []) c.change_rows.result
makes_one g c =
    let same : map shown_change c.as_slice-2.result.now ≡ table_change c.in-Some.made ∷ [] = search rules in
    subst (λ (cs : List Change). MakesRows g.S.Store c.args.store.now c.change_rows.new.store cs c.change_rows.result) same c.change_rows.ensures.makes

pub returns-in-Err-clause-does : goal.returns-in-Err-clause-does
returns-in-Err-clause-does g c =
    let old = c.args.store.now in
    let tables = map shown_info c.args.tables.now.items in
    let command = creation_of c.args.creation.now in
    let made : c.made_table.result ≡ Ok (Some c.in-Some.made) = search rules in
    let told : map shown_info c.remove.new.self.items ≡ tables = ap (map shown_info) (c.remove.ensures.items ∙ c.in_ok-place.ensures.back.1) in
    subst (λ (ts : List PlainInfo). Does g.S.Store (with_tables old tables) command (Err c.in-Err.fault) (with_tables c.change_rows.new.store ts)) (sym told)
    (does_undone g.S.Store old old tables command (no_look g.S.Store old) (λ clean is_open. is_open) c.change_rows.new.store (table_change c.in-Some.made ∷ []) c.change_rows.result (makes_one g (goal.at.returns-in-Err-clause-does g c).After-change_rows)
    (λ up. reaches_in g (goal.at.returns-in-Err-clause-does g c).After-made_table c.in-Some.made made) c.in-Err.fault (Err c.in-Err.fault) refl (search rules))

pub returns-clause-does : goal.returns-clause-does
returns-clause-does g c =
    let at = (goal.at.returns-clause-does g c).After-made_table in
    let old = c.args.store.now in
    let tables = map shown_info c.args.tables.now.items in
    let creation = c.args.creation.now in
    let command = creation_of creation in
    let made : c.made_table.result ≡ Ok (Some c.in-Some.made) = search rules in
    let added : c.change_rows.result ≡ Ok tt = search rules in
    subst (λ (ts : List PlainInfo). Does g.S.Store (with_tables old tables) command (Ok replies.Done) (with_tables c.change_rows.new.store ts)) (sym c.in_ok-place.ensures.added)
    (does_made g.S.Store old old tables command (no_look g.S.Store old) (λ clean is_open. is_open) c.change_rows.new.store (table_change c.in-Some.made ∷ []) c.change_rows.result (makes_one g (goal.at.returns-clause-does g c).After-change_rows) (λ up. reaches_in g at c.in-Some.made made) (with_info (shown_info c.in-Some.made) tables) added
    (λ contents held fine. (made_is_held contents creation c.in-Some.made (value_in g.S.Store old) tables (makes_in g at _ made contents held.told) c.is_in_order.ensures.order held).told) (λ contents. create_reply contents creation))

pub returns-in_err-made-clause-refused : goal.returns-in_err-made-clause-refused
returns-in_err-made-clause-refused g c = λ contents held clean told. absurd (c.made_table.ensures.never (search rules))

pub returns-in-Err-clause-refused : goal.returns-in-Err-clause-refused
returns-in-Err-clause-refused g c =
    let old = c.args.store.now in
    let made : c.made_table.result ≡ Ok (Some c.in-Some.made) = search rules in
    let answer : Result Reply Fault = Err c.in-Err.fault in
    let same : map shown_change c.as_slice-2.result.now ≡ table_change c.in-Some.made ∷ [] = search rules in
    done_blamed g.S.Store old old (map shown_info c.args.tables.now.items) (creation_of c.args.creation.now) (no_look g.S.Store old) (λ clean is_open. is_open) c.change_rows.new.store (table_change c.in-Some.made ∷ []) c.change_rows.result (makes_one g (goal.at.returns-in-Err-clause-refused g c).After-change_rows)
    (λ up. reaches_in g (goal.at.returns-in-Err-clause-refused g c).After-made_table c.in-Some.made made)
    answer refl (λ _ _ _. behind _ _ _ _ [] (no_rewrites _ [])) (λ told. search rules) (λ clean told. elim (c.change_rows.ensures.refused (made_can _ _ _ _ c.as_slice-2.result.now same) clean told) [
      | inl blamed ↦ inl blamed
      | inr cant ↦ inr (inl (subst (CantPutAll (shows g.S.Store old).now.trees) same cant))
    ])
