-- by the table that is found, its query, and what was read
use Rattle.std.proofs.Common.{◌≡◌, ℕ, ℤ, List, Option, Result, Err, map, option_map, Bor, string_bytes, sym, subst, ◌∙◌, to_z, of_z, w64, to_z-of_z, FitsSigned, rules, refl}
use Rattle.ft_index.proofs.Common.{Tree, tree_of, Fault, Reply, RustTableInfo, answer_names, answer, Content, bare_content, shown_info, column_of}
use Rattle.ft_index.proofs.Common.{items_of, filter_of, selection_of, texts_of, answer_of, IsUnfit, IsSoundNamed, with_tables, Executes, IsAsked}
use Rattle.ft_index.proofs.Common.{value_in}
use Rattle.ft_values.specs.declared.table.Column.{Column}
use Rattle.ft_commands.specs.Views.{grid_of}
use Rattle.ft_index.proofs.Doing.{executes_read, fault_answers, no_look, over_sound, has_at}
use Rattle.ft_index.proofs.SelectAnswers.{names_bare, reads_passed, passed_tree, select_unplanned, select_fails, select_done, select_counts}
use Rattle.ft_index.proofs.select.select_from.Goals as goal
use Rattle.ft_index.proofs.select.select_from.Goals.{After-selected_rows}

pub returns-in_err-info-clause-executes : goal.returns-in_err-info-clause-executes
returns-in_err-info-clause-executes g c =
    let fault : Fault = c.in_err-info.field-0.0 in
    let is : c.from_residual.result ≡ Err fault = search rules in
    let tables = map shown_info c.args.tables.now in
    let select = c.args.select.now in
    let unfit : IsUnfit tables (string_bytes select.table) fault = subst (λ (n : List ℕ). IsUnfit tables n fault) c.as_str.ensures.value c.in_err-info.ensures in
    subst (λ (a : Result Reply Fault). Executes g.S.Store (with_tables c.args.store.now tables) (selection_of select) (answer_of a) (with_tables c.args.store.now tables)) (sym is)
    (executes_read g.S.Store c.args.store.now c.args.store.now tables (selection_of select) (Err fault) (no_look g.S.Store c.args.store.now) (λ up first held.
    fault_answers first (selection_of select) fault (select_unplanned first (string_bytes select.table) (items_of select.items) (filter_of select.filter) select.limit select.offset (value_in g.S.Store c.args.store.now) tables held fault unfit)))

pub returns-in_err-query-clause-executes : goal.returns-in_err-query-clause-executes
returns-in_err-query-clause-executes g c =
    let fault : Fault = c.in_err-query.field-0.0 in
    let is : c.from_residual-in_err-query.result ≡ Err fault = search rules in
    let tables = map shown_info c.args.tables.now in
    let select = c.args.select.now in
    let info : RustTableInfo = c.in_ok-info.info.now in
    let named : IsSoundNamed tables (string_bytes select.table) (shown_info info) = subst (λ (n : List ℕ). IsSoundNamed tables n (shown_info info)) c.as_str.ensures.value c.in_ok-info.ensures in
    subst (λ (a : Result Reply Fault). Executes g.S.Store (with_tables c.args.store.now tables) (selection_of select) (answer_of a) (with_tables c.args.store.now tables)) (sym is)
    (executes_read g.S.Store c.args.store.now c.args.store.now tables (selection_of select) (Err fault) (no_look g.S.Store c.args.store.now) (λ up first held.
    fault_answers first (selection_of select) fault (select_fails first (string_bytes select.table) (items_of select.items) (filter_of select.filter) select.limit select.offset (value_in g.S.Store c.args.store.now) tables held (shown_info info) named fault c.in_err-query.ensures.fault)))

-- what is asked for as it was passed
asked_in : (g : _) (c : After-selected_rows g) (content : Content) → IsAsked g.S.Store c.in_ok-info.info.now.id (map column_of c.in_ok-info.info.now.columns.items) (items_of c.args.select.now.items) (filter_of c.args.select.now.filter) (option_map tree_of c.in_ok-query.query) c.args.store.now c.selected_rows.new.store content →
    IsAsked g.S.Store (to_z w64 (of_z w64 c.in_ok-info.info.now.id)) (map column_of c.as_slice-columns.result.now) (items_of c.args.select.now.items) (filter_of c.args.select.now.filter) (option_map (λ q. tree_of q.now) c.as_ref.result) c.args.store.now c.selected_rows.new.store content
asked_in g c content asked =
    let items = items_of c.args.select.now.items in
    let f = filter_of c.args.select.now.filter in
    let info : RustTableInfo = c.in_ok-info.info.now in
    let columns = map column_of info.columns.items in
    let query : Option Tree = option_map {T = Bor _} (λ q. tree_of q.now) c.as_ref.result in
    let first = c.args.store.now in
    let last = c.selected_rows.new.store in
    let fits : FitsSigned w64 info.id = search rules in
    subst (λ (cs : List Column). IsAsked g.S.Store (to_z w64 (of_z w64 info.id)) (map column_of cs) items f query first last content) (sym c.as_slice-columns.ensures.value)
    (subst (λ (k : ℤ). IsAsked g.S.Store k columns items f query first last content) (sym (to_z-of_z fits))
    (subst (λ (q : Option Tree). IsAsked g.S.Store info.id columns items f q first last content) (sym (passed_tree tree_of c.as_ref.result c.in_ok-query.query c.as_ref.ensures.value)) asked))

pub returns-clause-executes : goal.returns-clause-executes
unfolding answer
returns-clause-executes g c =
    let tables = map shown_info c.args.tables.now in
    let select = c.args.select.now in
    let items = items_of select.items in
    let info : RustTableInfo = c.in_ok-info.info.now in
    let columns = map column_of info.columns.items in
    let named : IsSoundNamed tables (string_bytes select.table) (shown_info info) = subst (λ (n : List ℕ). IsSoundNamed tables n (shown_info info)) c.as_str.ensures.value c.in_ok-info.ensures in
    select_done g.S.Store c.args.store.now c.selected_rows.new.store tables (string_bytes select.table) items (filter_of select.filter) select.limit select.offset c.in_ok-rows.ensures.looks.only
    (shown_info info) named c.is_in_order.ensures.order (option_map tree_of c.in_ok-query.query) (grid_of (record { names = c.in_ok-names.names; rows = c.in_ok-rows.rows })) c.in_ok-query.ensures.fine c.in_ok-query.ensures.query (λ content asked.
    let rows = c.in_ok-rows.ensures.told content (asked_in g (goal.at.returns-clause-executes g c).After-selected_rows content asked) in
    let names : texts_of c.in_ok-names.names ≡ answer_names (string_bytes info.name) content items =
    c.in_ok-names.ensures ∙ (λ i. answer_names (c.as_str-2.ensures.value i) (bare_content (c.as_slice-columns.ensures.value i)) items) ∙ names_bare (string_bytes info.name) columns content items asked.columns in
    λ i. record { names = names i; rows = rows i })

pub returns-clause-counts : goal.returns-clause-counts
returns-clause-counts g c =
    let tables = map shown_info c.args.tables.now in
    let select = c.args.select.now in
    let info : RustTableInfo = c.in_ok-info.info.now in
    let named : IsSoundNamed tables (string_bytes select.table) (shown_info info) = subst (λ (n : List ℕ). IsSoundNamed tables n (shown_info info)) c.as_str.ensures.value c.in_ok-info.ensures in
    select_counts g.S.Store c.args.store.now c.selected_rows.new.store tables (string_bytes select.table) (items_of select.items) (filter_of select.filter) select.limit select.offset c.in_ok-rows.ensures.looks.only
    (shown_info info) named c.is_in_order.ensures.order (option_map tree_of c.in_ok-query.query) (grid_of (record { names = c.in_ok-names.names; rows = c.in_ok-rows.rows })) c.in_ok-query.ensures.fine c.in_ok-query.ensures.query
    (λ content asked. c.in_ok-rows.ensures.counted content (asked_in g (goal.at.returns-clause-counts g c).After-selected_rows content asked))

pub returns-in_err-rows-clause-refused : goal.returns-in_err-rows-clause-refused
returns-in_err-rows-clause-refused g c = λ contents held clean told.
    let info : RustTableInfo = c.in_ok-info.info.now in
    let over = over_sound (value_in g.S.Store c.args.store.now) (map shown_info c.args.tables.now) contents c.as_str.result.now (shown_info info) c.is_in_order.ensures.order held c.in_ok-info.ensures in
    let reads = reads_passed tree_of info.columns.items over.content (filter_of c.args.select.now.filter) c.as_ref.result c.in_ok-query.query c.as_ref.ensures.value over.columns_are c.in_ok-query.ensures.query in
    let fits : FitsSigned w64 info.id = search rules in
    c.selected_rows.ensures.refused (string_bytes info.name) over.content (has_at refl (sym (to_z-of_z fits)) over.has) reads clean (search rules)
