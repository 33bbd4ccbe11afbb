-- all documents, or those that were found
use Rattle.std.proofs.Common.{ℕ, List, rules, ◌≡◌, [], map, string_bytes, Err, Ok, sym, ap, subst, refl}
use Rattle.ft_index.proofs.Common.{value_in, Fault, filter_of, deletion_of, shown_info, column_of, shown_rewrite, Contents, IsUnfit, AreHeld}
use Rattle.ft_index.proofs.Common.{ReachesStep}
use Rattle.ft_commands.specs.Command as plain
use Rattle.ft_index.proofs.Doing.{told_kept, does_failed, does_undone, does_made, done_blamed, no_look, err_of}
use Rattle.ft_index.proofs.RebuildPlans.{delete_reaches}
use Rattle.ft_index.proofs.DeleteWrites.{due, made, gone, leaves, replies, is_write, writes_table}
use Rattle.ft_index.proofs.Writing.{plans_unfit}
use Rattle.ft_index.proofs.GroupLemmas.{none_written}
use Rattle.ft_index.proofs.NoStore.{unfit_other}
use Rattle.ft_index.proofs.written.delete_from.Goals as goal
use Rattle.ft_index.proofs.written.delete_from.Goals.{After-make_anew}

-- to make the table anew without documents leads to what the command leaves
reaches_in : (g : _) (c : After-make_anew g) (contents : Contents) → AreHeld (value_in g.S.Store c.args.store.now) (map shown_info c.args.tables.now) contents → ReachesStep contents (deletion_of c.args.deletion.now) (value_in g.S.Store c.args.store.now) c.make_anew.ensures.changes
reaches_in g c contents held =
    let did = c.make_anew.ensures in
    let value = value_in g.S.Store c.args.store.now in
    subst (λ (x : plain.Command). ReachesStep contents x value did.changes) (λ i. plain.Delete (c.as_str.ensures.value i) (filter_of (sym c.in-All.is i)))
    (delete_reaches value (map shown_info c.args.tables.now) contents c.as_str.result.now did.changes did.of_anew c.is_in_order.ensures.order held c.in_ok-table.ensures (ap (map shown_rewrite) c.new-rewrites.ensures.items))

pub returns-in_err-table-clause-does : goal.returns-in_err-table-clause-does
returns-in_err-table-clause-does g c =
    let deletion = c.args.deletion.now in
    let f = filter_of deletion.filter in
    let name = string_bytes deletion.table in
    let tables = map shown_info c.args.tables.now in
    let old = c.args.store.now in
    let fault : Fault = c.in_err-table.field-0.0 in
    let is : c.from_residual.result ≡ Err fault = search rules in
    does_failed g.S.Store old old tables (deletion_of deletion) (no_look g.S.Store old) fault c.from_residual.result is
    (plans_unfit g.S.Store (deletion_of deletion) name (due f) (made f) (gone f) (is_write f name) old old tables fault (subst (λ (n : List ℕ). IsUnfit tables n fault) c.as_str.ensures.value c.in_err-table.ensures))

pub returns-in_err-make_anew-clause-does : goal.returns-in_err-make_anew-clause-does
returns-in_err-make_anew-clause-does g c =
    let old = c.args.store.now in
    let fault : Fault = c.in_err-make_anew.field-0.0 in
    let is : c.from_residual-in_err-make_anew.result ≡ Err fault = search rules in
    let refused : c.make_anew.result ≡ Err fault = search rules in
    let did = c.make_anew.ensures in
    does_undone g.S.Store old old (map shown_info c.args.tables.now) (deletion_of c.args.deletion.now) (no_look g.S.Store old) (λ clean is_open. is_open) c.make_anew.new.store did.changes c.make_anew.result did.makes
    (λ up. reaches_in g (goal.at.returns-in_err-make_anew-clause-does g c).After-make_anew) fault c.from_residual-in_err-make_anew.result is refused

pub returns-in-All-clause-does : goal.returns-in-All-clause-does
returns-in-All-clause-does g c =
    let deletion = c.args.deletion.now in
    let f = filter_of deletion.filter in
    let name = string_bytes deletion.table in
    let tables = map shown_info c.args.tables.now in
    let old = c.args.store.now in
    let done : c.make_anew.result ≡ Ok tt = search rules in
    let did = c.make_anew.ensures in
    does_made g.S.Store old old tables (deletion_of deletion) (no_look g.S.Store old) (λ clean is_open. is_open) c.make_anew.new.store did.changes c.make_anew.result did.makes
    (λ up. reaches_in g (goal.at.returns-in-All-clause-does g c).After-make_anew) tables done
    (told_kept (value_in g.S.Store old) tables (deletion_of deletion) name (made f) (leaves f name)) (replies f name)

pub returns-clause-does : goal.returns-clause-does
returns-clause-does g c =
    let deletion = c.args.deletion.now in
    c.write_found.ensures.answers c.args.store.now (map shown_info c.args.tables.now) (deletion_of deletion) (writes_table (filter_of deletion.filter) (string_bytes deletion.table)) c.delete_written-written.ensures.told c.delete_written-written.ensures.looks

pub returns-in_err-table-clause-refused : goal.returns-in_err-table-clause-refused
returns-in_err-table-clause-refused g c = λ contents held clean told. absurd (unfit_other (map shown_info c.args.tables.now) c.as_str.result.now c.in_err-table.field-0.0 c.in_err-table.ensures (err_of c.from_residual.result c.in_err-table.field-0.0 (search rules) told))

pub returns-in_err-make_anew-clause-refused : goal.returns-in_err-make_anew-clause-refused
returns-in_err-make_anew-clause-refused g c =
    let old = c.args.store.now in
    let did = c.make_anew.ensures in
    let none : map shown_rewrite c.new-rewrites.result.items ≡ [] = ap (map shown_rewrite) c.new-rewrites.ensures.items in
    done_blamed g.S.Store old old (map shown_info c.args.tables.now) (deletion_of c.args.deletion.now) (no_look g.S.Store old) (λ clean is_open. is_open) c.make_anew.new.store did.changes c.make_anew.result did.makes
    (λ up. reaches_in g (goal.at.returns-in_err-make_anew-clause-refused g c).After-make_anew)
    c.from_residual-in_err-make_anew.result refl (λ _ _ _. did.own (none_written (map column_of c.in_ok-table.table.now.columns.items) _ refl none)) (λ told. search rules) did.refused

pub returns-clause-refused : goal.returns-clause-refused
returns-clause-refused g c =
    c.write_found.ensures.refused c.args.store.now (map shown_info c.args.tables.now) (deletion_of c.args.deletion.now) refl c.delete_written-written.ensures.told c.delete_written-written.ensures.looks c.delete_written-written.ensures.refused
