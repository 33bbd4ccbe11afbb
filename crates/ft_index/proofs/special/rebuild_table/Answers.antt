-- by what is to be made anew, and what the store does
use Rattle.std.proofs.Common.{rules, ◌≡◌, inl, refl, List, map, Option, Some, Ok, Err, Result, sym, ap, subst, ◌∙◌, FitsSigned, w64, to_z-of_z}
use Rattle.ft_index.proofs.Common.{value_in, Fault, TableInfo, shown_info, info_named, with_sound, Does, with_tables, Contents, Written, AreHeld}
use Rattle.ft_index.proofs.Common.{IsUp, ReachesStep, RebuildsIn}
use Rattle.ft_commands.specs.declared.command.Reply.TheVariants as replies
use Rattle.ft_commands.specs.Command as plain
use Rattle.ft_index.proofs.OpenedTables.{told_here}
use Rattle.ft_index.proofs.Doing.{does_failed, does_undone, does_made, done_blamed, reached, no_look, err_of}
use Rattle.ft_index.proofs.RebuildPlans.{plan_missing, told_after, rebuild_reply}
use Rattle.ft_index.proofs.special.rebuild_table.Goals as goal
use Rattle.ft_index.proofs.special.rebuild_table.Goals.{After-rebuilt, After-make_anew}

pub returns-in_err-known-clause-does : goal.returns-in_err-known-clause-does
returns-in_err-known-clause-does g c =
    let tables = map shown_info c.args.tables.now.items in
    let command = plain.Rebuild c.args.table.now in
    let old = c.args.store.now in
    let fault : Fault = c.in_err-known.field-0.0 in
    let is : c.from_residual.result ≡ Err fault = search rules in
    let missing = c.in_err-known.ensures in
    let none = ap (λ ts. info_named (map shown_info ts) c.args.table.now) (sym c.as_slice.ensures.value) ∙ missing.1 in
    does_failed g.S.Store old old tables command (no_look g.S.Store old) fault c.from_residual.result is
    (λ up first holds. plan_missing (value_in g.S.Store old) tables first c.args.table.now fault holds (missing.0, none))

named_in : (g : _) (c : After-rebuilt g) → info_named (map shown_info c.args.tables.now.items) c.args.table.now ≡ Some (shown_info c.in_ok-known.known.now)
named_in g c = ap (λ ts. info_named (map shown_info ts) c.args.table.now) (sym c.as_slice.ensures.value) ∙ c.in_ok-known.ensures

-- what the reads lead to
rebuilds_in : (g : _) (c : After-rebuilt g) (anew : Result (Option Written) Fault) → c.rebuilt.result ≡ anew → RebuildsIn g.S.Store (map shown_info c.args.tables.now.items) c.args.store.now c.rebuilt.new.store (plain.Rebuild c.args.table.now) anew
rebuilds_in g c anew is =
    let tables = map shown_info c.args.tables.now.items in
    subst (RebuildsIn g.S.Store tables c.args.store.now c.rebuilt.new.store (plain.Rebuild c.args.table.now)) is (c.rebuilt.ensures.told tables c.args.table.now (named_in g c))

reaches_in : (g : _) (c : After-make_anew g) → IsUp g.S.Store (with_tables c.rebuilt.new.store (map shown_info c.args.tables.now.items)) → (first : Contents) → AreHeld (value_in g.S.Store c.args.store.now) (map shown_info c.args.tables.now.items) first →
    ReachesStep first (plain.Rebuild c.args.table.now) (value_in g.S.Store c.args.store.now) c.make_anew.ensures.changes
reaches_in g c up first held =
    let did = c.make_anew.ensures in
    reached first (plain.Rebuild c.args.table.now) (value_in g.S.Store c.args.store.now) did.changes ((rebuilds_in g (goal.at.After-make_anew g c).After-rebuilt (Ok c.in_ok-anew.anew) (search rules)).0 did.changes did.of_anew up first held)

pub returns-in_err-anew-clause-does : goal.returns-in_err-anew-clause-does
returns-in_err-anew-clause-does g c =
    let fault : Fault = c.in_err-anew.field-0.0 in
    let is : c.from_residual-in_err-anew.result ≡ Err fault = search rules in
    let failed : c.rebuilt.result ≡ Err fault = search rules in
    does_failed g.S.Store c.args.store.now c.rebuilt.new.store (map shown_info c.args.tables.now.items) (plain.Rebuild c.args.table.now) c.rebuilt.ensures.looks.only fault c.from_residual-in_err-anew.result is
    (rebuilds_in g (goal.at.returns-in_err-anew-clause-does g c).After-rebuilt _ failed)

pub returns-in_err-make_anew-clause-does : goal.returns-in_err-make_anew-clause-does
returns-in_err-make_anew-clause-does g c =
    let did = c.make_anew.ensures in
    let fault : Fault = c.in_err-make_anew.field-0.0 in
    let is : c.from_residual-in_err-make_anew.result ≡ Err fault = search rules in
    let refused : c.make_anew.result ≡ Err fault = search rules in
    does_undone g.S.Store c.args.store.now c.rebuilt.new.store (map shown_info c.args.tables.now.items) (plain.Rebuild c.args.table.now) c.rebuilt.ensures.looks.only c.in_ok-anew.ensures.looks.live c.make_anew.new.store did.changes c.make_anew.result did.makes
    (reaches_in g (goal.at.returns-in_err-make_anew-clause-does g c).After-make_anew) fault c.from_residual-in_err-make_anew.result is refused

pub returns-clause-does : goal.returns-clause-does
returns-clause-does g c =
    let tables = map shown_info c.args.tables.now.items in
    let command = plain.Rebuild c.args.table.now in
    let old = c.args.store.now in
    let known = shown_info c.in_ok-known.known.now in
    let named = named_in g (goal.at.returns-clause-does g c).After-rebuilt in
    let did = c.make_anew.ensures in
    let value = value_in g.S.Store old in
    let after = with_sound known.id tables in
    let done : c.make_anew.result ≡ Ok tt = search rules in
    let fits : FitsSigned w64 known.id = search rules in
    let told : map shown_info c.mark_sound.new.tables.items ≡ after = c.mark_sound.ensures ∙ ap (λ k. with_sound k tables) (to_z-of_z fits) in
    subst (λ (ts : List TableInfo). Does g.S.Store (with_tables old tables) command (Ok replies.Done) (with_tables c.make_anew.new.store ts)) (sym told)
    (does_made g.S.Store old c.rebuilt.new.store tables command c.rebuilt.ensures.looks.only c.in_ok-anew.ensures.looks.live c.make_anew.new.store did.changes c.make_anew.result did.makes
    (reaches_in g (goal.at.returns-clause-does g c).After-make_anew) after done
    (λ contents held fine. told_after value tables contents c.args.table.now known (told_here value tables contents c.args.table.now known c.is_in_order.ensures.order held named) held.told fine)
    (λ contents. rebuild_reply contents c.args.table.now))

pub returns-in_err-known-clause-refused : goal.returns-in_err-known-clause-refused
returns-in_err-known-clause-refused g c = λ contents held clean told. absurd (let no = sym c.in_err-known.ensures.0 ∙ err_of c.from_residual.result c.in_err-known.field-0.0 (search rules) told in cc)

pub returns-in_err-anew-clause-refused : goal.returns-in_err-anew-clause-refused
returns-in_err-anew-clause-refused g c = λ contents held clean told. inl (c.rebuilt.ensures.refused clean (search rules))

pub returns-in_err-make_anew-clause-refused : goal.returns-in_err-make_anew-clause-refused
returns-in_err-make_anew-clause-refused g c =
    let did = c.make_anew.ensures in
    let at = goal.at.returns-in_err-make_anew-clause-refused g c in
    done_blamed g.S.Store c.args.store.now c.rebuilt.new.store (map shown_info c.args.tables.now.items) (plain.Rebuild c.args.table.now) c.rebuilt.ensures.looks.only c.in_ok-anew.ensures.looks.live c.make_anew.new.store did.changes c.make_anew.result did.makes (reaches_in g at.After-make_anew)
    c.from_residual-in_err-make_anew.result refl (λ up contents held. did.own ((rebuilds_in g at.After-rebuilt (Ok c.in_ok-anew.anew) (search rules)).1 up contents held)) (λ told. search rules) did.refused
