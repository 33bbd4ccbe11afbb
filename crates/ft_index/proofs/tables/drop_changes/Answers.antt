-- the table of the name is the one that goes
use Rattle.std.proofs.Common.{inr, ◌≡◌, ◌∷◌, [], List, Ok, refl, sym, ap, subst, ◌∙◌, map, rules, FitsSigned, w64, to_z, of_z, to_z-of_z, ℕ, Bool}
use Rattle.ft_index.proofs.Common.{shown_change, Change, DropTable, RowChange, RustTableInfo, same_name, Drop, TableInfo, shown_info, info_named}
use Rattle.ft_index.proofs.Common.{PlansFrom}
use Rattle.std.proofs.lemmas.Option.{slice_get_read, slice_get_within, same_Some}
use Rattle.ft_documents.proofs.{placed, unplaced}
use Rattle.ft_index.proofs.OneTable.{none_named}
use Rattle.ft_index.proofs.TablePlans.{drop_missing, drop_spared, drop_planned}
use Rattle.ft_index.proofs.tables.drop_changes.Goals as goal

abbrev test : List ℕ → TableInfo → Bool
test name t = same_name t.name name

pub returns-in_ok-vec-in-Some-clause-plans : goal.returns-in_ok-vec-in-Some-clause-plans
returns-in_ok-vec-in-Some-clause-plans c = λ store contents order held.
    let fits : FitsSigned w64 c.index-tables-place.result.id = search rules in
    let s = placed shown_info (test c.args.table.now) c.args.tables.now c.in-Some.place (sym c.table_place.ensures ∙ c.in-Some.is) in
    let same : map shown_change c.in_ok-vec-in-Some.field-0.items ≡ DropTable s.item.id ∷ [] =
    ap (map shown_change) c.in_ok-vec-in-Some.ensures.items
    ∙ ap (λ (t : RustTableInfo). DropTable (to_z w64 (of_z w64 t.id)) ∷ []) (sym c.index-tables-place.is)
    ∙ ap (λ k. DropTable k ∷ []) (to_z-of_z fits ∙ ap (λ (t : RustTableInfo). t.id) (sym (same_Some s.item c.index-tables-place.result (sym s.is ∙ slice_get_read c.args.tables.now _ c.in-Some.place c.index-tables-place.result refl (slice_get_within c.args.tables.now c.in-Some.place s.item s.is) c.index-tables-place.is)))) in
    subst (λ (cs : List Change). PlansFrom contents (Drop c.args.table.now c.args.if_there) store (Ok cs)) (sym same) (drop_planned store (map shown_info c.args.tables.now) contents c.args.table.now c.args.if_there (shown_info s.item) order held s.found)

pub returns-in-None-clause-plans : goal.returns-in-None-clause-plans
returns-in-None-clause-plans c = λ store contents order held.
    subst (λ (cs : List RowChange). PlansFrom contents (Drop c.args.table.now c.args.if_there) store (Ok (map shown_change cs))) (sym c.new.ensures.items)
    (drop_spared store (map shown_info c.args.tables.now) contents c.args.table.now c.args.if_there c.if-if_there.true held (unplaced shown_info (test c.args.table.now) c.args.tables.now (sym c.table_place.ensures ∙ c.in-None.is)))

pub returns-in-None-2-clause-plans : goal.returns-in-None-2-clause-plans
returns-in-None-2-clause-plans c = λ store contents order held. inr (drop_missing contents c.args.table.now c.args.if_there
    (none_named contents c.args.table.now (ap (λ ts. info_named ts c.args.table.now) (sym held.told) ∙ unplaced shown_info (test c.args.table.now) c.args.tables.now (sym c.table_place.ensures ∙ c.in-None-2.is))) c.if-if_there.false)
