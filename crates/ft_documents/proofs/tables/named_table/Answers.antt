-- by the place
use Rattle.std.proofs.Common.{◌≡◌, None, Some, refl, sym, ap, ◌∙◌, rules}
use Rattle.ft_values.specs.declared.table.TableInfo.{TableInfo as RustTableInfo}
use Rattle.ft_content.specs.Views.{TableInfo}
use Rattle.ft_documents.proofs.Common.{slice_get_read, slice_get_within, same_Some, same_name, shown_info}
use Rattle.ft_documents.proofs.FoundLemmas.{placed, unplaced}
use Rattle.ft_documents.proofs.tables.named_table.Goals as goal

pub returns : goal.returns
returns c =
    let at : c.table_place.result ≡ Some c.in_ok-place.place = search rules in
    let s = placed shown_info (λ (t : TableInfo). same_name t.name c.args.name.now) c.args.tables.now c.in_ok-place.place (sym c.table_place.ensures ∙ at) in
    let read = slice_get_read c.args.tables.now _ c.in_ok-place.place c.index-tables-place.result refl (slice_get_within c.args.tables.now c.in_ok-place.place s.item s.is) c.index-tables-place.is in
    let same : s.item ≡ c.index-tables-place.result = same_Some s.item c.index-tables-place.result (sym s.is ∙ read) in
    s.found ∙ ap (λ (t : RustTableInfo). Some (shown_info t)) same

pub returns-in_err-place : goal.returns-in_err-place
returns-in_err-place c =
    let none : c.table_place.result ≡ None = search rules in
    let nowhere = unplaced shown_info (λ (t : TableInfo). same_name t.name c.args.name.now) c.args.tables.now (sym c.table_place.ensures ∙ none) in
    search rules
