-- the table is the first of its name, or there is none
use Rattle.std.proofs.Common.{◌≡◌, Some, length, refl, sym, ap, ◌∙◌, arith, option_map}
use Rattle.std.proofs.lemmas.Option.{slice_get_read, slice_get_within, same_Some}
use Rattle.ft_values.specs.Names.{same_name}
use Rattle.ft_values.specs.declared.table.TableInfo.{TableInfo as RustTableInfo}
use Rattle.ft_documents.proofs.{placed, unplaced}
use Rattle.ft_shell.proofs.Common.{length-map, TableInfo, shown_info, column_of}
use Rattle.ft_shell.proofs.import.columns_named.Goals as goal

pub returns-in-Some : goal.returns-in-Some
returns-in-Some c =
    let s = placed shown_info (λ (t : TableInfo). same_name t.name c.args.name.now) c.args.tables.now c.in-Some.place (sym c.table_place.ensures ∙ c.in-Some.is) in
    let read = slice_get_read c.args.tables.now _ c.in-Some.place c.index-tables-place.result refl (slice_get_within c.args.tables.now c.in-Some.place s.item s.is) c.index-tables-place.is in
    let same : s.item ≡ c.index-tables-place.result = same_Some s.item c.index-tables-place.result (sym s.is ∙ read) in
    let full : s.item.columns.len ≡ length s.item.columns.items = omega (arith, s.item.columns.ok.0) in
    ap Some (c.len.ensures ∙ ap (λ (t : RustTableInfo). t.columns.len) (sym (same ∙ c.index-tables-place.is)) ∙ full ∙ sym (length-map s.item.columns.items column_of))
    ∙ ap (λ o. option_map (λ (t : TableInfo). length t.columns) o) (sym s.found)

pub returns-in-None : goal.returns-in-None
returns-in-None c =
    ap (λ o. option_map (λ (t : TableInfo). length t.columns) o)
    (sym (unplaced shown_info (λ (t : TableInfo). same_name t.name c.args.name.now) c.args.tables.now (sym c.table_place.ensures ∙ c.in-None.is)))
