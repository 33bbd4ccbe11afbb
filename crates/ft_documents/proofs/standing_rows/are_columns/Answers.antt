use Rattle.std.proofs.Common.{◌≡◌, ◌<◌, ◌≤◌, ◌&&◌, Bool, not, map, length, string_bytes, refl, sym, ap, ◌∙◌, arith}
use Rattle.std.proofs.lemmas.List.Folds.{list_all-map}
use Rattle.ft_documents.proofs.Common.{length-map, list_all, is_name, are_columns, names_clash, column_of}
use Rattle.ft_documents.proofs.StandingContent.{tested}
use Rattle.ft_documents.proofs.standing_rows.are_columns.Goals.{then-are_names, else-are_names}
use Rattle.ft_documents.proofs.standing_rows.are_columns.Goals as goal

pub returns : goal.returns
returns c =
    let columns = map column_of c.args.columns.now in
    let names = map string_bytes c.in_ok-names.names.items in
    let n = length-map c.args.columns.now column_of in
    let some : 0 < length columns = rw n (let h : 0 < length c.args.columns.now = grind (arith, c.is_empty.ensures, c.if-is_empty.false) in h) in
    let few : length columns ≤ 100 = rw n c.if-columns-gt100.false in
    let fits : c.are_names.result ≡ list_all is_name names = c.are_names.ensures ∙ ap (list_all (λ x. is_name (string_bytes x))) c.as_slice.ensures.value ∙ sym (list_all-map is_name string_bytes c.in_ok-names.names.items) in
    let all : (clash : Bool) → clash ≡ names_clash c.args.table.now names → (c.are_names.result && not clash) ≡ are_columns c.args.table.now columns =
    λ clash is. tested c.args.table.now columns names c.are_names.result clash c.in_ok-names.ensures some few fits is in
    elim c.if-are_names.branch [
      | then-are_names w ↦ w.result-is ∙ sym (ap (λ t. t && not w.names_clash.result) w.if-are_names.true) ∙ all w.names_clash.result (w.names_clash.ensures ∙ ap (λ xs. names_clash c.args.table.now (map string_bytes xs)) w.as_slice-then-are_names.ensures.value)
      | else-are_names w ↦ w.result-is ∙ w.if-are_names.false ∙ sym (ap (λ t. t && not (names_clash c.args.table.now names)) w.if-are_names.false) ∙ all _ refl
    ]
