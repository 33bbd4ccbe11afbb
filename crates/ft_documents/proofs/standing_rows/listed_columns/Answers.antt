-- one column more
use Rattle.std.proofs.Common.{◌≡◌, ◌+◌, ◌++◌, ◌∷◌, [], not, map, take, sym, ap, ◌∙◌, int_eq}
use Rattle.ft_documents.proofs.Common.{list_any, map-append, take_more, column_of, numbered_column}
use Rattle.ft_documents.proofs.StandingContent.{column_in, turned_any}
use Rattle.ft_documents.proofs.standing_rows.listed_columns.Goals as goal

pub loop-column-preserved : goal.loop-column-preserved
loop-column-preserved c =
    let skipped = c.args.table.now.skipped.items in
    let items = c.as_slice-column-items.result.now in
    let front = take c.loop-column.column-index items in
    let item = c.column-item.result in
    let indexed : not c.contains-indexed.result ≡ not (list_any (int_eq item.0) skipped) =
    ap not (c.contains-indexed.ensures.value ∙ ap (list_any (λ x. int_eq x item.0)) c.deref.ensures.value ∙ turned_any item.0 skipped) in
    let name = c.in_ok-name.ensures.cases in
    let more : take (c.loop-column.column-index + 1) items ≡ front ++ item ∷ [] = take_more items c.loop-column.column-index item c.loop-column-test.true ∙ ap (λ x. front ++ x ∷ []) (sym c.column-item.is) in
    ap (map column_of) c.in_ok-push.ensures.items ∙ map-append column_of c.loop-column.columns.items _
    ∙ (λ i. c.loop-column.invariant i ++ (record { name = name i; indexed = indexed i }) ∷ [])
    ∙ sym (ap (λ xs. map (column_in skipped) (map numbered_column xs)) more ∙ ap (map (column_in skipped)) (map-append numbered_column front (item ∷ [])) ∙ map-append (column_in skipped) (map numbered_column front) (numbered_column item ∷ []))
