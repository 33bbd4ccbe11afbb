-- the index is that of the documents so far
use Rattle.std.proofs.Common.{◌≡◌, [], map}
use Rattle.ft_documents.proofs.Common.{column_of, shown_document, lists_in, sizes_in, lists_joined_by, sizes_with}
use Rattle.ft_documents.proofs.standing_index.index_lists.Given as goal

abbrev pub invariant-loop-document : goal.invariant-loop-document
invariant-loop-document l =
    let columns = map column_of l.columns in
    let documents = map shown_document l.yielded in
    (lists_in l.index ≡ lists_joined_by columns documents []) × (sizes_in l.index ≡ sizes_with columns documents [])
