use Rattle.std.proofs.Common.{◌≡◌, [], ◌∷◌, map, drop}
use Rattle.ft_documents.proofs.Common.{shown_value, column_key_cmp, document_tokens, column_of, lists_in, sizes_in, with_entries, all_put, lists_joined_by, sizes_with, AreShortNumbers}
use Rattle.ft_documents.proofs.IndexOf.{entries_from, sizes_from}
use Rattle.ft_documents.proofs.document_index.DocumentIndex.add.Given as goal

-- the columns so far are in the index, and the others join them
abbrev pub invariant-loop-place : goal.invariant-loop-place
invariant-loop-place l =
    let left = document_tokens (drop l.place (map column_of l.columns)) (drop l.place (map shown_value l.values)) in
    (with_entries (entries_from l.docid l.place left) (lists_in l.self) ≡ lists_joined_by (map column_of l.columns) ((l.docid, map shown_value l.values) ∷ []) (lists_in l.fn.self))
    × (all_put column_key_cmp (sizes_from l.docid l.place left) (sizes_in l.self) ≡ sizes_with (map column_of l.columns) ((l.docid, map shown_value l.values) ∷ []) (sizes_in l.fn.self))
    × (AreShortNumbers (drop l.place (map column_of l.columns)) (drop l.place (map shown_value l.values)) → AreShortNumbers (map column_of l.columns) (map shown_value l.values))
