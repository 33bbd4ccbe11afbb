use Rattle.std.proofs.Common.{◌≡◌, ◌+◌, length}
use Rattle.ft_documents.proofs.Common.{tokens_of, shown_value, cell_text, with_entries, cell_entries, lists_in, sizes_in}
use Rattle.ft_documents.proofs.document_index.DocumentIndex.add_cell.Given as goal

-- the tokens so far are in the lists, and the others join them
abbrev pub invariant-loop-token : goal.invariant-loop-token
invariant-loop-token l =
    (l.count + length l.tokenizer ≡ length (tokens_of (cell_text (shown_value l.value)))) ×
    (with_entries (cell_entries l.docid l.place l.tokenizer) (lists_in l.self) ≡ with_entries (cell_entries l.docid l.place (tokens_of (cell_text (shown_value l.value)))) (lists_in l.fn.self)) ×
    (sizes_in l.self ≡ sizes_in l.fn.self)

abbrev pub decreases-loop-token : goal.decreases-loop-token
decreases-loop-token l = length l.tokenizer
