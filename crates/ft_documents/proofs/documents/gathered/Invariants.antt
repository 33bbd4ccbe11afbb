-- the documents of the rows so far
use Rattle.std.proofs.Common.{◌≡◌, map}
use Rattle.ft_documents.proofs.Common.{shown_document, gathered_row}
use Rattle.ft_content.specs.Content as content
use Rattle.ft_documents.proofs.documents.gathered.Given as goal

abbrev pub invariant-loop-row : goal.invariant-loop-row
invariant-loop-row l = map shown_document l.documents.items ≡ content.gathered (map gathered_row l.yielded)
