-- The terms so far have the spots that they had, by rising docid, and the others are left.
use Rattle.std.proofs.Common.{◌≡◌, ◌++◌, map, All}
use Rattle.ft_documents.proofs.TermOrder.{has_in, term_has, HasRisen}
use Rattle.ft_documents.proofs.document_index.term_lists.Given as goal

abbrev pub invariant-loop-term : goal.invariant-loop-term
invariant-loop-term l = (map term_has l.found.items ++ map has_in l.term-iterator ≡ map has_in l.fn.terms.entries) × All HasRisen l.found.items
