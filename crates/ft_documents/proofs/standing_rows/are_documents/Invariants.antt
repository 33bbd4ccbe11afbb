-- the cells that are left follow as all do
use Rattle.std.proofs.Common.{◌≡◌, ◌<◌, map, drop, None}
use Rattle.ft_documents.proofs.Common.{shown_row}
use Rattle.ft_documents.proofs.StandingContent.{follow}
use Rattle.ft_documents.proofs.standing_rows.are_documents.Given as goal

abbrev pub invariant-loop-cell : goal.invariant-loop-cell
invariant-loop-cell l = (l.place < l.width) × (follow l.width l.place l.last (map shown_row (drop l.cell-index l.cells)) ≡ follow l.width 0 None (map shown_row l.cells))
