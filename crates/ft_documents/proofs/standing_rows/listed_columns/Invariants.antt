-- the columns so far
use Rattle.std.proofs.Common.{◌≡◌, map, take}
use Rattle.ft_documents.proofs.Common.{column_of, numbered_column}
use Rattle.ft_documents.proofs.StandingContent.{column_in}
use Rattle.ft_documents.proofs.standing_rows.listed_columns.Given as goal

abbrev pub invariant-loop-column : goal.invariant-loop-column
invariant-loop-column l = map column_of l.columns.items ≡ map (column_in l.table.skipped.items) (map numbered_column (take l.column-index l.column-items))
