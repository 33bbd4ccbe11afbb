-- the columns that are left are numbered as all are
use Rattle.std.proofs.Common.{◌≡◌, map, drop}
use Rattle.ft_documents.proofs.Common.{numbered_column}
use Rattle.ft_documents.specs.Standing.{numbered_from}
use Rattle.ft_documents.proofs.standing_rows.are_numbered.Given as goal

abbrev pub invariant-loop-place : goal.invariant-loop-place
invariant-loop-place l = numbered_from l.place (map numbered_column (drop l.place l.columns)) ≡ numbered_from 0 (map numbered_column l.columns)
