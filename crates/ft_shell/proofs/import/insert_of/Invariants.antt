-- the rows so far
use Rattle.std.proofs.Common.{◌≡◌, map}
use Rattle.plain_sql.specs.Imports.{row_cells}
use Rattle.ft_shell.proofs.Common.{rows_of, texts_of}
use Rattle.ft_shell.proofs.import.insert_of.Given as goal

abbrev pub invariant-loop-fields : goal.invariant-loop-fields
invariant-loop-fields l = rows_of l.rows ≡ map (row_cells l.columns) (map texts_of l.yielded)
