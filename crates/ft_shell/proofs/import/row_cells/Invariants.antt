-- the cells so far
use Rattle.std.proofs.Common.{◌≡◌, map, option_map}
use Rattle.plain_sql.specs.Imports.{field_cell}
use Rattle.ft_shell.proofs.Common.{cells_of}
use Rattle.ft_shell.proofs.import.row_cells.Given as goal

abbrev pub invariant-loop-field : goal.invariant-loop-field
invariant-loop-field l = cells_of l.row ≡ map field_cell (map (option_map (λ text. text.now)) l.yielded)
