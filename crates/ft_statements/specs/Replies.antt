-- Meaning. What is printed for a reply ("Changing Output Formats" of "Command Line Shell For SQLite"), and the names that `.tables` lists
-- (its section "Querying the database schema").
use Rattle.std.specs.Prelude.{ℕ, Bool, not, List, [], map, filter, ◌++◌}
use Rattle.std.specs.List.{list_any}
use Rattle.std.specs.List.Sorted.{IsPermutation, IsSorted}
use Rattle.std.specs.Ordering.{nat_cmp}
use Rattle.std.specs.Cmp.Lexicographic.{slice_cmp}
use Rattle.shell_text.specs.Print as print
use Rattle.shell_text.specs.Print.{Settings, PrintedTable, printed}
use Rattle.ft_values.specs.Names.{same_name}
use Rattle.ft_values.specs.Cells.{Cell, Null, Int, Text}
use Rattle.ft_commands.specs.Command.{Grid, Reply, Done, Rows}

-- a cell as a value that is printed
abbrev pub cell_value : Cell → print.Value
cell_value Null = print.Null
cell_value (Int n) = print.Integer n
cell_value (Text text) = print.Words text

abbrev pub printed_table : Grid → PrintedTable
printed_table grid = record { names = grid.names; rows = map (map cell_value) grid.rows }

-- Rows are printed as the settings say, and nothing where the reply has none.
abbrev pub reply_text : Settings → Reply → List ℕ
reply_text settings Done = []
reply_text settings (Rows grid) = printed settings (printed_table grid)

-- whether one of the full-text tables has this name, in any case of ASCII letters
abbrev pub is_own : List (List ℕ) → List ℕ → Bool
is_own tables name = list_any (λ table. same_name table name) tables

-- `.tables` lists the full-text tables and the plain ones that were found, but for those that a full-text table hides
abbrev pub listed : List (List ℕ) → List (List ℕ) → List (List ℕ)
listed tables found = tables ++ filter (λ name. not (is_own tables name)) found

-- some texts, sorted by their bytes
pub record AreSorted (names sorted : List (List ℕ)) : Type 0 where
  pub permutation : IsPermutation names sorted
  pub sorted_names : IsSorted (slice_cmp nat_cmp) sorted
