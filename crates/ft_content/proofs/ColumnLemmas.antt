-- Columns by their names.
use Rattle.std.proofs.Common.{◌≡◌, ℕ, Bool, List, map, string_bytes, ◌∙◌, position}
use Rattle.ft_content.proofs.Common.{names_of, Column, column_of}
use Rattle.ft_content.proofs.Lists.{position_of_map, map_of_map}

pub position_of_names : (p : List ℕ → Bool) (columns : List Column) → position p (names_of (map column_of columns)) ≡ position (λ (c : Column). p (string_bytes c.name)) columns
position_of_names p columns = position_of_map p (λ c. c.name) (map column_of columns) ∙ position_of_map (λ c. p c.name) column_of columns

pub names_are : (columns : List Column) → names_of (map column_of columns) ≡ map (λ (c : Column). string_bytes c.name) columns
names_are columns = map_of_map (λ c. c.name) column_of columns
