-- Meaning. The docids of a table, and the part of them that is asked for (own choice).
use Rattle.std.specs.Prelude.{ℕ, ℤ, pos, ◌&&◌, List, map, take, drop, Option, None, Some}
use Rattle.std.specs.Ordering.{int_eq}
use Rattle.std.specs.FinMap.Entries.{where_key}
use Rattle.ft_values.specs.Cells.{Cell}
use Rattle.ft_rows.specs.Store.{CellKey, cell_key_cmp}

-- those under which a table has a cell of column 0, in the order of the cells
abbrev pub docids_in : ℤ → List (CellKey × Cell) → List ℤ
docids_in tab cells = map (λ c. c.0.1) (where_key cell_key_cmp (λ k. int_eq tab k.0 && int_eq (pos 0) k.2) cells)

-- what a list has from an offset on: all of it, or at most so many
abbrev pub cut_to : {X : Type 0} → Option ℕ → ℕ → List X → List X
cut_to None offset xs = drop offset xs
cut_to (Some most) offset xs = take most (drop offset xs)
