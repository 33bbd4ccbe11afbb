-- Meaning. What a cell holds, and the values of the code as such. A cell is NULL, an integer or a text (own choice).
use Rattle.std.specs.Prelude.{ℕ, ℤ, List, string_bytes}
use Rattle.ft_values.specs.declared.rows.Value.{Value}
use Rattle.ft_values.specs.declared.rows.Value.TheVariants as value

-- what a cell holds
pub data Cell : Type 0 where
  Null : Cell
  Int : (number : ℤ) → Cell
  Text : (bytes : List ℕ) → Cell

-- a value of the code
abbrev pub shown_value : Value → Cell
shown_value value.Null = Null
shown_value (value.Int n) = Int n
shown_value (value.Text s) = Text (string_bytes s)
