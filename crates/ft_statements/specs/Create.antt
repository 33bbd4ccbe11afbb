-- Meaning. The arguments of CREATE VIRTUAL TABLE, and what it makes of them ("Creating and Destroying FTS Tables" of the SQLite document
-- "SQLite FTS3 and FTS4 Extensions").
use Rattle.std.specs.Prelude.{ℕ, List, [], ◌∷◌, map, Option, Some, None, codes}
use Rattle.std.specs.List.{join_with_byte}
use Rattle.ft_statements.specs.Words.{Token, bare}

-- An argument is an option with its value, or a column.
pub data Argument : Type 0 where
  Setting : (name value : List ℕ) → Argument
  Column : (name : List ℕ) → Argument

-- the texts of words, with a space between each two
abbrev pub joined : List Token → List ℕ
joined ts = join_with_byte 0x20 (map bare ts)

-- a tokenizer has a name
abbrev pub tokenizer_of : List Token → Option Argument
tokenizer_of [] = None
tokenizer_of (t ∷ ts) = Some (Setting (codes "tokenize") (joined (t ∷ ts)))

-- the options and the columns each keep the order of the arguments
abbrev pub settings_in : List Argument → List (List ℕ × List ℕ)
settings_in [] = []
settings_in (Setting name value ∷ more) = (name, value) ∷ settings_in more
settings_in (Column name ∷ more) = settings_in more

abbrev pub columns_in : List Argument → List (List ℕ)
columns_in [] = []
columns_in (Setting name value ∷ more) = columns_in more
columns_in (Column name ∷ more) = name ∷ columns_in more
