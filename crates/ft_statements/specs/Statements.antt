-- Meaning. Which statements are full-text, and the class of a statement (our own choice). The relations say it, and the functions compute
-- the same, which is a law.
use Rattle.std.specs.Prelude.{◌≡◌, ℕ, Bool, true, false, ◌&&◌, ◌||◌, List, [], ◌∷◌, ◌++◌, Option, Some, is_some, option_map, if◌then◌else◌, codes}
use Rattle.std.specs.List.{Any, list_any}
use Rattle.std.specs.Option.{option_map_or}
use Rattle.ft_values.specs.Names.{same_name}
use Rattle.ft_commands.specs.Command.{Command}
use Rattle.ft_statements.specs.Words.{Token, spells, is_one_of, name_of}
use Rattle.ft_statements.specs.Reading.{found, read}
use Rattle.ft_statements.specs.Grammar.{words, statement, IsStatement}

-- the words after which a full-text table's name makes a statement full-text
abbrev pub lead_words : List (List ℕ)
lead_words = codes "FROM" ∷ codes "INTO" ∷ codes "UPDATE" ∷ codes "TABLE" ∷ codes "JOIN" ∷ codes "EXISTS" ∷ []

-- the name of one of the tables, in any case of ASCII letters
pub data IsTable (tables : List (List ℕ)) : Token → Type 0 where
  table_name : {t : Token} {name : List ℕ} → name_of t ≡ Some name → Any (λ table. same_name table name ≡ true) tables → IsTable tables t

-- CREATE VIRTUAL {word} | {word} lead table {word}
pub data IsFullText (tables : List (List ℕ)) : List Token → Type 0 where
  makes_virtual : {a b : Token} {ts : List Token} →
      spells (codes "CREATE") a ≡ true → spells (codes "VIRTUAL") b ≡ true → IsFullText tables (a ∷ b ∷ ts)
  names_one : (before : List Token) (lead : Token) {table : Token} (behind : List Token) →
      Any (λ word. spells word lead ≡ true) lead_words → IsTable tables table → IsFullText tables (before ++ lead ∷ table ∷ behind)

pub data Class : Type 0 where
  Plain : Class
  FullText : (command : Command) → Class

-- a statement that isn't full-text is plain; one that is has the class of its command, and none where it spells none
pub data HasClass (tables : List (List ℕ)) : List Token → Class → Type 0 where
  plain_class : {ts : List Token} → ¬ IsFullText tables ts → HasClass tables ts Plain
  full_text_class : {ts : List Token} {c : Command} →
      IsFullText tables ts → IsStatement ts c → HasClass tables ts (FullText c)

-- ---- computed

abbrev pub is_table : List (List ℕ) → Token → Bool
is_table tables t = option_map_or (λ name. list_any (λ table. same_name table name) tables) (name_of t) false

abbrev pub names_table : List (List ℕ) → List Token → Bool
names_table tables [] = false
names_table tables (t ∷ []) = false
names_table tables (t ∷ next ∷ more) = (is_one_of lead_words t && is_table tables next) || names_table tables (next ∷ more)

abbrev pub is_full_text : List (List ℕ) → List Token → Bool
is_full_text tables ts = is_some (read (words (codes "CREATE" ∷ codes "VIRTUAL" ∷ [])) ts) || names_table tables ts

unfoldable pub spelled_command : List Token → Option Command
spelled_command ts = found (read statement ts)

unfoldable pub class_of : List (List ℕ) → List Token → Option Class
class_of tables ts = if is_full_text tables ts then option_map FullText (spelled_command ts) else Some Plain
