-- Meaning. What is asked of a plain statement before `sqlite` runs it.
use Rattle.std.specs.Prelude.{◌≡◌, ℕ, Bool, true, false, ◌&&◌, ◌||◌, List, [], ◌∷◌, Option, codes}
use Rattle.std.specs.List.{Any, list_any}
use Rattle.ft_statements.specs.Forms.{Form, means, ◌&◌, ◌·◌, when, Has}
use Rattle.ft_statements.specs.Words.{Token, spells, is_one_of}
use Rattle.ft_statements.specs.Reading.{found, read}
use Rattle.ft_statements.specs.Grammar.{word, may, name}

abbrev pub query_words : List (List ℕ)
query_words = codes "SELECT" ∷ codes "VALUES" ∷ codes "WITH" ∷ []

abbrev pub writing_words : List (List ℕ)
writing_words = codes "INSERT" ∷ codes "UPDATE" ∷ codes "DELETE" ∷ codes "REPLACE" ∷ []

-- Which plain statements are run as queries: the first word says so, or it writes and RETURNING stands after it (own choice)
pub data Asks : List Token → Type 0 where
  queries : {t : Token} {ts : List Token} → Any (λ word. spells word t ≡ true) query_words → Asks (t ∷ ts)
  returns : {t : Token} {ts : List Token} → Any (λ word. spells word t ≡ true) writing_words → Any (λ u. spells (codes "RETURNING") u ≡ true) ts → Asks (t ∷ ts)

-- the same, computed
abbrev pub asks : List Token → Bool
asks [] = false
asks (t ∷ ts) = is_one_of query_words t || (is_one_of writing_words t && list_any (spells (codes "RETURNING")) ts)

-- whether MATCH stands in it, which full-text tables alone know
abbrev pub seeks : List Token → Bool
seeks ts = list_any (spells (codes "MATCH")) ts

-- [TEMP | TEMPORARY]
unfoldable pub temporary : Form Token (Unit {0})
temporary = when (spells (codes "TEMP")) (word "TEMP") (when (spells (codes "TEMPORARY")) (word "TEMPORARY") (means tt))

-- CREATE [TEMP | TEMPORARY] TABLE [IF NOT EXISTS] name          (own choice: so far as the name is a bare word or a quoted one); any words
-- may follow
abbrev pub made_table : Form Token (List ℕ)
made_table =
    means (λ name. name) · word "CREATE" · temporary · word "TABLE" · may (codes "IF" ∷ codes "NOT" ∷ codes "EXISTS" ∷ []) & name

abbrev pub Makes : List Token → List ℕ → Type 0
Makes ts name = (rest : List Token) × Has made_table ts name rest

-- the name that a CREATE TABLE gives
abbrev pub made_name : List Token → Option (List ℕ)
made_name ts = found (read made_table ts)
