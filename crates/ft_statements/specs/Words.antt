-- Meaning. The words of a statement with their texts: keywords, names, texts and numbers. Names and literals are those of the SQLite
-- document "SQL Language Expressions" (section "Literal Values (Constants)") and of its page "SQLite Keywords".
use Rattle.std.specs.Prelude.{◌≢◌, ℕ, ◌+◌, ◌-◌, Bool, false, ◌==◌, ◌&&◌, List, [], ◌∷◌, map, length, take, slice_range, Option}
use Rattle.std.specs.Prelude.{Some, None, if◌then◌else◌, chars, encode_utf8_all}
use Rattle.std.specs.List.{list_any}
use Rattle.std.specs.Str.{str_eq_ignore_ascii_case}
use Rattle.shell_text.specs.Words.{words_of}
use Rattle.shell_text.specs.declared.words.SqlKind.{SqlKind}
use Rattle.shell_text.specs.declared.words.SqlKind.TheVariants as kinds

-- a word by its kind, and its bytes with the marks of a literal or a quoted name
pub data Token : Type 0 where
  token : (kind : SqlKind) (text : List ℕ) → Token

-- the words of a statement's text, in order
abbrev pub sql_tokens : List ℕ → List Token
sql_tokens text = map (λ w. token w.kind (slice_range text w.start (w.start + w.size))) (words_of text)

-- the word is this keyword, without marks and in any case of ASCII letters, or this single character ("SQLite Keywords")
abbrev pub spells : List ℕ → Token → Bool
spells word (token kinds.Word text) = str_eq_ignore_ascii_case text word
spells word (token kinds.Symbol text) = str_eq_ignore_ascii_case text word
spells word _ = false

-- the word is one of these
abbrev pub is_one_of : List (List ℕ) → Token → Bool
is_one_of words t = list_any (λ word. spells word t) words

-- what stands between marks, and what it stands for: the closing mark stands there only doubled, for one ("Literal Values (Constants)")
pub data StandsFor (mark : ℕ) : (inside text : List ℕ) → Type 0 where
  nothing : StandsFor mark [] []
  other_character : {c : ℕ} {inside text : List ℕ} → c ≢ mark → StandsFor mark inside text → StandsFor mark (c ∷ inside) (c ∷ text)
  doubled_mark : {inside text : List ℕ} → StandsFor mark inside text → StandsFor mark (mark ∷ mark ∷ inside) (mark ∷ text)

-- The same, computed: without the second mark of each two that stand side by side; `after` says that the character before was the first of
-- two
abbrev pub halved : ℕ → Bool → List ℕ → List ℕ
halved mark after [] = []
halved mark after (c ∷ cs) = if after && c == mark then halved mark false cs else c ∷ halved mark (c == mark) cs

-- a square bracket is closed by its counterpart, another mark by itself ("SQLite Keywords")
abbrev pub closing : ℕ → ℕ
closing mark = if mark == 0x5B then 0x5D else mark

-- the characters between two marks, where the closing one is doubled ("Literal Values (Constants)"; no closing bracket stands between
-- brackets)
abbrev pub between_marks : List ℕ → List ℕ
between_marks [] = []
between_marks (mark ∷ rest) = halved (closing mark) false (take (length rest - 1) rest)

-- what a text or a quoted name is without its marks
abbrev pub without_marks : List ℕ → List ℕ
without_marks text = encode_utf8_all (between_marks (chars text))

-- the text that a word stands for
abbrev pub bare : Token → List ℕ
bare (token kinds.Quoted text) = without_marks text
bare (token kinds.Text text) = without_marks text
bare (token _ text) = text

-- a name is any word without marks, or a quoted one ("SQLite Keywords"; that a keyword may be a name is an own choice)
abbrev pub name_of : Token → Option (List ℕ)
name_of (token kinds.Word text) = Some text
name_of (token kinds.Quoted text) = Some (without_marks text)
name_of _ = None

-- a text stands between single quotes ("Literal Values (Constants)")
abbrev pub literal_of : Token → Option (List ℕ)
literal_of (token kinds.Text text) = Some (without_marks text)
literal_of _ = None
