-- Meaning. The words of SQL by their forms: which bytes of a text are a word, a comment or white space, by what stands in them and after
-- them, without a state. A text falls into such pieces in one way, which is `pieces_of`: the law `words_by_forms`. The sections and pages
-- in quotes are those of "SQL As Understood By SQLite".
use Rattle.std.specs.Prelude.{◌≡◌, ◌≢◌, ◌==◌, ℕ, Bool, true, false, List, [], ◌∷◌, ◌++◌, All, codes}
use Rattle.std.specs.Char.{is_ascii_digit}
use Rattle.shell_text.specs.declared.words.SqlKind.{SqlKind}
use Rattle.shell_text.specs.declared.words.SqlKind.TheVariants as kinds
use Rattle.shell_text.specs.declared.words.Ended.TheVariants.{Word, Gap}
use Rattle.shell_text.specs.Words.{Piece, PieceKind, Closed, Open, is_space, begins_word, goes_on_word, next_is, ends_line, first_byte}

-- the part stands nowhere in the bytes
abbrev pub Lacks : List ℕ → List ℕ → Type 0
Lacks part bytes = (before behind : List ℕ) → bytes ≢ before ++ (part ++ behind)

-- each of the bytes passes, and the one after them doesn't, if there is one
pub record IsRun (p : ℕ → Bool) (bytes behind : List ℕ) : Type 0 where
  pub run : All (λ b. p b ≡ true) bytes
  pub ends : next_is p (first_byte behind) ≡ false

-- The marks: apostrophes around a literal ("Literal Values (Constants)"), quotation marks or backquotes around a name ("SQLite Keywords").
pub data IsMark : ℕ → SqlKind → Type 0 where
  apostrophe : IsMark 0x27 kinds.Text
  quotation_mark : IsMark 0x22 kinds.Quoted
  backquote : IsMark 0x60 kinds.Quoted

-- What stands between two marks: other bytes, and the mark itself only doubled.
pub data IsInMarks (mark : ℕ) : List ℕ → Type 0 where
  nothing : IsInMarks mark []
  other_byte : {b : ℕ} {bytes : List ℕ} → b ≢ mark → IsInMarks mark bytes → IsInMarks mark (b ∷ bytes)
  doubled_mark : {bytes : List ℕ} → IsInMarks mark bytes → IsInMarks mark (mark ∷ mark ∷ bytes)

-- The forms of pieces: their kind, their bytes, and what stands after them up to the text's end.
pub data IsForm : PieceKind → List ℕ → List ℕ → Type 0 where
  -- white space is one byte ("SQL Comment Syntax")
  white_space : {b : ℕ} {behind : List ℕ} → is_space b ≡ true → IsForm (Closed Gap) (b ∷ []) behind
  -- a comment of two hyphens goes up to before the next line feed, or to the end ("SQL Comment Syntax")
  line_comment : {inside behind : List ℕ} → Lacks (codes "\n") inside → ends_line (first_byte behind) ≡ true → IsForm (Closed Gap) (codes "--" ++ inside) behind
  -- one of a slash and a star goes up to the next star and slash after these, and else is open ("SQL Comment Syntax")
  block_comment : {inside behind : List ℕ} → Lacks (codes "*/") inside → IsForm (Closed Gap) (codes "/*" ++ (inside ++ codes "*/")) behind
  open_comment : {inside : List ℕ} → Lacks (codes "*/") inside → IsForm Open (codes "/*" ++ inside) []
  -- a literal or a name between marks; one more mark after it would double the last one
  marked : {mark : ℕ} {kind : SqlKind} {inside behind : List ℕ} → IsMark mark kind → IsInMarks mark inside
      → next_is (λ b. b == mark) (first_byte behind) ≡ false → IsForm (Closed (Word kind)) (mark ∷ (inside ++ mark ∷ [])) behind
  open_mark : {mark : ℕ} {kind : SqlKind} {inside : List ℕ} → IsMark mark kind → IsInMarks mark inside → IsForm Open (mark ∷ inside) []
  -- a name in brackets goes up to the next closing one, and else is open ("SQLite Keywords")
  bracketed : {inside behind : List ℕ} → Lacks (codes "]") inside → IsForm (Closed (Word kinds.Quoted)) (codes "[" ++ (inside ++ codes "]")) behind
  open_bracket : {inside : List ℕ} → Lacks (codes "]") inside → IsForm Open (codes "[" ++ inside) []
  -- a word goes on as far as it can ("SQLite Keywords")
  bare_word : {b : ℕ} {more behind : List ℕ} → begins_word b ≡ true → IsRun goes_on_word more behind → IsForm (Closed (Word kinds.Word)) (b ∷ more) behind
  -- so does a run of digits (own choice: neither a point nor an exponent)
  number : {b : ℕ} {more behind : List ℕ} → is_ascii_digit b ≡ true → IsRun is_ascii_digit more behind → IsForm (Closed (Word kinds.Number)) (b ∷ more) behind

-- A piece has one of these forms, or is a single byte where none of them begins.
pub data IsPiece : PieceKind → List ℕ → List ℕ → Type 0 where
  has_form : {kind : PieceKind} {bytes behind : List ℕ} → IsForm kind bytes behind → IsPiece kind bytes behind
  symbol : {b : ℕ} {behind : List ℕ} → ((kind : PieceKind) (bytes rest : List ℕ) → bytes ++ rest ≡ b ∷ behind → ¬ IsForm kind bytes rest)
      → IsPiece (Closed (Word kinds.Symbol)) (b ∷ []) behind

-- The pieces of a text, one after the other up to its end.
pub data ArePieces : List ℕ → List Piece → Type 0 where
  no_piece : ArePieces [] []
  next_piece : {kind : PieceKind} {bytes behind : List ℕ} {pieces : List Piece} → IsPiece kind bytes behind → ArePieces behind pieces
      → ArePieces (bytes ++ behind) (record { kind = kind; text = bytes } ∷ pieces)
