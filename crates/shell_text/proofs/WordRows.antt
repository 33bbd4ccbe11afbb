-- Worked examples of the words of SQL and of dot-commands.
use Rattle.std.proofs.Common.{◌≡◌, refl, ℕ, List, [], ◌∷◌, codes}
use Rattle.shell_text.specs.Words.{Piece, Closed, Open, begun, turn, pieces_from, pieces_of}
use Rattle.shell_text.specs.Dot.{dot_turn, dot_words_from, dot_word_chars}
use Rattle.shell_text.specs.declared.words.SqlKind.{SqlKind}
use Rattle.shell_text.specs.declared.words.SqlKind.TheVariants as kinds
use Rattle.shell_text.specs.declared.words.Ended.TheVariants.{Word, Gap}

abbrev word : SqlKind → List ℕ → Piece
word kind text = record { kind = Closed (Word kind); text = text }

abbrev gap : List ℕ → Piece
gap text = record { kind = Closed Gap; text = text }

abbrev not_closed : List ℕ → Piece
not_closed text = record { kind = Open; text = text }

-- a doubled mark ends no literal, and no name
doubled_marks : pieces_of (codes "'a''b'`a``b`\"\"\"\"") ≡
    word kinds.Text (codes "'a''b'") ∷ word kinds.Quoted (codes "`a``b`") ∷ word kinds.Quoted (codes "\"\"\"\"") ∷ []
unfolding pieces_from turn begun
doubled_marks = refl

-- a mark that is doubled at the end isn't closed
open_literal : pieces_of (codes "'a''") ≡ not_closed (codes "'a''") ∷ []
unfolding pieces_from turn begun
open_literal = refl

-- in brackets nothing is doubled
brackets : pieces_of (codes "[a]]") ≡ word kinds.Quoted (codes "[a]") ∷ word kinds.Symbol (codes "]") ∷ []
unfolding pieces_from turn begun
brackets = refl

-- the star that opens a comment doesn't close it
open_comment : pieces_of (codes "/*/") ≡ not_closed (codes "/*/") ∷ []
unfolding pieces_from turn begun
open_comment = refl

comments : pieces_of (codes "/***/--a\n") ≡ gap (codes "/***/") ∷ gap (codes "--a") ∷ gap (codes "\n") ∷ []
unfolding pieces_from turn begun
comments = refl

runs : pieces_of (codes "12a$1 -/$") ≡
    word kinds.Number (codes "12") ∷ word kinds.Word (codes "a$1") ∷ gap (codes " ")
    ∷ word kinds.Symbol (codes "-") ∷ word kinds.Symbol (codes "/") ∷ word kinds.Symbol (codes "$") ∷ []
unfolding pieces_from turn begun
runs = refl

-- an escaped mark ends no word
escaped_mark : dot_word_chars (codes "\"a\\\"b\"") ≡ codes "a\"b" ∷ []
unfolding dot_words_from dot_turn
escaped_mark = refl

-- a backslash that is itself escaped escapes nothing, and what follows a closing mark begins the
-- next word
escaped_backslash : dot_word_chars (codes "\"a\\\\\"b") ≡ codes "a\\" ∷ codes "b" ∷ []
unfolding dot_words_from dot_turn
escaped_backslash = refl

-- in apostrophes there are no escapes, and what isn't closed goes to the line's end
no_escapes : dot_word_chars (codes " 'a\\'b'c d") ≡ codes "a\\" ∷ codes "b'c" ∷ codes "d" ∷ []
unfolding dot_words_from dot_turn
no_escapes = refl

open_word : dot_word_chars (codes "a\\tb 'c d") ≡ codes "a\tb" ∷ codes "c d" ∷ []
unfolding dot_words_from dot_turn
open_word = refl
