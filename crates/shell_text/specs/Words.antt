-- Meaning. The words of SQL. A text falls into pieces: words, and gaps of white space and comments between them. Words are those of "SQL As
-- Understood By SQLite" so far as the shell needs them: literals in quotation marks (its page "SQL Language Expressions", section "Literal
-- Values (Constants)"), names quoted in any of three ways (page "SQLite Keywords"), comments (page "SQL Comment Syntax"), words, runs of
-- digits, and single characters. That a number is a run of digits alone, and that a dollar sign may stand in a word, is our own choice. So
-- is how a text is read: in pieces, byte by byte, each by its place and the byte after it.
use Rattle.std.specs.Prelude.{⊤, ◌<◌, ◌≤◌, is_some, option_map, option_to_list, ℕ, ◌+◌, Bool, true, false, ◌==◌, ◌&&◌, ◌||◌, nat_le, List, []}
use Rattle.std.specs.Prelude.{◌∷◌, ◌++◌, length, Option, Some, None, if◌then◌else◌, ◌≡◌, Result, IfOk, OnOk, IsErrOf}
use Rattle.std.specs.Char.{is_ascii_alphabetic, is_ascii_digit}
use Rattle.std.specs.List.{flat_map, list_any}
use Rattle.std.specs.Option.{option_map_or}
use Rattle.std.proofs.Common.{Vec, Global}
use Rattle.shell_text.specs.declared.words.LexFault.{LexFault}
use Rattle.shell_text.specs.declared.words.LexFault.TheVariants as fault
use Rattle.shell_text.specs.declared.words.SqlKind.{SqlKind}
use Rattle.shell_text.specs.declared.words.SqlKind.TheVariants as kinds
use Rattle.shell_text.specs.declared.words.SqlWord.{SqlWord}
use Rattle.shell_text.specs.declared.words.Place.{Place}
use Rattle.shell_text.specs.declared.words.Place.TheVariants.{Between, InWord, InNumber, InText, TextMark, InDouble, DoubleMark, InBackquotes}
use Rattle.shell_text.specs.declared.words.Place.TheVariants.{BackquoteMark, InBrackets, LineComment, CommentMark, BlockComment, Star}
use Rattle.shell_text.specs.declared.words.Ended.{Ended}
use Rattle.shell_text.specs.declared.words.Ended.TheVariants.{Word, Gap}
use Rattle.shell_text.specs.declared.words.Turn.{Turn}
use Rattle.shell_text.specs.declared.words.Turn.TheVariants.{Goes, Ends}

-- white space between words: a tab, a line feed, a form feed, a carriage return or a space ("SQL Comment Syntax")
abbrev pub is_space : ℕ → Bool
is_space b = (b == 0x09) || (b == 0x0A) || (b == 0x0C) || (b == 0x0D) || (b == 0x20)

-- a letter of ASCII, an underscore, or a byte from 128 on, which is part of a character of 128 or more ("SQLite Keywords")
abbrev pub begins_word : ℕ → Bool
begins_word b = is_ascii_alphabetic b || (b == 0x5F) || nat_le 128 b

-- these, digits and a dollar sign go on with a word (the dollar sign is our own choice)
abbrev pub goes_on_word : ℕ → Bool
goes_on_word b = begins_word b || is_ascii_digit b || (b == 0x24)

-- a word of a kind, or white space or a comment; or what is begun and not closed
pub data PieceKind : Type 0 where
  Closed : (by : Ended) → PieceKind
  Open : PieceKind

-- bytes of a text that are one word, or one gap, or what is not closed at its end
pub record Piece : Type 0 where
  pub kind : PieceKind
  pub text : List ℕ

-- whether there is a next byte that passes
abbrev pub next_is : (ℕ → Bool) → Option ℕ → Bool
next_is p next = option_map_or p next false

-- whether a line ends before the next byte, as at the end of the text: so far goes a comment that two hyphens begin ("SQL Comment Syntax")
abbrev pub ends_line : Option ℕ → Bool
ends_line None = true
ends_line (Some b) = b == 0x0A

-- a word goes on while the next byte does ("SQLite Keywords")
abbrev pub in_word : Option ℕ → Turn
in_word next = if next_is goes_on_word next then Goes InWord else Ends (Word kinds.Word)

-- a number goes on while a digit comes next (own choice: neither a point nor an exponent)
abbrev pub in_number : Option ℕ → Turn
in_number next = if next_is is_ascii_digit next then Goes InNumber else Ends (Word kinds.Number)

-- a byte of what goes up to a mark, by the place after a first one of two: inside, the mark is doubled ("Literal Values (Constants)",
-- "SQLite Keywords")
abbrev pub in_marks : Place → Place → SqlKind → ℕ → ℕ → Option ℕ → Turn
in_marks inside doubled kind mark b next =
    if b == mark then (if next_is (λ c. c == mark) next then Goes doubled else Ends (Word kind)) else Goes inside

-- a byte at which a piece begins, by the byte after it: white space, a comment of either kind, a literal, a quoted name, a word, a number,
-- or else a character alone ("SQL Comment Syntax", "Literal Values (Constants)", "SQLite Keywords")
unfoldable pub begun : ℕ → Option ℕ → Turn
begun b next =
    if is_space b then Ends Gap
    else if (b == 0x2D) && next_is (λ c. c == 0x2D) next then Goes LineComment
    else if (b == 0x2F) && next_is (λ c. c == 0x2A) next then Goes CommentMark
    else if b == 0x27 then Goes InText
    else if b == 0x22 then Goes InDouble
    else if b == 0x60 then Goes InBackquotes
    else if b == 0x5B then Goes InBrackets
    else if begins_word b then in_word next
    else if is_ascii_digit b then in_number next
    else Ends (Word kinds.Symbol)

-- a byte of a block comment, after what opens it; a slash after a star closes it ("SQL Comment Syntax")
abbrev pub in_comment : ℕ → Turn
in_comment b = if b == 0x2A then Goes Star else Goes BlockComment

-- a byte at a place, by the byte after it
unfoldable pub turn : Place → ℕ → Option ℕ → Turn
turn Between b next = begun b next
turn InWord b next = in_word next
turn InNumber b next = in_number next
turn InText b next = in_marks InText TextMark kinds.Text 0x27 b next
turn TextMark b next = Goes InText
turn InDouble b next = in_marks InDouble DoubleMark kinds.Quoted 0x22 b next
turn DoubleMark b next = Goes InDouble
turn InBackquotes b next = in_marks InBackquotes BackquoteMark kinds.Quoted 0x60 b next
turn BackquoteMark b next = Goes InBackquotes
turn InBrackets b next = if b == 0x5D then Ends (Word kinds.Quoted) else Goes InBrackets
turn LineComment b next = if ends_line next then Ends Gap else Goes LineComment
turn CommentMark b next = Goes BlockComment
turn BlockComment b next = in_comment b
turn Star b next = if b == 0x2F then Ends Gap else in_comment b

-- where the next byte stands
abbrev pub place_after : Turn → Place
place_after (Goes to) = to
place_after (Ends as_what) = Between

-- the byte that comes next, if there is one
abbrev pub first_byte : List ℕ → Option ℕ
first_byte [] = None
first_byte (b ∷ rest) = Some b

-- a byte goes onto the first of the pieces after it, which is open where there is none
abbrev pub onto_piece : ℕ → List Piece → List Piece
onto_piece b [] = record { kind = Open; text = b ∷ [] } ∷ []
onto_piece b (p ∷ ps) = record p { text = b ∷ p.text } ∷ ps

-- a byte with its turn, before the pieces of what follows
abbrev pub with_byte : Turn → ℕ → List Piece → List Piece
with_byte (Goes to) b ps = onto_piece b ps
with_byte (Ends as_what) b ps = record { kind = Closed as_what; text = b ∷ [] } ∷ ps

-- the pieces of a text that begins at a place
unfoldable pub pieces_from : Place → List ℕ → List Piece
pieces_from at [] = []
pieces_from at (b ∷ rest) = with_byte (turn at b (first_byte rest)) b (pieces_from (place_after (turn at b (first_byte rest))) rest)

-- the pieces of a text, in order: with their bytes one after the other they are the text
abbrev pub pieces_of : List ℕ → List Piece
pieces_of text = pieces_from Between text

-- what kind of word a piece is, if it is one
abbrev pub word_kind : PieceKind → Option SqlKind
word_kind (Closed (Word kind)) = Some kind
word_kind _ = None

-- whether a piece is a word
abbrev pub is_word : Piece → Bool
is_word p = is_some (word_kind p.kind)

-- whether a piece is a single character
abbrev pub is_symbol_kind : PieceKind → Bool
is_symbol_kind (Closed (Word kinds.Symbol)) = true
is_symbol_kind _ = false

-- whether a piece is white space or a closed comment
abbrev pub is_gap_kind : PieceKind → Bool
is_gap_kind (Closed Gap) = true
is_gap_kind _ = false

abbrev pub is_gap : Piece → Bool
is_gap p = is_gap_kind p.kind

-- whether a piece is begun and not closed
abbrev pub is_open_kind : PieceKind → Bool
is_open_kind Open = true
is_open_kind _ = false

abbrev pub is_open : Piece → Bool
is_open p = is_open_kind p.kind

-- the bytes of pieces
abbrev pub text_of : List Piece → List ℕ
text_of ps = flat_map (λ p. p.text) ps

-- the piece's word, if it is one, by its place in the text
abbrev pub word_at : ℕ → Piece → List SqlWord
word_at at p = option_to_list (option_map (λ kind. record { kind = kind; start = at; size = length p.text }) (word_kind p.kind))

-- the words of pieces that begin at a place
abbrev pub words_at : ℕ → List Piece → List SqlWord
words_at at [] = []
words_at at (p ∷ ps) = word_at at p ++ words_at (at + length p.text) ps

-- the words of a text, in order
abbrev pub words_of : List ℕ → List SqlWord
words_of text = words_at 0 (pieces_of text)

-- a literal, a quoted name or a block comment is not closed
abbrev pub is_unclosed : List ℕ → Bool
is_unclosed text = list_any is_open (pieces_of text)

-- the words of a text are found, where nothing in it is left open
pub record FindsWords (text : List ℕ) (result : Result (Vec SqlWord Global) LexFault) : Type 0 where
  pub words : IfOk result (λ found. found.items ≡ words_of text)
  pub closed : OnOk result (is_unclosed text ≡ false)
  pub «open» : IsErrOf result fault.Open → is_unclosed text ≡ true

-- each word begins at or after the end of the one before it, from a place on
abbrev pub IsRising : ℕ → List SqlWord → Type 0
IsRising from [] = ⊤
IsRising from (w ∷ ws) = (from ≤ w.start) × (0 < w.size) × IsRising (w.start + w.size) ws
