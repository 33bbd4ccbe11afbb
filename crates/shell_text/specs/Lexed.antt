-- Steps. What a splitter keeps of the text that it has read, so that no byte is read twice. All of it is our own choice: what an input
-- means stands in Units, without any of this.
use Rattle.std.specs.Prelude.{ℕ, ◌+◌, ◌<◌, ◌≤◌, ◌≡◌, ◌==◌, Bool, true, false, List, [], ◌∷◌, ◌++◌, length, drop, Option, Some}
use Rattle.std.specs.Prelude.{None, unwrap_or, IsCharBoundary, if◌then◌else◌}
use Rattle.std.specs.List.{list_any}
use Rattle.shell_text.specs.Words.{Piece, ends_line, first_byte, is_gap, is_open, onto_piece, pieces_from, pieces_of, text_of}
use Rattle.shell_text.specs.Units.{Member, Sql, Fault, ends_statement, ended_units, line_behind, numbered, at_semicolons, tail_of}
use Rattle.shell_text.specs.declared.units.SplitFault.TheVariants as fault
use Rattle.shell_text.specs.declared.words.SqlKind.{SqlKind}
use Rattle.shell_text.specs.declared.words.SqlKind.TheVariants as kinds
use Rattle.shell_text.specs.declared.words.Place.{Place}
use Rattle.shell_text.specs.declared.words.Place.TheVariants.{Between}
use Rattle.shell_text.specs.declared.units.Spot.{Spot}
use Rattle.shell_text.specs.declared.units.Pending.{Pending}

-- the bytes that were read of a piece go onto the first of the pieces that follow
abbrev pub onto : List ℕ → List Piece → List Piece
onto [] ps = ps
onto (b ∷ front) ps = onto_piece b (onto front ps)

-- between pieces nothing is read of the next one; inside one, something is
abbrev pub IsFront : Place → List ℕ → Type 0
IsFront Between front = front ≡ []
IsFront _ front = 0 < length front

-- of a text that goes on with `rest` the bytes `before` are read: the pieces `done` ended there, and `front` is read of the next; and that
-- is so whatever lines follow
pub record HasRead (before rest : List ℕ) (place : Place) (front : List ℕ) (done : List Piece) : Type 0 where
  pub pieces : (more : List ℕ) → ends_line (first_byte more) ≡ true
      → pieces_of (before ++ (rest ++ more)) ≡ done ++ onto front (pieces_from place (rest ++ more))
  pub text : before ≡ text_of done ++ front
  pub whole : list_any is_open done ≡ false
  pub begins : IsFront place front

-- where the first word of pieces begins, which begin at a place and on line n
abbrev pub first_word : ℕ → ℕ → List Piece → Option Spot
first_word at n [] = None
first_word at n (p ∷ ps) = if is_gap p then first_word (at + length p.text) (line_behind n p.text) ps else Some (record { at = at; line = numbered n })

-- what is kept of the pending text `before`
pub record KeepsPending (before rest : List ℕ) (p : Pending) : Type 0 where
  pub front : List ℕ
  pub done : List Piece
  pub reads : HasRead before rest p.place front done
  pub ends : list_any ends_statement done ≡ false
  pub piece_at : p.piece.at ≡ length (text_of done)
  pub piece_line : p.piece.line ≡ line_behind p.first (text_of done)
  pub word : p.word ≡ first_word 0 p.first done
  pub line : p.line ≡ line_behind p.first before

-- the statement of a text that ends with a semicolon, whose first word is known
abbrev pub handed : Option Spot → List ℕ → List Member
handed None text = []
handed (Some word) text = Sql word.line (drop word.at text) ∷ []

-- whether a word of a kind ends a statement with its last byte
abbrev pub is_semicolon : SqlKind → ℕ → Bool
is_semicolon kinds.Symbol b = b == 0x3B
is_semicolon _ b = false

-- whether the next byte begins a piece
abbrev pub is_between : Place → Bool
is_between Between = true
is_between _ = false

-- of the pending text at the end of the input: what is left open, or a statement, or nothing
abbrev pub last_of : Pending → List ℕ → List Member
last_of p text =
    if is_between p.place then handed p.word text
    else (let line = (unwrap_or p.word p.piece).line in Fault line (fault.Incomplete line) ∷ [])

-- of a text that begins on line n, the statements that semicolons end are given after `told`, and what follows byte `cut` is kept
pub record Splits (n : ℕ) (text : List ℕ) (told now : List Member) (cut : ℕ) (p : Pending) : Type 0 where
  pub units : now ≡ told ++ ended_units n (at_semicolons (pieces_of text))
  pub tail : tail_of n (at_semicolons (pieces_of text)) ≡ (p.first, pieces_of (drop cut text))
  pub keeps : KeepsPending (drop cut text) [] p
  pub within : cut ≤ length text
  pub boundary : IsCharBoundary text cut
