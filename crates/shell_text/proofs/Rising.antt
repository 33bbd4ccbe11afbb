-- Words of a text rise.
use Rattle.std.proofs.Common.{ℕ, ◌+◌, ◌<◌, ◌≤◌, arith, List, [], ◌∷◌, length}
use Rattle.std.specs.List.{AllByRecursion}
use Rattle.shell_text.specs.Words.{IsRising, Piece, PieceKind, Closed, Open, first_byte, pieces_from, pieces_of, place_after, turn, with_byte, words_at, words_of}
use Rattle.shell_text.specs.declared.words.Place.{Place}
use Rattle.shell_text.specs.declared.words.Place.TheVariants.{Between}
use Rattle.shell_text.specs.declared.words.Ended.TheVariants.{Word, Gap}
use Rattle.shell_text.specs.declared.words.Turn.{Turn}
use Rattle.shell_text.specs.declared.words.Turn.TheVariants.{Goes, Ends}

abbrev pub HasText : Piece → Type 0
HasText p = 0 < length p.text

texts_with : (t : Turn) (b : ℕ) (ps : List Piece) → AllByRecursion HasText ps → AllByRecursion HasText (with_byte t b ps)
texts_with (Goes to) b [] h = (omega arith, tt)
texts_with (Goes to) b (p ∷ ps) h = (omega arith, h.1)
texts_with (Ends kind) b ps h = (omega arith, h)

texts : (text : List ℕ) (at : Place) → AllByRecursion HasText (pieces_from at text)
unfolding pieces_from
texts [] at = tt
texts (b ∷ rest) at = texts_with (turn at b (first_byte rest)) b (pieces_from (place_after (turn at b (first_byte rest))) rest) (texts rest (place_after (turn at b (first_byte rest))))

rising_piece : (kind : PieceKind) (text : List ℕ) (ps : List Piece) (from at : ℕ) → from ≤ at → 0 < length text
    → ((from' at' : ℕ) → from' ≤ at' → IsRising from' (words_at at' ps)) → IsRising from (words_at at (record { kind = kind; text = text } ∷ ps))
rising_piece (Closed (Word kind)) text ps from at low some h = (low, some, h (at + length text) (at + length text) (omega arith))
rising_piece (Closed Gap) text ps from at low some h = h from (at + length text) (omega arith)
rising_piece Open text ps from at low some h = h from (at + length text) (omega arith)

rising : (ps : List Piece) → AllByRecursion HasText ps → (from at : ℕ) → from ≤ at → IsRising from (words_at at ps)
rising [] h from at low = tt
rising (p ∷ ps) h from at low = rising_piece p.kind p.text ps from at low h.0 (rising ps h.1)

pub words_rising : (text : List ℕ) → IsRising 0 (words_of text)
words_rising text = rising (pieces_of text) (texts text Between) 0 0 (omega arith)
