-- The pieces of a text are its one reading by forms.
use Rattle.std.proofs.Common.{◌≡◌, sym, ap, subst, ◌∙◌, ℕ, zero, suc, ◌≤◌, arith, List, [], ◌∷◌, ◌++◌, length, length-append}
use Rattle.shell_text.specs.Words.{Piece, PieceKind, Closed, begun, first_byte, pieces_of}
use Rattle.shell_text.specs.WordForms.{IsForm, white_space, line_comment, block_comment, open_comment, IsMark, apostrophe, quotation_mark, backquote, marked, open_mark, bracketed, open_bracket, bare_word, number, IsPiece, has_form, symbol, ArePieces, no_piece, next_piece}
use Rattle.shell_text.specs.declared.words.SqlKind.{SqlKind}
use Rattle.shell_text.specs.declared.words.SqlKind.TheVariants as kinds
use Rattle.shell_text.specs.declared.words.Place.TheVariants.{Between}
use Rattle.shell_text.specs.declared.words.Ended.TheVariants.{Word}
use Rattle.shell_text.specs.declared.words.Turn.TheVariants.{Ends}
use Rattle.shell_text.proofs.Lexing.{closed, pieces_by, none_left}
use Rattle.shell_text.proofs.FormRuns.{between, form_read}
use Rattle.shell_text.proofs.FormSplits.{Begins, with_form, with_symbol, first_piece}

-- a symbol's byte
symbol_read : (b : ℕ) (text : List ℕ) → begun b (first_byte text) ≡ Ends (Word kinds.Symbol)
    → pieces_of (b ∷ text) ≡ closed (Word kinds.Symbol) (b ∷ []) ∷ pieces_of text
symbol_read b text e = pieces_by Between b text (Ends (Word kinds.Symbol)) (between b (first_byte text) ∙ e)

-- no form is a symbol's
mark_no_symbol : {mark : ℕ} {kind : SqlKind} → IsMark mark kind → Closed (Word kind) ≡ Closed (Word kinds.Symbol) → ⊥
mark_no_symbol apostrophe e = cc
mark_no_symbol quotation_mark e = cc
mark_no_symbol backquote e = cc

no_symbol : {kind : PieceKind} {bytes behind : List ℕ} → IsForm kind bytes behind → kind ≡ Closed (Word kinds.Symbol) → ⊥
no_symbol (white_space h) e = cc
no_symbol (line_comment lacks stop) e = cc
no_symbol (block_comment lacks) e = cc
no_symbol (open_comment lacks) e = cc
no_symbol (marked is m alone) e = mark_no_symbol is e
no_symbol (open_mark is m) e = cc
no_symbol (bracketed lacks) e = cc
no_symbol (open_bracket lacks) e = cc
no_symbol (bare_word first run) e = cc
no_symbol (number first run) e = cc

-- where a symbol is read no form begins
no_form : (b : ℕ) (text : List ℕ) → begun b (first_byte text) ≡ Ends (Word kinds.Symbol)
    → (kind : PieceKind) (bytes rest : List ℕ) → bytes ++ rest ≡ b ∷ text → ¬ IsForm kind bytes rest
no_form b text e kind bytes rest same form =
    let both : record { kind = kind; text = bytes } ∷ pieces_of rest ≡ closed (Word kinds.Symbol) (b ∷ []) ∷ pieces_of text =
    sym (form_read form) ∙ ap pieces_of same ∙ symbol_read b text e in
    let heads : record { kind = kind; text = bytes } ≡ closed (Word kinds.Symbol) (b ∷ []) = cc in
    no_symbol form (ap (λ p. p.kind) heads)

-- what is computed is a reading
computed_in : (n : ℕ) (text : List ℕ) → length text ≤ n → ArePieces text (pieces_of text)
computed_in n [] low = subst (ArePieces []) (sym (none_left Between)) no_piece
computed_in zero (b ∷ text) low = absurd (omega arith)
computed_in (suc n) (b ∷ text) low = by_first (first_piece b text) (computed_in n text (omega arith)) (computed_in n)
  where
    by_first : Begins b text → ArePieces text (pieces_of text) → ((rest : List ℕ) → length rest ≤ n → ArePieces rest (pieces_of rest))
        → ArePieces (b ∷ text) (pieces_of (b ∷ text))
    by_first (with_form kind more behind is form) later all =
        let shorter : length behind ≤ n = omega (arith, ap length is, length-append more behind) in
        let here : ArePieces ((b ∷ more) ++ behind) (record { kind = kind; text = b ∷ more } ∷ pieces_of behind) =
        next_piece (has_form form) (all behind shorter) in
        subst (λ bs. ArePieces (b ∷ bs) (pieces_of (b ∷ bs))) (sym is) (subst (ArePieces (b ∷ (more ++ behind))) (sym (form_read form)) here)
    by_first (with_symbol e) later all =
        subst (ArePieces (b ∷ text)) (sym (symbol_read b text e)) (next_piece (symbol (no_form b text e)) later)

pub computed_pieces : (text : List ℕ) → ArePieces text (pieces_of text)
computed_pieces text = computed_in (length text) text (omega arith)

-- what is a piece is read as that piece
piece_read : {kind : PieceKind} {bytes behind : List ℕ} → IsPiece kind bytes behind
    → pieces_of (bytes ++ behind) ≡ record { kind = kind; text = bytes } ∷ pieces_of behind
piece_read (has_form form) = form_read form
piece_read (symbol {b} {behind} other) = by_first (first_piece b behind)
  where
    by_first : Begins b behind → pieces_of (b ∷ behind) ≡ closed (Word kinds.Symbol) (b ∷ []) ∷ pieces_of behind
    by_first (with_form kind more rest is form) = absurd (other kind (b ∷ more) rest (ap (λ bs. b ∷ bs) (sym is)) form)
    by_first (with_symbol e) = symbol_read b behind e

-- a reading is what is computed
pub one_reading : (text : List ℕ) (ps : List Piece) → ArePieces text ps → ps ≡ pieces_of text
one_reading text ps are = read are
  where
    read : {bytes : List ℕ} {pieces : List Piece} → ArePieces bytes pieces → pieces ≡ pieces_of bytes
    read no_piece = sym (none_left Between)
    read (next_piece {kind} {bytes} {behind} {pieces} piece later) = ap (λ ps. record { kind = kind; text = bytes } ∷ ps) (read later) ∙ sym (piece_read piece)
