-- Words begin and end where their text may be cut.
use Rattle.std.proofs.Common.{◌≡◌, refl, sym, ap, subst, ◌∙◌, ℕ, ◌+◌, List, [], ◌∷◌, ◌++◌, length, length-append, append_assoc}
use Rattle.std.specs.Prelude.{IsCharBoundary}
use Rattle.std.specs.Str.{IsUtf8}
use Rattle.std.specs.List.{All, AllByRecursion}
use Rattle.std.proofs.lemmas.List.Elements.{All-from_recursion}
use Rattle.shell_text.specs.Words.{Piece, PieceKind, Closed, Open, pieces_of, text_of, words_at, words_of}
use Rattle.shell_text.specs.declared.words.SqlWord.{SqlWord}
use Rattle.shell_text.specs.declared.words.Ended.TheVariants.{Word, Gap}
use Rattle.shell_text.proofs.Lexing.{text_of-more}
use Rattle.shell_text.proofs.Boundaries.{cut_at}

abbrev IsCut : List ℕ → SqlWord → Type 0
IsCut text w = IsCharBoundary text w.start × IsCharBoundary text (w.start + w.size)

-- the words of later pieces, and that of this one if it is a word
with_piece : (text : List ℕ) (at : ℕ) (kind : PieceKind) (bytes : List ℕ) (ps : List Piece) → IsCharBoundary text at → IsCharBoundary text (at + length bytes)
    → AllByRecursion (IsCut text) (words_at (at + length bytes) ps) → AllByRecursion (IsCut text) (words_at at (record { kind = kind; text = bytes } ∷ ps))
with_piece text at (Closed (Word kind)) bytes ps from to later = ((from, to), later)
with_piece text at (Closed Gap) bytes ps from to later = later
with_piece text at Open bytes ps from to later = later

cut_words : (text : List ℕ) (done ps : List Piece) → IsUtf8 text → pieces_of text ≡ done ++ ps → AllByRecursion (IsCut text) (words_at (length (text_of done)) ps)
cut_words text done [] utf8 e = tt
cut_words text done (p ∷ ps) utf8 e =
    let more : pieces_of text ≡ (done ++ p ∷ []) ++ ps = e ∙ sym (append_assoc done (p ∷ []) ps) in
    let behind : length (text_of (done ++ p ∷ [])) ≡ length (text_of done) + length p.text = ap length (text_of-more done p) ∙ length-append (text_of done) p.text in
    with_piece text (length (text_of done)) p.kind p.text ps (cut_at text done (p ∷ ps) utf8 e)
    (subst (IsCharBoundary text) behind (cut_at text (done ++ p ∷ []) ps utf8 more))
    (subst (λ at. AllByRecursion (IsCut text) (words_at at ps)) behind (cut_words text (done ++ p ∷ []) ps utf8 more))

pub words_cut : (text : List ℕ) → IsUtf8 text → All (IsCut text) (words_of text)
words_cut text utf8 = All-from_recursion (IsCut text) (words_of text) (cut_words text [] (pieces_of text) utf8 refl)
