-- Pieces, as a loop over the bytes of a text reads them.
use Rattle.std.proofs.Common.{◌≡◌, refl, sym, ap, ◌∙◌, ℕ, arith, Bool, true, false, List, [], ◌∷◌, ◌++◌, Some, None, length-append}
use Rattle.std.specs.List.{list_any}
use Rattle.std.specs.Prelude.{◌||◌}
use Rattle.std.proofs.lemmas.Bool.{eqb-true}
use Rattle.std.proofs.lemmas.List.{append_assoc, append-nil}
use Rattle.shell_text.specs.Words.{Piece, Closed, Open, begun, turn, ends_line, first_byte, is_open, onto_piece, pieces_from, pieces_of, place_after, text_of, with_byte}
use Rattle.shell_text.specs.declared.words.Place.{Place}
use Rattle.shell_text.specs.declared.words.Place.TheVariants.{Between, InWord, InNumber, InText, TextMark, InDouble, DoubleMark, InBackquotes, BackquoteMark, InBrackets, LineComment, CommentMark, BlockComment, Star}
use Rattle.shell_text.specs.declared.words.Ended.{Ended}
use Rattle.shell_text.specs.declared.words.Turn.{Turn}
use Rattle.shell_text.specs.declared.words.Turn.TheVariants.{Goes, Ends}
use Rattle.shell_text.specs.Lexed.{IsFront, HasRead, onto}
use Rattle.shell_text.proofs.Restart.{IsInside, goes_inside}

-- ---- what is read of a piece

pub onto-more : (front : List ℕ) (b : ℕ) (ps : List Piece) → onto (front ++ b ∷ []) ps ≡ onto front (onto_piece b ps)
onto-more [] b ps = refl
onto-more (c ∷ front) b ps = ap (onto_piece c) (onto-more front b ps)

abbrev pub closed : Ended → List ℕ → Piece
closed what text = record { kind = Closed what; text = text }

pub onto-closed : (front : List ℕ) (b : ℕ) (what : Ended) (ps : List Piece) → onto front (closed what (b ∷ []) ∷ ps) ≡ closed what (front ++ b ∷ []) ∷ ps
onto-closed [] b what ps = refl
onto-closed (c ∷ front) b what ps = ap (onto_piece c) (onto-closed front b what ps)

pub onto-none : (b : ℕ) (front : List ℕ) → onto (b ∷ front) [] ≡ record { kind = Open; text = b ∷ front } ∷ []
onto-none b [] = refl
onto-none b (c ∷ front) = ap (onto_piece b) (onto-none c front)

-- ---- pieces of a text that is read up to a place

-- the end of a line tells a byte as much as the end of the text
same_turn : (at : Place) (b : ℕ) → turn at b (Some 0x0A) ≡ turn at b None
unfolding turn begun
same_turn Between b = refl
same_turn InWord b = refl
same_turn InNumber b = refl
same_turn InText b = refl
same_turn TextMark b = refl
same_turn InDouble b = refl
same_turn DoubleMark b = refl
same_turn InBackquotes b = refl
same_turn BackquoteMark b = refl
same_turn InBrackets b = refl
same_turn LineComment b = refl
same_turn CommentMark b = refl
same_turn BlockComment b = refl
same_turn Star b = refl

turn_at_end : (at : Place) (b : ℕ) (more : List ℕ) → ends_line (first_byte more) ≡ true → turn at b (first_byte more) ≡ turn at b None
turn_at_end at b [] h = refl
turn_at_end at b (c ∷ more) h = ap (λ d. turn at b (Some d)) (eqb-true c 0x0A h) ∙ same_turn at b

-- so the lines after a text change no turn in it
turn_before : (at : Place) (b : ℕ) (rest more : List ℕ) → ends_line (first_byte more) ≡ true → turn at b (first_byte (rest ++ more)) ≡ turn at b (first_byte rest)
turn_before at b [] more h = turn_at_end at b more h
turn_before at b (c ∷ rest) more h = refl

pub pieces_by : (at : Place) (b : ℕ) (rest : List ℕ) (t : Turn) → turn at b (first_byte rest) ≡ t → pieces_from at (b ∷ rest) ≡ with_byte t b (pieces_from (place_after t) rest)
unfolding pieces_from
pieces_by at b rest t e = ap (λ u. with_byte u b (pieces_from (place_after u) rest)) e

pieces_before : (at : Place) (b : ℕ) (rest more : List ℕ) (t : Turn) → ends_line (first_byte more) ≡ true → turn at b (first_byte rest) ≡ t
    → pieces_from at (b ∷ (rest ++ more)) ≡ with_byte t b (pieces_from (place_after t) (rest ++ more))
pieces_before at b rest more t h e = pieces_by at b (rest ++ more) t (turn_before at b rest more h ∙ e)

pub none_left : (at : Place) → pieces_from at [] ≡ []
unfolding pieces_from
none_left at = refl

longer : (before : List ℕ) (b : ℕ) (rest : List ℕ) → (before ++ b ∷ []) ++ rest ≡ before ++ b ∷ rest
longer before b rest = append_assoc before (b ∷ []) rest

inside_front : (to : Place) (front : List ℕ) (b : ℕ) → IsInside to → IsFront to (front ++ b ∷ [])
inside_front Between front b h = absurd h
inside_front InWord front b h = omega (arith, length-append front (b ∷ []))
inside_front InNumber front b h = omega (arith, length-append front (b ∷ []))
inside_front InText front b h = omega (arith, length-append front (b ∷ []))
inside_front TextMark front b h = omega (arith, length-append front (b ∷ []))
inside_front InDouble front b h = omega (arith, length-append front (b ∷ []))
inside_front DoubleMark front b h = omega (arith, length-append front (b ∷ []))
inside_front InBackquotes front b h = omega (arith, length-append front (b ∷ []))
inside_front BackquoteMark front b h = omega (arith, length-append front (b ∷ []))
inside_front InBrackets front b h = omega (arith, length-append front (b ∷ []))
inside_front LineComment front b h = omega (arith, length-append front (b ∷ []))
inside_front CommentMark front b h = omega (arith, length-append front (b ∷ []))
inside_front BlockComment front b h = omega (arith, length-append front (b ∷ []))
inside_front Star front b h = omega (arith, length-append front (b ∷ []))

-- a byte leads on
pub reads_goes : {before rest front : List ℕ} {b : ℕ} {place : Place} {done : List Piece} (to : Place)
    → HasRead before (b ∷ rest) place front done → turn place b (first_byte rest) ≡ Goes to → HasRead (before ++ b ∷ []) rest to (front ++ b ∷ []) done
reads_goes {before} {rest} {front} {b} {place} {done} to r e = record {
  pieces = λ more h. ap pieces_of (longer before b (rest ++ more)) ∙ r.pieces more h
      ∙ ap (λ ps. done ++ onto front ps) (pieces_before place b rest more (Goes to) h e)
      ∙ ap (λ ps. done ++ ps) (sym (onto-more front b (pieces_from to (rest ++ more))));
  text = ap (λ bs. bs ++ b ∷ []) r.text ∙ append_assoc (text_of done) front (b ∷ []);
  whole = r.whole;
  begins = inside_front to front b (goes_inside place to b (first_byte rest) e);
}

pub text_of-append : (ps qs : List Piece) → text_of (ps ++ qs) ≡ text_of ps ++ text_of qs
text_of-append [] qs = refl
text_of-append (p ∷ ps) qs = ap (λ t. p.text ++ t) (text_of-append ps qs) ∙ sym (append_assoc p.text (text_of ps) (text_of qs))

pub text_of-more : (done : List Piece) (p : Piece) → text_of (done ++ p ∷ []) ≡ text_of done ++ p.text
text_of-more done p = text_of-append done (p ∷ []) ∙ ap (λ t. text_of done ++ t) (append-nil p.text)

pub any-or : (a b : Bool) → a || b ≡ false → (a ≡ false) × (b ≡ false)
any-or true b h = cc
any-or false b h = (refl, h)

pub any-more : (test : Piece → Bool) (done : List Piece) (p : Piece) → test p ≡ false → list_any test done ≡ false → list_any test (done ++ p ∷ []) ≡ false
any-more test [] p h k = ap (λ o. o || false) h
any-more test (q ∷ done) p h k =
    let parts = any-or (test q) (list_any test done) k in
    ap (λ o. o || list_any test (done ++ p ∷ [])) parts.0 ∙ any-more test done p h parts.1

-- a byte ends a piece
pub reads_ends : {before rest front : List ℕ} {b : ℕ} {place : Place} {done : List Piece} (what : Ended)
    → HasRead before (b ∷ rest) place front done → turn place b (first_byte rest) ≡ Ends what → HasRead (before ++ b ∷ []) rest Between [] (done ++ closed what (front ++ b ∷ []) ∷ [])
reads_ends {before} {rest} {front} {b} {place} {done} what r e =
    let p = closed what (front ++ b ∷ []) in
    record {
      pieces = λ more h. ap pieces_of (longer before b (rest ++ more)) ∙ r.pieces more h
          ∙ ap (λ ps. done ++ onto front ps) (pieces_before place b rest more (Ends what) h e)
          ∙ ap (λ ps. done ++ ps) (onto-closed front b what (pieces_from Between (rest ++ more)))
          ∙ sym (append_assoc done (p ∷ []) (pieces_from Between (rest ++ more)));
      text = ap (λ bs. bs ++ b ∷ []) r.text ∙ append_assoc (text_of done) front (b ∷ []) ∙ sym (text_of-more done p) ∙ sym (append-nil (text_of (done ++ p ∷ [])));
      whole = any-more is_open done p refl r.whole;
      begins = refl;
    }

-- the next line follows
pub reads_on : {before front : List ℕ} {place : Place} {done : List Piece} (line : List ℕ) → HasRead before [] place front done → HasRead before (0x0A ∷ line) place front done
reads_on line r = record { pieces = λ more h. r.pieces (0x0A ∷ (line ++ more)) refl; text = r.text; whole = r.whole; begins = r.begins }
