-- What the loop over a text's bytes keeps that gathers its words.
use Rattle.std.proofs.Common.{◌≡◌, ◌≢◌, refl, sym, ap, subst, ◌∙◌, ℕ, zero, suc, ◌+◌, ◌-◌, ◌<◌, ◌≤◌, arith, Bool, true, false, List, [], ◌∷◌, ◌++◌, length, take, drop, length-append, get_or, add-zero, zero-add}
use Rattle.std.specs.Prelude.{slice_get, ◌||◌}
use Rattle.std.specs.List.{list_any}
use Rattle.std.proofs.lemmas.List.{append_assoc, append-nil, drop_all, drop_more, take_more, take_all, length-take-le}
use Rattle.shell_text.specs.Words.{Piece, Open, turn, first_byte, is_open, is_unclosed, pieces_from, pieces_of, text_of, word_at, words_at, words_of}
use Rattle.shell_text.specs.declared.words.SqlKind.{SqlKind}
use Rattle.shell_text.specs.declared.words.SqlWord.{SqlWord}
use Rattle.shell_text.specs.declared.words.Place.{Place}
use Rattle.shell_text.specs.declared.words.Place.TheVariants.{Between, InWord, InNumber, InText, TextMark, InDouble, DoubleMark, InBackquotes, BackquoteMark, InBrackets, LineComment, CommentMark, BlockComment, Star}
use Rattle.shell_text.specs.declared.words.Ended.{Ended}
use Rattle.shell_text.specs.declared.words.Ended.TheVariants.{Word, Gap}
use Rattle.shell_text.specs.declared.words.Turn.{Turn}
use Rattle.shell_text.specs.declared.words.Turn.TheVariants.{Goes, Ends}
use Rattle.shell_text.specs.Lexed.{IsFront, HasRead, onto}
use Rattle.shell_text.proofs.Lexing.{closed, onto-none, text_of-more, reads_goes, reads_ends}

pub first_byte-drop : (text : List ℕ) (i : ℕ) → first_byte (drop i text) ≡ slice_get text i
first_byte-drop [] zero = refl
first_byte-drop [] (suc i) = refl
first_byte-drop (c ∷ cs) zero = refl
first_byte-drop (c ∷ cs) (suc i) = first_byte-drop cs i

-- a text that is read up to byte i, with the words so far; the piece at hand begins at `start`
pub record WordsTo (text : List ℕ) (i start : ℕ) (place : Place) (words : List SqlWord) : Type 0 where
  pub front : List ℕ
  pub done : List Piece
  pub reads : HasRead (take i text) (drop i text) place front done
  pub start_is : start ≡ length (text_of done)
  pub words_are : words ≡ words_at 0 done

words_at-more : (done : List Piece) (p : Piece) (at : ℕ) → words_at at (done ++ p ∷ []) ≡ words_at at done ++ word_at (at + length (text_of done)) p
words_at-more [] p at = append-nil (word_at at p) ∙ ap (λ n. word_at n p) (sym (add-zero at))
words_at-more (q ∷ done) p at =
    ap (λ ws. word_at at q ++ ws) (words_at-more done p (at + length q.text))
    ∙ sym (append_assoc (word_at at q) (words_at (at + length q.text) done) (word_at (at + length q.text + length (text_of done)) p))
    ∙ ap (λ n. (word_at at q ++ words_at (at + length q.text) done) ++ word_at n p) (omega (arith, length-append q.text (text_of done)))

-- the byte at i, and what follows it
pub record IsByte (text : List ℕ) (i b : ℕ) : Type 0 where
  pub within : i < length text
  pub rest : drop i text ≡ b ∷ drop (i + 1) text
  pub front : take (i + 1) text ≡ take i text ++ b ∷ []
  pub byte : get_or text i 0 ≡ b

pub is_byte : (text : List ℕ) (i b : ℕ) → i < length text → get_or text i 0 ≡ b → IsByte text i b
is_byte text i b within e = record {
  within = within;
  rest = drop_more text i 0 within ∙ ap (λ x. x ∷ drop (i + 1) text) e;
  front = take_more text i 0 within ∙ ap (λ x. take i text ++ x ∷ []) e;
  byte = e;
}

turned : (text : List ℕ) (i b : ℕ) (place : Place) (t : Turn) → turn place b (slice_get text (i + 1)) ≡ t → turn place b (first_byte (drop (i + 1) text)) ≡ t
turned text i b place t e = ap (turn place b) (first_byte-drop text (i + 1)) ∙ e

-- ---- one byte, over what is read

pub goes_to : {text front : List ℕ} {i b : ℕ} {place : Place} {done : List Piece} (to : Place) → IsByte text i b → turn place b (slice_get text (i + 1)) ≡ Goes to
    → HasRead (take i text) (drop i text) place front done → HasRead (take (i + 1) text) (drop (i + 1) text) to (front ++ b ∷ []) done
goes_to {text} {front} {i} {b} {place} {done} to at e r =
    subst (λ before. HasRead before (drop (i + 1) text) to (front ++ b ∷ []) done) (sym at.front)
    (reads_goes to (subst (λ rest. HasRead (take i text) rest place front done) at.rest r) (turned text i b place (Goes to) e))

pub ends_as : {text front : List ℕ} {i b : ℕ} {place : Place} {done : List Piece} (what : Ended) → IsByte text i b → turn place b (slice_get text (i + 1)) ≡ Ends what
    → HasRead (take i text) (drop i text) place front done → HasRead (take (i + 1) text) (drop (i + 1) text) Between [] (done ++ closed what (front ++ b ∷ []) ∷ [])
ends_as {text} {front} {i} {b} {place} {done} what at e r =
    subst (λ before. HasRead before (drop (i + 1) text) Between [] (done ++ closed what (front ++ b ∷ []) ∷ [])) (sym at.front)
    (reads_ends what (subst (λ rest. HasRead (take i text) rest place front done) at.rest r) (turned text i b place (Ends what) e))

pub read_length : {before rest front : List ℕ} {place : Place} {done : List Piece} → HasRead before rest place front done → length before ≡ length (text_of done) + length front
read_length {front = front} {done = done} r = ap length r.text ∙ length-append (text_of done) front

-- ---- one byte, over the words

pub words_goes : {text : List ℕ} {i b start : ℕ} {place : Place} {words : List SqlWord} (to : Place) → IsByte text i b → turn place b (slice_get text (i + 1)) ≡ Goes to
    → WordsTo text i start place words → WordsTo text (i + 1) start to words
words_goes {b = b} to at e w = record { front = w.front ++ b ∷ []; done = w.done; reads = goes_to to at e w.reads; start_is = w.start_is; words_are = w.words_are }

-- how long the piece is that ends
piece_length : {text front : List ℕ} {i b start : ℕ} {place : Place} {done : List Piece} → IsByte text i b → start ≡ length (text_of done)
    → HasRead (take i text) (drop i text) place front done → length (front ++ b ∷ []) ≡ i + 1 - start
piece_length {text} {front} {i} {b} {start} {place} {done} at from r =
    let within = at.within in
    let low : i ≤ length text = omega arith in
    let taken : length (take i text) ≡ i = length-take-le i text low in
    let sum : length (take i text) ≡ length (text_of done) + length front = read_length r in
    omega (arith, length-append front (b ∷ []))

-- the next piece begins after the byte
next_start : {text front : List ℕ} {i b start : ℕ} {place : Place} {done : List Piece} (what : Ended) → IsByte text i b → start ≡ length (text_of done)
    → HasRead (take i text) (drop i text) place front done → i + 1 ≡ length (text_of (done ++ closed what (front ++ b ∷ []) ∷ []))
next_start {text} {front} {i} {b} {start} {place} {done} what at from r =
    let within = at.within in
    let low : i ≤ length text = omega arith in
    let taken : length (take i text) ≡ i = length-take-le i text low in
    let sum : length (take i text) ≡ length (text_of done) + length front = read_length r in
    let whole : length (text_of (done ++ closed what (front ++ b ∷ []) ∷ [])) ≡ length (text_of done) + length (front ++ b ∷ []) =
    ap length (text_of-more done (closed what (front ++ b ∷ []))) ∙ length-append (text_of done) (front ++ b ∷ []) in
    omega (arith, length-append front (b ∷ []))

pub words_word : {text : List ℕ} {i b start : ℕ} {place : Place} {words : List SqlWord} (kind : SqlKind) → IsByte text i b → turn place b (slice_get text (i + 1)) ≡ Ends (Word kind)
    → WordsTo text i start place words → WordsTo text (i + 1) (i + 1) Between (words ++ record { kind = kind; start = start; size = i + 1 - start } ∷ [])
words_word {text} {i} {b} {start} {place} {words} kind at e w =
    let p = closed (Word kind) (w.front ++ b ∷ []) in
    let word : ℕ → ℕ → List SqlWord = λ from size. words_at 0 w.done ++ record { kind = kind; start = from; size = size } ∷ [] in
    record {
      front = [];
      done = w.done ++ p ∷ [];
      reads = ends_as (Word kind) at e w.reads;
      start_is = next_start (Word kind) at w.start_is w.reads;
      words_are = ap (λ ws. ws ++ record { kind = kind; start = start; size = i + 1 - start } ∷ []) w.words_are
          ∙ ap (λ from. word from (i + 1 - start)) (w.start_is ∙ sym (zero-add (length (text_of w.done))))
          ∙ ap (word (0 + length (text_of w.done))) (sym (piece_length at w.start_is w.reads))
          ∙ sym (words_at-more w.done p 0);
    }

pub words_gap : {text : List ℕ} {i b start : ℕ} {place : Place} {words : List SqlWord} → IsByte text i b → turn place b (slice_get text (i + 1)) ≡ Ends Gap
    → WordsTo text i start place words → WordsTo text (i + 1) (i + 1) Between words
words_gap {text} {i} {b} {start} {place} {words} at e w =
    let p = closed Gap (w.front ++ b ∷ []) in
    record {
      front = [];
      done = w.done ++ p ∷ [];
      reads = ends_as Gap at e w.reads;
      start_is = next_start Gap at w.start_is w.reads;
      words_are = w.words_are ∙ sym (append-nil (words_at 0 w.done)) ∙ sym (words_at-more w.done p 0);
    }

-- ---- at the end

-- a text that is read to its end
pub all_read : {text front : List ℕ} {place : Place} {done : List Piece} → HasRead text [] place front done → pieces_of text ≡ done ++ onto front []
unfolding pieces_from
all_read {text} r = ap pieces_of (sym (append-nil text)) ∙ r.pieces [] refl

pub to_end : {text front : List ℕ} {i : ℕ} {place : Place} {done : List Piece} → length text ≤ i → HasRead (take i text) (drop i text) place front done → HasRead text [] place front done
to_end {text} {front} {i} {place} {done} past r =
    subst (λ before. HasRead before [] place front done) (take_all i text past) (subst (λ rest. HasRead (take i text) rest place front done) (drop_all i text past) r)

-- between pieces all of them are closed
pub between_pieces : {text front : List ℕ} {done : List Piece} → HasRead text [] Between front done → pieces_of text ≡ done
between_pieces {text} {front} {done} r = all_read r ∙ ap (λ f. done ++ onto f []) r.begins ∙ append-nil done

pub words_all : {text : List ℕ} {i start : ℕ} {words : List SqlWord} → length text ≤ i → WordsTo text i start Between words → words ≡ words_of text
words_all past w = w.words_are ∙ ap (words_at 0) (sym (between_pieces (to_end past w.reads)))

pub words_closed : {text : List ℕ} {i start : ℕ} {words : List SqlWord} → length text ≤ i → WordsTo text i start Between words → is_unclosed text ≡ false
words_closed past w = let r = to_end past w.reads in ap (list_any is_open) (between_pieces r) ∙ r.whole

pub any_last : (done : List Piece) (p : Piece) → is_open p ≡ true → list_any is_open (done ++ p ∷ []) ≡ true
any_last [] p h = ap (λ o. o || false) h
any_last (q ∷ done) p h = ap (λ o. is_open q || o) (any_last done p h) ∙ or_true (is_open q)
  where
    or_true : (b : Bool) → b || true ≡ true
    or_true true = refl
    or_true false = refl

pub has_first : (place : Place) (front : List ℕ) → place ≢ Between → IsFront place front → (b : ℕ) × (more : List ℕ) × (front ≡ b ∷ more)
has_first Between front h k = absurd (h refl)
has_first InWord (b ∷ more) h k = (b, more, refl)
has_first place [] h k = absurd (none place h k)
  where
    none : (at : Place) → at ≢ Between → IsFront at [] → ⊥
    none Between g f = g refl
    none InWord g f = omega arith
    none InNumber g f = omega arith
    none InText g f = omega arith
    none TextMark g f = omega arith
    none InDouble g f = omega arith
    none DoubleMark g f = omega arith
    none InBackquotes g f = omega arith
    none BackquoteMark g f = omega arith
    none InBrackets g f = omega arith
    none LineComment g f = omega arith
    none CommentMark g f = omega arith
    none BlockComment g f = omega arith
    none Star g f = omega arith
has_first place (b ∷ more) h k = (b, more, refl)

-- inside a piece that one is open
pub inside_piece : {text front : List ℕ} {place : Place} {done : List Piece} → place ≢ Between → HasRead text [] place front done → pieces_of text ≡ done ++ record { kind = Open; text = front } ∷ []
inside_piece {text} {front} {place} {done} h r =
    let first = has_first place front h r.begins in
    all_read r ∙ ap (λ f. done ++ onto f []) first.2 ∙ ap (λ ps. done ++ ps) (onto-none first.0 first.1) ∙ ap (λ f. done ++ record { kind = Open; text = f } ∷ []) (sym first.2)

pub words_open : {text : List ℕ} {i start : ℕ} {place : Place} {words : List SqlWord} → length text ≤ i → place ≢ Between → WordsTo text i start place words → is_unclosed text ≡ true
words_open past h w = ap (list_any is_open) (inside_piece h (to_end past w.reads)) ∙ any_last w.done (record { kind = Open; text = w.front }) refl
