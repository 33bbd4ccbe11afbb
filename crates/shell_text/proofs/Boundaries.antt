-- Pieces of a text begin where it may be cut.
use Rattle.std.proofs.Common.{◌≡◌, refl, sym, ap, subst, ◌∙◌, ℕ, suc, ◌+◌, ◌<◌, arith, Bool, true, false, List, [], ◌∷◌, ◌++◌, length, drop, Option, Some, None, ◌⊎◌, inl, inr, get_or, length-append, add-zero, zero-add, ◌-◌}
use Rattle.std.specs.Prelude.{if◌then◌else◌, nat_le, ◌==◌, IsCharBoundary}
use Rattle.std.specs.Char.{is_ascii_digit}
use Rattle.std.specs.Str.{IsUtf8}
use Rattle.std.proofs.lemmas.Bool.{eqb-true}
use Rattle.std.proofs.lemmas.Bool.Decides.{nat_tests}
use Rattle.std.proofs.lemmas.List.{drop-drop, get_or-drop, length-drop}
use Rattle.std.proofs.lemmas.Str.{IsCharBoundary-after_ascii, IsCharBoundary-start, IsCharBoundary-end}
use Rattle.shell_text.specs.Words.{Piece, begins_word, begun, ends_line, first_byte, goes_on_word, in_comment, in_marks, in_number, in_word, is_space, next_is, pieces_from, pieces_of, place_after, text_of, turn, with_byte}
use Rattle.shell_text.specs.Lexed.{onto}
use Rattle.shell_text.specs.declared.words.SqlKind.{SqlKind}
use Rattle.shell_text.specs.declared.words.SqlKind.TheVariants as kinds
use Rattle.shell_text.specs.declared.words.Place.{Place}
use Rattle.shell_text.specs.declared.words.Place.TheVariants.{Between, InWord, InNumber, InText, TextMark, InDouble, DoubleMark, InBackquotes, BackquoteMark, InBrackets, LineComment, CommentMark, BlockComment, Star}
use Rattle.shell_text.specs.declared.words.Ended.{Ended}
use Rattle.shell_text.specs.declared.words.Ended.TheVariants.{Word, Gap}
use Rattle.shell_text.specs.declared.words.Turn.{Turn}
use Rattle.shell_text.specs.declared.words.Turn.TheVariants.{Goes, Ends}
use Rattle.shell_text.proofs.Restart.{text_of-pieces}
use Rattle.shell_text.proofs.Lexing.{text_of-append, onto-closed, onto-more, onto-none}

abbrev is_wide : ℕ → Bool
is_wide b = nat_le 128 b

-- a piece ends with an ASCII byte, or before one, or at the end
Bounds : ℕ → Option ℕ → Turn → Type 0
Bounds b next (Goes to) = Unit {0}
Bounds b next (Ends what) = (b < 128) ⊎ (next_is is_wide next ≡ false)

bounds_to : (b : ℕ) (next : Option ℕ) (to : Place) → Bounds b next (Goes to)
unfolding Bounds
bounds_to b next to = tt

bounds_low : (b : ℕ) (next : Option ℕ) (what : Ended) → b < 128 → Bounds b next (Ends what)
unfolding Bounds
bounds_low b next what h = inl h

bounds_next : (b : ℕ) (next : Option ℕ) (what : Ended) → next_is is_wide next ≡ false → Bounds b next (Ends what)
unfolding Bounds
bounds_next b next what h = inr h

bounds_of : (b : ℕ) (next : Option ℕ) (what : Ended) → Bounds b next (Ends what) → (b < 128) ⊎ (next_is is_wide next ≡ false)
unfolding Bounds
bounds_of b next what h = h

either : (P : Turn → Type 0) (c : Bool) (x y : Turn) → (c ≡ true → P x) → (c ≡ false → P y) → P (if c then x else y)
either P true x y px py = px refl
either P false x y px py = py refl

branch : (P : Turn → Type 0) (c : Bool) (x y : Turn) → P x → P y → P (if c then x else y)
branch P true x y px py = px
branch P false x y px py = py

branch_if : (P : Turn → Type 0) (c : Bool) (x y : Turn) → (c ≡ true → P x) → P y → P (if c then x else y)
branch_if P true x y px py = px refl
branch_if P false x y px py = py

space_low : (b : ℕ) → is_space b ≡ true → b < 128
space_low b h = grind (arith, nat_tests)

digit_low : (b : ℕ) → is_ascii_digit b ≡ true → b < 128
digit_low b h = grind (arith, nat_tests)

other_low : (b : ℕ) → begins_word b ≡ false → b < 128
other_low b h = grind (arith, nat_tests)

narrow : (next : Option ℕ) → next_is goes_on_word next ≡ false → next_is is_wide next ≡ false
narrow None h = refl
narrow (Some c) h = narrow_byte c h
  where
    narrow_byte : (c : ℕ) → goes_on_word c ≡ false → is_wide c ≡ false
    narrow_byte c h = grind (arith, nat_tests)

line_end : (next : Option ℕ) → ends_line next ≡ true → next_is is_wide next ≡ false
line_end None h = refl
line_end (Some c) h = ap is_wide (eqb-true c 0x0A h)

bounds_word : (b : ℕ) (next : Option ℕ) → Bounds b next (in_word next)
bounds_word b next = either (Bounds b next) _ _ _ (λ h. bounds_to b next InWord) (λ h. bounds_next b next (Word kinds.Word) (narrow next h))

bounds_number : (b : ℕ) (next : Option ℕ) → b < 128 → Bounds b next (in_number next)
bounds_number b next low = either (Bounds b next) _ _ _ (λ h. bounds_to b next InNumber) (λ h. bounds_low b next (Word kinds.Number) low)

bounds_marks : (inside doubled : Place) (kind : SqlKind) (mark b : ℕ) (next : Option ℕ) → mark < 128 → Bounds b next (in_marks inside doubled kind mark b next)
bounds_marks inside doubled kind mark b next low =
    branch_if (Bounds b next) (b == mark) (if next_is (λ c. c == mark) next then Goes doubled else Ends (Word kind)) (Goes inside)
    (λ h. let e : b ≡ mark = eqb-true b mark h in branch (Bounds b next) _ _ _ (bounds_to b next doubled) (bounds_low b next (Word kind) (omega arith)))
    (bounds_to b next inside)

bounds_comment : (b : ℕ) (next : Option ℕ) → Bounds b next (in_comment b)
bounds_comment b next = either (Bounds b next) _ _ _ (λ h. bounds_to b next Star) (λ h. bounds_to b next BlockComment)

bounds_last : (b : ℕ) (next : Option ℕ) → begins_word b ≡ false → Bounds b next (if is_ascii_digit b then in_number next else Ends (Word kinds.Symbol))
bounds_last b next other =
    either (Bounds b next) (is_ascii_digit b) (in_number next) (Ends (Word kinds.Symbol)) (λ h. bounds_number b next (digit_low b h)) (λ h. bounds_low b next (Word kinds.Symbol) (other_low b other))

bounds_plain : (b : ℕ) (next : Option ℕ) → Bounds b next (if begins_word b then in_word next else (if is_ascii_digit b then in_number next else Ends (Word kinds.Symbol)))
bounds_plain b next =
    either (Bounds b next) (begins_word b) (in_word next) (if is_ascii_digit b then in_number next else Ends (Word kinds.Symbol)) (λ h. bounds_word b next) (λ h. bounds_last b next h)

bounds_begun : (b : ℕ) (next : Option ℕ) → Bounds b next (begun b next)
unfolding begun
bounds_begun b next =
    branch_if (Bounds b next) _ _ _ (λ h. bounds_low b next Gap (space_low b h))
    (branch (Bounds b next) _ _ _ (bounds_to b next LineComment)
    (branch (Bounds b next) _ _ _ (bounds_to b next CommentMark)
    (branch (Bounds b next) _ _ _ (bounds_to b next InText)
    (branch (Bounds b next) _ _ _ (bounds_to b next InDouble)
    (branch (Bounds b next) _ _ _ (bounds_to b next InBackquotes)
    (branch (Bounds b next) _ _ _ (bounds_to b next InBrackets) (bounds_plain b next)))))))

-- inside a number stands a digit
abbrev Suits : Place → Option ℕ → Type 0
Suits InNumber next = next_is is_ascii_digit next ≡ true
Suits _ next = Unit {0}

bounds : (at : Place) (b : ℕ) (next : Option ℕ) → Suits at (Some b) → Bounds b next (turn at b next)
unfolding turn
bounds Between b next s = bounds_begun b next
bounds InWord b next s = bounds_word b next
bounds InNumber b next s = bounds_number b next (digit_low b s)
bounds InText b next s = bounds_marks InText TextMark kinds.Text 0x27 b next (omega arith)
bounds TextMark b next s = bounds_to b next InText
bounds InDouble b next s = bounds_marks InDouble DoubleMark kinds.Quoted 0x22 b next (omega arith)
bounds DoubleMark b next s = bounds_to b next InDouble
bounds InBackquotes b next s = bounds_marks InBackquotes BackquoteMark kinds.Quoted 0x60 b next (omega arith)
bounds BackquoteMark b next s = bounds_to b next InBackquotes
bounds InBrackets b next s = either (Bounds b next) _ _ _ (λ h. let e : b ≡ 0x5D = eqb-true b 0x5D h in bounds_low b next (Word kinds.Quoted) (omega arith)) (λ h. bounds_to b next InBrackets)
bounds LineComment b next s = either (Bounds b next) _ _ _ (λ h. bounds_next b next Gap (line_end next h)) (λ h. bounds_to b next LineComment)
bounds CommentMark b next s = bounds_to b next BlockComment
bounds BlockComment b next s = bounds_comment b next
bounds Star b next s = branch_if (Bounds b next) _ _ _ (λ h. let e : b ≡ 0x2F = eqb-true b 0x2F h in bounds_low b next Gap (omega arith)) (bounds_comment b next)

-- where a turn leads to, the next byte suits
Suited : Option ℕ → Turn → Type 0
Suited next (Goes to) = Suits to next
Suited next (Ends what) = Unit {0}

suits_to : (next : Option ℕ) (to : Place) → Suits to next → Suited next (Goes to)
unfolding Suited
suits_to next to h = h

suits_end : (next : Option ℕ) (what : Ended) → Suited next (Ends what)
unfolding Suited
suits_end next what = tt

suits_of : (next : Option ℕ) (to : Place) → Suited next (Goes to) → Suits to next
unfolding Suited
suits_of next to h = h

suits_number : (next : Option ℕ) → Suited next (in_number next)
suits_number next = either (Suited next) _ _ _ (λ h. suits_to next InNumber h) (λ h. suits_end next (Word kinds.Number))

suits_word : (next : Option ℕ) → Suited next (in_word next)
suits_word next = either (Suited next) _ _ _ (λ h. suits_to next InWord tt) (λ h. suits_end next (Word kinds.Word))

suits_marks : (inside doubled : Place) (kind : SqlKind) (mark b : ℕ) (next : Option ℕ) → Suits inside next → Suits doubled next → Suited next (in_marks inside doubled kind mark b next)
suits_marks inside doubled kind mark b next h k =
    branch (Suited next) _ _ _ (branch (Suited next) _ _ _ (suits_to next doubled k) (suits_end next (Word kind))) (suits_to next inside h)

suits_comment : (b : ℕ) (next : Option ℕ) → Suited next (in_comment b)
suits_comment b next = either (Suited next) _ _ _ (λ h. suits_to next Star tt) (λ h. suits_to next BlockComment tt)

suits_begun : (b : ℕ) (next : Option ℕ) → Suited next (begun b next)
unfolding begun
suits_begun b next =
    branch (Suited next) _ _ _ (suits_end next Gap)
    (branch (Suited next) _ _ _ (suits_to next LineComment tt)
    (branch (Suited next) _ _ _ (suits_to next CommentMark tt)
    (branch (Suited next) _ _ _ (suits_to next InText tt)
    (branch (Suited next) _ _ _ (suits_to next InDouble tt)
    (branch (Suited next) _ _ _ (suits_to next InBackquotes tt)
    (branch (Suited next) _ _ _ (suits_to next InBrackets tt)
    (branch (Suited next) _ _ _ (suits_word next)
    (branch (Suited next) _ _ _ (suits_number next) (suits_end next (Word kinds.Symbol))))))))))

suited : (at : Place) (b : ℕ) (next : Option ℕ) → Suited next (turn at b next)
unfolding turn
suited Between b next = suits_begun b next
suited InWord b next = suits_word next
suited InNumber b next = suits_number next
suited InText b next = suits_marks InText TextMark kinds.Text 0x27 b next tt tt
suited TextMark b next = suits_to next InText tt
suited InDouble b next = suits_marks InDouble DoubleMark kinds.Quoted 0x22 b next tt tt
suited DoubleMark b next = suits_to next InDouble tt
suited InBackquotes b next = suits_marks InBackquotes BackquoteMark kinds.Quoted 0x60 b next tt tt
suited BackquoteMark b next = suits_to next InBackquotes tt
suited InBrackets b next = either (Suited next) _ _ _ (λ h. suits_end next (Word kinds.Quoted)) (λ h. suits_to next InBrackets tt)
suited LineComment b next = either (Suited next) _ _ _ (λ h. suits_end next Gap) (λ h. suits_to next LineComment tt)
suited CommentMark b next = suits_to next BlockComment tt
suited BlockComment b next = suits_comment b next
suited Star b next = branch (Suited next) _ _ _ (suits_end next Gap) (suits_comment b next)

-- ---- a text, piece by piece

-- each of the pieces that begin at a place of a text begins where the text may be cut
abbrev pub AllBegin : List ℕ → ℕ → List Piece → Type 0
AllBegin text at [] = Unit {0}
AllBegin text at (p ∷ ps) = IsCharBoundary text at × AllBegin text (at + length p.text) ps

record IsAt (text : List ℕ) (i b : ℕ) (rest : List ℕ) : Type 0 where
  within : i < length text
  byte : get_or text i 0 ≡ b
  next : drop (i + 1) text ≡ rest

is_at : (text : List ℕ) (i b : ℕ) (rest : List ℕ) → drop i text ≡ b ∷ rest → IsAt text i b rest
is_at text i b rest e = record {
  within = let long : length text - i ≡ suc (length rest) = sym (length-drop i text) ∙ ap length e in omega arith;
  byte = ap (λ n. get_or text n 0) (sym (add-zero i)) ∙ sym (get_or-drop i text 0 0) ∙ ap (λ xs. get_or xs 0 0) e;
  next = sym (drop-drop 1 i text) ∙ ap (drop 1) e;
}

before_narrow : (text : List ℕ) (i b : ℕ) (rest : List ℕ) → IsAt text i b rest → next_is is_wide (first_byte rest) ≡ false → IsCharBoundary text (i + 1)
before_narrow text i b [] at h = (omega (arith, at.within), λ low wide. let none : length text - (i + 1) ≡ 0 = sym (length-drop (i + 1) text) ∙ ap length at.next in absurd (omega arith))
before_narrow text i b (c ∷ rest) at h =
    let low : c < 128 = grind (arith, nat_tests) in
    let byte : get_or text (i + 1) 0 ≡ c = (is_at text (i + 1) c rest at.next).byte in
    (omega (arith, at.within), λ within wide. absurd (omega arith))

behind : (text : List ℕ) (i b : ℕ) (rest : List ℕ) → IsUtf8 text → IsAt text i b rest → (b < 128) ⊎ (next_is is_wide (first_byte rest) ≡ false) → IsCharBoundary text (i + 1)
behind text i b rest utf8 at (inl h) = IsCharBoundary-after_ascii text i utf8 at.within (subst (λ c. c < 128) (sym at.byte) h)
behind text i b rest utf8 at (inr h) = before_narrow text i b rest at h

begin_step : (text : List ℕ) (i start b : ℕ) (front rest : List ℕ) (t : Turn) → IsUtf8 text → IsAt text i b rest → start + length front ≡ i → IsCharBoundary text start
    → Bounds b (first_byte rest) t → Suited (first_byte rest) t
    → ((start' : ℕ) (front' : List ℕ) (to : Place) → start' + length front' ≡ i + 1 → IsCharBoundary text start' → Suits to (first_byte rest) → AllBegin text start' (onto front' (pieces_from to rest)))
    → AllBegin text start (onto front (with_byte t b (pieces_from (place_after t) rest)))
begin_step text i start b front rest (Goes to) utf8 at from cut bound suit go =
    subst (AllBegin text start) (onto-more front b (pieces_from to rest))
    (go start (front ++ b ∷ []) to (omega (arith, length-append front (b ∷ []))) cut (suits_of (first_byte rest) to suit))
begin_step text i start b front rest (Ends what) utf8 at from cut bound suit go =
    subst (AllBegin text start) (sym (onto-closed front b what (pieces_from Between rest)))
    (let past : start + length (front ++ b ∷ []) ≡ i + 1 = omega (arith, length-append front (b ∷ [])) in
    let past0 : start + length (front ++ b ∷ []) + 0 ≡ i + 1 = omega arith in (
      cut,
      go (start + length (front ++ b ∷ [])) [] Between past0
          (subst (IsCharBoundary text) (sym past) (behind text i b rest utf8 at (bounds_of b (first_byte rest) what bound))) tt,
    ))

all_begin : (rest text : List ℕ) (i start : ℕ) (front : List ℕ) (place : Place) → IsUtf8 text → drop i text ≡ rest → start + length front ≡ i → IsCharBoundary text start → Suits place (first_byte rest)
    → AllBegin text start (onto front (pieces_from place rest))
unfolding pieces_from
all_begin [] text i start [] place utf8 e from cut suit = tt
all_begin [] text i start (c ∷ front) place utf8 e from cut suit = subst (AllBegin text start) (sym (onto-none c front)) (cut, tt)
all_begin (b ∷ rest) text i start front place utf8 e from cut suit =
    let at = is_at text i b rest e in
    begin_step text i start b front rest (turn place b (first_byte rest)) utf8 at from cut (bounds place b (first_byte rest) suit) (suited place b (first_byte rest))
    (λ start' front' to from' cut' suit'. all_begin rest text (i + 1) start' front' to utf8 at.next from' cut' suit')

pub pieces_begin : (text : List ℕ) → IsUtf8 text → AllBegin text 0 (pieces_of text)
pieces_begin text utf8 = all_begin text text 0 0 [] Between utf8 refl refl (IsCharBoundary-start text utf8) tt

skip : (text : List ℕ) (at : ℕ) (xs ys : List Piece) → AllBegin text at (xs ++ ys) → AllBegin text (at + length (text_of xs)) ys
skip text at [] ys h = subst (λ n. AllBegin text n ys) (sym (add-zero at)) h
skip text at (x ∷ xs) ys h =
    subst (λ n. AllBegin text n ys) (omega (arith, length-append x.text (text_of xs))) (skip text (at + length x.text) xs ys h.1)

cut_before : (text : List ℕ) (at : ℕ) (ys : List Piece) → AllBegin text at ys → (at ≡ length text → IsCharBoundary text at) → at + length (text_of ys) ≡ length text → IsCharBoundary text at
cut_before text at [] h end e = end (sym (add-zero at) ∙ e)
cut_before text at (y ∷ ys) h end e = h.0

-- after some of a text's pieces it may be cut
pub cut_at : (text : List ℕ) (xs ys : List Piece) → IsUtf8 text → pieces_of text ≡ xs ++ ys → IsCharBoundary text (length (text_of xs))
cut_at text xs ys utf8 e =
    let n = length (text_of xs) in
    let whole : text_of xs ++ text_of ys ≡ text = sym (text_of-append xs ys) ∙ ap text_of (sym e) ∙ text_of-pieces text Between in
    cut_before text n ys
    (subst (λ at. AllBegin text at ys) (zero-add n) (skip text 0 xs ys (subst (AllBegin text 0) e (pieces_begin text utf8))))
    (λ at. subst (IsCharBoundary text) (sym at) (IsCharBoundary-end text))
    (sym (length-append (text_of xs) (text_of ys)) ∙ ap length whole)
