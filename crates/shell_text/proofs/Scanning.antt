-- What the loop over a line's bytes keeps that splits a text into statements.
use Rattle.std.proofs.Common.{◌≡◌, refl, sym, ap, ◌∙◌, ℕ, suc, ◌+◌, ◌<◌, arith, Bool, true, false, List, [], ◌∷◌, ◌++◌, length, take, drop, Option, Some, None, length-append, add-zero, zero-add}
use Rattle.std.specs.Prelude.{if◌then◌else◌, nat_lt, count_by, cond, ◌==◌}
use Rattle.std.proofs.lemmas.Bool.{lt-ltb}
use Rattle.std.proofs.lemmas.List.Sums.{sum_by-append, sum_by-cons}
use Rattle.std.specs.List.{list_any, onto_first, prefix_len}
use Rattle.std.proofs.lemmas.List.{drop-drop, drop_at}
use Rattle.shell_text.specs.Words.{Piece, PieceKind, Closed, Open, is_gap, is_open, is_word, text_of}
use Rattle.shell_text.specs.Units.{Sql, ended_unit, ended_units, ends_statement, from_first_word, gaps_before, line_behind, line_feeds, numbered, at_semicolons, tail_of, unit_of}
use Rattle.shell_text.specs.Lexed.{first_word, handed}
use Rattle.shell_text.specs.declared.words.Ended.TheVariants.{Word, Gap}
use Rattle.shell_text.specs.declared.units.Spot.{Spot}
use Rattle.shell_text.proofs.Lexing.{any-or}
use Rattle.shell_text.proofs.Restart.{ended_part, kept_part}

-- ---- lines

pub line_feeds-append : (xs ys : List ℕ) → line_feeds (xs ++ ys) ≡ line_feeds xs + line_feeds ys
line_feeds-append xs ys = sum_by-append (λ b. cond (b == 0x0A) 1 0) xs ys

pub line_behind-append : (n : ℕ) (xs ys : List ℕ) → line_behind (line_behind n xs) ys ≡ line_behind n (xs ++ ys)
line_behind-append n xs ys = let e = line_feeds-append xs ys in omega arith

-- ---- the first word

abbrev pub or_else : Option Spot → Option Spot → Option Spot
or_else None other = other
or_else (Some w) other = Some w

one_more : (k : ℕ) → 1 + k ≡ suc k
one_more k = omega arith

again : (n : ℕ) → numbered (numbered n) ≡ numbered n
again n = omega arith

behind-again : (n : ℕ) (text : List ℕ) → line_behind (numbered n) text ≡ line_behind n text
behind-again n text = omega arith

first_word-again : (ps : List Piece) (at n : ℕ) → first_word at (numbered n) ps ≡ first_word at n ps
first_word-again [] at n = refl
first_word-again (p ∷ ps) at n =
    ap (λ m. if is_gap p then first_word (at + length p.text) m ps else Some (record { at = at; line = numbered (numbered n) })) (behind-again n p.text)
    ∙ ap (λ m. if is_gap p then first_word (at + length p.text) (line_behind n p.text) ps else Some (record { at = at; line = m })) (again n)

first_if : (gap : Bool) (spot : Spot) (rest more all : Option Spot) → all ≡ or_else rest more → (if gap then all else Some spot) ≡ or_else (if gap then rest else Some spot) more
first_if true spot rest more all e = e
first_if false spot rest more all e = refl

pub first_word-append : (ps qs : List Piece) (at n : ℕ) → first_word at n (ps ++ qs) ≡ or_else (first_word at n ps) (first_word (at + length (text_of ps)) (line_behind n (text_of ps)) qs)
first_word-append [] qs at n =
    sym (ap (λ a. first_word a (line_behind n []) qs) (add-zero at) ∙ ap (λ m. first_word at m qs) (ap numbered (add-zero n)) ∙ first_word-again qs at n)
first_word-append (p ∷ ps) qs at n =
    first_if (is_gap p) (record { at = at; line = numbered n }) (first_word (at + length p.text) (line_behind n p.text) ps)
    (first_word (at + length (text_of (p ∷ ps))) (line_behind n (text_of (p ∷ ps))) qs) (first_word (at + length p.text) (line_behind n p.text) (ps ++ qs))
    (first_word-append ps qs (at + length p.text) (line_behind n p.text)
    ∙ ap (λ a. or_else (first_word (at + length p.text) (line_behind n p.text) ps) (first_word a (line_behind (line_behind n p.text) (text_of ps)) qs)) (omega (arith, length-append p.text (text_of ps)))
    ∙ ap (λ m. or_else (first_word (at + length p.text) (line_behind n p.text) ps) (first_word (at + length (text_of (p ∷ ps))) m qs)) (line_behind-append n p.text (text_of ps)))

-- where the first word begins, in terms of the gaps before it
pub record IsFirst (at n : ℕ) (ps : List Piece) (w : Spot) : Type 0 where
  pub place : w.at ≡ at + length (text_of (gaps_before ps))
  pub line : w.line ≡ line_behind n (text_of (gaps_before ps))

gaps-more : (p : Piece) (ps : List Piece) → is_gap p ≡ true → gaps_before (p ∷ ps) ≡ p ∷ gaps_before ps
gaps-more p ps g = ap (λ c. take (cond c (1 + prefix_len is_gap ps) 0) (p ∷ ps)) g ∙ ap (λ m. take m (p ∷ ps)) (one_more (prefix_len is_gap ps))

gaps-none : (p : Piece) (ps : List Piece) → is_gap p ≡ false → gaps_before (p ∷ ps) ≡ []
gaps-none p ps g = ap (λ c. take (cond c (1 + prefix_len is_gap ps) 0) (p ∷ ps)) g

is_first_if : (gap : Bool) (p : Piece) (ps : List Piece) (at n : ℕ) (w : Spot) → is_gap p ≡ gap → (if gap then first_word (at + length p.text) (line_behind n p.text) ps else Some (record { at = at; line = numbered n })) ≡ Some w
    → (first_word (at + length p.text) (line_behind n p.text) ps ≡ Some w → IsFirst (at + length p.text) (line_behind n p.text) ps w) → IsFirst at n (p ∷ ps) w
is_first_if true p ps at n w g e h =
    let f = h e in
    let gaps : gaps_before (p ∷ ps) ≡ p ∷ gaps_before ps = gaps-more p ps g in
    record {
      place = f.place ∙ omega (arith, length-append p.text (text_of (gaps_before ps))) ∙ sym (ap (λ qs. at + length (text_of qs)) gaps);
      line = f.line ∙ line_behind-append n p.text (text_of (gaps_before ps)) ∙ sym (ap (λ qs. line_behind n (text_of qs)) gaps);
    }
is_first_if false p ps at n w g e h =
    let gaps : gaps_before (p ∷ ps) ≡ [] = gaps-none p ps g in
    let same : record { at = at; line = numbered n } ≡ w = cc in
    record {
      place = ap (λ s. s.at) (sym same) ∙ sym (add-zero at) ∙ sym (ap (λ qs. at + length (text_of qs)) gaps);
      line = ap (λ s. s.line) (sym same) ∙ sym (ap numbered (add-zero n)) ∙ sym (ap (λ qs. line_behind n (text_of qs)) gaps);
    }

pub is_first : (ps : List Piece) (at n : ℕ) (w : Spot) → first_word at n ps ≡ Some w → IsFirst at n ps w
is_first [] at n w e = cc
is_first (p ∷ ps) at n w e = is_first_if (is_gap p) p ps at n w refl e (is_first ps (at + length p.text) (line_behind n p.text) w)

pub drop_past : (xs ys : List ℕ) (n : ℕ) → drop (length xs + n) (xs ++ ys) ≡ drop n ys
drop_past xs ys n = sym (drop-drop n (length xs) (xs ++ ys)) ∙ ap (drop n) (drop_at xs ys (length xs) refl)

-- the text from the first word on
from_if : (gap : Bool) (p : Piece) (ps : List Piece) → is_gap p ≡ gap → text_of (from_first_word ps) ≡ drop (length (text_of (gaps_before ps))) (text_of ps)
    → text_of (from_first_word (p ∷ ps)) ≡ drop (length (text_of (gaps_before (p ∷ ps)))) (text_of (p ∷ ps))
from_if true p ps g h =
    ap (λ c. text_of (drop (cond c (1 + prefix_len is_gap ps) 0) (p ∷ ps))) g ∙ ap (λ m. text_of (drop m (p ∷ ps))) (one_more (prefix_len is_gap ps)) ∙ h
    ∙ sym (drop_past p.text (text_of ps) (length (text_of (gaps_before ps))))
    ∙ ap (λ n. drop n (p.text ++ text_of ps)) (sym (length-append p.text (text_of (gaps_before ps))))
    ∙ ap (λ gs. drop (length (text_of gs)) (text_of (p ∷ ps))) (sym (gaps-more p ps g))
from_if false p ps g h =
    ap (λ c. text_of (drop (cond c (1 + prefix_len is_gap ps) 0) (p ∷ ps))) g
    ∙ ap (λ gs. drop (length (text_of gs)) (text_of (p ∷ ps))) (sym (gaps-none p ps g))

pub from_first : (ps : List Piece) → text_of (from_first_word ps) ≡ drop (length (text_of (gaps_before ps))) (text_of ps)
from_first [] = refl
from_first (p ∷ ps) = from_if (is_gap p) p ps refl (from_first ps)

-- ---- parts

abbrev pub HasParts : List (List Piece) → Type 0
HasParts parts = (part : List Piece) × (more : List (List Piece)) × (parts ≡ part ∷ more)

pub has_parts : (ps : List Piece) → HasParts (at_semicolons ps)
has_parts [] = ([], [], refl)
has_parts (p ∷ ps) = parts_if (ends_statement p) p (at_semicolons ps)
  where
    parts_onto : (p : Piece) (parts : List (List Piece)) → HasParts (onto_first p parts)
    parts_onto p [] = (p ∷ [], [], refl)
    parts_onto p (part ∷ more) = (p ∷ part, more, refl)

    parts_if : (ends : Bool) (p : Piece) (parts : List (List Piece)) → HasParts (if ends then (p ∷ []) ∷ parts else onto_first p parts)
    parts_if true p parts = (p ∷ [], parts, refl)
    parts_if false p parts = parts_onto p parts

none_ends : (q : Piece) (done : List Piece) → list_any ends_statement (q ∷ done) ≡ false → (ends_statement q ≡ false) × (list_any ends_statement done ≡ false)
none_ends q done h = any-or (ends_statement q) (list_any ends_statement done) h

-- pieces of which none ends a statement are one part
pub one_part : (done : List Piece) → list_any ends_statement done ≡ false → at_semicolons done ≡ done ∷ []
one_part [] h = refl
one_part (q ∷ done) h = let k = none_ends q done h in kept_part q done k.0 ∙ ap (onto_first q) (one_part done k.1)

-- and with one that does, after them, they are the first part
pub first_part : (done : List Piece) (p : Piece) (ps : List Piece) → list_any ends_statement done ≡ false → ends_statement p ≡ true → at_semicolons (done ++ p ∷ ps) ≡ (done ++ p ∷ []) ∷ at_semicolons ps
first_part [] p ps h e = ended_part p ps e
first_part (q ∷ done) p ps h e = let k = none_ends q done h in kept_part q (done ++ p ∷ ps) k.0 ∙ ap (onto_first q) (first_part done p ps k.1 e)

pub ended_first : (n : ℕ) (part ps : List Piece) → ended_units n (part ∷ at_semicolons ps) ≡ ended_unit n part ++ ended_units (line_behind n (text_of part)) (at_semicolons ps)
ended_first n part ps =
    let some = has_parts ps in
    ap (λ parts. ended_units n (part ∷ parts)) some.2 ∙ sym (ap (λ parts. ended_unit n part ++ ended_units (line_behind n (text_of part)) parts) some.2)

pub tail_first : (n : ℕ) (part ps : List Piece) → tail_of n (part ∷ at_semicolons ps) ≡ tail_of (line_behind n (text_of part)) (at_semicolons ps)
tail_first n part ps =
    let some = has_parts ps in
    ap (λ parts. tail_of n (part ∷ parts)) some.2 ∙ sym (ap (λ parts. tail_of (line_behind n (text_of part)) parts) some.2)

-- ---- the statement that ends

-- closed pieces without a word are gaps
count-cons : (q : Piece) (done : List Piece) → count_by is_word (q ∷ done) ≡ cond (is_word q) 1 0 + count_by is_word done
count-cons q done = sum_by-cons (λ p. cond (is_word p) 1 0) q done

-- for a closed piece and those after it, by its kind
no_word_if : (kind : PieceKind) (text : List ℕ) (done : List Piece) (at n : ℕ) → is_open (record { kind = kind; text = text }) ≡ false → first_word at n (record { kind = kind; text = text } ∷ done) ≡ None
    → (first_word (at + length text) (line_behind n text) done ≡ None → count_by is_word done ≡ 0) → count_by is_word (record { kind = kind; text = text } ∷ done) ≡ 0
no_word_if (Closed (Word kind)) text done at n o e f = cc
no_word_if (Closed Gap) text done at n o e f = count-cons (record { kind = Closed Gap; text = text }) done ∙ ap (λ k. 0 + k) (f e)
no_word_if Open text done at n o e f = cc

no_word : (done : List Piece) (at n : ℕ) → list_any is_open done ≡ false → first_word at n done ≡ None → count_by is_word done ≡ 0
no_word [] at n h e = refl
no_word (q ∷ done) at n h e =
    let k = any-or (is_open q) (list_any is_open done) h in
    no_word_if q.kind q.text done at n k.0 e (no_word done (at + length q.text) (line_behind n q.text) k.1)

some_word_if : (kind : PieceKind) (text : List ℕ) (done : List Piece) (at n : ℕ) (w : Spot) → is_open (record { kind = kind; text = text }) ≡ false → first_word at n (record { kind = kind; text = text } ∷ done) ≡ Some w
    → (first_word (at + length text) (line_behind n text) done ≡ Some w → 0 < count_by is_word done) → 0 < count_by is_word (record { kind = kind; text = text } ∷ done)
some_word_if (Closed (Word kind)) text done at n w o e f = omega (arith, count-cons (record { kind = Closed (Word kind); text = text }) done)
some_word_if (Closed Gap) text done at n w o e f = omega (arith, count-cons (record { kind = Closed Gap; text = text }) done, f e)
some_word_if Open text done at n w o e f = cc

some_word : (done : List Piece) (at n : ℕ) (w : Spot) → list_any is_open done ≡ false → first_word at n done ≡ Some w → 0 < count_by is_word done
some_word [] at n w h e = cc
some_word (q ∷ done) at n w h e =
    let k = any-or (is_open q) (list_any is_open done) h in
    some_word_if q.kind q.text done at n w k.0 e (some_word done (at + length q.text) (line_behind n q.text) w k.1)

-- the piece that ends a statement is a word
semicolon_word : (p : Piece) → ends_statement p ≡ true → is_word p ≡ true
semicolon_word p e = by_kind p.kind p.text e
  where
    by_kind : (kind : PieceKind) (text : List ℕ) → ends_statement (record { kind = kind; text = text }) ≡ true → is_word (record { kind = kind; text = text }) ≡ true
    by_kind (Closed (Word kind)) text e = refl
    by_kind (Closed Gap) text e = cc
    by_kind Open text e = cc

count-more : (done : List Piece) (p : Piece) → is_word p ≡ true → count_by is_word (done ++ p ∷ []) ≡ count_by is_word done + 1
count-more done p e = sum_by-append (λ q. cond (is_word q) 1 0) done (p ∷ []) ∙ ap (λ k. count_by is_word done + k) (count-cons p [] ∙ ap (λ b. cond b 1 0 + 0) e)

abbrev whole_text : List Piece → Piece → List ℕ
whole_text done p = text_of (done ++ p ∷ [])

ended_if : (n : ℕ) (part : List Piece) (b : Bool) → nat_lt 1 (count_by is_word part) ≡ b → ended_unit n part ≡ (if b then unit_of n part ∷ [] else [])
ended_if n part b e = ap (λ c. if c then unit_of n part ∷ [] else []) e

pub ended_by : (n : ℕ) (done : List Piece) (p : Piece) (word : Option Spot) → list_any is_open done ≡ false → ends_statement p ≡ true → first_word 0 n done ≡ word
    → ended_unit n (done ++ p ∷ []) ≡ handed word (whole_text done p)
ended_by n done p None o e f =
    let none : count_by is_word done ≡ 0 = no_word done 0 n o f in
    let count : count_by is_word (done ++ p ∷ []) ≡ 1 = count-more done p (semicolon_word p e) ∙ ap (λ c. c + 1) none in
    ended_if n (done ++ p ∷ []) false (ap (nat_lt 1) count)
ended_by n done p (Some w) o e f =
    let some : 0 < count_by is_word done = some_word done 0 n w o f in
    let count : count_by is_word (done ++ p ∷ []) ≡ count_by is_word done + 1 = count-more done p (semicolon_word p e) in
    let more : 1 < count_by is_word (done ++ p ∷ []) = omega arith in
    let found : first_word 0 n (done ++ p ∷ []) ≡ Some w = first_word-append done (p ∷ []) 0 n ∙ ap (λ o. or_else o (first_word (0 + length (text_of done)) (line_behind n (text_of done)) (p ∷ []))) f in
    let is = is_first (done ++ p ∷ []) 0 n w found in
    ended_if n (done ++ p ∷ []) true (lt-ltb _ _ more)
    ∙ ap (λ l. Sql l (text_of (from_first_word (done ++ p ∷ []))) ∷ []) (sym is.line)
    ∙ ap (λ t. Sql w.line t ∷ []) (from_first (done ++ p ∷ []) ∙ ap (λ k. drop k (whole_text done p)) (sym (is.place ∙ zero-add (length (text_of (gaps_before (done ++ p ∷ [])))))))
