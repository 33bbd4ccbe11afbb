-- The characters between two marks.
use Rattle.std.proofs.Common.{◌≡◌, ◌≢◌, ℕ, ◌-◌, Bool, true, false, cond, Option, Some, None, List, [], ◌∷◌, ◌++◌, length, take, refl, sym, ap, ◌∙◌, subst, arith, append_assoc, append-nil, ◌&&◌, ◌==◌, chars, encode_utf8, encode_utf8_all}
use Rattle.std.specs.declared.str.Chars.{Chars}
use Rattle.std.proofs.lemmas.Str.{chars-encodes, chars-nil, encodes_same, encodes-append, cons_from_encodes, length-le-encodes}
use Rattle.std.proofs.Math.Seq.{take-append_seam}
use Rattle.std.proofs.lemmas.Bool.Decides.{nat_tests}
use Rattle.shell_text.specs.WordForms.{IsInMarks}
use Rattle.ft_statements.proofs.Common.{IsUtf8, chars_rest, chars_steps_back, length-append, StandsFor, nothing, other_character, doubled_mark, halved, closing, between_marks}
use Rattle.shell_text.specs.WordForms as marked

characters_are : (text : List ℕ) (u : IsUtf8 text) → chars text ≡ u.0
characters_are text u = sym (ap chars u.1.1) ∙ chars-encodes u.0 u.1.0

no_text : (text : List ℕ) → length text ≡ 0 → text ≡ []
no_text [] none = refl
no_text (b ∷ bs) none = absurd (omega (arith, none))

-- ---- one mark for two

-- What is found so far, and what is still to come of the characters that are left.
pub record Halves (mark : ℕ) (text found : List ℕ) (after : Bool) (left : List ℕ) : Type 0 where
  pub characters : List ℕ
  pub spell : encode_utf8_all characters ≡ left
  pub whole : found ++ encode_utf8_all (halved mark after characters) ≡ encode_utf8_all (halved mark false (chars text))

pub begins : (mark : ℕ) (text found left : List ℕ) → IsUtf8 text → found ≡ [] → left ≡ text → Halves mark text found false left
begins mark text found left u none all = record {
  characters = u.0;
  spell = u.1.1 ∙ sym all;
  whole = ap (λ fs. fs ++ encode_utf8_all (halved mark false u.0)) none ∙ ap (λ cs. encode_utf8_all (halved mark false cs)) (sym (characters_are text u));
}

module _ (mark : ℕ) (text found : List ℕ) (after : Bool) (left : List ℕ) (h : Halves mark text found after left) where
  pub passes : (c : ℕ) (rest : List ℕ) → left ≡ encode_utf8 c ++ rest → (after && c == mark) ≡ true → Halves mark text found false rest
  passes c rest is both =
      let s = cons_from_encodes h.characters rest c (h.spell ∙ is) in
      let step : halved mark after (c ∷ s.0) ≡ halved mark false s.0 = ap (λ b. cond b (halved mark false s.0) (c ∷ halved mark (c == mark) s.0)) both in
      record {
        characters = s.0;
        spell = s.2;
        whole = ap (λ cs. found ++ encode_utf8_all cs) (sym (ap (halved mark after) s.1 ∙ step)) ∙ h.whole;
      }

  pub takes : (c : ℕ) (rest more : List ℕ) → left ≡ encode_utf8 c ++ rest → more ≡ found ++ encode_utf8 c → (after && c == mark) ≡ false → Halves mark text more (c == mark) rest
  takes c rest more is grows neither =
      let s = cons_from_encodes h.characters rest c (h.spell ∙ is) in
      let step : halved mark after (c ∷ s.0) ≡ c ∷ halved mark (c == mark) s.0 = ap (λ b. cond b (halved mark false s.0) (c ∷ halved mark (c == mark) s.0)) neither in
      record {
        characters = s.0;
        spell = s.2;
        whole = ap (λ fs. fs ++ encode_utf8_all (halved mark (c == mark) s.0)) grows
            ∙ append_assoc found (encode_utf8 c) (encode_utf8_all (halved mark (c == mark) s.0))
            ∙ ap (λ cs. found ++ encode_utf8_all cs) (sym (ap (halved mark after) s.1 ∙ step)) ∙ h.whole;
      }

  pub ends : length left ≡ 0 → found ≡ encode_utf8_all (halved mark false (chars text))
  ends none =
      let few = length-le-encodes h.characters in
      let nothing : h.characters ≡ [] = no_text h.characters (omega (arith, few, ap length h.spell, none)) in
      sym (append-nil found) ∙ ap (λ cs. found ++ encode_utf8_all (halved mark after cs)) (sym nothing) ∙ h.whole

-- ---- between two marks

pub no_mark : (text : List ℕ) → length text ≡ 0 → between_marks (chars text) ≡ []
no_mark text none = ap (λ bs. between_marks (chars bs)) (no_text text none) ∙ ap between_marks chars-nil

-- after the first character, and before the last if there is one
pub inside_marks : (text : List ℕ) (s t : Chars) (mark : ℕ) (last : Option ℕ) → IsUtf8 text → IsUtf8 (chars_rest t) → text ≡ encode_utf8 mark ++ chars_rest s → chars_steps_back s last t
    → between_marks (chars text) ≡ halved (closing mark) false (chars (chars_rest t))
inside_marks text s t mark None u v is (none, same) =
    let cs = cons_from_encodes u.0 (chars_rest s) mark (u.1.1 ∙ is) in
    let few = length-le-encodes cs.0 in
    let alone : cs.0 ≡ [] = no_text cs.0 (omega (arith, few, ap length cs.2, none)) in
    ap between_marks (characters_are text u ∙ cs.1 ∙ ap (λ ds. mark ∷ ds) alone)
    ∙ ap (halved (closing mark) false) (sym (ap chars (ap chars_rest same ∙ no_text (chars_rest s) none) ∙ chars-nil))
inside_marks text s t mark (Some c) u v is behind =
    let es = v.0 in
    let spelled : encode_utf8_all (es ++ c ∷ []) ≡ chars_rest s = encodes-append es (c ∷ []) ∙ ap (λ e. e ++ encode_utf8_all (c ∷ [])) v.1.1 ∙ ap (λ e. chars_rest t ++ e) (append-nil (encode_utf8 c)) ∙ sym behind in
    let same : u.0 ≡ mark ∷ (es ++ c ∷ []) = encodes_same u.0 (mark ∷ (es ++ c ∷ [])) (u.1.1 ∙ is ∙ ap (λ r. encode_utf8 mark ++ r) (sym spelled)) in
    let count : length (es ++ c ∷ []) - 1 ≡ length es = omega (arith, length-append es (c ∷ [])) in
    ap between_marks (characters_are text u ∙ same)
    ∙ ap (λ n. halved (closing mark) false (take n (es ++ c ∷ []))) count
    ∙ ap (halved (closing mark) false) (take-append_seam es (c ∷ []) ∙ sym (characters_are (chars_rest t) v))

-- ---- what stands between marks, and what it stands for

pub stands_marked : {mark : ℕ} {inside text : List ℕ} → StandsFor mark inside text → IsInMarks mark inside
stands_marked nothing = marked.nothing
stands_marked (other_character other s) = marked.other_byte other (stands_marked s)
stands_marked (doubled_mark s) = marked.doubled_mark (stands_marked s)

not_mark : (c mark : ℕ) → c ≢ mark → (c == mark) ≡ false
not_mark c mark other = grind (arith, nat_tests, other)

is_mark : (mark : ℕ) → (mark == mark) ≡ true
is_mark mark = grind (arith, nat_tests)

-- what is computed after another character, and after two marks
one_taken : (mark c : ℕ) (cs : List ℕ) → c ≢ mark → halved mark false (c ∷ cs) ≡ c ∷ halved mark false cs
one_taken mark c cs other = ap (λ b. c ∷ halved mark b cs) (not_mark c mark other)

two_taken : (mark : ℕ) (cs : List ℕ) → halved mark false (mark ∷ mark ∷ cs) ≡ mark ∷ halved mark false cs
two_taken mark cs =
    ap (λ b. mark ∷ halved mark b (mark ∷ cs)) (is_mark mark)
    ∙ ap (λ b. mark ∷ cond b (halved mark false cs) (mark ∷ halved mark b cs)) (is_mark mark)

pub stands_halved : {mark : ℕ} {inside text : List ℕ} → StandsFor mark inside text → halved mark false inside ≡ text
stands_halved nothing = refl
stands_halved {mark} (other_character {c} {inside} other s) = one_taken mark c inside other ∙ ap (λ cs. c ∷ cs) (stands_halved s)
stands_halved {mark} (doubled_mark {inside} s) = two_taken mark inside ∙ ap (λ cs. mark ∷ cs) (stands_halved s)

marked_stands : {mark : ℕ} {inside : List ℕ} → IsInMarks mark inside → StandsFor mark inside (halved mark false inside)
marked_stands marked.nothing = nothing
marked_stands {mark} (marked.other_byte {b} {bytes} other m) = subst (StandsFor mark (b ∷ bytes)) (sym (one_taken mark b bytes other)) (other_character other (marked_stands m))
marked_stands {mark} (marked.doubled_mark {bytes} m) = subst (StandsFor mark (mark ∷ mark ∷ bytes)) (sym (two_taken mark bytes)) (doubled_mark (marked_stands m))

pub halved_stands : (mark : ℕ) (inside text : List ℕ) → IsInMarks mark inside × (halved mark false inside ≡ text) → StandsFor mark inside text
halved_stands mark inside text both = subst (StandsFor mark inside) both.1 (marked_stands both.0)

pub between : (mark : ℕ) {inside text : List ℕ} → StandsFor (closing mark) inside text → between_marks (mark ∷ inside ++ closing mark ∷ []) ≡ text
between mark {inside} s =
    let count : length (inside ++ closing mark ∷ []) - 1 ≡ length inside = omega (arith, length-append inside (closing mark ∷ [])) in
    ap (λ n. halved (closing mark) false (take n (inside ++ closing mark ∷ []))) count
    ∙ ap (halved (closing mark) false) (take-append_seam inside (closing mark ∷ [])) ∙ stands_halved s
