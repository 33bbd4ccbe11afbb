-- The words of a dot-command's line are its one reading by forms.
use Rattle.std.proofs.Common.{◌≡◌, ◌≢◌, refl, sym, ap, subst, ◌∙◌, ℕ, zero, suc, ◌≤◌, arith, Bool, true, false, List, [], ◌∷◌, ◌++◌, Some, length, length-append, append-nil}
use Rattle.std.specs.Prelude.{◌==◌, ◌||◌}
use Rattle.std.proofs.lemmas.Bool.{eqb-true, ne_eqb, and_parts, or_parts, or_from}
use Rattle.std.proofs.lemmas.List.{append_assoc}
use Rattle.shell_text.specs.Dot.{is_blank, is_escape, escaped_char, begins_escape, dot_turn, dot_words_from, dot_word_chars, first_char, onto_word, place_behind, with_turn}
use Rattle.shell_text.specs.WordForms.{Lacks}
use Rattle.shell_text.specs.DotForms.{StandForWord, nothing, itself, escape, is_quotation_mark, begins_other, ends_bare, IsDotWord, in_apostrophes, open_apostrophe, in_marks, open_mark, bare, AreDotWords, no_word, blank, next_word}
use Rattle.shell_text.specs.declared.dot.Place.{Place}
use Rattle.shell_text.specs.declared.dot.Place.TheVariants.{Between, Bare, Single, Double, BareEscape, DoubleEscape}
use Rattle.shell_text.specs.declared.dot.Turn.{Turn}
use Rattle.shell_text.specs.declared.dot.Turn.TheVariants.{Goes, Adds, Ends}
use Rattle.shell_text.proofs.FormRuns.{taken, passed, lacks_first, lacks_tail}
use Rattle.shell_text.proofs.FormSplits.{UpTo, there, nowhere, up_to_byte, by_test}

-- ---- one character

words_by : (at : Place) (c : ℕ) (cs : List ℕ) (t : Turn) → dot_turn at c (first_char cs) ≡ t
    → dot_words_from at (c ∷ cs) ≡ with_turn t (dot_words_from (place_behind t) cs)
unfolding dot_words_from
words_by at c cs t e = ap (λ u. with_turn u (dot_words_from (place_behind u) cs)) e

none_left : dot_words_from Between [] ≡ []
unfolding dot_words_from
none_left = refl

onto-more : (front : List ℕ) (c : ℕ) (words : List (List ℕ)) → onto_word (c ∷ []) (onto_word front words) ≡ onto_word (c ∷ front) words
onto-more front c [] = refl
onto-more front c (word ∷ words) = refl

onto-none : (front : List ℕ) (words : List (List ℕ)) → onto_word front ([] ∷ words) ≡ front ∷ words
onto-none front words = ap (λ w. w ∷ words) (append-nil front)

onto-nil : (words : List (List ℕ)) → onto_word [] words ≡ words
onto-nil [] = refl
onto-nil (word ∷ words) = refl

-- ---- characters with escapes

-- a place at which words go on with escapes, up to what ends them
record EscapePlaces (ends : ℕ → Bool) : Type 0 where
  inside : Place
  escaped : Place
  adds : (c : ℕ) (cs : List ℕ) → ends c ≡ false → begins_escape c (first_char cs) ≡ false → dot_turn inside c (first_char cs) ≡ Adds c inside
  leads : (c : ℕ) (cs : List ℕ) → is_escape c ≡ true → dot_turn inside 0x5C (first_char (c ∷ cs)) ≡ Goes escaped
  adds_escaped : (c : ℕ) (cs : List ℕ) → dot_turn escaped c (first_char cs) ≡ Adds (escaped_char c) inside

in_quotation : EscapePlaces is_quotation_mark
unfolding dot_turn
in_quotation = record {
  inside = Double;
  escaped = DoubleEscape;
  adds = λ c cs other none. passed _ _ other ∙ passed _ _ none;
  leads = λ c cs is. taken _ _ is;
  adds_escaped = λ c cs. refl;
}

in_bare : EscapePlaces is_blank
unfolding dot_turn
in_bare = record {
  inside = Bare;
  escaped = BareEscape;
  adds = λ c cs other none. passed _ _ other ∙ passed _ _ none;
  leads = λ c cs is. taken _ _ is;
  adds_escaped = λ c cs. refl;
}

stands_on : {ends : ℕ → Bool} {behind cs word : List ℕ} (p : EscapePlaces ends) → StandForWord ends behind cs word
    → dot_words_from p.inside (cs ++ behind) ≡ onto_word word (dot_words_from p.inside behind)
stands_on {behind = behind} p nothing = sym (onto-nil (dot_words_from p.inside behind))
stands_on {behind = behind} p (itself {c} {cs} {word} other none more) =
    words_by p.inside c (cs ++ behind) (Adds c p.inside) (p.adds c (cs ++ behind) other none) ∙ ap (onto_word (c ∷ [])) (stands_on p more)
    ∙ onto-more word c (dot_words_from p.inside behind)
stands_on {behind = behind} p (escape {c} {cs} {word} is more) =
    words_by p.inside 0x5C (c ∷ (cs ++ behind)) (Goes p.escaped) (p.leads c (cs ++ behind) is)
    ∙ words_by p.escaped c (cs ++ behind) (Adds (escaped_char c) p.inside) (p.adds_escaped c (cs ++ behind))
    ∙ ap (onto_word (escaped_char c ∷ [])) (stands_on p more) ∙ onto-more word (escaped_char c) (dot_words_from p.inside behind)

-- ---- apostrophes

single_on : (word rest : List ℕ) → Lacks (0x27 ∷ []) word → dot_words_from Single (word ++ rest) ≡ onto_word word (dot_words_from Single rest)
unfolding dot_turn
single_on [] rest lacks = sym (onto-nil (dot_words_from Single rest))
single_on (c ∷ word) rest lacks =
    words_by Single c (word ++ rest) (Adds c Single) (passed _ _ (ne_eqb c 0x27 (lacks_first 0x27 c word lacks)))
    ∙ ap (onto_word (c ∷ [])) (single_on word rest (lacks_tail (0x27 ∷ []) c word lacks)) ∙ onto-more word c (dot_words_from Single rest)

single_begins : (rest : List ℕ) → dot_words_from Between (0x27 ∷ rest) ≡ dot_words_from Single rest
unfolding dot_turn
single_begins rest = words_by Between 0x27 rest (Goes Single) refl

single_ends : (behind : List ℕ) → dot_words_from Single (0x27 ∷ behind) ≡ [] ∷ dot_words_from Between behind
unfolding dot_turn
single_ends behind = words_by Single 0x27 behind Ends refl

-- ---- quotation marks

double_begins : (rest : List ℕ) → dot_words_from Between (0x22 ∷ rest) ≡ dot_words_from Double rest
unfolding dot_turn
double_begins rest = words_by Between 0x22 rest (Goes Double) refl

double_ends : (behind : List ℕ) → dot_words_from Double (0x22 ∷ behind) ≡ [] ∷ dot_words_from Between behind
unfolding dot_turn
double_ends behind = words_by Double 0x22 behind Ends refl

-- inside a word the line's end ends it
open_end : (at : Place) → at ≢ Between → dot_words_from at [] ≡ [] ∷ dot_words_from Between []
unfolding dot_words_from
open_end Between other = absurd (other refl)
open_end Bare other = refl
open_end Single other = refl
open_end Double other = refl
open_end BareEscape other = refl
open_end DoubleEscape other = refl

-- ---- bare words

bare_turn : (c : ℕ) (cs : List ℕ) → begins_other c ≡ false → dot_turn Between c (first_char cs) ≡ dot_turn Bare c (first_char cs)
unfolding dot_turn
bare_turn c cs other =
    let first = or_parts (is_blank c) ((c == 0x27) || is_quotation_mark c) other in
    let marks = or_parts (c == 0x27) (is_quotation_mark c) first.1 in
    passed _ _ first.0 ∙ passed _ _ marks.0 ∙ passed _ _ marks.1 ∙ sym (passed _ _ first.0)

bare_begins : (c : ℕ) (cs : List ℕ) → begins_other c ≡ false → dot_words_from Between (c ∷ cs) ≡ dot_words_from Bare (c ∷ cs)
bare_begins c cs other =
    let t = dot_turn Bare c (first_char cs) in
    words_by Between c cs t (bare_turn c cs other) ∙ sym (words_by Bare c cs t refl)

blank_read : (c : ℕ) (cs : List ℕ) → is_blank c ≡ true → dot_words_from Between (c ∷ cs) ≡ dot_words_from Between cs
unfolding dot_turn
blank_read c cs is = words_by Between c cs (Goes Between) (taken _ _ is)

bare_ends : (behind : List ℕ) → ends_bare behind ≡ true → dot_words_from Bare behind ≡ [] ∷ dot_words_from Between behind
unfolding dot_turn
bare_ends [] is = open_end Bare (λ e. cc)
bare_ends (c ∷ behind) is = words_by Bare c behind Ends (taken _ _ is) ∙ ap (λ ws. [] ∷ ws) (sym (blank_read c behind is))

-- ---- each form is read as its word

word_read : {cs word behind : List ℕ} → IsDotWord cs word behind → dot_words_from Between (cs ++ behind) ≡ word ∷ dot_words_from Between behind
unfolding in_quotation in_bare
word_read (in_apostrophes {word} {behind} lacks) =
    single_begins ((word ++ 0x27 ∷ []) ++ behind) ∙ ap (dot_words_from Single) (append_assoc word (0x27 ∷ []) behind) ∙ single_on word (0x27 ∷ behind) lacks
    ∙ ap (onto_word word) (single_ends behind) ∙ onto-none word (dot_words_from Between behind)
word_read (open_apostrophe {word} lacks) =
    single_begins (word ++ []) ∙ single_on word [] lacks ∙ ap (onto_word word) (open_end Single (λ e. cc)) ∙ onto-none word (dot_words_from Between [])
word_read (in_marks {cs} {word} {behind} s) =
    double_begins ((cs ++ 0x22 ∷ []) ++ behind) ∙ ap (dot_words_from Double) (append_assoc cs (0x22 ∷ []) behind) ∙ stands_on in_quotation s
    ∙ ap (onto_word word) (double_ends behind) ∙ onto-none word (dot_words_from Between behind)
word_read (open_mark {cs} {word} s) =
    double_begins (cs ++ []) ∙ stands_on in_quotation s ∙ ap (onto_word word) (open_end Double (λ e. cc)) ∙ onto-none word (dot_words_from Between [])
word_read (bare {c} {cs} {word} {behind} other s stop) =
    bare_begins c (cs ++ behind) other ∙ stands_on in_bare s ∙ ap (onto_word word) (bare_ends behind stop) ∙ onto-none word (dot_words_from Between behind)

-- ---- a line that isn't empty begins with a blank or a word

-- characters with escapes go up to one that ends them, or to the line's end
data UpToEnd (ends : ℕ → Bool) (line : List ℕ) : Type 0 where
  ended : (cs word : List ℕ) (last : ℕ) (behind : List ℕ) → line ≡ cs ++ (last ∷ behind) → ends last ≡ true
      → StandForWord ends (last ∷ behind) cs word → UpToEnd ends line
  not_ended : (word : List ℕ) → StandForWord ends [] line word → UpToEnd ends line

-- a backslash stands before an escape
data EscapesHere (c : ℕ) (cs : List ℕ) : Type 0 where
  escapes : (d : ℕ) (rest : List ℕ) → c ≡ 0x5C → cs ≡ d ∷ rest → is_escape d ≡ true → EscapesHere c cs

escapes_here : (c : ℕ) (cs : List ℕ) → begins_escape c (first_char cs) ≡ true → EscapesHere c cs
escapes_here c [] h = cc
escapes_here c (d ∷ cs) h = let parts = and_parts (c == 0x5C) (is_escape d) h in escapes d cs (eqb-true c 0x5C parts.0) refl parts.1

to_end : (ends : ℕ → Bool) (line : List ℕ) → UpToEnd ends line
to_end ends [] = not_ended [] nothing
to_end ends (c ∷ []) = by_test (ends c) (λ e. ended [] [] c [] refl e nothing) (λ e. not_ended (c ∷ []) (itself e refl nothing))
to_end ends (c ∷ d ∷ line) =
    by_test (ends c) (λ e. ended [] [] c (d ∷ line) refl e nothing) λ other.
    by_test (begins_escape c (Some d)) (λ e. by_escape (escapes_here c (d ∷ line) e) (to_end ends line)) λ none.
    by_itself other none (to_end ends (d ∷ line))
  where
    by_itself : ends c ≡ false → begins_escape c (Some d) ≡ false → UpToEnd ends (d ∷ line) → UpToEnd ends (c ∷ d ∷ line)
    by_itself other none (ended cs word last behind is e s) =
        ended (c ∷ cs) (c ∷ word) last behind (ap (λ ds. c ∷ ds) is) e (itself other (ap (λ ds. begins_escape c (first_char ds)) (sym is) ∙ none) s)
    by_itself other none (not_ended word s) = not_ended (c ∷ word) (itself other (ap (λ ds. begins_escape c (first_char ds)) (append-nil (d ∷ line)) ∙ none) s)

    two : {rest : List ℕ} {e : ℕ} → c ≡ 0x5C → d ∷ line ≡ e ∷ rest → c ∷ d ∷ line ≡ 0x5C ∷ d ∷ line
    two first same = ap (λ x. x ∷ d ∷ line) first

    by_escape : EscapesHere c (d ∷ line) → UpToEnd ends line → UpToEnd ends (c ∷ d ∷ line)
    by_escape (escapes e rest first same is) (ended cs word last behind rest_is ending s) =
        let head : d ≡ e = cc in
        ended (0x5C ∷ d ∷ cs) (escaped_char d ∷ word) last behind (two first same ∙ ap (λ ds. 0x5C ∷ d ∷ ds) rest_is) ending (escape (ap is_escape head ∙ is) s)
    by_escape (escapes e rest first same is) (not_ended word s) =
        let head : d ≡ e = cc in
        subst (UpToEnd ends) (sym (two first same)) (not_ended (escaped_char d ∷ word) (escape (ap is_escape head ∙ is) s))

data Begins (line : List ℕ) : Type 0 where
  with_word : (c : ℕ) (cs word behind : List ℕ) → line ≡ (c ∷ cs) ++ behind → IsDotWord (c ∷ cs) word behind → Begins line

apostrophe_begins : (c : ℕ) (line : List ℕ) → (c == 0x27) ≡ true → Begins (c ∷ line)
apostrophe_begins c line e = subst (λ d. Begins (d ∷ line)) (sym (eqb-true c 0x27 e)) (by_mark (up_to_byte 0x27 line))
  where
    by_mark : UpTo (0x27 ∷ []) line → Begins (0x27 ∷ line)
    by_mark (there inside behind is lacks) =
        with_word 0x27 (inside ++ 0x27 ∷ []) inside behind (ap (λ ds. 0x27 ∷ ds) (is ∙ sym (append_assoc inside (0x27 ∷ []) behind))) (in_apostrophes lacks)
    by_mark (nowhere lacks) = with_word 0x27 line line [] (ap (λ ds. 0x27 ∷ ds) (sym (append-nil line))) (open_apostrophe lacks)

mark_begins : (c : ℕ) (line : List ℕ) → (c == 0x22) ≡ true → Begins (c ∷ line)
mark_begins c line e = subst (λ d. Begins (d ∷ line)) (sym (eqb-true c 0x22 e)) (by_end (to_end is_quotation_mark line))
  where
    by_end : UpToEnd is_quotation_mark line → Begins (0x22 ∷ line)
    by_end (ended cs word last behind is ending s) =
        let mark : last ≡ 0x22 = eqb-true last 0x22 ending in
        with_word 0x22 (cs ++ 0x22 ∷ []) word behind
        (ap (λ ds. 0x22 ∷ ds) (is ∙ ap (λ x. cs ++ (x ∷ behind)) mark ∙ sym (append_assoc cs (0x22 ∷ []) behind)))
        (in_marks (subst (λ x. StandForWord is_quotation_mark (x ∷ behind) cs word) mark s))
    by_end (not_ended word s) = with_word 0x22 line word [] (ap (λ ds. 0x22 ∷ ds) (sym (append-nil line))) (open_mark s)

bare_begins_word : (c : ℕ) (line : List ℕ) → begins_other c ≡ false → Begins (c ∷ line)
bare_begins_word c line other = by_end (to_end is_blank (c ∷ line))
  where
    blank_none : is_blank c ≡ false
    blank_none = (or_parts (is_blank c) ((c == 0x27) || is_quotation_mark c) other).0

    filled : (cs word : List ℕ) (last : ℕ) (behind : List ℕ) → c ∷ line ≡ cs ++ (last ∷ behind) → is_blank last ≡ true
        → StandForWord is_blank (last ∷ behind) cs word → Begins (c ∷ line)
    filled [] word last behind is ending s =
        let same : c ≡ last = cc in
        let clash : true ≡ false = sym ending ∙ ap is_blank (sym same) ∙ blank_none in
        cc
    filled (d ∷ cs) word last behind is ending s =
        let same : d ≡ c = cc in
        with_word d cs word (last ∷ behind) is (bare (ap begins_other same ∙ other) s ending)

    by_end : UpToEnd is_blank (c ∷ line) → Begins (c ∷ line)
    by_end (ended cs word last behind is ending s) = filled cs word last behind is ending s
    by_end (not_ended word s) = with_word c line word [] (sym (append-nil (c ∷ line))) (bare other s refl)

-- a character that is no blank begins a word
first_word : (c : ℕ) (line : List ℕ) → is_blank c ≡ false → Begins (c ∷ line)
first_word c line none =
    by_test (c == 0x27) (apostrophe_begins c line) λ single.
    by_test (c == 0x22) (mark_begins c line) λ double.
    bare_begins_word c line (or_from (is_blank c) ((c == 0x27) || is_quotation_mark c) none (or_from (c == 0x27) (is_quotation_mark c) single double))

-- ---- the law

-- what is computed is a reading
computed_in : (n : ℕ) (line : List ℕ) → length line ≤ n → AreDotWords line (dot_word_chars line)
computed_in n [] low = subst (AreDotWords []) (sym none_left) no_word
computed_in zero (c ∷ line) low = absurd (omega arith)
computed_in (suc n) (c ∷ line) low =
    by_test (is_blank c) (λ is. subst (AreDotWords (c ∷ line)) (sym (blank_read c line is)) (blank is (computed_in n line (omega arith)))) λ none.
    by_first (first_word c line none) (computed_in n)
  where
    by_first : Begins (c ∷ line) → ((rest : List ℕ) → length rest ≤ n → AreDotWords rest (dot_word_chars rest))
        → AreDotWords (c ∷ line) (dot_word_chars (c ∷ line))
    by_first (with_word d cs word behind is form) all =
        let shorter : length behind ≤ n = omega (arith, ap length is, length-append cs behind) in
        subst (λ ds. AreDotWords ds (dot_word_chars ds)) (sym is)
        (subst (AreDotWords ((d ∷ cs) ++ behind)) (sym (word_read form)) (next_word form (all behind shorter)))

pub computed_words : (line : List ℕ) → AreDotWords line (dot_word_chars line)
computed_words line = computed_in (length line) line (omega arith)

-- a reading is what is computed
pub one_reading : (line : List ℕ) (words : List (List ℕ)) → AreDotWords line words → words ≡ dot_word_chars line
one_reading line words are = read are
  where
    read : {cs : List ℕ} {ws : List (List ℕ)} → AreDotWords cs ws → ws ≡ dot_word_chars cs
    read no_word = sym none_left
    read (blank {c} {behind} is later) = read later ∙ sym (blank_read c behind is)
    read (next_word {cs} {word} {behind} form later) = ap (λ ws. word ∷ ws) (read later) ∙ sym (word_read form)
