-- Meaning. The words of a dot-command's line by their forms: which characters are a word, what they stand for, and what stands after them,
-- without a state. A line falls into such words in one way, which is `dot_word_chars`: the law `dot_words_by_forms`. The rules are those of
-- "Command Line Shell For SQLite", section "Dot-command arguments", where a comment says no more.
use Rattle.std.specs.Prelude.{◌≡◌, ◌==◌, ◌||◌, ℕ, Bool, true, false, List, [], ◌∷◌, ◌++◌, codes}
use Rattle.shell_text.specs.Dot.{is_blank, is_escape, escaped_char, begins_escape, first_char}
use Rattle.shell_text.specs.WordForms.{Lacks}

-- What characters of a word stand for, none of which ends it, with `behind` behind the last of them: a character for itself, or an escape,
-- a backslash with the character that it escapes. So a backslash that is itself escaped escapes nothing.
pub data StandForWord (ends : ℕ → Bool) (behind : List ℕ) : List ℕ → List ℕ → Type 0 where
  nothing : StandForWord ends behind [] []
  itself : {c : ℕ} {cs word : List ℕ} → ends c ≡ false → begins_escape c (first_char (cs ++ behind)) ≡ false
      → StandForWord ends behind cs word → StandForWord ends behind (c ∷ cs) (c ∷ word)
  escape : {c : ℕ} {cs word : List ℕ} → is_escape c ≡ true → StandForWord ends behind cs word → StandForWord ends behind (0x5C ∷ c ∷ cs) (escaped_char c ∷ word)

abbrev pub is_quotation_mark : ℕ → Bool
is_quotation_mark c = c == 0x22

-- such a character begins no bare word
abbrev pub begins_other : ℕ → Bool
begins_other c = is_blank c || ((c == 0x27) || is_quotation_mark c)

-- there is no next character, or it is a blank
abbrev pub ends_bare : List ℕ → Bool
ends_bare [] = true
ends_bare (c ∷ cs) = is_blank c

-- The forms of words: their characters, the word that these stand for, and what stands after them up to the line's end. A mark that isn't
-- closed goes to the line's end (own choice), and what follows a closing mark begins the next word (own choice).
pub data IsDotWord : List ℕ → List ℕ → List ℕ → Type 0 where
  -- in apostrophes up to the next one, without escapes
  in_apostrophes : {word behind : List ℕ} → Lacks (codes "'") word → IsDotWord (codes "'" ++ (word ++ codes "'")) word behind
  open_apostrophe : {word : List ℕ} → Lacks (codes "'") word → IsDotWord (codes "'" ++ word) word []
  -- in quotation marks up to the next one that isn't escaped
  in_marks : {cs word behind : List ℕ} → StandForWord is_quotation_mark (0x22 ∷ behind) cs word → IsDotWord (0x22 ∷ (cs ++ 0x22 ∷ [])) word behind
  open_mark : {cs word : List ℕ} → StandForWord is_quotation_mark [] cs word → IsDotWord (0x22 ∷ cs) word []
  -- bare up to the next blank (that it has escapes too is our own choice)
  bare : {c : ℕ} {cs word behind : List ℕ} → begins_other c ≡ false → StandForWord is_blank behind (c ∷ cs) word → ends_bare behind ≡ true
      → IsDotWord (c ∷ cs) word behind

-- The words of a line, with blanks before, between and after them.
pub data AreDotWords : List ℕ → List (List ℕ) → Type 0 where
  no_word : AreDotWords [] []
  blank : {c : ℕ} {behind : List ℕ} {words : List (List ℕ)} → is_blank c ≡ true → AreDotWords behind words → AreDotWords (c ∷ behind) words
  next_word : {cs word behind : List ℕ} {words : List (List ℕ)} → IsDotWord cs word behind → AreDotWords behind words
      → AreDotWords (cs ++ behind) (word ∷ words)
