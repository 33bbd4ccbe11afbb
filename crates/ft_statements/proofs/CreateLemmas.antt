-- Arguments of a CREATE VIRTUAL TABLE.
use Rattle.std.proofs.Common.{◌≡◌, ℕ, List, [], ◌∷◌, ◌++◌, map, Some, codes, refl, sym, ap, ◌∙◌, ◌≤◌, length, get_or, drop, take, ◌-◌, arith, string_bytes, String, Global}
use Rattle.ft_statements.proofs.Common.{flat_map, join_with_byte, append-nil, map-append, take_all, Token, bare, Argument, Setting, Column, joined, settings_in, columns_in, tokenizer_of, seen, plain, argument_as}
use Rattle.ft_statements.specs.declared.words.Token.{Token as RustToken}
use Rattle.ft_statements.specs.declared.create.Argument.{Argument as Code}

-- a word's text after a space
abbrev pub behind_space : Token → List ℕ
behind_space t = 0x20 ∷ bare t

pub joined_behind : (t : Token) (ts : List Token) → joined (t ∷ ts) ≡ bare t ++ flat_map behind_space ts
joined_behind t [] = sym (append-nil (bare t))
joined_behind t (u ∷ us) = ap (λ later. bare t ++ 0x20 ∷ later) (joined_behind u us)

pub joined_first : (ps : List RustToken) (d : RustToken) → 1 ≤ length ps → joined (plain ps) ≡ bare (seen (get_or ps 0 d)) ++ flat_map behind_space (plain (take (length ps - 1) (drop 1 ps)))
joined_first [] d h = absurd (omega (arith, h))
joined_first (p ∷ ps) d h = joined_behind (seen p) (plain ps) ∙ ap (λ qs. bare (seen p) ++ flat_map behind_space (plain qs)) (sym (take_all (length (p ∷ ps) - 1) ps (omega arith)))

-- a tokenizer where there are words
pub tokenizer_is : (ps : List RustToken) → (length ps ≡ 0 → ⊥) → tokenizer_of (plain ps) ≡ Some (Setting (codes "tokenize") (joined (plain ps)))
tokenizer_is [] h = absurd (h refl)
tokenizer_is (p ∷ ps) h = refl

pub settings_more : (arguments : List Argument) (argument : Argument) → settings_in (arguments ++ argument ∷ []) ≡ settings_in arguments ++ settings_in (argument ∷ [])
settings_more [] argument = refl
settings_more (Setting name value ∷ more) argument = ap (λ s. (name, value) ∷ s) (settings_more more argument)
settings_more (Column name ∷ more) argument = settings_more more argument

pub columns_more : (arguments : List Argument) (argument : Argument) → columns_in (arguments ++ argument ∷ []) ≡ columns_in arguments ++ columns_in (argument ∷ [])
columns_more [] argument = refl
columns_more (Setting name value ∷ more) argument = columns_more more argument
columns_more (Column name ∷ more) argument = ap (λ s. name ∷ s) (columns_more more argument)

-- those of one argument more
pub one_setting : (ys : List Code) (y : Code) (a : Argument) → argument_as y ≡ a → settings_in (map argument_as (ys ++ y ∷ [])) ≡ settings_in (map argument_as ys) ++ settings_in (a ∷ [])
one_setting ys y a is =
    ap settings_in (map-append argument_as ys (y ∷ [])) ∙ settings_more (map argument_as ys) (argument_as y)
    ∙ ap (λ b. settings_in (map argument_as ys) ++ settings_in (b ∷ [])) is

pub one_column : (ys : List Code) (y : Code) (a : Argument) → argument_as y ≡ a → columns_in (map argument_as (ys ++ y ∷ [])) ≡ columns_in (map argument_as ys) ++ columns_in (a ∷ [])
one_column ys y a is =
    ap columns_in (map-append argument_as ys (y ∷ [])) ∙ columns_more (map argument_as ys) (argument_as y)
    ∙ ap (λ b. columns_in (map argument_as ys) ++ columns_in (b ∷ [])) is

-- ---- words with a space between each two

abbrev pub spaced : List ℕ → List ℕ
spaced word = 0x20 ∷ word

spaced_words : (word : List ℕ) (words : List (List ℕ)) → join_with_byte 0x20 (word ∷ words) ≡ word ++ flat_map spaced words
spaced_words word [] = sym (append-nil word)
spaced_words word (next ∷ more) = ap (λ later. word ++ 0x20 ∷ later) (spaced_words next more)

pub words_first : (ws : List (String Global)) (d : String Global) → 1 ≤ length ws → join_with_byte 0x20 (map string_bytes ws) ≡ string_bytes (get_or ws 0 d) ++ flat_map spaced (map string_bytes (take (length ws - 1) (drop 1 ws)))
words_first [] d h = absurd (omega (arith, h))
words_first (w ∷ ws) d h = spaced_words (string_bytes w) (map string_bytes ws) ∙ ap (λ vs. string_bytes w ++ flat_map spaced (map string_bytes vs)) (sym (take_all (length (w ∷ ws) - 1) ws (omega arith)))
