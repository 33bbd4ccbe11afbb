-- The tables that a statement names, and how a plain one is run.
use Rattle.std.proofs.Common.{◌≡◌, ℕ, ◌-◌, ◌≤◌, Bool, true, false, ◌||◌, ◌&&◌, List, [], ◌∷◌, length, drop, take, get_or, refl, sym, ap, ◌∙◌, arith, codes}
use Rattle.ft_statements.proofs.Common.{list_any, length-drop, take_all, Token, spells, is_one_of, query_words, writing_words, asks, seen, plain, names_table}
use Rattle.ft_statements.specs.declared.words.Token.{Token as RustToken}

-- fewer than two words name no table
few_words : (tables : List (List ℕ)) (ps : List RustToken) → length ps ≤ 1 → names_table tables (plain ps) ≡ false
few_words tables [] h = refl
few_words tables (p ∷ []) h = refl
few_words tables (p ∷ q ∷ ps) h = absurd (omega (arith, h))

pub names_end : (tables : List (List ℕ)) (ps : List RustToken) (place : ℕ) → length ps ≤ place → names_table tables (plain (drop (place - 1) ps)) ≡ false
names_end tables ps place h = few_words tables (drop (place - 1) ps) (omega (arith, h, length-drop (place - 1) ps))

-- a test of words, of their tokens
pub any_seen : (test : Token → Bool) (ps : List RustToken) → list_any test (plain ps) ≡ list_any (λ p. test (seen p)) ps
any_seen test [] = refl
any_seen test (p ∷ ps) = ap (λ b. test (seen p) || b) (any_seen test ps)

-- a statement that begins as one that writes
pub asks_writing : (ps : List RustToken) (d : RustToken) → 1 ≤ length ps → is_one_of query_words (seen (get_or ps 0 d)) ≡ false → is_one_of writing_words (seen (get_or ps 0 d)) ≡ true →
    asks (plain ps) ≡ list_any (λ p. spells (codes "RETURNING") (seen p)) (take (length ps - 1) (drop 1 ps))
asks_writing [] d h other writes = absurd (omega (arith, h))
asks_writing (p ∷ ps) d h other writes =
    (λ j. other j || (writes j && any_seen (spells (codes "RETURNING")) ps j))
    ∙ ap (list_any (λ p. spells (codes "RETURNING") (seen p))) (sym (take_all (length (p ∷ ps) - 1) ps (omega arith)))
