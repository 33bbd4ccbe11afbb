-- What is asked of a plain statement is what its forms say.
use Rattle.std.proofs.Common.{◌≡◌, ℕ, Bool, true, false, ◌||◌, ◌&&◌, List, [], ◌∷◌, Some, refl, codes}
use Rattle.std.proofs.lemmas.List.Folds.{Any-from_list_any, list_any-from_Any}
use Rattle.ft_statements.proofs.Common.{list_any, Token, spells, is_one_of, read, query_words, writing_words, Asks, queries, returns, asks, made_table, Makes, made_name}
use Rattle.ft_statements.proofs.FormLaw.{law, bound, finally, found_complete}
use Rattle.ft_statements.proofs.GrammarClass.{and_both, or_left, or_right}

pub asks_sound : (ts : List Token) → asks ts ≡ true → Asks ts
asks_sound [] e = cc
asks_sound (t ∷ ts) e = by_test (is_one_of query_words t) refl e where
  by_test : (b : Bool) → is_one_of query_words t ≡ b → (b || (is_one_of writing_words t && list_any (spells (codes "RETURNING")) ts)) ≡ true → Asks (t ∷ ts)
  by_test true is e1 = queries (Any-from_list_any (λ word. spells word t) query_words is)
  by_test false other e1 =
      let (writes, stands) = and_both _ _ e1 in
      returns (Any-from_list_any (λ word. spells word t) writing_words writes) (Any-from_list_any (spells (codes "RETURNING")) ts stands)

pub asks_complete : {ts : List Token} → Asks ts → asks ts ≡ true
asks_complete (queries {t} {ts} any) =
    or_left (is_one_of query_words t) (is_one_of writing_words t && list_any (spells (codes "RETURNING")) ts) (list_any-from_Any (λ word. spells word t) query_words any)
asks_complete (returns {t} {ts} writes stands) =
    or_right (is_one_of query_words t) (is_one_of writing_words t && list_any (spells (codes "RETURNING")) ts)
    (λ j. list_any-from_Any (λ word. spells word t) writing_words writes j && list_any-from_Any (spells (codes "RETURNING")) ts stands j)

pub made_sound : (ts : List Token) (name : List ℕ) → made_name ts ≡ Some name → Makes ts name
made_sound ts name e = bound (read made_table ts) _ e λ r is e1. finally (Makes ts) (r.1, (law made_table).sound ts r.0 r.1 is) e1

pub made_complete : (ts : List Token) (name : List ℕ) → Makes ts name → made_name ts ≡ Some name
made_complete ts name makes = found_complete made_table ts name makes.0 makes.1
