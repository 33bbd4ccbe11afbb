-- Meaning. The grammar of MATCH queries: which lexemes read as which tree. Phrases, filters and NEAR are those of "Full-text Index
-- Queries"; NOT, AND, OR, the AND that is left out and parentheses those of "Set Operations Using The Enhanced Query Syntax". The sections
-- named in quotes are of the SQLite document "SQLite FTS3 and FTS4 Extensions".
use Rattle.std.specs.Prelude.{ℕ, List, [], ◌∷◌, ◌++◌, Option, Some}
use Rattle.ft_match.specs.Trees.{PlainPhrase, PlainTerm, PlainLink, Tree, both, either, without, tree_of_chain}
use Rattle.ft_match.specs.Lexemes.{Lexeme, open_paren, close_paren, and_word, or_word, not_word, near_word, filter_on, word, quoted}

-- A phrase is a word or a quoted part, with a filter before it or with the default one. A filter before a quoted part restricts the whole
-- phrase (own choice).
pub data IsPhrase (default : Option ℕ) : List Lexeme → PlainPhrase → Type 0 where
  of_word : {t : PlainTerm} → IsPhrase default (word t ∷ []) (record { filter = default; terms = t ∷ [] })
  of_quoted : {ts : List PlainTerm} → IsPhrase default (quoted ts ∷ []) (record { filter = default; terms = ts })
  of_filtered_word : {c : ℕ} {t : PlainTerm} → IsPhrase default (filter_on c ∷ word t ∷ []) (record { filter = Some c; terms = t ∷ [] })
  of_filtered_quoted : {c : ℕ} {ts : List PlainTerm} → IsPhrase default (filter_on c ∷ quoted ts ∷ []) (record { filter = Some c; terms = ts })

-- chain = phrase { NEAR phrase }
pub data IsChain (default : Option ℕ) : List Lexeme → PlainPhrase → List PlainLink → Type 0 where
  alone : {ls : List Lexeme} {p : PlainPhrase} → IsPhrase default ls p → IsChain default ls p []
  linked : {ls ms : List Lexeme} {p q : PlainPhrase} {links : List PlainLink} → IsChain default ls p links → (most : ℕ) → IsPhrase default ms q
      → IsChain default (ls ++ near_word most ∷ ms) p (links ++ record { most = most; to = q } ∷ [])

-- The levels, from the tightest. That NEAR binds tightest, joins phrases alone, and that AND, OR and NOT group to the left are own choices.
mutual
  -- near = chain | Open or Close
  pub data IsNear (default : Option ℕ) : List Lexeme → Tree → Type 0 where
    one_chain : {ls : List Lexeme} {p : PlainPhrase} {links : List PlainLink} → IsChain default ls p links → IsNear default ls (tree_of_chain p links)
    in_parens : {ls : List Lexeme} {p : Tree} → IsOr default ls p → IsNear default (open_paren ∷ ls ++ close_paren ∷ []) p

  -- not = near { NOT near }
  pub data IsNot (default : Option ℕ) : List Lexeme → Tree → Type 0 where
    one_near : {ls : List Lexeme} {p : Tree} → IsNear default ls p → IsNot default ls p
    then_not : {ls ms : List Lexeme} {p q : Tree} → IsNot default ls p → IsNear default ms q → IsNot default (ls ++ not_word ∷ ms) (without p q)

  -- and = not { [AND] not }
  pub data IsAnd (default : Option ℕ) : List Lexeme → Tree → Type 0 where
    one_not : {ls : List Lexeme} {p : Tree} → IsNot default ls p → IsAnd default ls p
    then_and : {ls ms : List Lexeme} {p q : Tree} → IsAnd default ls p → IsNot default ms q → IsAnd default (ls ++ and_word ∷ ms) (both p q)
    beside : {ls ms : List Lexeme} {p q : Tree} → IsAnd default ls p → IsNot default ms q → IsAnd default (ls ++ ms) (both p q)

  -- or = and { OR and }
  pub data IsOr (default : Option ℕ) : List Lexeme → Tree → Type 0 where
    one_and : {ls : List Lexeme} {p : Tree} → IsAnd default ls p → IsOr default ls p
    then_or : {ls ms : List Lexeme} {p q : Tree} → IsOr default ls p → IsAnd default ms q → IsOr default (ls ++ or_word ∷ ms) (either p q)
