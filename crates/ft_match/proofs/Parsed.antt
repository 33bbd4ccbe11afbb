-- What `query_of` answers is what the tests and the grammar say.
use Rattle.std.proofs.Common.{◌≡◌, ℕ, Bool, true, false, List, [], ◌∷◌, ◌⊎◌, inl, inr, refl, ap, ◌∙◌, ◌↔◌, ◌≢◌, if◌then◌else◌, Option, Some, None, Ok, Err, arith, rules}
use Rattle.ft_match.proofs.Common.{QueryFault, Malformed, TooLarge, Memory, Tree, Lexeme, lexemes_of, tree_from, Reads, first_fault, IsMalformed, some_or_malformed, query_from, query_unless, query_of, nat_tests}
use Rattle.ft_match.proofs.Unique.{read_whole, some_lexeme}
use Rattle.ft_match.proofs.Sound.{grammar_reads}

-- ---- one pass, where there is a lexeme

tree_answered : (found : Option Tree) (query : Option Tree) → some_or_malformed found ≡ Ok query → found ≡ query
tree_answered None query e = cc
tree_answered (Some tree) query e = cc

reads_answered : (default : Option ℕ) (ls : List Lexeme) (query : Option Tree) → query_from default ls ≡ Ok query → Reads default ls query
reads_answered default [] None e = refl
reads_answered default [] (Some tree) e = cc
reads_answered default (l ∷ ls) (Some tree) e = grammar_reads default (l ∷ ls) tree (tree_answered (tree_from default (l ∷ ls)) (Some tree) e)
reads_answered default (l ∷ ls) None e = grind arith

answers_reading : (default : Option ℕ) (ls : List Lexeme) (query : Option Tree) → Reads default ls query → query_from default ls ≡ Ok query
answers_reading default [] None reads = refl
answers_reading default [] (Some tree) reads = absurd (some_lexeme reads refl)
answers_reading default (l ∷ ls) None reads = cc
answers_reading default (l ∷ ls) (Some tree) reads = ap some_or_malformed (read_whole reads)

-- ---- with the tests

unless_answered : (fault : Option QueryFault) (default : Option ℕ) (ls : List Lexeme) (query : Option Tree) → query_unless fault default ls ≡ Ok query
    → (fault ≡ None) × Reads default ls query
unless_answered None default ls query e = (refl, reads_answered default ls query e)
unless_answered (Some fault) default ls query e = cc

answers_unless : (fault : Option QueryFault) (default : Option ℕ) (ls : List Lexeme) (query : Option Tree) → fault ≡ None → Reads default ls query
    → query_unless fault default ls ≡ Ok query
answers_unless None default ls query fine reads = answers_reading default ls query reads
answers_unless (Some fault) default ls query fine reads = cc

-- The answer is this query exactly where no test refuses the text and its lexemes read as that
-- query.
pub answers_query : (columns : List (List ℕ)) (default : Option ℕ) (text : List ℕ) (query : Option Tree)
    → (query_of columns default text ≡ Ok query) ↔ ((first_fault columns text ≡ None) × Reads default (lexemes_of columns text) query)
unfolding query_of
answers_query columns default text query = grind (arith, nat_tests, unless_answered, answers_unless)

-- where the pass fails, its fault is Malformed
from_fault : (default : Option ℕ) (ls : List Lexeme) (fault : QueryFault) → query_from default ls ≡ Err fault → fault ≡ Malformed
from_fault default [] fault e = cc
from_fault default (l ∷ ls) fault e = grind arith

-- a list of lexemes is answered by a query or by Malformed
from_cases : (default : Option ℕ) (ls : List Lexeme) → ((query : Option Tree) × (query_from default ls ≡ Ok query)) ⊎ (query_from default ls ≡ Err Malformed)
from_cases default [] = inl (None, refl)
from_cases default (l ∷ ls) = grind arith

unread : (default : Option ℕ) (ls : List Lexeme) → ((query : Option Tree) → Reads default ls query → ⊥) → query_from default ls ≡ Err Malformed
unread default ls none = elim (from_cases default ls) [
  | inl found ↦ absurd (none found.0 (reads_answered default ls found.0 found.1))
  | inr e ↦ e
]

unread_of : (default : Option ℕ) (ls : List Lexeme) (fault : QueryFault) → query_from default ls ≡ Err fault → (query : Option Tree) → Reads default ls query
    → ⊥
unread_of default ls fault e query reads = let read = answers_reading default ls query reads in cc

pub answers_too_large : (columns : List (List ℕ)) (default : Option ℕ) (text : List ℕ)
    → (query_of columns default text ≡ Err TooLarge) ↔ (first_fault columns text ≡ Some TooLarge)
unfolding query_of
answers_too_large columns default text = grind arith

malformed_of : (fault : Option QueryFault) (default : Option ℕ) (ls : List Lexeme) → query_unless fault default ls ≡ Err Malformed
    → (fault ≡ Some Malformed) ⊎ ((fault ≡ None) × ((query : Option Tree) → Reads default ls query → ⊥))
malformed_of None default ls e = inr (refl, unread_of default ls Malformed e)
malformed_of (Some fault) default ls e = inl cc

malformed_unless : (fault : Option QueryFault) (default : Option ℕ) (ls : List Lexeme)
    → (fault ≡ Some Malformed) ⊎ ((fault ≡ None) × ((query : Option Tree) → Reads default ls query → ⊥)) → query_unless fault default ls ≡ Err Malformed
malformed_unless fault default ls (inl e) = ap (λ f. query_unless f default ls) e
malformed_unless fault default ls (inr none) = ap (λ f. query_unless f default ls) none.0 ∙ unread default ls none.1

pub answers_malformed : (columns : List (List ℕ)) (default : Option ℕ) (text : List ℕ)
    → (query_of columns default text ≡ Err Malformed) ↔ IsMalformed columns default text
unfolding query_of
answers_malformed columns default text =
    search (rules, malformed_of (first_fault columns text) default (lexemes_of columns text), malformed_unless (first_fault columns text) default (lexemes_of columns text))

-- the tests have no other fault
tests_fault : (a b c : Bool) → (if a then Some TooLarge else (if b then Some Malformed else (if c then Some TooLarge else None))) ≡ Some Memory → ⊥
tests_fault true b c e = cc
tests_fault false true c e = cc
tests_fault false false true e = cc
tests_fault false false false e = cc

memory_of : (fault : Option QueryFault) (default : Option ℕ) (ls : List Lexeme) → query_unless fault default ls ≡ Err Memory → fault ≡ Some Memory
memory_of None default ls e = let same : Memory ≡ Malformed = from_fault default ls Memory e in cc
memory_of (Some fault) default ls e = cc

pub no_memory : (columns : List (List ℕ)) (default : Option ℕ) (text : List ℕ) → query_of columns default text ≢ Err Memory
unfolding query_of
no_memory columns default text e = tests_fault _ _ _ (memory_of (first_fault columns text) default (lexemes_of columns text) e)
