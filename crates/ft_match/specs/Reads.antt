-- Meaning. When a text reads as a query, and which. The sections named in quotes are of the SQLite document "SQLite FTS3 and FTS4
-- Extensions".
use Rattle.std.specs.Prelude.{◌≡◌, ℕ, ◌+◌, ◌==◌, ◌||◌, ◌⊎◌, Bool, true, false, nat_lt, if◌then◌else◌, List, [], ◌∷◌, length}
use Rattle.std.specs.Prelude.{sum_by, Option, Some, None, Result, Ok, Err}
use Rattle.std.specs.List.{list_any}
use Rattle.ft_match.specs.declared.query.QueryFault.{QueryFault}
use Rattle.ft_match.specs.declared.query.QueryFault.TheVariants.{Malformed, TooLarge}
use Rattle.ft_match.specs.Trees.{Tree}
use Rattle.ft_match.specs.Lexemes.{Part, unclosed_part, parts_of, Lexeme, open_paren, close_paren, near_word, word, quoted, lexemes_of}
use Rattle.ft_match.specs.Grammar.{IsOr}
use Rattle.ft_match.specs.Pass.{tree_from}

-- No lexeme reads as no query (own choice), and an `or` of the grammar as its tree.
abbrev pub Reads : Option ℕ → List Lexeme → Option Tree → Type 0
Reads default lexemes None = lexemes ≡ []
Reads default lexemes (Some tree) = IsOr default lexemes tree

-- ---- the tests before the grammar, each an own choice

abbrev pub is_unclosed_part : Part → Bool
is_unclosed_part unclosed_part = true
is_unclosed_part _ = false

-- terms in quoted parts and right of NOT count too
abbrev pub term_count : Lexeme → ℕ
term_count (word t) = 1
term_count (quoted ts) = length ts
term_count _ = 0

abbrev pub is_far : Lexeme → Bool
is_far (near_word most) = nat_lt 1000000 most
is_far _ = false

-- how many Opens and how many Closes came, after one more lexeme
abbrev pub open_after : Lexeme → ℕ × ℕ → ℕ × ℕ
open_after open_paren n = (n.0 + 1, n.1)
open_after close_paren n = (n.0, n.1 + 1)
open_after _ n = n

-- at some place more than 32 Opens than Closes stand before it, where n.0 Opens and n.1 Closes stood before the first
abbrev pub nests_deep : ℕ × ℕ → List Lexeme → Bool
nests_deep n [] = nat_lt (n.1 + 32) n.0
nests_deep n (l ∷ ls) = nat_lt (n.1 + 32) n.0 || nests_deep (open_after l n) ls

-- the first test that refuses the text, in order: length; an unclosed quote or U+0000; terms, NEAR numbers, nesting
abbrev pub first_fault : List (List ℕ) → List ℕ → Option QueryFault
first_fault columns text =
    let lexemes = lexemes_of columns text in
    if nat_lt 10000 (length text) then Some TooLarge
    else (if list_any is_unclosed_part (parts_of text) || list_any (λ b. b == 0) text then Some Malformed
    else (if nat_lt 64 (sum_by term_count lexemes) || list_any is_far lexemes || nests_deep (0, 0) lexemes then Some TooLarge
    else None))

-- The text is Malformed: a test says so, or no test refuses it and nothing reads.
abbrev pub IsMalformed : List (List ℕ) → Option ℕ → List ℕ → Type 0
IsMalformed columns default text =
    (first_fault columns text ≡ Some Malformed)
    ⊎ ((first_fault columns text ≡ None) × ((query : Option Tree) → ¬ Reads default (lexemes_of columns text) query))

-- ---- the query of a text

abbrev pub some_or_malformed : Option Tree → Result (Option Tree) QueryFault
some_or_malformed None = Err Malformed
some_or_malformed (Some tree) = Ok (Some tree)

-- as which query these lexemes read
abbrev pub query_from : Option ℕ → List Lexeme → Result (Option Tree) QueryFault
query_from default [] = Ok None
query_from default (l ∷ ls) = some_or_malformed (tree_from default (l ∷ ls))

-- the same where no test refuses the text
abbrev pub query_unless : Option QueryFault → Option ℕ → List Lexeme → Result (Option Tree) QueryFault
query_unless (Some fault) default lexemes = Err fault
query_unless None default lexemes = query_from default lexemes

-- The query of a text, among columns of these names and with this default column, by the tests and then one pass over the lexemes. A phrase
-- without a filter searches the default column, or all columns where there is none ("Full-text Index Queries"). The law `query_of_text`
-- says when it answers what.
unfoldable pub query_of : List (List ℕ) → Option ℕ → List ℕ → Result (Option Tree) QueryFault
query_of columns default text = query_unless (first_fault columns text) default (lexemes_of columns text)
