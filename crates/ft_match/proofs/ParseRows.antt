-- Worked examples of the parser, with columns subject and body and no default.
use Rattle.std.proofs.Common.{◌≡◌, ℕ, zero, suc, true, false, List, [], ◌∷◌, ◌++◌, codes, Option, Some, None, Result, Ok, Err, replicate, flat_map, rules}
use Rattle.ft_match.proofs.Common.{QueryFault, Malformed, TooLarge, PlainTerm, PlainPhrase, PlainLink, Tree, phrase, chain, both, either, without, query_of}

abbrev columns : List (List ℕ)
columns = codes "subject" ∷ codes "body" ∷ []

abbrev read : List ℕ → Result (Option Tree) QueryFault
read text = query_of columns None text

abbrev is : Tree → Result (Option Tree) QueryFault
is tree = Ok (Some tree)

abbrev malformed : Result (Option Tree) QueryFault
malformed = Err Malformed

abbrev too_large : Result (Option Tree) QueryFault
too_large = Err TooLarge

abbrev term : List ℕ → PlainTerm
term text = record { text = text; prefix = false; first = false }

abbrev prefix_term : List ℕ → PlainTerm
prefix_term text = record { text = text; prefix = true; first = false }

abbrev first_term : List ℕ → PlainTerm
first_term text = record { text = text; prefix = false; first = true }

abbrev of_terms : List PlainTerm → PlainPhrase
of_terms terms = record { filter = None; terms = terms }

abbrev one : List ℕ → Tree
one text = phrase (of_terms (term text ∷ []))

abbrev link : ℕ → List ℕ → PlainLink
link most text = record { most = most; to = of_terms (term text ∷ []) }

abbrev a : Tree
a = one (codes "a")

abbrev b : Tree
b = one (codes "b")

abbrev c : Tree
c = one (codes "c")

abbrev d : Tree
d = one (codes "d")

-- ---- how tightly operators bind

record BindingRows : Type 0 where
  not_before_or : read (codes "a OR b NOT c") ≡ is (either a (without b c))
  and_before_or : read (codes "a OR b c OR d") ≡ is (either (either a (both b c)) d)
  not_before_and : read (codes "a b NOT c NOT d") ≡ is (both a (without (without b c) d))
  near_of_phrases : read (codes "subject:\"x y*\" NEAR/3 z") ≡ is
      (chain (record { filter = Some 0; terms = term (codes "x") ∷ prefix_term (codes "y") ∷ [] }) (link 3 (codes "z") ∷ []))
  near_chain : read (codes "a NEAR b NEAR c") ≡ is (chain (of_terms (term (codes "a") ∷ [])) (link 10 (codes "b") ∷ link 10 (codes "c") ∷ []))

binding_rows : BindingRows
unfolding query_of
binding_rows = search rules

-- ---- lexemes

record LexemeRows : Type 0 where
  near_without_number : read (codes "a NEAR/ b") ≡ is (both (both a (one (codes "near"))) b)
  star_separates : read (codes "a*b") ≡ is (both (phrase (of_terms (prefix_term (codes "a") ∷ []))) b)
  filter_of_first_word : read (codes "subject:nosuch:x") ≡ is (both (phrase (record { filter = Some 0; terms = term (codes "nosuch") ∷ [] })) (one (codes "x")))
  filter_of_no_column : read (codes "nosuch:world") ≡ is (both (one (codes "nosuch")) (one (codes "world")))
  caret_before_word : read (codes "^a b") ≡ is (both (phrase (of_terms (first_term (codes "a") ∷ []))) b)
  caret_alone : read (codes "^") ≡ Ok None
  empty_text : read (codes "") ≡ Ok None
  signs_alone : read (codes "!!") ≡ Ok None
  phrase_without_terms : read (codes "\"!!\"") ≡ is (phrase (of_terms []))

lexeme_rows : LexemeRows
unfolding query_of
lexeme_rows = search rules

-- ---- what is malformed

record MalformedRows : Type 0 where
  two_operators : read (codes "a AND OR b") ≡ malformed
  near_after_parens : read (codes "(a b) NEAR c") ≡ malformed
  near_before_parens : read (codes "a NEAR (b)") ≡ malformed
  filter_before_parens : read (codes "subject:(a)") ≡ malformed
  filter_alone : read (codes "subject:") ≡ malformed
  unclosed_quote : read (codes "a \"b") ≡ malformed
  and_at_end : read (codes "a AND") ≡ malformed
  not_at_front : read (codes "NOT a") ≡ malformed
  empty_parens : read (codes "()") ≡ malformed

malformed_rows : MalformedRows
unfolding query_of
malformed_rows = search rules

-- ---- limits

abbrev words : ℕ → List ℕ
words n = flat_map {X = ℕ} (λ _. codes "a ") (replicate n 0)

-- the tree of so many words more, beside this one
abbrev with_words : ℕ → Tree → Tree
with_words zero t = t
with_words (suc n) t = with_words n (both t a)

nested : List ℕ
nested = replicate 32 40 ++ codes "a" ++ replicate 32 41

record LimitRows : Type 0 where
  near_too_far : read (codes "NEAR/1000001") ≡ too_large
  near_too_far_in_query : read (codes "sqlite NEAR/1000001 database") ≡ too_large
  near_farthest : read (codes "a NEAR/1000000 b") ≡ is (chain (of_terms (term (codes "a") ∷ [])) (link 1000000 (codes "b") ∷ []))
  sixty_five_words : read (words 65) ≡ too_large
  sixty_four_words : read (words 64) ≡ is (with_words 63 a)
  thirty_three_parens : read (replicate 33 40) ≡ too_large
  thirty_two_parens : read nested ≡ is a

limit_rows : LimitRows
unfolding query_of nested
limit_rows = search rules
