-- Worked examples of evaluation: which documents a query finds, and the offsets.
use Rattle.std.proofs.Common.{◌≡◌, ℕ, List, [], ◌∷◌, map, codes, Option, None, Result, Ok, Err, flat_map, ℤ, pos, rules}
use Rattle.ft_match.proofs.Common.{enumerate_from, QueryFault, Malformed, tokens_of, Tree, Document, documents_of, found_of, offset_numbers, PlainHit, query_of}

-- documents 1, 2, .. with these texts in their columns
abbrev documents : List (List (List ℕ)) → List Document
documents rows = documents_of (map (λ row. (pos row.0, map tokens_of row.1)) (enumerate_from 1 rows))

-- the hits of a query, where there is no fault, each seen in some way
abbrev hits : {X : Type 0} → (PlainHit → X) → List Document → Result (Option Tree) QueryFault → Result (List X) QueryFault
hits seen documents (Ok query) = Ok (map seen (found_of query documents))
hits seen documents (Err fault) = Err fault

abbrev docid_of : PlainHit → ℤ
docid_of hit = hit.docid

abbrev with_offsets : PlainHit → ℤ × List ℕ
with_offsets hit = (hit.docid, flat_map offset_numbers hit.offsets)

abbrev docids : List (List ℕ) → List (List (List ℕ)) → List ℕ → Result (List ℤ) QueryFault
docids columns rows text = hits docid_of (documents rows) (query_of columns None text)

abbrev found : List (List ℕ) → List (List (List ℕ)) → List ℕ → Result (List (ℤ × List ℕ)) QueryFault
found columns rows text = hits with_offsets (documents rows) (query_of columns None text)

-- tables of one column
abbrev in_texts : List (List ℕ) → List ℕ → Result (List (ℤ × List ℕ)) QueryFault
in_texts texts text = found (codes "x" ∷ []) (map (λ (cell : List ℕ). cell ∷ []) texts) text

abbrev ids_in_texts : List (List ℕ) → List ℕ → Result (List ℤ) QueryFault
ids_in_texts texts text = docids (codes "x" ∷ []) (map (λ (cell : List ℕ). cell ∷ []) texts) text

-- ---- two columns

abbrev mail : List (List (List ℕ))
mail =
    (codes "hello world" ∷ codes "This message is a hello world message." ∷ [])
    ∷ (codes "urgent: serious" ∷ codes "This mail is seen as a more serious mail" ∷ []) ∷ []

abbrev in_mail : List ℕ → Result (List (ℤ × List ℕ)) QueryFault
in_mail text = found (codes "subject" ∷ codes "body" ∷ []) mail text

abbrev ids_in_mail : List ℕ → Result (List ℤ) QueryFault
ids_in_mail text = docids (codes "subject" ∷ codes "body" ∷ []) mail text

record ColumnRows : Type 0 where
  world : in_mail (codes "world") ≡ Ok ((pos 1, 0 ∷ 0 ∷ 6 ∷ 5 ∷ 1 ∷ 0 ∷ 24 ∷ 5 ∷ []) ∷ [])
  message : in_mail (codes "message") ≡ Ok ((pos 1, 1 ∷ 0 ∷ 5 ∷ 7 ∷ 1 ∷ 0 ∷ 30 ∷ 7 ∷ []) ∷ [])
  serious_mail : in_mail (codes "\"serious mail\"") ≡ Ok ((pos 2, 1 ∷ 0 ∷ 28 ∷ 7 ∷ 1 ∷ 1 ∷ 36 ∷ 4 ∷ []) ∷ [])
  subject_world : ids_in_mail (codes "subject:world") ≡ Ok (pos 1 ∷ [])
  subject_mail : ids_in_mail (codes "subject:mail") ≡ Ok []
  body_mail : ids_in_mail (codes "body:mail") ≡ Ok (pos 2 ∷ [])
  body_phrase : ids_in_mail (codes "body:\"hello world\"") ≡ Ok (pos 1 ∷ [])
  no_such_column : ids_in_mail (codes "nosuch:world") ≡ Ok []
  filter_of_nothing : ids_in_mail (codes "subject:") ≡ Err Malformed

column_rows : ColumnRows
unfolding query_of
column_rows = search rules

-- ---- NEAR

abbrev sqlite : List (List ℕ)
sqlite = codes "SQLite is an ACID compliant embedded relational database management system" ∷ []

record NearRows : Type 0 where
  six_between : in_texts sqlite (codes "database NEAR/6 sqlite") ≡ Ok ((pos 1, 0 ∷ 1 ∷ 0 ∷ 6 ∷ 0 ∷ 0 ∷ 48 ∷ 8 ∷ []) ∷ [])
  not_five_between : in_texts sqlite (codes "database NEAR/5 sqlite") ≡ Ok []
  near_a_phrase : in_texts sqlite (codes "database NEAR/2 \"ACID compliant\"") ≡ Ok ((pos 1, 0 ∷ 1 ∷ 13 ∷ 4 ∷ 0 ∷ 2 ∷ 18 ∷ 9 ∷ 0 ∷ 0 ∷ 48 ∷ 8 ∷ []) ∷ [])
  near_itself : in_texts (codes "b" ∷ codes "b a b" ∷ []) (codes "b NEAR b") ≡ Ok
      ((pos 2, 0 ∷ 0 ∷ 0 ∷ 1 ∷ 0 ∷ 1 ∷ 0 ∷ 1 ∷ 0 ∷ 0 ∷ 4 ∷ 1 ∷ 0 ∷ 1 ∷ 4 ∷ 1 ∷ []) ∷ [])
  chain_in_order : in_texts sqlite (codes "sqlite NEAR/2 acid NEAR/2 relational") ≡ Ok ((pos 1, 0 ∷ 0 ∷ 0 ∷ 6 ∷ 0 ∷ 1 ∷ 13 ∷ 4 ∷ 0 ∷ 2 ∷ 37 ∷ 10 ∷ []) ∷ [])
  chain_of_neighbours : in_texts sqlite (codes "acid NEAR/2 sqlite NEAR/2 relational") ≡ Ok []
  chain_lists_choices : in_texts (codes "a b x a b c" ∷ []) (codes "a NEAR/0 b NEAR/0 c") ≡ Ok ((pos 1, 0 ∷ 0 ∷ 6 ∷ 1 ∷ 0 ∷ 1 ∷ 8 ∷ 1 ∷ 0 ∷ 2 ∷ 10 ∷ 1 ∷ []) ∷ [])
  chain_back_again : in_texts (codes "a b" ∷ []) (codes "a NEAR b NEAR a") ≡ Ok ((pos 1, 0 ∷ 0 ∷ 0 ∷ 1 ∷ 0 ∷ 2 ∷ 0 ∷ 1 ∷ 0 ∷ 1 ∷ 2 ∷ 1 ∷ []) ∷ [])

near_rows : NearRows
unfolding query_of
near_rows = search rules

-- ---- phrases and offsets

-- 'Ærø café' and -15
abbrev letters_and_number : List (List ℕ)
letters_and_number = (0xC3 ∷ 0x86 ∷ 114 ∷ 0xC3 ∷ 0xB8 ∷ 32 ∷ 99 ∷ 97 ∷ 102 ∷ 0xC3 ∷ 0xA9 ∷ []) ∷ codes "-15" ∷ []

record PhraseRows : Type 0 where
  overlapping_phrase : in_texts (codes "a a a" ∷ []) (codes "\"a a\"") ≡ Ok ((pos 1, 0 ∷ 0 ∷ 0 ∷ 1 ∷ 0 ∷ 0 ∷ 2 ∷ 1 ∷ 0 ∷ 1 ∷ 2 ∷ 1 ∷ 0 ∷ 1 ∷ 4 ∷ 1 ∷ []) ∷ [])
  right_of_not_is_not_counted : in_texts (codes "a c" ∷ []) (codes "(a NOT b) OR c") ≡ Ok ((pos 1, 0 ∷ 0 ∷ 0 ∷ 1 ∷ 0 ∷ 1 ∷ 2 ∷ 1 ∷ []) ∷ [])
  capital_past_ascii : in_texts letters_and_number (0xC3 ∷ 0xA6 ∷ 114 ∷ 0xC3 ∷ 0xB8 ∷ []) ≡ Ok []
  ascii_capitals : in_texts letters_and_number (67 ∷ 65 ∷ 70 ∷ 0xC3 ∷ 0xA9 ∷ []) ≡ Ok ((pos 1, 0 ∷ 0 ∷ 6 ∷ 5 ∷ []) ∷ [])
  number : in_texts letters_and_number (codes "15") ≡ Ok ((pos 2, 0 ∷ 0 ∷ 1 ∷ 2 ∷ []) ∷ [])

phrase_rows : PhraseRows
unfolding query_of
phrase_rows = search rules

-- ---- no lexeme, and no term

record EmptyRows : Type 0 where
  empty_text : ids_in_texts (codes "a b" ∷ []) (codes "") ≡ Ok []
  signs_alone : ids_in_texts (codes "a b" ∷ []) (codes "!!") ≡ Ok []
  phrase_without_terms : ids_in_texts (codes "a b" ∷ []) (codes "\"!!\"") ≡ Ok []
  and_at_end : ids_in_texts (codes "a b" ∷ []) (codes "a AND") ≡ Err Malformed
  not_at_front : ids_in_texts (codes "a b" ∷ []) (codes "NOT a") ≡ Err Malformed
  empty_parens : ids_in_texts (codes "a b" ∷ []) (codes "()") ≡ Err Malformed

empty_rows : EmptyRows
unfolding query_of
empty_rows = search rules

-- ---- AND, OR and NOT

abbrev pairs : List (List ℕ)
pairs = codes "a c" ∷ codes "b c" ∷ codes "b" ∷ codes "a" ∷ []

record OperatorRows : Type 0 where
  not_before_or : ids_in_texts pairs (codes "a OR b NOT c") ≡ Ok (pos 1 ∷ pos 3 ∷ pos 4 ∷ [])
  and_before_or : ids_in_texts pairs (codes "a OR b AND c") ≡ Ok (pos 1 ∷ pos 2 ∷ pos 4 ∷ [])
  beside_before_or : ids_in_texts pairs (codes "a OR b c") ≡ Ok (pos 1 ∷ pos 2 ∷ pos 4 ∷ [])
  parens_first : ids_in_texts pairs (codes "(a OR b) NOT c") ≡ Ok (pos 3 ∷ pos 4 ∷ [])
  small_and : ids_in_texts pairs (codes "a and c") ≡ Ok []

operator_rows : OperatorRows
unfolding query_of
operator_rows = search rules

-- ---- prefix terms and first terms

abbrev lines : List (List ℕ)
lines = codes "linux driver" ∷ codes "line" ∷ codes "lion" ∷ []

abbrev linux : List (List ℕ)
linux = codes "linux driver" ∷ codes "the linux" ∷ []

record PrefixRows : Type 0 where
  prefix : ids_in_texts lines (codes "lin*") ≡ Ok (pos 1 ∷ pos 2 ∷ [])
  prefixes_in_phrase : ids_in_texts lines (codes "\"lin* dri*\"") ≡ Ok (pos 1 ∷ [])
  whole_word : ids_in_texts lines (codes "lin") ≡ Ok []
  first_word : ids_in_texts linux (codes "^linux") ≡ Ok (pos 1 ∷ [])
  first_prefix : ids_in_texts linux (codes "^lin*") ≡ Ok (pos 1 ∷ [])
  first_in_column : ids_in_texts linux (codes "x: ^lin*") ≡ Ok (pos 1 ∷ [])
  first_of_phrase : ids_in_texts linux (codes "\"^the linux\"") ≡ Ok (pos 2 ∷ [])
  first_inside_phrase : ids_in_texts linux (codes "\"the ^linux\"") ≡ Ok []
  first_beside : ids_in_texts linux (codes "the ^linux") ≡ Ok []
  caret_alone : ids_in_texts linux (codes "^") ≡ Ok []
  near_before_parens : ids_in_texts linux (codes "a NEAR (b)") ≡ Err Malformed

prefix_rows : PrefixRows
unfolding query_of
prefix_rows = search rules
