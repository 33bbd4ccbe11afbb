-- MATCH by commands, with what it answers. The texts and answers of the table mail are those of the
-- SQLite document "SQLite FTS3 and FTS4 Extensions", "The Offsets Function", those of the table
-- docs of "Full-text Index Queries"; the others are own examples.
use Rattle.std.proofs.Common.{◌≡◌, ℕ, false, List, [], ◌∷◌, ◌++◌, Some, None, Result, Ok, Err, ℤ, pos, negsuc, codes, refl}
use Rattle.std.specs.Fmt.{digits}
use Rattle.ft_match.specs.Reads.{query_of}
use Rattle.ft_content.proofs.Common.{Fault, Cell, Int, Text, All, Match, Named, OffsetsOf, Listed, Command, Create, Insert, Select, Check, Reply, Done}
use Rattle.ft_content.specs.Answer.{reading, chosen, answer}
use Rattle.ft_content.specs.Step.{inserted_rows, deserved}
use Rattle.ft_content.specs.Step.{after, reply_to, step}
use Rattle.ft_content.proofs.CommandRows.{answers_to, after_all, create_d, texts_into_d, rows_under, docids, not_indexed}
use Rattle.ft_values.specs.declared.fault.Fault.TheVariants as faults

-- SELECT offsets(t) FROM t WHERE t MATCH ..
abbrev pub offsets_matching : List ℕ → List ℕ → Command
offsets_matching table text = Select table (Listed (OffsetsOf table ∷ [])) (Match table text) None 0

abbrev pub text_rows : List (List ℕ) → List (List Cell)
text_rows [] = []
text_rows (text ∷ texts) = (Text text ∷ []) ∷ text_rows texts

abbrev pub offsets_rows : List ℕ → List (List ℕ) → Result Reply Fault
offsets_rows table texts = rows_under ((codes "offsets(" ++ table ++ codes ")") ∷ []) (text_rows texts)

-- SELECT docid FROM t WHERE t MATCH ..
abbrev pub matching : List ℕ → List ℕ → Command
matching table text = Select table (Listed (Named (codes "docid") ∷ [])) (Match table text) None 0

abbrev pub found : List ℤ → Result Reply Fault
found numbers = rows_under (codes "docid" ∷ []) (docids numbers)

-- CREATE VIRTUAL TABLE mail USING fts4(subject, body), and two messages
abbrev pub mail : List Command
mail = Create (codes "mail") (codes "fts4") [] (codes "subject" ∷ codes "body" ∷ []) false
    ∷ Insert (codes "mail") None ((Text (codes "hello world") ∷ Text (codes "This message is a hello world message.") ∷ []) ∷ [])
    ∷ Insert (codes "mail") None ((Text (codes "urgent: serious") ∷ Text (codes "This mail is seen as a more serious mail") ∷ []) ∷ [])
    ∷ []

pub words_found : answers_to (after_all [] mail) (
    Select (codes "mail") (Listed (Named (codes "docid") ∷ OffsetsOf (codes "mail") ∷ [])) (Match (codes "mail") (codes "world")) None 0
    ∷ offsets_matching (codes "mail") (codes "message")
    ∷ [])
    ≡ rows_under (codes "docid" ∷ codes "offsets(mail)" ∷ []) ((Int (pos 1) ∷ Text (codes "0 0 6 5 1 0 24 5") ∷ []) ∷ [])
    ∷ offsets_rows (codes "mail") (codes "1 0 5 7 1 0 30 7" ∷ []) ∷ []
unfolding query_of reading chosen answer inserted_rows deserved after reply_to step digits
words_found = refl

pub phrase_found : answers_to (after_all [] mail) (offsets_matching (codes "mail") (codes "\"serious mail\"") ∷ []) ≡ offsets_rows (codes "mail") (codes "1 0 28 7 1 1 36 4" ∷ []) ∷ []
unfolding query_of reading chosen answer inserted_rows deserved after reply_to step digits
phrase_found = refl

-- CREATE VIRTUAL TABLE docs USING fts4(), and one document
abbrev pub docs : List Command
docs = Create (codes "docs") (codes "fts4") [] [] false
    ∷ Insert (codes "docs") None ((Text (codes "SQLite is an ACID compliant embedded relational database management system") ∷ []) ∷ [])
    ∷ []

pub near_found : answers_to (after_all [] docs) (
    offsets_matching (codes "docs") (codes "database NEAR/6 sqlite")
    ∷ offsets_matching (codes "docs") (codes "database NEAR/5 sqlite")
    ∷ offsets_matching (codes "docs") (codes "database NEAR/2 \"ACID compliant\"")
    ∷ matching (codes "docs") (codes "sqlite NEAR/1000001 database")
    ∷ [])
    ≡ offsets_rows (codes "docs") (codes "0 1 0 6 0 0 48 8" ∷ []) ∷ offsets_rows (codes "docs") [] ∷ offsets_rows (codes "docs") (codes "0 1 13 4 0 2 18 9 0 0 48 8" ∷ []) ∷ Err faults.TooLarge ∷ []
unfolding query_of reading chosen answer inserted_rows deserved after reply_to step digits
near_found = refl

-- chains of NEAR
pub chains_found : answers_to (after_all [] docs) (
    offsets_matching (codes "docs") (codes "sqlite NEAR/2 acid NEAR/2 relational")
    ∷ offsets_matching (codes "docs") (codes "acid NEAR/2 sqlite NEAR/2 relational")
    ∷ [])
    ≡ offsets_rows (codes "docs") (codes "0 0 0 6 0 1 13 4 0 2 37 10" ∷ []) ∷ offsets_rows (codes "docs") [] ∷ []
unfolding query_of reading chosen answer inserted_rows deserved after reply_to step digits
chains_found = refl

-- an occurrence is not near itself
abbrev pub two_b : List Command
two_b = create_d ∷ texts_into_d ((Text (codes "b") ∷ []) ∷ (Text (codes "b a b") ∷ []) ∷ []) ∷ []

pub near_itself : answers_to (after_all [] two_b) (
    Select (codes "d") (Listed (Named (codes "docid") ∷ OffsetsOf (codes "d") ∷ [])) (Match (codes "d") (codes "b NEAR b")) None 0
    ∷ [])
    ≡ rows_under (codes "docid" ∷ codes "offsets(d)" ∷ []) ((Int (pos 2) ∷ Text (codes "0 0 0 1 0 1 0 1 0 0 4 1 0 1 4 1") ∷ []) ∷ []) ∷ []
unfolding query_of reading chosen answer inserted_rows deserved after reply_to step digits
near_itself = refl

-- occurrences of a phrase overlap
abbrev pub three_a : List Command
three_a = create_d ∷ texts_into_d ((Text (codes "a a a") ∷ []) ∷ []) ∷ []

pub overlapping : answers_to (after_all [] three_a) (
    offsets_matching (codes "d") (codes "\"a a\"")
    ∷ [])
    ≡ offsets_rows (codes "d") (codes "0 0 0 1 0 0 2 1 0 1 2 1 0 1 4 1" ∷ []) ∷ []
unfolding query_of reading chosen answer inserted_rows deserved after reply_to step digits
overlapping = refl

-- the terms right of a NOT have no number, and those of each side of an OR are listed
abbrev pub a_and_c : List Command
a_and_c = create_d ∷ texts_into_d ((Text (codes "a c") ∷ []) ∷ []) ∷ []

pub beside_not : answers_to (after_all [] a_and_c) (
    offsets_matching (codes "d") (codes "(a NOT b) OR c")
    ∷ [])
    ≡ offsets_rows (codes "d") (codes "0 0 0 1 0 1 2 1" ∷ []) ∷ []
unfolding query_of reading chosen answer inserted_rows deserved after reply_to step digits
beside_not = refl

-- letters past ASCII, and a negative integer: documents Ærø café and -15
abbrev pub past_ascii : List Command
past_ascii = create_d ∷ texts_into_d ((Text (195 ∷ 134 ∷ 114 ∷ 195 ∷ 184 ∷ 32 ∷ 99 ∷ 97 ∷ 102 ∷ 195 ∷ 169 ∷ []) ∷ []) ∷ (Int (negsuc 14) ∷ []) ∷ []) ∷ []

pub past_ascii_found : answers_to (after_all [] past_ascii) (
    matching (codes "d") (195 ∷ 166 ∷ 114 ∷ 195 ∷ 184 ∷ [])
    ∷ Select (codes "d") (Listed (Named (codes "docid") ∷ OffsetsOf (codes "d") ∷ [])) (Match (codes "d") (67 ∷ 65 ∷ 70 ∷ 195 ∷ 169 ∷ [])) None 0
    ∷ Select (codes "d") (Listed (Named (codes "docid") ∷ OffsetsOf (codes "d") ∷ [])) (Match (codes "d") (codes "15")) None 0
    ∷ [])
    ≡ found [] ∷ rows_under (codes "docid" ∷ codes "offsets(d)" ∷ []) ((Int (pos 1) ∷ Text (codes "0 0 6 5") ∷ []) ∷ [])
    ∷ rows_under (codes "docid" ∷ codes "offsets(d)" ∷ []) ((Int (pos 2) ∷ Text (codes "0 0 1 2") ∷ []) ∷ []) ∷ []
unfolding query_of reading chosen answer inserted_rows deserved after reply_to step digits
past_ascii_found = refl

-- texts without lexemes or with a phrase without tokens find nothing, and texts that do not read
-- are malformed
abbrev pub a_b : List Command
a_b = create_d ∷ texts_into_d ((Text (codes "a b") ∷ []) ∷ []) ∷ []

pub nothing_or_malformed : answers_to (after_all [] a_b) (
    matching (codes "d") []
    ∷ matching (codes "d") (codes "!!")
    ∷ matching (codes "d") (codes "\"!!\"")
    ∷ matching (codes "d") (codes "a AND")
    ∷ matching (codes "d") (codes "NOT a")
    ∷ matching (codes "d") (codes "()")
    ∷ [])
    ≡ found [] ∷ found [] ∷ found [] ∷ Err faults.Malformed ∷ Err faults.Malformed ∷ Err faults.Malformed ∷ []
unfolding query_of reading chosen answer inserted_rows deserved after reply_to step digits
nothing_or_malformed = refl

-- filters of a query
pub filters : answers_to (after_all [] mail) (
    matching (codes "mail") (codes "subject:world")
    ∷ matching (codes "mail") (codes "subject:mail")
    ∷ matching (codes "mail") (codes "body:mail")
    ∷ matching (codes "mail") (codes "body:\"hello world\"")
    ∷ matching (codes "mail") (codes "nosuch:world")
    ∷ matching (codes "mail") (codes "subject:")
    ∷ [])
    ≡ found (pos 1 ∷ []) ∷ found [] ∷ found (pos 2 ∷ []) ∷ found (pos 1 ∷ []) ∷ found [] ∷ Err faults.Malformed ∷ []
unfolding query_of reading chosen answer inserted_rows deserved after reply_to step digits
filters = refl

-- from the tightest: NOT, AND, OR
abbrev pub letters : List Command
letters = create_d ∷ texts_into_d ((Text (codes "a c") ∷ []) ∷ (Text (codes "b c") ∷ []) ∷ (Text (codes "b") ∷ []) ∷ (Text (codes "a") ∷ []) ∷ []) ∷ []

pub levels : answers_to (after_all [] letters) (
    matching (codes "d") (codes "a OR b NOT c")
    ∷ matching (codes "d") (codes "a OR b AND c")
    ∷ matching (codes "d") (codes "a OR b c")
    ∷ matching (codes "d") (codes "(a OR b) NOT c")
    ∷ matching (codes "d") (codes "a and c")
    ∷ [])
    ≡ found (pos 1 ∷ pos 3 ∷ pos 4 ∷ []) ∷ found (pos 1 ∷ pos 2 ∷ pos 4 ∷ []) ∷ found (pos 1 ∷ pos 2 ∷ pos 4 ∷ []) ∷ found (pos 3 ∷ pos 4 ∷ []) ∷ found [] ∷ []
unfolding query_of reading chosen answer inserted_rows deserved after reply_to step digits
levels = refl

-- prefix terms, also within a phrase
abbrev pub drivers : List Command
drivers = create_d ∷ texts_into_d ((Text (codes "linux driver") ∷ []) ∷ (Text (codes "line") ∷ []) ∷ (Text (codes "lion") ∷ []) ∷ []) ∷ []

pub prefixes : answers_to (after_all [] drivers) (
    matching (codes "d") (codes "lin*")
    ∷ matching (codes "d") (codes "\"lin* dri*\"")
    ∷ matching (codes "d") (codes "lin")
    ∷ [])
    ≡ found (pos 1 ∷ pos 2 ∷ []) ∷ found (pos 1 ∷ []) ∷ found [] ∷ []
unfolding query_of reading chosen answer inserted_rows deserved after reply_to step digits
prefixes = refl

-- first terms
abbrev pub first_tokens : List Command
first_tokens = create_d ∷ texts_into_d ((Text (codes "linux driver") ∷ []) ∷ (Text (codes "the linux") ∷ []) ∷ []) ∷ []

pub first_terms : answers_to (after_all [] first_tokens) (
    matching (codes "d") (codes "^linux")
    ∷ matching (codes "d") (codes "^lin*")
    ∷ matching (codes "d") (codes "x: ^lin*")
    ∷ matching (codes "d") (codes "\"^the linux\"")
    ∷ matching (codes "d") (codes "\"the ^linux\"")
    ∷ matching (codes "d") (codes "the ^linux")
    ∷ matching (codes "d") (codes "^")
    ∷ matching (codes "d") (codes "a NEAR (b)")
    ∷ [])
    ≡ found (pos 1 ∷ []) ∷ found (pos 1 ∷ []) ∷ found (pos 1 ∷ []) ∷ found (pos 2 ∷ []) ∷ found [] ∷ found [] ∷ found [] ∷ Err faults.Malformed ∷ []
unfolding query_of reading chosen answer inserted_rows deserved after reply_to step digits
first_terms = refl

-- documents stand by rising docid, whatever terms they have
pub by_docid : answers_to [] (
    create_d
    ∷ Insert (codes "d") (Some (codes "docid" ∷ codes "x" ∷ [])) ((Int (pos 9223372036854775807) ∷ Text (codes "wa p") ∷ []) ∷ (Int (pos 3) ∷ Text (codes "wb q") ∷ []) ∷ [])
    ∷ matching (codes "d") (codes "w*")
    ∷ [])
    ≡ Ok Done ∷ Ok Done ∷ found (pos 3 ∷ pos 9223372036854775807 ∷ []) ∷ []
unfolding query_of reading chosen answer inserted_rows deserved after reply_to step digits
by_docid = refl

-- a MATCH on a column searches that column, and a filter of the query goes before it
pub by_column : answers_to (after_all [] mail) (
    Select (codes "mail") (Listed (Named (codes "docid") ∷ [])) (Match (codes "subject") (codes "world")) None 0
    ∷ Select (codes "mail") (Listed (Named (codes "docid") ∷ [])) (Match (codes "SUBJECT") (codes "mail")) None 0
    ∷ Select (codes "mail") (Listed (Named (codes "docid") ∷ [])) (Match (codes "subject") (codes "body:mail")) None 0
    ∷ [])
    ≡ found (pos 1 ∷ []) ∷ found [] ∷ found (pos 2 ∷ []) ∷ []
unfolding query_of reading chosen answer inserted_rows deserved after reply_to step digits
by_column = refl

-- a column that is not indexed has no token, keeps its cells, and may stand in a filter
pub not_indexed_found : answers_to (after_all [] not_indexed) (
    offsets_matching (codes "n") (codes "red")
    ∷ matching (codes "n") (codes "blue")
    ∷ matching (codes "n") (codes "b:red")
    ∷ Select (codes "n") (Listed (Named (codes "b") ∷ [])) All None 0
    ∷ Create (codes "o") (codes "fts4") ((codes "notindexed", codes "c") ∷ []) (codes "a" ∷ []) false
    ∷ Check (codes "n")
    ∷ [])
    ≡ offsets_rows (codes "n") (codes "0 0 0 3" ∷ []) ∷ found [] ∷ found [] ∷ rows_under (codes "b" ∷ []) ((Text (codes "red blue") ∷ []) ∷ [])
    ∷ Err faults.NoSuchColumn ∷ Ok Done ∷ []
unfolding query_of reading chosen answer inserted_rows deserved after reply_to step digits
not_indexed_found = refl
