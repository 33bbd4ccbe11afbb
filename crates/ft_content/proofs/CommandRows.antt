-- Commands with their answers and what they leave, computed from the definitions.
use Rattle.std.proofs.Common.{◌≡◌, ℕ, true, false, List, [], ◌∷◌, ◌++◌, Option, Some, None, Result, Ok, Err, ℤ, pos, negsuc, codes, refl}
use Rattle.std.specs.Fmt.{digits}
use Rattle.ft_match.specs.Reads.{query_of}
use Rattle.ft_content.proofs.Common.{Fault, Cell, Null, Int, Text, Content, EntryRow, SizeRow, entry_rows, Filter, All, Docid, Match, Item, AllColumns, Named, OffsetsOf, Counted, Listed, Command, Create, Drop, Insert, Update, Delete, Select, Rebuild, Check, Optimize, Reply, Done, Rows, TableState, Sound, Stale, Loose, Contents}
use Rattle.ft_content.specs.Index.{entries, spot_lists, sizes, index_rows}
use Rattle.ft_content.specs.Answer.{reading, chosen, answer}
use Rattle.ft_content.specs.Step.{inserted_rows, deserved}
use Rattle.ft_content.specs.Step.{after, reply_to, step}
use Rattle.ft_values.specs.declared.fault.Fault.TheVariants as faults

-- the contents after commands, and what they are answered
abbrev pub after_all : Contents → List Command → Contents
after_all contents [] = contents
after_all contents (command ∷ commands) = after_all (step contents command).1 commands

abbrev pub answers_to : Contents → List Command → List (Result Reply Fault)
answers_to contents [] = []
answers_to contents (command ∷ commands) = (step contents command).0 ∷ answers_to (step contents command).1 commands

-- CREATE VIRTUAL TABLE d USING fts4(x)
abbrev pub create_d : Command
create_d = Create (codes "d") (codes "fts4") [] (codes "x" ∷ []) false

-- INSERT INTO d VALUES(..) of one text a row
abbrev pub texts_into_d : List (List Cell) → Command
texts_into_d rows = Insert (codes "d") None rows

abbrev pub all_of_d : List (List ℕ) → List Item
all_of_d [] = []
all_of_d (n ∷ ns) = Named n ∷ all_of_d ns

-- SELECT docid, x FROM d
abbrev pub select_d : Command
select_d = Select (codes "d") (Listed (Named (codes "docid") ∷ Named (codes "x") ∷ [])) All None 0

-- SELECT docid FROM d WHERE d MATCH ..
abbrev pub docids_matching : List ℕ → Command
docids_matching text = Select (codes "d") (Listed (Named (codes "docid") ∷ [])) (Match (codes "d") text) None 0

abbrev pub rows_under : List (List ℕ) → List (List Cell) → Result Reply Fault
rows_under names rows = Ok (Rows (record { names = names; rows = rows }))

abbrev pub docids : List ℤ → List (List Cell)
docids [] = []
docids (n ∷ ns) = (Int n ∷ []) ∷ docids ns

-- an Update and a Delete, with what MATCH finds after them
pub update_and_delete : answers_to [] (
    create_d
    ∷ texts_into_d ((Text (codes "red apple") ∷ []) ∷ (Text (codes "red pear") ∷ []) ∷ [])
    ∷ Update (codes "d") ((codes "x", Text (codes "green")) ∷ []) (Docid (pos 1))
    ∷ docids_matching (codes "red")
    ∷ Check (codes "d")
    ∷ Delete (codes "d") (Match (codes "x") (codes "red"))
    ∷ select_d
    ∷ [])
    ≡ Ok Done ∷ Ok Done ∷ Ok Done ∷ rows_under (codes "docid" ∷ []) (docids (pos 2 ∷ [])) ∷ Ok Done ∷ Ok Done
    ∷ rows_under (codes "docid" ∷ codes "x" ∷ []) ((Int (pos 1) ∷ Text (codes "green") ∷ []) ∷ []) ∷ []
unfolding query_of reading chosen answer inserted_rows deserved after reply_to step
update_and_delete = refl

-- a docid that comes twice in one Insert: nothing goes in
pub taken_within : answers_to [] (
    create_d
    ∷ Insert (codes "d") (Some (codes "docid" ∷ codes "x" ∷ [])) ((Int (pos 7) ∷ Text (codes "p") ∷ []) ∷ (Int (pos 7) ∷ Text (codes "q") ∷ []) ∷ [])
    ∷ Select (codes "d") Counted All None 0
    ∷ [])
    ≡ Ok Done ∷ Err (faults.DocidTaken (pos 7)) ∷ rows_under (codes "count(*)" ∷ []) ((Int (pos 0) ∷ []) ∷ []) ∷ []
unfolding query_of reading chosen answer inserted_rows deserved after reply_to step
taken_within = refl

-- an Update of two documents can't set docid
pub taken_by_two : answers_to [] (
    create_d
    ∷ texts_into_d ((Text (codes "p") ∷ []) ∷ (Text (codes "q") ∷ []) ∷ [])
    ∷ Update (codes "d") ((codes "docid", Int (pos 5)) ∷ []) All
    ∷ select_d
    ∷ [])
    ≡ Ok Done ∷ Ok Done ∷ Err (faults.DocidTaken (pos 5))
    ∷ rows_under (codes "docid" ∷ codes "x" ∷ []) ((Int (pos 1) ∷ Text (codes "p") ∷ []) ∷ (Int (pos 2) ∷ Text (codes "q") ∷ []) ∷ []) ∷ []
unfolding query_of reading chosen answer inserted_rows deserved after reply_to step
taken_by_two = refl

-- after the last docid there is none
pub no_docid_left : answers_to [] (
    create_d
    ∷ Insert (codes "d") (Some (codes "docid" ∷ codes "x" ∷ [])) ((Int (pos 9223372036854775807) ∷ Text (codes "p") ∷ []) ∷ [])
    ∷ texts_into_d ((Text (codes "q") ∷ []) ∷ [])
    ∷ Insert (codes "d") (Some (codes "docid" ∷ codes "x" ∷ [])) ((Int (pos 3) ∷ Text (codes "q") ∷ []) ∷ [])
    ∷ Select (codes "d") (Listed (Named (codes "docid") ∷ [])) All None 0
    ∷ [])
    ≡ Ok Done ∷ Ok Done ∷ Err faults.DocidFull ∷ Ok Done ∷ rows_under (codes "docid" ∷ []) (docids (pos 3 ∷ pos 9223372036854775807 ∷ [])) ∷ []
unfolding query_of reading chosen answer inserted_rows deserved after reply_to step
no_docid_left = refl

-- the first row that fails decides: a docid that is taken, before one for which none is left, and
-- the other way round
pub first_row_decides : answers_to [] (
    create_d
    ∷ Insert (codes "d") (Some (codes "rowid" ∷ codes "x" ∷ [])) ((Int (pos 9223372036854775807) ∷ Null ∷ []) ∷ (Int (pos 9223372036854775807) ∷ Null ∷ []) ∷ (Null ∷ Null ∷ []) ∷ [])
    ∷ Insert (codes "d") (Some (codes "rowid" ∷ codes "x" ∷ [])) ((Int (pos 9223372036854775807) ∷ Null ∷ []) ∷ (Null ∷ Null ∷ []) ∷ (Int (pos 9223372036854775807) ∷ Null ∷ []) ∷ [])
    ∷ [])
    ≡ Ok Done ∷ Err (faults.DocidTaken (pos 9223372036854775807)) ∷ Err faults.DocidFull ∷ []
unfolding query_of reading chosen answer inserted_rows deserved after reply_to step
first_row_decides = refl

-- the index of the table d, from scratch
abbrev pub content_held : TableState → Content
content_held (Sound content) = content
content_held _ = record { columns = []; documents = [] }

abbrev pub first_content : Contents → Content
first_content [] = record { columns = []; documents = [] }
first_content (t ∷ ts) = content_held t.1.held

abbrev pub entry : List ℕ → ℤ → ℕ → ℕ → ℕ → ℕ → EntryRow
entry term docid column position place size = record { term = term; docid = docid; spot = record { column = column; pos = position; place = place; size = size } }

abbrev pub size_of : ℤ → ℕ → ℕ → SizeRow
size_of docid column n = record { docid = docid; column = pos column; n = pos n }

abbrev pub entries_after : List Command → List EntryRow
entries_after commands = entry_rows (index_rows (first_content (after_all [] commands))).lists

abbrev pub sizes_after : List Command → List SizeRow
sizes_after commands = (index_rows (first_content (after_all [] commands))).sizes

abbrev pub apple_and_pear : List Command
apple_and_pear = create_d ∷ texts_into_d ((Text (codes "red apple") ∷ []) ∷ (Text (codes "red pear") ∷ []) ∷ []) ∷ []

pub text_replaced : entries_after (apple_and_pear ++ Update (codes "d") ((codes "x", Text (codes "green")) ∷ []) (Docid (pos 1)) ∷ [])
    ≡ entry (codes "green") (pos 1) 0 0 0 5 ∷ entry (codes "pear") (pos 2) 0 1 4 4 ∷ entry (codes "red") (pos 2) 0 0 0 3 ∷ []
unfolding query_of reading chosen answer inserted_rows deserved after reply_to step entries spot_lists sizes index_rows
text_replaced = refl

pub text_replaced_sizes : sizes_after (apple_and_pear ++ Update (codes "d") ((codes "x", Text (codes "green")) ∷ []) (Docid (pos 1)) ∷ [])
    ≡ size_of (pos 1) 0 1 ∷ size_of (pos 2) 0 2 ∷ []
unfolding query_of reading chosen answer inserted_rows deserved after reply_to step entries spot_lists sizes index_rows
text_replaced_sizes = refl

abbrev pub one_apple : List Command
one_apple = create_d ∷ texts_into_d ((Text (codes "red apple") ∷ []) ∷ []) ∷ []

pub docid_set : entries_after (one_apple ++ Update (codes "d") ((codes "docid", Int (pos 9)) ∷ []) (Docid (pos 1)) ∷ [])
    ≡ entry (codes "apple") (pos 9) 0 1 4 5 ∷ entry (codes "red") (pos 9) 0 0 0 3 ∷ []
unfolding query_of reading chosen answer inserted_rows deserved after reply_to step entries spot_lists sizes index_rows
docid_set = refl

pub docid_set_sizes : sizes_after (one_apple ++ Update (codes "d") ((codes "docid", Int (pos 9)) ∷ []) (Docid (pos 1)) ∷ []) ≡ size_of (pos 9) 0 2 ∷ []
unfolding query_of reading chosen answer inserted_rows deserved after reply_to step entries spot_lists sizes index_rows
docid_set_sizes = refl

pub emptied : index_rows (first_content (after_all [] (one_apple ++ Update (codes "d") ((codes "x", Null) ∷ []) (Docid (pos 1)) ∷ []))) ≡ record { lists = []; sizes = [] }
unfolding query_of reading chosen answer inserted_rows deserved after reply_to step entries spot_lists sizes index_rows
emptied = refl

pub no_rows : answers_to [] (create_d ∷ texts_into_d [] ∷ []) ≡ Ok Done ∷ Ok Done ∷ []
unfolding inserted_rows deserved after reply_to step
no_rows = refl

pub no_rows_index : index_rows (first_content (after_all [] (create_d ∷ texts_into_d [] ∷ []))) ≡ record { lists = []; sizes = [] }
unfolding inserted_rows deserved after reply_to step entries spot_lists sizes index_rows
no_rows_index = refl

-- five documents p
abbrev pub five : List Command
five = create_d ∷ texts_into_d ((Text (codes "p") ∷ []) ∷ (Text (codes "p") ∷ []) ∷ (Text (codes "p") ∷ []) ∷ (Text (codes "p") ∷ []) ∷ (Text (codes "p") ∷ []) ∷ []) ∷ []

abbrev pub docids_cut : Option ℕ → ℕ → Command
docids_cut limit offset = Select (codes "d") (Listed (Named (codes "docid") ∷ [])) All limit offset

abbrev pub count_cut : Filter → Option ℕ → ℕ → Command
count_cut f limit offset = Select (codes "d") Counted f limit offset

pub cuts : answers_to (after_all [] five) (
    docids_cut (Some 2) 1
    ∷ docids_cut (Some 0) 0
    ∷ docids_cut None 5
    ∷ count_cut (Match (codes "d") (codes "p")) None 0
    ∷ count_cut (Match (codes "d") (codes "p")) (Some 1) 0
    ∷ count_cut All (Some 0) 0
    ∷ count_cut All (Some 1) 1
    ∷ [])
    ≡ rows_under (codes "docid" ∷ []) (docids (pos 2 ∷ pos 3 ∷ [])) ∷ rows_under (codes "docid" ∷ []) [] ∷ rows_under (codes "docid" ∷ []) []
    ∷ rows_under (codes "count(*)" ∷ []) (docids (pos 5 ∷ [])) ∷ rows_under (codes "count(*)" ∷ []) (docids (pos 5 ∷ []))
    ∷ rows_under (codes "count(*)" ∷ []) [] ∷ rows_under (codes "count(*)" ∷ []) [] ∷ []
unfolding query_of reading chosen answer inserted_rows deserved after reply_to step
cuts = refl

-- after all documents are deleted the first docid is 1 again
pub first_again : answers_to (after_all [] five) (
    Delete (codes "d") (Match (codes "d") (codes "p"))
    ∷ texts_into_d ((Text (codes "q") ∷ []) ∷ [])
    ∷ select_d
    ∷ [])
    ≡ Ok Done ∷ Ok Done ∷ rows_under (codes "docid" ∷ codes "x" ∷ []) ((Int (pos 1) ∷ Text (codes "q") ∷ []) ∷ []) ∷ []
unfolding query_of reading chosen answer inserted_rows deserved after reply_to step
first_again = refl

pub taken_by_five : step (after_all [] five) (Update (codes "d") ((codes "docid", Int (pos 3)) ∷ []) (Match (codes "d") (codes "p"))) ≡ (Err (faults.DocidTaken (pos 3)), after_all [] five)
unfolding query_of reading chosen answer inserted_rows deserved after reply_to step
taken_by_five = refl

-- each refusal in its turn
abbrev pub create_x : List ℕ → List (List ℕ × List ℕ) → List (List ℕ) → Command
create_x module_name options columns = Create (codes "x") module_name options columns false

pub refusals : answers_to [] (
    create_x (codes "fts5") [] (codes "a" ∷ [])
    ∷ create_x (codes "fts4") ((codes "tokenize", codes "porter") ∷ []) (codes "a" ∷ [])
    ∷ create_x (codes "fts4") ((codes "prefix", []) ∷ []) (codes "a" ∷ [])
    ∷ create_x (codes "fts4") [] (codes "a" ∷ codes "A" ∷ [])
    ∷ create_x (codes "FTS4") ((codes "TOKENIZE", codes "Simple") ∷ []) (codes "a" ∷ codes "b" ∷ [])
    ∷ Create (codes "X") (codes "fts4") [] (codes "a" ∷ []) false
    ∷ Create (codes "X") (codes "fts4") [] (codes "a" ∷ []) true
    ∷ Insert (codes "x") None ((Text (codes "p") ∷ []) ∷ [])
    ∷ Insert (codes "x") (Some (codes "docid" ∷ codes "rowid" ∷ codes "a" ∷ [])) ((Int (pos 1) ∷ Int (pos 2) ∷ Text (codes "p") ∷ []) ∷ [])
    ∷ Select (codes "x") (Listed (Named (codes "nope") ∷ [])) All None 0
    ∷ Select (codes "x") (Listed (OffsetsOf (codes "x") ∷ [])) All None 0
    ∷ [])
    ≡ Err faults.Module ∷ Err faults.Tokenizer ∷ Err faults.Parameter ∷ Err faults.DuplicateColumn ∷ Ok Done ∷ Err faults.TableExists ∷ Ok Done
    ∷ Err faults.Count ∷ Err faults.DocidTwice ∷ Err faults.NoSuchColumn ∷ Err faults.Context ∷ []
unfolding query_of reading chosen answer inserted_rows deserved after reply_to step
refusals = refl

-- of two faults of one command the one that is tested first
pub order_of_faults : answers_to [] (
    create_d
    ∷ Insert (codes "nope") (Some (codes "x" ∷ codes "X" ∷ [])) []
    ∷ Insert (codes "nope") (Some (codes "y" ∷ [])) []
    ∷ Insert (codes "d") (Some (codes "y" ∷ [])) ((Null ∷ Null ∷ []) ∷ [])
    ∷ Insert (codes "d") (Some (codes "docid" ∷ codes "x" ∷ [])) ((Text [] ∷ Text (0 ∷ []) ∷ []) ∷ (Null ∷ []) ∷ [])
    ∷ Insert (codes "d") (Some (codes "docid" ∷ codes "x" ∷ [])) ((Int (pos 1) ∷ Text (0 ∷ []) ∷ []) ∷ (Text [] ∷ Null ∷ []) ∷ [])
    ∷ Insert (codes "d") (Some (codes "docid" ∷ codes "x" ∷ [])) ((Int (pos 1) ∷ Null ∷ []) ∷ (Int (pos 1) ∷ Text (0 ∷ []) ∷ []) ∷ [])
    ∷ Update (codes "d") ((codes "docid", Null) ∷ (codes "rowid", Int (pos 1)) ∷ []) All
    ∷ Update (codes "d") ((codes "docid", Int (pos 2)) ∷ (codes "rowid", Int (pos 1)) ∷ []) All
    ∷ Update (codes "d") ((codes "docid", Int (pos 2)) ∷ []) All
    ∷ Select (codes "d") (Listed (OffsetsOf (codes "e") ∷ [])) All None 0
    ∷ Delete (codes "d") (Match (codes "x") (codes "a \"b"))
    ∷ Delete (codes "d") (Match (codes "y") (codes "a \"b"))
    ∷ Drop (codes "D") false
    ∷ Drop (codes "D") false
    ∷ Drop (codes "D") true
    ∷ [])
    ≡ Ok Done ∷ Err faults.DuplicateColumn ∷ Err faults.NoSuchTable ∷ Err faults.NoSuchColumn ∷ Err faults.Count ∷ Err faults.DocidKind ∷ Err faults.HasNul
    ∷ Err faults.DocidKind ∷ Err faults.DocidTwice ∷ Ok Done ∷ Err faults.NoSuchColumn ∷ Err faults.Malformed ∷ Err faults.NoSuchColumn ∷ Ok Done ∷ Err faults.NoSuchTable ∷ Ok Done ∷ []
unfolding query_of reading chosen answer inserted_rows deserved after reply_to step
order_of_faults = refl

-- A table whose index rows are wrong: only Drop, Rebuild and Check see it, and Rebuild makes it
-- sound.
abbrev pub stale_d : Contents
stale_d = (pos 1, record { name = codes "d"; held = Stale (record { columns = record { name = codes "x"; indexed = true } ∷ []; documents = (pos 1, Text (codes "red") ∷ []) ∷ (pos 2, Text (codes "red blue") ∷ []) ∷ [] }) }) ∷ []

pub rebuilt_again : answers_to stale_d (
    docids_matching (codes "red")
    ∷ Check (codes "d")
    ∷ Optimize (codes "d")
    ∷ Rebuild (codes "d")
    ∷ Check (codes "d")
    ∷ docids_matching (codes "red")
    ∷ [])
    ≡ Err faults.Unsound ∷ Err faults.Corrupt ∷ Err faults.Unsound ∷ Ok Done ∷ Ok Done ∷ rows_under (codes "docid" ∷ []) (docids (pos 1 ∷ pos 2 ∷ [])) ∷ []
unfolding query_of reading chosen answer inserted_rows deserved after reply_to step
rebuilt_again = refl

-- a table whose rows are no content
abbrev pub loose_d : Contents
loose_d = (pos 1, record { name = codes "d"; held = Loose (record { columns = (pos 1, codes "x") ∷ []; skipped = []; cells = [] }) }) ∷ []

pub dropped_at_last : answers_to loose_d (select_d ∷ Check (codes "d") ∷ Rebuild (codes "d") ∷ Drop (codes "d") false ∷ create_d ∷ select_d ∷ [])
    ≡ Err faults.Unsound ∷ Err faults.Corrupt ∷ Err faults.Corrupt ∷ Ok Done ∷ Ok Done ∷ rows_under (codes "docid" ∷ codes "x" ∷ []) [] ∷ []
unfolding query_of reading chosen answer inserted_rows deserved after reply_to step
dropped_at_last = refl

-- a new table takes the least positive id that no table has
abbrev pub ids : Contents → List ℤ
ids [] = []
ids (t ∷ ts) = t.0 ∷ ids ts

pub least_id : ids (after_all [] (
    create_d
    ∷ create_x (codes "fts4") [] []
    ∷ Create (codes "y") (codes "fts4") [] [] false
    ∷ Drop (codes "x") false
    ∷ Create (codes "z") (codes "fts4") [] [] false
    ∷ []))
    ≡ pos 1 ∷ pos 2 ∷ pos 3 ∷ []
unfolding inserted_rows deserved after reply_to step
least_id = refl

-- headers, all columns, a docid by its other name, and offsets
pub headers : answers_to [] (
    create_d
    ∷ texts_into_d ((Text (codes "b") ∷ []) ∷ (Text (codes "b a b") ∷ []) ∷ [])
    ∷ Select (codes "D") (Listed (Named (codes "ROWID") ∷ AllColumns ∷ Named (codes "X") ∷ OffsetsOf (codes "D") ∷ [])) (Match (codes "d") (codes "a")) None 0
    ∷ [])
    ≡ Ok Done ∷ Ok Done ∷ rows_under (codes "rowid" ∷ codes "x" ∷ codes "x" ∷ codes "offsets(d)" ∷ []) ((Int (pos 2) ∷ Text (codes "b a b") ∷ Text (codes "b a b") ∷ Text (codes "0 0 2 1") ∷ []) ∷ []) ∷ []
unfolding query_of reading chosen answer inserted_rows deserved after reply_to step digits
headers = refl

-- an integer is indexed by its decimal text, a negative one without its sign
pub number_indexed : entries_after (create_d ∷ texts_into_d ((Text (195 ∷ 134 ∷ 114 ∷ 195 ∷ 184 ∷ []) ∷ []) ∷ (Int (negsuc 14) ∷ []) ∷ []) ∷ [])
    ≡ entry (codes "15") (pos 2) 0 0 1 2 ∷ entry (195 ∷ 134 ∷ 114 ∷ 195 ∷ 184 ∷ []) (pos 1) 0 0 0 5 ∷ []
unfolding query_of reading chosen answer inserted_rows deserved after reply_to step digits entries spot_lists sizes index_rows
number_indexed = refl

-- a column that is not indexed
abbrev pub not_indexed : List Command
not_indexed = Create (codes "n") (codes "fts4") ((codes "notindexed", codes "b") ∷ (codes "NOTINDEXED", codes "B") ∷ []) (codes "a" ∷ codes "b" ∷ []) false
    ∷ Insert (codes "n") None ((Text (codes "red") ∷ Text (codes "red blue") ∷ []) ∷ []) ∷ []

pub only_indexed : entries_after not_indexed ≡ entry (codes "red") (pos 1) 0 0 0 3 ∷ []
unfolding query_of reading chosen answer inserted_rows deserved after reply_to step entries spot_lists sizes index_rows
only_indexed = refl

pub unknown_column : answers_to [] (Create (codes "o") (codes "fts4") ((codes "notindexed", codes "c") ∷ []) (codes "a" ∷ []) false ∷ []) ≡ Err faults.NoSuchColumn ∷ []
unfolding inserted_rows deserved after reply_to step
unknown_column = refl
