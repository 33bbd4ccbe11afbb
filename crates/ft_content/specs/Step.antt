-- Meaning. What a command deserves, leaves and answers. Which faults there are, their limits, and the order in which they are tested over a
-- whole command are own choices, but where a section is named.
use Rattle.std.specs.Prelude.{ℕ, ◌+◌, ◌-◌, ◌^◌, Bool, true, false, if◌then◌else◌, not, ◌&&◌, ◌||◌, List, [], ◌∷◌, ◌++◌, map, filter, length, zip}
use Rattle.std.specs.Prelude.{Option, Some, None, Result, Ok, Err, ℤ, pos, ◌+ℤ◌, codes, nat_lt, nat_le, ◌==◌, unwrap_or, option_map, is_some, is_none}
use Rattle.std.specs.List.{list_any, list_all, find, flat_map}
use Rattle.std.specs.Option.{option_or}
use Rattle.std.specs.Result.{result_err, result_unwrap_or}
use Rattle.std.specs.Ordering.{int_cmp, int_eq}
use Rattle.std.specs.FinMap.Entries.{put, where_key, find as cells_at}
use Rattle.ft_values.specs.declared.fault.Fault.{Fault}
use Rattle.ft_values.specs.declared.fault.Fault.TheVariants as faults
use Rattle.ft_match.specs.declared.query.QueryFault.{QueryFault}
use Rattle.ft_match.specs.declared.query.QueryFault.TheVariants.{Malformed, TooLarge, Memory}
use Rattle.ft_content.specs.Content.{Cell, Null, Int, Text, Column, Documents, Content, TableRows, same_name, is_docid, is_name, names_of}
use Rattle.ft_content.specs.Content.{repeats_name, names_clash, is_too_long, has_nul, content_in}
use Rattle.ft_commands.specs.Command.{Filter, Match, Item, AllColumns, Named, OffsetsOf, Items, Counted, Listed, Reply, Done, Rows}
use Rattle.ft_commands.specs.Command.{Command, Create, Drop, Insert, Update, Delete, Select, Rebuild, Check, Optimize}
use Rattle.ft_content.specs.Answer.{Tree, reading, is_chosen, chosen, answer}

-- ---- tables

-- What the rows of a table are: a content with the right index rows, a content with other index rows, or no content.
pub data TableState : Type 0 where
  Sound : (content : Content) → TableState
  Stale : (content : Content) → TableState
  Loose : (rows : TableRows) → TableState

pub record Table : Type 0 where
  pub name : List ℕ
  pub held : TableState

-- the content of a table: where its rows are of none, what they come to
abbrev pub held_content : TableState → Content
held_content (Sound content) = content
held_content (Stale content) = content
held_content (Loose rows) = content_in rows

-- the tables by rising id
abbrev pub Contents : Type 0
Contents = List (ℤ × Table)

abbrev pub table_named : Contents → List ℕ → Option (ℤ × Table)
table_named contents name = find (λ (t : ℤ × Table). same_name t.1.name name) contents

-- the fault of the first test that applies
abbrev pub first_of : List (Bool × Fault) → Option Fault
first_of [] = None
first_of (test ∷ tests) = if test.0 then Some test.1 else first_of tests

-- tests of a table, which has to be there and sound
abbrev pub on_held : TableState → (Content → Option Fault) → Option Fault
on_held (Sound content) test = test content
on_held held test = Some faults.Unsound

abbrev pub on_found : Option (ℤ × Table) → (List ℕ → TableState → Option Fault) → Option Fault
on_found None test = Some faults.NoSuchTable
on_found (Some t) test = test t.1.name t.1.held

abbrev pub on_sound : Contents → List ℕ → (List ℕ → Content → Option Fault) → Option Fault
on_sound contents name test = on_found (table_named contents name) (λ table held. on_held held (test table))

-- ---- the faults

-- Create: with no column there is one, named content ("Creating and Destroying FTS Tables")
abbrev pub made_columns : List (List ℕ) → List (List ℕ)
made_columns [] = codes "content" ∷ []
made_columns (name ∷ names) = name ∷ names

abbrev pub is_tokenize : List ℕ × List ℕ → Bool
is_tokenize option = same_name option.0 (codes "tokenize")

-- an option that names a column whose cells are not indexed ("The notindexed= option")
abbrev pub is_notindexed : List ℕ × List ℕ → Bool
is_notindexed option = same_name option.0 (codes "notindexed")

-- the tests of a Create, where a table of the name is there or not, among so many tables
abbrev pub create_tests : Bool → ℕ → List ℕ → List ℕ → List (List ℕ × List ℕ) → List (List ℕ) → Bool → Option Fault
create_tests is_there count table module_name options names if_new = first_of (
    (not (same_name module_name (codes "fts4")), faults.Module)
    ∷ (list_any (λ (o : List ℕ × List ℕ). is_tokenize o && not (same_name o.1 (codes "simple"))) options, faults.Tokenizer)
    ∷ (list_any (λ (o : List ℕ × List ℕ). not (is_tokenize o || is_notindexed o)) options, faults.Parameter)
    ∷ (not (list_all is_name (table ∷ names)), faults.Name)
    ∷ (names_clash table names, faults.DuplicateColumn)
    ∷ (nat_lt 100 (length names), faults.TooManyColumns)
    ∷ (is_there && not if_new, faults.TableExists)
    ∷ (not is_there && nat_le 1000 count, faults.TooManyTables)
    ∷ (not is_there && list_any (λ (o : List ℕ × List ℕ). is_notindexed o && not (list_any (same_name o.1) names)) options, faults.NoSuchColumn)
    ∷ [])

abbrev pub create_fault : Contents → List ℕ → List ℕ → List (List ℕ × List ℕ) → List (List ℕ) → Bool → Option Fault
create_fault contents table module_name options names if_new =
    create_tests (is_some (table_named contents table)) (length contents) table module_name options names if_new

-- names of columns that a table has, docid among them
abbrev pub has_column : Content → List ℕ → Bool
has_column content name = is_docid name || list_any (same_name name) (names_of content.columns)

-- the docid that a value under a name gives
abbrev pub docid_of_value : Cell → List ℤ
docid_of_value (Int number) = number ∷ []
docid_of_value value = []

abbrev pub docids_named : List (List ℕ × Cell) → List ℤ
docids_named values = flat_map (λ (v : List ℕ × Cell). if is_docid v.0 then docid_of_value v.1 else []) values

abbrev pub is_text : Cell → Bool
is_text (Text bytes) = true
is_text cell = false

abbrev pub is_null : Cell → Bool
is_null Null = true
is_null cell = false

-- Insert: the columns that its rows have values for
abbrev pub listed_columns : Content → Option (List (List ℕ)) → List (List ℕ)
listed_columns content names = unwrap_or names (names_of content.columns)

-- the value under a column's name, else the cell that stands there
abbrev pub value_under : List (List ℕ × Cell) → Column → Cell → Cell
value_under values column cell = unwrap_or (option_map (λ (v : List ℕ × Cell). v.1) (find (λ (v : List ℕ × Cell). same_name v.0 column.name) values)) cell

-- the cells of a document after these values are set
abbrev pub with_values : List (List ℕ × Cell) → List Column → List Cell → List Cell
with_values values columns cells = map (λ (c : Column × Cell). value_under values c.0 c.1) (zip columns cells)

-- a new document has NULL where no value is given
abbrev pub new_cells : List (List ℕ × Cell) → List Column → List Cell
new_cells values columns = map (λ column. value_under values column Null) columns

-- the docid of a row that gives none: one more than the largest, 1 where there is no document (own choice)
abbrev pub next_docid : Documents → Option ℤ
next_docid [] = Some (pos 1)
next_docid (d ∷ []) = if (int_eq d.0 (pos (2 ^ 63 - 1))) then None else (Some (d.0 +ℤ pos 1))
next_docid (d ∷ e ∷ documents) = next_docid (e ∷ documents)

abbrev pub has_docid : Documents → ℤ → Bool
has_docid documents docid = is_some (cells_at int_cmp docid documents)

abbrev pub place_document : Documents → ℤ → List Cell → Result Documents Fault
place_document documents docid cells = if has_docid documents docid then Err (faults.DocidTaken docid) else Ok (put int_cmp docid cells documents)

abbrev pub append_document : Documents → Option ℤ → List Cell → Result Documents Fault
append_document documents None cells = Err faults.DocidFull
append_document documents (Some docid) cells = Ok (put int_cmp docid cells documents)

-- The documents after one row, with the docids that it gives. One that exists is refused ("Populating FTS Tables").
abbrev pub insert_row : Documents → List ℤ → List Cell → Result Documents Fault
insert_row documents [] cells = append_document documents (next_docid documents) cells
insert_row documents (docid ∷ docids) cells = place_document documents docid cells

abbrev pub then_rows : Result Documents Fault → (Documents → Result Documents Fault) → Result Documents Fault
then_rows (Ok documents) rest = rest documents
then_rows (Err fault) rest = Err fault

-- the documents after rows, each given as its values under names, or the fault of the first row that fails
unfoldable pub inserted_rows : List Column → List (List (List ℕ × Cell)) → Documents → Result Documents Fault
inserted_rows columns [] documents = Ok documents
inserted_rows columns (values ∷ rows) documents = then_rows (insert_row documents (docids_named values) (new_cells values columns)) (inserted_rows columns rows)

-- the tests of an Insert, but for those of the docids that its rows give
abbrev pub insert_tests : Content → List (List ℕ) → List (List Cell) → Option Fault
insert_tests content names rows = first_of (
    (not (list_all (has_column content) names), faults.NoSuchColumn)
    ∷ (list_any (λ (row : List Cell). not (length row == length names)) rows, faults.Count)
    ∷ (list_any (λ (row : List Cell). list_any (λ (v : List ℕ × Cell). is_docid v.0 && is_text v.1) (zip names row)) rows, faults.DocidKind)
    ∷ (list_any (λ (row : List Cell). nat_lt 1 (length (docids_named (zip names row)))) rows, faults.DocidTwice)
    ∷ (list_any (list_any is_too_long) rows, faults.TooLong)
    ∷ (list_any (list_any has_nul) rows, faults.HasNul)
    ∷ [])

abbrev pub insert_fault : Content → List (List ℕ) → List (List Cell) → Option Fault
insert_fault content names rows =
    option_or (insert_tests content names rows) (result_err (inserted_rows content.columns (map (zip names) rows) content.documents))

-- What a MATCH deserves. `query_of` answers no third fault.
abbrev pub reading_fault : Result (Option Tree) QueryFault → Option Fault
reading_fault (Ok query) = None
reading_fault (Err Malformed) = Some faults.Malformed
reading_fault (Err TooLarge) = Some faults.TooLarge
reading_fault (Err Memory) = Some faults.Memory

abbrev pub query_fault : Content → Filter → Option Fault
query_fault content (Match name text) = reading_fault (reading content name text)
query_fault content f = None

-- a MATCH name is the table or a column
abbrev pub names_unknown : List ℕ → Content → Filter → Bool
names_unknown table content (Match name text) = not (same_name table name || list_any (same_name name) (names_of content.columns))
names_unknown table content f = false

abbrev pub is_match : Filter → Bool
is_match (Match name text) = true
is_match f = false

-- An Update that sets docid may choose one document, and no other may have that docid (own choice).
abbrev pub move_fault : Documents → Documents → ℤ → Option Fault
move_fault documents [] docid = None
move_fault documents (d ∷ []) docid = if (has_docid documents docid && not (int_eq d.0 docid)) then Some (faults.DocidTaken docid) else None
move_fault documents (d ∷ e ∷ more) docid = Some (faults.DocidTaken docid)

abbrev pub moves_fault : Documents → Documents → List ℤ → Option Fault
moves_fault documents picked [] = None
moves_fault documents picked (docid ∷ docids) = move_fault documents picked docid

-- the tests of an Update that come before its query
abbrev pub update_tests : List ℕ → Content → List (List ℕ × Cell) → Filter → Option Fault
update_tests table content sets f = first_of (
    (not (list_all (λ (s : List ℕ × Cell). has_column content s.0) sets) || names_unknown table content f, faults.NoSuchColumn)
    ∷ (list_any (λ (s : List ℕ × Cell). is_docid s.0 && (is_text s.1 || is_null s.1)) sets, faults.DocidKind)
    ∷ (nat_lt 1 (length (docids_named sets)), faults.DocidTwice)
    ∷ (list_any (λ (s : List ℕ × Cell). is_too_long s.1) sets, faults.TooLong)
    ∷ (list_any (λ (s : List ℕ × Cell). has_nul s.1) sets, faults.HasNul)
    ∷ [])

abbrev pub update_fault : List ℕ → Content → List (List ℕ × Cell) → Filter → Option Fault
update_fault table content sets f =
    option_or (update_tests table content sets f)
    (option_or (query_fault content f) (moves_fault content.documents (chosen content f) (docids_named sets)))

-- the test of a Delete that comes before its query
abbrev pub delete_tests : List ℕ → Content → Filter → Option Fault
delete_tests table content f = first_of ((names_unknown table content f, faults.NoSuchColumn) ∷ [])

abbrev pub delete_fault : List ℕ → Content → Filter → Option Fault
delete_fault table content f = option_or (delete_tests table content f) (query_fault content f)

-- a named item is a column or docid; the argument of offsets is the table
abbrev pub item_unknown : List ℕ → Content → Item → Bool
item_unknown table content AllColumns = false
item_unknown table content (Named name) = not (has_column content name)
item_unknown table content (OffsetsOf name) = not (same_name table name)

abbrev pub is_offsets : Item → Bool
is_offsets (OffsetsOf name) = true
is_offsets item = false

abbrev pub items_in : Items → List Item
items_in Counted = []
items_in (Listed items) = items

-- the tests of a Select that come before its query
abbrev pub select_tests : List ℕ → Content → Items → Filter → Option Fault
select_tests table content items f = first_of (
    (list_any (item_unknown table content) (items_in items) || names_unknown table content f, faults.NoSuchColumn)
    ∷ (list_any is_offsets (items_in items) && not (is_match f), faults.Context)
    ∷ [])

abbrev pub select_fault : List ℕ → Content → Items → Filter → Option Fault
select_fault table content items f = option_or (select_tests table content items f) (query_fault content f)

-- Rebuild wants a content ("The "rebuild" command"), and Check wants its index rows to be right ("The "integrity-check" command").
abbrev pub rebuild_fault : List ℕ → TableState → Option Fault
rebuild_fault table (Loose rows) = Some faults.Corrupt
rebuild_fault table held = None

abbrev pub check_fault : List ℕ → TableState → Option Fault
check_fault table (Sound content) = None
check_fault table held = Some faults.Corrupt

-- The first fault that applies to a command, None where it is to be done. Two docids for one row are refused ("Populating FTS Tables").
unfoldable pub deserved : Contents → Command → Option Fault
deserved contents (Create table module_name options columns if_new) = create_fault contents table module_name options (made_columns columns) if_new
deserved contents (Drop table if_there) = first_of ((is_none (table_named contents table) && not if_there, faults.NoSuchTable) ∷ [])
deserved contents (Insert table columns rows) =
    option_or (first_of ((repeats_name (unwrap_or columns []), faults.DuplicateColumn) ∷ []))
    (on_sound contents table (λ name content. insert_fault content (listed_columns content columns) rows))
deserved contents (Update table sets f) =
    option_or (first_of ((repeats_name (map (λ (s : List ℕ × Cell). s.0) sets), faults.DuplicateColumn) ∷ []))
    (on_sound contents table (λ name content. update_fault name content sets f))
deserved contents (Delete table f) = on_sound contents table (λ name content. delete_fault name content f)
deserved contents (Select table items f limit offset) = on_sound contents table (λ name content. select_fault name content items f)
deserved contents (Rebuild table) = on_found (table_named contents table) rebuild_fault
deserved contents (Check table) = on_found (table_named contents table) check_fault
deserved contents (Optimize table) = on_sound contents table (λ name content. None)

-- ---- what a command leaves and answers

-- the least positive id that no table has, from n on (own choice); the tables stand by rising id
abbrev pub free_id_from : ℕ → Contents → ℕ
free_id_from n [] = n
free_id_from n (t ∷ ts) = free_id_from (if int_eq t.0 (pos n) then (n + 1) else n) ts

-- the column of this name that a Create with these options makes
abbrev pub made_column : List (List ℕ × List ℕ) → List ℕ → Column
made_column options name = record { name = name; indexed = not (list_any (λ (o : List ℕ × List ℕ). is_notindexed o && same_name o.1 name) options) }

abbrev pub new_table : List ℕ → List (List ℕ × List ℕ) → List (List ℕ) → Table
new_table name options names = record { name = name; held = Sound (record { columns = map (made_column options) names; documents = [] }) }

abbrev pub created : Contents → List ℕ → List (List ℕ × List ℕ) → List (List ℕ) → Contents
created contents name options names =
    if is_some (table_named contents name) then contents
    else put int_cmp (pos (free_id_from 1 contents)) (new_table name options names) contents

abbrev pub dropped : Contents → List ℕ → Contents
dropped contents name = filter (λ (t : ℤ × Table). not (same_name t.1.name name)) contents

-- the documents after an Insert ("Populating FTS Tables")
abbrev pub inserted : Content → Option (List (List ℕ)) → List (List Cell) → Documents
inserted content columns rows =
    result_unwrap_or (inserted_rows content.columns (map (zip (listed_columns content columns)) rows) content.documents) content.documents

abbrev pub without_docid : ℤ → Documents → Documents
without_docid docid documents = where_key int_cmp (λ d. not (int_eq docid d)) documents

-- a document that stands under another docid from now on
abbrev pub moved : Documents → Documents → List ℤ → Documents
moved documents [] docids = documents
moved documents (d ∷ more) [] = documents
moved documents (d ∷ more) (docid ∷ docids) = put int_cmp docid d.1 (without_docid d.0 documents)

-- the documents after an Update: the chosen ones get their values, and then at most one its docid
abbrev pub updated : Content → List (List ℕ × Cell) → Filter → Documents
updated content sets f =
    let change : ℤ × List Cell → ℤ × List Cell = λ (d : ℤ × List Cell). (d.0, with_values sets content.columns d.1) in
    moved (map (λ (d : ℤ × List Cell). if is_chosen content f d then change d else d) content.documents) (map change (chosen content f)) (docids_named sets)

-- the documents after a Delete
abbrev pub deleted : Content → Filter → Documents
deleted content f = filter (λ (d : ℤ × List Cell). not (is_chosen content f d)) content.documents

-- a held content with other documents; what is not sound stays
abbrev pub with_documents : (Content → Documents) → TableState → TableState
with_documents change (Sound content) = Sound (record content { documents = change content })
with_documents change held = held

-- Rebuild makes the index rows right ("The "rebuild" command").
abbrev pub rebuilt : TableState → TableState
rebuilt (Stale content) = Sound content
rebuilt held = held

-- the tables after the one of this name changed
abbrev pub on_table : Contents → List ℕ → (TableState → TableState) → Contents
on_table contents name change =
    map (λ (t : ℤ × Table). if same_name t.1.name name then (t.0, record { name = t.1.name; held = change t.1.held }) else t) contents

-- The contents after a command that deserves no fault. Update and Delete choose on the content as it was, and Optimize changes nothing (own
-- choices).
unfoldable pub after : Contents → Command → Contents
after contents (Create table module_name options columns if_new) = created contents table options (made_columns columns)
after contents (Drop table if_there) = dropped contents table
after contents (Insert table columns rows) = on_table contents table (with_documents (λ content. inserted content columns rows))
after contents (Update table sets f) = on_table contents table (with_documents (λ content. updated content sets f))
after contents (Delete table f) = on_table contents table (with_documents (λ content. deleted content f))
after contents (Rebuild table) = on_table contents table rebuilt
after contents command = contents

abbrev pub answer_of_found : Option (ℤ × Table) → Items → Filter → Option ℕ → ℕ → Reply
answer_of_found None items f limit offset = Done
answer_of_found (Some t) items f limit offset = Rows (answer t.1.name (held_content t.1.held) items f limit offset)

-- the reply to a command that deserves no fault
unfoldable pub reply_to : Contents → Command → Reply
reply_to contents (Select table items f limit offset) = answer_of_found (table_named contents table) items f limit offset
reply_to contents command = Done

abbrev pub step_by : Option Fault → Contents → Command → Result Reply Fault × Contents
step_by (Some fault) contents command = (Err fault, contents)
step_by None contents command = (Ok (reply_to contents command), after contents command)

-- What a command answers, and the contents after it. One that is refused changes nothing (own choice).
unfoldable pub step : Contents → Command → Result Reply Fault × Contents
step contents command = step_by (deserved contents command) contents command

-- the docids in new that old has not
abbrev pub new_docids : Documents → Documents → List ℤ
new_docids old new = map (λ (d : ℤ × List Cell). d.0) (filter (λ (d : ℤ × List Cell). not (has_docid old d.0)) new)

abbrev pub docids_of : Documents → List ℤ
docids_of documents = map (λ (d : ℤ × List Cell). d.0) documents

abbrev pub docid_if_any : Documents → List ℤ → List ℤ
docid_if_any [] docids = []
docid_if_any (d ∷ more) docids = docids

abbrev pub touched_held : TableState → (Content → List ℤ) → List ℤ
touched_held (Sound content) docids = docids content
touched_held held docids = []

abbrev pub touched_found : Option (ℤ × Table) → (Content → List ℤ) → List ℤ
touched_found None docids = []
touched_found (Some t) docids = touched_held t.1.held docids

abbrev pub touched_of : Contents → List ℕ → (Content → List ℤ) → List ℤ
touched_of contents table docids = touched_found (table_named contents table) docids

-- the docids of the documents that a command changes
unfoldable pub touched : Contents → Command → List ℤ
touched contents (Insert table columns rows) = touched_of contents table (λ content. new_docids content.documents (inserted content columns rows))
touched contents (Update table sets f) =
    touched_of contents table (λ content. docids_of (chosen content f) ++ docid_if_any (chosen content f) (docids_named sets))
touched contents (Delete table f) = touched_of contents table (λ content. docids_of (chosen content f))
touched contents command = []
