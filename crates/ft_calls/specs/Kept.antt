-- Meaning. What stays true of full-text tables, whatever is called, what calls leave one after another, and what is promised of them. All
-- of it is our own choice.
use Rattle.std.specs.Prelude.{◌≡◌, ◌≢◌, ◌⊎◌, ℕ, Bool, true, false, if◌then◌else◌, List, [], ◌∷◌, ◌++◌, map, Option, Some, None, Result, Ok, Err, ℤ}
use Rattle.std.specs.Prelude.{IsTrue, is_ok, is_some, All, refl}
use Rattle.std.specs.Ordering.{int_cmp, int_eq}
use Rattle.std.specs.FinMap.Entries.{find, put}
use Rattle.std.specs.List.{AllZip, list_any}
use Rattle.std.specs.Coded.{Coded, code_by, coded×, coded_ℤ, coded_ℕ, coded_bool, coded_list}
use Rattle.sqlite.specs.State.{State, HasCleanDisk, Survives}
use Rattle.sqlite.specs.Store.{Ghosts}
use Rattle.sqlite.specs.Tree.{Trees}
use Rattle.sqlite_value.specs.Keys.{without_case}
use Rattle.ft_rows.specs.Store.{StoreValue, Change, name_cmp, nothing_held, with_note, all_applied}
use Rattle.ft_store.specs.Blame.{IsBlamed}
use Rattle.ft_store.specs.Calls.{IsStored}
use Rattle.ft_store.specs.Puts.{CantPutAll}
use Rattle.ft_store.specs.Kept.{StoreState, store_code, shows, value_in}
use Rattle.ft_values.specs.declared.fault.Fault.{Fault}
use Rattle.ft_values.specs.declared.fault.Fault.TheVariants as faults
use Rattle.ft_content.specs.Content.{Column, Content, TableRows, IsContent, content_rows, repeats_name}
use Rattle.ft_content.specs.Index.{IndexRows, index_rows}
use Rattle.ft_commands.specs.Command.{Command, Drop, Insert, Update, Delete, Select, Check, Optimize, Reply}
use Rattle.ft_content.specs.Views.{TableInfo, table_names}
use Rattle.ft_content.specs.Step.{TableState, Sound, Stale, Loose, Table, Contents, held_content, table_named, deserved, step, after, touched}
use Rattle.ft_documents.specs.Tables.{table_rows, table_index, IsOfDocids}

-- a `FullText` as callers see it: its store, and the tables by rising id
pub record FullText (S : Type 0) : Type 0 where
  pub store : StoreState S
  pub tables : List TableInfo

abbrev pub column_code : Coded Column
column_code = code_by (List ℕ × Bool) (coded× (coded_list coded_ℕ) coded_bool) (λ c. (c.name, c.indexed)) (λ p. record { name = p.0; indexed = p.1 })
    (λ _. refl)

abbrev pub table_code : Coded TableInfo
table_code = code_by (ℤ × (List ℕ × (List Column × Bool))) (coded× coded_ℤ (coded× (coded_list coded_ℕ) (coded× (coded_list column_code) coded_bool)))
    (λ t. (t.id, (t.name, (t.columns, t.sound)))) (λ p. record { id = p.0; name = p.1.0; columns = p.1.1.0; sound = p.1.1.1 }) (λ _. refl)

abbrev pub full_text_code : {S : Type 0} → Coded S → Coded (FullText S)
full_text_code {S} s = code_by (StoreState S × List TableInfo) (coded× (store_code s) (coded_list table_code)) (λ k. (k.store, k.tables))
    (λ p. record { store = p.0; tables = p.1 }) (λ _. refl)

-- what its store holds
abbrev pub store_value : {S : Type 0} → Ghosts S → FullText S → StoreValue
store_value g known = value_in g known.store

-- So far the disk returned what was written, and the store is open. What is said of rows is said then. In memory it is always so, as long
-- as the store is open.
pub record IsUp {S : Type 0} (g : Ghosts S) (known : FullText S) : Type 0 where
  pub clean : HasCleanDisk (shows g known.store)
  pub is_open : IsTrue (shows g known.store).is_open

-- How a table's rows stand: they are a content with exactly the index rows made from scratch, a content with others, or no content.
abbrev pub Stands : List ℕ → TableRows → IndexRows → TableState → Type 0
Stands name rows index (Sound content) = IsContent name content × (rows ≡ content_rows content) × (index ≡ index_rows content)
Stands name rows index (Stale content) = IsContent name content × (rows ≡ content_rows content) × (index ≢ index_rows content)
Stands name rows index (Loose loose) = (loose ≡ rows) × ((content : Content) → IsContent name content → rows ≢ content_rows content)

-- the mark of a table
abbrev pub is_sound : TableState → Bool
is_sound (Sound content) = true
is_sound held = false

-- a table that the store names, with these rows, is held so
pub record HoldsTable (named : ℤ × List ℕ) (rows : TableRows) (index : IndexRows) (table : ℤ × Table) : Type 0 where
  pub id : table.0 ≡ named.0
  pub name : table.1.name ≡ named.1
  pub stands : Stands named.1 rows index table.1.held

-- The store holds these contents: each sound table with exactly the index rows made from scratch.
abbrev pub StoreHolds : StoreValue → Contents → Type 0
StoreHolds store contents = AllZip (λ (named : ℤ × List ℕ) (table : ℤ × Table). HoldsTable named (table_rows named.0 store)
    (table_index named.0 store) table) store.tables contents

-- what is known of a table without its rows
abbrev pub table_info : ℤ × Table → TableInfo
table_info table = record { id = table.0; name = table.1.name; columns = (held_content table.1.held).columns; sound = is_sound table.1.held }

-- What a store holds, and the list of its tables with their marks, are these contents. No two tables have one name.
pub record AreHeld (store : StoreValue) (tables : List TableInfo) (contents : Contents) : Type 0 where
  pub named_once : repeats_name (map (λ (t : ℤ × Table). t.1.name) contents) ≡ false
  pub held : StoreHolds store contents
  pub told : tables ≡ map table_info contents

abbrev pub Holds : {S : Type 0} → Ghosts S → FullText S → Contents → Type 0
Holds g known contents = AreHeld (store_value g known) known.tables contents

-- the store names a table of this id
abbrev pub has_table_id : StoreValue → ℤ → Bool
has_table_id store id = is_some (find int_cmp id store.tables)

-- What a command leaves beside the contents: the noted names, and under an id that no table has afterwards the rows that stood there, or
-- none where it was a table's. So no row is left of a table that goes.
pub record KeepsOthers (old new : StoreValue) : Type 0 where
  pub noted : new.noted ≡ old.noted
  pub rows : (id : ℤ) → has_table_id new id ≡ false → table_rows id new ≡ table_rows id (if has_table_id old id then nothing_held else old)
  pub index : (id : ℤ) → has_table_id new id ≡ false → table_index id new ≡ table_index id (if has_table_id old id then nothing_held else old)

-- where it is up it holds some contents
abbrev pub HoldsSome : {S : Type 0} → Ghosts S → FullText S → Type 0
HoldsSome g known = IsUp g known → (contents : Contents) × Holds g known contents

-- The call has read at most: database and marks are as before, and nothing was committed.
pub record OnlyLooks {S : Type 0} (g : Ghosts S) (old new : FullText S) : Type 0 where
  pub was_up : IsUp g new → IsUp g old
  pub value : IsUp g new → store_value g new ≡ store_value g old
  pub survives : Survives (shows g old.store) (shows g new.store) (λ _. IsTrue (shows g old.store).is_open → ⊥)
  pub tables : new.tables ≡ old.tables

-- a call is answered `Store` only for what lies outside the store
abbrev pub BlamesStore : {X : Type 0} → State → State → Result X Fault → Type 0
BlamesStore old new result = HasCleanDisk new → result ≡ Err faults.Store → IsBlamed old new

-- a call that makes changes is answered `Store` only for that, or since one of them can't be put
abbrev pub BlamesChanges : {X : Type 0} → State → State → Result X Fault → List Change → Type 0
BlamesChanges old new result changes = HasCleanDisk new → result ≡ Err faults.Store → IsBlamed old new ⊎ CantPutAll old.now.trees changes

-- the command puts rows
abbrev pub puts_rows : Command → Bool
puts_rows (Drop table if_there) = false
puts_rows (Select table items f limit offset) = false
puts_rows (Check table) = false
puts_rows (Optimize table) = false
puts_rows command = true

abbrev pub AreSound : Contents → Type 0
AreSound contents = All (λ (table : ℤ × Table). IsTrue (is_sound table.1.held)) contents

-- the store and memory may refuse any command
abbrev pub IsOutside : Fault → Type 0
IsOutside fault = (fault ≡ faults.Store) ⊎ (fault ≡ faults.Memory)

abbrev pub is_outside : Result Reply Fault → Bool
is_outside (Err faults.Store) = true
is_outside (Err faults.Memory) = true
is_outside answer = false

-- What a command may be answered over contents, and the contents after it: a refusal from outside that leaves them, or the one step.
abbrev pub Answers : Contents → Command → Result Reply Fault → Contents → Type 0
Answers old command answer new = (IsTrue (is_outside answer) × (new ≡ old)) ⊎ (step old command ≡ (answer, new))

-- What a call of `execute` does, where it is up as the call ends: contents that were held before are answered by the definitions, and what
-- they leave is held.
pub record Executes {S : Type 0} (g : Ghosts S) (old : FullText S) (command : Command) (answer : Result Reply Fault) (new : FullText S) : Type 0 where
  pub was_up : IsUp g new → IsUp g old
  pub steps : IsUp g new → (first : Contents) → Holds g old first → (last : Contents) × Holds g new last × Answers first command answer last
  pub others : IsUp g new → (first : Contents) → Holds g old first → KeepsOthers (store_value g old) (store_value g new)
  -- what is refused changes nothing
  pub unchanged : is_ok answer ≡ false → IsUp g new → (store_value g new ≡ store_value g old) × (new.tables ≡ old.tables)

abbrev pub AreOfFound : Option (ℤ × Table) → List ℤ → List Change → Type 0
AreOfFound None docids changes = changes ≡ []
AreOfFound (Some t) docids changes = All (IsOfDocids t.0 docids) changes

-- Insert, Update and Delete change rows of the documents that they touch alone
abbrev pub StaysNear : Contents → Command → List Change → Type 0
StaysNear contents (Insert table columns rows) changes = AreOfFound (table_named contents table) (touched contents (Insert table columns rows)) changes
StaysNear contents (Update table sets f) changes = AreOfFound (table_named contents table) (touched contents (Update table sets f)) changes
StaysNear contents (Delete table f) changes = AreOfFound (table_named contents table) (touched contents (Delete table f)) changes
StaysNear contents (Select table items f limit offset) changes = changes ≡ []
StaysNear contents (Check table) changes = changes ≡ []
StaysNear contents (Optimize table) changes = changes ≡ []
StaysNear contents command changes = Unit {0}

-- Row changes that lead to what a command leaves, which deserves no fault.
abbrev pub ReachesStep : Contents → Command → StoreValue → List Change → Type 0
ReachesStep contents command store changes =
    (deserved contents command ≡ None) × StoreHolds (all_applied changes store) (after contents command) × KeepsOthers store (all_applied changes store)

-- What a plan is: row changes that lead to what the command leaves, or the fault that it deserves.
abbrev pub PlansFrom : Contents → Command → StoreValue → Result (List Change) Fault → Type 0
PlansFrom contents command store (Ok changes) = (deserved contents command ≡ None) × StoreHolds (all_applied changes store) (after contents command)
    × KeepsOthers store (all_applied changes store) × StaysNear contents command changes
PlansFrom contents command store (Err fault) = IsTrue (is_outside (Err fault)) ⊎ (deserved contents command ≡ Some fault)

abbrev pub Plans : {S : Type 0} → Ghosts S → FullText S → Command → Result (List Change) Fault → Type 0
Plans g known command answer = (contents : Contents) → Holds g known contents → PlansFrom contents command (store_value g known) answer

-- what a call of `note` does, where it is up as the call ends
pub record Notes {S : Type 0} (g : Ghosts S) (old : FullText S) (name : List ℕ) (is_done : Bool) (new : FullText S) : Type 0 where
  pub was_up : IsUp g new → IsUp g old
  pub noted : IsUp g new → store_value g new ≡ (if is_done then with_note name (store_value g old) else store_value g old)
  pub tables : new.tables ≡ old.tables

-- ---- what a crash leaves

-- a name that is noted, with its small letters before it
abbrev pub Name : Type 0
Name = List ℕ × List ℕ

-- the files of a store hold these contents, whole, and these noted names
pub record HoldsLeft (contents : Contents) (names : List Name) (db : Trees) : Type 0 where
  pub left : StoreValue
  pub stored : IsStored db left
  pub held : StoreHolds left contents
  pub noted : left.noted ≡ names

-- What a call of `execute` may commit: the contents that the command leaves, whole, with the noted names as they were.
abbrev pub CommitsCommand : {S : Type 0} → Ghosts S → FullText S → Command → Trees → Type 0
CommitsCommand g old command db = IsUp g old → (first : Contents) → Holds g old first → HoldsLeft (step first command).1 (store_value g old).noted db

-- what a call of `note` may commit: the name alone
abbrev pub CommitsNote : {S : Type 0} → Ghosts S → FullText S → List ℕ → Trees → Type 0
CommitsNote g old name db = IsUp g old → IsStored db (with_note name (store_value g old))

-- a crash leaves what an open store holds, and nothing else
abbrev pub SurvivesCrash : {S : Type 0} → Ghosts S → FullText S → Type 0
SurvivesCrash g known = IsUp g known → (db : Trees) → (shows g known.store).may_leave db → IsStored db (store_value g known)

-- What a call leaves, whatever it is answered: an answer says that the store is open; of an open store a crash leaves what it holds; and
-- else what it could leave before the call, or what the call commits, which only a store does that was up.
pub record Leaves {S : Type 0} (g : Ghosts S) (old new : FullText S) (is_answered : Bool) (Commits : Trees → Type 0) : Type 0 where
  pub live : HasCleanDisk (shows g new.store) → is_answered ≡ true → IsTrue (shows g new.store).is_open
  pub settled : SurvivesCrash g new
  pub survives : Survives (shows g old.store) (shows g new.store) (λ db. IsUp g old × Commits db)

-- ---- calls one after another

-- a call of `execute` with its answer, of `note`, which was done or refused, or one that reads at most, which was answered or not
pub data Call : Type 0 where
  Executed : (command : Command) → (answer : Result Reply Fault) → Call
  Noted : (name : List ℕ) → (is_done : Bool) → Call
  Looked : (is_done : Bool) → Call

-- what a call does, and what it leaves
abbrev pub DoesCall : {S : Type 0} → Ghosts S → FullText S → Call → FullText S → Type 0
DoesCall g old (Executed command answer) new = Executes g old command answer new × Leaves g old new (is_ok answer) (CommitsCommand g old command)
DoesCall g old (Noted name is_done) new = Notes g old name is_done new × Leaves g old new is_done (CommitsNote g old name)
DoesCall g old (Looked is_done) new = OnlyLooks g old new × Leaves g old new is_done (λ _. ⊥)

-- calls one after another, each of which does so
abbrev pub Runs : {S : Type 0} → (FullText S → Call → FullText S → Type 0) → FullText S → List Call → FullText S → Type 0
Runs Does old [] new = new ≡ old
Runs {S} Does old (call ∷ calls) new = (mid : FullText S) × Does old call mid × Runs Does mid calls new

-- whether a call was answered: done, or with rows
abbrev pub is_answered : Call → Bool
is_answered (Executed command answer) = is_ok answer
is_answered (Noted name is_done) = is_done
is_answered (Looked is_done) = is_done

-- the commands that were answered
abbrev pub accepted : List Call → List Command
accepted [] = []
accepted (Executed command answer ∷ calls) = if is_ok answer then (command ∷ accepted calls) else accepted calls
accepted (call ∷ calls) = accepted calls

-- the contents that commands leave which are done one after another
unfoldable pub left_by : Contents → List Command → Contents
left_by first [] = first
left_by first (command ∷ commands) = left_by (after first command) commands

-- with a name that is noted, in its latest spelling
abbrev pub with_name : List ℕ → List Name → List Name
with_name name names = put name_cmp (without_case name) name names

-- the noted names after calls
abbrev pub noted_by : List Name → List Call → List Name
noted_by names [] = names
noted_by names (Noted name is_done ∷ calls) = noted_by (if is_done then with_name name names else names) calls
noted_by names (call ∷ calls) = noted_by names calls

-- Each answer is that of the definitions over the contents that the accepted commands before it left, or a refusal from outside.
unfoldable pub AreAnswered : Contents → List Call → Type 0
AreAnswered first [] = Unit {0}
AreAnswered first (Executed command answer ∷ calls) =
    (IsTrue (is_outside answer) ⊎ (answer ≡ (step first command).0)) × AreAnswered (if is_ok answer then after first command else first) calls
AreAnswered first (call ∷ calls) = AreAnswered first calls

-- The store is up after these calls, and holds what the accepted commands made of the contents before them: so the index rows of each sound
-- table are exactly those made from scratch. And each command was answered by the definitions.
pub record StandsAfter {S : Type 0} (g : Ghosts S) (first : Contents) (names : List Name) (calls : List Call) (known : FullText S) : Type 0 where
  pub up : IsUp g known
  pub holds : Holds g known (left_by first (accepted calls))
  pub noted : (store_value g known).noted ≡ noted_by names calls
  pub answered : AreAnswered first calls

-- what a call leaves of contents and noted names, where it is done
abbrev pub contents_with : Call → Contents → Contents
contents_with (Executed command answer) contents = (step contents command).1
contents_with call contents = contents

abbrev pub names_with : Call → List Name → List Name
names_with (Noted name is_done) names = with_name name names
names_with call names = names

-- What a crash may leave after calls: what the answered ones leave, whole; or that and one call more, which was running, of which no call
-- was answered since.
pub data LeftAfter (first : Contents) (names : List Name) (calls : List Call) (db : Trees) : Type 0 where
  at_rest : HoldsLeft (left_by first (accepted calls)) (noted_by names calls) db → LeftAfter first names calls db
  running : (front more : List Call) (call : Call) → calls ≡ front ++ call ∷ more → list_any is_answered (call ∷ more) ≡ false
      → HoldsLeft (contents_with call (left_by first (accepted front))) (names_with call (noted_by names front)) db → LeftAfter first names calls db

-- What is promised of calls, on a disk that returned what was written to it.
pub record CallsKept {S : Type 0} (g : Ghosts S) (Does : FullText S → Call → FullText S → Type 0) (first : Contents) (start : FullText S)
    (calls : List Call) (end : FullText S) : Type 0 where
  -- so it stands after each call that is answered, whatever comes after it
  pub stands : (before more : List Call) (call : Call) → calls ≡ before ++ call ∷ more → is_answered call ≡ true →
      (mid : FullText S) × Runs Does start (before ++ call ∷ []) mid × Runs Does mid more end
      × StandsAfter g first (store_value g start).noted (before ++ call ∷ []) mid
  -- and in the end, as long as the store is open
  pub ends : IsTrue (shows g end.store).is_open → StandsAfter g first (store_value g start).noted calls end
  -- a refused command changes no row of content or index, and no mark
  pub refused : (before more : List Call) (command : Command) (fault : Fault) → calls ≡ before ++ Executed command (Err fault) ∷ more →
      (was now : FullText S) × Runs Does start before was × Does was (Executed command (Err fault)) now × Runs Does now more end
      × (IsUp g now → (store_value g now ≡ store_value g was) × (now.tables ≡ was.tables))
  -- a crash leaves what stood before the running command or after it, and what was answered stands
  pub crash : IsUp g start → (db : Trees) → (shows g end.store).may_leave db → LeftAfter first (store_value g start).noted calls db

-- After any calls that do so it is kept, whatever contents the store held before them.
abbrev pub KeptByCalls : {S : Type 0} → Ghosts S → (FullText S → Call → FullText S → Type 0) → Type 0
KeptByCalls {S} g Does = (start end : FullText S) (calls : List Call) (first : Contents) → HasCleanDisk (shows g end.store) → Holds g start first
    → SurvivesCrash g start → Runs Does start calls end → CallsKept g Does first start calls end

-- What a store holds are one contents: so its tables' marks are settled.
abbrev pub HoldsOneContents : Type 0
HoldsOneContents = (store : StoreValue) (one other : Contents) → StoreHolds store one → StoreHolds store other → one ≡ other

abbrev pub is_unsound : ℤ → ℤ × Table → Bool
is_unsound id table = if is_sound table.1.held then false else int_eq id table.0

-- Commands leave no table unsound that wasn't: a sound one stays so, and one that is made or rebuilt is sound.
abbrev pub NoneGetsUnsound : Type 0
NoneGetsUnsound = (first : Contents) (commands : List Command) (id : ℤ) → IsTrue (list_any (is_unsound id) (left_by first commands))
    → IsTrue (list_any (is_unsound id) first)

-- Commands give no two tables one name.
abbrev pub NamesStayApart : Type 0
NamesStayApart = (first : Contents) (commands : List Command) → repeats_name (table_names first) ≡ false
    → repeats_name (table_names (left_by first commands)) ≡ false
