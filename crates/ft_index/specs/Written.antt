-- Steps. Commands that write documents of one table anew. All of it is our own choice.
use Rattle.std.specs.Prelude.{◌≡◌, ◌⊎◌, ℕ, List, [], ◌∷◌, ◌++◌, map, Option, Some, None, Result, Ok, Err, ℤ, IsTrue, All, Contains, Vec, IfSome}
use Rattle.std.specs.declared.alloc.Global.{Global}
use Rattle.std.specs.List.{AllByRecursion}
use Rattle.sqlite.specs.State.{HasCleanDisk}
use Rattle.sqlite.specs.Store.{Ghosts}
use Rattle.ft_values.specs.declared.rows.RowChange.{RowChange}
use Rattle.ft_rows.specs.Store.{Change}
use Rattle.ft_rows.specs.Changes.{shown_change}
use Rattle.ft_store.specs.Kept.{StoreState, shows, value_in}
use Rattle.ft_values.specs.declared.fault.Fault.{Fault}
use Rattle.ft_values.specs.declared.fault.Fault.TheVariants as faults
use Rattle.ft_content.specs.Content.{Column, Documents, Content}
use Rattle.ft_commands.specs.Command.{Command}
use Rattle.ft_content.specs.Views.{TableInfo, column_of}
use Rattle.ft_content.specs.Step.{Contents}
use Rattle.ft_documents.specs.declared.rewrite.Rewrite as source
use Rattle.ft_documents.specs.Rewrite.{Rewrite, AreOf, AreRight, HasContent, shown_rewrite, rewritten_docids, rewritten}
use Rattle.ft_documents.specs.Tables.{IsOfDocids}
use Rattle.ft_index.specs.declared.written.Written.{Written}
use Rattle.ft_calls.specs.Kept.{IsUp, AreHeld, PlansFrom, puts_rows}
use Rattle.ft_index.specs.Refused.{BlamesDone, BlamesMade, BlamesOver}
use Rattle.ft_calls.specs.Causes.{AreOwn, AreRewrites}
use Rattle.ft_index.specs.Planned.{changes_of, table_change}
use Rattle.ft_commands.specs.declared.command.Reply.{Reply}
use Rattle.ft_commands.specs.Command.{Done}
use Rattle.ft_content.specs.Step.{after, on_table, reply_to, with_documents}
use Rattle.ft_index.specs.Changed.{with_tables, Does, MakesRows}
use Rattle.ft_index.specs.DocumentsRead.{LooksOn}

-- The rows and index rows of a table were those of a content with these columns, and the store is up as the call ends.
pub record HasAll {S : Type 0} (g : Ghosts S) (tab : ℤ) (name : List ℕ) (columns : List Column) (old new : StoreState S) (content : Content) : Type 0 where
  pub clean : HasCleanDisk (shows g new)
  pub is_open : IsTrue (shows g new).is_open
  pub has : HasContent name content tab (value_in g old)
  pub columns_are : content.columns ≡ columns

-- Rewrites of a content lead to these documents, and are of documents that are touched.
pub record LeadsTo (content : Content) (documents : Documents) (touched : List ℤ) (rewrites : List Rewrite) : Type 0 where
  pub are_of : AreOf content rewrites
  pub made : rewritten rewrites content.documents ≡ documents
  pub near : AllByRecursion (λ (r : Rewrite). Contains touched r.docid) rewrites

-- What comes of a command on a content, which may deserve a fault: rewrites that lead to its documents, or the fault, but for one from
-- outside.
abbrev pub WritesDocuments : Content → Option Fault → Documents → List ℤ → Result (Vec source.Rewrite Global) Fault → Type 0
WritesDocuments content due documents touched (Ok rewrites) = (due ≡ None) × LeadsTo content documents touched (map shown_rewrite rewrites.items)
WritesDocuments content due documents touched (Err fault) = ((fault ≡ faults.Store) ⊎ (fault ≡ faults.Memory)) ⊎ (due ≡ Some fault)

-- What reads lead to, where the store is up as they end: changes that are a plan of the command, or its fault.
abbrev pub PlansTo : {S : Type 0} → Ghosts S → List TableInfo → StoreState S → StoreState S → Command → Result (List Change) Fault → Type 0
PlansTo g tables old new command answer = IsUp g (with_tables new tables) → (contents : Contents) → AreHeld (value_in g old) tables contents
    → PlansFrom contents command (value_in g old) answer

abbrev pub PlansIn : {S : Type 0} → Ghosts S → List TableInfo → StoreState S → StoreState S → Command → Result (Vec RowChange Global) Fault → Type 0
PlansIn g tables old new command answer = PlansTo g tables old new command (changes_of answer)

-- Row changes that are right for documents of a table, and are of these alone.
abbrev pub AreOfWritten : Written → List Change → Type 0
AreOfWritten written changes =
    AreRight written.table.now.id (map column_of written.table.now.columns.items) (map shown_rewrite written.rewrites.items) changes
    × All (IsOfDocids written.table.now.id (rewritten_docids (map shown_rewrite written.rewrites.items))) changes

-- Documents are rewrites of some content that has their table's columns.
pub record IsOfContent (written : Written) : Type 0 where
  pub content : Content
  pub columns_are : content.columns ≡ map column_of written.table.now.columns.items
  pub are_of : AreOf content (map shown_rewrite written.rewrites.items)

-- What reads lead to: documents whose row changes, as long as they are right, are a plan of the command, or its fault. Where the store is
-- up as they end the documents are of a content.
abbrev pub WritesIn : {S : Type 0} → Ghosts S → List TableInfo → StoreState S → StoreState S → Command → Result Written Fault → Type 0
WritesIn g tables old new command (Ok written) =
    ((changes : List Change) → AreOfWritten written changes → PlansTo g tables old new command (Ok changes))
    × (IsUp g (with_tables new tables) → (contents : Contents) → AreHeld (value_in g old) tables contents → IsOfContent written)
WritesIn g tables old new command (Err fault) = PlansTo g tables old new command (Err fault)

-- a change that comes first, if there is one, as a part of its own
abbrev pub first_parts : Option RowChange → List (List Change)
first_parts None = []
first_parts (Some change) = (shown_change change ∷ []) ∷ []

-- What the writing of documents after other changes does: the store holds these and all of some right changes of its rows, each once, or
-- none.
pub record MakesWritten {S X : Type 0} (g : Ghosts S) (first : List Change) (written : Written) (old new : StoreState S)
    (result : Result X Fault) : Type 0 where
  pub changes : List Change
  pub of_written : AreOfWritten written changes
  pub own : IsOfContent written → AreRewrites written.table.now.id changes
  pub makes : MakesRows g old new (first ++ changes) result
  pub refused : BlamesMade g old new result (first ++ changes)

-- Row changes that make a table anew, with documents after it.
pub record MakeTable (written : Written) (changes : List Change) : Type 0 where
  pub rest : List Change
  pub are : changes ≡ table_change written.table.now ∷ rest
  pub of_written : AreOfWritten written rest

-- and none where no table is to be made
abbrev pub AreOfAnew : Option Written → List Change → Type 0
AreOfAnew None changes = changes ≡ []
AreOfAnew (Some written) changes = MakeTable written changes

-- the store holds all of some such changes, or none
pub record MakesAnew {S X : Type 0} (g : Ghosts S) (anew : Option Written) (old new : StoreState S) (result : Result X Fault) : Type 0 where
  pub changes : List Change
  pub of_anew : AreOfAnew anew changes
  pub own : IfSome anew IsOfContent → AreOwn changes
  pub makes : MakesRows g old new changes result
  pub refused : BlamesMade g old new result changes

-- What reads of a Rebuild lead to: a table that is to be made anew, or none, whose row changes are a plan of the command; or its fault.
abbrev pub RebuildsIn : {S : Type 0} → Ghosts S → List TableInfo → StoreState S → StoreState S → Command → Result (Option Written) Fault → Type 0
RebuildsIn g tables old new command (Ok anew) =
    ((changes : List Change) → AreOfAnew anew changes → PlansTo g tables old new command (Ok changes))
    × (IsUp g (with_tables new tables) → (contents : Contents) → AreHeld (value_in g old) tables contents → IfSome anew IsOfContent)
RebuildsIn g tables old new command (Err fault) = PlansTo g tables old new command (Err fault)

-- A command that writes documents of one table alone.
pub record WritesTable (command : Command) : Type 0 where
  pub name : List ℕ
  pub made : Content → Documents
  pub leaves : (contents : Contents) → after contents command ≡ on_table contents name (with_documents made)
  pub replies : (contents : Contents) → reply_to contents command ≡ Done

-- What is answered by documents that reads found to be written, or by a fault that they found: it does what any such command does that they
-- were found for.
abbrev pub AnswersWritten : {S : Type 0} → Ghosts S → Result Written Fault → StoreState S → StoreState S → Result Reply Fault → Type 0
AnswersWritten {S} g found mid new answer = (old : StoreState S) (tables : List TableInfo) (command : Command) → WritesTable command
    → WritesIn g tables old mid command found → LooksOn g old mid found → Does g (with_tables old tables) command answer (with_tables new tables)

-- Where the command puts rows, it is refused by the store only for what lies outside it, or since the row changes that it comes to can't be
-- put.
abbrev pub BlamesWritten : {S : Type 0} → Ghosts S → Result Written Fault → StoreState S → StoreState S → Result Reply Fault → Type 0
BlamesWritten {S} g found mid new answer = (old : StoreState S) (tables : List TableInfo) (command : Command) → IsTrue (puts_rows command)
    → WritesIn g tables old mid command found → LooksOn g old mid found → BlamesOver g tables old mid found → BlamesDone g tables old command new answer
