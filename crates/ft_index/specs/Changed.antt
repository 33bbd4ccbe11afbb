-- Steps. What a change of rows leaves of a store.
use Rattle.std.specs.Prelude.{◌≡◌, Bool, if◌then◌else◌, List, [], Result, is_ok, IsTrue, IfErr, OnOk}
use Rattle.sqlite.specs.State.{HasCleanDisk, Survives}
use Rattle.sqlite.specs.Store.{Ghosts}
use Rattle.ft_rows.specs.Store.{Change, all_applied}
use Rattle.ft_store.specs.Calls.{IsPlainFault, IsStored, Keeps}
use Rattle.ft_store.specs.declared.fault.StoreFault.{StoreFault}
use Rattle.ft_store.specs.Kept.{StoreState, shows, value_in}
use Rattle.ft_values.specs.declared.fault.Fault.{Fault}
use Rattle.ft_commands.specs.declared.command.Reply.{Reply}
use Rattle.ft_commands.specs.Command.{Command}
use Rattle.ft_content.specs.Views.{TableInfo}
use Rattle.ft_commands.specs.Views.{answer_of}
use Rattle.ft_calls.specs.Kept.{FullText, IsUp, IsOutside, Executes}
use Rattle.ft_calls.specs.Kept.{CommitsCommand}

abbrev pub with_tables : {S : Type 0} → StoreState S → List TableInfo → FullText S
with_tables store tables = record { store = store; tables = tables }

-- where the store is up after a change it was up before, and holds all changes or none
pub record Changed {S : Type 0} (g : Ghosts S) (old new : StoreState S) (changes : List Change) (is_done : Bool) : Type 0 where
  pub was_up : (tables others : List TableInfo) → IsUp g (with_tables new tables) → IsUp g (with_tables old others)
  pub value : (tables : List TableInfo) → IsUp g (with_tables new tables)
      → value_in g new ≡ (if is_done then all_applied changes (value_in g old) else value_in g old)

-- What a call leaves that makes changes, all of them or none. A crash leaves what it could leave before, or a store with all of them made;
-- no row is counted as read.
pub record MakesRows {S X : Type 0} (g : Ghosts S) (old new : StoreState S) (changes : List Change) (result : Result X Fault) : Type 0 where
  pub changed : Changed g old new changes (is_ok result)
  pub crash : Survives (shows g old) (shows g new) (λ db. IsTrue (shows g old).is_open → IsStored db (all_applied changes (value_in g old)))
  pub live : HasCleanDisk (shows g new) → OnOk result (IsTrue (shows g old).is_open → IsTrue (shows g new).is_open)
  pub cause : IfErr result IsOutside
  pub unread : new.rows_read ≡ old.rows_read

-- What a call of a command does, with its answer: what the definitions say, and what a crash leaves; an answer leaves the store open, if it
-- was.
pub record Does {S : Type 0} (g : Ghosts S) (old : FullText S) (command : Command) (answer : Result Reply Fault) (new : FullText S) : Type 0 where
  pub executes : Executes g old command (answer_of answer) new
  pub crash : Survives (shows g old.store) (shows g new.store) (CommitsCommand g old command)
  pub live : HasCleanDisk (shows g new.store) → OnOk answer (IsTrue (shows g old.store).is_open → IsTrue (shows g new.store).is_open)

-- What is left of a store that is asked first whether it is open: an answer says that it is, and only a store that was up commits.
pub record MakesAsked {S X : Type 0} (g : Ghosts S) (old new : StoreState S) (changes : List Change) (result : Result X Fault) : Type 0 where
  pub changed : Changed g old new changes (is_ok result)
  pub crash : Survives (shows g old) (shows g new) (λ db. IsUp g (with_tables old []) × IsStored db (all_applied changes (value_in g old)))
  pub live : HasCleanDisk (shows g new) → OnOk result (IsTrue (shows g new).is_open)
  pub cause : IfErr result IsOutside

-- the same of a command
pub record DoesAsked {S : Type 0} (g : Ghosts S) (old : FullText S) (command : Command) (answer : Result Reply Fault) (new : FullText S) : Type 0 where
  pub executes : Executes g old command (answer_of answer) new
  pub crash : Survives (shows g old.store) (shows g new.store) (λ db. IsUp g old × CommitsCommand g old command db)
  pub live : HasCleanDisk (shows g new.store) → OnOk answer (IsTrue (shows g new.store).is_open)

-- the same of a read, which commits nothing
pub record LooksAsked {S X : Type 0} (g : Ghosts S) (old new : StoreState S) (result : Result X StoreFault) : Type 0 where
  pub kept : HasCleanDisk (shows g new) → Keeps (shows g old) (shows g new)
  pub survives : Survives (shows g old) (shows g new) (λ _. ⊥)
  pub live : HasCleanDisk (shows g new) → OnOk result (IsTrue (shows g new).is_open)
  pub cause : IfErr result IsPlainFault
