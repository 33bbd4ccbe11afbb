-- Steps. Why a call over tables is answered `Store`. All of it is our own choice.
use Rattle.std.specs.Prelude.{◌≡◌, ◌⊎◌, ℕ, List, ℤ, Result, Err, All, IsSome}
use Rattle.std.specs.Ordering.{int_cmp}
use Rattle.std.specs.FinMap.Entries.{find}
use Rattle.sqlite.specs.State.{HasCleanDisk}
use Rattle.sqlite.specs.Store.{Ghosts}
use Rattle.ft_rows.specs.Store.{Change}
use Rattle.ft_store.specs.Blame.{IsBlamed}
use Rattle.ft_store.specs.Kept.{StoreState, shows, value_in}
use Rattle.ft_values.specs.declared.fault.Fault.{Fault}
use Rattle.ft_values.specs.declared.fault.Fault.TheVariants as faults
use Rattle.ft_commands.specs.Command.{Command}
use Rattle.ft_content.specs.Content.{Content}
use Rattle.ft_content.specs.Views.{TableInfo}
use Rattle.ft_content.specs.Step.{Contents}
use Rattle.ft_documents.specs.Rewrite.{HasContent}
use Rattle.ft_calls.specs.Kept.{AreHeld, BlamesStore}
use Rattle.ft_calls.specs.Causes.{CantDo, CantMake}

-- ---- calls that read at most

-- a call that reads nothing is never answered so
abbrev pub NeverStore : {X : Type 0} → Result X Fault → Type 0
NeverStore result = result ≡ Err faults.Store → ⊥

-- Where a table has a content of which this holds, a call is answered so only for what lies outside the store.
abbrev pub BlamesContent : {S X : Type 0} → Ghosts S → ℤ → StoreState S → StoreState S → Result X Fault → (Content → Type 0) → Type 0
BlamesContent g tab old new result Asked = (name : List ℕ) (content : Content) → HasContent name content tab (value_in g old) → Asked content
    → BlamesStore (shows g old) (shows g new) result

-- the same where the store holds contents, and these are its tables
abbrev pub BlamesOver : {S X : Type 0} → Ghosts S → List TableInfo → StoreState S → StoreState S → Result X Fault → Type 0
BlamesOver g tables old new result = (contents : Contents) → AreHeld (value_in g old) tables contents → BlamesStore (shows g old) (shows g new) result

-- a content has a document of each of these docids
abbrev pub AreThere : Content → List ℤ → Type 0
AreThere content docids = All (λ docid. IsSome (find int_cmp docid content.documents)) docids

-- ---- commands that put rows

-- why a call that makes changes is answered so
abbrev pub BlamesMade : {S X : Type 0} → Ghosts S → StoreState S → StoreState S → Result X Fault → List Change → Type 0
BlamesMade g old new result changes = HasCleanDisk (shows g new) → result ≡ Err faults.Store
    → IsBlamed (shows g old) (shows g new) ⊎ CantMake (shows g old).now.trees changes

-- why a command is, where the store holds contents, and these are its tables
abbrev pub BlamesDone : {S X : Type 0} → Ghosts S → List TableInfo → StoreState S → Command → StoreState S → Result X Fault → Type 0
BlamesDone g tables old command new result = (contents : Contents) → AreHeld (value_in g old) tables contents → HasCleanDisk (shows g new)
    → result ≡ Err faults.Store → IsBlamed (shows g old) (shows g new) ⊎ CantDo contents command (value_in g old) (shows g old).now.trees
