-- Meaning. Why a command is answered `Store`, and what a call does with that. All of it is our own choice.
use Rattle.std.specs.Prelude.{◌≡◌, ◌⊎◌, ℕ, List, ◌∷◌, ℤ, Result, Err, All, IsTrue, is_ok}
use Rattle.std.specs.List.{flat_map}
use Rattle.sqlite.specs.State.{HasCleanDisk}
use Rattle.sqlite.specs.Store.{Ghosts}
use Rattle.sqlite.specs.Tree.{Trees}
use Rattle.ft_rows.specs.Store.{StoreValue, Change, AddTable}
use Rattle.ft_store.specs.Blame.{IsBlamed}
use Rattle.ft_store.specs.Kept.{shows}
use Rattle.ft_store.specs.Parts.{CanMake}
use Rattle.ft_store.specs.Puts.{CantPutAll}
use Rattle.ft_values.specs.declared.fault.Fault.{Fault}
use Rattle.ft_values.specs.declared.fault.Fault.TheVariants as faults
use Rattle.ft_commands.specs.Command.{Command, Reply}
use Rattle.ft_content.specs.Content.{Content}
use Rattle.ft_content.specs.Step.{Contents}
use Rattle.ft_documents.specs.Rewrite.{Rewrite, AreOf}
use Rattle.ft_documents.specs.RewriteRows.{rewrite_changes}
use Rattle.ft_calls.specs.Kept.{FullText, Holds, Executes, ReachesStep, puts_rows, store_value}
use Rattle.ft_calls.specs.Kept.{Call, CommitsCommand, DoesCall, Executed, Leaves}

-- Row changes that follow from documents of one table which are written anew, each of them once: its rows that differ, and those of its
-- index.
pub record AreRewrites (tab : ℤ) (changes : List Change) : Type 0 where
  pub content : Content
  pub groups : List (List Rewrite)
  pub are_of : AreOf content (flat_map (λ group. group) groups)
  pub are : changes ≡ flat_map (rewrite_changes tab content.columns) groups

-- the same, perhaps after the table is made
pub data AreOwn : List Change → Type 0 where
  alone : (tab : ℤ) (changes : List Change) → AreRewrites tab changes → AreOwn changes
  behind : (tab : ℤ) (name : List ℕ) (columns : List (List ℕ)) (skipped : List ℤ) (changes : List Change) → AreRewrites tab changes
      → AreOwn (AddTable tab name columns skipped ∷ changes)

-- row changes can't be put over these trees, or a list of places among them can't be packed
abbrev pub CantMake : Trees → List Change → Type 0
CantMake db changes = CantPutAll db changes ⊎ ¬ All CanMake changes

-- Row changes can't be made that a command comes to: they are of documents which are written anew, and lead to what it leaves.
pub record CantDo (contents : Contents) (command : Command) (store : StoreValue) (db : Trees) : Type 0 where
  pub puts : IsTrue (puts_rows command)
  pub changes : List Change
  pub own : AreOwn changes
  pub reaches : ReachesStep contents command store changes
  pub cant : CantMake db changes

-- A command is answered `Store` only for what lies outside the store, or since the row changes that it comes to can't be put over what the
-- store held before. One that puts no rows has the first cause alone.
abbrev pub BlamesCommand : {S : Type 0} → Ghosts S → FullText S → Command → Result Reply Fault → FullText S → Type 0
BlamesCommand g old command answer new = HasCleanDisk (shows g new.store) → answer ≡ Err faults.Store → IsBlamed (shows g old.store) (shows g new.store)
    ⊎ ((contents : Contents) × Holds g old contents × CantDo contents command (store_value g old) (shows g old.store).now.trees)

-- ---- calls of which the causes are known

-- what a call does, what it leaves, and why a command is refused
abbrev pub DoesForCause : {S : Type 0} → Ghosts S → FullText S → Call → FullText S → Type 0
DoesForCause g old (Executed command answer) new =
    Executes g old command answer new × Leaves g old new (is_ok answer) (CommitsCommand g old command) × BlamesCommand g old command answer new
DoesForCause g old call new = DoesCall g old call new
