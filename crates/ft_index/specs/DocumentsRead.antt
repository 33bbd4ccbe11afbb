-- Meaning. The documents of a table in a store, as they are read.
use Rattle.std.specs.Prelude.{◌≡◌, ℕ, List, ℤ, Result, IsTrue, OnOk, IfErr}
use Rattle.sqlite.specs.State.{HasCleanDisk, Survives}
use Rattle.sqlite.specs.Store.{Ghosts}
use Rattle.ft_store.specs.Calls.{Keeps}
use Rattle.ft_store.specs.Kept.{StoreState, shows, value_in}
use Rattle.ft_content.specs.Content.{Content, IsContent, content_rows}
use Rattle.ft_documents.specs.Tables.{table_rows}

-- The rows of a table were those of a content, and the store is up as the call ends.
pub record HasRows {S : Type 0} (g : Ghosts S) (tab : ℤ) (old new : StoreState S) (content : Content) : Type 0 where
  pub clean : HasCleanDisk (shows g new)
  pub is_open : IsTrue (shows g new).is_open
  pub name : List ℕ
  pub is_content : IsContent name content
  pub rows : table_rows tab (value_in g old) ≡ content_rows content

-- Reads leave what the store shows, and commit nothing.
pub record Looks {S : Type 0} (g : Ghosts S) (old new : StoreState S) : Type 0 where
  pub kept : HasCleanDisk (shows g new) → Keeps (shows g old) (shows g new)
  pub survives : Survives (shows g old) (shows g new) (λ _. IsTrue (shows g old).is_open → ⊥)

-- the same of a call that may be refused: its answer leaves the store open, if it was
pub record LooksOn {S X F : Type 0} (g : Ghosts S) (old new : StoreState S) (result : Result X F) : Type 0 where
  pub only : Looks g old new
  pub live : HasCleanDisk (shows g new) → OnOk result (IsTrue (shows g old).is_open → IsTrue (shows g new).is_open)

-- the same of a call that is refused for these causes alone
pub record LooksFor {S X F : Type 0} (g : Ghosts S) (old new : StoreState S) (result : Result X F) (Cause : F → Type 0) : Type 0 where
  pub only : Looks g old new
  pub live : HasCleanDisk (shows g new) → OnOk result (IsTrue (shows g old).is_open → IsTrue (shows g new).is_open)
  pub cause : IfErr result Cause

-- the same of a call that asks the store in any case: its answer says that the store is open
pub record AsksStore {S X F : Type 0} (g : Ghosts S) (old new : StoreState S) (result : Result X F) (Cause : F → Type 0) : Type 0 where
  pub only : Looks g old new
  pub live : HasCleanDisk (shows g new) → OnOk result (IsTrue (shows g new).is_open)
  pub cause : IfErr result Cause
