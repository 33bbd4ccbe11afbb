-- Steps. The posting lists of a table in a store, as a walk asks for them.
use Rattle.std.specs.Prelude.{◌≡◌, ◌⊎◌, ℕ, ◌+◌, ◌-◌, ◌^◌, min, Bool, true, false, List, ℤ, IsTrue}
use Rattle.sqlite.specs.State.{HasCleanDisk, Survives}
use Rattle.sqlite.specs.Store.{Ghosts}
use Rattle.ft_match.specs.Documents.{Document, AreDocuments}
use Rattle.ft_store.specs.Blame.{IsBlamed}
use Rattle.ft_store.specs.Calls.{Keeps}
use Rattle.ft_store.specs.Kept.{StoreState, shows, value_in, more_rows}
use Rattle.ft_content.specs.Content.{Content, IsContent}
use Rattle.ft_content.specs.Index.{index_rows}
use Rattle.ft_content.specs.Meaning.{documents_in}
use Rattle.ft_documents.specs.Tables.{table_index}

-- the documents that a table's lists mean
unfoldable pub table_documents : {S : Type 0} → Ghosts S → ℤ → StoreState S → List Document
table_documents g tab store = documents_in (table_index tab (value_in g store)).lists

-- The lists of a table can be relied on: the disk returned what was written, the store is open, and the table's index rows are those of a
-- content. So what they mean is in order, as it is of each content.
pub record AreReliable {S : Type 0} (g : Ghosts S) (tab : ℤ) (store : StoreState S) : Type 0 where
  pub clean : HasCleanDisk (shows g store)
  pub is_open : IsTrue (shows g store).is_open
  pub name : List ℕ
  pub content : Content
  pub is_content : IsContent name content
  pub index : table_index tab (value_in g store) ≡ index_rows content
  pub in_order : AreDocuments (table_documents g tab store)

-- What reads do to a store, of which the last one may be refused where `all` is false: what is seen stays, and nothing is committed. Where
-- all are answered, the store counts as many rows more as `given` grows.
pub record ReadsStore {S : Type 0} (g : Ghosts S) (old : StoreState S) (given : ℕ) (all : Bool) (new : StoreState S) (given_now : ℕ) : Type 0 where
  pub kept : HasCleanDisk (shows g new) → Keeps (shows g old) (shows g new)
  pub live : HasCleanDisk (shows g new) → IsTrue all → IsTrue (shows g new).is_open
  pub survives : Survives (shows g old) (shows g new) (λ _. IsTrue (shows g old).is_open → ⊥)
  pub counted : IsTrue all → (n : ℕ) × (new.rows_read ≡ more_rows n old) × (given_now ≡ min (given + n) (2 ^ 64 - 1))

-- Where the index rows of a table were those of a content, its lists fail only for what lies outside the store: none of them is damaged.
abbrev pub Fails : {S : Type 0} → Ghosts S → ℤ → StoreState S → Bool → StoreState S → Bool → Type 0
Fails g tab old failed new failed_now = HasCleanDisk (shows g new) → (name : List ℕ) (content : Content) → IsContent name content
    → table_index tab (value_in g old) ≡ index_rows content → failed_now ≡ true → (failed ≡ true) ⊎ IsBlamed (shows g old) (shows g new)

-- the same of one call: one that is answered has not failed
abbrev pub FailsIf : {S : Type 0} → Ghosts S → ℤ → StoreState S → Bool → Bool → StoreState S → Bool → Type 0
FailsIf g tab old failed true new failed_now = failed_now ≡ failed
FailsIf g tab old failed false new failed_now = Fails g tab old failed new failed_now

-- The index rows of a table were those of a content, and the store is up as the call ends.
pub record IsIndexed {S : Type 0} (g : Ghosts S) (tab : ℤ) (old new : StoreState S) (content : Content) : Type 0 where
  pub clean : HasCleanDisk (shows g new)
  pub is_open : IsTrue (shows g new).is_open
  pub name : List ℕ
  pub is_content : IsContent name content
  pub index : table_index tab (value_in g old) ≡ index_rows content
