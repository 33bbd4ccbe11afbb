-- Meaning. How the tables of a store stand, as they are read. All of it is our own choice.
use Rattle.std.specs.Prelude.{◌≡◌, ℕ, ℤ, List, Some, IsTrue}
use Rattle.std.specs.List.{AllZip, find}
use Rattle.std.specs.Ordering.{int_eq}
use Rattle.sqlite.specs.State.{HasCleanDisk}
use Rattle.sqlite.specs.Store.{Ghosts}
use Rattle.ft_values.specs.declared.rows.TabRow.{TabRow}
use Rattle.ft_store.specs.Kept.{StoreState, shows, value_in}
use Rattle.ft_rows.specs.Store.{StoreValue}
use Rattle.ft_rows.specs.Shown.{shown_table, table_listed}
use Rattle.ft_content.specs.Content.{TableRows}
use Rattle.ft_content.specs.Index.{IndexRows}
use Rattle.ft_content.specs.Views.{TableInfo}
use Rattle.ft_content.specs.Step.{TableState, Sound, Stale, Loose, Contents}
use Rattle.ft_index.specs.declared.row_state.RowState.{RowState}
use Rattle.ft_index.specs.declared.row_state.RowState.TheVariants as states
use Rattle.ft_index.specs.DocumentsRead.{Looks}
use Rattle.ft_calls.specs.Kept.{FullText, IsUp, Stands, StoreHolds, Holds, table_info}
use Rattle.ft_documents.specs.Tables.{table_rows, table_index}

abbrev pub state_of : TableState → RowState
state_of (Sound content) = states.Sound
state_of (Stale content) = states.Stale
state_of (Loose rows) = states.Loose

-- rows of a table stand so
pub record StandsSo (name : List ℕ) (rows : TableRows) (index : IndexRows) (state : RowState) : Type 0 where
  pub held : TableState
  pub stands : Stands name rows index held
  pub is : state ≡ state_of held

-- the rows of a table that is known stand so
abbrev pub HasState : StoreValue → TableInfo → TableState → Type 0
HasState store known held = Stands known.name (table_rows known.id store) (table_index known.id store) held

-- a table is listed as one that the store names
abbrev pub IsListed : StoreValue → ℤ × List ℕ → TabRow → Type 0
IsListed store named table = shown_table table ≡ table_listed store named

-- the table that the store names under an id
abbrev pub IsNamed : StoreValue → ℤ → ℤ × List ℕ → Type 0
IsNamed store id named = find (λ (n : ℤ × List ℕ). int_eq id n.0) store.tables ≡ Some named

-- what is known of a table that the store names says how its rows stand
pub record HasTableMark (store : StoreValue) (named : ℤ × List ℕ) (known : TableInfo) : Type 0 where
  pub held : TableState
  pub stands : Stands named.1 (table_rows named.0 store) (table_index named.0 store) held
  pub told : known ≡ table_info (named.0, record { name = named.1; held = held })

-- so it is of all tables that it names
abbrev pub AreMarked : StoreValue → List (ℤ × List ℕ) → List TableInfo → Type 0
AreMarked store named known = AllZip (HasTableMark store) named known

-- A store is taken as it is. Where it is up, what it holds are some contents, and each table has the mark that it has in them; they are the
-- only ones.
pub record OpensStore {S : Type 0} (g : Ghosts S) (old : StoreState S) (made : FullText S) : Type 0 where
  pub looks : Looks g old made.store
  pub live : HasCleanDisk (shows g made.store) → IsTrue (shows g made.store).is_open
  pub some : IsUp g made → (contents : Contents) × Holds g made contents
  pub marks : IsUp g made → (contents : Contents) → StoreHolds (value_in g old) contents → Holds g made contents

-- A store that holds contents is opened with the marks that they give its tables.
abbrev pub OpensWhatIsLeft : {S : Type 0} → Ghosts S → Type 0
OpensWhatIsLeft {S} g = (left : StoreValue) (contents : Contents) → StoreHolds left contents → (old : StoreState S) (made : FullText S)
    → value_in g old ≡ left → OpensStore g old made → IsUp g made → Holds g made contents
