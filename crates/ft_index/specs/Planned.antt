-- Meaning. Plans over a list of tables.
use Rattle.std.specs.Prelude.{◌≡◌, ◌⊎◌, List, map, Option, Some, None, Result, Ok, Err, pos, is_some, string_bytes, Vec, IsTrue}
use Rattle.std.specs.declared.alloc.Global.{Global}
use Rattle.ft_values.specs.declared.rows.RowChange.{RowChange}
use Rattle.ft_rows.specs.Store.{StoreValue, AreInOrder, Change, AddTable}
use Rattle.ft_content.specs.Content.{names_of, skipped_from}
use Rattle.ft_rows.specs.Changes.{shown_change}
use Rattle.ft_values.specs.declared.fault.Fault.{Fault}
use Rattle.ft_values.specs.declared.fault.Fault.TheVariants as faults
use Rattle.ft_values.specs.declared.table.TableInfo.{TableInfo}
use Rattle.ft_commands.specs.declared.command.Creation.{Creation}
use Rattle.ft_commands.specs.Command.{Command}
use Rattle.ft_content.specs.Views.{shown_info, column_of}
use Rattle.ft_commands.specs.Views.{option_of, texts_of, creation_of}
use Rattle.ft_content.specs.Step.{Contents, table_named, made_columns, deserved}
use Rattle.ft_content.specs.Step.{free_id_from, made_column}
use Rattle.ft_calls.specs.Kept.{AreHeld, PlansFrom}

-- the changes of a plan as changes of the store's value
abbrev pub changes_of : Result (Vec RowChange Global) Fault → Result (List Change) Fault
changes_of (Ok list) = Ok (map shown_change list.items)
changes_of (Err fault) = Err fault

-- It is a plan whatever the store holds, as long as the tables listed are those of what it holds.
abbrev pub PlansOver : List TableInfo → Command → Result (Vec RowChange Global) Fault → Type 0
PlansOver tables command answer = (store : StoreValue) (contents : Contents) → AreInOrder store → AreHeld store (map shown_info tables) contents
    → PlansFrom contents command store (changes_of answer)

-- the table that a Create makes
pub record IsMade (contents : Contents) (creation : Creation) (made : TableInfo) : Type 0 where
  pub id : made.id ≡ pos (free_id_from 1 contents)
  pub name : string_bytes made.name ≡ string_bytes creation.table
  pub columns : map column_of made.columns.items ≡ map (made_column (map option_of creation.options.items)) (made_columns (texts_of creation.columns))
  pub sound : IsTrue made.sound

-- the row change that makes a table
abbrev pub table_change : TableInfo → Change
table_change made = AddTable made.id (string_bytes made.name) (names_of (map column_of made.columns.items)) (skipped_from 0 (map column_of made.columns.items))

-- What a Create makes: a table, or nothing where one of its name is there; or its fault.
abbrev pub PlansTable : Contents → Creation → Result (Option TableInfo) Fault → Type 0
PlansTable contents creation (Ok (Some made)) = (deserved contents (creation_of creation) ≡ None) × (table_named contents (string_bytes creation.table) ≡ None)
    × IsMade contents creation made
PlansTable contents creation (Ok None) =
    (deserved contents (creation_of creation) ≡ None) × IsTrue (is_some (table_named contents (string_bytes creation.table)))
PlansTable contents creation (Err fault) = (fault ≡ faults.Memory) ⊎ (deserved contents (creation_of creation) ≡ Some fault)
