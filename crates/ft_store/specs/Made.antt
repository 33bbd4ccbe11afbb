-- Steps. How the tables of a store are made.
use Rattle.std.specs.Prelude.{◌≡◌, None, Result, Ok, Err, ℕ, ◌+◌, ◌-◌, ◌*◌, ◌^◌, ◌<◌, ◌&&◌, Bool, true, false, not, nat_lt, nat_eq}
use Rattle.std.specs.Prelude.{List, [], length, take, codes, IsTrue, IsUtf8, OnOk}
use Rattle.std.specs.List.{AllByRecursion}
use Rattle.sqlite.specs.declared.types.Value.TheVariants.{Text}
use Rattle.sqlite.specs.Tree.{Trees}
use Rattle.sqlite.specs.Schema.{Schema}
use Rattle.sqlite.specs.Table.{Table}
use Rattle.sqlite.specs.Listing.{understood}
use Rattle.sqlite.specs.Command.{Command}
use Rattle.sqlite.specs.Command.TheVariants.{CreateTable, Nothing}
use Rattle.sqlite.specs.Compile.{table_defined_by}
use Rattle.sqlite.specs.Change.{created, next_tree}
use Rattle.sqlite_catalog.specs.Change.{is_used, is_reserved, automatics}
use Rattle.sqlite_catalog.specs.Listing.{is_formed, is_fit}
use Rattle.sqlite_schema.specs.Rules.{table_reals, index_reals}
use Rattle.sqlite.specs.Does.{lacks_sequence}
use Rattle.sqlite.specs.Given.{IsPlain}
use Rattle.sqlite_resolve.specs.declared.compiled.Compiled.{Compiled}
use Rattle.sqlite_resolve.specs.declared.error.CompileError.{CompileError}
use Rattle.sqlite.specs.State.{text_of, HasCleanDisk, Shows}
use Rattle.sqlite.specs.Store.{Ghosts}
use Rattle.sqlite.specs.Held.{Held, state}
use Rattle.ft_store.specs.declared.fault.StoreFault.{StoreFault}
use Rattle.sqlite.specs.Effect.{Database, IsDatabase, IsShown}
use Rattle.sqlite.specs.Order.{Row}
use Rattle.sqlite.specs.Query.{Query}
use Rattle.ft_store.specs.Tables.{store_schema}

abbrev pub compiled_command : Result Compiled CompileError → Command
compiled_command (Ok c) = c.command
compiled_command (Err e) = Nothing

abbrev pub statement_of : List ℕ → Result Compiled CompileError → List ℕ
statement_of sql (Ok c) = text_of sql c
statement_of sql (Err e) = []

-- the text is all of one statement with so many parameters
abbrev pub is_whole : List ℕ → ℕ → Result Compiled CompileError → Bool
is_whole sql count (Ok c) = not (nat_lt c.tail (length sql)) && nat_eq count (length c.names)
is_whole sql count (Err e) = false

-- the values that are bound to the query are of types that it takes
abbrev pub IsTypedIn : Schema → Query → Row → Type 0
IsTypedIn schema q params = (db : Database) → db.schema ≡ schema → ¬ IsShown (λ (r : Row). r) db (record { lets = []; body = q }) params None

-- the tables of the schema have no row
abbrev pub AreEmpty : Schema → Trees → Type 0
AreEmpty schema db = AllByRecursion (λ t. db t.tree ≡ []) schema.tables

pub record IsEmptyOf (s : Schema) (db : Database) : Type 0 where
  pub schema : db.schema ≡ s
  pub empty : AreEmpty s db.trees
  pub sound : IsDatabase db

-- under this schema the text makes this table
pub record MakesTableOf (schema : Schema) (text : List ℕ) (table : Table) : Type 0 where
  pub command : compiled_command (understood schema text) ≡ CreateTable
  pub plain : IsPlain (understood schema text)
  pub whole : statement_of text (understood schema text) ≡ text
  pub defined : table_defined_by text ≡ Ok table
  pub uncounted : lacks_sequence (created schema table) ≡ false

-- no test of the engine refuses the table that the text makes
pub record IsAllowed (schema : Schema) (text : List ℕ) (table : Table) : Type 0 where
  pub whole : is_whole text 0 (understood schema text) ≡ true
  pub utf8 : IsUtf8 text × IsUtf8 table.name
  pub free : is_used schema table.name ≡ false
  pub indexes : AllByRecursion (λ i. is_used schema i.name ≡ false) (automatics table 0 0 table.uniques)
  pub unreserved : is_reserved table.name ≡ false
  pub formed : is_formed table ≡ true
  pub fits : is_fit (Text (codes "table")) (Text table.name) (Text table.name) (Text text) ≡ true
  pub room : next_tree schema + length table.uniques < 65536
  pub reals : table_reals table < 2 ^ 64
  pub key_reals : AllByRecursion (λ key. index_reals (table_reals table) key < 2 ^ 64) table.uniques
  pub short : 2 * length table.name + length text + 200 < 10 ^ 9

-- so many of a store's tables, from the first on, with their indexes
abbrev pub first_tables : ℕ → Schema
first_tables n = record { tables = take n store_schema.tables; indexes = take (n - 1) store_schema.indexes; views = [] }

-- in a database with so many of a store's tables the text makes the next one
pub record MakesNext (made : ℕ) (text : List ℕ) : Type 0 where
  pub table : Table
  pub makes : MakesTableOf (first_tables made) text table
  pub allowed : IsAllowed (first_tables made) text table
  pub next : created (first_tables made) table ≡ first_tables (made + 1)

-- What an answer of Ok means in a transaction where the disk returned what was written: of a database with the one property the statements
-- made one with the other, and nothing is committed.
abbrev pub MakesOnOk : {S : Type 0} → Ghosts S → Held S → Held S → Result (Unit {0}) StoreFault → (Database → Type 0) → (Database → Database → Type 0) → Type 0
MakesOnOk g old new result Before After =
    HasCleanDisk (state g new) → IsTrue (state g old).in_transaction → (IsTrue (state g old).is_open → Before (state g old).now)
    → OnOk result (After (state g old).now (state g new).now × Shows (state g old) (state g new) (state g new).now (state g old).committed true)
