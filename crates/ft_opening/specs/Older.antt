-- Meaning. A store of version 2, of which an adoption makes one of version 3 (own choice).
use Rattle.std.specs.Prelude.{◌≡◌, ◌⊎◌, ℕ, ℤ, pos, [], ◌∷◌, map, take}
use Rattle.sqlite.specs.declared.types.Value.TheVariants.{Int}
use Rattle.sqlite.specs.Order.{Row, column}
use Rattle.sqlite.specs.Tree.{Trees}
use Rattle.sqlite.specs.Schema.{Schema}
use Rattle.sqlite.specs.Effect.{Database, IsDatabase}
use Rattle.sqlite_catalog.specs.Listing.{IsSound}
use Rattle.ft_opening.specs.declared.same.Layout.{Layout}
use Rattle.ft_opening.specs.declared.same.Layout.TheVariants.{Older, Present}
use Rattle.ft_store.specs.Tables.{store_schema}
use Rattle.ft_rows.specs.Store.{StoreValue}
use Rattle.ft_store.specs.Rows.{value_of}
use Rattle.ft_store.specs.Calls.{HaveOwnRowids, IsStore}

-- the tables of a store of version 2 are those of a store but for the last, `skip`
abbrev pub older_schema : Schema
older_schema = record { tables = take 7 store_schema.tables; indexes = take 6 store_schema.indexes; views = [] }

-- the tables that stores have, their number, and the version that goes with them
abbrev pub schema_of : Layout → Schema
schema_of Older = older_schema
schema_of Present = store_schema

abbrev pub tables_of : Layout → ℕ
tables_of Older = 7
tables_of Present = 8

abbrev pub version_of : Layout → ℤ
version_of Older = pos 2
version_of Present = pos 3

-- a database has the tables of a store, of version 2 or of version 3, and nothing else
abbrev pub HasStoreTables : Schema → Type 0
HasStoreTables schema = (schema ≡ store_schema) ⊎ (schema ≡ older_schema)

-- a store with these tables: nothing else is there, their rules are kept, and `meta` has one row, with their version
pub record IsStoreBy (layout : Layout) (db : Database) : Type 0 where
  pub schema : db.schema ≡ schema_of layout
  pub sound : IsDatabase db
  pub numbered : HaveOwnRowids (schema_of layout).tables db.trees
  pub marked : map (λ (r : Row). column r 2) (db.trees 0) ≡ Int (version_of layout) ∷ []

-- trees that are a store of version 2
pub record IsOlder (db : Trees) : Type 0 where
  pub sound : IsSound older_schema db
  pub numbered : HaveOwnRowids older_schema.tables db
  pub marked : map (λ (r : Row). column r 2) (db 0) ≡ Int (pos 2) ∷ []

-- what they hold: every column is indexed
abbrev pub older_value : Trees → StoreValue
older_value db = record (value_of db) { skipped = [] }

-- of a store of version 2 a store was made, which holds the same
abbrev pub IsRenewed : Database → Database → Type 0
IsRenewed old new = IsStore new × (value_of new.trees ≡ older_value old.trees)
