-- Steps. The tables of a store before and after they get their mark, the version.
use Rattle.std.specs.Prelude.{◌≡◌, []}
use Rattle.sqlite.specs.Effect.{Database, IsDatabase}
use Rattle.ft_store.specs.Tables.{store_schema}
use Rattle.ft_store.specs.Calls.{HaveOwnRowids}

-- the tables of a store, with their rules kept, whatever `meta` has
pub record IsTabled (db : Database) : Type 0 where
  pub schema : db.schema ≡ store_schema
  pub sound : IsDatabase db
  pub numbered : HaveOwnRowids store_schema.tables db.trees

-- the same, where `meta` has no row
pub record IsUnmarked (db : Database) : Type 0 where
  pub tabled : IsTabled db
  pub unmarked : db.trees 0 ≡ []
