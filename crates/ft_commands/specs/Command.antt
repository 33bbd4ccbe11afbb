-- Meaning. Commands on full-text tables and their replies: "Creating and Destroying FTS Tables", "Populating FTS Tables", "Simple FTS
-- Queries", and "Special Commands For FTS3 and FTS4". Texts are lists of bytes here.
use Rattle.std.specs.Prelude.{ℕ, Bool, List, Option, ℤ}
use Rattle.ft_values.specs.Cells.{Cell}

-- all documents, the one with this docid, or those that a query on a table or a column accepts
pub data Filter : Type 0 where
  All : Filter
  Docid : (docid : ℤ) → Filter
  Match : (name query : List ℕ) → Filter

-- all columns, a column or docid, or the offsets of the filter's query
pub data Item : Type 0 where
  AllColumns : Item
  Named : (name : List ℕ) → Item
  OffsetsOf : (name : List ℕ) → Item

pub data Items : Type 0 where
  Counted : Items
  Listed : (items : List Item) → Items

-- an option is a name and a value; `sets` are columns with their new values
pub data Command : Type 0 where
  Create : (table module_name : List ℕ) → (options : List (List ℕ × List ℕ)) → (columns : List (List ℕ)) → (if_new : Bool) → Command
  Drop : (table : List ℕ) → (if_there : Bool) → Command
  Insert : (table : List ℕ) → (columns : Option (List (List ℕ))) → (rows : List (List Cell)) → Command
  Update : (table : List ℕ) → (sets : List (List ℕ × Cell)) → (filter : Filter) → Command
  Delete : (table : List ℕ) → (filter : Filter) → Command
  Select : (table : List ℕ) → (items : Items) → (filter : Filter) → (limit : Option ℕ) → (offset : ℕ) → Command
  Rebuild : (table : List ℕ) → Command
  Check : (table : List ℕ) → Command
  Optimize : (table : List ℕ) → Command

-- names of columns, and rows with a cell under each
pub record Grid : Type 0 where
  pub names : List (List ℕ)
  pub rows : List (List Cell)

pub data Reply : Type 0 where
  Done : Reply
  Rows : (grid : Grid) → Reply

-- the arguments of `.import`: whether a comma parts fields, how many records are skipped, and a file's and a table's name
pub record Import : Type 0 where
  pub csv : Bool
  pub skip : Option ℕ
  pub file : List ℕ
  pub table : List ℕ
