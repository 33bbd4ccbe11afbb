-- Steps. The columns, tables and indexes that shapes stand for.
use Rattle.std.specs.Prelude.{◌≡◌, ℕ, ◌+◌, false, List, [], ◌∷◌, ◌++◌, codes, map, if◌then◌else◌}
use Rattle.sqlite.specs.Collation.TheVariants.{Binary}
use Rattle.sqlite.specs.declared.types.Value.TheVariants.{Null}
use Rattle.sqlite_schema.specs.declared.schema.Column.{Column}
use Rattle.sqlite.specs.Table.{Table}
use Rattle.sqlite_value.specs.declared.keys.Order.{Order}
use Rattle.sqlite_schema.specs.declared.schema.Index.{Index}
use Rattle.sqlite_sql.specs.declared.ops.BinaryOp.TheVariants.{Or, Is}
use Rattle.sqlite.specs.Term.{Term, lit, col, op2}
use Rattle.ft_opening.specs.declared.same.Field.{Field}
use Rattle.ft_opening.specs.declared.same.Shape.{Shape}
use Rattle.ft_store.specs.Tables.{a_column, a_table, key_index}

-- a column, by its shape
abbrev pub column_shaped : Field → Column
column_shaped field = a_column field.0.now field.1 field.2 field.3

-- that one of a cell's two values is NULL at least
abbrev pub cell_test : Term
cell_test = op2 Or (op2 (Is Binary) (col 1 4) (lit Null)) (op2 (Is Binary) (col 1 5) (lit Null))

abbrev pub cell_check : List Term
cell_check = cell_test ∷ []

-- the key that has an index, unless it has no place, and its order
abbrev pub uniques_of : List ℕ → List (List ℕ)
uniques_of [] = []
uniques_of (x ∷ xs) = (x ∷ xs) ∷ []

abbrev pub orders_of : List ℕ → ℕ → List Order
orders_of [] digits = []
orders_of (x ∷ xs) digits = record { digits = digits } ∷ []

-- a table, by its shape
abbrev pub table_shaped : Shape → Table
table_shaped shape =
    a_table shape.1 shape.0.now (map column_shaped shape.2.now) shape.3.0 shape.3.1.now (uniques_of shape.3.2.now) (orders_of shape.3.2.now shape.3.3)
    (if shape.4 then cell_check else [])

-- the index of a table's key, of which the tree stands after that of the table
abbrev pub index_name : List ℕ → List ℕ
index_name table = codes "sqlite_autoindex_" ++ table ++ codes "_1"

abbrev pub index_of : Shape → Index
index_of shape = key_index (index_name shape.0.now) (shape.1 + 1) shape.1 shape.3.2.now (record { digits = shape.3.3 })

-- nothing that tables of a store don't have
abbrev pub HasNoMore : Table → Type 0
HasNoMore table =
    (table.references ≡ []) × (table.computed ≡ []) × (table.stamps ≡ record { places = []; terms = []; formats = [] }) × (table.is_counted ≡ false)
