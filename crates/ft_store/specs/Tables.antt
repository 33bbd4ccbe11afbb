-- Meaning. The tables of a store (our own choice), as their texts define them. `meta` has one row with the version, which is 3; `tab` and
-- `col` have the tables and their columns, `skip` the columns that aren't indexed, `cell` the contents, `posting` the packed list of each
-- term in each document, `sizes` the number of tokens of each cell that has some, `noted` the noted names.
use Rattle.std.specs.Prelude.{ℕ, Bool, true, false, List, [], ◌∷◌, Option, Some, None, codes}
use Rattle.sqlite.specs.Collation.{Collation}
use Rattle.sqlite.specs.Collation.TheVariants.{Binary, NoCase}
use Rattle.sqlite.specs.declared.types.Value.TheVariants.{Null}
use Rattle.sqlite.specs.Kind.{Kind}
use Rattle.sqlite.specs.Kind.TheVariants.{Integer, Text, Blob}
use Rattle.sqlite_schema.specs.declared.schema.Column.{Column}
use Rattle.sqlite.specs.Table.{Table}
use Rattle.sqlite_schema.specs.declared.schema.Index.{Index}
use Rattle.sqlite_value.specs.declared.keys.Order.{Order}
use Rattle.sqlite.specs.Schema.{Schema}
use Rattle.sqlite_sql.specs.declared.ops.BinaryOp.TheVariants.{Or, Is}
use Rattle.sqlite.specs.Term.{Term, lit, col, op2}

abbrev pub a_column : List ℕ → Kind → Bool → Collation → Column
a_column name kind not_null collation = record { name = name; kind = kind; is_strict = true; not_null = not_null; default = Null; collation = collation }

abbrev pub int_column : List ℕ → Column
int_column name = a_column name Integer true Binary

abbrev pub plain_order : Order
plain_order = record { digits = 0 }

abbrev pub case_order : Order
case_order = record { digits = 2 }

-- a table with its tree, its columns and its key
abbrev pub a_table : ℕ → List ℕ → List Column → Option ℕ → List ℕ → List (List ℕ) → List Order → List Term → Table
a_table tree name columns key primary uniques orders checks = record {
  name = name;
  tree = tree;
  columns = columns;
  key = key;
  primary = primary;
  uniques = uniques;
  orders = orders;
  checks = checks;
  references = [];
  computed = [];
  stamps = record { places = []; terms = []; formats = [] };
  is_counted = false;
}

-- a table whose key is the first columns
abbrev pub keyed_table : ℕ → List ℕ → List Column → List ℕ → List Term → Table
keyed_table tree name columns key checks = a_table tree name columns None key (key ∷ []) (plain_order ∷ []) checks

abbrev pub meta_table : ℕ → Table
meta_table tree = a_table tree (codes "meta") (a_column (codes "one") Integer false Binary ∷ int_column (codes "version") ∷ []) (Some 0) (0 ∷ []) [] [] []

abbrev pub tab_table : ℕ → Table
tab_table tree =
    a_table tree (codes "tab") (a_column (codes "id") Integer false Binary ∷ a_column (codes "name") Text true NoCase ∷ []) (Some 0) (0 ∷ [])
    ((2 ∷ []) ∷ []) (case_order ∷ []) []

abbrev pub col_table : ℕ → Table
col_table tree =
    keyed_table tree (codes "col") (int_column (codes "tab") ∷ int_column (codes "col") ∷ a_column (codes "name") Text true Binary ∷ []) (1 ∷ 2 ∷ []) []

abbrev pub cell_table : ℕ → Table
cell_table tree = keyed_table tree (codes "cell")
    (int_column (codes "tab") ∷ int_column (codes "docid") ∷ int_column (codes "col")
    ∷ a_column (codes "num") Integer false Binary ∷ a_column (codes "txt") Text false Binary ∷ [])
    (1 ∷ 2 ∷ 3 ∷ []) (op2 Or (op2 (Is Binary) (col 1 4) (lit Null)) (op2 (Is Binary) (col 1 5) (lit Null)) ∷ [])

abbrev pub posting_table : ℕ → Table
posting_table tree = keyed_table tree (codes "posting")
    (int_column (codes "tab") ∷ a_column (codes "term") Text true Binary ∷ int_column (codes "docid") ∷ a_column (codes "list") Blob true Binary ∷ [])
    (1 ∷ 2 ∷ 3 ∷ []) []

abbrev pub sizes_table : ℕ → Table
sizes_table tree =
    keyed_table tree (codes "sizes")
    (int_column (codes "tab") ∷ int_column (codes "docid") ∷ int_column (codes "col") ∷ int_column (codes "n") ∷ [])
    (1 ∷ 2 ∷ 3 ∷ []) []

abbrev pub noted_table : ℕ → Table
noted_table tree = a_table tree (codes "noted") (a_column (codes "name") Text true NoCase ∷ []) None (1 ∷ []) ((1 ∷ []) ∷ []) (case_order ∷ []) []

abbrev pub skip_table : ℕ → Table
skip_table tree = keyed_table tree (codes "skip") (int_column (codes "tab") ∷ int_column (codes "col") ∷ []) (1 ∷ 2 ∷ []) []

-- the index that a key makes
abbrev pub key_index : List ℕ → ℕ → ℕ → List ℕ → Order → Index
key_index name tree table columns order = record { name = name; tree = tree; table = table; columns = columns; order = order; is_unique = true }

abbrev pub store_schema : Schema
store_schema = record {
  tables = meta_table 0 ∷ tab_table 1 ∷ col_table 3 ∷ cell_table 5 ∷ posting_table 7 ∷ sizes_table 9 ∷ noted_table 11 ∷ skip_table 13 ∷ [];
  indexes =
      key_index (codes "sqlite_autoindex_tab_1") 2 1 (2 ∷ []) case_order
      ∷ key_index (codes "sqlite_autoindex_col_1") 4 3 (1 ∷ 2 ∷ []) plain_order
      ∷ key_index (codes "sqlite_autoindex_cell_1") 6 5 (1 ∷ 2 ∷ 3 ∷ []) plain_order
      ∷ key_index (codes "sqlite_autoindex_posting_1") 8 7 (1 ∷ 2 ∷ 3 ∷ []) plain_order
      ∷ key_index (codes "sqlite_autoindex_sizes_1") 10 9 (1 ∷ 2 ∷ 3 ∷ []) plain_order
      ∷ key_index (codes "sqlite_autoindex_noted_1") 12 11 (1 ∷ []) case_order
      ∷ key_index (codes "sqlite_autoindex_skip_1") 14 13 (1 ∷ 2 ∷ []) plain_order ∷ [];
  views = [];
}
