-- Meaning. Tables and contents as the definitions see them.
use Rattle.std.specs.Prelude.{ℕ, ℤ, Bool, List, [], ◌∷◌, map, Option, Some, None, Result, Ok, Err, string_bytes}
use Rattle.std.specs.Ordering.{int_cmp}
use Rattle.std.specs.FinMap.Entries.{put}
use Rattle.ft_values.specs.Cells.{Cell}
use Rattle.ft_values.specs.declared.fault.Fault.{Fault}
use Rattle.ft_values.specs.declared.table.Column.{Column}
use Rattle.ft_values.specs.declared.table.TableInfo.{TableInfo as RustTableInfo}
pub use Rattle.ft_values.specs.Names.{info_names, info_ids}
use Rattle.ft_content.specs.Content as content
use Rattle.ft_content.specs.Step.{Contents}

abbrev pub column_of : Column → content.Column
column_of c = record { name = string_bytes c.name; indexed = c.indexed }

-- a content of these columns without documents, as a test sees it that looks at columns alone
abbrev pub bare_content : List Column → content.Content
bare_content columns = record { columns = map column_of columns; documents = [] }

-- the docid of the last document
abbrev pub last_docid : content.Documents → Option ℤ
last_docid [] = None
last_docid (d ∷ []) = Some d.0
last_docid (d ∷ e ∷ documents) = last_docid (e ∷ documents)

-- the documents with a new one under the docid that was found for it
abbrev pub placed : content.Documents → List Cell → Result ℤ Fault → Result content.Documents Fault
placed documents cells (Ok docid) = Ok (put int_cmp docid cells documents)
placed documents cells (Err fault) = Err fault

-- the names and the ids of tables
abbrev pub table_names : Contents → List (List ℕ)
table_names contents = map (λ t. t.1.name) contents

abbrev pub table_ids : Contents → List ℤ
table_ids contents = map (λ t. t.0) contents

-- what is known of a table without its rows
pub record TableInfo : Type 0 where
  pub id : ℤ
  pub name : List ℕ
  pub columns : List content.Column
  pub sound : Bool

abbrev pub shown_info : RustTableInfo → TableInfo
shown_info info = record { id = info.id; name = string_bytes info.name; columns = map column_of info.columns.items; sound = info.sound }
