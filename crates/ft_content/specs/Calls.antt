-- Steps. What calls answer that say more than one thing.
use Rattle.std.specs.Prelude.{◌≡◌, ◌≢◌, ℕ, false, List, option_map, Option, None, Some, Result, Ok, ℤ, pos, IsTrue, IfOk, IfErr, OnOk}
use Rattle.std.specs.List.{list_any, flat_map}
use Rattle.std.specs.Ordering.{int_cmp, int_eq}
use Rattle.std.specs.FinMap.Entries.{is_sorted}
use Rattle.ft_match.specs.declared.query.Query.{Query}
use Rattle.ft_match.specs.Trees.{Tree, tree_of}
use Rattle.ft_values.specs.declared.fault.Fault.{Fault}
use Rattle.ft_values.specs.declared.fault.Fault.TheVariants as faults
use Rattle.ft_values.specs.Cells.{Cell, Text}
use Rattle.ft_content.specs.Content.{Content}
use Rattle.ft_commands.specs.Command.{Match, Item}
use Rattle.ft_content.specs.Answer.{reading, offsets_cell, cells_with, item_cells}
use Rattle.ft_content.specs.Step.{Contents, is_offsets, query_fault}
use Rattle.ft_content.specs.Step.{free_id_from}
use Rattle.ft_content.specs.Views.{table_ids}

-- the query of a MATCH, or the fault that its text deserves
pub record ReadsQuery (content : Content) (name text : List ℕ) (result : Result (Option Query) Fault) : Type 0 where
  pub query : IfOk result (λ query. reading content name text ≡ Ok (option_map tree_of query))
  pub fine : OnOk result (query_fault content (Match name text) ≡ None)
  pub fault : IfErr result (λ fault. fault ≢ faults.Memory → query_fault content (Match name text) ≡ Some fault)

-- The row of a document, given its offsets: it is the one of a query which has these offsets in it (asked), and where no offsets are asked
-- for, the one of any query (unasked).
pub record IsItemRow (content : Content) (items : List Item) (document : ℤ × List Cell) (offsets : List ℕ) (row : List Cell) : Type 0 where
  pub asked : (query : Option Tree) → offsets_cell query content document ≡ Text offsets → row ≡ flat_map (item_cells query content document) items
  pub unasked : (query : Option Tree) → list_any is_offsets items ≡ false → row ≡ flat_map (item_cells query content document) items
  pub given : row ≡ flat_map (cells_with (Text offsets) content document) items

-- the least id for a new table, which none of the tables with these ids has
pub record IsFreeId (ids : List ℤ) (found : ℤ) : Type 0 where
  pub id : (contents : Contents) → table_ids contents ≡ ids → found ≡ pos (free_id_from 1 contents)
  pub free : (contents : Contents) → table_ids contents ≡ ids → IsTrue (is_sorted int_cmp contents) → list_any (int_eq found) ids ≡ false
