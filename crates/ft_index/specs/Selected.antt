-- Steps. Rows of a Select as they are read. All of it is our own choice.
use Rattle.std.specs.Prelude.{◌≡◌, ◌&&◌, not, false, ℤ, List, [], Option}
use Rattle.std.specs.List.{list_any, flat_map}
use Rattle.sqlite.specs.Store.{Ghosts}
use Rattle.ft_match.specs.declared.hit.Hit.{Hit}
use Rattle.ft_match.specs.Trees.{Tree}
use Rattle.ft_match.specs.Occurs.{offsets_text}
use Rattle.ft_values.specs.Cells.{Cell, Text}
use Rattle.ft_store.specs.Kept.{StoreState}
use Rattle.ft_content.specs.Content.{Column, Content}
use Rattle.ft_commands.specs.Command.{Filter, Item, Items}
use Rattle.ft_content.specs.Answer.{cells_with}
use Rattle.ft_content.specs.Step.{is_match, is_offsets, items_in}
use Rattle.ft_index.specs.DocumentsRead.{HasRows}
use Rattle.ft_index.specs.Walked.{IsIndexed}
use Rattle.ft_documents.specs.Chosen.{ReadsFilterAs}

-- the row of a hit, where these are the cells of documents
abbrev pub hit_cells : List Column → List Item → (ℤ → List Cell) → Hit → List Cell
hit_cells columns items cells hit = flat_map (cells_with (Text (offsets_text hit.offsets.items)) (record { columns = columns; documents = [] })
    (hit.docid, cells hit.docid)) items

-- The rows and the index rows of a table were those of a content, and the store is up as the call ends.
pub record IsOf {S : Type 0} (g : Ghosts S) (tab : ℤ) (old new : StoreState S) (content : Content) : Type 0 where
  pub rows : HasRows g tab old new content
  pub index : IsIndexed g tab old new content

-- They were those of a content with these columns, the text of a MATCH reads as this query, and offsets are asked for with a MATCH alone.
pub record IsAsked {S : Type 0} (g : Ghosts S) (tab : ℤ) (named : List Column) (items : Items) (f : Filter) (query : Option Tree) (old new : StoreState S)
    (content : Content) : Type 0 where
  pub held : IsOf g tab old new content
  pub columns : content.columns ≡ named
  pub reads : ReadsFilterAs content f query
  pub offsets : (list_any is_offsets (items_in items) && not (is_match f)) ≡ false
