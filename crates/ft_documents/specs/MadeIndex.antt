-- Steps. What calls make of an index that is kept in memory, its lists and its sizes together. All of it is our own choice.
use Rattle.std.specs.Prelude.{◌≡◌, ◌<◌, ◌^◌, ℕ, ℤ, List, length, All}
use Rattle.ft_values.specs.Cells.{Cell}
use Rattle.ft_match.specs.declared.text.Token.{Token}
use Rattle.ft_match.specs.Tokens.{tokens_of}
use Rattle.ft_rows.specs.Store.{column_key_cmp}
use Rattle.ft_content.specs.Content.{Column, Documents, cell_text}
use Rattle.ft_content.specs.Index.{Key, Spot}
use Rattle.ft_documents.specs.declared.document_index.DocumentIndex.{DocumentIndex}
use Rattle.ft_documents.specs.RewriteRows.{lists_joined_by, sizes_with, index_lists_of, sizes_of, with_entries}
use Rattle.ft_documents.specs.RewriteRows.{cell_entries, cell_sizes, sized, all_put, IsShortNumber, AreShortNumbers}
use Rattle.ft_documents.specs.Terms.{lists_in_groups}

-- an index that is kept in memory: its lists, and its sizes
abbrev pub lists_in : DocumentIndex → List (Key × List Spot)
lists_in index = lists_in_groups index.terms.entries

abbrev pub sizes_in : DocumentIndex → List ((ℤ × ℤ) × ℤ)
sizes_in index = index.sizes.entries

-- an index has these lists and these sizes
pub record Shows (index : DocumentIndex) (its_lists : List (Key × List Spot)) (its_sizes : List ((ℤ × ℤ) × ℤ)) : Type 0 where
  pub lists : lists_in index ≡ its_lists
  pub sizes : sizes_in index ≡ its_sizes

-- the numbers of documents are short, where their columns are indexed
abbrev pub HaveShortNumbers : List Column → Documents → Type 0
HaveShortNumbers columns documents = All (λ (d : ℤ × List Cell). AreShortNumbers columns d.1) documents

-- the lists and sizes of documents join those of an index
pub record AddsDocuments (columns : List Column) (documents : Documents) (old new : DocumentIndex) : Type 0 where
  pub lists : lists_in new ≡ lists_joined_by columns documents (lists_in old)
  pub sizes : sizes_in new ≡ sizes_with columns documents (sizes_in old)
  pub numbers : HaveShortNumbers columns documents

-- an index is that of documents
pub record IsIndexOf (columns : List Column) (documents : Documents) (index : DocumentIndex) : Type 0 where
  pub lists : lists_in index ≡ index_lists_of columns documents
  pub sizes : sizes_in index ≡ sizes_of columns documents
  pub numbers : HaveShortNumbers columns documents

-- the tokens of an indexed cell join an index, with the cell's size
pub record AddsCell (docid : ℤ) (place : ℕ) (cell : Cell) (old new : DocumentIndex) : Type 0 where
  pub lists : lists_in new ≡ with_entries (cell_entries docid place (tokens_of (cell_text cell))) (lists_in old)
  pub sizes : sizes_in new ≡ all_put column_key_cmp (sized (cell_sizes docid place (length (tokens_of (cell_text cell))))) (sizes_in old)
  pub number : IsShortNumber cell

-- where a token of a column stands
abbrev pub token_spot : ℕ → Token → Spot
token_spot column t = record { column = column; pos = t.pos; place = t.start; size = t.size }

-- bytes are the text of a cell, and no more than memory has
pub record IsTextOf (cell : Cell) (bytes : List ℕ) : Type 0 where
  pub text : bytes ≡ cell_text cell
  pub short : length bytes < 2 ^ 63
  pub number : IsShortNumber cell
