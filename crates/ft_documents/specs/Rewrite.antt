-- Meaning. Documents that are written anew, and what row changes of them do. All of it is our own choice.
use Rattle.std.specs.Prelude.{◌≡◌, ℕ, ◌+◌, ◌-◌, ◌<◌, ℤ, List, [], ◌∷◌, map, length, take, sum_by, All}
use Rattle.std.specs.Prelude.{Option, Some, None, option_map, IsTrue, IfSome}
use Rattle.std.specs.List.{flat_map}
use Rattle.std.specs.Ordering.{int_cmp}
use Rattle.std.specs.FinMap.Entries.{put, find, is_sorted}
use Rattle.ft_rows.specs.Packed.{CanPack}
use Rattle.ft_values.specs.Cells.{Cell, Null, Int, Text}
use Rattle.ft_rows.specs.Store.{StoreValue, AreInOrder, Change}
use Rattle.ft_rows.specs.Store.{PutEntries, all_applied}
use Rattle.ft_content.specs.Content.{Column, Documents, Content, IsContent, content_rows, is_document}
use Rattle.ft_content.specs.Index.{index_rows}
use Rattle.ft_content.specs.Step.{without_docid}
use Rattle.ft_commands.specs.Views.{cells_of}
use Rattle.ft_documents.specs.declared.rewrite.Rewrite as source
use Rattle.ft_documents.specs.Tables.{table_rows, table_index}

-- a document that is written anew: the cells that it had, if it was there, and those that it gets, if it stays
pub record Rewrite : Type 0 where
  pub docid : ℤ
  pub before : Option (List Cell)
  pub after : Option (List Cell)

abbrev pub shown_rewrite : source.Rewrite → Rewrite
shown_rewrite r = record { docid = r.docid; before = option_map cells_of r.before; after = option_map cells_of r.after }

-- the rewrite that removes a document
abbrev pub removal : ℤ × List Cell → Rewrite
removal d = record { docid = d.0; before = Some d.1; after = None }

abbrev pub with_cells : ℤ → Option (List Cell) → Documents → Documents
with_cells docid None documents = without_docid docid documents
with_cells docid (Some cells) documents = put int_cmp docid cells documents

-- the documents after rewrites, one after another
abbrev pub rewritten : List Rewrite → Documents → Documents
rewritten [] documents = documents
rewritten (r ∷ rs) documents = rewritten rs (with_cells r.docid r.after documents)

abbrev pub document_if : ℤ → Option (List Cell) → Documents
document_if docid None = []
document_if docid (Some cells) = (docid, cells) ∷ []

-- the documents as they were, and as they are to be
abbrev pub befores : List Rewrite → Documents
befores rewrites = flat_map (λ (r : Rewrite). document_if r.docid r.before) rewrites

abbrev pub afters : List Rewrite → Documents
afters rewrites = flat_map (λ (r : Rewrite). document_if r.docid r.after) rewrites

-- rewrites under their docids
abbrev pub under_docids : List Rewrite → List (ℤ × Rewrite)
under_docids rewrites = map (λ (r : Rewrite). (r.docid, r)) rewrites

abbrev pub rewritten_docids : List Rewrite → List ℤ
rewritten_docids rewrites = map (λ (r : Rewrite). r.docid) rewrites

-- cells that a document of a table with this many columns may have
abbrev pub FitIfAny : ℕ → Rewrite → Type 0
FitIfAny width r = IfSome r.after (λ cells. IsTrue (is_document width (r.docid, cells)))

-- Rewrites of a content by rising docid: each knows what its document was, and makes a document of it.
pub record AreOf (content : Content) (rewrites : List Rewrite) : Type 0 where
  pub rising : IsTrue (is_sorted int_cmp (under_docids rewrites))
  pub befores : All (λ (r : Rewrite). r.before ≡ find int_cmp r.docid content.documents) rewrites
  pub afters : All (FitIfAny (length content.columns)) rewrites

-- A store has a content's rows and index rows in one table.
pub record HasContent (name : List ℕ) (content : Content) (tab : ℤ) (store : StoreValue) : Type 0 where
  pub order : AreInOrder store
  pub is_content : IsContent name content
  pub rows : table_rows tab store ≡ content_rows content
  pub index : table_index tab store ≡ index_rows content

abbrev pub rewritten_content : List Rewrite → Content → Content
rewritten_content rewrites content = record content { documents = rewritten rewrites content.documents }

-- Row changes of rewrites are right: they lead to the rows and the index rows made from scratch out of the new content.
abbrev pub AreRight : ℤ → List Column → List Rewrite → List Change → Type 0
AreRight tab columns rewrites changes = (name : List ℕ) (content : Content) (store : StoreValue) → HasContent name content tab store
    → content.columns ≡ columns → AreOf content rewrites →
    (table_rows tab (all_applied changes store) ≡ content_rows (rewritten_content rewrites content))
    × (table_index tab (all_applied changes store) ≡ index_rows (rewritten_content rewrites content))

-- the bytes of a cell's text
abbrev pub cell_bytes : Cell → ℕ
cell_bytes Null = 0
cell_bytes (Int n) = 0
cell_bytes (Text text) = length text

-- the bytes of text of a document, if there is one
abbrev pub text_bytes : Option (List Cell) → ℕ
text_bytes None = 0
text_bytes (Some cells) = sum_by cell_bytes cells

-- the bytes of text that a rewrite takes away and puts
abbrev pub rewrite_bytes : Rewrite → ℕ
rewrite_bytes r = text_bytes r.before + text_bytes r.after

-- A group is small: without its last document it has less than 524,288 bytes of text.
abbrev pub IsSmall : List Rewrite → Type 0
IsSmall group = sum_by rewrite_bytes (take (length group - 1) group) < 524288

-- places that are put can be packed
abbrev pub IsPackable : Change → Type 0
IsPackable (PutEntries tab term docid spots) = CanPack spots
IsPackable _ = Unit {0}
