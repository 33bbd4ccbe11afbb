-- Steps. Documents that rows of an Insert make, beside those that a table has. All of it is our own choice.
use Rattle.std.specs.Prelude.{◌≡◌, ◌⊎◌, ℤ, List, map, Some, None, IsTrue}
use Rattle.std.specs.List.{AllByRecursion}
use Rattle.std.specs.Ordering.{int_cmp}
use Rattle.std.specs.FinMap.Entries.{find, is_sorted}
use Rattle.std.specs.declared.alloc.Global.{Global}
use Rattle.std.specs.Prelude.{Vec, Result, Ok, Err}
use Rattle.ft_values.specs.declared.rows.Value.{Value}
use Rattle.ft_values.specs.Cells.{Cell}
use Rattle.ft_values.specs.declared.fault.Fault.{Fault}
use Rattle.ft_values.specs.declared.fault.Fault.TheVariants as faults
use Rattle.ft_content.specs.Content.{Documents}
use Rattle.ft_content.specs.Views.{last_docid}
use Rattle.ft_commands.specs.Views.{cells_of}
use Rattle.ft_documents.specs.declared.new_documents.NewDocuments.{NewDocuments}
use Rattle.ft_documents.specs.Rewrite.{Rewrite}
use Rattle.ft_documents.specs.RewriteRows.{all_put}

abbrev pub shown_new : ℤ × Vec Value Global → ℤ × List Cell
shown_new e = (e.0, cells_of e.1)

-- the new documents by rising docid
abbrev pub shown_documents : NewDocuments → Documents
shown_documents new = map shown_new new.documents.entries

-- a table's documents with them
abbrev pub with_new : NewDocuments → Documents → Documents
with_new new documents = all_put int_cmp (shown_documents new) documents

-- New documents for a table with these documents: none has a docid that is there, and the last docid of all is known.
pub record AreBeside (documents : Documents) (new : NewDocuments) : Type 0 where
  pub sorted : IsTrue (is_sorted int_cmp documents)
  pub rising : IsTrue (is_sorted int_cmp (shown_documents new))
  pub apart : AllByRecursion (λ (d : ℤ × List Cell). find int_cmp d.0 documents ≡ None) (shown_documents new)
  pub last : last_docid (with_new new documents) ≡ new.last

-- What comes of a row: the documents with its document, or the fault of its docid, but for want of memory.
abbrev pub Places : Documents → Result Documents Fault → NewDocuments → Result (Unit {0}) Fault → Type 0
Places documents placed new (Ok u) = AreBeside documents new × (placed ≡ Ok (with_new new documents))
Places documents placed new (Err fault) = (fault ≡ faults.Memory) ⊎ (placed ≡ Err fault)

-- the rewrite that makes a document which was not there
abbrev pub new_rewrite : ℤ × List Cell → Rewrite
new_rewrite d = record { docid = d.0; before = None; after = Some d.1 }
