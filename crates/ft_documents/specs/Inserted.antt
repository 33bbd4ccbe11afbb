-- Steps. The rows of an Insert, as documents beside those that a table has. All of it is our own choice.
use Rattle.std.specs.Prelude.{◌≡◌, ◌⊎◌, ℕ, Bool, false, List, map, slice_get, unwrap_or, IfSome, Some, None, Result, Ok, Err, IsTrue, Vec}
use Rattle.std.specs.declared.alloc.Global.{Global}
use Rattle.std.specs.List.{AllByRecursion}
use Rattle.std.specs.Ordering.{int_cmp}
use Rattle.std.specs.FinMap.Entries.{find, is_sorted}
use Rattle.ft_values.specs.Cells.{Cell}
use Rattle.ft_values.specs.declared.fault.Fault.{Fault}
use Rattle.ft_values.specs.declared.fault.Fault.TheVariants as faults
use Rattle.ft_content.specs.Content.{Documents}
use Rattle.ft_content.specs.Step.{docids_named, has_docid}
use Rattle.ft_documents.specs.declared.rewrite.Rewrite as source
use Rattle.ft_documents.specs.Rewrite.{Rewrite, shown_rewrite, under_docids, rewritten}

-- Of each row it is known whether a document has the docid that the row gives.
abbrev pub AreKnown : Documents → List (List (List ℕ × Cell)) → List Bool → Type 0
AreKnown documents rows stored = (k : ℕ) (values : List (List ℕ × Cell)) → slice_get rows k ≡ Some values
    → IfSome (slice_get (docids_named values) 0) (λ docid. has_docid documents docid ≡ unwrap_or (slice_get stored k) false)

-- a rewrite makes a document where none was
abbrev pub IsNewIn : Documents → Rewrite → Type 0
IsNewIn documents r = (find int_cmp r.docid documents ≡ None) × ((cells : List Cell) × (r.after ≡ Some cells))

-- The rewrites of an Insert: by rising docid, each of a document that was not there, and together they make the documents of its rows.
pub record AreInserts (documents : Documents) (rewrites : List Rewrite) (inserted : Result Documents Fault) : Type 0 where
  pub rising : IsTrue (is_sorted int_cmp (under_docids rewrites))
  pub befores : AllByRecursion (λ (r : Rewrite). r.before ≡ find int_cmp r.docid documents) rewrites
  pub news : AllByRecursion (IsNewIn documents) rewrites
  pub made : inserted ≡ Ok (rewritten rewrites documents)

-- What comes of rows: the rewrites that make their documents, or the fault of the first row that fails, but for want of memory.
abbrev pub MakesDocuments : Documents → Result Documents Fault → Result (Vec source.Rewrite Global) Fault → Type 0
MakesDocuments documents inserted (Ok rewrites) = AreInserts documents (map shown_rewrite rewrites.items) inserted
MakesDocuments documents inserted (Err fault) = (fault ≡ faults.Memory) ⊎ (inserted ≡ Err fault)
