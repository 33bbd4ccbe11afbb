-- Steps. The rewrites of an Update. All of it is our own choice.
use Rattle.std.specs.Prelude.{◌≡◌, ℤ, ℕ, if◌then◌else◌, List, [], ◌∷◌, ◌++◌, Option, Some, None}
use Rattle.std.specs.Ordering.{int_cmp, int_eq, is_lt}
use Rattle.ft_values.specs.Cells.{Cell}
use Rattle.ft_content.specs.Content.{Column, Content}
use Rattle.ft_commands.specs.Command.{Filter}
use Rattle.ft_content.specs.Answer.{chosen}
use Rattle.ft_content.specs.Step.{docids_named, with_values}
use Rattle.ft_content.specs.Step.{docids_of, docid_if_any}
use Rattle.ft_documents.specs.Rewrite.{Rewrite}

-- the rewrite that sets values of a document
abbrev pub changing : List (List ℕ × Cell) → List Column → ℤ × List Cell → Rewrite
changing sets columns d = record { docid = d.0; before = Some d.1; after = Some (with_values sets columns d.1) }

-- what leaves the docid that a document had, and what comes under another
abbrev pub leaving : Rewrite → Rewrite
leaving r = record { docid = r.docid; before = r.before; after = None }

abbrev pub coming : Rewrite → ℤ → Rewrite
coming r docid = record { docid = docid; before = None; after = r.after }

-- the rewrites of a document that gets this docid, by rising docid
abbrev pub moved_from : Rewrite → ℤ → List Rewrite
moved_from r docid = if int_eq r.docid docid then (r ∷ [])
    else (if is_lt (int_cmp r.docid docid) then (leaving r ∷ coming r docid ∷ []) else (coming r docid ∷ leaving r ∷ []))

-- Where one rewrite alone is there, its document gets this docid.
pub record MovesOnly (docid : ℤ) (old new : List Rewrite) : Type 0 where
  pub none : old ≡ [] → new ≡ []
  pub only : (r : Rewrite) → old ≡ r ∷ [] → new ≡ moved_from r docid

-- The rewrites after at most one document got the docid that may be given.
abbrev pub MayMove : Option ℤ → List Rewrite → List Rewrite → Type 0
MayMove None changed rewrites = rewrites ≡ changed
MayMove (Some docid) [] rewrites = rewrites ≡ []
MayMove (Some docid) (r ∷ []) rewrites = rewrites ≡ moved_from r docid
MayMove (Some docid) (r ∷ s ∷ rs) rewrites = Unit {0}

-- the docids of the documents that an Update changes
abbrev pub update_touches : Content → List (List ℕ × Cell) → Filter → List ℤ
update_touches content sets f = docids_of (chosen content f) ++ docid_if_any (chosen content f) (docids_named sets)
