-- Steps. What a filter chooses, as hits ("The Offsets Function").
use Rattle.std.specs.Prelude.{◌≡◌, ◌<◌, ℤ, Bool, if◌then◌else◌, List, [], ◌++◌, map, Option, None, Result, IfOk, IfSome}
use Rattle.std.specs.declared.alloc.AllocError.{AllocError}
use Rattle.std.specs.Option.{option_map_or}
use Rattle.ft_match.specs.declared.hit.Hit.{Hit}
use Rattle.ft_match.specs.Documents.{Document}
use Rattle.ft_match.specs.Trees.{Tree, tree_of}
use Rattle.ft_match.specs.Occurs.{PlainHit, offsets_of, hits_of}
use Rattle.ft_query.specs.Walk.{Walk, StandsBefore, lists_to_come, hit_list}
use Rattle.ft_values.specs.Cells.{Cell}
use Rattle.ft_content.specs.Content.{Content}
use Rattle.ft_content.specs.Index.{document_postings}
use Rattle.ft_commands.specs.Command.{Filter}
use Rattle.ft_content.specs.Answer.{query_in, chosen}

-- a document with the offsets of the query, none where there is no query
abbrev pub hit_read : Content → Option Tree → ℤ × List Cell → PlainHit
hit_read content query document = record { docid = document.0; offsets = option_map_or (offsets_of (document_postings content.columns document.1)) query [] }

-- the documents that a filter chooses, each with its offsets
abbrev pub chosen_hits : Content → Filter → List PlainHit
chosen_hits content f = map (hit_read content (query_in content f)) (chosen content f)

-- a hit with its offsets where they are wanted, else with none
abbrev pub as_wanted : Bool → PlainHit → PlainHit
as_wanted wanted hit = record { docid = hit.docid; offsets = if wanted then hit.offsets else [] }

-- From before these documents the walk went on to stand before the rest, with this hit between, with its offsets if they are wanted.
-- Without one there is no rest.
pub record TellsHit (wanted : Bool) (old new : Walk) (hit : Option Hit) (documents : List Document) : Type 0 where
  pub rest : List Document
  pub stands : StandsBefore new rest
  pub hits_are : map (as_wanted wanted) (hits_of (tree_of old.query) documents) ≡ hit_list hit ++ map (as_wanted wanted) (hits_of (tree_of old.query) rest)
  pub ended : hit ≡ None → rest ≡ []

-- what a look for the next hit makes of a walk, which passes a list at least where it finds one
pub record TellsNext (wanted : Bool) (old new : Walk) (result : Result (Option Hit) AllocError) : Type 0 where
  pub told : IfOk result (λ hit. (documents : List Document) → StandsBefore old documents → TellsHit wanted old new hit documents)
  pub passes : IfOk result (λ hit. IfSome hit (λ _. lists_to_come new < lists_to_come old))
  pub query : new.query ≡ old.query
