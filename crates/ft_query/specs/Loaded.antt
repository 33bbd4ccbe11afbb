-- Steps. How the lists of a query's terms are asked for.
use Rattle.std.specs.Prelude.{◌≡◌, ◌+◌, ◌-◌, ◌^◌, ◌<◌, ◌||◌, min, List, map, take, length, Result, is_ok, Vec, vec_len}
use Rattle.std.specs.Borrow.{Bor}
use Rattle.ft_query.specs.declared.lists.ListFault.{ListFault}
use Rattle.ft_query.specs.declared.lists.Lists.{Ghosts}
use Rattle.ft_query.specs.declared.walk.cursor.Cursor.{Cursor}
use Rattle.ft_match.specs.declared.query.QueryTerm.{QueryTerm}
use Rattle.ft_match.specs.Documents.{Document}
use Rattle.ft_match.specs.Trees.{PlainTerm, plain_term}
use Rattle.ft_query.specs.Lists.{is_failed, Reaches, AllAnswer}
use Rattle.ft_query.specs.Cursors.{lists_kept, places_left, listed_for}

-- What calls make of the lists: clean ones were clean and mean the documents that they meant, a failure is answered, and else each became
-- what a call makes of it.
pub record AsksLists {L X : Type 0} (g : Ghosts L) (old new : L) (result : Result X ListFault) : Type 0 where
  pub clean : g.is_clean new → g.is_clean old × (g.documents new ≡ g.documents old)
  pub failed : g.has_failed new ≡ (g.has_failed old || is_failed result)
  pub becomes : Reaches g.becomes old (is_ok result) new

-- the terms that are referred to
abbrev pub plain_terms : List (Bor QueryTerm) → List PlainTerm
plain_terms terms = map (λ t. plain_term t.now) terms

-- these cursors stand before the lists that the first of these terms have in the documents
abbrev pub AreCursorsOf : List Document → List (Bor QueryTerm) → List Cursor → Type 0
AreCursorsOf documents terms cursors = map lists_kept cursors ≡ map (λ t. listed_for documents (plain_term t.now)) (take (length cursors) terms)

-- The lists are now those of these terms, each of which was asked for once for each time that it is written, and the places of each are
-- counted as given.
pub record Loads {L Z : Type 0} (g : Ghosts L) (terms : List PlainTerm) (old new : L) (cursors : Vec Cursor Z) : Type 0 where
  pub lists : g.is_clean new → map lists_kept cursors.items ≡ map (listed_for (g.documents new)) terms
  pub number : vec_len cursors ≡ length terms
  pub asked : AllAnswer g.becomes (length terms) old new
  pub given : g.is_clean new → g.given_so_far old < 2 ^ 64 → g.given_so_far new ≡ min (g.given_so_far old + places_left cursors.items) (2 ^ 64 - 1)
