use Rattle.std.proofs.Common.{◌≡◌, ◌+◌, List, ◌++◌, length, map}
use Rattle.ft_query.proofs.Common.{Link, Phrase, Steps, LentPlaces, Occurrences, plain_phrase, plain_link, chain, AreLinked, TakesAtMost, terms_in, linked, linked_cost, plain_lists, last_phrase}
use Rattle.ft_query.proofs.walk.visit.linked.Given as goal

-- Behind the links that are left stand those that are done. What is found is what these link from
-- the last phrase before them on, in the lists after those that are left, and took no more steps
-- than that. The lists that are left are those of the phrases before that one.
pub record IsBack (first : Phrase) (links left : List Link) (lists front : List LentPlaces) (next : Occurrences) (rest : List Occurrences) (begun steps : Steps) : Type 0 where
  pub done : List Link
  pub behind : List LentPlaces
  pub all : left ++ done ≡ links
  pub split : front ++ behind ≡ lists
  pub each : length front + length (last_phrase first left).terms.items ≡ length (terms_in (chain (plain_phrase first) (map plain_link left)))
  pub found : AreLinked next rest (linked (plain_phrase (last_phrase first left)) (map plain_link done) (plain_lists behind))
  pub taken : TakesAtMost (linked_cost (plain_phrase (last_phrase first left)) (map plain_link done) (plain_lists behind)) begun steps

abbrev pub invariant-loop-link : goal.invariant-loop-link
invariant-loop-link l = IsBack l.near.first l.near.links.items l.left l.lists l.front l.next l.rest.items l.fn.steps l.steps

abbrev pub decreases-loop-link : goal.decreases-loop-link
decreases-loop-link l = length l.left
