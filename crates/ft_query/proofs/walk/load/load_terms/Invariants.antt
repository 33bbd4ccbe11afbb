use Rattle.std.proofs.Common.{◌≡◌, true, ◌+◌, ◌-◌, ◌^◌, ◌<◌, min, vec_len}
use Rattle.ft_query.proofs.Common.{Reaches, AllAnswer, AreCursorsOf, places_left}
use Rattle.ft_query.proofs.walk.load.load_terms.Given as goal

-- the lists of the terms so far
abbrev pub invariant-loop-term : goal.invariant-loop-term
invariant-loop-term g l =
    let is_clean = g.L.Lists.is_clean in
    let documents = g.L.Lists.documents in
    let given = g.L.Lists.given_so_far in
    record {
      lists : is_clean l.lists → AreCursorsOf (documents l.lists) l.terms l.cursors.items;
      number : vec_len l.cursors ≡ l.term-index;
      asked : AllAnswer g.L.Lists.becomes l.term-index l.fn.lists l.lists;
      clean : is_clean l.lists → is_clean l.fn.lists × (documents l.lists ≡ documents l.fn.lists);
      becomes : Reaches g.L.Lists.becomes l.fn.lists true l.lists;
      failed : g.L.Lists.has_failed l.lists ≡ g.L.Lists.has_failed l.fn.lists;
      given : is_clean l.lists → given l.fn.lists < 2 ^ 64 → given l.lists ≡ min (given l.fn.lists + places_left l.cursors.items) (2 ^ 64 - 1);
    }
