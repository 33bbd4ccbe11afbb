use Rattle.std.proofs.Common.{◌≡◌, ◌++◌, map, take, flat_map}
use Rattle.ft_query.proofs.Common.{plain_link, plain_terms}
use Rattle.ft_query.proofs.walk.load.add_links.Given as goal

-- the terms of the links so far
abbrev pub invariant-loop-link : goal.invariant-loop-link
invariant-loop-link l =
    plain_terms l.all.items ≡ plain_terms l.fn.all.items ++ flat_map (λ link. link.to.terms) (map plain_link (take l.link-index l.links))
