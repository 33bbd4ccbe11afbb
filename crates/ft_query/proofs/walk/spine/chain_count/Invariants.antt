use Rattle.std.proofs.Common.{◌≡◌, ◌+◌, length, drop, map, flat_map}
use Rattle.ft_query.proofs.Common.{plain_phrase, plain_link, chain, terms_in}
use Rattle.ft_query.proofs.walk.spine.chain_count.Given as goal

-- the terms so far, and those of the links that are left
abbrev pub invariant-loop-link : goal.invariant-loop-link
invariant-loop-link l =
    l.count + length (flat_map (λ link. link.to.terms) (map plain_link (drop l.link-index l.near.links.items))) ≡ length
    (terms_in (chain (plain_phrase l.near.first) (map plain_link l.near.links.items)))
