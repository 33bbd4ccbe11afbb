-- one of each docid
use Rattle.std.proofs.Common.{[], ℤ, rules}
use Rattle.std.proofs.lemmas.Iterator.{YieldsList-from_slice, YieldsList-from_map_by}
use Rattle.std.proofs.lemmas.Iterator.Consumers.{YieldsList-at, map_from_collect}
use Rattle.ft_match.specs.Occurs.{plain_hit, PlainHit}
use Rattle.ft_index.proofs.select.bare_hits.Goals as goal

pub returns : goal.returns
returns c =
    let bare : ℤ → PlainHit = λ docid. record { docid = docid; offsets = [] } in
    map_from_collect _ c.collect.ensures.ran (YieldsList-from_map_by _ plain_hit bare (YieldsList-at c.map.ensures.source (YieldsList-from_slice c.args.docids.now (search rules))) c.map.ensures.closure (λ x r q k. (search rules, search rules)))
