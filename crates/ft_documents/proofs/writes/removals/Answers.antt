-- each document's rewrite
use Rattle.std.proofs.Common.{◌∙◌, rules}
use Rattle.sqlite_keyed.proofs.ListLemmas.{map-map}
use Rattle.ft_documents.proofs.Common.{YieldsList-from_map_by, YieldsList-from_vec, map_from_collect, YieldsList-at, shown_document, shown_rewrite, removal}
use Rattle.ft_documents.proofs.writes.removals.Goals as goal

pub returns : goal.returns
returns c =
    let road = YieldsList-at c.map.ensures.source (YieldsList-from_vec c.args.documents.items c.into_iter.ensures.rest (c.into_iter.ensures.len ∙ c.args.documents.ok.0)) in
    let made = map_from_collect _ c.collect.ensures.ran (YieldsList-from_map_by _ shown_rewrite (λ d. removal (shown_document d)) road c.map.ensures.closure (λ x r q k. search rules)) in
    search (rules, map-map)
