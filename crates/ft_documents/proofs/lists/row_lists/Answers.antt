-- one row more
use Rattle.std.proofs.Common.{◌≡◌, ◌++◌, ◌∷◌, [], map, sym, ap, ◌∙◌, rules}
use Rattle.ft_documents.proofs.Common.{YieldsList-from_slice, YieldsList-from_map, items_from_extend, YieldsList-at, map-append, IfOk-at_ok, plain_list, place_of, list_of}
use Rattle.ft_documents.proofs.lists.row_lists.Goals as goal

pub loop-row-preserved : goal.loop-row-preserved
loop-row-preserved c =
    let spots = c.in-Some.row.spots.items in
    let added = items_from_extend c.extend.result c.extend.ensures.ran
    (YieldsList-from_map _ place_of (YieldsList-at c.map.ensures.source (YieldsList-from_slice spots (c.iter.ensures.rest ∙ c.deref.ensures.value))) c.map.ensures.closure (λ x r q k. search rules)) in
    let made : c.extend.new.self.items ≡ map place_of spots = (IfOk-at_ok _ c.in_ok-extend.was added).0 ∙ ap (λ xs. xs ++ map place_of spots) c.in_ok-places.ensures.items in
    let list : plain_list c.new.result ≡ list_of c.in-Some.row = search rules in
    ap (map plain_list) c.in_ok-push.ensures.items ∙ map-append plain_list c.loop-row.lists.items (c.new.result ∷ [])
    ∙ (λ i. c.loop-row.invariant i ++ list i ∷ []) ∙ sym (map-append list_of c.loop-row.yielded (c.in-Some.row ∷ []))
