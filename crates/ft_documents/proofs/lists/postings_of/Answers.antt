-- one row more
use Rattle.std.proofs.Common.{◌≡◌, ◌++◌, map, ap, sym, ◌∙◌, rules, to_z, of_z, w64}
use Rattle.sqlite_keyed.proofs.ListLemmas.{map-map}
use Rattle.ft_documents.proofs.Common.{YieldsList-from_slice, YieldsList-from_map, items_from_extend, YieldsList-at, IfOk-at_ok, PlaceList, place_of, list_of, placed_in}
use Rattle.ft_documents.proofs.Steps.{one_more_list}
use Rattle.ft_documents.proofs.lists.postings_of.Goals as goal

pub loop-row-preserved : goal.loop-row-preserved
loop-row-preserved c =
    let row = c.row-item.result in
    let spots = row.spots.items in
    let added = items_from_extend c.extend.result c.extend.ensures.ran
    (YieldsList-from_map _ (λ s. placed_in (to_z w64 (of_z w64 row.docid)) (place_of s)) (YieldsList-at c.map.ensures.source (YieldsList-from_slice spots (c.iter.ensures.rest ∙ c.deref.ensures.value))) c.map.ensures.closure (λ x r q k. search rules)) in
    let d : to_z w64 (of_z w64 row.docid) ≡ row.docid = search rules in
    let more : c.extend.new.self.items ≡ c.loop-row.postings.items ++ map (placed_in row.docid) (map place_of spots) =
    (IfOk-at_ok _ c.in_ok-extend.was added).0 ∙ ap (λ xs. c.loop-row.postings.items ++ xs) (sym (map-map (placed_in (to_z w64 (of_z w64 row.docid))) place_of spots)) ∙ ap (λ k. c.loop-row.postings.items ++ map (placed_in k) (map place_of spots)) d in
    one_more_list list_of c.args.rows.now c.loop-row.row-index row c.loop-row-test.true c.row-item.is (λ (l : PlaceList). map (placed_in l.docid) l.places) c.loop-row.postings.items _ more c.loop-row.invariant
