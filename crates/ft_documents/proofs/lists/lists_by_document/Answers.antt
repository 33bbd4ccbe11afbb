-- one list more
use Rattle.std.proofs.Common.{◌≡◌, ◌++◌, ◌∷◌, [], List, ℤ, map, sym, ap, ◌∙◌, append_assoc, append-nil, rules, to_z, of_z, w64}
use Rattle.std.proofs.lemmas.Iterator.{items_from_collect}
use Rattle.sqlite_keyed.proofs.ListLemmas.{map-map}
use Rattle.ft_values.specs.declared.rows.Spot.{Spot}
use Rattle.ft_rows.specs.declared.terms.Posting.{Posting}
use Rattle.ft_documents.proofs.Common.{YieldsList-from_slice, YieldsList-from_map, YieldsList-at, IfOk-at_ok, map-append, plain_list, place_of, read_list, lists_of_postings, spot_of}
use Rattle.ft_documents.proofs.lists.lists_by_document.Goals as goal

pub loop-docid-preserved : goal.loop-docid-preserved
loop-docid-preserved c =
    let list = c.in-Some.list.now in
    let rest = map read_list (lists_of_postings c.in-Some.rest.now) in
    let own : ℤ × List Spot = (c.in-Some.docid, map spot_of list) in
    let d : to_z w64 (of_z w64 c.in-Some.docid) ≡ c.in-Some.docid = search rules in
    let places : c.in_ok-places.places.items ≡ map place_of (map spot_of list) = IfOk-at_ok _ c.in_ok-places.was
    (items_from_collect c.collect.result c.collect.ensures.ran (YieldsList-from_map _ (λ (p : Posting). place_of p.spot) (YieldsList-at c.map.ensures.source (YieldsList-from_slice list c.iter.ensures.rest)) c.map.ensures.closure (λ x r q k. search rules))) ∙ sym (map-map place_of spot_of list) in
    let old = map plain_list c.loop-docid.lists.items in
    let made : plain_list c.new.result ≡ read_list own = c.new.ensures ∙ (λ i. record { docid = d i; places = places i }) in
    let more : map plain_list c.push.new.self.items ≡ old ++ read_list own ∷ [] =
    ap (map plain_list) c.in_ok-push.ensures.items ∙ map-append plain_list c.loop-docid.lists.items _ ∙ ap (λ l. old ++ l ∷ []) made in
    ap (λ ls. ls ++ rest) more ∙ append_assoc old (read_list own ∷ []) rest ∙ ap (λ ls. old ++ map read_list ls) (sym c.in-Some.ensures.lists) ∙ c.loop-docid.invariant

pub returns : goal.returns
returns c =
    let none : c.loop-docid.left.now ≡ [] = search rules in
    sym (append-nil (map plain_list c.loop-docid.lists.items)) ∙ ap (λ ps. map plain_list c.loop-docid.lists.items ++ map read_list (lists_of_postings ps)) (sym none) ∙ c.loop-docid.invariant
