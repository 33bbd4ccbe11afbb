-- one list more
use Rattle.std.proofs.Common.{◌++◌, ◌∷◌, [], map, string_bytes, sym, ap, ◌∙◌, append_assoc, append-nil, ◌≡◌, rules, to_z, of_z, w64}
use Rattle.std.proofs.lemmas.Iterator.{items_from_collect}
use Rattle.ft_documents.proofs.Common.{YieldsList-from_slice, YieldsList-from_map, YieldsList-at, IfOk-at_ok, map-append, under_term, kept_list, lists_of_term, spot_of}
use Rattle.ft_documents.proofs.rewrite.add_lists.Goals as goal

pub loop-docid-preserved : goal.loop-docid-preserved
loop-docid-preserved c =
    let term = string_bytes c.args.term.now.term in
    let list = c.in-Some.list.now in
    let rest = lists_of_term term c.in-Some.rest.now in
    let d : to_z w64 (of_z w64 c.in-Some.docid) ≡ c.in-Some.docid = search rules in
    let spots : c.in_ok-spots.spots.items ≡ map spot_of list = IfOk-at_ok _ c.in_ok-spots.was
    (items_from_collect c.collect.result c.collect.ensures.ran (YieldsList-from_map _ spot_of (YieldsList-at c.map.ensures.source (YieldsList-from_slice list c.iter.ensures.rest)) c.map.ensures.closure (λ x r q k. search rules))) in
    let old = map kept_list c.loop-docid.lists.items in
    let made : map kept_list c.push.new.self.items ≡ old ++ ((term, c.in-Some.docid), map spot_of list) ∷ [] =
    ap (map kept_list) c.in_ok-push.ensures.items ∙ map-append kept_list c.loop-docid.lists.items _ ∙ (λ i. old ++ ((c.in_ok-clone.ensures.cases i, d i), spots i) ∷ []) in
    ap (λ ls. ls ++ rest) made ∙ append_assoc old _ rest ∙ ap (λ ls. old ++ under_term term ls) (sym c.in-Some.ensures.lists) ∙ c.loop-docid.invariant

pub returns : goal.returns
returns c =
    let none : c.loop-docid.left.now ≡ [] = search rules in
    let whole = c.loop-docid.invariant in
    let term = string_bytes c.args.term.now.term in
    sym (append-nil (map kept_list c.loop-docid.lists.items)) ∙ ap (λ ps. map kept_list c.loop-docid.lists.items ++ lists_of_term term ps) (sym none) ∙ whole
    ∙ ap (λ ps. map kept_list c.args.lists.now.items ++ lists_of_term term ps) c.as_slice-left.ensures.value
