-- the walk stops where enough hits are taken, or none is left
use Rattle.std.proofs.Common.{◌≡◌, ◌≤◌, ◌++◌, List, None, map, length, sym, ap, subst, ◌∙◌, append-nil, rules, vec_len}
use Rattle.ft_documents.proofs.Common.{length-map, IfOk-at_ok, tree_of, PlainHit, plain_hit, hits_of, cut, as_wanted}
use Rattle.ft_documents.proofs.MatchedLemmas.{full, whole, ended}
use Rattle.ft_documents.proofs.hits.taken.Goals.{else-loop-alloc-test, then-loop-alloc-test+in_ok-hit+in_default}
use Rattle.ft_documents.proofs.hits.taken.Goals as goal

pub returns : goal.returns
returns c documents stands =
    let so_far = c.loop-alloc.invariant.rest documents stands in
    let tree = tree_of c.args.walk.now.query in
    let as_told : List PlainHit → List PlainHit = map (as_wanted c.args.wants_offsets) in
    let count : length c.loop-alloc.hits.items ≡ vec_len c.loop-alloc.hits = search rules in
    let hits : List PlainHit = map plain_hit c.loop-alloc.hits.items in
    let many : length hits ≡ vec_len c.loop-alloc.hits = length-map c.loop-alloc.hits.items plain_hit ∙ count in
    elim c.loop-alloc-test.branch [
      | else-loop-alloc-test w ↦
          full c.args.most c.unwrap_or-most.result (vec_len c.loop-alloc.hits) hits (as_told (hits_of tree so_far.0)) c.unwrap_or-most.ensures many (search rules) (search rules) c.loop-alloc.invariant.room
          ∙ ap (cut c.args.most 0) (sym so_far.2)
      | then-loop-alloc-test+in_ok-hit+in_default w ↦
          let none : w.in_ok-hit.field-0 ≡ None = w.in_default.is in
          let tells = IfOk-at_ok _ w.in_ok-hit.was w.next_hit.ensures.told so_far.0 so_far.1 in
          let end = ended c.args.wants_offsets c.loop-alloc.walk w.next_hit.new.walk w.in_ok-hit.field-0 so_far.0 none tells in
          let all : as_told (hits_of tree documents) ≡ hits = so_far.2 ∙ ap (λ hs. hits ++ hs) (ap (λ q. as_told (hits_of (tree_of q) so_far.0)) (sym c.loop-alloc.invariant.query) ∙ end) ∙ append-nil hits in
          whole c.args.most c.unwrap_or-most.result hits c.unwrap_or-most.ensures (subst (λ n. n ≤ c.unwrap_or-most.result) (sym many) c.loop-alloc.invariant.room)
          ∙ ap (cut c.args.most 0) (sym all)
    ]
