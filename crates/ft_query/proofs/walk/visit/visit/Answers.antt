use Rattle.std.proofs.Common.{◌≡◌, ap, ◌∙◌, to_z-of_z, refl, arith}
use Rattle.ft_query.proofs.Common.{tree_of, own_lists, numbered_offsets, marks_of, plain_lists, places_in, if_wanted}
use Rattle.ft_query.proofs.Costs.{document_bound, document_takes, own_are}
use Rattle.ft_query.proofs.Visits.{rejected_is, found_is}
use Rattle.ft_query.proofs.walk.visit.visit.Goals.{After-no_offsets-found}
use Rattle.ft_query.proofs.walk.visit.visit.Goals as goal

-- the lists are those of the document
here : (c : After-no_offsets-found) → plain_lists c.as_slice-left.result.now ≡ places_in c.args.docid c.args.cursors.now
here c = ap plain_lists c.as_slice-left.ensures ∙ c.in_ok-lists.ensures.lists ∙ ap (λ z. places_in z c.args.cursors.now)
    (to_z-of_z c.ranges.docid)

pub returns-then-not-branch-clause-offsets : goal.returns-then-not-branch-clause-offsets
returns-then-not-branch-clause-offsets c = λ postings ordered same.
    let lists = plain_lists (own_lists (tree_of c.args.query.now) c.as_slice-left.result.now) in
    let is = own_are (tree_of c.args.query.now) c.args.docid c.args.cursors.now c.as_slice-left.result.now c.requires
    (here (goal.at.returns-then-not-branch-clause-offsets c).After-no_offsets-found) ∙ same in
    rejected_is c.args.wanted postings (tree_of c.args.query.now) lists c.in_ok-visit_part.field-0 ordered is c.in_ok-visit_part.ensures.evaluates.accepted
    c.if-not-branch.true

pub returns-clause-offsets : goal.returns-clause-offsets
returns-clause-offsets c = λ postings ordered same.
    let tree = tree_of c.args.query.now in
    let lists = plain_lists (own_lists (tree_of c.args.query.now) c.as_slice-left.result.now) in
    let is = own_are (tree_of c.args.query.now) c.args.docid c.args.cursors.now c.as_slice-left.result.now c.requires
    (here (goal.at.returns-clause-offsets c).After-no_offsets-found) ∙ same in
    let marked : c.visit_part.new.found.offsets.items ≡ numbered_offsets 0 (if_wanted c.args.wanted (marks_of tree lists)) =
    let none = c.no_offsets-found.ensures in simp (c.in_ok-visit_part.ensures.evaluates.offsets, none.offsets, none.next, none.wanted) in
    found_is c.args.wanted postings tree lists c.in_ok-visit_part.field-0 c.visit_part.new.found.offsets.items c.sort_offsets.new.offsets.items ordered is
    c.in_ok-visit_part.ensures.evaluates.accepted c.if-not-branch.false marked c.sort_offsets.ensures.permutation c.sort_offsets.ensures.sorted

pub returns-in_err-lists-clause-steps : goal.returns-in_err-lists-clause-steps
returns-in_err-lists-clause-steps c =
    let bound = document_bound (tree_of c.args.query.now) c.args.docid c.args.cursors.now (places_in c.args.docid c.args.cursors.now) c.requires refl in
    record {
      at_least = c.in_err-lists.ensures.steps.at_least;
      at_most = omega (arith, bound, c.in_err-lists.ensures.steps.at_most);
    }

pub returns-in_err-visit_part-clause-steps : goal.returns-in_err-visit_part-clause-steps
returns-in_err-visit_part-clause-steps c =
    document_takes (tree_of c.args.query.now) c.args.docid c.args.cursors.now c.as_slice-left.result.now c.requires
    (here (goal.at.returns-in_err-visit_part-clause-steps c).After-no_offsets-found) c.in_ok-lists.ensures.steps.at_least
    c.in_ok-lists.ensures.steps.at_most c.in_err-visit_part.ensures.steps

pub returns-then-not-branch-clause-steps : goal.returns-then-not-branch-clause-steps
returns-then-not-branch-clause-steps c =
    document_takes (tree_of c.args.query.now) c.args.docid c.args.cursors.now c.as_slice-left.result.now c.requires
    (here (goal.at.returns-then-not-branch-clause-steps c).After-no_offsets-found) c.in_ok-lists.ensures.steps.at_least
    c.in_ok-lists.ensures.steps.at_most c.in_ok-visit_part.ensures.steps

pub returns-clause-steps : goal.returns-clause-steps
returns-clause-steps c =
    document_takes (tree_of c.args.query.now) c.args.docid c.args.cursors.now c.as_slice-left.result.now c.requires
    (here (goal.at.returns-clause-steps c).After-no_offsets-found) c.in_ok-lists.ensures.steps.at_least c.in_ok-lists.ensures.steps.at_most
    c.in_ok-visit_part.ensures.steps
