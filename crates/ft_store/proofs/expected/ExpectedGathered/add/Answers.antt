use Rattle.std.proofs.Common.{◌++◌, ◌∙◌, map, drop, sym, ap}
use Rattle.ft_rows.specs.Terms.{lists_by_terms}
use Rattle.ft_store.specs.Found.{found_places}
use Rattle.ft_store.proofs.ExpectedLemmas.{next_found}
use Rattle.ft_store.proofs.expected.ExpectedGathered.add.Goals as goal

pub returns-clause-added : goal.returns-clause-added
returns-clause-added c = λ rows h tab.
    let left = c.find_next.new.self in
    let next = c.if-not-find_next.ensures in
    let before = rw c.if-not-whole.false at (h tab) in
    let so_far = ap (λ ls. map (found_places tab) rows ++ ls) (next.left tab) ∙ before ∙ ap (λ ts. lists_by_terms tab ts.items) (sym next.terms) in
    let rest = c.split_at.ensures.back ∙ ap (drop left.posting) c.as_slice.ensures.value in
    next_found tab left.terms.items left.term left.posting c.index-term.result.now c.split_at.result.1.now c.split_at-2.result.0.now c.first_list-count.result next.next c.index-term.ensures rest c.first_list-count.ensures c.split_at-2.ensures.front
    rows _ so_far c.args.row.now c.in_ok-same.same (rw c.as_str.ensures.value at (c.in_ok-same.ensures.found.found tab))
