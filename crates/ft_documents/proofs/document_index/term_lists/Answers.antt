-- one term more, and the sort of all
use Rattle.std.proofs.Common.{◌≡◌, ◌∷◌, [], ◌++◌, List, map, rules, sym, ap, ◌∙◌, append_assoc, append-nil, subst, All}
use Rattle.ft_documents.proofs.Common.{map-append, All-nil, All-cons, All-append, TermLists, Group}
use Rattle.ft_documents.proofs.TermOrder.{Has, has_in, term_has, HasRisen, rising_from_sort, sorted_terms}
use Rattle.ft_documents.proofs.document_index.term_lists.Goals as goal

pub loop-term-init : goal.loop-term-init
loop-term-init c = (search rules, subst (All HasRisen) (sym c.in_ok-found.ensures.items) (All-nil HasRisen))

pub loop-term-preserved : goal.loop-term-preserved
loop-term-preserved c =
    let so_far = c.loop-term.invariant in
    let found = map term_has c.loop-term.found.items in
    let left = map has_in c.next.new.self in
    let x : TermLists = record { term = c.in-Some.term; postings = c.put_in_order.new.postings } in
    let old : Has = has_in (c.in-Some.term, c.in-Some.postings) in
    let is = c.in_ok-push.ensures.items in
    let same : term_has x ≡ old = ap (λ f. (c.in-Some.term, f)) c.in_ok-put_in_order.ensures.1 in (
      ap (λ ts. map term_has ts ++ left) is ∙ ap (λ ms. ms ++ left) (map-append term_has c.loop-term.found.items (x ∷ [])) ∙ append_assoc found (term_has x ∷ []) left
          ∙ ap (λ (m : Has). found ++ (m ∷ left)) same ∙ ap (λ (gs : List Group). found ++ map has_in gs) (sym c.in-Some.ensures.steps) ∙ so_far.0,
      subst (All HasRisen) (sym is) (All-append HasRisen c.loop-term.found.items (x ∷ []) so_far.1 (All-cons HasRisen x [] c.in_ok-put_in_order.ensures.0 (All-nil HasRisen))),
    )

pub returns : goal.returns
returns c =
    let so_far = c.loop-term.invariant in
    let found = map term_has c.loop-term.found.items in
    let are : found ≡ map has_in c.args.terms.entries = sym (append-nil found) ∙ ap (λ left. found ++ map has_in left) (sym c.in-None.ensures.steps.0) ∙ so_far.0 in
    let sorted = c.sort_unstable_by.new.self.items in
    sorted_terms c.loop-term.found.items sorted c.args.terms.entries are c.len.ensures.unique so_far.1 c.sort_unstable_by.ensures.permutation
    (rising_from_sort sorted c.sort_unstable_by.ensures.sorted (λ a r f k. search rules))
