-- one term more
use Rattle.std.proofs.Common.{◌++◌, ◌∷◌, [], string_bytes, sym, ap, ◌∙◌, append-nil, rules, map-id}
use Rattle.ft_documents.proofs.Common.{YieldsList-from_vec, YieldsList-end, flat_map-append, TermLists, lists_of_term, lists_of_terms}
use Rattle.ft_documents.proofs.rewrite.posting_lists.Goals as goal

pub loop-term-preserved : goal.loop-term-preserved
loop-term-preserved c =
    let t = c.in-Some.term in
    let own = lists_of_term (string_bytes t.term) t.postings.items in
    c.in_ok-add_lists.ensures ∙ ap (λ ls. ls ++ own) c.loop-term.invariant ∙ ap (λ ls. lists_of_terms c.loop-term.yielded ++ ls) (sym (append-nil own))
    ∙ sym (flat_map-append (λ (x : TermLists). lists_of_term (string_bytes x.term) x.postings.items) c.loop-term.yielded (t ∷ []))

pub returns : goal.returns
returns c =
    let came = (YieldsList-end (YieldsList-from_vec {s = c.into_iter-term-iterator.result} c.in_ok-term-items.term-items.items (search rules) (search rules)) c.loop-term.yielded c.loop-term.term-iterator c.loop-term.yielded_by _ c.next.new.self c.in-None.is c.next.ensures.steps).0 in
    c.loop-term.invariant ∙ ap lists_of_terms (sym (map-id c.loop-term.yielded) ∙ came) ∙ c.in_ok-term-items.ensures
