-- the terms are those of the query
use Rattle.std.proofs.Common.{◌≡◌, ◌∙◌, ◌++◌, List, ap, subst, IfOk, Bor, rules}
use Rattle.ft_query.proofs.Common.{common_steps, QueryTerm, PlainTerm, tree_of, terms_in, plain_terms, Loads}
use Rattle.ft_query.proofs.Reaching.{no_call}
use Rattle.ft_query.proofs.walk.load.load.Goals as goal

pub returns-clause-loads : goal.returns-clause-loads
returns-clause-loads g c =
    let all = terms_in (tree_of c.args.query.now) in
    let terms : plain_terms c.as_slice.result.now ≡ all =
    ap plain_terms c.as_slice.ensures.value
    ∙ c.in_ok-add_query.ensures
    ∙ ap (λ (ts : List (Bor QueryTerm)). plain_terms ts ++ all) c.new-terms.ensures.items in
    subst (λ (ts : List PlainTerm). IfOk c.load_terms.result (Loads g.L.Lists ts c.args.lists.now c.load_terms.new.lists)) terms c.load_terms.ensures.loads

pub returns-in_err-add_query-clause-asks : goal.returns-in_err-add_query-clause-asks
returns-in_err-add_query-clause-asks g c = search (rules, common_steps, no_call)
