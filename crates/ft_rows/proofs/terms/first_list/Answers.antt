use Rattle.std.proofs.Common.{◌≡◌, ◌∙◌, ap, to_z, of_z, w64, rules, int_eq, tests}
use Rattle.std.proofs.lemmas.Iterator.{YieldsList-from_slice}
use Rattle.std.proofs.lemmas.Iterator.Consumers.{YieldsList-at, count_from_yields_List}
use Rattle.std.proofs.lemmas.Iterator.Search.{YieldsList-from_take_while}
use Rattle.std.proofs.lemmas.List.Folds.{length-prefix_len}
use Rattle.ft_rows.proofs.Common.{prefix_len, Posting}
use Rattle.ft_rows.proofs.PostingLemmas.{first_run}
use Rattle.ft_rows.proofs.terms.first_list.Goals as goal

pub returns : goal.returns
returns c =
    let ps = c.args.postings.now in
    let docid = to_z w64 (of_z w64 c.in-Some.first.now.docid) in
    let d : docid ≡ c.in-Some.first.now.docid = search rules in
    first_run ps c.in-Some.first.now c.count.result (search rules)
    (count_from_yields_List _ c.count.result c.count.ensures.ran
    (YieldsList-from_take_while _ (λ (p : Posting). int_eq p.docid docid) (YieldsList-at c.take_while.ensures.source (YieldsList-from_slice ps c.iter.ensures.rest)) c.take_while.ensures.closure c.take_while.ensures.done (λ x b q k. search (rules, tests)))
    ∙ length-prefix_len (λ (p : Posting). int_eq p.docid docid) ps ∙ ap (λ k. prefix_len (λ (p : Posting). int_eq p.docid k) ps) d)
