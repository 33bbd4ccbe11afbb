-- places in order are lists
use Rattle.std.proofs.Common.{map, subst, ap, ◌∙◌, IsPermutation}
use Rattle.ft_documents.proofs.Common.{IfOk-weaker, lists_of_postings, read_list, list_of, all_in}
use Rattle.ft_documents.proofs.lists.doc_lists.Goals as goal

pub returns : goal.returns
returns c =
    let ps = c.put_in_order.new.postings.items in
    let same : IsPermutation (all_in (map list_of c.args.rows.items)) ps = subst (λ xs. IsPermutation xs ps) (c.in_ok-postings.ensures ∙ ap (λ xs. all_in (map list_of xs)) c.as_slice.ensures.value) c.put_in_order.ensures.0 in
    IfOk-weaker c.lists_by_document.result _ _ (λ lists is. record { places = ps; same = same; sorted = c.in_ok-put_in_order.ensures.1; lists = is ∙ ap (λ qs. map read_list (lists_of_postings qs)) c.as_slice-2.ensures.value }) c.lists_by_document.ensures
