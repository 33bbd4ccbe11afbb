-- by a search among lists in order
use Rattle.std.proofs.Common.{◌≡◌, Some, map, sym, ap, subst, ◌∙◌, rules}
use Rattle.ft_content.proofs.{key_cmp_total}
use Rattle.ft_documents.proofs.Common.{find, IsBinarySearchResult, always_returns_same, key_cmp, kept_list, same_spots, was_there}
use Rattle.ft_documents.proofs.ListSearch.{row_is, no_row}
use Rattle.ft_documents.proofs.rewrite.has_list.Goals as goal

pub returns-in-Ok : goal.returns-in-Ok
returns-in-Ok c =
    let lists = c.args.lists.now in
    let q = (kept_list c.args.list.now).0 in
    let spots = c.args.list.now.1.items in
    let held = c.index-lists-place.result in
    let found = c.binary_search_by.ensures.position (λ x. key_cmp (kept_list x).0 q) (always_returns_same _ _ _ (λ a r g called. (search rules, search rules))) in
    let ties = ap (λ x. key_cmp (kept_list x).0 q) c.index-lists-place.is ∙ subst (IsBinarySearchResult (λ x. key_cmp (kept_list x).0 q) lists) c.in-Ok.is found held in
    let is : find key_cmp q (map kept_list lists) ≡ Some held.1.items = row_is key_cmp key_cmp_total kept_list q lists c.in-Ok.place held c.requires (search rules) c.index-lists-place.is ties in
    c.eq.ensures ∙ ap (λ x. same_spots x.1.items spots) (sym c.index-lists-place.is) ∙ ap (λ o. was_there same_spots o spots) (sym is)

pub returns-in-Err : goal.returns-in-Err
returns-in-Err c =
    let lists = c.args.lists.now in
    let q = (kept_list c.args.list.now).0 in
    let found = c.binary_search_by.ensures.position (λ x. key_cmp (kept_list x).0 q) (always_returns_same _ _ _ (λ a r g called. (search rules, search rules))) in
    ap (λ o. was_there same_spots o c.args.list.now.1.items) (sym (no_row key_cmp key_cmp_total kept_list q lists c.in-Err.field-0 c.requires (subst (IsBinarySearchResult (λ x. key_cmp (kept_list x).0 q) lists) c.in-Err.is found)))
