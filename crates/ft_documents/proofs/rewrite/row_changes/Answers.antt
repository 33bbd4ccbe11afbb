use Rattle.std.proofs.Common.{◌≡◌, ◌≤◌, ◌+◌, ◌++◌, ◌∷◌, ◌&&◌, [], List, Bool, cond, not, true, false, map, drop, length, refl, sym, subst, ap, ◌∙◌, to_z-of_z, to_z, of_z, w64, rules, is_some, IsTrue, flat_map, int_eq}
use Rattle.sqlite_keyed.proofs.SliceLemmas.{is_some-map}
use Rattle.ft_documents.proofs.Common.{is_sorted, length-map, drop_all, All-same, DropCells, column_key_cmp, shown_change, Key, key_cmp, Spot, cells_of, column_of, IsOfDocids, AddsDocuments, IsIndexOf, Rewrite, shown_rewrite, befores, afters, document_if, rewritten_docids, AreRight, Group, group_spots, lists_in_groups, kept_list, index_lists_of, goes, dropped_documents, put_documents, dropped_lists, put_lists, dropped_sizes, put_sizes, gone, changed, same_spots}
use Rattle.ft_documents.specs.RewriteRows.{rewrite_changes}
use Rattle.ft_documents.proofs.Steps.{kept_more, all_taken, taken_more, change_more, six_pieces}
use Rattle.ft_documents.proofs.TermOrder.{sorted_joined}
use Rattle.ft_documents.proofs.IndexOf.{more_joined, all_joined}
use Rattle.ft_documents.proofs.NearLemmas.{near}
use Rattle.ft_documents.proofs.RightLemmas.{are_right}
use Rattle.ft_documents.proofs.PackedChanges.{are_packable}
use Rattle.ft_documents.proofs.rewrite.row_changes.Goals.{then-is_some+then-is_none+in_ok-push, else-is_some, else-is_some-via-then-is_some+else-is_none, else-is_some-via-else-is_some}
use Rattle.ft_documents.specs.declared.rewrite.Rewrite as source
use Rattle.ft_documents.proofs.rewrite.row_changes.Goals as goal

goes_as : (r : source.Rewrite) (b a : Bool) → is_some r.before ≡ b → is_some r.after ≡ a → goes (shown_rewrite r) ≡ (b && not a)
goes_as r b a before after = λ i. (is_some-map cells_of r.before ∙ before) i && not ((is_some-map cells_of r.after ∙ after) i)

pub loop-rewrite-preserved : goal.loop-rewrite-preserved
loop-rewrite-preserved c =
    let d : to_z w64 (of_z w64 c.rewrite-item.result.docid) ≡ c.rewrite-item.result.docid = search rules in
    let columns = map column_of c.args.columns.now in
    let tab = to_z w64 (of_z w64 c.args.tab) in
    let items = c.as_slice-rewrite-items.result.now in
    let all = map shown_rewrite items in
    let index = c.loop-rewrite.rewrite-index in
    let r = shown_rewrite c.rewrite-item.result in
    let rest = map shown_rewrite (drop (index + 1) items) in
    let left : map shown_rewrite (drop index items) ≡ r ∷ rest = taken_more (map shown_rewrite) items index c.rewrite-item.result c.loop-rewrite-test.true c.rewrite-item.is in
    let so_far = c.loop-rewrite.invariant in
    let old = c.loop-rewrite.old in
    let new = c.loop-rewrite.new in
    let made = map shown_change c.loop-rewrite.changes.items in
    let grown : map shown_change c.if-is_some.changes.items ≡ cond (goes r) (made ++ DropCells tab r.docid ∷ []) made =
    elim c.if-is_some.branch [
      | then-is_some+then-is_none+in_ok-push w ↦
          let here = goes_as c.rewrite-item.result true false (search rules) (search rules) in
          ap (λ v. map shown_change v.items) w.changes-is ∙ change_more _ _ _ w.in_ok-push.ensures.items ∙ (λ i. made ++ DropCells tab (d i) ∷ []) ∙ ap (λ b. cond b (made ++ DropCells tab r.docid ∷ []) made) (sym here)
      | else-is_some w ↦
          let stays : goes r ≡ false = elim w.else-is_some.branch [ else-is_some-via-then-is_some+else-is_none w ↦ goes_as c.rewrite-item.result true true (search rules) (search rules) | else-is_some-via-else-is_some w ↦ goes_as c.rewrite-item.result false _ (search rules) refl ] in
          ap (λ v. map shown_change v.items) w.changes-is ∙ ap (λ b. cond b (made ++ DropCells tab r.docid ∷ []) made) (sym stays)
    ] in (
      more_joined columns (document_if r.docid r.before) (befores rest) _ (befores all) old c.add.new.self (ap befores left) (subst (λ z. AddsDocuments columns (document_if z r.before) old c.add.new.self) d c.in_ok-add.ensures) so_far.0,
      more_joined columns (document_if r.docid r.after) (afters rest) _ (afters all) new c.add-in-loop-rewrite.new.self (ap afters left) (subst (λ z. AddsDocuments columns (document_if z r.after) new c.add-in-loop-rewrite.new.self) d c.in_ok-add-2.ensures) so_far.1,
      kept_more goes (λ (x : Rewrite). DropCells tab x.docid) r rest made _ _ grown (sym (ap (λ rs. made ++ dropped_documents tab rs) left) ∙ so_far.2),
    )

in_order : (lists : List (Key × List Spot)) (gs : List Group) → lists ≡ lists_in_groups gs → IsTrue (is_sorted key_cmp lists)
in_order lists gs is = subst (λ ls. IsTrue (is_sorted key_cmp ls)) (sym is) (sorted_joined (flat_map group_spots gs) [] refl)

pub drop_lists-requires : goal.drop_lists-requires
drop_lists-requires c = in_order (map kept_list c.as_slice-2.result.now) c.loop-rewrite.new.terms.entries (ap (map kept_list) c.as_slice-2.ensures.value ∙ c.in_ok-after.ensures)

pub put_lists-requires : goal.put_lists-requires
put_lists-requires c = in_order (map kept_list c.as_slice-3.result.now) c.loop-rewrite.old.terms.entries (ap (map kept_list) c.as_slice-3.ensures.value ∙ c.in_ok-before.ensures)

pub returns : goal.returns
unfolding rewrite_changes
returns c =
    let t = to_z-of_z c.ranges.tab in
    let columns = map column_of c.args.columns.now in
    let rewrites = map shown_rewrite c.args.rewrites.items in
    let old = c.loop-rewrite.old in
    let new = c.loop-rewrite.new in
    let so_far = rw c.as_slice-rewrite-items.ensures.value at c.loop-rewrite.invariant in
    let past : length c.args.rewrites.items ≤ c.loop-rewrite.rewrite-index = rw c.as_slice-rewrite-items.ensures.value at c.loop-rewrite-test.false in
    let none : map shown_rewrite (drop c.loop-rewrite.rewrite-index c.args.rewrites.items) ≡ [] = ap (map shown_rewrite) (drop_all c.loop-rewrite.rewrite-index c.args.rewrites.items past) in
    let first : IsIndexOf columns (befores rewrites) old = all_joined columns _ (befores rewrites) old (ap befores none) so_far.0 in
    let last : IsIndexOf columns (afters rewrites) new = all_joined columns _ (afters rewrites) new (ap afters none) so_far.1 in
    let olds : map kept_list c.in_ok-before.before.items ≡ index_lists_of columns (befores rewrites) = c.in_ok-before.ensures ∙ first.lists in
    let news : map kept_list c.in_ok-after.after.items ≡ index_lists_of columns (afters rewrites) = c.in_ok-after.ensures ∙ last.lists in
    let gone_now = map shown_change c.loop-rewrite.changes.items in
    let made = map shown_change c.put_sizes.new.changes.items in
    let plan : made ≡ rewrite_changes c.args.tab columns rewrites = six_pieces [] gone_now _ _ _ _ _ _ _ _ _ _ _ refl
    (all_taken gone_now _ _ (ap (dropped_documents (to_z w64 (of_z w64 c.args.tab))) none) so_far.2 ∙ (λ i. dropped_documents (t i) rewrites))
    (c.in_ok-put_documents.ensures ∙ (λ i. gone_now ++ put_documents (t i) rewrites))
    (c.in_ok-drop_lists.ensures ∙ (λ i. map shown_change c.put_documents.new.changes.items ++ dropped_lists (t i) (changed key_cmp same_spots ((ap (map kept_list) c.as_slice-2.ensures.value ∙ news) i) ((ap (map kept_list) c.as_slice.ensures.value ∙ olds) i))))
    (c.in_ok-put_lists.ensures ∙ (λ i. map shown_change c.drop_lists.new.changes.items ++ put_lists (t i) (changed key_cmp same_spots ((ap (map kept_list) c.as_slice-3.ensures.value ∙ olds) i) (news i))))
    (c.in_ok-drop_sizes.ensures ∙ (λ i. map shown_change c.put_lists.new.changes.items ++ dropped_sizes (t i) (gone column_key_cmp (first.sizes i) (last.sizes i))))
    (c.in_ok-put_sizes.ensures ∙ (λ i. map shown_change c.drop_sizes.new.changes.items ++ put_sizes (t i) (changed column_key_cmp int_eq (first.sizes i) (last.sizes i)))) in
    let width = length-map c.args.columns.now column_of in
    record {
      plan = plan;
      right = subst (AreRight c.args.tab columns rewrites) (sym plan) (are_right c.args.tab columns rewrites);
      packable = λ few rising fits. are_packable c.args.tab columns rewrites c.put_sizes.new.changes.items plan (rw width few) rising (rw width fits) last.numbers;
      near = All-same (IsOfDocids c.args.tab (rewritten_docids rewrites)) made (rewrite_changes c.args.tab columns rewrites) plan (near c.args.tab columns rewrites);
    }
