-- They stand in order, or a sort that keeps ties puts them so.
use Rattle.std.proofs.Common.{◌≡◌, ◌+◌, Bool, true, false, not, ◌&&◌, List, map, get_or, ℤ, refl, sym, ap, ◌∙◌, arith, rules, filter, Ordering, Less, Equal, Greater, int_cmp, int_eq, is_eq, is_le, is_lt}
use Rattle.ft_rows.specs.declared.terms.Posting.{Posting}
use Rattle.ft_documents.proofs.Common.{int_cmp_total, ties, ordering_reverse, answers_always, spot_of, rise, by_docids}
use Rattle.ft_documents.proofs.AskedLemmas.{neighbours_tell}
use Rattle.ft_documents.proofs.document_index.put_in_order.Goals as goal

abbrev before : Posting → Posting → Bool
before p q = is_lt (int_cmp p.docid q.docid)

not_after : (a b : ℤ) → is_lt (int_cmp b a) ≡ false → true ≡ is_le (int_cmp a b)
not_after a b h = go (int_cmp b a) (int_cmp_total.antisymm a b) h
  where
    go : (o : Ordering) → int_cmp a b ≡ ordering_reverse o → is_lt o ≡ false → true ≡ is_le (int_cmp a b)
    go Less is h = absurd (let e = h in cc)
    go Equal is _ = ap is_le (sym is)
    go Greater is _ = ap is_le (sym is)

same_docid : (a b : ℤ) → (not (is_lt (int_cmp a b)) && not (is_lt (int_cmp b a))) ≡ int_eq a b
same_docid a b = go (int_cmp a b) refl
  where
    go : (o : Ordering) → int_cmp a b ≡ o → (not (is_lt (int_cmp a b)) && not (is_lt (int_cmp b a))) ≡ is_eq (int_cmp a b)
    go Less is = ap (λ o. not (is_lt o) && not (is_lt (int_cmp b a))) is ∙ ap is_eq (sym is)
    go Equal is = (λ i. not (is_lt (is i)) && not (is_lt ((int_cmp_total.antisymm b a ∙ ap ordering_reverse is) i))) ∙ ap is_eq (sym is)
    go Greater is = (λ i. not (is_lt (is i)) && not (is_lt ((int_cmp_total.antisymm b a ∙ ap ordering_reverse is) i))) ∙ ap is_eq (sym is)

abbrev of_docid : ℤ → Posting
of_docid d = record { docid = d; spot = record { column = 0; pos = 0; place = 0; size = 0 } }

own_docid : (d : ℤ) (ps : List Posting) → filter (λ (p : Posting). int_eq d p.docid) ps ≡ filter (ties before (of_docid d)) ps
own_docid d ps = λ i. filter (λ (p : Posting). sym (same_docid d p.docid) i) ps

pub returns-in_ok-sort_by_key : goal.returns-in_ok-sort_by_key
returns-in_ok-sort_by_key c =
    let old = c.args.postings.now.items in
    let new = c.sort_by_key.new.self.items in
    let sorted = c.in_ok-sort_by_key.ensures.sorted (λ p. p.docid) (answers_always _ _ _ (λ f a r g called. search rules)) in
    let stable = c.in_ok-sort_by_key.ensures.stable (λ p. p.docid) (answers_always _ _ _ (λ f a r g called. search rules)) in (
      sym (neighbours_tell by_docids new true (λ k d within. not_after (get_or new k d).docid (get_or new (k + 1) d).docid (sorted k d (omega arith) within))),
      (λ i d. map spot_of ((own_docid d new ∙ stable (of_docid d) ∙ sym (own_docid d old)) i)),
    )

pub returns-else-not-is_sorted_by_key : goal.returns-else-not-is_sorted_by_key
returns-else-not-is_sorted_by_key c =
    let items = c.args.postings.now.items in
    let is = c.is_sorted_by_key.ensures.cases (λ p. p.docid) (answers_always _ _ _ (λ f a r g called. search rules)) in
    (sym (sym c.if-not-is_sorted_by_key.false ∙ neighbours_tell by_docids c.deref.result.now c.is_sorted_by_key.result is ∙ ap (rise by_docids) c.deref.ensures.value), refl)
