-- what leaves a docid stands by what comes under another, by rising docid
use Rattle.std.proofs.Common.{◌≡◌, ℤ, ℕ, Bool, true, false, cond, List, [], ◌∷◌, ◌++◌, map, option_map, None, refl, sym, ap, subst, ◌∙◌, rules, to_z, of_z, w64, to_z-of_z, int_lt, insert, int_cmp, int_eq, is_lt}
use mir.Val.{bool_byte}
use Rattle.ft_documents.proofs.Common.{cells_of, shown_rewrite, leaving, coming, moved_from, MovesOnly}
use Rattle.ft_documents.proofs.TableListLemmas.{less_is}
use Rattle.ft_documents.specs.declared.rewrite.Rewrite as source
use Rattle.ft_documents.proofs.writes.move_only.Goals as goal

as_byte : (b : Bool) → bool_byte b ≡ cond b 1 0
as_byte true = refl
as_byte false = refl

placed : (b : Bool) (place : ℕ) (leaves comes : source.Rewrite) → place ≡ cond b 1 0 → map shown_rewrite (insert (leaves ∷ []) place comes) ≡ cond b (shown_rewrite leaves ∷ shown_rewrite comes ∷ []) (shown_rewrite comes ∷ shown_rewrite leaves ∷ [])
placed true place leaves comes at = ap (λ n. map shown_rewrite (insert (leaves ∷ []) n comes)) at
placed false place leaves comes at = ap (λ n. map shown_rewrite (insert (leaves ∷ []) n comes)) at

moves : (docid : ℤ) (kept : List source.Rewrite) (only leaves comes : source.Rewrite) (place : ℕ) → int_eq only.docid docid ≡ false → place ≡ cond (is_lt (int_cmp only.docid docid)) 1 0
    → shown_rewrite leaves ≡ leaving (shown_rewrite only) → shown_rewrite comes ≡ coming (shown_rewrite only) docid
    → MovesOnly docid (map shown_rewrite (kept ++ only ∷ [])) (map shown_rewrite (insert (kept ++ leaves ∷ []) place comes))
moves docid [] only leaves comes place apart at left came = record {
  none = λ e. absurd (cc);
  only = λ r e.
      let is : shown_rewrite only ≡ r = cc in
      let here : map shown_rewrite (insert (leaves ∷ []) place comes) ≡ moved_from (shown_rewrite only) docid =
      placed (is_lt (int_cmp only.docid docid)) place leaves comes at
      ∙ (λ i. cond (is_lt (int_cmp only.docid docid)) (left i ∷ came i ∷ []) (came i ∷ left i ∷ []))
      ∙ sym (ap (λ b. cond b (shown_rewrite only ∷ []) (cond (is_lt (int_cmp only.docid docid)) (leaving (shown_rewrite only) ∷ coming (shown_rewrite only) docid ∷ []) (coming (shown_rewrite only) docid ∷ leaving (shown_rewrite only) ∷ []))) apart) in
      here ∙ ap (λ r. moved_from r docid) is;
}
moves docid (k ∷ []) only leaves comes place apart at left came = record { none = λ e. absurd (cc); only = λ r e. absurd (cc) }
moves docid (k ∷ l ∷ ks) only leaves comes place apart at left came = record { none = λ e. absurd (cc); only = λ r e. absurd (cc) }

pub returns-in_ok-insert : goal.returns-in_ok-insert
returns-in_ok-insert c =
    let only = c.in-Some.only in
    let d : to_z w64 (of_z w64 only.docid) ≡ only.docid = search rules in
    let t = to_z-of_z c.ranges.docid in
    let apart : int_eq only.docid c.args.docid ≡ false = search rules in
    let at : c.from-place.result ≡ cond (is_lt (int_cmp only.docid c.args.docid)) 1 0 =
    c.from-place.ensures ∙ (λ i. bool_byte (int_lt (d i) (t i))) ∙ as_byte (int_lt only.docid c.args.docid) ∙ ap (λ b. cond b 1 0) (sym (less_is only.docid c.args.docid)) in
    let left : shown_rewrite c.new.result ≡ leaving (shown_rewrite only) = ap shown_rewrite c.new.ensures ∙ (λ i. record { docid = d i; before = option_map cells_of only.before; after = None }) in
    let came : shown_rewrite c.new-else-only-docid.result ≡ coming (shown_rewrite only) c.args.docid = ap shown_rewrite c.new-else-only-docid.ensures ∙ (λ i. record { docid = t i; before = None; after = option_map cells_of only.after }) in
    let new = c.in_ok-insert.ensures.items ∙ ap (λ rs. insert rs c.from-place.result c.new-else-only-docid.result) c.in_ok-push-2.ensures.items in
    subst (λ rs. MovesOnly c.args.docid (map shown_rewrite rs) (map shown_rewrite c.insert.new.self.items)) (sym c.in-Some.ensures.items)
    (subst (λ rs. MovesOnly c.args.docid (map shown_rewrite (c.pop.new.self.items ++ only ∷ [])) (map shown_rewrite rs)) (sym new)
    (moves c.args.docid c.pop.new.self.items only c.new.result c.new-else-only-docid.result c.from-place.result apart at left came))
