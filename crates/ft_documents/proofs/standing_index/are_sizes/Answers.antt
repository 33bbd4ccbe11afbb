-- as many rows, each of its size
use Rattle.std.proofs.Common.{◌≡◌, map, length, ap, ◌∙◌, sym, rules, ℤ, Bool, true, false, refl, ◌&&◌, int_eq, Decides, true≢false}
use Rattle.std.proofs.lemmas.Iterator.{YieldsList-from_zip, YieldsList-from_map, same_from_all}
use Rattle.std.proofs.lemmas.Bool.Decides.{Decides-and}
use Rattle.ft_documents.proofs.Common.{Decides-int_eq, Decides-eqb, YieldsList-from_rest, YieldsList-from_slice, YieldsList-at, length-map, size_under_key}
use Rattle.ft_documents.proofs.standing_index.are_sizes.Goals as goal

same_pair : (a b : (ℤ × ℤ) × ℤ) (t : Bool) → t ≡ ((int_eq a.0.0 b.0.0 && int_eq a.0.1 b.0.1) && int_eq a.1 b.1) → Decides t (a ≡ b)
same_pair a b t is =
    let each = Decides-and _ _ (Decides-and _ _ (Decides-int_eq a.0.0 b.0.0) (Decides-int_eq a.0.1 b.0.1)) (Decides-int_eq a.1 b.1) in (
      λ h. (let p = each.0 (sym is ∙ h) in λ i. ((p.0.0 i, p.0.1 i), p.1 i)),
      λ e. is ∙ each.1 ((ap (λ x. x.0.0) e, ap (λ x. x.0.1) e), ap (λ x. x.1) e),
    )

pub returns-then-rows-len : goal.returns-then-rows-len
returns-then-rows-len c =
    let rows = map size_under_key c.args.rows.now in
    let sizes = c.args.sizes.now.entries in
    let long : length rows ≡ length sizes = length-map c.args.rows.now size_under_key ∙ search rules in
    same_from_all c.all.new.self _ c.all.result rows sizes c.all.ensures.ran
    (YieldsList-from_zip (YieldsList-at c.zip-pairs.ensures.first (YieldsList-from_map _ size_under_key (YieldsList-at c.map-own.ensures.source (YieldsList-from_slice c.args.rows.now (search rules))) c.map-own.ensures.closure (λ x r q k. (search rules, search rules)))) (YieldsList-at c.zip-pairs.ensures.second (YieldsList-from_rest sizes (search rules))))
    long (λ x q k. (search rules, (same_pair x.0 (x.1.0.now, x.1.1.now) true (search rules)).0 refl)) (λ x q k e. true≢false (sym ((same_pair x.0 (x.1.0.now, x.1.1.now) false (search rules)).1 e)))

pub returns-else-rows-len : goal.returns-else-rows-len
returns-else-rows-len c = (
  λ no. absurd (c.if-rows-len.false ((Decides-eqb (length c.args.rows.now) c.len.result).0 no)),
  λ same. absurd (c.if-rows-len.false (sym (length-map c.args.rows.now size_under_key) ∙ ap length same ∙ search rules)),
)
