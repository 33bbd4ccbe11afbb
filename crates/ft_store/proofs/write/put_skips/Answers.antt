use Rattle.std.proofs.Common.{rules, length, take, subst, refl, Ok, ◌+◌, ℤ, List, pos, get_or, FitsSigned, w64, to_z-of_z, take_all}
use Rattle.ft_store.proofs.Common.{state, with_skipped}
use Rattle.ft_store.specs.Changes.{ChangesIfOpen}
use Rattle.ft_store.proofs.CantLemmas.{room_left, full_since, full_more}
use Rattle.ft_store.proofs.InsideLemmas.{if_open, skips_on, stops, open_then}
use Rattle.ft_store.proofs.write.put_skips.Goals as goal

pub loop-column-preserved : goal.loop-column-preserved
loop-column-preserved g c =
    let skipped = c.args.skipped.now in
    let at = c.loop-column.column-index in
    let fits : FitsSigned w64 (get_or skipped at (pos 0)) = search rules in
    skips_on g.S.Store _ _ _ _ _ skipped at _ c.loop-column-test.true c.loop-column.invariant c.in_ok-put_skip.ensures (to_z-of_z fits)

pub returns : goal.returns
returns g c =
    let done = λ (n : ℤ) (skipped : List ℤ). ChangesIfOpen g.S.Store c.args.tx.now.conn c.loop-column.tx.conn (Ok tt) (λ v. record v { skipped = with_skipped n skipped v.skipped }) (length skipped) (λ _. ⊥) in
    let it = subst (done c.args.tab) (take_all c.loop-column.column-index c.args.skipped.now c.loop-column-test.false) (subst (λ n. done n (take c.loop-column.column-index c.args.skipped.now)) (to_z-of_z c.ranges.tab) c.loop-column.invariant) in
    record { done = it.done; grown = it.grown; refused = λ clean inside is_open store is. absurd (let no = is in cc) }

pub returns-in_err-put_skip : goal.returns-in_err-put_skip
returns-in_err-put_skip g c =
    let old = (state g.S.Store c.args.tx.now.conn.now).now.trees in
    let was = (state g.S.Store c.loop-column.tx.conn.now).now.trees in
    let skipped = c.args.skipped.now in
    let at = c.loop-column.column-index in
    let n = length (take at skipped) in
    stops g.S.Store _ _ c.put_skip.result c.from_residual.result c.in_err-put_skip.field-0.0 _ _ _ _ _ (search rules) (search rules)
    (open_then g.S.Store _ _ _ c.put_skip.result _ _ n 1 (n + 1) (λ _. ⊥) _ _ (if_open g.S.Store _ _ _ _ 1 _ c.put_skip.ensures) refl
    (λ one grown full. full_more (n + 1) (length skipped) (old 13) (room_left skipped at c.loop-column-test.true) (full_since n 1 (old 13) (was 13) grown.1.1.1.1.1.0 full)) c.loop-column.invariant)
