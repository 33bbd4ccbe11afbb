use Rattle.std.proofs.Common.{rules, length, take, map, subst, refl, inl, inr, Ok, ◌+◌, ℤ, List, arith, to_z-of_z, String, string_bytes, take_all}
use Rattle.ft_store.proofs.Common.{enumerate_from, Global, ints, state, with_columns}
use Rattle.ft_store.specs.Changes.{ChangesIfOpen}
use Rattle.ft_store.proofs.CantLemmas.{room_left, big_name, full_since, full_more}
use Rattle.ft_store.proofs.InsideLemmas.{if_open, columns_on, stops, open_then}
use Rattle.ft_store.proofs.write.put_columns.Goals as goal

pub loop-at-preserved : goal.loop-at-preserved
loop-at-preserved g c =
    let names = c.args.columns.now in
    let at = c.loop-at.at in
    columns_on g.S.Store _ _ _ _ _ names at c.index-columns-at.result _ c.loop-at-test.true c.index-columns-at.is c.loop-at.invariant (rw c.as_str.ensures.value at c.in_ok-put_column.ensures) (omega (arith, ints))

pub returns : goal.returns
returns g c =
    let done = λ (n : ℤ) (names : List (String Global)). ChangesIfOpen g.S.Store c.args.tx.now.conn c.loop-at.tx.conn (Ok tt) (λ v. record v { columns = with_columns n (enumerate_from 0 (map string_bytes names)) v.columns }) (length names) (λ _. ⊥) in
    let it = subst (done c.args.tab) (take_all c.loop-at.at c.args.columns.now c.loop-at-test.false) (subst (λ n. done n (take c.loop-at.at c.args.columns.now)) (to_z-of_z c.ranges.tab) c.loop-at.invariant) in
    record { done = it.done; grown = it.grown; refused = λ clean inside is_open store is. absurd (let no = is in cc) }

pub returns-in_err-put_column : goal.returns-in_err-put_column
returns-in_err-put_column g c =
    let old = (state g.S.Store c.args.tx.now.conn.now).now.trees in
    let was = (state g.S.Store c.loop-at.tx.conn.now).now.trees in
    let names = c.args.columns.now in
    let at = c.loop-at.at in
    let n = length (take at names) in
    stops g.S.Store _ _ c.put_column.result c.from_residual.result c.in_err-put_column.field-0.0 _ _ _ _ _ (search rules) (search rules)
    (open_then g.S.Store _ _ _ c.put_column.result _ _ n 1 (n + 1) (λ _. ⊥) _ _ (if_open g.S.Store _ _ _ _ 1 _ (rw c.as_str.ensures.value at c.put_column.ensures)) refl (λ one grown why. elim why [
      | inl full ↦ inl (full_more (n + 1) (length names) (old 3) (room_left names at c.loop-at-test.true) (full_since n 1 (old 3) (was 3) grown.0 full))
      | inr big ↦ inr (big_name names at c.index-columns-at.result c.loop-at-test.true c.index-columns-at.is big)
    ]) c.loop-at.invariant)
