use Rattle.std.proofs.Common.{rules, length, map, arith, inl, inr, refl, ◌+◌, Ok, to_z-of_z, string_bytes, int_cmp}
use Rattle.ft_store.proofs.Common.{enumerate_from, put, state, StoreValue, without_rows, with_columns, with_skipped}
use Rattle.ft_store.proofs.InsideLemmas.{gives_up, open_on, changes_then}
use Rattle.ft_store.proofs.CantLemmas.{full_since, full_more}
use Rattle.ft_store.proofs.write.add_table.Goals as goal

pub returns-in_err-rename : goal.returns-in_err-rename
returns-in_err-rename g c =
    gives_up g.S.Store _ _ c.rename.result c.from_residual.result c.in_err-rename.field-0.0 _ _ 0 _ _ _ (search rules) (search rules) (simp (to_z-of_z, c.ranges.tab) at c.rename.ensures) (λ db why. elim why [ inl big ↦ inr (inr (inl big)) | inr other ↦ inr (inr (inr (inr other))) ])

pub returns-in_err-put_columns : goal.returns-in_err-put_columns
returns-in_err-put_columns g c =
    let old = (state g.S.Store c.args.tx.now.conn.now).now.trees in
    let mid = (state g.S.Store c.rename.new.tx.conn.now).now.trees in
    let n = length c.args.columns.now in
    gives_up g.S.Store _ _ c.put_columns.result c.from_residual-in_err-put_columns.result c.in_err-put_columns.field-0.0 _ _ n _ _ _ (search rules) (search rules)
    (changes_then g.S.Store _ _ _ c.put_columns.result _ _ 0 n n _ _ _ (simp (to_z-of_z, c.ranges.tab) at c.put_columns.ensures) (omega arith) (λ one grown why. elim why [
      | inl full ↦ inl (full_more (0 + n) (n + length c.args.skipped.now) (old 3) (omega arith) (full_since 0 n (old 3) (mid 3) grown.0 full))
      | inr big ↦ inr (inr (inr (inl big)))
    ]) (simp (to_z-of_z, c.ranges.tab) at c.in_ok-rename.ensures)) (λ db why. why)

pub returns : goal.returns
returns g c =
    let tab = c.args.tab in
    let names = map string_bytes c.args.columns.now in
    let n = length c.args.columns.now in
    let m = length c.args.skipped.now in
    let old = (state g.S.Store c.args.tx.now.conn.now).now.trees in
    let mid = (state g.S.Store c.put_columns.new.tx.conn.now).now.trees in
    let named = λ (v : StoreValue). record (without_rows tab v) { tables = put int_cmp tab c.args.name.now (without_rows tab v).tables } in
    let with_names = λ (v : StoreValue). record v { columns = with_columns tab (enumerate_from 0 names) v.columns } in
    let with_skips = λ (v : StoreValue). record v { skipped = with_skipped tab c.args.skipped.now v.skipped } in
    let columns = changes_then g.S.Store c.args.tx.now.conn c.rename.new.tx.conn c.put_columns.new.tx.conn (Ok tt) named with_names 0 n n _ (λ _. ⊥) (λ _. ⊥) (open_on g.S.Store _ _ with_names n _ (simp (to_z-of_z, c.ranges.tab) at c.in_ok-put_columns.ensures)) (omega arith) (λ _ _ none. none) (simp (to_z-of_z, c.ranges.tab) at c.in_ok-rename.ensures) in
    changes_then g.S.Store c.args.tx.now.conn c.put_columns.new.tx.conn c.put_skips.new.tx.conn c.put_skips.result (λ v. with_names (named v)) with_skips n m (n + m) _ _ _ (simp (to_z-of_z, c.ranges.tab) at c.put_skips.ensures) refl
    (λ one grown full. inr (inl (full_since n m (old 13) (mid 13) grown.1.1.1.1.1.0 full))) columns
