-- one column more
use Rattle.std.proofs.Common.{◌≡◌, append-nil, ℤ, ◌+◌, ◌<◌, ◌++◌, List, [], ◌∷◌, map, length, take, cond, pos, sym, ap, ◌∙◌, arith, rules, to_z, w64, Vec, Global, length-take-le}
use Rattle.ft_values.specs.declared.table.Column.{Column}
use Rattle.ft_documents.proofs.Common.{map-append, take_more, length-map, skipped_from, column_of}
use Rattle.ft_documents.proofs.AddLemmas.{one_more_skipped}
use Rattle.ft_documents.proofs.tables.skipped.Goals.{then-not-column+in_ok-push, else-not-column}
use Rattle.ft_documents.proofs.tables.skipped.Goals as goal

pub loop-number-preserved : goal.loop-number-preserved
loop-number-preserved c =
    let n = c.loop-number.number in
    let front : List Column = take n c.args.columns.now in
    let column : Column = c.index-columns-number.result in
    let long : length (map column_of front) ≡ n = length-map front column_of ∙ (let h : n < length c.args.columns.now = c.loop-number-test.true in length-take-le n c.args.columns.now (omega (arith, h))) in
    let more : skipped_from 0 (map column_of (take (n + 1) c.args.columns.now)) ≡ skipped_from 0 (map column_of front) ++ cond column.indexed [] (pos n ∷ []) =
    ap (λ l. skipped_from 0 (map column_of l)) (take_more c.args.columns.now n column c.loop-number-test.true ∙ ap (λ x. front ++ x ∷ []) (sym c.index-columns-number.is))
    ∙ ap (skipped_from 0) (map-append column_of front (column ∷ []))
    ∙ one_more_skipped 0 (map column_of front) (column_of column)
    ∙ ap (λ k. skipped_from 0 (map column_of front) ++ cond column.indexed [] (pos k ∷ [])) (let e : 0 + length (map column_of front) ≡ n = omega (arith, long) in e) in
    let at : to_z w64 n ≡ pos n = search rules in
    elim c.if-not-column.branch [
      | then-not-column+in_ok-push w ↦ ap (λ (v : Vec ℤ Global). v.items) w.numbers-is ∙ w.in_ok-push.ensures.items
          ∙ (λ i. c.loop-number.invariant i ++ at i ∷ [])
          ∙ sym (more ∙ ap (λ b. skipped_from 0 (map column_of front) ++ cond b [] (pos n ∷ [])) w.if-not-column.true)
      | else-not-column w ↦ ap (λ (v : Vec ℤ Global). v.items) w.numbers-is ∙ c.loop-number.invariant
          ∙ sym (more ∙ ap (λ b. skipped_from 0 (map column_of front) ++ cond b [] (pos n ∷ [])) w.if-not-column.false ∙ append-nil (skipped_from 0 (map column_of front)))
    ]
