-- by the row changes of all documents at once
use Rattle.std.proofs.Common.{rules, map, subst, to_z-of_z, to_z, of_z, w64, FitsSigned, All}
use Rattle.ft_index.proofs.Common.{shown_change, column_of, AreRight, shown_rewrite, rewritten_docids, IsOfDocids}
use Rattle.ft_index.proofs.written.Written.changes.Goals as goal

pub returns : goal.returns
returns c =
    let known = c.args.self.table.now in
    let rewrites = c.args.self.rewrites in
    let fits : FitsSigned w64 known.id = search rules in
    let list = map shown_change c.in_ok-row_changes.field-0.items in (
      subst (λ k. AreRight k (map column_of known.columns.items) (map shown_rewrite rewrites.items) list) (to_z-of_z fits)
          (subst (λ l. AreRight (to_z w64 (of_z w64 known.id)) (map column_of l) (map shown_rewrite rewrites.items) list) c.as_slice.ensures.value c.in_ok-row_changes.ensures.right),
      subst (λ k. All (IsOfDocids k (rewritten_docids (map shown_rewrite rewrites.items))) list) (to_z-of_z fits) c.in_ok-row_changes.ensures.near,
    )
