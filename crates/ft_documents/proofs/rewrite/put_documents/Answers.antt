-- one rewrite more
use Rattle.std.proofs.Common.{◌≡◌, ℤ, ◌++◌, ◌∷◌, [], map, Option, Some, None, option_map, unwrap_or, Vec, Global, sym, ap, ◌∙◌, to_z, of_z, w64, rules}
use Rattle.ft_documents.proofs.Common.{map-append, Value, shown_value, shown_change, cells_of, Rewrite, shown_rewrite, put_cells, put_documents}
use Rattle.ft_documents.proofs.Steps.{piece_last}
use Rattle.ft_documents.proofs.rewrite.put_documents.Goals as goal

-- the cells of a document, none where there is none
cells_if : (cells : Option (Vec Value Global)) (none : Vec Value Global) → none.items ≡ [] → map shown_value (unwrap_or cells none).items ≡ unwrap_or (option_map cells_of cells) []
cells_if None none empty = ap (map shown_value) empty
cells_if (Some cells) none empty = search rules

pub loop-rewrite-preserved : goal.loop-rewrite-preserved
loop-rewrite-preserved c =
    let tab : ℤ = to_z w64 (of_z w64 c.args.tab) in
    let r = c.in-Some.rewrite in
    let d : to_z w64 (of_z w64 r.docid) ≡ r.docid = search rules in
    let before = ap (map shown_value) (c.as_slice.ensures.value ∙ ap (λ v. v.items) c.unwrap_or-before.ensures) ∙ cells_if r.before c.new.result c.new.ensures.items in
    let after = ap (λ v. map shown_value v.items) c.unwrap_or-after.ensures ∙ cells_if r.after c.new-in-loop-rewrite.result c.new-in-loop-rewrite.ensures.items in
    let first = map shown_change c.args.changes.now.items in
    piece_last (λ (r : Rewrite). put_cells tab r.docid (unwrap_or r.before []) (unwrap_or r.after [])) (map shown_rewrite c.loop-rewrite.yielded) (shown_rewrite r) (map shown_change c.loop-rewrite.changes.items) _ first
    (c.in_ok-put_cells.ensures ∙ (λ i. map shown_change c.loop-rewrite.changes.items ++ put_cells tab (d i) (before i) (after i))) c.loop-rewrite.invariant
    ∙ ap (λ rs. first ++ put_documents tab rs) (sym (map-append shown_rewrite c.loop-rewrite.yielded (r ∷ [])))
