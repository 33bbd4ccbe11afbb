use Rattle.std.proofs.Common.{◌≡◌, ◌<◌, ◌+◌, ◌==◌, cond, map, drop, false, Some, None, sym, ap, subst, ◌∙◌, arith, rules, eq-eqb, FitsSigned, w64, to_z-of_z}
use Rattle.ft_documents.proofs.Common.{drop_all, shown_row}
use Rattle.ft_documents.proofs.Steps.{taken_more}
use Rattle.ft_documents.proofs.StandingContent.{follow, next_place, apart, a_step, no_step, told}
use Rattle.ft_documents.proofs.standing_rows.are_documents.Goals.{then-place-width, else-place-width}
use Rattle.ft_documents.proofs.standing_rows.are_documents.Goals as goal

pub returns-then-not-follows : goal.returns-then-not-follows
returns-then-not-follows c =
    let cells = c.args.cells.now in
    let i = c.loop-cell.cell-index in
    let cell = shown_row c.cell-item.result in
    let left = sym (taken_more (λ xs. follow c.args.width c.loop-cell.place c.loop-cell.last (map shown_row xs)) cells i c.cell-item.result c.loop-cell-test.true c.cell-item.is) ∙ c.loop-cell.invariant.1 in
    told c.args.width (map shown_row cells) false c.requires.0 (no_step c.args.width c.loop-cell.place c.loop-cell.last cell (map shown_row (drop (i + 1) cells)) _ (sym c.follows.ensures ∙ c.if-not-follows.true) left)

pub loop-cell-preserved : goal.loop-cell-preserved
loop-cell-preserved c =
    let cells = c.args.cells.now in
    let i = c.loop-cell.cell-index in
    let place = c.loop-cell.place in
    let width = c.args.width in
    let cell = shown_row c.cell-item.result in
    let fits : FitsSigned w64 c.cell-item.result.docid = search rules in
    let left = sym (taken_more (λ xs. follow width place c.loop-cell.last (map shown_row xs)) cells i c.cell-item.result c.loop-cell-test.true c.cell-item.is) ∙ c.loop-cell.invariant.1 in
    let next : c.if-place-width.place ≡ next_place width place = elim c.if-place-width.branch [
      | then-place-width w ↦ w.place-is ∙ ap (λ t. cond t 0 (place + 1)) (sym (eq-eqb (place + 1) width w.if-place-width.true))
      | else-place-width w ↦ w.place-is ∙ ap (λ t. cond t 0 (place + 1)) (sym (apart (place + 1) width w.if-place-width.false))
    ] in
    let within : c.if-place-width.place < width = elim c.if-place-width.branch [
      | then-place-width w ↦ omega (arith, w.place-is, c.requires.0)
      | else-place-width w ↦ omega (arith, w.place-is, w.if-place-width.false, c.loop-cell.invariant.0)
    ] in (
      within,
      subst (λ d. follow width c.if-place-width.place (Some d) (map shown_row (drop (i + 1) cells)) ≡ follow width 0 None (map shown_row cells)) (sym (to_z-of_z fits))
          (a_step width place c.if-place-width.place c.loop-cell.last cell (map shown_row (drop (i + 1) cells)) _ (sym c.follows.ensures ∙ c.if-not-follows.false) next left),
    )

pub returns : goal.returns
returns c =
    let cells = c.args.cells.now in
    told c.args.width (map shown_row cells) (c.loop-cell.place == 0) c.requires.0
    (sym c.loop-cell.invariant.1 ∙ ap (λ xs. follow c.args.width c.loop-cell.place c.loop-cell.last (map shown_row xs)) (drop_all c.loop-cell.cell-index cells c.loop-cell-test.false))
