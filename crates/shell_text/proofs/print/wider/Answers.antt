use Rattle.std.proofs.Common.{◌≡◌, sym, ap, ◌∙◌, ◌+◌, ◌++◌, ◌∷◌, [], map, max, drop, string_bytes}
use Rattle.std.proofs.lemmas.List.{drop_more}
use Rattle.shell_text.specs.Print.{first_width, width_of, wider}
use Rattle.shell_text.proofs.Columns.{wider_step}
use Rattle.shell_text.proofs.print.wider.Goals as goal

pub loop-i-preserved : goal.loop-i-preserved
loop-i-preserved c =
    let i = c.loop-i.i in
    let row = c.args.row.now in
    let item = c.index-row-i.result in
    let rest : drop i row ≡ item ∷ drop (i + 1) row = drop_more row i item c.loop-i-test.true ∙ ap (λ x. x ∷ drop (i + 1) row) (sym c.index-row-i.is) in
    let width : c.max.result ≡ max (first_width (drop i c.args.widths.now)) (width_of (string_bytes item)) =
    c.max.ensures ∙ ap (λ a. max a c.width.result) c.width_at.ensures ∙ ap (λ b. max (first_width (drop i c.args.widths.now)) b) (c.width.ensures.value ∙ ap width_of c.as_str.ensures.value) in
    ap (λ w. w ++ wider (drop (i + 1) c.args.widths.now) (map string_bytes (drop (i + 1) row))) (c.in_ok-push.ensures.items ∙ ap (λ w. c.loop-i.wide.items ++ w ∷ []) width)
    ∙ wider_step c.loop-i.wide.items i c.args.widths.now (string_bytes item) (map string_bytes (drop i row)) (map string_bytes (drop (i + 1) row)) (wider c.args.widths.now (map string_bytes row))
    (ap (map string_bytes) rest) c.loop-i.invariant
