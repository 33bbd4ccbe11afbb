use Rattle.std.proofs.Common.{◌≡◌, sym, ap, ◌∙◌, ◌+◌, ◌++◌, ◌∷◌, map, drop, length, string_bytes}
use Rattle.std.specs.Prelude.{◌==◌}
use Rattle.std.proofs.lemmas.List.{drop_more, length-drop, length-map}
use Rattle.shell_text.specs.Print.{first_width, in_columns}
use Rattle.shell_text.proofs.Columns.{column_step, column_text, last_is}
use Rattle.shell_text.proofs.print.push_columns.Goals as goal

pub loop-i-preserved : goal.loop-i-preserved
loop-i-preserved c =
    let i = c.loop-i.i in
    let fields = c.args.fields.now in
    let widths = c.args.widths.now in
    let item = c.index-fields-i.result in
    let last = i + 1 == length fields in
    let rest : drop i fields ≡ item ∷ drop (i + 1) fields = drop_more fields i item c.loop-i-test.true ∙ ap (λ x. x ∷ drop (i + 1) fields) (sym c.index-fields-i.is) in
    let pushed = c.in_ok-push_padded.ensures ∙ ap (λ w. c.loop-i.text.items ++ column_text last w c.as_str.result.now) c.width_at.ensures
    ∙ ap (λ t. c.loop-i.text.items ++ column_text last (first_width (drop i widths)) t) c.as_str.ensures.value in
    ap (λ t. t ++ in_columns (drop (i + 1) widths) (map string_bytes (drop (i + 1) fields))) pushed
    ∙ column_step c.loop-i.text.items i widths (string_bytes item) (map string_bytes (drop i fields)) (map string_bytes (drop (i + 1) fields)) last
    (c.args.text.now.items ++ in_columns widths (map string_bytes fields)) (ap (map string_bytes) rest)
    (last_is i (length fields) (length (map string_bytes (drop (i + 1) fields))) c.loop-i-test.true (length-map (drop (i + 1) fields) string_bytes ∙ length-drop (i + 1) fields))
    c.loop-i.invariant
