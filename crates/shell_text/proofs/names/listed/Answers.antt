use Rattle.std.proofs.Common.{◌≡◌, sym, ap, ◌∙◌, ◌+◌, ◌-◌, ◌++◌, map, max, ◌/◌, length, replicate, string_bytes, rules}
use Rattle.std.specs.Int.{div_ceil}
use Rattle.std.proofs.lemmas.List.{length-map}
use Rattle.shell_text.specs.Print.{in_columns, names_in_columns, names_across, names_down, names_line, names_lines, names_on, widest}
use Rattle.shell_text.proofs.Listing.{lines_step}
use Rattle.shell_text.proofs.names.listed.Goals as goal

pub loop-j-preserved : goal.loop-j-preserved
loop-j-preserved c =
    let names = map string_bytes c.args.names.now in
    let j = c.loop-j.j in
    let down = c.div_ceil-down.result in
    let width = c.widest-width.ensures in
    let across : c.across-across.result ≡ names_across names = c.across-across.ensures.across ∙ ap (λ w. max 1 (80 / (w + 2))) width in
    let same : c.div_ceil-down.result ≡ names_down names =
    c.div_ceil-down.ensures ∙ ap (λ n. div_ceil n c.across-across.result) (sym (length-map c.args.names.now string_bytes)) ∙ ap (div_ceil (length names)) across in
    let made : c.in_ok-widths.widths.items ≡ replicate c.across-across.result c.widest-width.result = search rules in
    let widths : c.as_slice.result.now ≡ replicate (names_across names) (widest names) =
    c.as_slice.ensures.value ∙ made ∙ ap (λ n. replicate n c.widest-width.result) across ∙ ap (replicate (names_across names)) width in
    let names_is : map string_bytes c.as_slice-in-loop-j.result.now ≡ names_on (names_across names) (names_down names) j names =
    ap (map string_bytes) c.as_slice-in-loop-j.ensures.value ∙ c.in_ok-line.ensures ∙ ap (λ a. names_on a down j names) across ∙ ap (λ d. names_on (names_across names) d j names) same in
    let line : in_columns c.as_slice.result.now (map string_bytes c.as_slice-in-loop-j.result.now) ≡ names_line j names =
    ap (λ w. in_columns w (map string_bytes c.as_slice-in-loop-j.result.now)) widths ∙ ap (in_columns (replicate (names_across names) (widest names))) names_is in
    ap (λ t. t ++ names_lines (down - (j + 1)) (j + 1) names) (c.in_ok-push_columns.ensures ∙ ap (λ l. c.loop-j.text.items ++ l) line)
    ∙ lines_step c.loop-j.text.items down j names (names_in_columns names) c.loop-j-test.true c.loop-j.invariant
