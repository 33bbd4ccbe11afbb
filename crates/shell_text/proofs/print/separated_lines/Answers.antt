-- one line more
use Rattle.std.proofs.Common.{Bool, true, false, List, ℕ, ◌≡◌, ◌+◌, ◌++◌, ◌∷◌, [], refl, sym, ap, ◌∙◌, map, take, string_bytes, Vec, Global, append-nil}
use Rattle.std.specs.List.{flat_map}
use Rattle.std.proofs.lemmas.List.{take_more, map-append}
use Rattle.std.proofs.lemmas.Grind.{flat_map-append}
use Rattle.shell_text.specs.Print.{printed_cell, separated, shows_headers, value_of_cell, with_header}
use Rattle.shell_text.specs.declared.print.Cell.{Cell}
use Rattle.shell_text.proofs.print.separated_lines.Goals as goal

header_first : (shows : Bool) (names : List (List ℕ)) (rows : List (List (List ℕ))) (row : List (List ℕ)) → with_header shows names (rows ++ row ∷ []) ≡ with_header shows names rows ++ row ∷ []
header_first true names rows row = refl
header_first false names rows row = refl

pub loop-row-preserved : goal.loop-row-preserved
loop-row-preserved c =
    let i = c.loop-row.row-index in
    let rows = c.args.rows.now in
    let item = c.row-item.result in
    let settings = c.args.settings.now in
    let names = map string_bytes c.args.names.now in
    let line = separated settings.separator in
    let texts : Vec Cell Global → List (List ℕ) = λ row. map (λ cell. printed_cell settings (value_of_cell cell)) row.items in
    let more : with_header (shows_headers settings) names (map texts (take (i + 1) rows)) ≡ with_header (shows_headers settings) names (map texts (take i rows)) ++ texts item ∷ [] =
    ap (λ rs. with_header (shows_headers settings) names (map texts rs)) (take_more rows i item c.loop-row-test.true ∙ ap (λ x. take i rows ++ x ∷ []) (sym c.row-item.is))
    ∙ ap (with_header (shows_headers settings) names) (map-append texts (take i rows) (item ∷ [])) ∙ header_first (shows_headers settings) names (map texts (take i rows)) (texts item) in
    c.in_ok-push_row.ensures ∙ (λ j. c.loop-row.invariant j ++ line (map (λ cell. printed_cell settings (value_of_cell cell)) (c.as_slice.ensures.value j))) ∙ ap (λ t. flat_map line (with_header (shows_headers settings) names (map texts (take i rows))) ++ t) (sym (append-nil (line (texts item))))
    ∙ sym (flat_map-append line (with_header (shows_headers settings) names (map texts (take i rows))) (texts item ∷ [])) ∙ ap (flat_map line) (sym more)
