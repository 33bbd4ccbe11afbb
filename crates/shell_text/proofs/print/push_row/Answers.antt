use Rattle.std.proofs.Common.{rules, ℕ, ◌<◌, ◌≤◌, List, [], ◌∷◌, ◌≡◌, ◌++◌, refl, sym, ap, ◌∙◌, arith, map, length, take, string_bytes}
use Rattle.std.specs.List.{flat_map, join_by}
use Rattle.std.proofs.lemmas.List.{append-nil, append_assoc, length-take, take_all, take_more}
use Rattle.std.proofs.lemmas.List.Concat.{flat_map-append}
use Rattle.shell_text.specs.Print.{newline, printed_cell, value_of_cell}
use Rattle.shell_text.specs.declared.print.Cell.{Cell}
use Rattle.shell_text.proofs.print.push_row.Goals as goal
use Rattle.shell_text.proofs.print.push_row.Goals.{then-i-gt0+in_ok-push_str, else-i-gt0}

-- texts joined are what is joined of those that they are made of
joined : (f : Cell → List ℕ) (sep : List ℕ) (cells : List Cell) → join_by f sep cells ≡ join_by (λ text. text) sep (map f cells)
joined f sep [] = refl
joined f sep (cell ∷ cells) = ap (λ rest. f cell ++ rest) (more cells)
  where
    more : (cells : List Cell) → flat_map (λ it. sep ++ f it) cells ≡ flat_map (λ text. sep ++ text) (map f cells)
    more [] = refl
    more (it ∷ its) = ap (λ rest. (sep ++ f it) ++ rest) (more its)

-- one more, the first or another
first : (f : Cell → List ℕ) (sep : List ℕ) (cells : List Cell) (cell : Cell) → length cells ≤ 0 → join_by f sep cells ++ f cell ≡ join_by f sep (cells ++ cell ∷ [])
first f sep [] cell h = sym (append-nil (f cell))
first f sep (it ∷ its) cell h = absurd (omega arith)

next : (f : Cell → List ℕ) (sep : List ℕ) (cells : List Cell) (cell : Cell) → 0 < length cells → (join_by f sep cells ++ sep) ++ f cell ≡ join_by f sep (cells ++ cell ∷ [])
next f sep [] cell h = absurd (omega arith)
next f sep (it ∷ its) cell h =
    let g : Cell → List ℕ = λ it. sep ++ f it in
    append_assoc (f it ++ flat_map g its) sep (f cell) ∙ append_assoc (f it) (flat_map g its) (sep ++ f cell)
    ∙ ap (λ rest. f it ++ (flat_map g its ++ rest)) (sym (append-nil (sep ++ f cell))) ∙ ap (λ rest. f it ++ rest) (sym (flat_map-append g its (cell ∷ [])))

pub loop-i-preserved : goal.loop-i-preserved
loop-i-preserved c =
    let settings = c.args.settings.now in
    let sep = settings.separator in
    let cells = c.args.row.now in
    let cell = c.index-row-i.result in
    let i = c.loop-i.i in
    let f : Cell → List ℕ = λ cell. printed_cell settings (value_of_cell cell) in
    let old = string_bytes c.args.text.now in
    let before = take i cells in
    let many : length before ≡ i = omega (arith, length-take i cells, c.loop-i-test.true) in
    let more = ap (λ l. old ++ join_by f sep l) (ap (λ it. before ++ it ∷ []) c.index-row-i.is ∙ sym (take_more cells i cell c.loop-i-test.true)) in
    c.in_ok-push_cell.ensures ∙ elim c.if-i-gt0.branch [
      | then-i-gt0+in_ok-push_str w ↦
          ap (λ t. t ++ f cell) (ap string_bytes w.text-is ∙ w.in_ok-push_str.ensures.bytes ∙ (λ j. c.loop-i.invariant j ++ w.separator.ensures j) ∙ append_assoc old (join_by f sep before) sep)
          ∙ append_assoc old (join_by f sep before ++ sep) (f cell) ∙ ap (λ line. old ++ line) (next f sep before cell (omega (arith, many, w.if-i-gt0.true))) ∙ more
      | else-i-gt0 w ↦
          ap (λ t. t ++ f cell) (ap string_bytes w.text-is ∙ c.loop-i.invariant)
          ∙ append_assoc old (join_by f sep before) (f cell) ∙ ap (λ line. old ++ line) (first f sep before cell (omega (arith, many, w.if-i-gt0.false))) ∙ more
    ]

pub returns : goal.returns
returns c =
    let settings = c.args.settings.now in
    let cells = c.args.row.now in
    let f : Cell → List ℕ = λ cell. printed_cell settings (value_of_cell cell) in
    let old = string_bytes c.args.text.now in
    let line : join_by f settings.separator (take c.loop-i.i cells) ≡ join_by (λ text. text) settings.separator (map f cells) =
    ap (join_by f settings.separator) (take_all c.loop-i.i cells (omega (arith, c.loop-i-test.false))) ∙ joined f settings.separator cells in
    let whole = (λ k. (c.loop-i.invariant ∙ ap (λ l. old ++ l) line) k ++ newline) ∙ append_assoc old (join_by (λ text. text) settings.separator (map f cells)) newline in
    search (rules, whole)
