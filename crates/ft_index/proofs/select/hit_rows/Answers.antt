-- a row more, with the cells that were read
use Rattle.std.proofs.Common.{◌≡◌, ◌+◌, ◌-◌, ◌*◌, ◌^◌, ℕ, ℤ, List, [], ◌∷◌, ◌++◌, Vec, Global, arith, min, cond, true, false, None, Some, option_map, vec_len, refl, map, length, take, sym, ap, subst, ◌∙◌, to_z, of_z, w64, to_z-of_z, FitsSigned, rules, IsTrue, IsSome, flat_map, int_cmp}
use Rattle.ft_index.proofs.Common.{unwrap_or, list_any, find, take_more, take_all, map-append, length-map, HasCleanDisk, Hit, offsets_text}
use Rattle.ft_index.proofs.Common.{StoreState, shows, more_rows, shown_value, Cell, Text, Value, cells_with, Content, bare_content, cells_of, rows_of}
use Rattle.ft_index.proofs.Common.{column_of, item_of, HasRows, Looks, cells_at, reads_document, hit_cells}
use Rattle.std.specs.Option.{option_map_or}
use Rattle.ft_index.proofs.Doing.{looks_then, rows_first, rows_then, then_blamed, has_at, rows_in, none_there, there_of}
use Rattle.ft_index.proofs.SelectAnswers.{row_unread, found_wide, counted_more}
use Rattle.ft_index.proofs.select.hit_rows.Goals as goal
use Rattle.ft_index.proofs.select.hit_rows.Goals.{then-reads+in_ok-document+in_ok-cells, else-reads}

-- no row more is no change of the count
kept_read : (rows middle n : ℕ) → middle ≡ min (rows + n) (2 ^ 64 - 1) → middle ≡ min (middle + 0) (2 ^ 64 - 1)
kept_read rows middle n before = omega arith

-- the cells of the document that was read
read_cells : (content : Content) (docid : ℤ) (cells : List Cell) → find int_cmp docid content.documents ≡ Some cells → cells ≡ cells_at content docid
read_cells content docid cells found = ap (λ o. unwrap_or o []) (sym found)

pub loop-hit-preserved : goal.loop-hit-preserved
loop-hit-preserved g c =
    let so_far = c.loop-hit.invariant in
    let first = c.args.store.now in
    let middle = c.loop-hit.store in
    let tab : ℤ = to_z w64 (of_z w64 c.args.tab) in
    let items = map item_of c.args.items.now in
    let columns = map column_of c.args.columns.now in
    let hit : Hit = c.hit-item.result in
    let k = c.loop-hit.hit-index in
    let fits : FitsSigned w64 hit.docid = search rules in
    let back : to_z w64 (of_z w64 hit.docid) ≡ hit.docid = to_z-of_z fits in
    let cells : List Cell = cells_of c.if-reads.cells in
    let made : cells_of c.in_ok-item_row.field-0 ≡ hit_cells columns items (λ k. cells) hit =
    c.in_ok-item_row.ensures.given ∙ (λ i. flat_map (cells_with (Text ((c.as_str-offsets.ensures.value ∙ c.in_ok-offsets.ensures ∙ ap offsets_text c.as_slice.ensures.value) i)) (bare_content c.args.columns.now) (back i, map shown_value (c.as_slice-cells.ensures.value i))) items) in
    let more = take_more c.args.hits.now k hit c.loop-hit-test.true ∙ ap (λ (h : Hit). take k c.args.hits.now ++ h ∷ []) (sym c.hit-item.is) in
    let added : (content : Content) → rows_of c.loop-hit.rows ≡ map (hit_cells columns items (cells_at content)) (take k c.args.hits.now) → hit_cells columns items (λ k. cells) hit ≡ hit_cells columns items (cells_at content) hit →
    rows_of c.push.new.self ≡ map (hit_cells columns items (cells_at content)) (take (k + 1) c.args.hits.now) = λ content before same.
    let row : Hit → List Cell = hit_cells columns items (cells_at content) in
    ap (map cells_of) c.in_ok-push.ensures.items ∙ map-append cells_of c.loop-hit.rows.items (c.in_ok-item_row.field-0 ∷ [])
    ∙ (λ i. before i ++ (made ∙ same) i ∷ [])
    ∙ sym (ap (map row) more ∙ map-append row (take k c.args.hits.now) (hit ∷ [])) in
    elim c.if-reads.branch [
      | then-reads+in_ok-document+in_ok-cells w ↦
          let read = w.in_ok-document.ensures in
          let some : w.in_ok-document.field-0 ≡ Some w.in_ok-cells.cells = search rules in
          let last : StoreState g.row.S.Denot = w.document.new.store in
          let has : list_any reads_document items ≡ true = sym c.has_column-reads.ensures ∙ w.if-reads.true in
          record {
            looks = subst (Looks g.S.Store first) (sym w.store-is) (looks_then g.S.Store first middle last so_far.looks read.looks.only so_far.live);
            live = subst (λ (s : StoreState g.row.S.Denot). HasCleanDisk (shows g.S.Store s) → IsTrue (shows g.S.Store first).is_open → IsTrue (shows g.S.Store s).is_open) (sym w.store-is) (λ clean _. read.looks.live clean);
            found = λ content held.
                let rows = subst (λ (s : StoreState g.row.S.Denot). HasRows g.S.Store tab first s content) w.store-is held in
                let found = sym (read.told content (rows_then g.S.Store first middle last so_far.looks read.looks.only tab content rows)) ∙ ap (option_map cells_of) some in
                let here : cells ≡ cells_at content hit.docid = ap (λ (v : Vec Value Global). cells_of v) w.cells-is ∙ read_cells content hit.docid (cells_of w.in_ok-cells.cells) (ap (λ (d : ℤ). find int_cmp d content.documents) (sym back) ∙ found) in
                added content (so_far.found content (rows_first g.S.Store first middle last so_far.looks read.looks.only tab content rows)) (ap (λ (cs : List Cell). hit_cells columns items (λ k. cs) hit) here);
            counted = λ content held.
                let rows = subst (λ (s : StoreState g.row.S.Denot). HasRows g.S.Store tab first s content) w.store-is held in
                let found = sym (read.told content (rows_then g.S.Store first middle last so_far.looks read.looks.only tab content rows)) ∙ ap (option_map cells_of) some in
                let width = length content.columns in
                let wide = found_wide rows.name content (to_z w64 (of_z w64 hit.docid)) (cells_of w.in_ok-cells.cells) rows.is_content found in
                let many : w.in_ok-cells.cells.len ≡ cond (list_any reads_document items) width 0 =
                w.in_ok-cells.cells.ok.0 ∙ sym (length-map w.in_ok-cells.cells.items shown_value) ∙ wide ∙ sym (ap (λ b. cond b width 0) has) in
                ap (λ (s : StoreState g.row.S.Denot). s.rows_read) w.store-is
                ∙ counted_more first.rows_read middle.rows_read last.rows_read (cond (list_any reads_document items) width 0) k w.in_ok-cells.cells.len many (so_far.counted content (rows_first g.S.Store first middle last so_far.looks read.looks.only tab content rows)) (read.counted ∙ ap (λ o. more_rows (option_map_or vec_len o 0) middle) some);
          }
      | else-reads w ↦
          let none : list_any reads_document items ≡ false = sym c.has_column-reads.ensures ∙ w.if-reads.false in
          record {
            looks = subst (Looks g.S.Store first) (sym w.store-is) so_far.looks;
            live = subst (λ (s : StoreState g.row.S.Denot). HasCleanDisk (shows g.S.Store s) → IsTrue (shows g.S.Store first).is_open → IsTrue (shows g.S.Store s).is_open) (sym w.store-is) so_far.live;
            found = λ content held.
                added content (so_far.found content (subst (λ (s : StoreState g.row.S.Denot). HasRows g.S.Store tab first s content) w.store-is held)) (row_unread columns items content cells hit none);
            counted = λ content held.
                let before = so_far.counted content (subst (λ (s : StoreState g.row.S.Denot). HasRows g.S.Store tab first s content) w.store-is held) in
                let width = cond (list_any reads_document items) (length content.columns) 0 in
                let zero : width ≡ 0 = ap (λ b. cond b (length content.columns) 0) none in
                ap (λ (s : StoreState g.row.S.Denot). s.rows_read) w.store-is
                ∙ counted_more first.rows_read middle.rows_read middle.rows_read width k 0 (sym zero) before (kept_read first.rows_read middle.rows_read (width * k) before);
          }
    ]

pub returns-clause-told : goal.returns-clause-told
returns-clause-told g c = λ content rows.
    let row : Hit → List Cell = hit_cells (map column_of c.args.columns.now) (map item_of c.args.items.now) (cells_at content) in
    c.loop-hit.invariant.found content (subst (λ (k : ℤ). HasRows g.S.Store k c.args.store.now c.loop-hit.store content) (sym (to_z-of_z c.ranges.tab)) rows)
    ∙ ap (map row) (take_all c.loop-hit.hit-index c.args.hits.now c.loop-hit-test.false)

pub returns-in_err-push-clause-looks : goal.returns-in_err-push-clause-looks
returns-in_err-push-clause-looks g c = record {
  only = elim c.if-reads.branch [
    | then-reads+in_ok-document+in_ok-cells w ↦ subst (Looks g.S.Store c.args.store.now) (sym w.store-is) (looks_then g.S.Store c.args.store.now c.loop-hit.store w.document.new.store c.loop-hit.invariant.looks w.in_ok-document.ensures.looks.only c.loop-hit.invariant.live)
    | else-reads w ↦ subst (Looks g.S.Store c.args.store.now) (sym w.store-is) c.loop-hit.invariant.looks
  ];
  live = search rules;
  cause = search rules;
}

pub returns-in_err-document-clause-refused : goal.returns-in_err-document-clause-refused
returns-in_err-document-clause-refused g c = λ name content has there clean told.
    let so_far = c.loop-hit.invariant in
    then_blamed g.S.Store c.args.store.now c.loop-hit.store c.document.new.store so_far.looks so_far.live c.in_err-document.ensures.looks.only.survives clean (λ middle is_open same. c.document.ensures.refused clean (search rules))

pub returns-in_err-cells-clause-refused : goal.returns-in_err-cells-clause-refused
returns-in_err-cells-clause-refused g c = λ name content has there clean told.
    let so_far = c.loop-hit.invariant in
    let read = c.in_ok-document.ensures in
    let hit : Hit = c.hit-item.result in
    let fits : FitsSigned w64 hit.docid = search rules in
    let here = subst (λ (h : Hit). IsSome (find int_cmp h.docid content.documents)) (sym c.hit-item.is) (there_of content c.args.hits.now there c.loop-hit.hit-index hit c.loop-hit-test.true) in
    let none : c.in_ok-document.field-0 ≡ None = search rules in
    then_blamed g.S.Store c.args.store.now c.loop-hit.store c.document.new.store so_far.looks so_far.live read.looks.only.survives clean (λ middle is_open same.
    let rows = rows_in g.S.Store _ c.args.tab (to_z-of_z c.ranges.tab) c.loop-hit.store c.document.new.store name content (has_at (sym same) refl has) clean (read.looks.live clean) in
    absurd (none_there content hit.docid here (ap (λ (k : ℤ). find int_cmp k content.documents) (sym (to_z-of_z fits)) ∙ sym (read.told content rows) ∙ ap (option_map cells_of) none)))
