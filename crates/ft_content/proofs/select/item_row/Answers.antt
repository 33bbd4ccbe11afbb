-- the cells with the offsets as they are given
use Rattle.std.proofs.Common.{to_z, of_z, ◌≡◌, ◌++◌, ℕ, ℤ, Bool, false, cond, string_bytes, List, [], ◌∷◌, map, sym, ap, ◌∙◌, rules, option_and_then, slice_get, unwrap_or}
use Rattle.std.proofs.lemmas.Grind.{common_steps}
use Rattle.ft_content.proofs.Common.{flat_map, w64, map-append, take_all, Value, Cell, Int, Null, Text, shown_value, is_docid, cells_with, column_place, offsets_cell, bare_content, cells_of, item_of}
use Rattle.ft_commands.specs.declared.command.Item.{Item}
use Rattle.ft_content.proofs.AnswerLemmas.{item_cells_are, offsets_unasked}
use Rattle.ft_content.proofs.Lists.{copies}
use Rattle.ft_content.proofs.select.item_row.Goals.{Joined-item, in-All+in_ok-extend_with_clones-in-All, in-Name+in_ok-push-in-Name, in-Name-2+in_ok-cell_named-in-Name-2+in_ok-push-in-Name-2, in-Offsets+in_ok-to_string-in-Offsets+in_ok-push-in-Offsets}
use Rattle.ft_values.specs.declared.rows.Value.TheVariants as value
use Rattle.ft_commands.specs.Command as plain
use Rattle.ft_content.proofs.select.item_row.Goals as goal

whole : (c : goal.After-loop-item) → cells_of c.loop-item.row ≡ flat_map (cells_with (Text c.args.offsets.now) (bare_content c.args.columns.now) (c.args.docid, map shown_value c.args.cells.now)) (map item_of c.args.items.now)
whole c =
    let cells : ℤ → plain.Item → List Cell = λ docid. cells_with (Text c.args.offsets.now) (bare_content c.args.columns.now) (docid, map shown_value c.args.cells.now) in
    let back : to_z w64 (of_z w64 c.args.docid) ≡ c.args.docid = search rules in
    c.loop-item.invariant
    ∙ ap (λ (items : List Item). flat_map (cells (to_z w64 (of_z w64 c.args.docid))) (map item_of items)) (take_all c.loop-item.item-index c.args.items.now c.loop-item-test.false)
    ∙ ap (λ (docid : ℤ). flat_map (cells docid) (map item_of c.args.items.now)) back

pushed : (row new : List Value) (v : Value) (cells : List Cell) → new ≡ row ++ v ∷ [] → shown_value v ∷ [] ≡ cells → map shown_value new ≡ map shown_value row ++ cells
pushed row new v cells e same = ap (map shown_value) e ∙ map-append shown_value row (v ∷ []) ∙ ap (λ cs. map shown_value row ++ cs) same

added : (c : Joined-item) → cells_of c.match-item.row ≡ cells_of c.loop-item.row ++ cells_with (Text c.args.offsets.now) (bare_content c.args.columns.now) (to_z w64 (of_z w64 c.args.docid), map shown_value c.args.cells.now) (item_of c.item-item.result)
added c =
    let row = c.loop-item.row.items in
    let content = bare_content c.args.columns.now in
    let document : ℤ × List Cell = (to_z w64 (of_z w64 c.args.docid), map shown_value c.args.cells.now) in
    let seen : Item → List Cell = λ (item : Item). cells_with (Text c.args.offsets.now) content document (item_of item) in
    let cell : Bool → List ℕ → List Cell = λ (b : Bool) (n : List ℕ). cond b (Int document.0) (unwrap_or (option_and_then (slice_get document.1) (column_place content n)) Null) ∷ [] in
    elim c.match-item.branch as (λ _. cells_of c.match-item.row ≡ map shown_value row ++ seen c.item-item.result) [
      | in-All+in_ok-extend_with_clones-in-All w ↦
          let h = w.in_ok-extend_with_clones-in-All.ensures.items in
          ap cells_of w.row-is ∙ ap (map shown_value) h.1 ∙ map-append shown_value row h.0
          ∙ ap (λ cells. map shown_value row ++ cells) (copies shown_value (λ x y r. search rules) c.args.cells.now h.0 h.2 ∙ ap seen (sym w.in-All.is))
      | in-Name+in_ok-push-in-Name w ↦
          let yes = sym w.if-is_docid.true ∙ w.is_docid.ensures ∙ ap is_docid w.deref.ensures in
          ap cells_of w.row-is ∙ pushed row w.push.new.self.items (value.Int document.0) (seen c.item-item.result) w.in_ok-push-in-Name.ensures.items (ap (λ b. cell b (string_bytes w.in-Name.name)) yes ∙ ap seen (sym w.in-Name.is))
      | in-Name-2+in_ok-cell_named-in-Name-2+in_ok-push-in-Name-2 w ↦
          let name = string_bytes w.in-Name-2.name in
          let same : w.in-Name.name ≡ w.in-Name-2.name = cc (w.in-Name.is, w.in-Name-2.is) in
          let no : false ≡ is_docid name = sym w.if-is_docid.false ∙ w.is_docid.ensures ∙ ap is_docid (w.deref.ensures ∙ ap string_bytes same) in
          ap cells_of w.row-is
          ∙ pushed row w.push-in-Name-2.new.self.items w.in_ok-cell_named-in-Name-2.field-0 (seen c.item-item.result) w.in_ok-push-in-Name-2.ensures.items
          (ap (λ (x : Cell). x ∷ []) w.in_ok-cell_named-in-Name-2.ensures ∙ ap (cell false) w.deref-in-Name-2.ensures ∙ ap (λ b. cell b name) no ∙ ap seen (sym w.in-Name-2.is))
      | in-Offsets+in_ok-to_string-in-Offsets+in_ok-push-in-Offsets w ↦
          ap cells_of w.row-is
          ∙ pushed row w.push-in-Offsets.new.self.items (value.Text w.in_ok-to_string-in-Offsets.field-0) (seen c.item-item.result) w.in_ok-push-in-Offsets.ensures.items
          (ap (λ (bytes : List ℕ). Text bytes ∷ []) w.in_ok-to_string-in-Offsets.ensures.ok ∙ ap seen (sym w.in-Offsets.is))
    ]

pub loop-item-preserved : goal.loop-item-preserved
loop-item-preserved c = let h = added (goal.at.loop-item-preserved c).Joined-item in search (rules, common_steps)

pub returns : goal.returns
returns c =
    let content = bare_content c.args.columns.now in
    let items = map item_of c.args.items.now in
    let document : ℤ × List Cell = (c.args.docid, map shown_value c.args.cells.now) in
    record {
      asked = λ query same. whole c ∙ ap (λ (cell : Cell). flat_map (cells_with cell content document) items) (sym same) ∙ sym (item_cells_are query content document items);
      unasked = λ query none.
          whole c ∙ offsets_unasked (Text c.args.offsets.now) (offsets_cell query content document) content document items none ∙ sym (item_cells_are query content document items);
      given = whole c;
    }
