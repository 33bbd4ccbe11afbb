-- one table more, and all of them
use Rattle.std.proofs.Common.{◌≡◌, ◌+◌, ◌<◌, true, false, cond, map, length, drop, get_or, sym, ap, ◌∙◌, arith, rules, to_z, of_z, w64, to_z-of_z, int_eq, take_all}
use Rattle.ft_query.proofs.{swept, sweep_next, sweep_end}
use Rattle.ft_documents.proofs.Common.{take-append-le, TableInfo, shown_info, sound_if, with_sound}
use Rattle.ft_documents.proofs.tables.mark_sound.Goals.{then-table-id, else-table-id}
use Rattle.ft_documents.proofs.tables.mark_sound.Goals as goal

pub loop-table-preserved : goal.loop-table-preserved
loop-table-preserved c =
    let id = to_z w64 (of_z w64 c.args.id) in
    let items = c.loop-table.table-items in
    let index = c.loop-table.table-index in
    let table : TableInfo = get_or items index c.table-item.result in
    let within : index < length items = search rules in
    let done : map shown_info c.if-table-id.table-items ≡ swept (sound_if id) (index + 1) (map shown_info c.args.tables.now.items) =
    elim c.if-table-id.branch [
      | then-table-id w ↦
          let here : int_eq id table.id ≡ true = search rules in
          ap (map shown_info) w.table-items-is ∙ sweep_next shown_info (sound_if id) items (map shown_info c.args.tables.now.items) index c.table-item.result (record table { sound = true }) c.loop-table.invariant within (ap (λ b. cond b (record (shown_info table) { sound = true }) (shown_info table)) (sym here))
      | else-table-id w ↦
          let other : int_eq id table.id ≡ false = search rules in
          ap (map shown_info) w.table-items-is ∙ sweep_next shown_info (sound_if id) items (map shown_info c.args.tables.now.items) index c.table-item.result table c.loop-table.invariant within (ap (λ b. cond b (record (shown_info table) { sound = true }) (shown_info table)) (sym other))
    ] in
    done

pub returns : goal.returns
returns c =
    let items = c.loop-table.table-items in
    let tables = c.args.tables.now.items in
    let all : c.args.tables.now.len ≡ length items = search rules in
    let end : map shown_info items ≡ with_sound (to_z w64 (of_z w64 c.args.id)) (map shown_info tables) = sweep_end shown_info (sound_if (to_z w64 (of_z w64 c.args.id))) items tables c.loop-table.table-index c.loop-table.invariant (search rules) in
    ap (map shown_info) (take-append-le c.args.tables.now.len items (drop (length items) tables) (omega (arith, all)) ∙ take_all c.args.tables.now.len items (omega (arith, all))) ∙ end ∙ ap (λ k. with_sound k (map shown_info tables)) (to_z-of_z c.ranges.id)
