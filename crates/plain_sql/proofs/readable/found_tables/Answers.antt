-- one name more is tried, or memory is wanting
use Rattle.std.proofs.Common.{◌≡◌, ◌+◌, [], ◌∷◌, ◌++◌, map, take, drop, get_or, true, None, Some, string_bytes, sym, ap, ◌∙◌, subst, inl, inr}
use Rattle.plain_sql.proofs.Common.{map-append, texts_of, Finds, StopsTrying, Tries}
use Rattle.plain_sql.proofs.TablesLemmas.{finds_can, finds_cannot, stops_after, stops_now, names_split, names_more, on_err}
use Rattle.plain_sql.proofs.readable.found_tables.Goals.{then-can_read+in_ok-from_str+in_ok-push, else-can_read}
use Rattle.plain_sql.proofs.readable.found_tables.Goals as goal

pub returns-in_err-can_read-clause-stops : goal.returns-in_err-can_read-clause-stops
returns-in_err-can_read-clause-stops g c =
    let i = c.loop-name.name-index in
    let tries : Tries g.P.Store c.as_str.result.now None c.loop-name.plain c.reads_table.new.conn = c.in_err-can_read.ensures in
    let name : c.as_str.result.now ≡ string_bytes (get_or c.args.names.now i c.name-item.result) = c.as_str.ensures.value ∙ ap string_bytes c.name-item.is in
    on_err c.from_residual.result
    (subst (λ names. StopsTrying g.P.Store names c.args.plain.now c.reads_table.new.conn) (names_split c.args.names.now i c.name-item.result c.as_str.result.now c.loop-name-test.true name)
    (stops_after g.P.Store (map string_bytes (take i c.args.names.now)) (c.as_str.result.now ∷ map string_bytes (drop (i + 1) c.args.names.now)) c.args.plain.now c.loop-name.plain c.reads_table.new.conn (texts_of c.loop-name.found)
    c.loop-name.invariant (inr (inl tries))))

pub returns-in_err-from_str-clause-stops : goal.returns-in_err-from_str-clause-stops
returns-in_err-from_str-clause-stops g c =
    let i = c.loop-name.name-index in
    let tries : Tries g.P.Store c.as_str.result.now (Some true) c.loop-name.plain c.reads_table.new.conn = subst (λ b. Tries g.P.Store c.as_str.result.now (Some b) c.loop-name.plain c.reads_table.new.conn) c.if-can_read.true c.in_ok-can_read.ensures in
    let name : c.as_str.result.now ≡ string_bytes (get_or c.args.names.now i c.name-item.result) = c.as_str.ensures.value ∙ ap string_bytes c.name-item.is in
    on_err c.from_residual-in_err-from_str.result
    (subst (λ names. StopsTrying g.P.Store names c.args.plain.now c.reads_table.new.conn) (names_split c.args.names.now i c.name-item.result c.as_str.result.now c.loop-name-test.true name)
    (stops_after g.P.Store (map string_bytes (take i c.args.names.now)) (c.as_str.result.now ∷ map string_bytes (drop (i + 1) c.args.names.now)) c.args.plain.now c.loop-name.plain c.reads_table.new.conn (texts_of c.loop-name.found)
    c.loop-name.invariant (inr (inr (c.reads_table.new.conn, true, tries, stops_now g.P.Store (map string_bytes (drop (i + 1) c.args.names.now)) c.reads_table.new.conn)))))

pub returns-in_err-push-clause-stops : goal.returns-in_err-push-clause-stops
returns-in_err-push-clause-stops g c =
    let i = c.loop-name.name-index in
    let tries : Tries g.P.Store c.as_str.result.now (Some true) c.loop-name.plain c.reads_table.new.conn = subst (λ b. Tries g.P.Store c.as_str.result.now (Some b) c.loop-name.plain c.reads_table.new.conn) c.if-can_read.true c.in_ok-can_read.ensures in
    let name : c.as_str.result.now ≡ string_bytes (get_or c.args.names.now i c.name-item.result) = c.as_str.ensures.value ∙ ap string_bytes c.name-item.is in
    on_err c.from_residual-in_err-push.result
    (subst (λ names. StopsTrying g.P.Store names c.args.plain.now c.reads_table.new.conn) (names_split c.args.names.now i c.name-item.result c.as_str.result.now c.loop-name-test.true name)
    (stops_after g.P.Store (map string_bytes (take i c.args.names.now)) (c.as_str.result.now ∷ map string_bytes (drop (i + 1) c.args.names.now)) c.args.plain.now c.loop-name.plain c.reads_table.new.conn (texts_of c.loop-name.found)
    c.loop-name.invariant (inr (inr (c.reads_table.new.conn, true, tries, stops_now g.P.Store (map string_bytes (drop (i + 1) c.args.names.now)) c.reads_table.new.conn)))))

pub loop-name-preserved : goal.loop-name-preserved
loop-name-preserved g c =
    let i = c.loop-name.name-index in
    let before = map string_bytes (take i c.args.names.now) in
    let name : c.as_str.result.now ≡ string_bytes (get_or c.args.names.now i c.name-item.result) = c.as_str.ensures.value ∙ ap string_bytes c.name-item.is in
    let more = names_more c.args.names.now i c.name-item.result c.as_str.result.now c.loop-name-test.true name in
    subst (λ names. Finds g.P.Store names c.args.plain.now c.reads_table.new.conn (texts_of c.if-can_read.found)) more
    (elim c.if-can_read.branch as (λ _. Finds g.P.Store (before ++ c.as_str.result.now ∷ []) c.args.plain.now c.reads_table.new.conn (texts_of c.if-can_read.found)) [
      | then-can_read+in_ok-from_str+in_ok-push w ↦
          let pushed : texts_of c.if-can_read.found ≡ texts_of c.loop-name.found ++ c.as_str.result.now ∷ [] =
          ap texts_of w.found-is ∙ ap (map string_bytes) w.in_ok-push.ensures.items ∙ map-append string_bytes c.loop-name.found.items (w.in_ok-from_str.field-0 ∷ [])
          ∙ ap (λ n. texts_of c.loop-name.found ++ n ∷ []) (w.in_ok-from_str.ensures.ok ∙ w.as_str-then-can_read.ensures.value ∙ sym c.as_str.ensures.value) in
          subst (Finds g.P.Store (before ++ c.as_str.result.now ∷ []) c.args.plain.now c.reads_table.new.conn) (sym pushed)
          (finds_can g.P.Store before c.as_str.result.now c.args.plain.now c.loop-name.plain c.reads_table.new.conn (texts_of c.loop-name.found) c.loop-name.invariant
          (subst (λ b. Tries g.P.Store c.as_str.result.now (Some b) c.loop-name.plain c.reads_table.new.conn) w.if-can_read.true c.in_ok-can_read.ensures))
      | else-can_read w ↦
          subst (λ f. Finds g.P.Store (before ++ c.as_str.result.now ∷ []) c.args.plain.now c.reads_table.new.conn (texts_of f)) (sym w.found-is)
          (finds_cannot g.P.Store before c.as_str.result.now c.args.plain.now c.loop-name.plain c.reads_table.new.conn (texts_of c.loop-name.found) c.loop-name.invariant
          (subst (λ b. Tries g.P.Store c.as_str.result.now (Some b) c.loop-name.plain c.reads_table.new.conn) w.if-can_read.false c.in_ok-can_read.ensures))
    ])
