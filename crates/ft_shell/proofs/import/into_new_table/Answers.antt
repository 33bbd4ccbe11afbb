-- the table is made and filled
use Rattle.std.proofs.Common.{rules, ◌≡◌, ◌<◌, ◌≤◌, ◌+◌, ◌-◌, Some, length, map, take, drop, string_bytes, refl, sym, ap, ◌∙◌, subst, arith}
use Rattle.plain_sql.specs.IntoTables.{fault_words}
use Rattle.shell_io.specs.OutputViews.{answer_as}
use Rattle.plain_sql.specs.PlainImports.{CommitsAll, Declines, import_steps}
use Rattle.shell_io.specs.Records.{warnings}
use Rattle.shell_io.specs.Outcomes.{blames}
use Rattle.plain_sql.proofs.{records_numbered, split_rows}
use Rattle.std.proofs.lemmas.List.{nil_from_length}
use Rattle.ft_shell.proofs.Common.{enumerate_from, length-map, import_as, texts_of, NoteTurn, made, no_header, too_wide}
use Rattle.ft_shell.proofs.ImportTurnLemmas.{making_refused}
use Rattle.ft_shell.proofs.import.into_new_table.Goals as goal

pub returns-in_default : goal.returns-in_default
returns-in_default g c = no_header (ap (λ records. enumerate_from c.args.first (map texts_of records)) (nil_from_length c.args.records.now (omega (arith, c.in_default.len_below)))) refl refl c.fixed.ensures

pub returns-then-columns-gt100 : goal.returns-then-columns-gt100
returns-then-columns-gt100 g c =
    let names = texts_of c.names-item.result in
    let rest = enumerate_from (c.args.first + 1) (map texts_of (take (length c.args.records.now - 1) (drop 1 c.args.records.now))) in
    let len : c.len-columns.result ≡ length c.names-item.result.items = search rules in
    let wide : 100 < length names = omega (arith, c.if-columns-gt100.true, len, length-map c.names-item.result.items string_bytes) in
    too_wide (c.args.first, names) rest (split_rows c.args.first c.args.records.now c.names-item.result names c.in-len1-up.len_at_least (ap texts_of c.names-item.is)) wide refl refl c.from.ensures

pub returns-in_err-import_records : goal.returns-in_err-import_records
returns-in_err-import_records g c =
    let names = texts_of c.names-item.result in
    let found = map texts_of (take (length c.args.records.now - 1) (drop 1 c.args.records.now)) in
    let rest = enumerate_from (c.args.first + 1) found in
    let len : c.len-columns.result ≡ length c.names-item.result.items = search rules in
    let count : c.len-columns.result ≡ length names = len ∙ sym (length-map c.names-item.result.items string_bytes) in
    let narrow : length names ≤ 100 = omega (arith, c.if-columns-gt100.false, count) in
    let fault = c.in_err-import_records.field-0.0 in
    let answer = answer_as c.from_residual-in_err-import_records.result in
    let is : answer ≡ blames (fault_words fault) = search rules in
    making_refused g.P.Store (import_as c.args.what.now) (enumerate_from c.args.first (map texts_of c.args.records.now)) {T = Unit {0}} g.S.Store fault (c.args.first, names) rest
    c.args.plain.now c.import_records.new.plain (g.T.TextTables.known c.args.full_text.now) answer (split_rows c.args.first c.args.records.now c.names-item.result names c.in-len1-up.len_at_least (ap texts_of c.names-item.is)) narrow c.in_err-import_records.ensures.kept
    (λ refused. subst (λ s. Declines g.P.Store s c.args.plain.now c.import_records.new.plain)
    (λ j. import_steps (Some (map string_bytes (c.as_slice.ensures.value j))) (c.as_str-table.ensures.value j) (count j) (sym (records_numbered (c.args.first + 1) found) j))
    (c.in_err-import_records.ensures.declined refused)) is

pub returns : goal.returns
returns g c =
    let names = texts_of c.names-item.result in
    let found = map texts_of (take (length c.args.records.now - 1) (drop 1 c.args.records.now)) in
    let rest = enumerate_from (c.args.first + 1) found in
    let answer = answer_as c.note_turn.result in
    let len : c.len-columns.result ≡ length c.names-item.result.items = search rules in
    let count : c.len-columns.result ≡ length names = len ∙ sym (length-map c.names-item.result.items string_bytes) in
    let narrow : length names ≤ 100 = omega (arith, c.if-columns-gt100.false, count) in
    let lines : string_bytes c.in_ok-lines.lines ≡ warnings (string_bytes c.args.what.now.file) (length names) rest = c.in_ok-lines.ensures ∙ (λ j. warnings (c.as_str.ensures.value j) (count j) rest) in
    made (c.args.first, names) rest (split_rows c.args.first c.args.records.now c.names-item.result names c.in-len1-up.len_at_least (ap texts_of c.names-item.is)) narrow
    (subst (λ s. CommitsAll g.P.Store s c.args.plain.now c.import_records.new.plain)
    (λ j. import_steps (Some (map string_bytes (c.as_slice.ensures.value j))) (c.as_str-table.ensures.value j) (count j) (sym (records_numbered (c.args.first + 1) found) j))
    c.in_ok-import_records.ensures.done)
    (subst (λ l. NoteTurn g.S.Store l (string_bytes c.args.what.now.table) (g.T.TextTables.known c.args.full_text.now) (g.T.TextTables.known c.note_turn.new.full_text) answer) lines
    (subst (λ t. NoteTurn g.S.Store (string_bytes c.in_ok-lines.lines) t (g.T.TextTables.known c.args.full_text.now) (g.T.TextTables.known c.note_turn.new.full_text) answer) c.as_str-table.ensures.value c.note_turn.ensures))
