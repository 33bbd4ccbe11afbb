-- the columns are counted, and then the records go in
use Rattle.std.proofs.Common.{rules, ◌≡◌, ℕ, None, map, string_bytes, refl, ap, ◌∙◌, subst}
use Rattle.shell_io.specs.Records.{warnings}
use Rattle.shell_io.specs.Outcomes.{blames, warned}
use Rattle.shell_io.specs.OutputViews.{answer_as}
use Rattle.plain_sql.proofs.Common.{enumerate_from, state, import_as, texts_of, fault_words, into, IfClean, HasColumns, Stays, CommitsAll, Declines, Uncounted}
use Rattle.plain_sql.proofs.ImportTurnLemmas.{same_steps, count_refused, import_refused}
use Rattle.plain_sql.proofs.plain_import.into_table.Goals as goal

pub returns-in_err-columns : goal.returns-in_err-columns
returns-in_err-columns g c =
    let table : c.as_str-table.result.now ≡ string_bytes c.args.what.now.table = c.as_str-table.ensures.value in
    let fault = c.in_err-columns.field-0.0 in
    let is : answer_as c.from_residual.result ≡ blames (fault_words fault) = search rules in
    count_refused g.P.Store (import_as c.args.what.now) (enumerate_from c.args.first (map texts_of c.args.records.now)) {T = ℕ} fault
    c.args.plain.now c.column_count.new.plain (answer_as c.from_residual.result) c.in_err-columns.ensures.kept
    (λ refused. subst (λ t. Uncounted g.P.Store t c.args.plain.now c.column_count.new.plain) table (c.in_err-columns.ensures.counts.uncounted refused)) is

pub returns-in_err-import_records : goal.returns-in_err-import_records
returns-in_err-import_records g c =
    let old = c.args.plain.now in
    let counted = c.column_count.new.plain in
    let n = c.in_ok-columns.columns in
    let found = map texts_of c.args.records.now in
    let table : c.as_str-table.result.now ≡ string_bytes c.args.what.now.table = c.as_str-table.ensures.value in
    let fault = c.in_err-import_records.field-0.0 in
    let is : answer_as c.from_residual-in_err-import_records.result ≡ blames (fault_words fault) = search rules in
    import_refused g.P.Store (import_as c.args.what.now) (enumerate_from c.args.first found) {T = Unit {0}} fault n
    old counted c.import_records.new.plain (answer_as c.from_residual-in_err-import_records.result)
    (subst (λ t. IfClean g.P.Store old counted (Stays (state g.P.Store old) (state g.P.Store counted) × HasColumns (state g.P.Store old).now.schema t n)) table c.in_ok-columns.ensures.counts.counted)
    c.in_err-import_records.ensures.kept
    (λ refused. subst (λ s. Declines g.P.Store s counted c.import_records.new.plain) (same_steps None c.as_str-table.result.now (string_bytes c.args.what.now.table) n n found c.args.first table refl)
    (c.in_err-import_records.ensures.declined refused)) is

pub returns : goal.returns
returns g c =
    let old = c.args.plain.now in
    let counted = c.column_count.new.plain in
    let n = c.in_ok-columns.columns in
    let found = map texts_of c.args.records.now in
    let table : c.as_str-table.result.now ≡ string_bytes c.args.what.now.table = c.as_str-table.ensures.value in
    let lines : string_bytes c.in_ok-lines.lines ≡ warnings (string_bytes c.args.what.now.file) n (enumerate_from c.args.first found) =
    c.in_ok-lines.ensures ∙ ap (λ f. warnings f n (enumerate_from c.args.first found)) c.as_str.ensures.value in
    into n counted
    (subst (λ t. IfClean g.P.Store old counted (Stays (state g.P.Store old) (state g.P.Store counted) × HasColumns (state g.P.Store old).now.schema t n)) table c.in_ok-columns.ensures.counts.counted)
    (subst (λ s. CommitsAll g.P.Store s counted c.import_records.new.plain) (same_steps None c.as_str-table.result.now (string_bytes c.args.what.now.table) n n found c.args.first table refl) c.in_ok-import_records.ensures.done)
    (ap warned lines)
