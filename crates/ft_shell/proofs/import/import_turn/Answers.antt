-- the file's bytes, their records, and those that are left
use Rattle.std.proofs.Common.{rules, ◌≡◌, ◌+◌, length, map, min, refl, ap, ◌∙◌, subst, inl, inr, unwrap_or}
use Rattle.shell_io.specs.FaultWords.{record_words}
use Rattle.shell_io.specs.OutputViews.{answer_as}
use Rattle.shell_io.specs.Records.{kept}
use Rattle.shell_io.specs.Sources.{GivesFile, Refuses, fetch_words}
use Rattle.shell_io.specs.Outcomes.{blames, lacks_memory}
use Rattle.plain_sql.proofs.{left_rows}
use Rattle.ft_shell.proofs.Common.{enumerate_from, import_as, texts_of, BytesTurn, DelimitedTurn, IntoNamed, width_in, fetched, read, unfetched}
use Rattle.ft_shell.proofs.ImportTurnLemmas.{records_refused}
use Rattle.ft_shell.proofs.import.import_turn.Goals as goal

pub returns-in_err-bytes : goal.returns-in_err-bytes
returns-in_err-bytes g c =
    let fault = c.in_err-bytes.field-0.0 in
    let is : answer_as c.from_residual.result ≡ blames (fetch_words fault) = search rules in (
      (refl, λ i name. c.fetch.ensures.same name i),
      subst (DelimitedTurn g.P.Store g.S.Store (import_as c.args.what.now) c.args.plain.now c.args.plain.now (g.T.TextTables.known c.args.full_text.now) (g.T.TextTables.known c.args.full_text.now) (answer_as c.from_residual.result) (g.F.Source.holds c.args.source.now)) c.in-Some.ensures
          (unfetched fault (subst (λ n. Refuses (g.F.Source.holds c.args.source.now) n fault) c.as_str.ensures.value c.in_err-bytes.ensures.refused) (refl, refl, is)),
    )

pub returns-in_err-records : goal.returns-in_err-records
returns-in_err-records g c =
    let fault = c.in_err-records.field-0.0 in
    let answer = answer_as c.from_residual-in_err-records.result in
    let is : answer ≡ blames (record_words fault) = search rules in (
      (refl, λ i name. c.fetch.ensures.same name i),
      subst (DelimitedTurn g.P.Store g.S.Store (import_as c.args.what.now) c.args.plain.now c.args.plain.now (g.T.TextTables.known c.args.full_text.now) (g.T.TextTables.known c.args.full_text.now) answer (g.F.Source.holds c.args.source.now)) c.in-Some.ensures
          (fetched c.in_ok-bytes.bytes.items (subst (λ n. GivesFile (g.F.Source.holds c.args.source.now) n c.in_ok-bytes.bytes.items) c.as_str.ensures.value c.in_ok-bytes.ensures.bytes)
          (subst (λ b. BytesTurn g.P.Store g.S.Store (import_as c.args.what.now) c.args.plain.now c.args.plain.now (g.T.TextTables.known c.args.full_text.now) (g.T.TextTables.known c.args.full_text.now) answer c.in-Some.delimiter b) c.as_slice.ensures.value
          (records_refused g.P.Store g.S.Store (import_as c.args.what.now) c.args.plain.now (g.T.TextTables.known c.args.full_text.now) answer c.in-Some.delimiter c.as_slice.result.now fault c.in_err-records.ensures.bad is))),
    )

pub returns-in_err-left : goal.returns-in_err-left
returns-in_err-left g c =
    let answer = answer_as c.from_residual-in_err-left.result in
    let is : answer ≡ lacks_memory = search rules in (
      (refl, λ i name. c.fetch.ensures.same name i),
      subst (DelimitedTurn g.P.Store g.S.Store (import_as c.args.what.now) c.args.plain.now c.args.plain.now (g.T.TextTables.known c.args.full_text.now) (g.T.TextTables.known c.args.full_text.now) answer (g.F.Source.holds c.args.source.now)) c.in-Some.ensures
          (fetched c.in_ok-bytes.bytes.items (subst (λ n. GivesFile (g.F.Source.holds c.args.source.now) n c.in_ok-bytes.bytes.items) c.as_str.ensures.value c.in_ok-bytes.ensures.bytes)
          (subst (λ b. BytesTurn g.P.Store g.S.Store (import_as c.args.what.now) c.args.plain.now c.args.plain.now (g.T.TextTables.known c.args.full_text.now) (g.T.TextTables.known c.args.full_text.now) answer c.in-Some.delimiter b) c.as_slice.ensures.value
          (read (map texts_of c.in_ok-records.records.items) c.in_ok-records.ensures.records (inr (refl, refl, is))))),
    )

pub returns : goal.returns
returns g c =
    let answer = answer_as c.records_turn.result in
    let what = import_as c.args.what.now in
    let found = map texts_of c.in_ok-records.records.items in
    let count : c.len.result ≡ length c.in_ok-records.records.items = search rules in
    let rows : enumerate_from (c.skipped-skip.result + 1) (map texts_of c.in_ok-left.left.items) ≡ kept c.args.what.now.skip found =
    left_rows c.args.what.now.skip c.skipped-skip.result c.in_ok-records.records.items c.in_ok-left.left.items (c.skipped-skip.ensures ∙ ap (min (unwrap_or c.args.what.now.skip 0)) count) c.in_ok-left.ensures in (
      (refl, λ i name. c.fetch.ensures.same name i),
      subst (DelimitedTurn g.P.Store g.S.Store what c.args.plain.now c.records_turn.new.plain (g.T.TextTables.known c.args.full_text.now) (g.T.TextTables.known c.records_turn.new.full_text) answer (g.F.Source.holds c.args.source.now)) c.in-Some.ensures
          (fetched c.in_ok-bytes.bytes.items (subst (λ n. GivesFile (g.F.Source.holds c.args.source.now) n c.in_ok-bytes.bytes.items) c.as_str.ensures.value c.in_ok-bytes.ensures.bytes)
          (subst (λ b. BytesTurn g.P.Store g.S.Store what c.args.plain.now c.records_turn.new.plain (g.T.TextTables.known c.args.full_text.now) (g.T.TextTables.known c.records_turn.new.full_text) answer c.in-Some.delimiter b) c.as_slice.ensures.value
          (read found c.in_ok-records.ensures.records
          (inl (subst (λ rows. IntoNamed g.P.Store g.S.Store what c.args.plain.now c.records_turn.new.plain (g.T.TextTables.known c.args.full_text.now) (g.T.TextTables.known c.records_turn.new.full_text) answer rows (width_in (g.T.TextTables.known c.args.full_text.now).tables what.table)) rows c.records_turn.ensures))))),
    )
