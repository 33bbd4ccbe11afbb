-- what `sqlite` refuses
use Rattle.std.proofs.Common.{rules, ◌≡◌, [], map, Err, string_bytes, subst, if◌then◌else◌}
use Rattle.plain_sql.proofs.Common.{Refused, Memory, create_text, is_memory_error, Run, IsRefused}
use Rattle.plain_sql.proofs.PlainImportLemmas.{other_cause, run_refused}
use Rattle.plain_sql.proofs.plain_import.create_table.Goals as goal

pub returns-in_err-_count-clause-step : goal.returns-in_err-_count-clause-step
returns-in_err-_count-clause-step g c =
    let e = c.in_err-_count.field-0.0 in
    let is : c.from_residual-in_err-_count.result ≡ Err (if is_memory_error e then Memory else Refused) = search rules in
    let text : c.as_str.result.now ≡ create_text c.args.table.now (map string_bytes c.args.names.now) = search rules in
    record {
      done = search (rules, is);
      refused = λ refused. subst (λ t. IsRefused g.P.Store (Run t []) c.args.tx.now.conn.now c.execute.new.self.conn.now) text
          (run_refused g.P.Store c.as_str.result.now [] c.args.tx.now.conn.now c.execute.new.self.conn.now e c.execute.ensures.survives c.requires.inside
          (other_cause e c.from_residual-in_err-_count.result is refused) c.in_err-_count.ensures.runs);
    }
