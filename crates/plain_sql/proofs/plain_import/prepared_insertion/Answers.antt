-- what `sqlite` refuses
use Rattle.std.proofs.Common.{rules, ◌≡◌, Err, subst, if◌then◌else◌}
use Rattle.plain_sql.proofs.Common.{Refused, Memory, insert_text, is_memory_error, Prepare, IsRefused}
use Rattle.plain_sql.proofs.PlainImportLemmas.{other_cause, prepare_refused, unprepared_kept}
use Rattle.plain_sql.proofs.plain_import.prepared_insertion.Goals as goal

pub returns-in_err-statement-clause-step : goal.returns-in_err-statement-clause-step
returns-in_err-statement-clause-step g c =
    let e = c.in_err-statement.field-0.0 in
    let is : c.from_residual-in_err-statement.result ≡ Err (if is_memory_error e then Memory else Refused) = search rules in
    let text : c.as_str.result.now ≡ insert_text c.args.table.now c.args.columns = search rules in
    record {
      done = search (rules, is);
      refused = λ refused. subst (λ t. IsRefused g.P.Store (Prepare t) c.args.tx.now.conn.now c.prepare.new.self.conn.now) text
          (prepare_refused g.P.Store c.as_str.result.now c.args.tx.now.conn.now c.prepare.new.self.conn.now e c.prepare.ensures.survives
          (other_cause e c.from_residual-in_err-statement.result is refused) c.in_err-statement.ensures.err);
    }

pub returns-in_err-statement-clause-stays : goal.returns-in_err-statement-clause-stays
returns-in_err-statement-clause-stays g c =
    let e = c.in_err-statement.field-0.0 in
    let is : c.from_residual-in_err-statement.result ≡ Err (if is_memory_error e then Memory else Refused) = search rules in
    record {
      same_reference = search rules;
      kept = unprepared_kept g.P.Store c.as_str.result.now c.args.tx.now.conn.now c.prepare.new.self.conn.now e c.prepare.ensures.survives c.in_err-statement.ensures.err;
      inside = search (rules, is);
    }
