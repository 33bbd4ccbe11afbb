-- the insertion is prepared, and then run
use Rattle.std.proofs.Common.{rules, ◌≡◌, [], map, Err, refl}
use Rattle.std.proofs.lemmas.Result.{on_ok_weaker}
use Rattle.plain_sql.proofs.Common.{insert_text, texts_of, Prepare, runs_of, DoesAll}
use Rattle.plain_sql.proofs.PlainImportLemmas.{passed_on, stops_at, stops_later}
use Rattle.plain_sql.proofs.plain_import.insert_records.Goals as goal

pub returns-in_err-statement-clause-steps : goal.returns-in_err-statement-clause-steps
returns-in_err-statement-clause-steps g c =
    let is : c.from_residual.result ≡ Err c.in_err-statement.field-0.0 = search rules in
    record {
      done = search (rules, is);
      refused = λ refused.
          stops_at g.P.Store [] (Prepare (insert_text c.args.table.now c.args.columns)) (runs_of (insert_text c.args.table.now c.args.columns) c.args.columns (map texts_of c.args.records.now))
          c.args.tx.now.conn.now c.args.tx.now.conn.now c.prepared_insertion.new.tx.conn.now refl (c.in_err-statement.ensures.step.refused (passed_on c.in_err-statement.field-0.0 c.from_residual.result is refused));
    }

pub returns-clause-steps : goal.returns-clause-steps
returns-clause-steps g c =
    let runs = c.insert_all.ensures.steps (insert_text c.args.table.now c.args.columns) c.in_ok-statement.ensures.text in
    record {
      done = on_ok_weaker c.insert_all.result
          (λ (all : DoesAll g.P.Store (runs_of (insert_text c.args.table.now c.args.columns) c.args.columns (map texts_of c.args.records.now)) c.prepared_insertion.new.tx.conn.now c.insert_all.new.tx.conn.now).
          (c.prepared_insertion.new.tx.conn.now, c.in_ok-statement.ensures.step.done, all))
          runs.done;
      refused = λ refused.
          stops_later g.P.Store (Prepare (insert_text c.args.table.now c.args.columns)) (runs_of (insert_text c.args.table.now c.args.columns) c.args.columns (map texts_of c.args.records.now))
          c.args.tx.now.conn.now c.prepared_insertion.new.tx.conn.now c.insert_all.new.tx.conn.now c.in_ok-statement.ensures.step.done (runs.refused refused);
    }
