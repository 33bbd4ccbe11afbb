-- the table is made, and then filled
use Rattle.std.proofs.Common.{rules, ◌≡◌, [], map, Err, refl, sym, subst, ◌∙◌, string_bytes, option_map}
use Rattle.std.proofs.lemmas.Result.{on_ok_weaker}
use Rattle.plain_sql.proofs.Common.{create_text, texts_of, Run, TriesSteps, import_steps, insertions, DoesAll}
use Rattle.plain_sql.proofs.PlainImportLemmas.{stops_at, stops_later}
use Rattle.plain_sql.proofs.plain_import.fill.Goals as goal

pub returns-in_err-create_table-in-Some-clause-steps : goal.returns-in_err-create_table-in-Some-clause-steps
returns-in_err-create_table-in-Some-clause-steps g c =
    let fault = c.in_err-create_table-in-Some.field-0.0 in
    let is : c.from_residual.result ≡ Err fault = search rules in
    subst (λ names. TriesSteps g.P.Store (import_steps (option_map (λ n. map string_bytes n.now) names) c.args.table.now c.args.columns (map texts_of c.args.records.now)) c.args.tx.now.conn.now c.create_table.new.tx.conn.now c.from_residual.result) (sym c.in-Some.is)
    (record {
      done = search (rules, is);
      refused = λ refused.
          stops_at g.P.Store [] (Run (create_text c.args.table.now (map string_bytes c.in-Some.names.now)) []) (insertions c.args.table.now c.args.columns (map texts_of c.args.records.now))
          c.args.tx.now.conn.now c.args.tx.now.conn.now c.create_table.new.tx.conn.now refl (c.in_err-create_table-in-Some.ensures.step.refused (sym is ∙ refused));
    })

pub returns-in_ok-create_table-in-Some-clause-steps : goal.returns-in_ok-create_table-in-Some-clause-steps
returns-in_ok-create_table-in-Some-clause-steps g c =
    subst (λ names. TriesSteps g.P.Store (import_steps (option_map (λ n. map string_bytes n.now) names) c.args.table.now c.args.columns (map texts_of c.args.records.now)) c.args.tx.now.conn.now c.insert_records.new.tx.conn.now c.insert_records.result) (sym c.in-Some.is)
    (record {
      done = on_ok_weaker c.insert_records.result
          (λ (all : DoesAll g.P.Store (insertions c.args.table.now c.args.columns (map texts_of c.args.records.now)) c.create_table.new.tx.conn.now c.insert_records.new.tx.conn.now).
          (c.create_table.new.tx.conn.now, c.in_ok-create_table-in-Some.ensures.step.done, all))
          c.insert_records.ensures.steps.done;
      refused = λ refused.
          stops_later g.P.Store (Run (create_text c.args.table.now (map string_bytes c.in-Some.names.now)) []) (insertions c.args.table.now c.args.columns (map texts_of c.args.records.now))
          c.args.tx.now.conn.now c.create_table.new.tx.conn.now c.insert_records.new.tx.conn.now c.in_ok-create_table-in-Some.ensures.step.done (c.insert_records.ensures.steps.refused refused);
    })
