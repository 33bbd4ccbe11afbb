-- one record more goes in, or is refused
use Rattle.std.proofs.Common.{rules, ◌≡◌, ◌+◌, map, take, drop, get_or, Err, string_bytes, sym, ap, subst, ◌∙◌, String, Vec, Global}
use Rattle.plain_sql.proofs.Common.{texts_of, Run, row_values, runs_of, DoesAll, StopsAtStep}
use Rattle.plain_sql.proofs.PlainImportLemmas.{runs_more, runs_split, does_more, stops_at, last_then}
use Rattle.plain_sql.proofs.plain_import.insert_all.Goals as goal

pub returns-in_err-insert_record-clause-steps : goal.returns-in_err-insert_record-clause-steps
returns-in_err-insert_record-clause-steps g c =
    let is : c.from_residual.result ≡ Err c.in_err-insert_record.field-0.0 = search rules in
    let row : map string_bytes c.as_slice.result.now ≡ texts_of (get_or c.args.records.now c.loop-fields.fields-index c.fields-item.result) = (λ j. map string_bytes ((c.as_slice.ensures.value ∙ ap (λ (v : Vec (String Global) Global). v.items) c.fields-item.is) j)) in
    λ text same. record {
      done = search (rules, is);
      refused = λ refused.
          subst (λ steps. StopsAtStep g.P.Store steps c.args.tx.now.conn.now c.insert_record.new.tx.conn.now)
          (runs_split text c.args.columns c.args.records.now c.loop-fields.fields-index c.fields-item.result (map string_bytes c.as_slice.result.now) c.loop-fields-test.true row)
          (stops_at g.P.Store (runs_of text c.args.columns (map texts_of (take c.loop-fields.fields-index c.args.records.now))) (Run text (row_values c.args.columns (map string_bytes c.as_slice.result.now)))
          (runs_of text c.args.columns (map texts_of (drop (c.loop-fields.fields-index + 1) c.args.records.now))) c.args.tx.now.conn.now c.loop-fields.tx.conn.now c.insert_record.new.tx.conn.now
          (c.loop-fields.invariant.done text same) ((c.in_err-insert_record.ensures.step text (λ clean. same (c.loop-fields.invariant.kept clean).0.clean)).refused (sym is ∙ refused)));
    }

pub loop-fields-preserved : goal.loop-fields-preserved
loop-fields-preserved g c =
    let row : map string_bytes c.as_slice.result.now ≡ texts_of (get_or c.args.records.now c.loop-fields.fields-index c.fields-item.result) = (λ j. map string_bytes ((c.as_slice.ensures.value ∙ ap (λ (v : Vec (String Global) Global). v.items) c.fields-item.is) j)) in
    record {
      same = c.insert_record.ensures.stays.same_reference ∙ c.loop-fields.invariant.same;
      inside = c.in_ok-insert_record.ensures.stays.inside;
      kept = last_then g.P.Store c.args.tx.now.conn.now c.loop-fields.tx.conn.now c.insert_record.new.tx.conn.now c.loop-fields.invariant.kept c.insert_record.ensures.stays.kept;
      done = λ text same.
          subst (λ steps. DoesAll g.P.Store steps c.args.tx.now.conn.now c.insert_record.new.tx.conn.now)
          (runs_more text c.args.columns c.args.records.now c.loop-fields.fields-index c.fields-item.result (map string_bytes c.as_slice.result.now) c.loop-fields-test.true row)
          (does_more g.P.Store (runs_of text c.args.columns (map texts_of (take c.loop-fields.fields-index c.args.records.now))) (Run text (row_values c.args.columns (map string_bytes c.as_slice.result.now)))
          c.args.tx.now.conn.now c.loop-fields.tx.conn.now c.insert_record.new.tx.conn.now (c.loop-fields.invariant.done text same)
          (c.in_ok-insert_record.ensures.step text (λ clean. same (c.loop-fields.invariant.kept clean).0.clean)).done);
    }
