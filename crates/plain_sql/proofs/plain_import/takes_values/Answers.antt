-- by what `sqlite` says of the text
use Rattle.std.proofs.Common.{rules, ◌≡◌, [], false, Bool, Err, sym, ap, subst, is_ok}
use Rattle.plain_sql.proofs.Common.{state, IsNotRun, understood, insert_text, IsUnsaid}
use Rattle.plain_sql.proofs.QueryLemmas.{was_clean}
use Rattle.plain_sql.proofs.CountLemmas.{not_understood}
use Rattle.plain_sql.proofs.PlainImportLemmas.{other_cause, prepare_unsaid, unrun_all_kept, unchanged_stays}
use Rattle.plain_sql.proofs.plain_import.takes_values.Goals as goal

pub returns-in-SqlInputError-clause-tries : goal.returns-in-SqlInputError-clause-tries
returns-in-SqlInputError-clause-tries g c =
    let old = state g.P.Store c.args.plain.now in
    let new = state g.P.Store c.prepare.new.self in
    let text : c.as_str.result.now ≡ insert_text c.args.table.now c.args.count = search rules in
    record {
      told = λ clean.
          let none = not_understood old new c.as_str.result.now c.in-SqlInputError.field-0 (subst (IsNotRun old new c.as_str.result.now []) c.in-SqlInputError.is (c.in-Err.ensures.err clean [])) in
          (was_clean c.prepare.ensures.survives clean, (unchanged_stays old new none.1, sym (subst (λ t. is_ok (understood old.now.schema t) ≡ false) text none.0)));
      refused = λ refused. absurd (let wrong = refused in cc);
    }

pub returns-in-SqlInputError-clause-kept : goal.returns-in-SqlInputError-clause-kept
returns-in-SqlInputError-clause-kept g c = λ clean.
    let old = state g.P.Store c.args.plain.now in
    let new = state g.P.Store c.prepare.new.self in
    (was_clean c.prepare.ensures.survives clean, unrun_all_kept old new c.as_str.result.now [] c.in-Err.error (c.in-Err.ensures.err clean []))

pub returns : goal.returns
returns g c =
    let old = state g.P.Store c.args.plain.now in
    let new = state g.P.Store c.prepare.new.self in
    let e = c.in-Err.error in
    let text : c.as_str.result.now ≡ insert_text c.args.table.now c.args.count = search rules in
    record {
      tries = record {
        told = tt;
        refused = λ refused. subst (λ t. IsUnsaid g.P.Store t c.args.plain.now c.prepare.new.self) text
            (prepare_unsaid g.P.Store c.as_str.result.now c.args.plain.now c.prepare.new.self e c.prepare.ensures.survives
            (other_cause {T = Bool} e (Err c.from.result) (ap Err c.from.ensures) refused) c.in_default.not-SqlInputError c.in-Err.ensures.err);
      };
      kept = λ clean. (was_clean c.prepare.ensures.survives clean, unrun_all_kept old new c.as_str.result.now [] e (c.in-Err.ensures.err clean []));
    }
