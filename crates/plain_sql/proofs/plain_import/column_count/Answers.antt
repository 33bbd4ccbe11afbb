-- the numbers are tried in turn
use Rattle.std.proofs.Common.{rules, ◌≡◌, ◌≤◌, Err, ap, subst, ◌∙◌, arith}
use Rattle.sqlite.specs.Effect.{Database}
use Rattle.plain_sql.proofs.Common.{state, IsOnlyBelow, takes_values, not_one, untold}
use Rattle.plain_sql.proofs.QueryLemmas.{was_then}
use Rattle.plain_sql.proofs.CountLemmas.{no_number, only_number}
use Rattle.plain_sql.proofs.PlainImportLemmas.{passed_on, stays_then}
use Rattle.plain_sql.proofs.plain_import.column_count.Goals as goal

pub returns-in_err-takes-clause-counts : goal.returns-in_err-takes-clause-counts
returns-in_err-takes-clause-counts g c =
    let is : c.from_residual.result ≡ Err c.in_err-takes.field-0.0 = search rules in
    record {
      counted = search (rules, is);
      uncounted = λ refused.
          untold c.loop-count.count c.loop-count.plain (λ clean. let so_far = c.loop-count.invariant clean in (so_far.0, so_far.1.0))
          (c.in_err-takes.ensures.tries.refused (passed_on c.in_err-takes.field-0.0 c.from_residual.result is refused));
    }

pub returns-in_err-found-clause-counts : goal.returns-in_err-found-clause-counts
returns-in_err-found-clause-counts g c =
    let high : c.loop-count.count ≤ 100 = omega arith in
    let is : c.from_residual-in_err-found.result ≡ Err c.in_err-found.field-0.0 = search rules in
    record {
      counted = search (rules, is);
      uncounted = λ refused.
          not_one (λ clean.
          let told = c.in_ok-takes.ensures.tries.told clean in
          let so_far = c.loop-count.invariant told.0.clean in
          let schema = c.args.plain.now.schema in
          let takes : c.in_ok-takes.takes ≡ takes_values schema c.args.table.now c.loop-count.count = told.1.1 ∙ ap (λ s. takes_values s c.args.table.now c.loop-count.count) (ap (λ (d : Database). d.schema) so_far.1.0.now) in (
            was_then so_far.0 told.0,
            (
              stays_then (state g.P.Store c.args.plain.now) (state g.P.Store c.loop-count.plain) (state g.P.Store c.takes_values.new.plain) so_far.1.0 told.1.0,
              c.in_err-found.ensures schema c.args.table.now takes so_far.1.1 high,
            ),
          ));
    }

pub loop-count-preserved : goal.loop-count-preserved
loop-count-preserved g c = λ clean.
    let told = c.in_ok-takes.ensures.tries.told clean in
    let so_far = c.loop-count.invariant told.0.clean in
    let schema = c.args.plain.now.schema in
    let takes : c.in_ok-takes.takes ≡ takes_values schema c.args.table.now c.loop-count.count = told.1.1 ∙ ap (λ s. takes_values s c.args.table.now c.loop-count.count) (ap (λ (d : Database). d.schema) so_far.1.0.now) in (
      was_then so_far.0 told.0,
      (
        stays_then (state g.P.Store c.args.plain.now) (state g.P.Store c.loop-count.plain) (state g.P.Store c.takes_values.new.plain) so_far.1.0 told.1.0,
        c.in_ok-found.ensures schema c.args.table.now takes so_far.1.1,
      ),
    )

pub returns-in-Some-clause-counts : goal.returns-in-Some-clause-counts
returns-in-Some-clause-counts g c =
    let end : c.loop-count.count ≡ 101 = omega arith in
    record {
      counted = λ clean.
          let so_far = c.loop-count.invariant clean in (
            so_far.0,
            (
              so_far.1.0,
              only_number c.args.plain.now.schema c.args.table.now c.in-Some.count
                  (subst (IsOnlyBelow c.args.plain.now.schema c.args.table.now 101) c.in-Some.is (subst (λ n. IsOnlyBelow c.args.plain.now.schema c.args.table.now n c.loop-count.found) end so_far.1.1)),
            ),
          );
      uncounted = λ refused. absurd (let wrong = refused in cc);
    }

pub returns-in-None-clause-counts : goal.returns-in-None-clause-counts
returns-in-None-clause-counts g c =
    let end : c.loop-count.count ≡ 101 = omega arith in
    record {
      counted = tt;
      uncounted = λ refused.
          not_one (λ clean.
          let so_far = c.loop-count.invariant clean in (
            so_far.0,
            (
              so_far.1.0,
              no_number c.args.plain.now.schema c.args.table.now
                  (subst (IsOnlyBelow c.args.plain.now.schema c.args.table.now 101) c.in-None.is (subst (λ n. IsOnlyBelow c.args.plain.now.schema c.args.table.now n c.loop-count.found) end so_far.1.1)),
            ),
          ));
    }
