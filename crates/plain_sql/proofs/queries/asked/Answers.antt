-- by what `sqlite` says of the two calls
use Rattle.std.proofs.Common.{rules, ◌≡◌, Err, sym, subst, IfErr}
use Rattle.plain_sql.proofs.Common.{Error, FailsToAnswer}
use Rattle.plain_sql.proofs.QueryLemmas.{asked_unprepared, asked_refused, asked_answered}
use Rattle.plain_sql.proofs.queries.asked.Goals as goal

pub returns-in_err-statement-clause-refused : goal.returns-in_err-statement-clause-refused
returns-in_err-statement-clause-refused g c =
    let fault : Error = c.in_err-statement.field-0.0 in
    let is : c.from_residual.result ≡ Err fault = search rules in
    subst (λ r. IfErr r (FailsToAnswer g.P.Store c.args.text.now c.args.plain.now c.prepare.new.self)) (sym is)
    (asked_unprepared g.P.Store c.args.text.now c.args.plain.now c.prepare.new.self fault c.prepare.ensures.survives c.in_err-statement.ensures.err)

pub returns-in_err-rows-clause-refused : goal.returns-in_err-rows-clause-refused
returns-in_err-rows-clause-refused g c =
    let fault : Error = c.in_err-rows.field-0.0 in
    let is : c.from_residual-in_err-rows.result ≡ Err fault = search rules in
    subst (λ r. IfErr r (FailsToAnswer g.P.Store c.args.text.now c.args.plain.now c.query_all.new.conn)) (sym is)
    (asked_refused g.P.Store c.args.text.now c.args.plain.now c.prepare.new.self c.query_all.new.conn c.in_ok-statement.statement fault
    c.prepare.ensures.survives c.in_ok-statement.ensures.ok c.in_ok-statement.ensures.shape c.query_all.ensures.survives c.in_err-rows.ensures.err)

pub returns-clause-answered : goal.returns-clause-answered
returns-clause-answered g c =
    asked_answered g.P.Store c.args.text.now c.args.plain.now c.prepare.new.self c.query_all.new.conn c.in_ok-statement.statement c.in_ok-rows.rows.items
    c.prepare.ensures.survives c.in_ok-statement.ensures.ok c.in_ok-statement.ensures.shape c.query_all.ensures.survives c.in_ok-rows.ensures.ok
