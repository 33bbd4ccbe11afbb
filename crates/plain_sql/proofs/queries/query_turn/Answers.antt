-- it is answered, or refused
use Rattle.std.proofs.Common.{rules}
use Rattle.shell_io.specs.Outcomes.{Tells}
use Rattle.shell_io.specs.OutputViews.{answer_as}
use Rattle.plain_sql.proofs.Common.{row_print, answered, refused}
use Rattle.plain_sql.proofs.queries.query_turn.Goals as goal

pub returns-in-Ok : goal.returns-in-Ok
returns-in-Ok g c =
    let tells : Tells (row_print c.args.settings.now c.in-Ok.statement.columns c.in-Ok.rows.items) (answer_as c.row_print.result) = search rules in
    answered c.in-Ok.statement.columns c.in-Ok.rows.items c.in-Ok.ensures.answered tells

pub returns-in-Err : goal.returns-in-Err
returns-in-Err g c =
    refused c.in-Err.error c.in-Err.ensures.refused c.refusal.ensures
