-- by whether the table can be read
use Rattle.std.proofs.Common.{rules, ◌≡◌, true, false, None, Some, refl, subst}
use Rattle.plain_sql.specs.Listings.{Tries}
use Rattle.shell_io.specs.OutputViews.{answer_as}
use Rattle.shell_io.specs.Outcomes.{lacks_memory}
use Rattle.ft_shell.proofs.Common.{there, new_table, untried}
use Rattle.ft_shell.proofs.import.plain_import.Goals as goal

pub returns-in_err-can_read : goal.returns-in_err-can_read
returns-in_err-can_read g c =
    let is : answer_as c.from_residual.result ≡ lacks_memory = search rules in
    untried (subst (λ t. Tries g.P.Store t None c.args.plain.now c.reads_table.new.conn) c.as_str.ensures.value c.in_err-can_read.ensures) refl is

pub returns-then-can_read : goal.returns-then-can_read
returns-then-can_read g c =
    let can : c.in_ok-can_read.can_read ≡ true = search rules in
    there c.reads_table.new.conn
    (subst (λ t. Tries g.P.Store t (Some true) c.args.plain.now c.reads_table.new.conn) c.as_str.ensures.value (subst (λ b. Tries g.P.Store c.as_str.result.now (Some b) c.args.plain.now c.reads_table.new.conn) can c.in_ok-can_read.ensures)) refl c.into_table.ensures

pub returns : goal.returns
returns g c =
    let cannot : c.in_ok-can_read.can_read ≡ false = search rules in
    new_table c.reads_table.new.conn
    (subst (λ t. Tries g.P.Store t (Some false) c.args.plain.now c.reads_table.new.conn) c.as_str.ensures.value (subst (λ b. Tries g.P.Store c.as_str.result.now (Some b) c.args.plain.now c.reads_table.new.conn) cannot c.in_ok-can_read.ensures)) c.into_new_table.ensures
