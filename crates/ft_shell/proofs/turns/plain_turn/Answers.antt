-- it asks, or it doesn't
use Rattle.std.proofs.Common.{rules, ◌≡◌, true, false, inl, string_bytes, option_map}
use Rattle.shell_io.specs.OutputViews.{answer_as}
use Rattle.ft_shell.proofs.Common.{asks, sql_tokens}
use Rattle.ft_shell.proofs.PlainTurnLemmas.{asks_turn, runs_turn}
use Rattle.ft_shell.proofs.turns.plain_turn.Goals as goal

pub returns-then-statement : goal.returns-then-statement
returns-then-statement g c =
    let is : asks (sql_tokens c.args.text.now) ≡ true = search rules in
    inl (asks_turn g.P.Store g.S.Store c.args.settings.now c.args.text.now c.args.plain.now c.query_turn.new.plain (g.T.TextTables.known c.args.full_text.now) (answer_as c.query_turn.result)
    c.in_ok-statement.statement.seeks is c.in_ok-statement.ensures.seeks c.query_turn.ensures)

pub returns : goal.returns
returns g c =
    let is : asks (sql_tokens c.args.text.now) ≡ false = search rules in
    inl (runs_turn g.P.Store g.S.Store c.args.settings.now c.args.text.now c.args.plain.now c.command_turn.new.plain (g.T.TextTables.known c.args.full_text.now) (g.T.TextTables.known c.command_turn.new.full_text) (answer_as c.command_turn.result)
    (option_map string_bytes c.in_ok-statement.statement.made) is c.in_ok-statement.ensures.made c.command_turn.ensures)
