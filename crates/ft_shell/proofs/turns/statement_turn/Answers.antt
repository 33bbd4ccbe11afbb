-- by the class of the statement
use Rattle.std.proofs.Common.{rules, ◌≡◌, Some, None, refl, inl}
use Rattle.ft_statements.specs.Statements.{FullText}
use Rattle.shell_io.specs.FaultWords.{lex_words}
use Rattle.shell_io.specs.OutputViews.{answer_as}
use Rattle.shell_io.specs.Outcomes.{blames}
use Rattle.ft_shell.proofs.Common.{command_of, info_names, Plain, class_of, statement_text, sql_tokens}
use Rattle.ft_shell.proofs.ClassLemmas.{class_as_told, classless_turn, closed_turn, wordless_turn}
use Rattle.ft_shell.proofs.turns.statement_turn.Goals as goal

pub returns-in_err-words : goal.returns-in_err-words
returns-in_err-words g c =
    let fault = c.in_err-words.field-0.0 in
    let is : answer_as c.from_residual.result ≡ blames (lex_words fault) = search rules in
    wordless_turn g.P.Store g.S.Store c.args.settings.now c.args.text.now c.args.plain.now (g.T.TextTables.known c.args.full_text.now) (answer_as c.from_residual.result) fault c.in_err-words.ensures.«open» is

pub returns-in_err-read_statement : goal.returns-in_err-read_statement
returns-in_err-read_statement g c =
    let fault = c.in_err-read_statement.field-0.0 in
    let is : answer_as c.from_residual-in_err-read_statement.result ≡ blames (statement_text fault) = search rules in
    classless_turn g.P.Store g.S.Store c.args.settings.now c.args.text.now c.args.plain.now (g.T.TextTables.known c.args.full_text.now) (answer_as c.from_residual-in_err-read_statement.result) fault c.in_ok-words.ensures.closed
    (λ refused. class_as_told c.tables.result.now (g.T.TextTables.known c.args.full_text.now) (sql_tokens c.args.text.now) None c.tables.ensures (c.in_err-read_statement.ensures.syntax refused)) is

pub returns-in-Plain : goal.returns-in-Plain
returns-in-Plain g c =
    let told : class_of (info_names c.tables.result.now) (sql_tokens c.args.text.now) ≡ Some Plain = search rules in
    closed_turn g.P.Store g.S.Store c.args.settings.now c.args.text.now c.args.plain.now c.plain_turn.new.plain (g.T.TextTables.known c.args.full_text.now) (g.T.TextTables.known c.plain_turn.new.full_text) (answer_as c.plain_turn.result) (Some Plain) c.in_ok-words.ensures.closed
    (class_as_told c.tables.result.now (g.T.TextTables.known c.args.full_text.now) (sql_tokens c.args.text.now) (Some Plain) c.tables.ensures told) c.plain_turn.ensures

pub returns : goal.returns
returns g c =
    let command = command_of c.in-FullText.command in
    let told : class_of (info_names c.tables.result.now) (sql_tokens c.args.text.now) ≡ Some (FullText command) = search rules in
    closed_turn g.P.Store g.S.Store c.args.settings.now c.args.text.now c.args.plain.now c.args.plain.now (g.T.TextTables.known c.args.full_text.now) (g.T.TextTables.known c.full_text_turn.new.full_text) (answer_as c.full_text_turn.result) (Some (FullText command)) c.in_ok-words.ensures.closed
    (class_as_told c.tables.result.now (g.T.TextTables.known c.args.full_text.now) (sql_tokens c.args.text.now) (Some (FullText command)) c.tables.ensures told) (inl (refl, c.full_text_turn.ensures))
