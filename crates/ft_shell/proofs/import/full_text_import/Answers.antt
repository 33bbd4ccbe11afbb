-- one command
use Rattle.std.proofs.Common.{rules, ◌≡◌, None, Ok, Err, map, string_bytes, refl, sym, ◌∙◌, subst}
use Rattle.plain_sql.specs.Imports.{row_cells}
use Rattle.shell_io.specs.OutputViews.{answer_as}
use Rattle.shell_io.specs.Records.{records_in, warnings}
use Rattle.shell_io.specs.Outcomes.{blames, warned}
use Rattle.plain_sql.proofs.{records_numbered}
use Rattle.ft_shell.proofs.Common.{enumerate_from, Insert, command_of, reply_of, fault_text, texts_of, InsertTurn, executed}
use Rattle.ft_shell.proofs.import.full_text_import.Goals as goal

pub returns-in_err-execute : goal.returns-in_err-execute
returns-in_err-execute g c =
    let rows = enumerate_from c.args.first (map texts_of c.args.records.items) in
    let fault = c.in_err-execute.field-0.0 in
    let answer = answer_as c.from_residual-in_err-execute.result in
    let is : answer ≡ blames (fault_text fault) = search rules in
    let command : command_of c.in_ok-command.command ≡ Insert (string_bytes c.args.what.now.table) None (map (row_cells c.args.columns) (records_in rows)) =
    c.in_ok-command.ensures ∙ (λ j. Insert (c.as_str-2.ensures.value j) None (map (row_cells c.args.columns) (sym (records_numbered c.args.first (map texts_of c.args.records.items)) j))) in
    executed (subst (λ k. InsertTurn g.S.Store k (warnings (string_bytes c.args.what.now.file) c.args.columns rows) (g.T.TextTables.known c.args.full_text.now) (g.T.TextTables.known c.execute.new.self) answer) command
    (record { answer = Err fault; does = c.in_err-execute.ensures.does; tells = is }))

pub returns : goal.returns
returns g c =
    let rows = enumerate_from c.args.first (map texts_of c.args.records.items) in
    let command : command_of c.in_ok-command.command ≡ Insert (string_bytes c.args.what.now.table) None (map (row_cells c.args.columns) (records_in rows)) =
    c.in_ok-command.ensures ∙ (λ j. Insert (c.as_str-2.ensures.value j) None (map (row_cells c.args.columns) (sym (records_numbered c.args.first (map texts_of c.args.records.items)) j))) in
    let lines : string_bytes c.in_ok-lines.lines ≡ warnings (string_bytes c.args.what.now.file) c.args.columns rows =
    c.in_ok-lines.ensures ∙ (λ j. warnings (c.as_str.ensures.value j) c.args.columns (enumerate_from c.args.first (map texts_of (c.as_slice.ensures.value j)))) in
    let answer = warned (string_bytes c.in_ok-lines.lines) in
    executed (subst (λ l. InsertTurn g.S.Store (Insert (string_bytes c.args.what.now.table) None (map (row_cells c.args.columns) (records_in rows))) l (g.T.TextTables.known c.args.full_text.now) (g.T.TextTables.known c.execute.new.self) answer) lines
    (subst (λ k. InsertTurn g.S.Store k (string_bytes c.in_ok-lines.lines) (g.T.TextTables.known c.args.full_text.now) (g.T.TextTables.known c.execute.new.self) answer) command
    (record { answer = Ok (reply_of c.in_ok-execute.field-0); does = c.in_ok-execute.ensures.does; tells = refl })))
