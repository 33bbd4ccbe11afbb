-- its text is echoed, and what it tells is written
use Rattle.std.proofs.Common.{rules, ◌≡◌, ◌++◌, ◌∷◌, List, Err, string_bytes, subst, sym, ap, inl}
use Rattle.shell_text.specs.Units.{Member}
use Rattle.shell_text.specs.Splitting.{member_of_unit}
use Rattle.shell_io.specs.Outcomes.{echo_text, echoed, outcome_of}
use Rattle.shell_io.specs.OutputViews.{answer_as}
use Rattle.shell_io.specs.Writing.{AppendsUpTo}
use Rattle.ft_shell.proofs.Common.{Appends, Shell, shell_with, effects_of, Turn, calls_in, echo_of, Runs, moment}
use Rattle.ft_shell.proofs.RanLemmas.{breaks_echo, runs_err, runs_turn, unit_echo, unit_turned}
use Rattle.ft_shell.proofs.session.Session.run_unit.Goals as goal

pub returns-in_err-echo_text-clause-runs : goal.returns-in_err-echo_text-clause-runs
returns-in_err-echo_text-clause-runs g c =
    let a = g.O.Write.contents c.args.outputs.now.out.now in
    let b = g.O.Write.contents c.echo_text.new.out in
    let e = g.E.Write.contents c.args.outputs.now.err.now in
    let text = string_bytes c.args.unit.now.text in
    let held = g.F.Source.holds c.args.source.now in
    let old : Shell g.row.P.Denot g.row.S.Denot = record { settings = c.self.inside.settings; plain = c.self.inside.plain; full_text = g.T.TextTables.known c.self.inside.full_text; holds = held } in
    let unit = member_of_unit c.args.unit.now in
    let is : c.from_residual.result ≡ Err c.in_err-echo_text.field-0.0 = search rules in
    let spoken : AppendsUpTo a b (echo_text c.echo.result text) = subst (λ t. AppendsUpTo a b (echo_text c.echo.result t)) c.as_str.ensures.value c.in_err-echo_text.ensures.out in
    let first : AppendsUpTo a b (echo_text old.settings.echo text) = subst (λ on. AppendsUpTo a b (echo_text on text)) c.echo.ensures spoken in
    let part : AppendsUpTo a b (echo_of old.settings unit) = subst (AppendsUpTo a b) (sym (unit_echo old.settings c.args.unit.now.kind c.args.unit.now.line text)) first in
    subst (λ s. Runs g.P.Store g.S.Store c.from_residual.result (λ (rest : List Member). unit ∷ rest) (λ rest. rest) (moment g.O.Write.contents g.E.Write.contents (shell_with s held) c.args.outputs.now) (record { shell = shell_with s held; status = c.args.outputs.now.status; out = b; err = g.E.Write.contents c.args.outputs.now.err.now })) c.self.view_is
    (runs_err g.P.Store g.S.Store c.from_residual.result c.in_err-echo_text.field-0.0 (λ (rest : List Member). unit ∷ rest) (λ rest. rest) _ _ is
    (breaks_echo g.P.Store g.S.Store c.in_err-echo_text.field-0.0 unit (moment g.O.Write.contents g.E.Write.contents old c.args.outputs.now) b part c.in_err-echo_text.ensures.fault, inl c.in_err-echo_text.ensures.fault))

pub returns-clause-runs : goal.returns-clause-runs
returns-clause-runs g c =
    let a = g.O.Write.contents c.args.outputs.now.out.now in
    let b = g.O.Write.contents c.echo_text.new.out in
    let d = g.O.Write.contents c.tell.new.outputs.out.now in
    let e = g.E.Write.contents c.args.outputs.now.err.now in
    let f = g.E.Write.contents c.tell.new.outputs.err.now in
    let text = string_bytes c.args.unit.now.text in
    let held = g.F.Source.holds c.args.source.now in
    let old : Shell g.row.P.Denot g.row.S.Denot = record { settings = c.self.inside.settings; plain = c.self.inside.plain; full_text = g.T.TextTables.known c.self.inside.full_text; holds = held } in
    let new : Shell g.row.P.Denot g.row.S.Denot = record { settings = c.unit_turn-answer.new.settings; plain = c.unit_turn-answer.new.plain; full_text = g.T.TextTables.known c.unit_turn-answer.new.full_text; holds = g.F.Source.holds c.unit_turn-answer.new.source } in
    let body = answer_as c.unit_turn-answer.result in
    let told = outcome_of c.bail-bail.result c.args.unit.now.line body in
    let calls = calls_in g.P.Store g.S.Store (member_of_unit c.args.unit.now) old new body c.unit_turn-answer.ensures in
    let spoken : Appends a b (echo_text c.echo.result text) = subst (λ t. Appends a b (echo_text c.echo.result t)) c.as_str.ensures.value c.in_ok-echo_text.ensures.out in
    let spells = unit_echo old.settings c.args.unit.now.kind c.args.unit.now.line text in
    let first : Appends a b (echo_text old.settings.echo text) = subst (λ on. Appends a b (echo_text on text)) c.echo.ensures spoken in
    subst (λ s. Runs g.P.Store g.S.Store c.tell.result (λ (rest : List Member). member_of_unit c.args.unit.now ∷ rest) (λ rest. rest) (moment g.O.Write.contents g.E.Write.contents (shell_with s held) c.args.outputs.now) (moment g.O.Write.contents g.E.Write.contents new c.tell.new.outputs)) c.self.view_is
    (runs_turn g.P.Store g.S.Store c.tell.result (member_of_unit c.args.unit.now) (moment g.O.Write.contents g.E.Write.contents old c.args.outputs.now) (moment g.O.Write.contents g.E.Write.contents new c.tell.new.outputs) (effects_of (echoed old.settings text told) calls) b body.out
    (subst (λ bail. Turn g.P.Store g.S.Store (member_of_unit c.args.unit.now) old new (effects_of (echoed old.settings text (outcome_of bail c.args.unit.now.line body)) calls)) (sym c.bail-bail.ensures)
    (unit_turned g.P.Store g.S.Store c.args.unit.now.kind c.args.unit.now.line text old new body c.unit_turn-answer.ensures))
    (ap (λ e. e ++ body.out) (sym spells)) (subst (Appends a b) (sym spells) first) c.tell.ensures.writes.out c.tell.ensures.writes.err c.tell.ensures.writes.fault c.tell.ensures.writes.faults c.tell.ensures.writes.quit)
