-- the settings and the files are as before
use Rattle.std.proofs.Common.{rules, ◌≡◌, refl, sym, subst, inl}
use Rattle.shell_io.specs.OutputViews.{answer_as}
use Rattle.ft_shell.proofs.Common.{Tables, command_as, DotTurn}
use Rattle.ft_shell.proofs.DotLemmas.{sets_turn}
use Rattle.ft_shell.proofs.dot_turn.dot_turn.Goals as goal

pub returns-in-Tables : goal.returns-in-Tables
returns-in-Tables g c =
    let is : command_as c.args.command.now ≡ Tables = search rules in
    inl (subst (DotTurn g.P.Store g.S.Store
    (record { settings = c.args.settings.now; plain = c.args.plain.now; full_text = g.T.TextTables.known c.args.full_text.now; holds = g.F.Source.holds c.args.source.now })
    (record { settings = c.args.settings.now; plain = c.tables_turn.new.plain; full_text = g.T.TextTables.known c.tables_turn.new.full_text; holds = g.F.Source.holds c.args.source.now })
    (answer_as c.tables_turn.result)) (sym is) ((refl, refl), c.tables_turn.ensures))

pub returns-in_default : goal.returns-in_default
returns-in_default g c =
    sets_turn g.P.Store g.S.Store c.args.plain.now (g.T.TextTables.known c.args.full_text.now) (g.F.Source.holds c.args.source.now) c.args.settings.now c.set_turn.new.settings (answer_as c.set_turn.result) c.args.command.now
    c.in_default.not-Print c.in_default.not-Import c.in_default.not-Tables c.in_default.not-Quit c.in_default.not-Usage c.in_default.not-Unknown c.set_turn.ensures
