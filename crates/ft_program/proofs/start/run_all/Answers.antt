-- the input alone, or the texts
use Rattle.std.proofs.Common.{rules, ◌≡◌, ◌∙◌, true, false, length, subst, sym, ap}
use Rattle.std.specs.Prelude.{◌≢◌, ◌==◌}
use Rattle.ft_program.specs.Inputs.{RunsInTurn, Stage}
use Rattle.ft_program.proofs.InputLemmas.{due_none, due_some, one_alone, runs_and_keeps}
use Rattle.ft_program.proofs.start.run_all.Goals as goal

pub returns-then-is_empty-clause-runs : goal.returns-then-is_empty-clause-runs
returns-then-is_empty-clause-runs g c =
    let none : length c.args.inputs.now ≡ 0 = search rules in
    let standard = g.R.Read.remaining c.args.input.now in
    let old : Stage _ g.row.S.Denot = record { parts = c.args.session.now; on = record { out = g.O.Write.contents c.args.outputs.now.out.now; err = g.E.Write.contents c.args.outputs.now.err.now } } in
    let new : Stage _ g.row.S.Denot = record { parts = c.run.new.self; on = record { out = g.O.Write.contents c.run.new.out; err = g.E.Write.contents c.run.new.err } } in
    runs_and_keeps g.P.Store g.S.Store _ c.run.result old new c.kept_by_runs.ensures
    (subst (λ inputs. RunsInTurn g.P.Store g.S.Store inputs c.run.result old new) (sym (due_none c.args.inputs.now standard none))
    (one_alone g.P.Store g.S.Store c.run.result standard old new c.run.ensures.ran.0 (g.R.Read.remaining c.run.new.reader, c.run.ensures.ran.1)))

pub returns-else-is_empty-clause-runs : goal.returns-else-is_empty-clause-runs
returns-else-is_empty-clause-runs g c =
    let no : (length c.args.inputs.now == 0) ≡ false = sym c.is_empty.ensures ∙ c.if-is_empty.false in
    let some : length c.args.inputs.now ≢ 0 = λ is. (let wrong : true ≡ false = sym (ap (λ n. n == 0) is) ∙ no in cc) in
    let standard = g.R.Read.remaining c.args.input.now in
    let old : Stage _ g.row.S.Denot = record { parts = c.args.session.now; on = record { out = g.O.Write.contents c.args.outputs.now.out.now; err = g.E.Write.contents c.args.outputs.now.err.now } } in
    let new : Stage _ g.row.S.Denot = record { parts = c.run_texts.new.session; on = record { out = g.O.Write.contents c.run_texts.new.outputs.out.now; err = g.E.Write.contents c.run_texts.new.outputs.err.now } } in
    runs_and_keeps g.P.Store g.S.Store _ c.run_texts.result old new c.kept_by_runs.ensures
    (subst (λ inputs. RunsInTurn g.P.Store g.S.Store inputs c.run_texts.result old new) (sym (due_some c.args.inputs.now standard some)) c.run_texts.ensures.runs)
