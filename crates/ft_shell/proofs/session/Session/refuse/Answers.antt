-- its fault line is told
use Rattle.std.proofs.Common.{rules, ◌≡◌, ◌∷◌, ◌++◌, [], List, Option, None, refl, sym, ap, ◌∙◌, subst}
use Rattle.shell_text.specs.Units.{Member, Fault}
use Rattle.shell_io.specs.Outcomes.{Answer, blames, outcome_of}
use Rattle.shell_io.specs.OutputViews.{complaint_as}
use Rattle.shell_io.proofs.{appends_same}
use Rattle.shell_io.specs.declared.line_reader.Refusal.{Refusal}
use Rattle.shell_io.specs.LinesRead.{refused_as}
use Rattle.ft_shell.proofs.Common.{Parts, Shell, shell_with, effects_of, split_text, Runs, moment}
use Rattle.ft_shell.proofs.RanLemmas.{passes_none, runs_turn}
use Rattle.ft_shell.proofs.session.Session.refuse.Goals as goal

pub returns-in_default-clause-runs : goal.returns-in_default-clause-runs
returns-in_default-clause-runs g c = λ holds.
    let none : c.args.refused.now ≡ None = search rules in
    passes_none g.P.Store g.S.Store _ _ _ (λ rest. ap (λ (refused : Option Refusal). refused_as refused ++ rest) none)

pub returns-clause-runs : goal.returns-clause-runs
returns-clause-runs g c = λ holds.
    let parts : Parts g.row.P.Denot g.row.S.Denot = record { settings = c.self.inside.settings; plain = c.self.inside.plain; full_text = g.T.TextTables.known c.self.inside.full_text } in
    let old : Shell g.row.P.Denot g.row.S.Denot = shell_with parts holds in
    let line = c.in-Some.refusal.line in
    let fault = c.in-Some.refusal.fault in
    let body : Answer = complaint_as c.fixed.result in
    let due : body ≡ blames (split_text fault) = c.fixed.ensures ∙ ap blames c.split_text.ensures in
    let told = outcome_of c.bail.result line body in
    let tells : told ≡ outcome_of old.settings.bail line body = ap (λ bail. outcome_of bail line body) c.bail.ensures in
    let a = g.O.Write.contents c.args.outputs.now.out.now in
    subst (λ (refused : Option Refusal). Runs g.P.Store g.S.Store c.tell.result (λ (rest : List Member). refused_as refused ++ rest) (λ (rest : List Member). rest) (moment g.O.Write.contents g.E.Write.contents (shell_with c.args.self.now holds) c.args.outputs.now) (moment g.O.Write.contents g.E.Write.contents (shell_with c.args.self.now holds) c.tell.new.outputs)) (sym c.in-Some.is)
    (subst (λ s. Runs g.P.Store g.S.Store c.tell.result (λ (rest : List Member). Fault line fault ∷ rest) (λ rest. rest) (moment g.O.Write.contents g.E.Write.contents (shell_with s holds) c.args.outputs.now) (moment g.O.Write.contents g.E.Write.contents (shell_with s holds) c.tell.new.outputs)) c.self.view_is
    (runs_turn g.P.Store g.S.Store c.tell.result (Fault line fault) (moment g.O.Write.contents g.E.Write.contents old c.args.outputs.now) (moment g.O.Write.contents g.E.Write.contents old c.tell.new.outputs) (effects_of told []) a told.out
    (record { body = body; done = (refl, due); tells = tells; calls = refl })
    refl (appends_same a) c.tell.ensures.writes.out c.tell.ensures.writes.err c.tell.ensures.writes.fault c.tell.ensures.writes.faults c.tell.ensures.writes.quit))
