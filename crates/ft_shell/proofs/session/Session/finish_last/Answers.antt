-- a unit, or nothing, or a refusal
use Rattle.std.proofs.Common.{rules, ◌≡◌, ◌≢◌, ◌∷◌, ◌∙◌, [], List, Option, Ok, refl, subst, sym, ap}
use Rattle.shell_text.specs.declared.units.Unit.{Unit as SeenUnit}
use Rattle.shell_text.specs.Units.{Member, Fault}
use Rattle.shell_text.specs.Splitting.{member_of_unit}
use Rattle.shell_io.specs.declared.line_reader.Refusal.{Refusal}
use Rattle.shell_io.specs.LinesRead.{EndsWith, at_end, end_line, members_left}
use Rattle.shell_io.proofs.{ends_refused}
use Rattle.ft_shell.proofs.RanLemmas.{lacks_memory, passes_none, runs_as}
use Rattle.shell_text.specs.declared.units.SplitFault.TheVariants as fault
use Rattle.ft_shell.proofs.session.Session.finish_last.Goals as goal

pub returns-in-Ok-Some-clause-runs : goal.returns-in-Ok-Some-clause-runs
returns-in-Ok-Some-clause-runs g c =
    let last : members_left c.args.lines.now at_end ≡ member_of_unit c.in-Ok-Some.unit ∷ [] = subst (λ (last : Option SeenUnit). EndsWith (Ok last) (members_left c.args.lines.now at_end)) c.in-Ok-Some.field-0-is c.in-Ok-Some.ensures in
    runs_as g.P.Store g.S.Store c.run_unit.result (λ (rest : List Member). member_of_unit c.in-Ok-Some.unit ∷ rest) (λ rest. rest) (λ (_ : Unit {0}). members_left c.args.lines.now at_end) (λ _. []) (λ _. []) _ _
    (λ _. last) (λ _ goes. refl) c.run_unit.ensures.runs

pub returns-in-Ok-None-clause-runs : goal.returns-in-Ok-None-clause-runs
returns-in-Ok-None-clause-runs g c =
    let last : members_left c.args.lines.now at_end ≡ [] = subst (λ (last : Option SeenUnit). EndsWith (Ok last) (members_left c.args.lines.now at_end)) c.in-Ok-None.field-0-is c.in-Ok-None.ensures in
    passes_none g.P.Store g.S.Store (λ (_ : Unit {0}). members_left c.args.lines.now at_end) (λ _. []) _ (λ _. last)

pub returns-in-Err-Memory-clause-runs : goal.returns-in-Err-Memory-clause-runs
returns-in-Err-Memory-clause-runs g c = lacks_memory g.P.Store g.S.Store (λ (_ : Unit {0}). members_left c.args.lines.now at_end) (λ _. []) _

pub returns-in-Err-clause-runs : goal.returns-in-Err-clause-runs
returns-in-Err-clause-runs g c =
    let other : c.in-Err.fault ≢ fault.Memory = search rules in
    let last : members_left c.args.lines.now at_end ≡ Fault (end_line c.in-Err.fault) c.in-Err.fault ∷ [] = ends_refused c.in-Err.fault (members_left c.args.lines.now at_end) other c.in-Err.ensures in
    let due : members_left c.args.lines.now at_end ≡ Fault c.end_refusal.result.line c.end_refusal.result.fault ∷ [] = last ∙ sym (ap (λ (r : Refusal). Fault r.line r.fault ∷ []) c.end_refusal.ensures) in
    runs_as g.P.Store g.S.Store c.refuse.result (λ (rest : List Member). Fault c.end_refusal.result.line c.end_refusal.result.fault ∷ rest) (λ rest. rest) (λ (_ : Unit {0}). members_left c.args.lines.now at_end) (λ _. []) (λ _. []) _ _
    (λ _. due) (λ _ goes. refl) (c.refuse.ensures.runs (g.F.Source.holds c.args.source.now))
