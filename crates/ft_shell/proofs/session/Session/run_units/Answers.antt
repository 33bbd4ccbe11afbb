-- one unit after the other
use Rattle.std.proofs.Common.{rules, ◌≡◌, ◌∷◌, ◌∙◌, List, Err, false, sym, ap, refl}
use Rattle.shell_text.specs.Units.{Member}
use Rattle.shell_text.specs.Splitting.{member_of_unit}
use Rattle.shell_io.specs.LinesRead.{LinesRead, Way, members_left}
use Rattle.shell_io.proofs.{same_then}
use Rattle.ft_shell.proofs.RanLemmas.{passes_as, passes_none, passes_then, runs_as, runs_err, runs_then}
use Rattle.ft_shell.proofs.session.Session.run_units.Goals as goal

pub loop-outputs-init : goal.loop-outputs-init
loop-outputs-init g c = record {
  run = passes_none g.P.Store g.S.Store _ _ _ (λ rest. refl);
  line = refl;
  writers = (refl, refl);
}

pub returns-in_err-run_unit-clause-runs : goal.returns-in_err-run_unit-clause-runs
returns-in_err-run_unit-clause-runs g c =
    let goes : c.loop-outputs.outputs.status.quit ≡ false = search rules in
    let is : c.from_residual.result ≡ Err c.in_err-run_unit.field-0.0 = search rules in
    let unit = member_of_unit c.in-Some.unit in
    runs_err g.P.Store g.S.Store c.from_residual.result c.in_err-run_unit.field-0.0 _ _ _ _ is
    (runs_then {T = Unit {0}} g.P.Store g.S.Store (Err c.in_err-run_unit.field-0.0) _ _ (members_left c.next.new.self) _ _ _ c.loop-outputs.invariant.run goes
    (runs_as {T = Unit {0}} g.P.Store g.S.Store (Err c.in_err-run_unit.field-0.0) (λ (rest : List Member). unit ∷ rest) (λ (rest : List Member). rest) (members_left c.loop-outputs.lines) (members_left c.next.new.self) (members_left c.next.new.self) _ _
    (λ rest. c.in-Some.ensures.some.0 rest) (λ rest goes. refl) c.in_err-run_unit.ensures.runs))

pub loop-outputs-preserved : goal.loop-outputs-preserved
loop-outputs-preserved g c =
    let goes : c.loop-outputs.outputs.status.quit ≡ false = search rules in
    let unit = member_of_unit c.in-Some.unit in
    record {
      run = passes_then g.P.Store g.S.Store _ _ _ _ _ _ c.loop-outputs.invariant.run goes
          (passes_as g.P.Store g.S.Store (λ (rest : List Member). unit ∷ rest) (λ (rest : List Member). rest) (members_left c.loop-outputs.lines) (members_left c.next.new.self) (members_left c.next.new.self) _ _
          (λ rest. c.in-Some.ensures.some.0 rest) (λ rest goes. refl) c.in_ok-run_unit.ensures.runs);
      line = c.in-Some.ensures.some.2 ∙ c.loop-outputs.invariant.line;
      writers = same_then c.args.outputs.now c.loop-outputs.outputs c.run_unit.new.outputs c.loop-outputs.invariant.writers c.in_ok-run_unit.ensures.writers;
    }

pub returns-in_default-clause-runs : goal.returns-in_default-clause-runs
returns-in_default-clause-runs g c =
    passes_as g.P.Store g.S.Store _ _ _ _ (λ (way : Way). way) _ _ (λ rest. refl) (λ rest goes. ap (λ (f : LinesRead). members_left f rest) (sym c.in_default.ensures.none.1)) c.loop-outputs.invariant.run
