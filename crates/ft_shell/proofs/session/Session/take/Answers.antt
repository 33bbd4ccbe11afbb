-- one line after the other
use Rattle.std.proofs.Common.{rules, ◌≡◌, [], ◌∷◌, ◌++◌, ◌∙◌, Err, true, false, sym, ap, refl, append_assoc}
use Rattle.shell_io.specs.LinesRead.{Way, behind, members_left}
use Rattle.shell_io.proofs.{same_then}
use Rattle.ft_shell.proofs.RanLemmas.{lacks_memory, passes_as, passes_none, passes_then, runs_as, runs_err, runs_then}
use Rattle.shell_io.specs.declared.run.RunFault.TheVariants as causes
use Rattle.ft_shell.proofs.session.Session.take.Goals as goal

pub loop-outputs-init : goal.loop-outputs-init
loop-outputs-init g c = record {
  run = passes_none g.P.Store g.S.Store _ _ _ (λ more. refl);
  waits = c.requires.waiting;
  writers = (refl, refl);
}

pub returns-in_err-keep-clause-runs : goal.returns-in_err-keep-clause-runs
returns-in_err-keep-clause-runs g c =
    let goes : c.loop-outputs.outputs.status.quit ≡ false = search rules in
    let is : c.from_residual.result ≡ Err causes.Memory = search rules in
    runs_err g.P.Store g.S.Store c.from_residual.result causes.Memory _ _ _ _ is
    (runs_then {T = Unit {0}} g.P.Store g.S.Store (Err causes.Memory) _ (λ (way : Way). members_left c.loop-outputs.lines (behind c.loop-outputs.rest.now way)) (members_left c.keep.new.self) _ _ _ c.loop-outputs.invariant.run goes
    (lacks_memory g.P.Store g.S.Store (λ (way : Way). members_left c.loop-outputs.lines (behind c.loop-outputs.rest.now way)) (members_left c.keep.new.self) _))

pub returns-in_default-clause-runs : goal.returns-in_default-clause-runs
returns-in_default-clause-runs g c =
    passes_as g.P.Store g.S.Store _ _ _ _ (λ (way : Way). way) _ _ (λ more. refl) (λ more goes. c.in_ok-keep.ensures.left more) c.loop-outputs.invariant.run

pub returns-in_err-end_line-clause-runs : goal.returns-in_err-end_line-clause-runs
returns-in_err-end_line-clause-runs g c =
    let goes : c.loop-outputs.outputs.status.quit ≡ false = search rules in
    let is : c.from_residual-in_err-end_line.result ≡ Err c.in_err-end_line.field-0.0 = search rules in
    let line = c.in-Some.line.now in
    let after = c.in-Some.after.now in
    runs_err g.P.Store g.S.Store c.from_residual-in_err-end_line.result c.in_err-end_line.field-0.0 _ _ _ _ is
    (runs_then {T = Unit {0}} g.P.Store g.S.Store (Err c.in_err-end_line.field-0.0) _ _ (λ (way : Way). members_left c.end_line.new.lines (behind after way)) _ _ _ c.loop-outputs.invariant.run goes
    (runs_as {T = Unit {0}} g.P.Store g.S.Store (Err c.in_err-end_line.field-0.0) (λ (way : Way). members_left c.loop-outputs.lines (behind line (behind (10 ∷ []) way))) (members_left c.end_line.new.lines) (λ (way : Way). members_left c.loop-outputs.lines (behind c.loop-outputs.rest.now way)) (λ (way : Way). members_left c.end_line.new.lines (behind after way)) (behind after) _ _
    (λ way. ap (λ xs. members_left c.loop-outputs.lines (record way { rest = xs })) (ap (λ xs. xs ++ way.rest) c.in-Some.ensures.some.1 ∙ append_assoc line (10 ∷ after) way.rest)) (λ more goes. refl) c.in_err-end_line.ensures.runs))

pub loop-outputs-preserved : goal.loop-outputs-preserved
loop-outputs-preserved g c =
    let goes : c.loop-outputs.outputs.status.quit ≡ false = search rules in
    let line = c.in-Some.line.now in
    let after = c.in-Some.after.now in
    record {
      run = passes_then g.P.Store g.S.Store _ _ _ _ _ _ c.loop-outputs.invariant.run goes
          (passes_as g.P.Store g.S.Store (λ (way : Way). members_left c.loop-outputs.lines (behind line (behind (10 ∷ []) way))) (members_left c.end_line.new.lines) (λ (way : Way). members_left c.loop-outputs.lines (behind c.loop-outputs.rest.now way)) (λ (way : Way). members_left c.end_line.new.lines (behind after way)) (behind after) _ _
          (λ way. ap (λ xs. members_left c.loop-outputs.lines (record way { rest = xs })) (ap (λ xs. xs ++ way.rest) c.in-Some.ensures.some.1 ∙ append_assoc line (10 ∷ after) way.rest)) (λ more goes. refl) c.in_ok-end_line.ensures.runs);
      waits = c.in_ok-end_line.ensures.waiting;
      writers = same_then c.args.outputs.now c.loop-outputs.outputs c.end_line.new.outputs c.loop-outputs.invariant.writers c.in_ok-end_line.ensures.writers;
    }

pub returns-clause-runs : goal.returns-clause-runs
returns-clause-runs g c =
    let ended : c.loop-outputs.outputs.status.quit ≡ true = search rules in
    passes_as g.P.Store g.S.Store _ _ _ _ (λ (way : Way). way) _ _ (λ more. refl) (λ more goes. absurd (let wrong : true ≡ false = sym ended ∙ goes in cc)) c.loop-outputs.invariant.run
