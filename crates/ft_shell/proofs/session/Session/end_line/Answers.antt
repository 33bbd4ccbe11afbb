-- the refusal, and then the units
use Rattle.std.proofs.Common.{rules, ◌≡◌, [], ◌∷◌, ◌++◌, List, Err, false, refl}
use Rattle.shell_text.specs.Units.{Member}
use Rattle.shell_io.specs.LinesRead.{Way, behind, members_left, refused_as}
use Rattle.ft_shell.proofs.RanLemmas.{lacks_memory, passes_as, runs_as, runs_err, runs_then}
use Rattle.shell_io.specs.declared.run.RunFault.TheVariants as causes
use Rattle.ft_shell.proofs.session.Session.end_line.Goals as goal

pub returns-in_err-refused-clause-runs : goal.returns-in_err-refused-clause-runs
returns-in_err-refused-clause-runs g c =
    let is : c.from_residual.result ≡ Err causes.Memory = search rules in
    runs_err g.P.Store g.S.Store c.from_residual.result causes.Memory _ _ _ _ is (lacks_memory g.P.Store g.S.Store (λ (way : Way). members_left c.args.lines.now (behind c.args.bytes.now (behind (10 ∷ []) way))) (members_left c.end_line.new.self) _)

pub returns-in_err-refuse-clause-runs : goal.returns-in_err-refuse-clause-runs
returns-in_err-refuse-clause-runs g c =
    let is : c.from_residual-in_err-refuse.result ≡ Err c.in_err-refuse.field-0.0 = search rules in
    runs_err g.P.Store g.S.Store c.from_residual-in_err-refuse.result c.in_err-refuse.field-0.0 _ _ _ _ is
    (runs_as {T = Unit {0}} g.P.Store g.S.Store (Err c.in_err-refuse.field-0.0) (λ (rest : List Member). refused_as c.in_ok-refused.refused ++ rest) (λ (rest : List Member). rest) (λ (way : Way). members_left c.args.lines.now (behind c.args.bytes.now (behind (10 ∷ []) way))) (members_left c.end_line.new.self) (members_left c.end_line.new.self) _ _
    (λ rest. c.in_ok-refused.ensures.left rest) (λ rest goes. refl) (c.in_err-refuse.ensures.runs (g.F.Source.holds c.args.source.now)))

pub returns-then-outputs-clause-runs : goal.returns-then-outputs-clause-runs
returns-then-outputs-clause-runs g c =
    passes_as g.P.Store g.S.Store (λ (rest : List Member). refused_as c.in_ok-refused.refused ++ rest) (λ (rest : List Member). rest) (λ (way : Way). members_left c.args.lines.now (behind c.args.bytes.now (behind (10 ∷ []) way))) (members_left c.end_line.new.self) (members_left c.end_line.new.self) _ _
    (λ rest. c.in_ok-refused.ensures.left rest) (λ rest goes. refl) (c.in_ok-refuse.ensures.runs (g.F.Source.holds c.args.source.now))

pub returns-clause-runs : goal.returns-clause-runs
returns-clause-runs g c =
    let goes : c.refuse.new.outputs.status.quit ≡ false = search rules in
    runs_then g.P.Store g.S.Store c.run_units.result _ _ _ _ _ _
    (passes_as g.P.Store g.S.Store (λ (rest : List Member). refused_as c.in_ok-refused.refused ++ rest) (λ (rest : List Member). rest) (λ (way : Way). members_left c.args.lines.now (behind c.args.bytes.now (behind (10 ∷ []) way))) (members_left c.end_line.new.self) (members_left c.end_line.new.self) _ _
    (λ rest. c.in_ok-refused.ensures.left rest) (λ rest goes. refl) (c.in_ok-refuse.ensures.runs (g.F.Source.holds c.args.source.now)))
    goes c.run_units.ensures.runs
