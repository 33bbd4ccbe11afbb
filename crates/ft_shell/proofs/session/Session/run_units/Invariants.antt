-- the units that waited so far were run, and those that wait are ever fewer
use Rattle.std.proofs.Common.{◌≡◌, length}
use Rattle.shell_io.specs.LinesRead.{members_left}
use Rattle.shell_io.specs.Writing.{SameWriters}
use Rattle.ft_shell.proofs.Common.{shell_with, Passes, moment}
use Rattle.ft_shell.proofs.session.Session.run_units.Given as goal

pub record Kept (run_far has_line are_same : Type 0) : Type 0 where
  pub run : run_far
  pub line : has_line
  pub writers : are_same

abbrev pub invariant-loop-outputs : goal.invariant-loop-outputs
invariant-loop-outputs g l = Kept
    (Passes g.P.Store g.S.Store (members_left l.fn.lines) (members_left l.lines)
    (moment g.O.Write.contents g.E.Write.contents (shell_with l.fn.self (g.F.Source.holds l.fn.source)) l.fn.outputs)
    (moment g.O.Write.contents g.E.Write.contents (shell_with l.self (g.F.Source.holds l.source)) l.outputs))
    (l.lines.line ≡ l.fn.lines.line) (SameWriters l.fn.outputs l.outputs)

abbrev pub decreases-loop-outputs : goal.decreases-loop-outputs
decreases-loop-outputs g l = length l.lines.splitting.waiting
