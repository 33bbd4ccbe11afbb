-- the lines so far were taken, and no unit waits between two of them
use Rattle.std.proofs.Common.{◌≡◌, [], false, length}
use Rattle.shell_io.specs.LinesRead.{Way, behind, members_left}
use Rattle.shell_io.specs.Writing.{SameWriters}
use Rattle.ft_shell.proofs.Common.{shell_with, Passes, moment}
use Rattle.ft_shell.proofs.session.Session.take.Given as goal

pub record Kept (run_far is_waiting are_same : Type 0) : Type 0 where
  pub run : run_far
  pub waits : is_waiting
  pub writers : are_same

abbrev pub invariant-loop-outputs : goal.invariant-loop-outputs
invariant-loop-outputs g l = Kept
    (Passes g.P.Store g.S.Store (λ (way : Way). members_left l.fn.lines (behind l.bytes way)) (λ way. members_left l.lines (behind l.rest way))
    (moment g.O.Write.contents g.E.Write.contents (shell_with l.fn.self (g.F.Source.holds l.fn.source)) l.fn.outputs)
    (moment g.O.Write.contents g.E.Write.contents (shell_with l.self (g.F.Source.holds l.source)) l.outputs))
    (l.outputs.status.quit ≡ false → l.lines.splitting.waiting ≡ []) (SameWriters l.fn.outputs l.outputs)

abbrev pub decreases-loop-outputs : goal.decreases-loop-outputs
decreases-loop-outputs g l = length l.rest
