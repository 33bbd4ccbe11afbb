-- what was read so far was run, and no unit waits before the next piece
use Rattle.std.proofs.Common.{◌≡◌, ◌+◌, ◌-◌, ◌^◌, ◌<◌, length, [], false}
use Rattle.shell_io.specs.LinesRead.{HasNoEnd}
use Rattle.shell_io.specs.Writing.{SameWriters}
use Rattle.ft_shell.proofs.Common.{shell_with, moment}
use Rattle.ft_shell.proofs.RunLemmas.{SoFar, opening}
use Rattle.ft_shell.proofs.session.Session.run_pieces.Given as goal

pub record Kept (run_far has_size is_waiting is_within goes_on are_same : Type 0) : Type 0 where
  pub run : run_far
  pub size : has_size
  pub waits : is_waiting
  pub within : is_within
  pub goes : goes_on
  pub writers : are_same

abbrev pub invariant-loop-total : goal.invariant-loop-total
invariant-loop-total g l = Kept
    (SoFar g.P.Store g.S.Store (2 ^ 30) l.total (g.R.Read.remaining l.fn.reader) (g.R.Read.remaining l.reader) l.lines
    (opening (shell_with l.fn.self (g.F.Source.holds l.fn.source)) (g.O.Write.contents l.fn.outputs.out.now) (g.E.Write.contents l.fn.outputs.err.now))
    (moment g.O.Write.contents g.E.Write.contents (shell_with l.self (g.F.Source.holds l.source)) l.outputs))
    (0 < length l.chunk.items) (l.lines.splitting.waiting ≡ []) (HasNoEnd l.lines.line) (l.outputs.status.quit ≡ false) (SameWriters l.fn.outputs l.outputs)

abbrev pub decreases-loop-total : goal.decreases-loop-total
decreases-loop-total g l = 2 ^ 30 + 1 - l.total
