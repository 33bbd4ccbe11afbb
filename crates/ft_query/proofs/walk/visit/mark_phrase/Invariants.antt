use Rattle.std.proofs.Common.{◌≡◌, ◌+◌, ◌*◌, ◌++◌, length, drop}
use Rattle.ft_query.proofs.Common.{marks_from, numbered_offsets, plain_lists, total, TakesOf}
use Rattle.ft_query.proofs.walk.visit.mark_phrase.Given as goal

abbrev pub invariant-loop-i : goal.invariant-loop-i
invariant-loop-i l =
    (l.found.offsets.items ++ numbered_offsets l.found.next (marks_from l.i (plain_lists (drop l.i l.lists)) l.starts)
    ≡ l.initial.found.offsets.items ++ numbered_offsets l.initial.found.next (marks_from 0 (plain_lists l.lists) l.starts))
    × (l.found.next ≡ l.initial.found.next + l.i)
    × TakesOf (total (plain_lists l.lists) + length l.lists * length l.starts)
    (total (plain_lists (drop l.i l.lists)) + length (drop l.i l.lists) * length l.starts) l.initial.steps l.steps
    × (l.found.wanted ≡ l.initial.found.wanted)
