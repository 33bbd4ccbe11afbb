use Rattle.std.proofs.Common.{◌≡◌, ◌≤◌, ◌+◌, ◌*◌, length, drop, map}
use Rattle.ft_query.proofs.Common.{plain_term, followed, plain_lists, total}
use Rattle.ft_query.proofs.walk.visit.follow.Given as goal

abbrev pub invariant-loop-i : goal.invariant-loop-i
invariant-loop-i l =
    (followed (l.i + 1) (map plain_term (drop l.i l.terms)) (plain_lists (drop l.i l.lists)) l.starts.items ≡ followed 1 (map plain_term l.terms)
    (plain_lists l.lists) l.fn.first.items)
    × (l.initial.steps.taken ≤ l.steps.taken)
    × (l.steps.taken + length l.starts.items + 2 * total (plain_lists (drop l.i l.lists)) ≤ l.initial.steps.taken + length l.fn.first.items
    + 2 * total (plain_lists l.lists))
