use Rattle.std.proofs.Common.{◌≡◌, ℤ, ◌-◌, drop, length}
use Rattle.ft_store.specs.Expected.{left_of}
use Rattle.ft_store.proofs.expected.Expected.find_next.Given as goal

abbrev pub invariant-terms : goal.invariant-terms
invariant-terms l =
    (l.self.terms ≡ l.initial.self.terms)
    × ((tab : ℤ) → left_of tab (drop l.self.term l.self.terms.items) l.self.posting ≡ left_of tab (drop l.initial.self.term l.initial.self.terms.items) l.initial.self.posting)

abbrev pub decreases-terms : goal.decreases-terms
decreases-terms l = length l.self.terms.items - l.self.term
