use Rattle.std.proofs.Common.{◌≡◌, ◌≢◌, [], rules}
use Rattle.ft_store.specs.Found.{found_spots}
use Rattle.ft_store.proofs.EntryLemmas.{others_more, other_last}
use Rattle.ft_store.proofs.lists.ListsOfGathered.add.Goals as goal

pub returns-then-not-whole-clause-added : goal.returns-then-not-whole-clause-added
returns-then-not-whole-clause-added c = λ rows h. others_more (λ l. l.1 ≢ []) found_spots c.args.row.now rows (rw c.if-not-whole.true at h)

pub returns-in_default-clause-added : goal.returns-in_default-clause-added
returns-in_default-clause-added c = λ rows h.
    let none : (found_spots c.args.row.now).1 ≡ [] = search rules in
    other_last (λ l. l.1 ≢ []) found_spots c.args.row.now rows (λ some. some none)
