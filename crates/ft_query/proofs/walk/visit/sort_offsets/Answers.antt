use Rattle.std.proofs.Common.{◌≡◌, ℕ, rules}
use Rattle.std.proofs.lemmas.List.Sorted.{answers_always}
use Rattle.ft_query.proofs.Common.{Offset}
use Rattle.ft_query.proofs.walk.visit.sort_offsets.Goals as goal

key : Offset → ℕ × ℕ × ℕ
key o = (o.column, o.place, o.term)

pub returns-clause-sorted : goal.returns-clause-sorted
unfolding key
returns-clause-sorted c = c.sort_unstable_by_key.ensures.sorted key (answers_always _ (λ a r. r ≡ key a.0.now) _ (λ f a r q k. search rules))
