use Rattle.std.proofs.Common.{◌∙◌, rules}
use Rattle.ft_query.proofs.Common.{with_items_is}
use Rattle.ft_query.proofs.standing.Standing.search.Goals as goal

pub returns-clause-finds : goal.returns-clause-finds
returns-clause-finds c =
    search (rules, with_items_is c.args.self.now.cursors c.search.new.cursors (c.search.auto.cursors ∙ c.as_mut_slice-cursors.ensures.len))
