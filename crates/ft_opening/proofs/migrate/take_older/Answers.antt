use Rattle.std.proofs.Common.{rules}
use Rattle.ft_opening.proofs.migrate.take_older.Goals as goal

pub returns-in_err-examine-clause-refused : goal.returns-in_err-examine-clause-refused
returns-in_err-examine-clause-refused g c = λ clean is. c.examine.ensures.refused clean (search rules)
