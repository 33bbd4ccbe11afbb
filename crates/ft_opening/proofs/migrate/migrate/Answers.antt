use Rattle.std.proofs.Common.{rules}
use Rattle.ft_opening.proofs.migrate.migrate.Goals as goal

pub returns-in_err-unmark-clause-made : goal.returns-in_err-unmark-clause-made
returns-in_err-unmark-clause-made g c = record { all = search rules; none = search rules; live = search rules; mode = search rules; crash = search rules; fault = search rules }

pub returns-in_err-mark-clause-made : goal.returns-in_err-mark-clause-made
returns-in_err-mark-clause-made g c = record { all = search rules; none = search rules; live = search rules; mode = search rules; crash = search rules; fault = search rules }

pub returns-clause-made : goal.returns-clause-made
returns-clause-made g c = record { all = search rules; none = search rules; live = search rules; mode = search rules; crash = search rules; fault = search rules }
