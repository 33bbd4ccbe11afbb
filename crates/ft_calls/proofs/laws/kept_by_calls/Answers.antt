-- by induction over the calls, and over the commands
use Rattle.ft_calls.proofs.Calls.{kept}
use Rattle.ft_calls.proofs.NameLemmas.{none_gets_unsound, names_stay_apart}
use Rattle.ft_calls.proofs.laws.kept_by_calls.Goals as goal

pub returns-clause-kept : goal.returns-clause-kept
returns-clause-kept c d = kept _

pub returns-clause-sound : goal.returns-clause-sound
returns-clause-sound c d = none_gets_unsound

pub returns-clause-names : goal.returns-clause-names
returns-clause-names c d = names_stay_apart
