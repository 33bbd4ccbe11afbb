use Rattle.ft_match.proofs.PartLaw.{computed_parts, one_reading}
use Rattle.ft_match.proofs.laws.parts_by_forms.Goals as goal

pub returns-clause-computed : goal.returns-clause-computed
returns-clause-computed c = computed_parts

pub returns-clause-once : goal.returns-clause-once
returns-clause-once c = one_reading
