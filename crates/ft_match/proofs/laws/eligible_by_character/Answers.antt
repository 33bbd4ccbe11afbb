use Rattle.ft_match.proofs.Characters.{same_kind}
use Rattle.ft_match.proofs.laws.eligible_by_character.Goals as goal

pub returns : goal.returns
returns c = same_kind
