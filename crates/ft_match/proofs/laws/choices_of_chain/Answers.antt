use Rattle.ft_match.proofs.Choices.{chosen}
use Rattle.ft_match.proofs.laws.choices_of_chain.Goals as goal

pub returns : goal.returns
returns c = chosen
