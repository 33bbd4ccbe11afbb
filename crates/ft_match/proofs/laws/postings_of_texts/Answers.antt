use Rattle.ft_match.proofs.Bridge.{postings_rise, takes_token}
use Rattle.ft_match.proofs.laws.postings_of_texts.Goals as goal

pub returns-clause-ordered : goal.returns-clause-ordered
returns-clause-ordered c = postings_rise

pub returns-clause-takes : goal.returns-clause-takes
returns-clause-takes c = λ texts t column pos. takes_token t column pos texts
