use Rattle.ft_match.proofs.BridgeDocuments.{documents_are, accepts_nothing}
use Rattle.ft_match.proofs.laws.documents_of_texts.Goals as goal

pub returns-clause-ordered : goal.returns-clause-ordered
returns-clause-ordered c = documents_are

pub returns-clause-left_out : goal.returns-clause-left_out
returns-clause-left_out c = accepts_nothing
