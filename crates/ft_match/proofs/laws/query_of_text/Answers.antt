use Rattle.ft_match.proofs.Parsed.{answers_query, answers_too_large, answers_malformed, no_memory}
use Rattle.ft_match.proofs.laws.query_of_text.Goals as goal

pub returns-clause-query : goal.returns-clause-query
returns-clause-query c = answers_query

pub returns-clause-too_large : goal.returns-clause-too_large
returns-clause-too_large c = answers_too_large

pub returns-clause-malformed : goal.returns-clause-malformed
returns-clause-malformed c = answers_malformed

pub returns-clause-no_memory : goal.returns-clause-no_memory
returns-clause-no_memory c = no_memory
