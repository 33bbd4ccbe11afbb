-- one document or one row more
use Rattle.ft_content.proofs.LastLemmas.{docid_is_taken}
use Rattle.ft_content.proofs.AnswerLemmas.{rows_are_cut_first}
use Rattle.ft_content.proofs.laws.commands_in_pieces.Goals as goal

pub returns : goal.returns
returns c = record { taken = docid_is_taken; cut = rows_are_cut_first }
