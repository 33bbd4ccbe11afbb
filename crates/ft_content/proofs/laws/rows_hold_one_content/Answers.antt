-- by induction over the documents
use Rattle.ft_content.proofs.RowLemmas.{rows_are_read, contents_are_one}
use Rattle.ft_content.proofs.laws.rows_hold_one_content.Goals as goal

pub returns : goal.returns
returns c = record { read = rows_are_read; one = contents_are_one }
