-- by the rows of one table after another
use Rattle.ft_index.proofs.OpenedTables.{holds_one_contents}
use Rattle.ft_index.proofs.full_text.FullText.one_store_holds_one_contents.Goals as goal

pub returns : goal.returns
returns c d = holds_one_contents
