-- piece by piece
use Rattle.shell_text.proofs.WordBounds.{words_cut}
use Rattle.shell_text.proofs.words.words_on_characters.Goals as goal

pub returns : goal.returns
returns c = words_cut
