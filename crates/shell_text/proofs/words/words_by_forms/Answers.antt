use Rattle.shell_text.proofs.FormLaw.{computed_pieces, one_reading}
use Rattle.shell_text.proofs.words.words_by_forms.Goals as goal

pub returns-clause-computed : goal.returns-clause-computed
returns-clause-computed c = computed_pieces

pub returns-clause-once : goal.returns-clause-once
returns-clause-once c = one_reading
