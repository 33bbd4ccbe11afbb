use Rattle.shell_text.proofs.DotFormLaw.{computed_words, one_reading}
use Rattle.shell_text.proofs.dot.dot_words_by_forms.Goals as goal

pub returns-clause-computed : goal.returns-clause-computed
returns-clause-computed c = computed_words

pub returns-clause-once : goal.returns-clause-once
returns-clause-once c = one_reading
