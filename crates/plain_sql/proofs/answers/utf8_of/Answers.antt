-- by what `from_utf8` says
use Rattle.std.proofs.lemmas.Str.{is_utf8-from_IsUtf8}
use Rattle.plain_sql.proofs.AnswerLemmas.{not_utf8}
use Rattle.plain_sql.proofs.answers.utf8_of.Goals as goal

pub returns-in_default-clause-none : goal.returns-in_default-clause-none
returns-in_default-clause-none c = not_utf8 c.args.bytes.now c.in_default.ensures.cases.0

pub returns-clause-some : goal.returns-clause-some
returns-clause-some c = (c.in-Ok.ensures.cases.0, is_utf8-from_IsUtf8 c.args.bytes.now c.in-Ok.ensures.cases.1)
