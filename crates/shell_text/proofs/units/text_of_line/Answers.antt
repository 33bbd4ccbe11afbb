use Rattle.std.proofs.Common.{sym, ◌∙◌}
use Rattle.std.proofs.lemmas.Str.{is_utf8-from_IsUtf8}
use Rattle.shell_text.proofs.Splitters.{not_utf8}
use Rattle.shell_text.proofs.units.text_of_line.Goals as goal

pub returns-in_default : goal.returns-in_default
returns-in_default c = record { ok = tt; err = not_utf8 c.args.line.now c.in_default.ensures.cases.0 }

pub returns-then-contains : goal.returns-then-contains
returns-then-contains c = record { ok = tt; err = (is_utf8-from_IsUtf8 c.args.line.now c.in-Ok.ensures.cases.1, sym c.contains.ensures.value ∙ c.if-contains.true) }

pub returns : goal.returns
returns c = record { ok = (c.in-Ok.ensures.cases.0, is_utf8-from_IsUtf8 c.args.line.now c.in-Ok.ensures.cases.1, sym c.contains.ensures.value ∙ c.if-contains.false); err = tt }
