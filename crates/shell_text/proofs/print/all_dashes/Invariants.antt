use Rattle.std.proofs.Common.{◌≡◌, map, take, string_bytes}
use Rattle.shell_text.specs.Print.{dashes}
use Rattle.shell_text.proofs.print.all_dashes.Given as goal

abbrev pub invariant-loop-width : goal.invariant-loop-width
invariant-loop-width l = map string_bytes l.texts.items ≡ map dashes (take l.width-index l.widths)
