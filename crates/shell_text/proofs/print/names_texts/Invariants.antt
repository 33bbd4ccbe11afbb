use Rattle.std.proofs.Common.{◌≡◌, map, take, string_bytes}
use Rattle.shell_text.specs.Print.{name_in}
use Rattle.shell_text.proofs.print.names_texts.Given as goal

abbrev pub invariant-loop-name : goal.invariant-loop-name
invariant-loop-name l = map string_bytes l.texts.items ≡ map (λ name. name_in l.mode (string_bytes name)) (take l.name-index l.names)
