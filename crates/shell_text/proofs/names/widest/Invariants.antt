use Rattle.std.proofs.Common.{◌≡◌, max, map, drop, string_bytes}
use Rattle.shell_text.specs.Print.{widest}
use Rattle.shell_text.proofs.names.widest.Given as goal

abbrev pub invariant-loop-name : goal.invariant-loop-name
invariant-loop-name l = max l.most (widest (map string_bytes (drop l.name-index l.names))) ≡ widest (map string_bytes l.names)
