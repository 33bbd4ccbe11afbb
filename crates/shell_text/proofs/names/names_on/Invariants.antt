use Rattle.std.proofs.Common.{◌≡◌, ◌-◌, ◌++◌, map, string_bytes}
use Rattle.shell_text.specs.Print.{bytes_of, names_on}
use Rattle.shell_text.proofs.names.names_on.Given as goal

abbrev pub invariant-loop : goal.invariant-loop
invariant-loop l = bytes_of l.line ++ names_on (l.across - l.counter) l.down l.at (map string_bytes l.names) ≡ names_on l.across l.down l.first (map string_bytes l.names)
