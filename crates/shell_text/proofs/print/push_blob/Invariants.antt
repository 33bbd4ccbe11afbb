use Rattle.std.proofs.Common.{◌≡◌, ◌++◌, take, string_bytes, codes}
use Rattle.std.specs.List.{flat_map}
use Rattle.shell_text.specs.Print.{hex_byte}
use Rattle.shell_text.proofs.print.push_blob.Given as goal

abbrev pub invariant-loop-b : goal.invariant-loop-b
invariant-loop-b l = string_bytes l.text ≡ string_bytes l.fn.text ++ codes "x'" ++ flat_map hex_byte (take l.b-index l.bytes)
