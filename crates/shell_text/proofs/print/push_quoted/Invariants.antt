use Rattle.std.proofs.Common.{◌≡◌, ◌++◌, string_bytes, codes}
use Rattle.std.specs.List.{flat_map}
use Rattle.std.specs.Str.Iter.{chars_rest}
use Rattle.shell_text.specs.Print.{quoted_byte}
use Rattle.shell_text.proofs.print.push_quoted.Given as goal

-- what is made, and then what is left of the value, with its quotation marks doubled
abbrev pub invariant-loop-c : goal.invariant-loop-c
invariant-loop-c l = string_bytes l.text ++ flat_map quoted_byte (chars_rest l.c-iterator) ≡ string_bytes l.fn.text ++ codes "'" ++ flat_map quoted_byte l.value
