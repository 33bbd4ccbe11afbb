use Rattle.std.proofs.Common.{◌≡◌, take}
use Rattle.csv.specs.Records.{fields_of}
use Rattle.shell_text.specs.Print.{bytes_of}
use Rattle.shell_text.proofs.records.field_texts.Given as goal

abbrev pub invariant-loop-i : goal.invariant-loop-i
invariant-loop-i l = bytes_of l.texts ≡ take l.i (fields_of l.row)
