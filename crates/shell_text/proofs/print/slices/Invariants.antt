use Rattle.std.proofs.Common.{◌≡◌, map, take, string_bytes}
use Rattle.shell_text.proofs.print.slices.Given as goal

abbrev pub invariant-loop-field : goal.invariant-loop-field
invariant-loop-field l = map (λ slice. slice.now) l.slices.items ≡ map string_bytes (take l.field-index l.fields)
