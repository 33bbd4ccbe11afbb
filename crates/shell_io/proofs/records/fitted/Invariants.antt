-- the fields so far
use Rattle.std.proofs.Common.{◌≡◌, ◌++◌, map, take, replicate, string_bytes}
use Rattle.std.specs.Prelude.{Some, None, option_map}
use Rattle.shell_io.proofs.records.fitted.Given as goal

abbrev pub invariant-loop-at : goal.invariant-loop-at
invariant-loop-at l = map (option_map (λ text. text.now)) l.row.items ≡ take l.at (map Some (map string_bytes l.fields) ++ replicate l.columns None)
