-- the lines so far
use Rattle.std.proofs.Common.{◌≡◌, take, map, string_bytes}
use Rattle.std.specs.List.{enumerate_from}
use Rattle.shell_io.specs.Records as forms
use Rattle.ft_commands.specs.Views.{texts_of}
use Rattle.shell_io.proofs.records.warnings.Given as goal

abbrev pub invariant-loop-i : goal.invariant-loop-i
invariant-loop-i l = string_bytes l.text ≡ forms.warnings l.file l.columns (enumerate_from l.first (map texts_of (take l.i l.records)))
