-- Steps. What a turn answers as the code holds it.
use Rattle.std.specs.Prelude.{ℕ, List, [], Option, Some, None, Result, Ok, Err, String, string_bytes}
use Rattle.std.specs.declared.alloc.Global.{Global}
use Rattle.shell_io.specs.Texts.{text_as}
use Rattle.shell_io.specs.declared.output.Complaint.{Complaint}
use Rattle.shell_io.specs.declared.output.Output.{Output}
use Rattle.shell_io.specs.declared.output.Output.TheVariants as outputs
use Rattle.shell_io.specs.Outcomes as forms

abbrev pub lines_as : Option (String Global) → List ℕ
lines_as None = []
lines_as (Some lines) = string_bytes lines

abbrev pub complaint_as : Complaint → forms.Answer
complaint_as complaint = forms.complains (lines_as complaint.warnings) (text_as complaint.text)

abbrev pub answer_as : Result Output Complaint → forms.Answer
answer_as (Ok outputs.Nothing) = forms.silent
answer_as (Ok (outputs.Bytes bytes)) = forms.says bytes.items
answer_as (Ok (outputs.Warnings lines)) = forms.warned (string_bytes lines)
answer_as (Ok outputs.Quit) = forms.quits
answer_as (Err complaint) = complaint_as complaint
