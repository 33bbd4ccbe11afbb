-- Meaning. The texts of fault lines, all of them own choices.
use Rattle.std.specs.Prelude.{ℕ, ℤ, List, [], ◌∷◌, ◌++◌, codes, decimal, string_bytes}
use Rattle.std.specs.Fmt.{signed_decimal}
use Rattle.shell_text.specs.declared.units.SplitFault.{SplitFault}
use Rattle.shell_text.specs.declared.units.SplitFault.TheVariants as split
use Rattle.ft_values.specs.declared.fault.Fault.{Fault}
use Rattle.ft_values.specs.declared.fault.Fault.TheVariants as faults
use Rattle.ft_commands.specs.declared.fault.StatementFault.{StatementFault}
use Rattle.ft_commands.specs.declared.fault.StatementFault.TheVariants as statements
use Rattle.shell_io.specs.declared.texts.FaultText.{FaultText}
use Rattle.shell_io.specs.declared.texts.FaultText.TheVariants as texts

-- the fault line of a text, for what begins on the line of this number
abbrev pub fault_line : ℕ → List ℕ → List ℕ
fault_line line text = codes "Error: near line " ++ (decimal line ++ (codes ": " ++ (text ++ 10 ∷ [])))

-- how a dot-command is used
abbrev pub usage_text : List ℕ → List ℕ
usage_text usage = codes "usage: " ++ usage

-- why a line, or the end of the input, gives no unit
abbrev pub split_text : SplitFault → List ℕ
split_text split.TooLong = codes "statement too long"
split_text split.NotUtf8 = codes "input is not UTF-8"
split_text split.HasNul = codes "NUL character in input"
split_text (split.Incomplete line) = codes "incomplete input"
split_text split.Memory = codes "out of memory"

-- why a statement has no class
abbrev pub statement_text : StatementFault → List ℕ
statement_text statements.Syntax = codes "unsupported full-text statement"
statement_text statements.Memory = codes "out of memory"

-- a full-text command names a docid that a row has already
abbrev pub taken_text : ℤ → List ℕ
taken_text docid = codes "docid already exists: " ++ signed_decimal docid

-- why a full-text command was refused
abbrev pub fault_text : Fault → List ℕ
fault_text faults.Module = codes "no such module"
fault_text faults.Tokenizer = codes "unknown tokenizer"
fault_text faults.Parameter = codes "unrecognized parameter"
fault_text faults.Name = codes "bad name"
fault_text faults.DuplicateColumn = codes "duplicate column name"
fault_text faults.TooManyColumns = codes "too many columns"
fault_text faults.TableExists = codes "table already exists"
fault_text faults.TooManyTables = codes "too many full-text tables"
fault_text faults.NoSuchTable = codes "no such table"
fault_text faults.Unsound = codes "full-text index is unsound"
fault_text faults.NoSuchColumn = codes "no such column"
fault_text faults.Count = codes "values do not fit columns"
fault_text faults.DocidKind = codes "datatype mismatch"
fault_text faults.DocidTwice = codes "docid given twice"
fault_text faults.TooLong = codes "string or blob too big"
fault_text faults.HasNul = codes "NUL character in value"
fault_text faults.Context = codes "unable to use function offsets in the requested context"
fault_text faults.Malformed = codes "malformed MATCH expression"
fault_text faults.TooLarge = codes "MATCH expression too large"
fault_text (faults.DocidTaken docid) = taken_text docid
fault_text faults.DocidFull = codes "no docid left"
fault_text faults.Corrupt = codes "database disk image is malformed"
fault_text faults.Store = codes "full-text store refused"
fault_text faults.Memory = codes "out of memory"

-- the text of a fault line as the code holds it
abbrev pub text_as : FaultText → List ℕ
text_as (texts.Fixed text) = text.now
text_as (texts.Usage usage) = usage_text usage.now
text_as (texts.DocidTaken docid) = taken_text docid
text_as (texts.Made text) = string_bytes text
