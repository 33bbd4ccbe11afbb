-- Steps. The texts of faults of other crates, all of them own choices.
use Rattle.std.specs.Prelude.{ℕ, List, codes}
use Rattle.shell_text.specs.declared.words.LexFault.{LexFault}
use Rattle.shell_text.specs.declared.words.LexFault.TheVariants as words
use Rattle.shell_text.specs.declared.settings.SetFault.{SetFault}
use Rattle.shell_text.specs.declared.settings.SetFault.TheVariants as settings
use Rattle.shell_text.specs.declared.records.RecordFault.{RecordFault}
use Rattle.shell_text.specs.declared.records.RecordFault.TheVariants as records

-- why a text has no words
abbrev pub lex_words : LexFault → List ℕ
lex_words words.Open = codes "incomplete input"
lex_words words.Memory = codes "out of memory"

-- why a setting stays
abbrev pub set_words : SetFault → List ℕ
set_words settings.BadSeparator = codes "bad separator"
set_words settings.Memory = codes "out of memory"

-- why a file has no records
abbrev pub record_words : RecordFault → List ℕ
record_words records.NotUtf8 = codes "file is not UTF-8"
record_words records.Memory = codes "out of memory"
