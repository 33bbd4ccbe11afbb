use Rattle.std.proofs.Common.{◌≡◌, ◌<◌, ℕ, List, Some}
use Rattle.csv.specs.Reading.{Reached, Ready, source_of, strip_bom}
use Rattle.csv.specs.declared.parser.State.TheVariants as st
use Rattle.csv.specs.declared.reader.Trim.TheVariants as trim
use Rattle.shell_text.specs.Records.{AreTexts, csv_reader}
use Rattle.shell_text.proofs.records.text_records.Given as goal

-- the records so far take the bytes to what the reader has left
abbrev pub invariant-loop-row : goal.invariant-loop-row
invariant-loop-row l = (l.row-iterator.rdr.trim ≡ trim.None) × Ready l.row-iterator.rdr × (0 < l.row-iterator.left) × (l.row-iterator.rdr.config ≡ csv_reader l.fn.delimiter)
    × (y : List ℕ) × (source_of (λ s. Some s.now) l.row-iterator.rdr ≡ Some y)
    × (rows : List (List (List ℕ))) × Reached (csv_reader l.fn.delimiter) st.StartRecord (strip_bom l.fn.bytes) rows l.row-iterator.rdr.state y × AreTexts rows l.records
