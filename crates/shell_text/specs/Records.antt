-- Meaning. Records of CSV, as the `csv` crate reads them: RFC 4180, section 2, with any ASCII delimiter. "Command Line Shell For SQLite",
-- section "Importing files as CSV or other formats", reads such files. That they are UTF-8 is our own choice.
use Rattle.std.specs.Prelude.{ℕ, ◌≡◌, ◌⊎◌, false, true, List, map, Option, Some, None, Result, IfOk, OnOk, IsErrOf}
use Rattle.std.specs.List.{list_all}
use Rattle.std.specs.Str.{is_utf8}
use Rattle.std.proofs.Common.{Vec, String, Global}
use Rattle.csv.specs.Reading.{AreRecords, default_config, strip_bom}
use Rattle.csv.specs.declared.parser.Config.{Config}
use Rattle.csv.specs.declared.parser.State.TheVariants as st
use Rattle.shell_text.specs.Print.{bytes_of}
use Rattle.shell_text.specs.declared.records.RecordFault.{RecordFault}
use Rattle.shell_text.specs.declared.records.RecordFault.TheVariants as fault

-- how records are read: between quotation marks as the crate does, with this delimiter (RFC 4180, section 2, rules 4 to 7)
abbrev pub csv_reader : ℕ → Config
csv_reader delimiter = record default_config { delimiter = delimiter }

-- bytes that are not UTF-8, or of which a field is not that is read in them
abbrev pub IsNoText : Config → List ℕ → Type 0
IsNoText cfg bytes = (is_utf8 bytes ≡ false)
    ⊎ ((rows : List (List (List ℕ))) × AreRecords cfg st.StartRecord (strip_bom bytes) rows × (list_all (λ row. list_all is_utf8 row) rows ≡ false))

-- records are read as texts, or one of them has a field that is none
abbrev pub AreTexts : List (List (List ℕ)) → Option (Vec (Vec (String Global) Global) Global) → Type 0
AreTexts rows (Some texts) = map bytes_of texts.items ≡ rows
AreTexts rows None = list_all (λ row. list_all is_utf8 row) rows ≡ false

-- so it is of all records of bytes
abbrev pub ReadsAs : Config → List ℕ → Option (Vec (Vec (String Global) Global) Global) → Type 0
ReadsAs cfg bytes found = (rows : List (List (List ℕ))) × AreRecords cfg st.StartRecord (strip_bom bytes) rows × AreTexts rows found

-- the records of a text are read; or bytes are refused in which not all is text
pub record ReadsRecords (cfg : Config) (bytes : List ℕ) (result : Result (Vec (Vec (String Global) Global) Global) RecordFault) : Type 0 where
  pub text : OnOk result (is_utf8 bytes ≡ true)
  pub records : IfOk result (λ rows. AreRecords cfg st.StartRecord (strip_bom bytes) (map bytes_of rows.items))
  pub bad : IsErrOf result fault.NotUtf8 → IsNoText cfg bytes
