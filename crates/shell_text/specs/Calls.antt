-- Steps. What calls answer, and what they keep of what they change.
use Rattle.std.specs.Prelude.{ℕ, ◌<◌, ◌≤◌, ◌≡◌, ◌≢◌, ◌+◌, ◌/◌, max, false, List, [], ◌++◌, length, map, take, drop, Option, Some}
use Rattle.std.specs.Prelude.{Result, IfOk, IfErr, OnOk, OnErr}
use Rattle.std.specs.Fmt.{digit_glyph}
use Rattle.std.specs.Io.KnownBytes.{Appends}
use Rattle.std.proofs.Common.{Vec, Global}
use Rattle.csv.specs.declared.writer.QuoteStyle.TheVariants as style
use Rattle.csv.specs.declared.writer.Writer.{Writer}
use Rattle.csv.specs.Writing.{fields_written, has_written, row_text, text_written, writer_setup}
use Rattle.shell_text.specs.Print.{csv_writer, written}
use Rattle.shell_text.specs.Units.{Member, block_with}
use Rattle.shell_text.specs.Lexed.{KeepsPending}
use Rattle.shell_text.specs.Splitting.{TakesText, block_as, first_as, member_of_unit}
use Rattle.shell_text.specs.declared.units.Pending.{Pending}
use Rattle.shell_text.specs.declared.units.Unit.{Unit as SeenUnit}

-- what is answered, or why it is refused
pub record IsAnswered {X F : Type 0} (result : Result X F) (Is : X → Type 0) (IsFault : F → Type 0) : Type 0 where
  pub ok : IfOk result Is
  pub err : IfErr result IsFault

-- what was there is the front of what is there
abbrev pub KeepsFront : {A : Type 0} → List A → List A → Type 0
KeepsFront old new = take (length old) new ≡ old

-- these bytes are added; after a fault some may be
pub record Adds {X F : Type 0} (more old new : List ℕ) (result : Result X F) : Type 0 where
  pub ok : OnOk result (new ≡ old ++ more)
  pub err : OnErr result (KeepsFront old new)

-- ---- the pending text

-- nothing is read of a text that begins on a line
pub record BeginsAt (number : ℕ) (p : Pending) : Type 0 where
  pub keeps : (rest : List ℕ) → KeepsPending [] rest p
  pub first : p.first ≡ number

-- this is kept of a text that is read up to a byte
pub record IsReadUpTo (from : ℕ) (text : List ℕ) (p : Pending) : Type 0 where
  pub within : from ≤ length text
  pub keeps : KeepsPending (take from text) (drop from text) p

-- Units are put after those that wait: which ones, is said of what waited and waits, as members. Those that waited still do, after a fault
-- too.
pub record PutsUnits {X F : Type 0} (old new : List SeenUnit) (result : Result X F) (Are : X → List Member → List Member → Type 0) : Type 0 where
  pub ok : IfOk result (λ r. Are r (map member_of_unit old) (map member_of_unit new))
  pub kept : KeepsFront old new

-- a line is read after what is kept, the text `before`: then `after` is kept of it, and its statements are given
abbrev pub ReadsBehind : Option Pending → ℕ → List ℕ → List ℕ → List ℕ → List SeenUnit → List SeenUnit → Pending → Type 0
ReadsBehind kept number line before after old new p =
    TakesText (first_as kept number) (block_with (block_as kept before) line) (map member_of_unit old) (map member_of_unit new) after p

-- so a line is read; after a fault what was there is the front of what is there
pub record Extends {F : Type 0} (kept : Option Pending) (number : ℕ) (line before after : List ℕ) (old new : List SeenUnit)
    (result : Result Pending F) : Type 0 where
  pub ok : IfOk result (ReadsBehind kept number line before after old new)
  pub text : OnErr result (KeepsFront before after)
  pub waiting : OnErr result (KeepsFront old new)

-- the same, where a fault changes nothing
pub record ExtendsOrStays {F : Type 0} (kept : Option Pending) (number : ℕ) (line before after : List ℕ) (old new : List SeenUnit)
    (result : Result Pending F) : Type 0 where
  pub ok : IfOk result (ReadsBehind kept number line before after old new)
  pub text : OnErr result (after ≡ before)
  pub waiting : OnErr result (new ≡ old)

-- ---- what is printed

-- a digit of base 16 as a small character, which is one of ASCII
pub record IsGlyph (n c : ℕ) : Type 0 where
  pub glyph : c ≡ digit_glyph false n
  pub ascii : c < 128

-- so many names of a width stand on a line
pub record StandAcross (width n : ℕ) : Type 0 where
  pub across : n ≡ max 1 (80 / (width + 2))
  pub few : (0 < n) × (n ≤ 80)

-- a writer of csv that wrote nothing
pub record IsFresh (separator : List ℕ) (writer : Writer (Vec ℕ Global)) : Type 0 where
  pub setup : writer_setup writer ≡ csv_writer separator
  pub empty : text_written written writer ≡ Some []
  pub fields : fields_written writer ≡ 0
  pub wrote : has_written writer ≡ false

-- it is at no field of a record, and quotes numbers as it does texts
pub record IsBetweenRecords (writer : Writer (Vec ℕ Global)) : Type 0 where
  pub fields : fields_written writer ≡ 0
  pub wrote : has_written writer ≡ false
  pub style : (writer_setup writer).style ≢ style.NonNumeric

-- it writes a record whole, and is after it as it was before it
pub record WritesRecord (record_fields : List (List ℕ)) (old new : Writer (Vec ℕ Global)) : Type 0 where
  pub bytes : Appends (text_written written old) (text_written written new) (row_text (writer_setup old) record_fields)
  pub fields : fields_written new ≡ 0
  pub wrote : has_written new ≡ false
  pub setup : writer_setup new ≡ writer_setup old
