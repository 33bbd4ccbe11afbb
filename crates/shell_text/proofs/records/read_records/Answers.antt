use Rattle.std.proofs.Common.{inl, inr, Some, sym, subst}
use Rattle.std.proofs.lemmas.Str.{is_utf8-from_IsUtf8}
use Rattle.csv.specs.Reading.{AreRecords, strip_bom}
use Rattle.csv.specs.declared.parser.State.TheVariants as st
use Rattle.shell_text.specs.Records.{ReadsAs, csv_reader}
use Rattle.shell_text.proofs.Splitters.{not_utf8}
use Rattle.shell_text.proofs.records.read_records.Goals as goal

pub returns-in_default : goal.returns-in_default
returns-in_default c = record { text = tt; records = tt; bad = λ _. inl (not_utf8 c.args.bytes.now c.in_default.ensures.cases.0) }

pub returns-in-Some : goal.returns-in-Some
returns-in-Some c =
    let read : ReadsAs (csv_reader c.args.delimiter) c.args.bytes.now (Some c.in-Some.records) = subst (ReadsAs (csv_reader c.args.delimiter) c.args.bytes.now) c.in-Some.is c.in_ok-records.ensures in
    record {
      text = is_utf8-from_IsUtf8 c.args.bytes.now c.in-Ok.ensures.cases.1;
      records = subst (AreRecords (csv_reader c.args.delimiter) st.StartRecord (strip_bom c.args.bytes.now)) (sym read.2) read.1;
      bad = λ is. absurd (let wrong = is in cc);
    }

pub returns-in-None : goal.returns-in-None
returns-in-None c = record {
  text = tt;
  records = tt;
  bad = λ _. inr (subst (ReadsAs (csv_reader c.args.delimiter) c.args.bytes.now) c.in-None.is c.in_ok-records.ensures);
}
