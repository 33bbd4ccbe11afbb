use Rattle.std.proofs.Common.{Bor, List, ℕ, ◌∙◌, sym, refl, inl, inr, map, Some, ◌∷◌, ◌++◌, [], ap}
use Rattle.csv.specs.Reading.{Reached, strip_bom}
use Rattle.csv.specs.Records.{fields_of}
use Rattle.csv.specs.declared.parser.Config.{Config}
use Rattle.csv.specs.declared.parser.State.TheVariants as st
use Rattle.csv.proofs.ReadFacts.{rows-end, rows-more}
use Rattle.shell_text.specs.Print.{bytes_of}
use Rattle.shell_text.specs.Records.{csv_reader}
use Rattle.shell_text.proofs.records.text_records.Goals as goal

pub loop-row-init : goal.loop-row-init
unfolding Reached
loop-row-init c =
    let fr = c.from_reader-rdr.ensures in
    let delimited : Config → Config = λ cfg. record cfg { delimiter = c.args.delimiter } in
    let e1 = c.has_headers.ensures in
    let e2 = c.flexible.ensures in
    let e3 = c.delimiter.ensures in
    let start = c.into_iter-row-iterator.ensures.into_iter_gives ∙ refl in
    let rdr = c.into_byte_records-row-items.ensures.rdr in
    let left = c.into_byte_records-row-items.ensures.left in
    rw (start, rdr) (
      rw (e3, e2, e1) at fr.trim ∙ c.new.ensures.trim,
      inr (inr (rw (e3, e2, e1) at fr.has_headers, fr.headers)),
      left,
      rw (e3, e2, e1) at fr.config ∙ ap delimited c.new.ensures.config,
      strip_bom c.args.bytes.now,
      fr.source,
      [],
      (sym fr.state, refl),
      ap (map bytes_of) c.new-2.ensures.items,
    )

pub loop-row-preserved : goal.loop-row-preserved
loop-row-preserved c =
    let inv = c.loop-row.invariant in
    let s = rw (c.in-Some.is, c.in-Ok.is) at ((c.next.ensures.steps inv.2 inv.0).0 inv.1) in
    let m = rows-more (λ (s : Bor (List ℕ)). Some s.now) c.loop-row.row-iterator.rdr c.next.new.self.rdr (fields_of c.in-Ok.row) (csv_reader c.args.delimiter) st.StartRecord (strip_bom c.args.bytes.now) inv.4 inv.6 inv.3 inv.5 inv.7 s.0 in
    (s.0.3 ∙ inv.0, inl s.1, s.2, s.0.2 ∙ inv.3, m.0, m.1, inv.6 ++ fields_of c.in-Ok.row ∷ [], m.2, c.in_ok-records-in-Ok.ensures inv.6 inv.8)

pub returns : goal.returns
returns c =
    let inv = c.loop-row.invariant in
    let s = rw c.in-None.is at ((c.next.ensures.steps inv.2 inv.0).0 inv.1) in
    (inv.6, (c.loop-row.row-iterator.rdr.state, inv.4, inv.7, rows-end (λ (s : Bor (List ℕ)). Some s.now) c.loop-row.row-iterator.rdr c.next.new.self.rdr [] (csv_reader c.args.delimiter) inv.4 inv.3 inv.5 s), inv.8)
