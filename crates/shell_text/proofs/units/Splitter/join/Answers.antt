use Rattle.std.proofs.Common.{ap, ◌∙◌, map, string_bytes, Some, ◌++◌}
use Rattle.shell_text.specs.Units.{units_in, with_line}
use Rattle.shell_text.specs.Splitting.{member_of_unit, without_ended}
use Rattle.shell_text.proofs.Splitters.{joined_view, reading_of, splitting}
use Rattle.shell_text.proofs.units.Splitter.join.Goals as goal

pub returns : goal.returns
returns c =
    let inside = c.self.inside in
    let told = map member_of_unit inside.waiting.items in
    let now = map member_of_unit c.take_line.new.waiting.items in
    let new = string_bytes c.take_line.new.text in
    let added = c.args.text.now in
    record {
      ok = ap (λ n. splitting (reading_of (Some c.in_ok-p.p) n new) now) c.next_line-self-inside.ensures
          ∙ joined_view inside.kept inside.line (string_bytes inside.text) added told now new c.in_ok-p.p c.in_ok-p.ensures.ok
          ∙ ap (λ s. splitting (without_ended (with_line s.reading added)) (s.waiting ++ units_in (with_line s.reading added))) c.self.view_is;
      err = tt;
    }
