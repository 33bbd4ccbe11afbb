use Rattle.std.proofs.Common.{sym, ap, ◌∙◌, string_bytes}
use Rattle.shell_text.specs.Units.{is_idle}
use Rattle.shell_text.proofs.Splitters.{idle_as, kept_reading}
use Rattle.shell_text.proofs.units.Splitter.is_idle.Goals as goal

pub returns-in-None : goal.returns-in-None
returns-in-None c =
    let inside = c.self.inside in
    sym (ap (λ s. is_idle s.reading) (sym c.self.view_is) ∙ (kept_reading inside.kept inside.line (string_bytes inside.text) c.self.invariant).idle ∙ ap idle_as c.in-None.is)

pub returns-in-Some : goal.returns-in-Some
returns-in-Some c =
    let inside = c.self.inside in
    c.is_idle.ensures ∙ sym (ap (λ s. is_idle s.reading) (sym c.self.view_is) ∙ (kept_reading inside.kept inside.line (string_bytes inside.text) c.self.invariant).idle ∙ ap idle_as c.in-Some.is)
