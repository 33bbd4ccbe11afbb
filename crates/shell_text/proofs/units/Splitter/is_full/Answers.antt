use Rattle.std.proofs.Common.{◌≡◌, sym, ap, ◌∙◌, arith, length, string_bytes, false}
use Rattle.shell_text.specs.Units.{is_idle, pending_in}
use Rattle.shell_text.proofs.Splitters.{is_full_by, kept_pending}
use Rattle.shell_text.proofs.units.Splitter.is_full.Goals as goal

pub returns-then-not-idle : goal.returns-then-not-idle
returns-then-not-idle c =
    let inside = c.self.inside in
    let text = string_bytes inside.text in
    let busy : is_idle c.args.self.now.reading ≡ false = sym c.is_idle-idle.ensures ∙ c.if-not-idle.true in
    let pending : pending_in c.args.self.now.reading ≡ text =
    ap (λ s. pending_in s.reading) (sym c.self.view_is) ∙ kept_pending inside.kept inside.line text c.self.invariant (ap (λ s. is_idle s.reading) c.self.view_is ∙ busy) in
    let long : c.len.result ≡ length text = omega (arith, inside.text.bytes.ok.0, c.len.ensures) in
    is_full_by c.args.size c.len.result (length (pending_in c.args.self.now.reading)) (is_idle c.args.self.now.reading) c.if-size-gt-MOST_BYTES.false busy (long ∙ ap length (sym pending))
