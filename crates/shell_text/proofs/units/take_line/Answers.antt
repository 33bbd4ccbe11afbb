use Rattle.std.proofs.Common.{◌≡◌, ◌≤◌, sym, ap, ◌∙◌, subst, arith, length, take, string_bytes}
use Rattle.std.specs.Str.{IsUtf8}
use Rattle.std.proofs.lemmas.Str.{IsCharBoundary-from_take, IsUtf8-string_bytes}
use Rattle.shell_text.proofs.units.take_line.Goals as goal

pub truncate-requires : goal.truncate-requires
truncate-requires c h =
    let text = string_bytes c.args.text.now in
    let more = string_bytes c.extend_by.new.text in
    let long : length text ≡ c.len-size.result = omega (arith, c.args.text.now.bytes.ok.0, c.len-size.ensures) in
    let short : c.len-size.result ≤ length more = omega (arith, c.extend_by.new.text.bytes.ok.0) in
    let cut = IsCharBoundary-from_take more c.len-size.result (IsUtf8-string_bytes c.extend_by.new.text) short
    (subst IsUtf8 (sym c.in-Err.ensures.text ∙ ap (λ n. take n more) long) (IsUtf8-string_bytes c.args.text.now)) in
    (cut.0, λ _. cut.1)
