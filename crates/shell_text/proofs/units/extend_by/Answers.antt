use Rattle.std.proofs.Common.{◌≡◌, ap, ◌∙◌, subst, length, take, drop, arith, string_bytes, ◌++◌, ◌∷◌, ◌≤◌, sym}
use Rattle.std.proofs.lemmas.List.{length-append}
use Rattle.std.specs.Prelude.{if◌then◌else◌, is_some, unwrap_or}
use Rattle.shell_text.specs.Lexed.{KeepsPending}
use Rattle.shell_text.proofs.Splitters.{start_keeps}
use Rattle.shell_text.proofs.units.extend_by.Goals as goal

pub read_on-requires : goal.read_on-requires
read_on-requires c =
    let text = string_bytes c.args.text.now in
    let whole = c.as_str.result.now in
    let added : whole ≡ text ++ (if is_some c.args.kept then 0x0A ∷ c.args.line.now else c.args.line.now) =
    c.as_str.ensures.value ∙ c.in_ok-add_line.ensures.ok ∙ ap (λ b. text ++ (if b then 0x0A ∷ c.args.line.now else c.args.line.now)) c.is_some.ensures in
    let long : length text ≡ c.len-from.result = omega (arith, c.args.text.now.bytes.ok.0, c.len-from.ensures) in
    record {
      within = subst (λ w. c.len-from.result ≤ length w) (sym added) (omega (arith, long, length-append text (if is_some c.args.kept then 0x0A ∷ c.args.line.now else c.args.line.now)));
      keeps = rw (c.unwrap_or-start.ensures)
          (subst (λ n. KeepsPending (take n whole) (drop n whole) (unwrap_or c.args.kept c.new.result)) long
          (start_keeps c.args.kept text c.args.line.now whole c.new.result c.requires added c.new.ensures.keeps));
    }
