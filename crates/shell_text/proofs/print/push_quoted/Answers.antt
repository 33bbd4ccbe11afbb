use Rattle.std.proofs.Common.{◌≡◌, ap, ◌∙◌, ◌++◌, string_bytes, codes}
use Rattle.std.specs.Prelude.{encode_utf8}
use Rattle.std.specs.List.{flat_map}
use Rattle.std.specs.Str.Iter.{chars_rest}
use Rattle.shell_text.specs.Print.{quoted_byte}
use Rattle.shell_text.proofs.Quoting.{once, quoted-step, quoted_char, twice}
use Rattle.shell_text.proofs.print.push_quoted.Goals as goal
use Rattle.shell_text.proofs.print.push_quoted.Goals.{then-c-eq39+in_ok-push-2, else-c-eq39}

pub loop-c-preserved : goal.loop-c-preserved
loop-c-preserved c =
    let x = c.in-Some.c in
    let old = string_bytes c.loop-c.text in
    let added : string_bytes c.if-c-eq39.text ++ encode_utf8 x ≡ old ++ quoted_char x =
    elim c.if-c-eq39.branch [
      | then-c-eq39+in_ok-push-2 w ↦ twice old (string_bytes c.if-c-eq39.text) x w.if-c-eq39.true (ap string_bytes w.text-is ∙ w.in_ok-push-2.ensures.bytes)
      | else-c-eq39 w ↦ once old (string_bytes c.if-c-eq39.text) x w.if-c-eq39.false (ap string_bytes w.text-is)
    ] in
    ap (λ q. q ++ flat_map quoted_byte (chars_rest c.next.new.self)) (c.in_ok-push-3.ensures.bytes ∙ added)
    ∙ quoted-step old (chars_rest c.loop-c.c-iterator) (chars_rest c.next.new.self) x (string_bytes c.args.text.now ++ codes "'" ++ flat_map quoted_byte c.args.value.now) c.in-Some.ensures.steps.0 c.loop-c.invariant
