use Rattle.std.proofs.Common.{map, sym, ap, ◌∙◌, string_bytes, rules}
use Rattle.ft_match.proofs.Common.{plain_lexeme}
use Rattle.ft_match.proofs.Parts.{lexed_none, step_inside, step_ended}
use Rattle.ft_match.proofs.lexer.lexemes_of.Goals.{then-ends_part+in_ok-push_part, else-ends_part}
use Rattle.ft_match.proofs.lexer.lexemes_of.Goals as goal

pub loop-place-init : goal.loop-place-init
loop-place-init c = search (rules, lexed_none (map string_bytes c.args.columns.now) c.args.text.now c.utf8.text)

pub loop-place-preserved : goal.loop-place-preserved
loop-place-preserved c =
    let is_text = c.as_bytes-byte-items.ensures.value in
    let inside = c.loop-place-test.true in
    let kind = sym c.ends_part.ensures in
    elim c.if-ends_part.branch [
      | then-ends_part+in_ok-push_part w ↦
          step_ended c.loop-place.invariant c.utf8.text is_text inside (kind ∙ w.if-ends_part.true) w.range-part.ensures.value
          (ap (λ found. map plain_lexeme found.items) w.found-is ∙ w.in_ok-push_part.ensures)
          (w.in_quote-is ∙ w.begins_quote-in_quote.ensures) w.start-is
      | else-ends_part w ↦
          step_inside c.loop-place.invariant is_text inside (kind ∙ w.if-ends_part.false)
          (ap (λ found. map plain_lexeme found.items) w.found-is) w.in_quote-is w.start-is
    ]
