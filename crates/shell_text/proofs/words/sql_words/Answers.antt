use Rattle.std.proofs.Common.{◌≡◌, ◌∙◌, refl, sym, ap, subst, get_or, ◌+◌, arith}
use Rattle.std.proofs.lemmas.Grind.{common_steps}
use Rattle.std.specs.Prelude.{slice_get}
use Rattle.shell_text.specs.Words.{is_unclosed, turn, words_of}
use Rattle.shell_text.specs.declared.words.Turn.TheVariants.{Ends}
use Rattle.shell_text.proofs.WordLoop.{IsByte, WordsTo, is_byte, words_all, words_closed, words_gap, words_goes, words_open, words_word}
use Rattle.shell_text.proofs.words.sql_words.Goals as goal
use Rattle.shell_text.proofs.words.sql_words.Goals.{in-Goes, in-Ends-Word+in_ok-push-in-Ends-Word, in-Ends-Gap}

pub loop-i-preserved : goal.loop-i-preserved
loop-i-preserved c =
    let text = c.as_bytes-bytes.result.now in
    let i = c.loop-i.i in
    let b = get_or text i 0 in
    let at : IsByte text i b = is_byte text i b c.loop-i-test.true refl in
    let turned : turn c.loop-i.place b (slice_get text (i + 1)) ≡ c.turn_of.result = ap (turn c.loop-i.place b) (sym c.byte_at.ensures) ∙ sym c.turn_of.ensures in
    elim c.match-turn_of.branch [
      | in-Goes w ↦ rw (w.words-is, w.place-is, w.start-is) (words_goes w.in-Goes.to at (turned ∙ w.in-Goes.is) c.loop-i.invariant)
      | in-Ends-Word+in_ok-push-in-Ends-Word w ↦
          rw (w.words-is, w.place-is, w.start-is, w.in_ok-push-in-Ends-Word.ensures.items)
          (words_word w.in-Ends-Word.kind at (turned ∙ w.in-Ends-Word.is ∙ ap Ends w.in-Ends-Word.field-0-is) c.loop-i.invariant)
      | in-Ends-Gap w ↦ rw (w.words-is, w.place-is, w.start-is) (words_gap at (turned ∙ w.in-Ends-Gap.is ∙ ap Ends w.in-Ends-Gap.field-0-is) c.loop-i.invariant)
    ]

pub returns-in-Between : goal.returns-in-Between
returns-in-Between c =
    let read = subst (λ place. WordsTo c.as_bytes-bytes.result.now c.loop-i.i c.loop-i.start place c.loop-i.words.items) c.in-Between.is c.loop-i.invariant in
    record {
      words = words_all c.loop-i-test.false read ∙ ap words_of c.as_bytes-bytes.ensures.value;
      closed = ap is_unclosed (sym c.as_bytes-bytes.ensures.value) ∙ words_closed c.loop-i-test.false read;
      «open» = grind (arith, common_steps);
    }

pub returns-in_default : goal.returns-in_default
returns-in_default c = record {
  words = tt;
  closed = tt;
  «open» = λ h. ap is_unclosed (sym c.as_bytes-bytes.ensures.value) ∙ words_open c.loop-i-test.false c.in_default.not-Between c.loop-i.invariant;
}
