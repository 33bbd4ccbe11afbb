use Rattle.std.proofs.Common.{◌≡◌, refl, sym, ap, subst, ◌∙◌, ◌+◌, ◌-◌, ◌<◌, true, get_or, map, length, take, drop, ◌++◌, arith, ◌≤◌}
use Rattle.std.proofs.lemmas.List.{take_all}
use Rattle.std.specs.Prelude.{IsCharBoundary}
use Rattle.std.proofs.lemmas.Str.{IsCharBoundary-after_ascii}
use Rattle.shell_text.specs.Words.{first_byte, turn}
use Rattle.shell_text.specs.Lexed.{KeepsPending, Splits, handed, is_semicolon}
use Rattle.shell_text.specs.Splitting.{member_of_unit}
use Rattle.shell_text.specs.declared.words.Turn.TheVariants.{Ends}
use Rattle.shell_text.proofs.WordLoop.{IsByte, is_byte}
use Rattle.shell_text.proofs.Keeping.{keeps_gap, keeps_goes, keeps_semicolon, keeps_word}
use Rattle.shell_text.proofs.ReadOn.{behind_cut, keeps_at, read_all, read_more, read_none, read_semicolon, semicolon_low, still, turned_at, word_cut}
use Rattle.shell_text.proofs.units.read_on.Goals as goal
use Rattle.shell_text.proofs.units.read_on.Goals.{in-Goes, in-Ends-Gap, in-Ends-Word+then-is_semicolon+in_ok-hand_out-in-Ends-Word, in-Ends-Word+else-is_semicolon}

pub loop-i-init : goal.loop-i-init
loop-i-init c = record {
  read = let text = c.as_bytes-bytes.result.now in
      let is_text = sym c.as_bytes-bytes.ensures.value in
      read_none c.args.pending.first text (map member_of_unit c.args.waiting.now.items) c.args.from c.args.pending c.as_bytes-bytes.ensures.utf8 refl
      (subst (λ t. KeepsPending (take c.args.from t) (drop c.args.from t) c.args.pending) is_text c.requires.keeps);
  waited = take_all (length c.args.waiting.now.items) c.args.waiting.now.items (omega arith);
}

pub range-requires-clause-end_boundary : goal.range-requires-clause-end_boundary
range-requires-clause-end_boundary c =
    let bytes = c.as_bytes-bytes.result.now in
    let b = get_or bytes c.loop-i.i 0 in
    let low : b < 128 = semicolon_low c.in-Ends-Word.kind b (sym c.is_semicolon.ensures ∙ c.if-is_semicolon.true) in
    subst (λ t. IsCharBoundary t (c.loop-i.i + 1)) c.as_bytes-bytes.ensures.value (IsCharBoundary-after_ascii bytes c.loop-i.i c.as_bytes-bytes.ensures.utf8 c.loop-i-test.true low)

pub hand_out-requires : goal.hand_out-requires
hand_out-requires c w e =
    let bytes = c.as_bytes-bytes.result.now in
    let i = c.loop-i.i in
    let b = get_or bytes i 0 in
    let at : IsByte bytes i b = is_byte bytes i b c.loop-i-test.true refl in
    subst (λ t. IsCharBoundary t w.at) (ap (λ t. take (i + 1 - c.loop-i.cut) (drop c.loop-i.cut t)) c.as_bytes-bytes.ensures.value ∙ sym c.range.ensures.value)
    (word_cut b c.as_bytes-bytes.ensures.utf8 at c.loop-i.invariant.read w e)

pub loop-i-preserved : goal.loop-i-preserved
loop-i-preserved c =
    let bytes = c.as_bytes-bytes.result.now in
    let i = c.loop-i.i in
    let b = get_or bytes i 0 in
    let p = c.loop-i.p in
    let at : IsByte bytes i b = is_byte bytes i b c.loop-i-test.true refl in
    let r = c.loop-i.invariant.read in
    let k = keeps_at b at r in
    let turned : turn p.place b (first_byte (drop (i + 1) bytes)) ≡ c.turn_of.result = turned_at bytes i b p.place c.turn_of.result c.byte_at.result c.byte_at.ensures c.turn_of.ensures in
    elim c.match-turn_of.branch [
      | in-Goes w ↦ rw (w.waiting-is, w.p-is, w.cut-is, w.inside-p.ensures, c.line_behind-line.ensures)
          (record { read = read_more b _ at r refl (keeps_goes w.in-Goes.to k (turned ∙ w.in-Goes.is)); waited = c.loop-i.invariant.waited })
      | in-Ends-Gap w ↦ rw (w.waiting-is, w.p-is, w.cut-is, w.behind-p.ensures, c.line_behind-line.ensures)
          (record {
            read = read_more b _ at r refl (keeps_gap (i + 1 - c.loop-i.cut) k (turned ∙ w.in-Ends-Gap.is ∙ ap Ends w.in-Ends-Gap.field-0-is) (behind_cut b at r));
            waited = c.loop-i.invariant.waited;
          })
      | in-Ends-Word+then-is_semicolon+in_ok-hand_out-in-Ends-Word w ↦
          let semicolon : is_semicolon w.in-Ends-Word.kind b ≡ true = sym w.is_semicolon.ensures ∙ w.if-is_semicolon.true in
          rw (w.waiting-is, w.p-is, w.cut-is)
          (record {
            read = read_semicolon b w.new-p.result _ c.as_bytes-bytes.ensures.utf8 (semicolon_low w.in-Ends-Word.kind b semicolon) at r
                (keeps_semicolon w.in-Ends-Word.kind k (turned ∙ w.in-Ends-Word.is ∙ ap Ends w.in-Ends-Word.field-0-is) semicolon)
                (w.in_ok-hand_out-in-Ends-Word.ensures.ok ∙ ap (λ t. map member_of_unit c.loop-i.waiting.items ++ handed p.word t) (w.range.ensures.value ∙ ap (λ t. take (i + 1 - c.loop-i.cut) (drop c.loop-i.cut t)) (sym c.as_bytes-bytes.ensures.value)))
                (w.new-p.ensures.first ∙ c.line_behind-line.ensures) (w.new-p.ensures.keeps (drop (i + 1) bytes));
            waited = still c.args.waiting.now.items c.loop-i.waiting.items _ c.loop-i.invariant.waited w.in_ok-hand_out-in-Ends-Word.ensures.kept;
          })
      | in-Ends-Word+else-is_semicolon w ↦ rw (w.waiting-is, w.p-is, w.cut-is, w.behind-p-else-is_semicolon.ensures, w.unwrap_or.ensures, c.line_behind-line.ensures)
          (record {
            read = read_more b _ at r refl
                (keeps_word w.in-Ends-Word.kind (i + 1 - c.loop-i.cut) k (turned ∙ w.in-Ends-Word.is ∙ ap Ends w.in-Ends-Word.field-0-is) (behind_cut b at r)
                (sym w.is_semicolon.ensures ∙ w.if-is_semicolon.false));
            waited = c.loop-i.invariant.waited;
          })
    ]

pub returns : goal.returns
returns c =
    let bytes = c.as_bytes-bytes.result.now in
    let within = c.loop-i.auto.i-end in
    record {
      ok = subst (λ t. Splits c.args.pending.first t (map member_of_unit c.args.waiting.now.items) (map member_of_unit c.loop-i.waiting.items) c.loop-i.cut c.loop-i.p) c.as_bytes-bytes.ensures.value
          (read_all c.loop-i-test.false (within (subst (λ t. c.args.from ≤ length t) (sym c.as_bytes-bytes.ensures.value) c.requires.within)) c.loop-i.invariant.read);
      kept = c.loop-i.invariant.waited;
    }
