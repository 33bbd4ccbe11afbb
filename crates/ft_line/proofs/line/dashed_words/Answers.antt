-- one word more
use Rattle.std.proofs.Common.{◌∙◌, ◌++◌, ◌∷◌, ◌+◌, [], map, drop, get_or, sym, ap, if◌then◌else◌, string_bytes, append-nil, drop_of_length-le}
use Rattle.std.proofs.lemmas.List.{map-append}
use Rattle.ft_line.specs.Line.{dashed}
use Rattle.ft_line.proofs.LineLemmas.{left, left_none, words_more}
use Rattle.ft_line.proofs.line.dashed_words.Goals as goal

pub loop-word-preserved : goal.loop-word-preserved
loop-word-preserved c =
    let go = c.is_before_end-rewrites.ensures in
    let word = get_or c.args.words.now c.loop-word.word-index (record { ref_ptr = (0, 0); now = [] }) in
    let made = ap (map string_bytes) c.in_ok-push.ensures.items ∙ map-append string_bytes c.loop-word.texts.items (c.in_ok-dashed.field-0 ∷ [])
    ∙ ap (λ text. map string_bytes c.loop-word.texts.items ++ text ∷ []) (c.in_ok-dashed.ensures ∙ ap (λ b. if b then dashed word.now else word.now) go) in
    ap (λ b. map string_bytes c.push.new.self.items ++ left b (map (λ w. w.now) (drop (c.loop-word.word-index + 1) c.args.words.now))) go
    ∙ words_more c.loop-word.rewrites c.args.words.now c.loop-word.word-index (record { ref_ptr = (0, 0); now = [] }) (map string_bytes c.loop-word.texts.items) _ _ c.loop-word-test.true made c.loop-word.invariant

pub returns : goal.returns
returns c =
    sym (append-nil (map string_bytes c.loop-word.texts.items))
    ∙ ap (λ xs. map string_bytes c.loop-word.texts.items ++ xs) (sym (ap (λ ws. left c.loop-word.rewrites (map (λ word. word.now) ws)) (drop_of_length-le c.args.words.now c.loop-word-test.false) ∙ left_none c.loop-word.rewrites))
    ∙ c.loop-word.invariant
