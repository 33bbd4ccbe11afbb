-- one field more
use Rattle.std.proofs.Common.{◌++◌, [], ◌∷◌, ℕ, List, map, string_bytes, ap, ◌∙◌}
use Rattle.std.specs.Prelude.{Option, option_map}
use Rattle.std.specs.Borrow.{Bor}
use Rattle.std.proofs.lemmas.List.{map-append}
use Rattle.shell_io.proofs.RecordLemmas.{field_more}
use Rattle.shell_io.proofs.records.fitted.Goals as goal

pub loop-at-preserved : goal.loop-at-preserved
loop-at-preserved c =
    let text_in : Option (Bor (List ℕ)) → Option (List ℕ) = option_map (λ (text : Bor (List ℕ)). text.now) in
    ap (map text_in) c.in_ok-push.ensures.items ∙ map-append text_in c.loop-at.row.items (c.field_at.result ∷ [])
    ∙ ap (λ row. row ++ text_in c.field_at.result ∷ []) c.loop-at.invariant
    ∙ field_more (map string_bytes c.args.fields.now) c.args.columns c.loop-at.at (text_in c.field_at.result) c.loop-at-test.true c.field_at.ensures
