use Rattle.std.proofs.Common.{sym, ap, ◌∙◌, ◌<◌, ◌++◌, ◌∷◌, [], map, take, subst, add-one, string_bytes}
use Rattle.std.proofs.lemmas.List.{map-append}
use Rattle.csv.specs.Records.{fields_of}
use Rattle.shell_text.specs.Print.{bytes_of}
use Rattle.shell_text.proofs.FieldLemmas.{bad_field, has_field, take_field}
use Rattle.shell_text.proofs.Splitters.{not_utf8}
use Rattle.shell_text.proofs.records.field_texts.Goals as goal
use Rattle.shell_text.proofs.records.field_texts.Goals.{in-Some+in-Ok+in_ok-from_str+in_ok-push, in_default}

pub returns-in_default-from_utf8 : goal.returns-in_default-from_utf8
returns-in_default-from_utf8 c = record {
  ok = tt;
  err = λ _. bad_field (fields_of c.args.row.now) c.loop-i.i c.in-Some.field.now (sym c.in-Some.ensures.value) (not_utf8 c.in-Some.field.now c.in_default-from_utf8.ensures.cases.0);
}

pub loop-i-preserved : goal.loop-i-preserved
loop-i-preserved c =
    let fields = fields_of c.args.row.now in
    let i = c.loop-i.i in
    elim c.match-get.branch [
      | in-Some+in-Ok+in_ok-from_str+in_ok-push w ↦
          let field = w.in-Some.field.now in
          ap bytes_of w.texts-is ∙ ap (map string_bytes) w.in_ok-push.ensures.items ∙ map-append string_bytes c.loop-i.texts.items (w.in_ok-from_str.field-0 ∷ [])
          ∙ ap (λ t. t ++ string_bytes w.in_ok-from_str.field-0 ∷ []) c.loop-i.invariant
          ∙ ap (λ t. take i fields ++ t ∷ []) (w.in_ok-from_str.ensures.ok ∙ w.in-Ok.ensures.cases.0)
          ∙ sym (take_field fields i field (sym w.in-Some.ensures.value)) ∙ ap (λ n. take n fields) (sym (add-one i))
      | in_default w ↦ absurd (has_field fields i (subst (λ n. i < n) c.len-i-end.ensures c.loop-i-test.true) (sym w.in_default.ensures.value))
    ]
