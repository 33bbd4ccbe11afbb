-- the copies are the names that are given, and there is one name at least
use Rattle.std.proofs.Common.{◌≡◌, ℕ, true, false, List, [], ◌∷◌, ◌++◌, map, length, codes, string_bytes, refl, sym, ap, ◌∙◌, arith, rules, tests, ◌==◌}
use Rattle.ft_content.proofs.Common.{map-append, made_columns}
use Rattle.ft_content.proofs.Lists.{copies, length_of_map}
use Rattle.ft_content.proofs.create.made_names.Goals.{then-is_empty+in_ok-to_string+in_ok-push, else-is_empty}
use Rattle.ft_content.proofs.create.made_names.Goals as goal

none_given : (names : List (List ℕ)) → (length names == 0) ≡ true → names ++ codes "content" ∷ [] ≡ made_columns names
none_given [] h = refl
none_given (name ∷ names) h = let none : length (name ∷ names) ≡ 0 = search (rules, tests) in absurd (omega arith)

some_given : (names : List (List ℕ)) → (length names == 0) ≡ false → names ≡ made_columns names
some_given [] h = absurd (let no = h in cc)
some_given (name ∷ names) h = refl

pub returns : goal.returns
returns c =
    let given = map string_bytes c.args.columns.now in
    let copied : map string_bytes c.in_ok-names.names.items ≡ given = copies string_bytes (λ x y r. r) c.args.columns.now c.in_ok-names.names.items c.in_ok-names.ensures.ok in
    let as_many : c.is_empty.result ≡ (length given == 0) = c.is_empty.ensures ∙ ap (λ (n : ℕ). n == 0) (c.in_ok-names.ensures.len ∙ sym (length_of_map string_bytes c.args.columns.now)) in
    elim c.if-is_empty.branch as (λ _. map string_bytes c.if-is_empty.names.items ≡ made_columns given) [
      | then-is_empty+in_ok-to_string+in_ok-push w ↦
          ap (λ v. map string_bytes v.items) w.names-is ∙ ap (map string_bytes) w.in_ok-push.ensures.items ∙ map-append string_bytes c.in_ok-names.names.items (w.in_ok-to_string.field-0 ∷ [])
          ∙ (λ i. copied i ++ w.in_ok-to_string.ensures.ok i ∷ []) ∙ none_given given (sym as_many ∙ w.if-is_empty.true)
      | else-is_empty w ↦ ap (λ v. map string_bytes v.items) w.names-is ∙ copied ∙ some_given given (sym as_many ∙ w.if-is_empty.false)
    ]
