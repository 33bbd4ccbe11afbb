-- one more column
use Rattle.std.proofs.Common.{◌≡◌, ℕ, List, [], ◌∷◌, ◌++◌, map, not, ◌&&◌, string_bytes, sym, ap, ◌∙◌}
use Rattle.ft_content.proofs.Common.{map-append, list_any, same_name, Column, is_notindexed, made_column, option_of, column_of}
use Rattle.ft_content.proofs.create.made_columns.Goals as goal

pub loop-name-preserved : goal.loop-name-preserved
loop-name-preserved c =
    let options : List (List ℕ × List ℕ) = map option_of c.args.options.now in
    let column : Column = record { name = c.in-Some.name; indexed = c.is_indexed-indexed.result } in
    let made : column_of column ≡ made_column options (string_bytes c.in-Some.name) =
    λ i. record { name = string_bytes c.in-Some.name; indexed = (c.is_indexed-indexed.ensures ∙ ap (λ n. not (list_any (λ (o : List ℕ × List ℕ). is_notindexed o && same_name o.1 n) options)) c.as_str.ensures.value) i } in
    ap (map column_of) c.in_ok-push.ensures.items ∙ map-append column_of c.loop-name.columns.items (column ∷ [])
    ∙ (λ i. c.loop-name.invariant i ++ made i ∷ [])
    ∙ sym (ap (map (made_column options)) (map-append string_bytes c.loop-name.yielded (c.in-Some.name ∷ [])) ∙ map-append (made_column options) (map string_bytes c.loop-name.yielded) (string_bytes c.in-Some.name ∷ []))
