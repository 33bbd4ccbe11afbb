-- the name of the column at its place
use Rattle.std.proofs.Common.{◌≡◌, ◌<◌, ◌||◌, false, cond, List, [], ℕ, Option, Some, map, option_map, length, string_bytes, codes, subst, sym, ap, ◌∙◌, slice_get, unwrap_or, option_and_then}
use Rattle.std.proofs.lemmas.List.Quantifiers.{position-Some}
use Rattle.std.proofs.lemmas.Option.{slice_get-map, slice_get-get_or}
use Rattle.ft_content.proofs.Common.{length-map, Column, is_docid, same_name, names_of, column_place, bare_content, column_of}
use Rattle.ft_content.proofs.ColumnLemmas.{names_are}
use Rattle.ft_content.proofs.select.header.Goals as goal

-- the place of a name is one of a column
within : (columns : List Column) (name : List ℕ) (place : ℕ) → column_place (bare_content columns) name ≡ Some place → place < length columns
within columns name place is =
    subst (λ (n : ℕ). place < n) (ap length (names_are columns) ∙ length-map columns (λ (c : Column). string_bytes c.name)) ((position-Some (same_name name) (names_of (map column_of columns)) place [] is).0)

pub bounds-columns-place : goal.bounds-columns-place
bounds-columns-place c = within c.args.columns.now c.args.name.now c.in-Some.place (sym c.column_place.ensures ∙ c.in-Some.is)

pub returns-in-Some : goal.returns-in-Some
returns-in-Some c =
    let columns = c.args.columns.now in
    let name = c.args.name.now in
    let place = c.in-Some.place in
    let at : column_place (bare_content columns) name ≡ Some place = sym c.column_place.ensures ∙ c.in-Some.is in
    let other : is_docid name ≡ false = (λ i. (sym c.same_name.ensures ∙ c.if-same_name.false) i || (sym c.same_name-2.ensures ∙ c.if-same_name-2.false) i) in
    let read = ap (λ ns. slice_get ns place) (names_are columns) ∙ slice_get-map (λ (c : Column). string_bytes c.name) columns place ∙ ap (option_map (λ (c : Column). string_bytes c.name)) (slice_get-get_or columns place c.index-columns-place.result (within columns name place at)) in
    c.as_str.ensures.value
    ∙ sym ((λ i. cond (other i) (cond (same_name name (codes "docid")) (codes "docid") (codes "rowid")) (unwrap_or (option_and_then (slice_get (names_of (map column_of columns))) (at i)) [])) ∙ ap (λ (o : Option (List ℕ)). unwrap_or o []) read)
