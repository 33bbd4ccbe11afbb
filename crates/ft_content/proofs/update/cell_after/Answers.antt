-- a copy of the first value under the column's name, else of the cell
use Rattle.std.proofs.Common.{◌≡◌, ℕ, List, Bool, Option, String, map, option_map, ap, sym, ◌∙◌, subst, rules, tests, string_bytes, unwrap_or, IfOk, Bor}
use Rattle.ft_content.proofs.Common.{YieldsList-from_slice, find_from_yields_List, Global, Value, Cell, shown_value, same_name, value_under, column_of, set_of}
use Rattle.ft_content.proofs.GivenLemmas.{find_of_map}
use Rattle.ft_content.proofs.update.cell_after.Goals.{After-find}
use Rattle.ft_content.proofs.update.cell_after.Goals as goal

abbrev or_cell : Cell → Option (List ℕ × Cell) → Cell
or_cell cell o = unwrap_or (option_map (λ (v : List ℕ × Cell). v.1) o) cell

abbrev seen : Cell → Option (Bor (String Global × Value)) → Cell
seen cell o = or_cell cell (option_map set_of (option_map (λ (s : Bor (String Global × Value)). s.now) o))

found : (c : After-find) → seen (shown_value c.args.cell.now) c.find.result ≡ value_under (map set_of c.args.sets.now) (column_of c.args.column.now) (shown_value c.args.cell.now)
found c =
    let test : List ℕ × Cell → Bool = λ (s : List ℕ × Cell). same_name s.0 (string_bytes c.args.column.now.name) in
    let cell = shown_value c.args.cell.now in
    ap (λ (o : Option (String Global × Value)). or_cell cell (option_map set_of o)) (find_from_yields_List (λ (s : String Global × Value). test (set_of s)) _ _ c.find.result c.find.ensures.ran (YieldsList-from_slice c.args.sets.now cc) (λ x b q k. search (rules, tests)))
    ∙ ap (or_cell cell) (find_of_map test set_of c.args.sets.now)

pub returns-in-Some : goal.returns-in-Some
returns-in-Some c =
    let copied : IfOk c.clone.result (λ copy. shown_value copy ≡ shown_value c.in-Some.set.now.1) = search rules in
    subst (λ (cell : Cell). IfOk c.clone.result (λ copy. shown_value copy ≡ cell)) (ap (seen (shown_value c.args.cell.now)) (sym c.in-Some.is) ∙ found (goal.at.returns-in-Some c).After-find) copied

pub returns-in-None : goal.returns-in-None
returns-in-None c =
    let copied : IfOk c.clone-in-None.result (λ copy. shown_value copy ≡ shown_value c.args.cell.now) = search rules in
    subst (λ (cell : Cell). IfOk c.clone-in-None.result (λ copy. shown_value copy ≡ cell)) (ap (seen (shown_value c.args.cell.now)) (sym c.in-None.is) ∙ found (goal.at.returns-in-None c).After-find) copied
