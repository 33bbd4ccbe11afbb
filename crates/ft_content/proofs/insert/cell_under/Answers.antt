-- a copy of the first value under the column's name
use Rattle.std.proofs.Common.{◌≡◌, ℕ, List, Bool, Option, map, option_map, ap, sym, ◌∙◌, subst, rules, tests, string_bytes, zip, unwrap_or, IfOk, Bor}
use Rattle.ft_content.proofs.Common.{YieldsList-from_slice, YieldsList-from_zip, find_from_yields_List, Value, Cell, Null, shown_value, same_name, value_under, column_of}
use Rattle.ft_content.proofs.GivenLemmas.{given, find_given, pointed}
use Rattle.ft_content.proofs.insert.cell_under.Goals.{After-find}
use Rattle.ft_content.proofs.insert.cell_under.Goals as goal

abbrev cell : Option (List ℕ × Cell) → Cell
cell o = unwrap_or (option_map (λ (v : List ℕ × Cell). v.1) o) Null

abbrev seen : Option (Bor (Bor (List ℕ)) × Bor Value) → Cell
seen o = cell (option_map given (option_map pointed o))

found : (c : After-find) → seen c.find.result ≡ value_under (zip (map (λ n. n.now) c.args.names.now) (map shown_value c.args.row.now)) (column_of c.args.column.now) Null
found c =
    let test : List ℕ × Cell → Bool = λ (v : List ℕ × Cell). same_name v.0 (string_bytes c.args.column.now.name) in
    ap (λ (o : Option (Bor (List ℕ) × Value)). cell (option_map given o)) (find_from_yields_List (λ (p : Bor (List ℕ) × Value). test (given p)) c.find.new.self _ c.find.result c.find.ensures.ran (YieldsList-from_zip (YieldsList-from_slice c.args.names.now cc) (YieldsList-from_slice c.args.row.now cc)) (λ x b q k. search (rules, tests)))
    ∙ ap cell (find_given test c.args.names.now c.args.row.now)

pub returns-in-Some : goal.returns-in-Some
returns-in-Some c =
    let copied : IfOk c.clone.result (λ copy. shown_value copy ≡ shown_value c.in-Some.value.now) = search rules in
    subst (λ (cell : Cell). IfOk c.clone.result (λ copy. shown_value copy ≡ cell)) (ap seen (sym c.in-Some.is) ∙ found (goal.at.returns-in-Some c).After-find) copied

pub returns-in-None : goal.returns-in-None
returns-in-None c = ap seen (sym c.in-None.is) ∙ found (goal.at.returns-in-None c).After-find
