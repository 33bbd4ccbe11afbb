-- the values under their names
use Rattle.std.proofs.Common.{◌≡◌, ℕ, List, [], ◌∷◌, ◌||◌, refl, Vec, Bool, not, ◌&&◌, ◌==◌, nat_lt, map, length, sym, ◌∙◌, rules, tests, zip, Bor}
use Rattle.std.proofs.lemmas.Iterator.Adapters.{YieldsList-from_flatten}
use Rattle.ft_content.proofs.Common.{list_any, list_all, flat_map, list_any-append, YieldsList-from_slice, any_from_yields_List, Global, Value, Cell, shown_value, is_docid, is_too_long, has_nul, has_column, is_text, docids_named, bare_content, cells_of}
use Rattle.ft_content.proofs.Lists.{any_of_map, any_shown, all_shown, length_of_map}
use Rattle.ft_content.proofs.insert.insert_tests.Goals.{After-all, After-any, After-any-else-any, After-any-else-any-2, After-any-else-any-3, After-any-else-any-4}
use Rattle.ft_content.proofs.insert.insert_tests.Goals as goal

abbrev texts : List (Bor (List ℕ)) → List (List ℕ)
texts names = map (λ (n : Bor (List ℕ)). n.now) names

known : (c : After-all) → c.all.result ≡ list_all (has_column (bare_content c.args.columns.now)) (texts c.args.names.now)
known c = all_shown (has_column (bare_content c.args.columns.now)) (λ (n : Bor (List ℕ)). n.now) _ _ _ c.all.ensures.ran (YieldsList-from_slice c.args.names.now cc) (λ x b q k. search (rules, tests))

wide : (c : After-any) → c.any.result ≡ list_any (λ row. not (length row == length (texts c.args.names.now))) (map cells_of c.args.rows.now)
wide c =
    let width = length (texts c.args.names.now) in
    any_from_yields_List (λ (row : Vec Value Global). not (length row.items == length c.args.names.now)) _ _ _ c.any.ensures.ran (YieldsList-from_slice c.args.rows.now cc) (λ x b q k. search (rules, tests))
    ∙ sym (λ i. list_any (λ (row : Vec Value Global). not (length_of_map shown_value row.items i == length_of_map (λ (n : Bor (List ℕ)). n.now) c.args.names.now i)) c.args.rows.now)
    ∙ sym (any_of_map (λ (row : List Cell). not (length row == width)) cells_of c.args.rows.now)

told : (c : After-any-else-any) → c.any-else-any.result ≡ list_any (λ row. list_any (λ v. is_docid v.0 && is_text v.1) (zip (texts c.args.names.now) row)) (map cells_of c.args.rows.now)
told c = any_shown (λ row. list_any (λ (v : List ℕ × Cell). is_docid v.0 && is_text v.1) (zip (texts c.args.names.now) row)) cells_of _ _ _ c.any-else-any.ensures.ran (YieldsList-from_slice c.args.rows.now cc) (λ x b q k. search (rules, tests))

two : (c : After-any-else-any-2) → c.any-else-any-2.result ≡ list_any (λ row. nat_lt 1 (length (docids_named (zip (texts c.args.names.now) row)))) (map cells_of c.args.rows.now)
two c = any_shown (λ row. nat_lt 1 (length (docids_named (zip (texts c.args.names.now) row)))) cells_of _ _ _ c.any-else-any-2.ensures.ran (YieldsList-from_slice c.args.rows.now cc) (λ x b q k. search (rules, tests))

-- all values of the rows, one after the other
any_of_rows : (p : Cell → Bool) (rows : List (Vec Value Global)) → list_any (λ v. p (shown_value v)) (flat_map (λ row. row.items) rows) ≡ list_any (list_any p) (map cells_of rows)
any_of_rows p [] = refl
any_of_rows p (row ∷ rows) =
    list_any-append (λ v. p (shown_value v)) row.items (flat_map (λ row. row.items) rows) ∙ (λ i. sym (any_of_map p shown_value row.items) i || any_of_rows p rows i)

long : (c : After-any-else-any-3) → c.any-else-any-3.result ≡ list_any (list_any is_too_long) (map cells_of c.args.rows.now)
long c =
    any_from_yields_List (λ (v : Value). is_too_long (shown_value v)) _ _ _ c.any-else-any-3.ensures.ran
    (YieldsList-from_flatten _ _ (λ y. y.now) (λ (row : Vec Value Global). row.items) (λ x j k. YieldsList-from_slice x.now.items k.0) (YieldsList-from_slice c.args.rows.now cc) c.flatten.ensures.front c.flatten.ensures.back c.flatten.ensures.done)
    (λ x b q k. search (rules, tests))
    ∙ any_of_rows is_too_long c.args.rows.now

nul : (c : After-any-else-any-4) → c.any-else-any-4.result ≡ list_any (list_any has_nul) (map cells_of c.args.rows.now)
nul c =
    any_from_yields_List (λ (v : Value). has_nul (shown_value v)) _ _ _ c.any-else-any-4.ensures.ran
    (YieldsList-from_flatten _ _ (λ y. y.now) (λ (row : Vec Value Global). row.items) (λ x j k. YieldsList-from_slice x.now.items k.0) (YieldsList-from_slice c.args.rows.now cc) c.flatten-else-any-4.ensures.front c.flatten-else-any-4.ensures.back c.flatten-else-any-4.ensures.done)
    (λ x b q k. search (rules, tests))
    ∙ any_of_rows has_nul c.args.rows.now

pub returns-then-not-all : goal.returns-then-not-all
returns-then-not-all c =
    let a = known (goal.at.returns-then-not-all c).After-all in search rules

pub returns-then-any : goal.returns-then-any
returns-then-any c =
    let a = known (goal.at.returns-then-any c).After-all in let b = wide (goal.at.returns-then-any c).After-any in search rules

pub returns-then-any-2 : goal.returns-then-any-2
returns-then-any-2 c =
    let a = known (goal.at.returns-then-any-2 c).After-all in let b = wide (goal.at.returns-then-any-2 c).After-any in
    let d = told (goal.at.returns-then-any-2 c).After-any-else-any in search rules

pub returns-then-any-3 : goal.returns-then-any-3
returns-then-any-3 c =
    let a = known (goal.at.returns-then-any-3 c).After-all in let b = wide (goal.at.returns-then-any-3 c).After-any in
    let d = told (goal.at.returns-then-any-3 c).After-any-else-any in let e = two (goal.at.returns-then-any-3 c).After-any-else-any-2 in search rules

pub returns-then-any-4 : goal.returns-then-any-4
returns-then-any-4 c =
    let a = known (goal.at.returns-then-any-4 c).After-all in let b = wide (goal.at.returns-then-any-4 c).After-any in
    let d = told (goal.at.returns-then-any-4 c).After-any-else-any in let e = two (goal.at.returns-then-any-4 c).After-any-else-any-2 in
    let f = long (goal.at.returns-then-any-4 c).After-any-else-any-3 in search rules

pub returns-then-any-5 : goal.returns-then-any-5
returns-then-any-5 c =
    let a = known (goal.at.returns-then-any-5 c).After-all in let b = wide (goal.at.returns-then-any-5 c).After-any in
    let d = told (goal.at.returns-then-any-5 c).After-any-else-any in let e = two (goal.at.returns-then-any-5 c).After-any-else-any-2 in
    let f = long (goal.at.returns-then-any-5 c).After-any-else-any-3 in let g = nul (goal.at.returns-then-any-5 c).After-any-else-any-4 in search rules

pub returns-else-any-5 : goal.returns-else-any-5
returns-else-any-5 c =
    let a = known (goal.at.returns-else-any-5 c).After-all in let b = wide (goal.at.returns-else-any-5 c).After-any in
    let d = told (goal.at.returns-else-any-5 c).After-any-else-any in let e = two (goal.at.returns-else-any-5 c).After-any-else-any-2 in
    let f = long (goal.at.returns-else-any-5 c).After-any-else-any-3 in let g = nul (goal.at.returns-else-any-5 c).After-any-else-any-4 in search rules
