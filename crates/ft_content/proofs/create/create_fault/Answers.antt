-- the tests one after the other: options as pairs of texts, and tables by their names
use Rattle.std.proofs.Common.{◌≡◌, ℕ, Bool, true, false, List, [], ◌∷◌, map, not, ◌&&◌, ◌||◌, codes, is_some, refl, ap, sym, ◌∙◌, rules, tests, string_bytes}
use Rattle.ft_content.proofs.Common.{list_any, list_all, YieldsList-from_slice, same_name, is_name, Contents, is_tokenize, is_notindexed, table_named, option_of, table_names, info_names}
use Rattle.std.proofs.lemmas.List.Folds.{list_all-map}
use Rattle.ft_content.proofs.Lists.{any_of_map, any_shown, all_shown, length_of_map}
use Rattle.ft_content.proofs.TableLemmas.{is_named, as_many}
use Rattle.ft_content.proofs.create.create_fault.Goals.{After-any, After-all, Joined-is_name, then-is_name, else-is_name, After-has_table-is_there, After-any-else-tables-ge1000}
use Rattle.ft_content.proofs.create.create_fault.Goals as goal

others : (c : After-any) → c.any.result ≡ list_any (λ o. is_tokenize o && not (same_name o.1 (codes "simple"))) (map option_of c.args.creation.now.options.items)
others c = any_shown (λ o. is_tokenize o && not (same_name o.1 (codes "simple"))) option_of _ _ _ c.any.ensures.ran (YieldsList-from_slice c.args.creation.now.options.items cc) (λ x b q k. search (rules, tests))

-- all pass, or one doesn't
all_or : {X : Type 0} (p : X → Bool) (xs : List X) → list_all p xs ≡ not (list_any (λ x. not (p x)) xs)
all_or p [] = refl
all_or p (x ∷ xs) = elim (p x) as (λ b. (b && list_all p xs) ≡ not (not b || list_any (λ x. not (p x)) xs)) [ true ↦ all_or p xs | false ↦ refl ]

known : (c : After-all) → c.all.result ≡ not (list_any (λ o. not (is_tokenize o || is_notindexed o)) (map option_of c.args.creation.now.options.items))
known c =
    let test : List ℕ × List ℕ → Bool = λ (o : List ℕ × List ℕ). is_tokenize o || is_notindexed o in
    all_shown test option_of _ _ _ c.all.ensures.ran (YieldsList-from_slice c.args.creation.now.options.items cc) (λ x b q k. search (rules, tests)) ∙ all_or test (map option_of c.args.creation.now.options.items)

named : (c : Joined-is_name) → c.if-is_name.value ≡ (is_name (string_bytes c.args.creation.now.table) && list_all is_name (map string_bytes c.args.names.now))
named c =
    elim c.if-is_name.branch as (λ _. c.if-is_name.value ≡ (is_name (string_bytes c.args.creation.now.table) && list_all is_name (map string_bytes c.args.names.now))) [
      | then-is_name w ↦ search (rules, list_all-map)
      | else-is_name w ↦ search rules
    ]

there : (c : After-has_table-is_there) (contents : Contents) → table_names contents ≡ info_names c.args.tables.now → c.has_table-is_there.result ≡ is_some (table_named contents (string_bytes c.args.creation.now.table))
there c contents same = c.has_table-is_there.ensures ∙ sym (is_named contents c.as_str-table.result.now c.args.tables.now same) ∙ ap (λ n. is_some (table_named contents n)) c.as_str-table.ensures.value

left_out : (c : After-any-else-tables-ge1000) → c.any-else-tables-ge1000.result ≡ list_any (λ o. is_notindexed o && not (list_any (same_name o.1) (map string_bytes c.args.names.now))) (map option_of c.args.creation.now.options.items)
left_out c =
    any_shown (λ o. is_notindexed o && not (list_any (λ n. same_name o.1 (string_bytes n)) c.args.names.now)) option_of _ _ _ c.any-else-tables-ge1000.ensures.ran (YieldsList-from_slice c.args.creation.now.options.items cc) (λ x b q k. search (rules, tests))
    ∙ sym (λ i. list_any (λ (o : List ℕ × List ℕ). is_notindexed o && not (any_of_map (same_name o.1) string_bytes c.args.names.now i)) (map option_of c.args.creation.now.options.items))

pub returns-then-any : goal.returns-then-any
returns-then-any c = λ contents same.
    let a = others (goal.at.returns-then-any c).After-any in search rules

pub returns-then-not-all : goal.returns-then-not-all
returns-then-not-all c = λ contents same.
    let a = others (goal.at.returns-then-not-all c).After-any in let b = known (goal.at.returns-then-not-all c).After-all in search rules

pub returns-then-not-are_names : goal.returns-then-not-are_names
returns-then-not-are_names c = λ contents same.
    let a = others (goal.at.returns-then-not-are_names c).After-any in let b = known (goal.at.returns-then-not-are_names c).After-all in
    let d = named (goal.at.returns-then-not-are_names c).Joined-is_name in search rules

pub returns-then-names_clash : goal.returns-then-names_clash
returns-then-names_clash c = λ contents same.
    let a = others (goal.at.returns-then-names_clash c).After-any in let b = known (goal.at.returns-then-names_clash c).After-all in
    let d = named (goal.at.returns-then-names_clash c).Joined-is_name in search rules

pub returns-then-names-gt100 : goal.returns-then-names-gt100
returns-then-names-gt100 c = λ contents same.
    let a = others (goal.at.returns-then-names-gt100 c).After-any in let b = known (goal.at.returns-then-names-gt100 c).After-all in
    let d = named (goal.at.returns-then-names-gt100 c).Joined-is_name in let e = length_of_map string_bytes c.args.names.now in search rules

pub returns-then-is_there : goal.returns-then-is_there
returns-then-is_there c = λ contents same.
    let a = others (goal.at.returns-then-is_there c).After-any in let b = known (goal.at.returns-then-is_there c).After-all in
    let d = named (goal.at.returns-then-is_there c).Joined-is_name in let e = length_of_map string_bytes c.args.names.now in
    let f = there (goal.at.returns-then-is_there c).After-has_table-is_there contents same in search rules

pub returns-then-tables-ge1000 : goal.returns-then-tables-ge1000
returns-then-tables-ge1000 c = λ contents same.
    let a = others (goal.at.returns-then-tables-ge1000 c).After-any in let b = known (goal.at.returns-then-tables-ge1000 c).After-all in
    let d = named (goal.at.returns-then-tables-ge1000 c).Joined-is_name in let e = length_of_map string_bytes c.args.names.now in
    let f = there (goal.at.returns-then-tables-ge1000 c).After-has_table-is_there contents same in let g = as_many contents c.args.tables.now same in search rules

pub returns-then-any-2 : goal.returns-then-any-2
returns-then-any-2 c = λ contents same.
    let a = others (goal.at.returns-then-any-2 c).After-any in let b = known (goal.at.returns-then-any-2 c).After-all in
    let d = named (goal.at.returns-then-any-2 c).Joined-is_name in let e = length_of_map string_bytes c.args.names.now in
    let f = there (goal.at.returns-then-any-2 c).After-has_table-is_there contents same in let g = as_many contents c.args.tables.now same in
    let h = left_out (goal.at.returns-then-any-2 c).After-any-else-tables-ge1000 in search rules

pub returns-else-any-2 : goal.returns-else-any-2
returns-else-any-2 c = λ contents same.
    let a = others (goal.at.returns-else-any-2 c).After-any in let b = known (goal.at.returns-else-any-2 c).After-all in
    let d = named (goal.at.returns-else-any-2 c).Joined-is_name in let e = length_of_map string_bytes c.args.names.now in
    let f = there (goal.at.returns-else-any-2 c).After-has_table-is_there contents same in let g = as_many contents c.args.tables.now same in
    let h = left_out (goal.at.returns-else-any-2 c).After-any-else-tables-ge1000 in search rules
