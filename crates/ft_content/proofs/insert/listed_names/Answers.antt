-- the names in their order
use Rattle.std.proofs.Common.{◌≡◌, ℕ, List, Option, map, option_map, subst, sym, rules, String, string_bytes, IfOk, Bor}
use Rattle.ft_content.proofs.Common.{YieldsList-from_slice, YieldsList-from_map_by, map_from_collect, Global, Column, listed_columns, bare_content}
use Rattle.ft_content.proofs.ColumnLemmas.{names_are}
use Rattle.ft_content.proofs.insert.listed_names.Goals as goal

abbrev texts : Option (Bor (List (String Global))) → Option (List (List ℕ))
texts o = option_map (λ (n : Bor (List (String Global))). map string_bytes n.now) o

pub returns-in-Some : goal.returns-in-Some
returns-in-Some c =
    let names : IfOk c.collect.result (λ listed. map (λ n. n.now) listed.items ≡ map string_bytes c.in-Some.names.now) =
    map_from_collect _ c.collect.ensures.ran (YieldsList-from_map_by _ (λ r. r.now) (λ (n : String Global). string_bytes n) (YieldsList-from_slice c.in-Some.names.now cc) c.map.ensures.closure (λ x r q k. search rules)) in
    subst (λ (o : Option (Bor (List (String Global)))). IfOk c.collect.result (λ listed. map (λ n. n.now) listed.items ≡ listed_columns (bare_content c.args.columns.now) (texts o))) (sym c.in-Some.is) names

pub returns-in-None : goal.returns-in-None
returns-in-None c =
    let names : IfOk c.collect-in-None.result (λ listed. map (λ n. n.now) listed.items ≡ map (λ (c : Column). string_bytes c.name) c.args.columns.now) =
    map_from_collect _ c.collect-in-None.ensures.ran (YieldsList-from_map_by _ (λ r. r.now) (λ (c : Column). string_bytes c.name) (YieldsList-from_slice c.args.columns.now cc) c.map-in-None.ensures.closure (λ x r q k. search rules)) in
    subst (λ (o : Option (Bor (List (String Global)))). IfOk c.collect-in-None.result (λ listed. map (λ n. n.now) listed.items ≡ listed_columns (bare_content c.args.columns.now) (texts o))) (sym c.in-None.is)
    (subst (λ (ns : List (List ℕ)). IfOk c.collect-in-None.result (λ listed. map (λ n. n.now) listed.items ≡ ns)) (sym (names_are c.args.columns.now)) names)
