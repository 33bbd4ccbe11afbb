-- in the place that was found
use Rattle.std.proofs.Common.{◌≡◌, ◌≤◌, Bool, not, map, length, unwrap_or, sym, ap, ◌∙◌, rules, int_lt, insert, remove, tests}
use Rattle.std.proofs.lemmas.List.Sums.{prefix_len-le-length}
use Rattle.std.proofs.lemmas.Iterator.Search.{position_from_yields_List}
use Rattle.ft_documents.proofs.Common.{position_or_len, YieldsList-from_slice, TableInfo, shown_info}
use Rattle.ft_documents.proofs.TableListLemmas.{told_there, place_or_end, info_insert, taken_out}
use Rattle.ft_documents.proofs.tables.insert_table.Goals as goal

pub returns-clause-added : goal.returns-clause-added
returns-clause-added c =
    let tables = c.args.tables.now.items in
    let test : TableInfo → Bool = λ t. int_lt c.args.table.id t.id in
    let road = YieldsList-from_slice tables (c.iter.ensures.rest ∙ c.deref.ensures.value) in
    let at = position_from_yields_List test _ _ c.position-place.result c.position-place.ensures.ran road (λ x b q k. search (rules, tests)) in
    let long : c.len.result ≡ length tables = c.len.ensures ∙ c.args.tables.now.ok.0 in
    let place : c.unwrap_or-place.result ≡ position_or_len test tables =
    c.unwrap_or-place.ensures ∙ (λ i. unwrap_or (at i) (long i)) ∙ place_or_end (position_or_len test tables) (length tables) (prefix_len-le-length (λ (t : TableInfo). not (test t)) tables) in
    ap (map shown_info) c.in_ok-insert.ensures.items ∙ info_insert tables c.unwrap_or-place.result c.args.table
    ∙ ap (λ n. insert (map shown_info tables) n (shown_info c.args.table)) place ∙ sym (told_there (shown_info c.args.table) tables)

pub returns-clause-back : goal.returns-clause-back
returns-clause-back c =
    let within : c.unwrap_or-place.result ≤ length c.args.tables.now.items = search rules in
    (search rules, ap (λ ts. remove ts c.unwrap_or-place.result) c.in_ok-insert.ensures.items ∙ taken_out c.args.tables.now.items c.unwrap_or-place.result c.args.table within)
