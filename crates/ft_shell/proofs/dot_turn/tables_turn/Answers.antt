-- the noted names are listed
use Rattle.std.proofs.Common.{rules, ◌≡◌, List, map, string_bytes, refl, ap, ◌∙◌, subst, inl, inr, Err, String, Global}
use Rattle.ft_values.specs.declared.fault.Fault.TheVariants as faults
use Rattle.shell_io.specs.Outcomes.{blames, lacks_memory, says}
use Rattle.shell_io.specs.OutputViews.{answer_as}
use Rattle.plain_sql.specs.Listings.{Finds, StopsTrying}
use Rattle.ft_shell.specs.TablesTurns.{tables, unsorted, untried}
use Rattle.ft_shell.proofs.Common.{TableInfo, info_names, AreSorted, listed, fault_text, texts_of, known_names, lists}
use Rattle.ft_shell.specs.TablesTurns.{refused}
use Rattle.ft_shell.proofs.ClassLemmas.{named_as}
use Rattle.shell_text.specs.Print as print
use Rattle.ft_shell.proofs.dot_turn.tables_turn.Goals as goal

pub returns-in_err-noted : goal.returns-in_err-noted
returns-in_err-noted g c =
    let fault = c.in_err-noted.field-0.0 in
    let is : answer_as c.from_residual.result ≡ blames (fault_text fault) = search rules in
    refused fault c.in_err-noted.ensures.fault c.in_err-noted.ensures.does.0 c.in_err-noted.ensures.does.1 refl is
    (λ are clean told. c.in_err-noted.ensures.refused are clean (let same : fault ≡ faults.Store = cc in ap Err same))

pub returns-in_err-found : goal.returns-in_err-found
returns-in_err-found g c =
    let is : answer_as c.from_residual-in_err-found.result ≡ lacks_memory = search rules in
    lists (map string_bytes c.in_ok-noted.noted.items) c.in_ok-noted.ensures.does.0 c.in_ok-noted.ensures.does.1 c.in_ok-noted.ensures.names
    (untried (subst (λ (names : List (String Global)). StopsTrying g.P.Store (map string_bytes names) c.args.plain.now c.found_tables.new.plain) c.as_slice.ensures.value c.in_err-found.ensures.stops) is)

pub returns-in_err-names : goal.returns-in_err-names
returns-in_err-names g c =
    let is : answer_as c.from_residual-in_err-names.result ≡ lacks_memory = search rules in
    lists (map string_bytes c.in_ok-noted.noted.items) c.in_ok-noted.ensures.does.0 c.in_ok-noted.ensures.does.1 c.in_ok-noted.ensures.names
    (unsorted (texts_of c.in_ok-found.found) (subst (λ (names : List (String Global)). Finds g.P.Store (map string_bytes names) c.args.plain.now c.found_tables.new.plain (texts_of c.in_ok-found.found)) c.as_slice.ensures.value c.in_ok-found.ensures.found) is)

pub returns-in_err-write_names : goal.returns-in_err-write_names
returns-in_err-write_names g c =
    let is : answer_as c.from_residual-in_err-write_names.result ≡ lacks_memory = search rules in
    let own : info_names c.tables.result.now ≡ known_names (g.T.TextTables.known c.args.full_text.now) = named_as c.tables.result.now (g.T.TextTables.known c.noted.new.self) c.tables.ensures ∙ ap (map (λ (t : TableInfo). t.name)) c.in_ok-noted.ensures.does.0.tables in
    lists (map string_bytes c.in_ok-noted.noted.items) c.in_ok-noted.ensures.does.0 c.in_ok-noted.ensures.does.1 c.in_ok-noted.ensures.names
    (tables (texts_of c.in_ok-found.found) (texts_of c.in_ok-names.names)
    (subst (λ (names : List (String Global)). Finds g.P.Store (map string_bytes names) c.args.plain.now c.found_tables.new.plain (texts_of c.in_ok-found.found)) c.as_slice.ensures.value c.in_ok-found.ensures.found)
    (subst (λ own. AreSorted (listed own (texts_of c.in_ok-found.found)) (texts_of c.in_ok-names.names)) own c.in_ok-names.ensures) (inr is))

pub returns : goal.returns
returns g c =
    let is : c.write_names.new.out.items ≡ print.names_in_columns (texts_of c.in_ok-names.names) = search rules in
    let own : info_names c.tables.result.now ≡ known_names (g.T.TextTables.known c.args.full_text.now) = named_as c.tables.result.now (g.T.TextTables.known c.noted.new.self) c.tables.ensures ∙ ap (map (λ (t : TableInfo). t.name)) c.in_ok-noted.ensures.does.0.tables in
    lists (map string_bytes c.in_ok-noted.noted.items) c.in_ok-noted.ensures.does.0 c.in_ok-noted.ensures.does.1 c.in_ok-noted.ensures.names
    (tables (texts_of c.in_ok-found.found) (texts_of c.in_ok-names.names)
    (subst (λ (names : List (String Global)). Finds g.P.Store (map string_bytes names) c.args.plain.now c.found_tables.new.plain (texts_of c.in_ok-found.found)) c.as_slice.ensures.value c.in_ok-found.ensures.found)
    (subst (λ own. AreSorted (listed own (texts_of c.in_ok-found.found)) (texts_of c.in_ok-names.names)) own c.in_ok-names.ensures) (inl (ap says is)))
