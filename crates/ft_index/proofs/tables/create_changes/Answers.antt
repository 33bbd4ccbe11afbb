-- by what is made
use Rattle.std.proofs.Common.{rules, ◌≡◌, [], ◌∷◌, List, map, Ok, Err, None, Some, Result, Vec, Global, sym, subst}
use Rattle.ft_index.proofs.Common.{RowChange, Change, shown_change, Fault, shown_info, creation_of, PlansFrom, PlansTable, changes_of, table_change}
use Rattle.ft_index.proofs.TablePlans.{create_refused, create_nothing, create_makes}
use Rattle.ft_index.proofs.tables.create_changes.Goals as goal

pub returns-in_err-made-clause-plans : goal.returns-in_err-made-clause-plans
returns-in_err-made-clause-plans c store contents order held =
    let fault : Fault = c.in_err-made.field-0.0 in
    let is : c.from_residual.result ≡ Err fault = search rules in
    let made : c.made_table.result ≡ Err fault = search rules in
    subst (λ (r : Result (Vec RowChange Global) Fault). PlansFrom contents (creation_of c.args.creation.now) store (changes_of r)) (sym is)
    (create_refused contents c.args.creation.now store (map shown_info c.args.tables.now) fault
    (subst (PlansTable contents c.args.creation.now) made (c.made_table.ensures.makes contents held.told)))

pub returns-in_ok-vec-in-Some-clause-plans : goal.returns-in_ok-vec-in-Some-clause-plans
returns-in_ok-vec-in-Some-clause-plans c store contents order held =
    let made : c.made_table.result ≡ Ok (Some c.in-Some.made) = search rules in
    let same : map shown_change c.in_ok-vec-in-Some.field-0.items ≡ table_change c.in-Some.made ∷ [] = search rules in
    subst (λ (cs : List Change). PlansFrom contents (creation_of c.args.creation.now) store (Ok cs)) (sym same)
    (create_makes contents c.args.creation.now store (map shown_info c.args.tables.now) c.in-Some.made order held (subst (PlansTable contents c.args.creation.now) made (c.made_table.ensures.makes contents held.told)))

pub returns-in-None-clause-plans : goal.returns-in-None-clause-plans
returns-in-None-clause-plans c store contents order held =
    let none : c.made_table.result ≡ Ok None = search rules in
    subst (λ (cs : List RowChange). PlansFrom contents (creation_of c.args.creation.now) store (Ok (map shown_change cs))) (sym c.new.ensures.items)
    (create_nothing contents c.args.creation.now store (map shown_info c.args.tables.now) held (subst (PlansTable contents c.args.creation.now) none (c.made_table.ensures.makes contents held.told)))
