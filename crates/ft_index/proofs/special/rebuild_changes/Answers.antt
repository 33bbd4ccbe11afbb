-- by what is to be made anew
use Rattle.std.proofs.Common.{rules, ◌≡◌, ◌∷◌, map, None, Some, Ok, Err, Result, Vec, Global, sym, ap, subst, ◌∙◌}
use Rattle.ft_index.proofs.Common.{value_in, RowChange, shown_change, Fault, shown_info, PlansIn, RebuildsIn}
use Rattle.ft_commands.specs.Command as plain
use Rattle.ft_index.proofs.RebuildPlans.{plan_missing}
use Rattle.ft_index.proofs.special.rebuild_changes.Goals as goal
use Rattle.ft_index.proofs.special.rebuild_changes.Goals.{After-rebuilt}

pub returns-in_err-known-clause-told : goal.returns-in_err-known-clause-told
returns-in_err-known-clause-told g c =
    let tables = map shown_info c.args.tables.now in
    let old = c.args.store.now in
    let fault : Fault = c.in_err-known.field-0.0 in
    let is : c.from_residual.result ≡ Err fault = search rules in
    subst (λ (r : Result (Vec RowChange Global) Fault). PlansIn g.S.Store tables old old (plain.Rebuild c.args.table.now) r) (sym is)
    (λ up contents held. plan_missing (value_in g.S.Store old) tables contents c.args.table.now fault held c.in_err-known.ensures)

pub returns-in_err-written-clause-told : goal.returns-in_err-written-clause-told
returns-in_err-written-clause-told g c =
    let tables = map shown_info c.args.tables.now in
    let command = plain.Rebuild c.args.table.now in
    let old = c.args.store.now in
    let mid = c.rebuilt.new.store in
    let fault : Fault = c.in_err-written.field-0.0 in
    let is : c.from_residual-in_err-written.result ≡ Err fault = search rules in
    let failed : c.rebuilt.result ≡ Err fault = search rules in
    subst (λ (r : Result (Vec RowChange Global) Fault). PlansIn g.S.Store tables old mid command r) (sym is)
    (subst (RebuildsIn g.S.Store tables old mid command) failed (c.rebuilt.ensures.told tables c.args.table.now c.in_ok-known.ensures))

-- what the reads lead to
rebuilds_in : (g : _) (c : After-rebuilt g) → RebuildsIn g.S.Store (map shown_info c.args.tables.now) c.args.store.now c.rebuilt.new.store (plain.Rebuild c.args.table.now) c.rebuilt.result
rebuilds_in g c = c.rebuilt.ensures.told (map shown_info c.args.tables.now) c.args.table.now c.in_ok-known.ensures

pub returns-in_default-clause-told : goal.returns-in_default-clause-told
returns-in_default-clause-told g c =
    let none : c.rebuilt.result ≡ Ok None = search rules in
    (subst (RebuildsIn g.S.Store (map shown_info c.args.tables.now) c.args.store.now c.rebuilt.new.store (plain.Rebuild c.args.table.now)) none (rebuilds_in g (goal.at.returns-in_default-clause-told g c).After-rebuilt)).0
    (map shown_change c.new.result.items) (ap (map shown_change) c.new.ensures.items)

pub returns-clause-told : goal.returns-clause-told
returns-clause-told g c =
    let anew : c.rebuilt.result ≡ Ok (Some c.in-Some.written) = search rules in
    let rest = map shown_change c.in_ok-changes.changes.items in
    (subst (RebuildsIn g.S.Store (map shown_info c.args.tables.now) c.args.store.now c.rebuilt.new.store (plain.Rebuild c.args.table.now)) anew (rebuilds_in g (goal.at.returns-clause-told g c).After-rebuilt)).0
    (map shown_change c.insert.new.self.items) (record {
      rest = rest;
      are = ap (map shown_change) c.in_ok-insert.ensures.items ∙ ap (λ change. change ∷ rest) c.in_ok-first.ensures;
      of_written = c.in_ok-changes.ensures;
    })
