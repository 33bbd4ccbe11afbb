-- by what each command was found to write, and by what a Check or an Optimize is answered
use Rattle.std.proofs.Common.{inl, refl, rules, ◌≡◌, [], string_bytes, ℕ, List, map, Ok, Err, Result, Vec, Global, sym, ap, subst, subst₂}
use Rattle.ft_index.proofs.Common.{Ghosts, StoreState, changes_of, Fault, RowChange, Change, shown_change, value_in, Reply, TableInfo, shown_info}
use Rattle.ft_index.proofs.Common.{command_of, items_of, filter_of, IsUnfit, IsSoundNamed, answer_of, Answers, Looks, Written, WritesIn, PlansIn}
use Rattle.ft_index.proofs.Common.{PlansTo}
use Rattle.ft_commands.specs.Command as plain
use Rattle.ft_commands.specs.declared.command.Command.{Command}
use Rattle.ft_values.specs.declared.fault.Fault.TheVariants as faults
use Rattle.ft_index.proofs.SelectAnswers.{select_unplanned, select_fails, select_plans}
use Rattle.ft_index.proofs.TablePlans.{check_plans, optimize_plans}
use Rattle.ft_index.proofs.commands.planned_changes.Goals as goal
use Rattle.ft_index.proofs.commands.planned_changes.Goals.{After-changes, in-Insert+in_ok-written-in-Insert, in-Update+in_ok-written-in-Update, in-Delete+in_ok-written-in-Delete}

-- documents that were found to be written, by whichever command
record Found {S : Type 0} (g : Ghosts S) (tables : List TableInfo) (old new : StoreState S) (command : Command) (written : Written) : Type 0 where
  told : WritesIn g tables old new (command_of command) (Ok written)
  looks : Looks g old new

moved : {S : Type 0} (g : Ghosts S) (tables : List TableInfo) (old new later : StoreState S) (x y : Command) (written same : Written) → y ≡ x → later ≡ new → same ≡ written → WritesIn g tables old new (command_of x) (Ok written) → Looks g old new → Found g tables old later y same
moved g tables old new later x y written same is there kept told looks =
    subst (λ c. Found g tables old later c same) (sym is) (subst (λ s. Found g tables old s x same) (sym there) (subst (Found g tables old new x) (sym kept) (record { told = told; looks = looks })))

found_in : (g : _) (c : After-changes g) → Found g.S.Store (map shown_info c.args.tables.now) c.args.store.now c.match-command.store c.args.command.now c.match-command.written
found_in g c = elim c.match-command.branch [
  | in-Insert+in_ok-written-in-Insert w ↦ moved g.S.Store (map shown_info c.args.tables.now) c.args.store.now w.insert_written.new.store _ _ _ _ _ w.in-Insert.is w.store-is w.written-is w.in_ok-written-in-Insert.ensures.told w.insert_written.ensures.looks.only
  | in-Update+in_ok-written-in-Update w ↦ moved g.S.Store (map shown_info c.args.tables.now) c.args.store.now w.update_written.new.store _ _ _ _ _ w.in-Update.is w.store-is w.written-is w.in_ok-written-in-Update.ensures.told w.update_written.ensures.looks.only
  | in-Delete+in_ok-written-in-Delete w ↦ moved g.S.Store (map shown_info c.args.tables.now) c.args.store.now w.delete_written.new.store _ _ _ _ _ w.in-Delete.is w.store-is w.written-is w.in_ok-written-in-Delete.ensures.told w.delete_written.ensures.looks.only
]

pub returns-in_err-changes-clause-plans : goal.returns-in_err-changes-clause-plans
returns-in_err-changes-clause-plans g c =
    let is : c.from_residual-in_err-changes.result ≡ Err faults.Memory = search rules in
    subst (PlansIn g.S.Store (map shown_info c.args.tables.now) c.args.store.now c.match-command.store (command_of c.args.command.now)) (sym is) (λ up contents held. inl refl)

pub returns-in_err-changes-clause-looks : goal.returns-in_err-changes-clause-looks
returns-in_err-changes-clause-looks g c = (found_in g (goal.at.returns-in_err-changes-clause-looks g c).After-changes).looks

pub returns-clause-plans : goal.returns-clause-plans
returns-clause-plans g c = (found_in g (goal.at.returns-clause-plans g c).After-changes).told.0 (map shown_change c.in_ok-changes.field-0.items) c.in_ok-changes.ensures

pub returns-clause-looks : goal.returns-clause-looks
returns-clause-looks g c = (found_in g (goal.at.returns-clause-looks g c).After-changes).looks

pub returns-in_err-info-in-Select-clause-plans : goal.returns-in_err-info-in-Select-clause-plans
returns-in_err-info-in-Select-clause-plans g c =
    let tables = map shown_info c.args.tables.now in
    let select = c.in-Select.select in
    let old = c.args.store.now in
    let fault : Fault = c.in_err-info-in-Select.field-0.0 in
    let is : c.from_residual-in_err-info-in-Select.result ≡ Err fault = search rules in
    let unfit : IsUnfit tables (string_bytes select.table) fault = subst (λ (n : List ℕ). IsUnfit tables n fault) c.as_str-in-Select.ensures.value c.in_err-info-in-Select.ensures in
    subst₂ (λ (x : Command) (r : Result (Vec RowChange Global) Fault). PlansIn g.S.Store tables old old (command_of x) r) (sym c.in-Select.is) (sym is)
    (λ up contents held. select_unplanned contents (string_bytes select.table) (items_of select.items) (filter_of select.filter) select.limit select.offset (value_in g.S.Store old) tables held fault unfit)

pub returns-in_err-select_query-in-Select-clause-plans : goal.returns-in_err-select_query-in-Select-clause-plans
returns-in_err-select_query-in-Select-clause-plans g c =
    let tables = map shown_info c.args.tables.now in
    let select = c.in-Select.select in
    let old = c.args.store.now in
    let fault : Fault = c.in_err-select_query-in-Select.field-0.0 in
    let is : c.from_residual-in_err-select_query-in-Select.result ≡ Err fault = search rules in
    let known = shown_info c.in_ok-info-in-Select.info.now in
    let named : IsSoundNamed tables (string_bytes select.table) known = subst (λ (n : List ℕ). IsSoundNamed tables n known) c.as_str-in-Select.ensures.value c.in_ok-info-in-Select.ensures in
    subst₂ (λ (x : Command) (r : Result (Vec RowChange Global) Fault). PlansIn g.S.Store tables old old (command_of x) r) (sym c.in-Select.is) (sym is)
    (λ up contents held. select_fails contents (string_bytes select.table) (items_of select.items) (filter_of select.filter) select.limit select.offset (value_in g.S.Store old) tables held known named fault c.in_err-select_query-in-Select.ensures.fault)

pub returns-in-Select-clause-plans : goal.returns-in-Select-clause-plans
returns-in-Select-clause-plans g c =
    let tables = map shown_info c.args.tables.now in
    let select = c.in-Select.select in
    let old = c.args.store.now in
    let known = shown_info c.in_ok-info-in-Select.info.now in
    let named : IsSoundNamed tables (string_bytes select.table) known = subst (λ (n : List ℕ). IsSoundNamed tables n known) c.as_str-in-Select.ensures.value c.in_ok-info-in-Select.ensures in
    let none : Ok [] ≡ changes_of (Ok c.new.result) = ap (λ (cs : List RowChange). Ok (map shown_change cs)) (sym c.new.ensures.items) in
    subst₂ (λ (x : Command) (r : Result (List Change) Fault). PlansTo g.S.Store tables old old (command_of x) r) (sym c.in-Select.is) none
    (λ up contents held. select_plans contents (string_bytes select.table) (items_of select.items) (filter_of select.filter) select.limit select.offset (value_in g.S.Store old) tables held known named (search rules))

pub returns-in_err-check_table-in-Check-clause-plans : goal.returns-in_err-check_table-in-Check-clause-plans
returns-in_err-check_table-in-Check-clause-plans g c =
    let tables = map shown_info c.args.tables.now in
    let old = c.args.store.now in
    let table = c.as_str-in-Check.result.now in
    let fault : Fault = c.in_err-check_table-in-Check.field-0.0 in
    let is : c.from_residual-in_err-check_table-in-Check.result ≡ Err fault = search rules in
    let failed : c.check_table.result ≡ Err fault = search rules in
    subst₂ (λ (x : Command) (r : Result (Vec RowChange Global) Fault). PlansIn g.S.Store tables old c.check_table.new.store (command_of x) r) (sym c.in-Check.is) (sym is)
    (subst (λ (n : List ℕ). PlansIn g.S.Store tables old c.check_table.new.store (plain.Check n) (Err fault)) c.as_str-in-Check.ensures.value (λ up contents held.
    let answered = c.check_table.ensures.told.steps up contents held in
    check_plans contents answered.0 table (value_in g.S.Store old) tables held (Err fault) (subst (λ (r : Result Reply Fault). Answers contents (plain.Check table) (answer_of r) answered.0) failed answered.2)))

pub returns-in-Check-clause-plans : goal.returns-in-Check-clause-plans
returns-in-Check-clause-plans g c =
    let tables = map shown_info c.args.tables.now in
    let old = c.args.store.now in
    let table = c.as_str-in-Check.result.now in
    let reply : Reply = c.in_ok-check_table-in-Check.field-0 in
    let done : c.check_table.result ≡ Ok reply = search rules in
    let none : Ok [] ≡ changes_of (Ok c.new-in-Check.result) = ap (λ (cs : List RowChange). Ok (map shown_change cs)) (sym c.new-in-Check.ensures.items) in
    subst₂ (λ (x : Command) (r : Result (List Change) Fault). PlansTo g.S.Store tables old c.check_table.new.store (command_of x) r) (sym c.in-Check.is) none
    (subst (λ (n : List ℕ). PlansTo g.S.Store tables old c.check_table.new.store (plain.Check n) (Ok [])) c.as_str-in-Check.ensures.value (λ up contents held.
    let answered = c.check_table.ensures.told.steps up contents held in
    check_plans contents answered.0 table (value_in g.S.Store old) tables held (Ok reply) (subst (λ (r : Result Reply Fault). Answers contents (plain.Check table) (answer_of r) answered.0) done answered.2)))

pub returns-in_err-optimize-in-Optimize-clause-plans : goal.returns-in_err-optimize-in-Optimize-clause-plans
returns-in_err-optimize-in-Optimize-clause-plans g c =
    let tables = map shown_info c.args.tables.now in
    let old = c.args.store.now in
    let table = c.as_str-in-Optimize.result.now in
    let fault : Fault = c.in_err-optimize-in-Optimize.field-0.0 in
    let is : c.from_residual-in_err-optimize-in-Optimize.result ≡ Err fault = search rules in
    let failed : c.optimize.result ≡ Err fault = search rules in
    subst₂ (λ (x : Command) (r : Result (Vec RowChange Global) Fault). PlansIn g.S.Store tables old old (command_of x) r) (sym c.in-Optimize.is) (sym is)
    (subst (λ (n : List ℕ). PlansIn g.S.Store tables old old (plain.Optimize n) (Err fault)) c.as_str-in-Optimize.ensures.value (λ up contents held.
    optimize_plans contents contents table (value_in g.S.Store old) tables held (Err fault) (subst (λ (r : Result Reply Fault). Answers contents (plain.Optimize table) (answer_of r) contents) failed (c.optimize.ensures.answers contents held.told))))

pub returns-in-Optimize-clause-plans : goal.returns-in-Optimize-clause-plans
returns-in-Optimize-clause-plans g c =
    let tables = map shown_info c.args.tables.now in
    let old = c.args.store.now in
    let table = c.as_str-in-Optimize.result.now in
    let reply : Reply = c.in_ok-optimize-in-Optimize.field-0 in
    let done : c.optimize.result ≡ Ok reply = search rules in
    let none : Ok [] ≡ changes_of (Ok c.new-in-Optimize.result) = ap (λ (cs : List RowChange). Ok (map shown_change cs)) (sym c.new-in-Optimize.ensures.items) in
    subst₂ (λ (x : Command) (r : Result (List Change) Fault). PlansTo g.S.Store tables old old (command_of x) r) (sym c.in-Optimize.is) none
    (subst (λ (n : List ℕ). PlansTo g.S.Store tables old old (plain.Optimize n) (Ok [])) c.as_str-in-Optimize.ensures.value (λ up contents held.
    optimize_plans contents contents table (value_in g.S.Store old) tables held (Ok reply) (subst (λ (r : Result Reply Fault). Answers contents (plain.Optimize table) (answer_of r) contents) done (c.optimize.ensures.answers contents held.told))))
