-- by the table of the name, and its rows as they are read
use Rattle.std.proofs.Common.{rules, ◌≡◌, inr, map, Err, Result, sym, subst, ◌∙◌}
use Rattle.ft_index.proofs.Common.{value_in, Fault, Reply, shown_info, answer_of, Executes, HasState, with_tables, fault_of_read}
use Rattle.ft_commands.specs.Command as plain
use Rattle.ft_index.proofs.Doing.{executes_read, no_look, is_refused}
use Rattle.ft_index.proofs.OpenedTables.{told_here, check_missing, check_right, check_wrong}
use Rattle.ft_store.specs.declared.fault.StoreFault.TheVariants as causes
use Rattle.ft_index.proofs.special.check_table.Goals as goal

pub returns-in_err-known-clause-told : goal.returns-in_err-known-clause-told
returns-in_err-known-clause-told g c =
    let tables = map shown_info c.args.tables.now in
    let known = with_tables c.args.store.now tables in
    let command = plain.Check c.args.table.now in
    let fault : Fault = c.in_err-known.field-0.0 in
    let is : c.from_residual.result ≡ Err fault = search rules in
    let missing = c.in_err-known.ensures in
    subst (λ (a : Result Reply Fault). Executes g.S.Store known command (answer_of a) known) (sym is)
    (subst (λ f. Executes g.S.Store known command (Err f) known) (sym missing.0) (executes_read g.S.Store c.args.store.now c.args.store.now tables command _ (no_look g.S.Store c.args.store.now) (λ up first holds. inr (check_missing first tables c.args.table.now holds.told missing.1))))

pub returns-then-is_sound-clause-told : goal.returns-then-is_sound-clause-told
returns-then-is_sound-clause-told g c =
    let tables = map shown_info c.args.tables.now in
    let known = shown_info c.in_ok-known.known.now in
    let v = value_in g.S.Store c.args.store.now in
    executes_read g.S.Store c.args.store.now c.known_state.new.store tables (plain.Check c.args.table.now) _ c.in_ok-known_state.ensures.asks.only (λ up first holds.
    let t = told_here v tables first c.args.table.now known c.is_in_order.ensures.order holds c.in_ok-known.ensures in
    let stands = c.in_ok-known_state.ensures.told t.table.1.held up.clean (subst (λ k. HasState v k t.table.1.held) t.told t.stands) in
    inr (check_right first c.args.table.now t.table t.found (sym (c.is_sound.ensures t.table.1.held stands) ∙ c.if-is_sound.true)))

pub returns-clause-told : goal.returns-clause-told
returns-clause-told g c =
    let tables = map shown_info c.args.tables.now in
    let known = shown_info c.in_ok-known.known.now in
    let v = value_in g.S.Store c.args.store.now in
    executes_read g.S.Store c.args.store.now c.known_state.new.store tables (plain.Check c.args.table.now) _ c.in_ok-known_state.ensures.asks.only (λ up first holds.
    let t = told_here v tables first c.args.table.now known c.is_in_order.ensures.order holds c.in_ok-known.ensures in
    let stands = c.in_ok-known_state.ensures.told t.table.1.held up.clean (subst (λ k. HasState v k t.table.1.held) t.told t.stands) in
    inr (check_wrong first c.args.table.now t.table t.found (sym (c.is_sound.ensures t.table.1.held stands) ∙ c.if-is_sound.false)))

pub returns-in_err-known_state-clause-refused : goal.returns-in_err-known_state-clause-refused
returns-in_err-known_state-clause-refused g c = λ clean told.
    let fault = c.in_err-known_state.field-0.0 in
    let is : c.from_residual-in_err-known_state.result ≡ Err (fault_of_read fault) = search rules in
    let why = is_refused fault c.from_residual-in_err-known_state.result is (search rules) told in
    let refused : c.known_state.result ≡ Err causes.Refused = search rules in
    c.known_state.ensures.refused clean refused
