-- the transaction, to its end
use Rattle.std.proofs.Common.{rules, ◌≡◌, List, map, false, Err, string_bytes, sym, subst, ◌∙◌, String, Global, if◌then◌else◌, option_map}
use Rattle.std.specs.Borrow.{Bor}
use Rattle.plain_sql.proofs.Common.{state, Refused, Memory, IfClean, is_memory_error, CommitsNothing, KeepsLast, import_steps, DoesAll, StopsAtStep, CommitsAll, Declines, stopped, uncommitted, texts_of}
use Rattle.plain_sql.proofs.QueryLemmas.{was_clean}
use Rattle.plain_sql.proofs.PlainImportLemmas.{other_cause, uncommitted_all_kept}
use Rattle.plain_sql.proofs.plain_import.import_records.Goals as goal

pub returns-in_err-fill-clause-declined : goal.returns-in_err-fill-clause-declined
returns-in_err-fill-clause-declined g c =
    let steps = import_steps (option_map (λ (n : Bor (List (String Global))). map string_bytes n.now) c.args.names) c.args.table.now c.args.columns (map texts_of c.args.records.now) in
    let is : c.from_residual.result ≡ Err c.in_err-fill.field-0.0 = search rules in
    let settled : c.args.plain.now.in_transaction ≡ false = search rules in
    let same : c.drop-tx.new.self.0 ≡ c.plain-1.given.0 = search rules in
    λ refused. subst (λ h. Declines g.P.Store steps c.args.plain.now h) same
    (stopped c.fill.new.tx.conn.now settled (subst (λ h. StopsAtStep g.P.Store steps h c.fill.new.tx.conn.now) c.transaction-tx.ensures.begun (c.in_err-fill.ensures.steps.refused (sym is ∙ refused)))
    (λ clean. (was_clean c.drop-tx.ensures.survives clean, c.drop-tx.ensures.undone clean)))

pub returns-in_err-commit-clause-declined : goal.returns-in_err-commit-clause-declined
returns-in_err-commit-clause-declined g c =
    let steps = import_steps (option_map (λ (n : Bor (List (String Global))). map string_bytes n.now) c.args.names) c.args.table.now c.args.columns (map texts_of c.args.records.now) in
    let e = c.in_err-commit.field-0.0 in
    let is : c.from_residual-in_err-commit.result ≡ Err (if is_memory_error e then Memory else Refused) = search rules in
    let settled : c.args.plain.now.in_transaction ≡ false = search rules in
    let same : c.commit.new.self.0 ≡ c.plain-2-1.given.0 = search rules in
    λ refused. subst (λ h. Declines g.P.Store steps c.args.plain.now h) same
    (uncommitted c.fill.new.tx.conn.now e settled (subst (λ h. DoesAll g.P.Store steps h c.fill.new.tx.conn.now) c.transaction-tx.ensures.begun c.in_ok-fill.ensures.steps.done)
    (other_cause e c.from_residual-in_err-commit.result is refused)
    (λ clean. (was_clean c.commit.ensures.survives clean, c.in_err-commit.ensures.err clean)))

pub returns-in_err-commit-clause-kept : goal.returns-in_err-commit-clause-kept
returns-in_err-commit-clause-kept g c =
    let e = c.in_err-commit.field-0.0 in
    let is : c.from_residual-in_err-commit.result ≡ Err (if is_memory_error e then Memory else Refused) = search rules in
    let same : c.commit.new.self.0 ≡ c.plain-2-1.given.0 = search rules in
    let begins = subst (λ h. KeepsLast g.P.Store h c.fill.new.tx.conn.now) c.transaction-tx.ensures.begun c.fill.ensures.stays.kept in
    let kept : IfClean g.P.Store c.args.plain.now c.plain-2-1.given.0 (CommitsNothing (state g.P.Store c.args.plain.now) (state g.P.Store c.plain-2-1.given.0)) = subst (λ h. IfClean g.P.Store c.args.plain.now h (CommitsNothing (state g.P.Store c.args.plain.now) (state g.P.Store h))) same
    (uncommitted_all_kept g.P.Store c.args.plain.now c.fill.new.tx.conn.now c.commit.new.self.0 e begins c.in_ok-fill.ensures.stays.inside (λ clean. (was_clean c.commit.ensures.survives clean, c.in_err-commit.ensures.err clean))) in
    search (rules, kept, is)

pub returns-clause-done : goal.returns-clause-done
returns-clause-done g c =
    let steps = import_steps (option_map (λ (n : Bor (List (String Global))). map string_bytes n.now) c.args.names) c.args.table.now c.args.columns (map texts_of c.args.records.now) in
    let settled : c.args.plain.now.in_transaction ≡ false = search rules in
    let same : c.commit.new.self.0 ≡ c.plain-2-1.given.0 = search rules in
    subst (λ h. CommitsAll g.P.Store steps c.args.plain.now h) same (record {
      settled = settled;
      last = c.fill.new.tx.conn.now;
      done = subst (λ h. DoesAll g.P.Store steps h c.fill.new.tx.conn.now) c.transaction-tx.ensures.begun c.in_ok-fill.ensures.steps.done;
      committed = λ clean. (was_clean c.commit.ensures.survives clean, let all = c.in_ok-commit.ensures.ok clean in (all.1, all.2, all.3));
    })
