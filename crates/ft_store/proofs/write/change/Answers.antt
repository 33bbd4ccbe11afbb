use Rattle.std.proofs.Common.{◌≡◌, All, Err, rules, subst, sym, IfErr}
use Rattle.ft_store.proofs.Common.{CanApply}
use Rattle.ft_store.specs.Calls.{IsChangeFault}
use Rattle.ft_store.proofs.MadeLemmas.{all_apply, rows_fault}
use Rattle.ft_store.proofs.write.change.Goals as goal

pub returns-in_err-apply_all-clause-done : goal.returns-in_err-apply_all-clause-done
returns-in_err-apply_all-clause-done g c =
    let is : c.from_residual.result ≡ Err c.in_err-apply_all.field-0.0 = search rules in
    record {
      packable = search rules;
      made = search rules;
      mode = search rules;
      fault = subst (λ r. IfErr r (IsChangeFault (All CanApply c.args.changes.now))) (sym is) (rows_fault c.args.changes.now _ c.in_err-apply_all.ensures.stays.fault);
    }

pub returns-clause-done : goal.returns-clause-done
returns-clause-done g c = record { packable = all_apply c.args.changes.now c.in_ok-apply_all.ensures.packable; made = search rules; mode = search rules; fault = search rules }
