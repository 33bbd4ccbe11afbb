-- by the table that comes first
use Rattle.std.proofs.Common.{rules, ◌≡◌, ◌∷◌, [], None, Some, Ok, Err, sym, subst}
use Rattle.ft_index.proofs.Common.{table_change, MakesAnew, MakesWritten, Change}
use Rattle.ft_values.specs.declared.fault.Fault.TheVariants as faults
use Rattle.ft_index.proofs.GroupLemmas.{makes_nothing, makes_anew, made_already}
use Rattle.ft_index.proofs.written.make_anew.Goals as goal

pub returns-in_err-first : goal.returns-in_err-first
returns-in_err-first g c =
    let store = c.args.store.now in
    let written = c.in-Some.written in
    let refused : c.from_residual.result ≡ Err faults.Memory = search rules in
    subst (λ anew. MakesAnew g.S.Store anew store store c.from_residual.result) (sym c.in-Some.is)
    (subst (MakesAnew g.S.Store (Some written) store store) (sym refused) (makes_anew written g.S.Store store store (Err faults.Memory) (makes_nothing written g.S.Store (table_change written.table.now ∷ []) store)))

pub returns-in_default : goal.returns-in_default
returns-in_default g c =
    let none : c.args.anew ≡ None = search rules in
    subst (λ anew. MakesAnew g.S.Store anew c.args.store.now c.args.store.now (Ok tt)) (sym none) (made_already g.S.Store c.args.store.now)

pub returns : goal.returns
returns g c =
    let store = c.args.store.now in
    let written = c.in-Some.written in
    subst (λ anew. MakesAnew g.S.Store anew store c.make.new.store c.make.result) (sym c.in-Some.is)
    (makes_anew written g.S.Store store c.make.new.store c.make.result (subst (λ (change : Change). MakesWritten g.S.Store (change ∷ []) written store c.make.new.store c.make.result) c.in_ok-first.ensures c.make.ensures))
