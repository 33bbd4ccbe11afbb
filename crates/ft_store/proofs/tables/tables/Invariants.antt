use Rattle.std.proofs.Common.{◌≡◌, map, take}
use Rattle.ft_store.proofs.Common.{state, HasCleanDisk, shown_table, table_listed}
use Rattle.ft_store.specs.Rows.{value_of}
use Rattle.ft_store.specs.Found.{id_and_name}
use Rattle.ft_store.proofs.ChainLemmas.{Reading}
use Rattle.ft_store.proofs.tables.tables.Given as goal

abbrev pub invariant-loop-named : goal.invariant-loop-named
invariant-loop-named g l =
    let old = state g.S.Store l.fn.conn in
    let now = state g.S.Store l.conn in
    Reading old now × (HasCleanDisk now → HasCleanDisk (state g.S.Store l.initial.conn)) × (HasCleanDisk now → map shown_table l.found.items ≡ map (λ n. table_listed (value_of old.now.trees) (id_and_name n)) (take l.named-index l.named-items))
