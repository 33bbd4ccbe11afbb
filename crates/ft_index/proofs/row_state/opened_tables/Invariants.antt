-- the tables so far, in a store that was only read and is open if it is clean
use Rattle.std.proofs.Common.{map, IsTrue}
use Rattle.ft_index.proofs.Common.{HasCleanDisk, shows, value_in, shown_info, Looks}
use Rattle.ft_index.proofs.OpenedTables.{AreMarkedRows}
use Rattle.ft_index.proofs.row_state.opened_tables.Given as goal

abbrev pub invariant-loop-row : goal.invariant-loop-row
invariant-loop-row g l =
    Looks g.S.Store l.fn.store l.store × (HasCleanDisk (shows g.S.Store l.store) → IsTrue (shows g.S.Store l.store).is_open)
    × (HasCleanDisk (shows g.S.Store l.store) → HasCleanDisk (shows g.S.Store l.initial.store)) × (HasCleanDisk (shows g.S.Store l.store) → AreMarkedRows (value_in g.S.Store l.fn.store) l.yielded (map shown_info l.tables.items))
