-- by the table as it is listed, and its rows
use Rattle.std.proofs.Common.{ap, subst, sym, ◌∙◌, arith, rules}
use Rattle.ft_index.proofs.Common.{IfOk-weaker, HasCleanDisk, shows, value_in, shown_info, Stands, IsListed, state_of, table_rows, table_index}
use Rattle.ft_index.proofs.OpenedTables.{held_once, blamed_after, looked}
use Rattle.ft_index.proofs.Doing.{looks_then}
use Rattle.ft_index.proofs.row_state.known_state.Goals as goal

pub returns-clause-told : goal.returns-clause-told
returns-clause-told g c = λ held clean stands.
    let v = value_in g.S.Store c.args.store.now in
    let known = shown_info c.args.table.now in
    let read = c.in_ok-listed.ensures.read in
    let middle : HasCleanDisk (shows g.S.Store c.table.new.self) = omega (arith, c.read_state.ensures.asks.only.survives.clean, clean) in
    let same = looked g.S.Store c.args.store.now c.table.new.self (record { kept = read.kept; survives = read.survives }) read.live middle in
    let listed : IsListed v (known.id, known.name) c.in_ok-listed.listed = search rules in
    let all = table_rows known.id v in
    let index = table_index known.id v in
    IfOk-weaker c.read_state.result _ _ (λ s so. so.is ∙ ap state_of (held_once known.name all index so.held held (subst (λ w. Stands known.name (table_rows known.id w) (table_index known.id w) so.held) same so.stands) stands))
    (c.read_state.ensures.told (known.id, known.name) clean (subst (λ w. IsListed w (known.id, known.name) c.in_ok-listed.listed) (sym same) listed))

pub returns-clause-asks : goal.returns-clause-asks
returns-clause-asks g c = record { only = looks_then g.S.Store c.args.store.now c.table.new.self c.read_state.new.store (record { kept = c.in_ok-listed.ensures.read.kept; survives = c.in_ok-listed.ensures.read.survives }) c.read_state.ensures.asks.only (λ clean _. c.in_ok-listed.ensures.read.live clean); live = c.read_state.ensures.asks.live; cause = c.read_state.ensures.asks.cause }

pub returns-clause-refused : goal.returns-clause-refused
returns-clause-refused g c = λ clean is. blamed_after g.S.Store c.args.store.now c.table.new.self c.read_state.new.store c.in_ok-listed.ensures.read.survives c.read_state.ensures.asks.only.survives clean (c.read_state.ensures.refused clean is)
