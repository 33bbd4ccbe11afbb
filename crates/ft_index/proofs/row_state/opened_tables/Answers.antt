-- one table more
use Rattle.std.proofs.Common.{◌≡◌, ◌++◌, ◌∷◌, [], map, refl, sym, ap, subst, ◌∙◌, rules, arith, to_z, of_z, w64, to_z-of_z, FitsSigned, map-id}
use Rattle.ft_index.proofs.Common.{map-append, HasCleanDisk, shows, value_in, shown_table, TabRow, RustTableInfo, shown_info}
use Rattle.std.proofs.lemmas.Iterator.Adapters.{YieldsList-from_vec}
use Rattle.std.proofs.lemmas.Iterator.Consumers.{YieldsList-end}
use Rattle.ft_index.proofs.Doing.{looks_then}
use Rattle.ft_index.proofs.OpenedTables.{looked, marked, blamed_after, IsMarkedRow, AreMarkedRows, one_marked_more, are_marked}
use Rattle.ft_index.proofs.row_state.opened_tables.Goals as goal

pub loop-row-preserved : goal.loop-row-preserved
loop-row-preserved g c =
    let so_far = c.loop-row.invariant in
    let looks = c.in_ok-read_state.ensures.asks.only in
    let v = value_in g.S.Store c.args.store.now in
    let row : TabRow = c.in-Some.row in
    let fits : FitsSigned w64 row.id = search rules in
    let info : RustTableInfo = record { id = to_z w64 (of_z w64 row.id); name = row.name; columns = c.in_ok-columns.columns; sound = c.is_sound-sound.result } in (
      looks_then g.S.Store c.args.store.now c.loop-row.store c.read_state.new.store so_far.0 looks (λ clean _. so_far.1 clean),
      c.in_ok-read_state.ensures.asks.live,
      λ clean. so_far.2 (omega (arith, looks.survives.clean, clean)),
      λ clean.
          let middle : HasCleanDisk (shows g.S.Store c.loop-row.store) = omega (arith, looks.survives.clean, clean) in
          let same : value_in g.S.Store c.loop-row.store ≡ v = looked g.S.Store c.args.store.now c.loop-row.store so_far.0 so_far.1 middle in
          let one : IsMarkedRow v row (shown_info info) = subst (λ w. IsMarkedRow w row (shown_info info)) same (λ named is.
          marked (value_in g.S.Store c.loop-row.store) named row _ c.in_ok-read_state.field-0 is (c.in_ok-read_state.ensures.told named clean is) (to_z-of_z fits) refl c.in_ok-columns.ensures c.is_sound-sound.ensures) in
          subst (λ ks. AreMarkedRows v (c.loop-row.yielded ++ row ∷ []) ks) (sym (ap (map shown_info) c.in_ok-push.ensures.items ∙ map-append shown_info c.loop-row.tables.items (info ∷ [])))
          (one_marked_more v c.loop-row.yielded (map shown_info c.loop-row.tables.items) row (shown_info info) (so_far.3 middle) one),
    )

pub returns-in_err-push-clause-asks : goal.returns-in_err-push-clause-asks
returns-in_err-push-clause-asks g c = record { only = looks_then g.S.Store c.args.store.now c.loop-row.store c.read_state.new.store c.loop-row.invariant.0 c.in_ok-read_state.ensures.asks.only (λ clean _. c.loop-row.invariant.1 clean); live = search rules; cause = search rules }

pub returns-clause-told : goal.returns-clause-told
returns-clause-told g c = λ clean.
    let so_far = c.loop-row.invariant in
    let v = value_in g.S.Store c.args.store.now in
    let ended = YieldsList-end (YieldsList-from_vec {s = c.into_iter-row-iterator.result} c.in_ok-rows.rows.items (search rules) (search rules)) c.loop-row.yielded c.loop-row.row-iterator c.loop-row.yielded_by _ c.next.new.self c.in-None.is c.next.ensures.steps in
    let all : c.loop-row.yielded ≡ c.in_ok-rows.rows.items = sym (map-id c.loop-row.yielded) ∙ ended.0 in
    are_marked v c.loop-row.yielded v.tables (map shown_info c.loop-row.tables.items) (so_far.3 clean) (ap (map shown_table) all ∙ c.in_ok-rows.ensures.rows (so_far.2 clean))

pub returns-in_err-read_state-clause-refused : goal.returns-in_err-read_state-clause-refused
returns-in_err-read_state-clause-refused g c = λ texts clean is. blamed_after g.S.Store c.args.store.now c.loop-row.store c.read_state.new.store c.loop-row.invariant.0.survives c.read_state.ensures.asks.only.survives clean (c.read_state.ensures.refused clean (search rules))
