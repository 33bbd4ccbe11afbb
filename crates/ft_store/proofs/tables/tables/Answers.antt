use Rattle.std.proofs.Common.{pos, subst, ◌≡◌, map, sym, ap, ◌∙◌, arith, rules, FitsSigned, w64, to_z-of_z, string_bytes, take_all, int_cmp}
use Rattle.ft_store.proofs.Common.{Database, state, HasCleanDisk, map-map, shown_table, table_listed, IsPlain, understood}
use Rattle.ft_store.specs.Rows.{value_of}
use Rattle.ft_store.specs.Found.{id_and_name}
use Rattle.ft_store.proofs.BlameLemmas.{one_more}
use Rattle.ft_store.proofs.ChainLemmas.{Reading, reading_then}
use Rattle.ft_store.proofs.Texts.{names_text, names_means}
use Rattle.ft_store.proofs.AnswerLemmas.{names_shown, all_kept, names_blamed}
use Rattle.ft_store.proofs.tables.tables.Goals as goal

pub select-requires : goal.select-requires
select-requires g c = record { settled = c.requires.settled; shown = λ clean is_open. subst (λ s. IsPlain (understood s names_text)) (sym (c.requires.store clean is_open).schema) names_means.plain }

pub loop-named-preserved : goal.loop-named-preserved
loop-named-preserved g c =
    let old = state g.S.Store c.args.conn.now in
    let was = state g.S.Store c.loop-named.conn in
    let now = state g.S.Store c.table.new.conn in
    let before = c.loop-named.invariant in
    let read : Reading was now = record { mode = c.table.ensures.given.read.mode; kept = c.table.ensures.given.read.kept; live = c.in_ok-table.ensures.given.read.live; survives = c.table.ensures.given.read.survives } in (
      reading_then old was now before.0 read,
      λ clean. before.1 (omega (arith, c.table.ensures.given.read.survives.clean, clean)),
      λ clean.
          let clean_was : HasCleanDisk was = omega (arith, c.table.ensures.given.read.survives.clean, clean) in
          let same = (before.0.kept clean_was (before.0.live clean_was)).0 in
          let fits : FitsSigned w64 c.named-item.result.id = search rules in
          let copied : string_bytes c.in_ok-name.name ≡ string_bytes c.named-item.result.name = search rules in
          rw c.in_ok-push.ensures.items
          (one_more shown_table (λ n. table_listed (value_of old.now.trees) (id_and_name n)) c.loop-named.found.items c.deref-named-items.result.now c.loop-named.named-index c.in_ok-table.field-0 c.named-item.result c.loop-named-test.true c.named-item.is (before.2 clean_was)
          (rw (to_z-of_z fits) at (c.in_ok-table.ensures.given.rows clean) ∙ ap (λ (d : Database). table_listed (value_of d.trees) (c.named-item.result.id, string_bytes c.in_ok-name.name)) same ∙ ap (λ name. table_listed (value_of old.now.trees) (c.named-item.result.id, name)) copied)),
    )

pub returns-clause-given : goal.returns-clause-given
returns-clause-given g c = record {
  rows = λ clean.
      let old = state g.S.Store c.args.conn.now in
      let read = c.loop-named.invariant.0 in
      let begun : HasCleanDisk (state g.S.Store c.select.new.conn) = c.loop-named.invariant.1 clean in
      let h = c.in_ok-names.ensures.given.rows begun in
      let store = c.requires.store (omega (arith, c.select.ensures.given.read.survives.clean, begun)) in
      c.loop-named.invariant.2 clean
      ∙ ap (map (λ n. table_listed (value_of old.now.trees) (id_and_name n))) (take_all c.loop-named.named-index c.deref-named-items.result.now c.loop-named-test.false ∙ c.deref-named-items.ensures.value)
      ∙ sym (map-map (table_listed (value_of old.now.trees)) id_and_name c.in_ok-names.names.items) ∙ ap (map (table_listed (value_of old.now.trees))) (h.2 (pos 0) ∙ names_shown old (state g.S.Store c.select.new.conn) h.0 store h.1 ∙ all_kept int_cmp _);
  read = record { kept = c.loop-named.invariant.0.kept; live = c.loop-named.invariant.0.live; mode = c.loop-named.invariant.0.mode; survives = c.loop-named.invariant.0.survives; fault = search rules };
}

-- the last table was read, and there is no room for it
pub returns-in_err-push-clause-given : goal.returns-in_err-push-clause-given
returns-in_err-push-clause-given g c =
    let was = state g.S.Store c.loop-named.conn in
    let now = state g.S.Store c.table.new.conn in
    let read : Reading was now = record { mode = c.table.ensures.given.read.mode; kept = c.table.ensures.given.read.kept; live = c.in_ok-table.ensures.given.read.live; survives = c.table.ensures.given.read.survives } in
    let all = reading_then (state g.S.Store c.args.conn.now) was now c.loop-named.invariant.0 read in
    record { rows = search rules; read = record { kept = all.kept; live = search rules; mode = all.mode; survives = all.survives; fault = search rules } }

pub returns-in_err-names-clause-refused : goal.returns-in_err-names-clause-refused
returns-in_err-names-clause-refused g c = λ texts clean is.
    names_blamed (state g.S.Store c.args.conn.now) (state g.S.Store c.select.new.conn) texts (c.requires.store (omega (arith, c.select.ensures.given.read.survives.clean, clean))) (c.select.ensures.refused clean (search rules))
