use Rattle.std.proofs.Common.{sym, subst, refl, ap, ◌∙◌, arith, to_z-of_z, rules, int_eq}
use Rattle.ft_store.proofs.Common.{where_key, Database, state, HasCleanDisk, column_key_cmp, IsPlain, understood, id_in}
use Rattle.ft_store.specs.Rows.{value_of}
use Rattle.ft_store.proofs.ChainLemmas.{kept_store, kept_then, reads_then}
use Rattle.ft_store.proofs.TableLemmas.{listed}
use Rattle.ft_store.proofs.FoundLemmas.{by_number}
use Rattle.ft_store.proofs.Texts.{columns_text, skips_text, columns_means, skips_means}
use Rattle.ft_store.proofs.AnswerLemmas.{columns_shown, skips_shown, columns_blamed, skips_blamed}
use Rattle.ft_store.proofs.BlameLemmas.{blamed_then}
use Rattle.ft_store.proofs.tables.table.Goals as goal

pub select-requires : goal.select-requires
select-requires g c = record { settled = c.requires.settled; shown = λ clean is_open. subst (λ s. IsPlain (understood s columns_text)) (sym (c.requires.store clean is_open).schema) columns_means.plain }

pub select-requires-2 : goal.select-requires-2
select-requires-2 g c = record {
  settled = c.select.ensures.given.read.mode;
  shown = λ clean is_open. subst (λ s. IsPlain (understood s skips_text)) (sym (kept_store (state g.S.Store c.args.conn.now) (state g.S.Store c.select.new.conn) _ c.select.ensures.given.read.kept c.select.ensures.given.read.survives c.requires.store clean is_open).schema) skips_means.plain;
}

pub returns-clause-given : goal.returns-clause-given
returns-clause-given g c = record {
  rows = λ clean.
      let old = state g.S.Store c.args.conn.now in
      let mid = state g.S.Store c.select.new.conn in
      let before : HasCleanDisk mid = omega (arith, c.select-2.ensures.given.read.survives.clean, clean) in
      let same = (c.select.ensures.given.read.kept before (c.in_ok-columns.ensures.given.read.live before)).0 in
      let new = state g.S.Store c.select-2.new.conn in
      let store = c.requires.store (omega (arith, c.select.ensures.given.read.survives.clean, before)) in
      let kept = kept_store old mid _ c.select.ensures.given.read.kept c.select.ensures.given.read.survives c.requires.store before in
      let h = c.in_ok-columns.ensures.given.rows before in
      let named = h.2 c.args.id ∙ columns_shown c.args.id old mid h.0 store (simp (to_z-of_z, c.ranges.id) at (rw c.params-to_sql.ensures at h.1)) in
      let k = c.in_ok-skipped.ensures.given.rows clean in
      let bare = by_number (λ v. ((c.args.id, id_in v), tt)) c.in_ok-skipped.skipped.items k.0 (k.2 c.args.id) ∙ skips_shown c.args.id mid new k.0 kept (simp (to_z-of_z, c.ranges.id) at (rw c.params-to_sql-2.ensures at k.1)) in
      rw (to_z-of_z c.ranges.id)
      (listed (value_of old.now.trees) c.args.id (record { id = c.args.id; name = c.args.name; columns = c.in_ok-columns.columns; skipped = c.in_ok-skipped.skipped }) refl named
      (bare ∙ ap (λ (d : Database). where_key column_key_cmp (λ k. int_eq c.args.id k.0) (value_of d.trees).skipped) same));
  read = record {
    kept = λ clean. kept_then (state g.S.Store c.args.conn.now) (state g.S.Store c.select.new.conn) (state g.S.Store c.select-2.new.conn) (c.select.ensures.given.read.kept (omega (arith, c.select-2.ensures.given.read.survives.clean, clean))) (c.select-2.ensures.given.read.kept clean);
    live = c.in_ok-skipped.ensures.given.read.live;
    mode = c.select-2.ensures.given.read.mode;
    survives = reads_then (state g.S.Store c.args.conn.now) (state g.S.Store c.select.new.conn) (state g.S.Store c.select-2.new.conn) c.in_ok-columns.ensures.given.read.live c.select.ensures.given.read.survives c.select-2.ensures.given.read.survives;
    fault = search rules;
  };
}

pub returns-in_err-columns-clause-refused : goal.returns-in_err-columns-clause-refused
returns-in_err-columns-clause-refused g c = λ clean is.
    columns_blamed c.args.id (state g.S.Store c.args.conn.now) (state g.S.Store c.select.new.conn) (c.requires.store (omega (arith, c.select.ensures.given.read.survives.clean, clean)))
    (simp (to_z-of_z, c.ranges.id) at (rw c.params-to_sql.ensures at (c.select.ensures.refused clean (search rules))))

pub returns-in_err-skipped-clause-refused : goal.returns-in_err-skipped-clause-refused
returns-in_err-skipped-clause-refused g c = λ clean is.
    let old = state g.S.Store c.args.conn.now in
    let mid = state g.S.Store c.select.new.conn in
    let new = state g.S.Store c.select-2.new.conn in
    let before : HasCleanDisk mid = omega (arith, c.select-2.ensures.given.read.survives.clean, clean) in
    blamed_then old mid new _ _ before c.select.ensures.given.read.survives c.select-2.ensures.given.read.survives
    (skips_blamed c.args.id mid new (kept_store old mid _ c.select.ensures.given.read.kept c.select.ensures.given.read.survives c.requires.store before)
    (simp (to_z-of_z, c.ranges.id) at (rw c.params-to_sql-2.ensures at (c.select-2.ensures.refused clean (search rules)))))
