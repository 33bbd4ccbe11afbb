use Rattle.std.proofs.Common.{arith, rules}
use Rattle.ft_opening.proofs.Common.{IfOk-weaker, state}
use Rattle.ft_opening.specs.Scan.{tree_at}
use Rattle.ft_opening.specs.Older.{schema_of}
use Rattle.ft_store.proofs.{shown_open}
use Rattle.ft_opening.proofs.ExamineLemmas.{scanned, all_rise, numbers_rise, rowids_blamed}
use Rattle.ft_opening.proofs.examine.is_numbered.Goals as goal

pub returns-clause-numbered : goal.returns-clause-numbered
returns-clause-numbered g c = record {
  rows = λ clean.
      let old = state g.S.Store c.args.conn.now in
      let new = state g.S.Store c.gather.new.conn in
      let it = c.rowids_query.ensures c.args.layout c.requires.within in
      IfOk-weaker c.gather.result _ _
      (λ b h. let schema = c.requires.rest.shown (omega (arith, c.gather.ensures.given.read.survives.clean)) (shown_open _ _ old new _ h.1) in (
        λ rise. scanned (schema_of c.args.layout) c.rowids_query.result.now (tree_at c.args.at) it old new schema h.0 h.1 (all_rise c.gather.new.into.last h.0 (h.2.0 rise)),
        λ own. h.2.1 (numbers_rise (schema_of c.args.layout) c.rowids_query.result.now (tree_at c.args.at) it old new schema h.0 h.1 own),
      ))
      (c.gather.ensures.given.rows clean);
  read = c.gather.ensures.given.read;
}

pub returns-clause-refused : goal.returns-clause-refused
returns-clause-refused g c = λ clean is.
    let old = state g.S.Store c.args.conn.now in
    let new = state g.S.Store c.gather.new.conn in
    rowids_blamed (schema_of c.args.layout) c.rowids_query.result.now (tree_at c.args.at) (c.rowids_query.ensures c.args.layout c.requires.within) old new
    (c.requires.rest.shown (omega (arith, c.gather.ensures.given.read.survives.clean, clean))) (c.gather.ensures.refused clean (search rules))
