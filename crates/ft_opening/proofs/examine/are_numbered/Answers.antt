use Rattle.std.proofs.Common.{◌<◌, arith, rules}
use Rattle.ft_opening.proofs.Common.{state}
use Rattle.ft_opening.specs.declared.same.Layout.{Layout}
use Rattle.ft_opening.specs.declared.same.Layout.TheVariants.{Older, Present}
use Rattle.ft_opening.specs.Older.{tables_of}
use Rattle.ft_opening.proofs.ExamineLemmas.{looked_refused}
use Rattle.ft_opening.proofs.examine.are_numbered.Goals as goal

some_tables : (layout : Layout) → 0 < tables_of layout
some_tables Older = omega arith
some_tables Present = omega arith

pub returns-in_err-is_numbered-clause-refused : goal.returns-in_err-is_numbered-clause-refused
returns-in_err-is_numbered-clause-refused g c = λ clean is.
    let old = state g.S.Store c.args.conn.now in
    let was = state g.S.Store c.loop-at.conn in
    let now = state g.S.Store c.is_numbered.new.conn in
    looked_refused c.args.layout c.loop-at.at (omega (arith, c.loop-at-test.true, c.tables_in-at-end.ensures)) old was now c.loop-at.invariant.0 _ c.is_numbered.ensures.numbered.read.survives clean
    (c.is_numbered.ensures.refused clean (search rules))
