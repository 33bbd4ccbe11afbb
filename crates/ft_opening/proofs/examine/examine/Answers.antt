use Rattle.std.proofs.Common.{rules, inl, inr, sym, subst, arith}
use Rattle.ft_opening.proofs.Common.{Database, state, HasCleanDisk}
use Rattle.ft_store.specs.Calls.{HaveOwnRowids}
use Rattle.ft_opening.specs.Older.{schema_of}
use Rattle.ft_store.proofs.{blamed_then}
use Rattle.ft_opening.proofs.examine.examine.Goals as goal

pub returns-in_err-are_numbered-clause-refused : goal.returns-in_err-are_numbered-clause-refused
returns-in_err-are_numbered-clause-refused g c = λ clean is.
    let old = state g.S.Store c.args.conn.now in
    let mid = state g.S.Store c.version.new.conn in
    let new = state g.S.Store c.are_numbered.new.conn in
    let before : HasCleanDisk mid = omega (arith, c.are_numbered.ensures.numbered.read.survives.clean, clean) in
    let first = c.in_ok-version.ensures.found.read in
    let same = (first.kept before (first.live before)).0 in
    elim (c.are_numbered.ensures.refused clean (search rules)) [
      | inl blamed ↦ inl (blamed_then old mid new _ _ before first.survives c.are_numbered.ensures.numbered.read.survives blamed)
      | inr again ↦ inr (inr (λ all. again (subst (λ (d : Database). HaveOwnRowids (schema_of c.args.layout).tables d.trees) (sym same) all)))
    ]
