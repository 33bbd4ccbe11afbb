use Rattle.std.proofs.Common.{◌≡◌}
use Rattle.ft_opening.proofs.Common.{state}
use Rattle.ft_opening.proofs.MakeLemmas.{mark_text, marks, mark_blamed}
use Rattle.ft_opening.specs.Marking.{IsUnmarked}
use Rattle.ft_store.specs.Calls.{IsStore}
use Rattle.ft_store.specs.Rows.{value_of}
use Rattle.ft_store.proofs.{runs_make}
use Rattle.ft_opening.proofs.make.mark.Goals as goal

pub returns-clause-done : goal.returns-clause-done
returns-clause-done g c = runs_make g.S.Store _ _ _ mark_text IsUnmarked (λ old new. IsStore new × (value_of new.trees ≡ value_of old.trees)) c.run.ensures.done (marks _ _)

pub returns-clause-refused : goal.returns-clause-refused
returns-clause-refused g c = λ clean inside was is.
    let old = state g.S.Store c.args.tx.now.conn.now in
    let new = state g.S.Store c.run.new.tx.conn.now in
    let why = c.run.ensures.refused clean inside is in
    mark_blamed old new was why.0 why.1 why.2
