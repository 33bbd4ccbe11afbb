use Rattle.ft_opening.proofs.Common.{state}
use Rattle.ft_opening.proofs.MakeLemmas.{unmark_text, unmark_blamed, unmarks}
use Rattle.ft_store.proofs.{runs_make}
use Rattle.std.proofs.Common.{◌≡◌}
use Rattle.ft_opening.specs.Marking.{IsTabled, IsUnmarked}
use Rattle.ft_store.specs.Rows.{value_of}
use Rattle.ft_opening.proofs.migrate.unmark.Goals as goal

pub returns-clause-done : goal.returns-clause-done
returns-clause-done g c = runs_make g.S.Store _ _ _ unmark_text IsTabled (λ old new. IsUnmarked new × (value_of new.trees ≡ value_of old.trees)) c.run.ensures.done (unmarks _ _)

pub returns-clause-refused : goal.returns-clause-refused
returns-clause-refused g c = λ clean inside was is.
    let why = c.run.ensures.refused clean inside is in
    unmark_blamed (state g.S.Store c.args.tx.now.conn.now) (state g.S.Store c.run.new.tx.conn.now) was why.0 why.1 why.2
