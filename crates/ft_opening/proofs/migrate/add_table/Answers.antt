use Rattle.ft_opening.proofs.Common.{state}
use Rattle.ft_store.proofs.{make_skip_text, runs_make}
use Rattle.ft_opening.proofs.MakeLemmas.{add_blamed, adds}
use Rattle.std.proofs.Common.{◌≡◌}
use Rattle.ft_opening.specs.declared.same.Layout.TheVariants.{Older}
use Rattle.ft_opening.specs.Older.{IsStoreBy, older_value}
use Rattle.ft_opening.specs.Marking.{IsTabled}
use Rattle.ft_store.specs.Rows.{value_of}
use Rattle.ft_opening.proofs.migrate.add_table.Goals as goal

pub returns-clause-done : goal.returns-clause-done
returns-clause-done g c = runs_make g.S.Store _ _ _ make_skip_text (IsStoreBy Older) (λ old new. IsTabled new × (value_of new.trees ≡ older_value old.trees)) c.run.ensures.done (adds _ _)

pub returns-clause-refused : goal.returns-clause-refused
returns-clause-refused g c = λ clean inside was is.
    let why = c.run.ensures.refused clean inside is in
    add_blamed (state g.S.Store c.args.tx.now.conn.now) (state g.S.Store c.run.new.tx.conn.now) was why.0 why.1 why.2
