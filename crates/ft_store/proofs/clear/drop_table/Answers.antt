use Rattle.std.proofs.Common.{◌+◌}
use Rattle.ft_store.proofs.Common.{state}
use Rattle.ft_store.proofs.AnewLemmas.{drops, drop_blamed}
use Rattle.ft_store.specs.Anew.{HasFirst, DropsLast}
use Rattle.ft_store.proofs.InsideLemmas.{runs_make}
use Rattle.ft_store.proofs.clear.drop_table.Goals as goal

pub returns-clause-done : goal.returns-clause-done
returns-clause-done g c =
    runs_make g.S.Store _ _ _ c.drop_text.result.now (HasFirst (c.args.at + 1)) (DropsLast c.args.at) c.run.ensures.done (drops _ _ c.args.at c.drop_text.result.now (c.drop_text.ensures c.requires.0 c.requires.1))

pub returns-clause-refused : goal.returns-clause-refused
returns-clause-refused g c = λ clean inside was is.
    let old = state g.S.Store c.args.tx.now.conn.now in
    let new = state g.S.Store c.run.new.tx.conn.now in
    let it = c.drop_text.ensures c.requires.0 c.requires.1 in
    let why = c.run.ensures.refused clean inside is in
    drop_blamed old new c.args.at c.drop_text.result.now it was why.0 why.1 why.2
