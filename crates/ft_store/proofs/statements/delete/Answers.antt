use Rattle.std.proofs.Common.{ℕ, Ok, inl}
use Rattle.ft_store.proofs.Common.{on_ok_weaker, bound, ExecutesInside, state}
use Rattle.ft_store.proofs.statements.delete.Goals as goal

pub returns : goal.returns
returns g c = λ tree f takes.
    let old = c.args.tx.now.conn.now in
    let new = c.run.new.tx.conn.now in
    let ran = c.run.ensures.done.steps in
    record {
      done = record {
        steps = λ clean inside kept. on_ok_weaker c.run.result (λ (ran : (count : ℕ) × ExecutesInside 0 c.args.sql.now (bound c.args.params.now) (state g.S.Store old) (state g.S.Store new) (Ok count)). (takes.done old new ran.0 (kept ran.1.1.was_open) ran.1).0) (ran clean inside);
        stays = c.run.ensures.done.stays;
      };
      grown = λ clean inside kept. on_ok_weaker c.run.result (λ (ran : (count : ℕ) × ExecutesInside 0 c.args.sql.now (bound c.args.params.now) (state g.S.Store old) (state g.S.Store new) (Ok count)). (takes.done old new ran.0 (kept ran.1.1.was_open) ran.1).1) (ran clean inside);
      refused = λ clean inside kept is. inl (takes.refused old new kept (c.run.ensures.refused clean inside is));
    }
