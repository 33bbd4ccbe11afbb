-- and then both are closed
use Rattle.ft_program.proofs.start.on_databases.Goals as goal

pub returns-clause-runs : goal.returns-clause-runs
returns-clause-runs g c = record { plain_after = c.run_beside-status.result.1; after = c.run_beside-status.result.2; runs = c.run_beside-status.ensures.runs; tables_left = c.close_one.ensures; texts_left = c.close_store.ensures }
