use Rattle.std.proofs.Common.{rules}
use Rattle.ft_store.proofs.Common.{state}
use Rattle.ft_store.proofs.BlameLemmas.{not_memory}
use Rattle.ft_store.proofs.ClearLemmas.{blank_runs, blank_blamed}
use Rattle.ft_store.proofs.clear.go_on.Goals as goal

pub returns-clause-done : goal.returns-clause-done
returns-clause-done g c = record {
  steps = λ clean inside store.
      let old = state g.S.Store c.args.tx.now.conn.now in
      let new = state g.S.Store c.execute.new.self.conn.now in
      let ran = c.in_ok-_count.ensures.runs clean inside in
      blank_runs old new c.in_ok-_count._count (store ran.1.was_open).schema ran.0;
  stays = search rules;
}

pub returns-in_err-_count-clause-refused : goal.returns-in_err-_count-clause-refused
returns-in_err-_count-clause-refused g c = λ clean inside store is.
    blank_blamed (state g.S.Store c.args.tx.now.conn.now) (state g.S.Store c.execute.new.self.conn.now) store c.in_err-_count.field-0.0 (not_memory c.in_err-_count.field-0.0 (search rules)) (c.in_err-_count.ensures.runs clean inside)
