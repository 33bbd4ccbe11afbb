use Rattle.std.proofs.Common.{rules}
use Rattle.ft_store.proofs.lists.select_entries.Goals as goal

pub returns-then-branch-clause-given : goal.returns-then-branch-clause-given
returns-then-branch-clause-given g c =
    let it = c.in_ok-gather.ensures.given in
    record {
      rows = λ clean. rw c.if-branch.true at (it.rows clean);
      damaged = search rules;
      stays = search rules;
      read = record { kept = it.read.kept; live = it.read.live; mode = it.read.mode; survives = it.read.survives; fault = search rules };
    }

pub returns-else-branch-clause-given : goal.returns-else-branch-clause-given
returns-else-branch-clause-given g c =
    let it = c.in_ok-gather.ensures.given in
    record {
      rows = search rules;
      damaged = λ clean is. rw c.if-branch.false at (it.rows clean);
      stays = λ clean is. it.read.live clean;
      read = record { kept = it.read.kept; live = search rules; mode = it.read.mode; survives = it.read.survives; fault = search rules };
    }
