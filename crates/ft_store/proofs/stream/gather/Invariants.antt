use Rattle.std.proofs.Common.{◌≡◌}
use Rattle.ft_store.proofs.Common.{bound}
use Rattle.ft_store.specs.Streamed.{Gathering}
use Rattle.ft_store.proofs.stream.gather.Given as goal

abbrev pub invariant-rows : goal.invariant-rows
invariant-rows g l =
    Gathering g.S.Store l.sql (bound l.params) l.fn.conn l.rows.conn.now (λ rows. g.G.Gathered.is_made_of l.into l.whole rows)
    × (l.rows.conn.ghost_name ≡ l.initial.rows.conn.ghost_name)
    × (g.G.Gathered.expects l.into ≡ g.G.Gathered.expects l.fn.into)
