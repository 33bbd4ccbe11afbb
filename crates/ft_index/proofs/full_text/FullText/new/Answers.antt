-- by what is told of the tables
use Rattle.std.proofs.Common.{[], map, sym, subst}
use Rattle.ft_index.proofs.Common.{shown_info, StoreHolds}
use Rattle.ft_index.proofs.OpenedTables.{opened_holds, opens}
use Rattle.ft_index.proofs.full_text.FullText.new.Goals as goal

pub invariant_of-result : goal.invariant_of-result
invariant_of-result g c = opened_holds g.S.Store c.args.store c.opened_tables.new.store (map shown_info c.in-Ok.tables.items) c.in-Ok.ensures.asks.only c.in-Ok.ensures.asks.live c.in-Ok.ensures.told c.is_in_order.ensures.names

pub returns-in-Ok-clause-opened : goal.returns-in-Ok-clause-opened
returns-in-Ok-clause-opened g c = opens g.S.Store c.args.store c.opened_tables.new.store (map shown_info c.in-Ok.tables.items) c.in-Ok.ensures.asks.only c.in-Ok.ensures.asks.live c.in-Ok.ensures.told c.is_in_order.ensures.names

pub returns-in-Ok-clause-empty : goal.returns-in-Ok-clause-empty
returns-in-Ok-clause-empty g c = λ empty up.
    (opens g.S.Store c.args.store c.opened_tables.new.store (map shown_info c.in-Ok.tables.items) c.in-Ok.ensures.asks.only c.in-Ok.ensures.asks.live c.in-Ok.ensures.told c.is_in_order.ensures.names).marks up [] (subst (λ v. StoreHolds v []) (sym empty) tt)
