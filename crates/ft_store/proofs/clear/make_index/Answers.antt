use Rattle.std.proofs.Common.{Ok}
use Rattle.ft_store.specs.Anew.{HasFirst, AddsNext, Fills}
use Rattle.ft_store.proofs.AnewLemmas.{makes_then, fills_4, fills_5, fills_6, fills_7}
use Rattle.ft_store.proofs.clear.make_index.Goals as goal

pub returns-clause-done : goal.returns-clause-done
returns-clause-done g c = makes_then g.S.Store c.args.tx.now.conn c.create-3.new.tx.conn c.create-4.new.tx.conn c.create-4.result (HasFirst 4) (HasFirst 7) (Fills 4 7) (AddsNext 7) (makes_then g.S.Store c.args.tx.now.conn c.create-2.new.tx.conn c.create-3.new.tx.conn (Ok tt) (HasFirst 4) (HasFirst 6) (Fills 4 6) (AddsNext 6) (makes_then g.S.Store c.args.tx.now.conn c.create.new.tx.conn c.create-2.new.tx.conn (Ok tt) (HasFirst 4) (HasFirst 5) (AddsNext 4) (AddsNext 5) (c.in_ok-create.ensures.adds) (c.in_ok-create-2.ensures.adds) (λ x y p. p.0) (Fills 4 6) (λ x y z p q. fills_5 x y z (fills_4 x y p) q)) (c.in_ok-create-3.ensures.adds) (λ x y p. p.0) (Fills 4 7) fills_6) (c.create-4.ensures.adds) (λ x y p. p.0) (Fills 4 8) fills_7
