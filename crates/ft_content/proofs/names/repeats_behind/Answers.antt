-- one name more
use Rattle.ft_content.proofs.Common.{take_rest}
use Rattle.ft_content.proofs.NameLemmas.{repeats_here, repeats_later}
use Rattle.ft_content.proofs.names.repeats_behind.Goals as goal

pub returns-then-has_name : goal.returns-then-has_name
returns-then-has_name g c =
    repeats_here g.T.Named.name_of c.args.named.now c.loop-k.k c.index-named-k.result c.name.result.now c.has_name.result _ c.loop-k-test.true c.index-named-k.is c.name.ensures
    (rw take_rest at c.has_name.ensures) c.loop-k.invariant c.if-has_name.true

pub loop-k-preserved : goal.loop-k-preserved
loop-k-preserved g c =
    repeats_later g.T.Named.name_of c.args.named.now c.loop-k.k c.index-named-k.result c.name.result.now c.has_name.result _ c.loop-k-test.true c.index-named-k.is c.name.ensures
    (rw take_rest at c.has_name.ensures) c.loop-k.invariant c.if-has_name.false
