use Rattle.std.proofs.Common.{refl}
use Rattle.ft_rows.specs.Packed.{packed}
use Rattle.ft_rows.proofs.packed.pack.Goals as goal

pub loop-spot-init : goal.loop-spot-init
unfolding packed
loop-spot-init c = rw c.new-bytes.ensures.items refl
