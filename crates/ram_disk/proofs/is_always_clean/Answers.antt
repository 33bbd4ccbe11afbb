use Rattle.std.proofs.Common.{refl}
use Rattle.ram_disk.specs.Clean.{never_lies_is_clean}
use Rattle.ram_disk.proofs.is_always_clean.Goals as goal

pub returns : goal.returns
returns c = never_lies_is_clean (λ _. refl) c.args.conn.now
