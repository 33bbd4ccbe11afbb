-- the laws of packed lists
use Rattle.ft_rows.proofs.PackedLemmas.{packed_is_read, packed_is_exact, only_packed_is_read}
use Rattle.ft_rows.proofs.packed.packed_lists.Goals as goal

pub returns : goal.returns
returns c = record { read = packed_is_read; exact = packed_is_exact; only = only_packed_is_read }
