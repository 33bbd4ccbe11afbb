-- the bytes so far
use Rattle.std.proofs.Common.{◌≡◌, ◌-◌, ◌^◌, min, map, take, sum_by}
use Rattle.ft_documents.proofs.Common.{shown_value, cell_bytes}
use Rattle.ft_documents.proofs.rewrite.text_bytes.Given as goal

abbrev pub invariant-loop-cell : goal.invariant-loop-cell
invariant-loop-cell l = l.bytes ≡ min (sum_by cell_bytes (map shown_value (take l.cell-index l.cell-items))) (2 ^ 64 - 1)
