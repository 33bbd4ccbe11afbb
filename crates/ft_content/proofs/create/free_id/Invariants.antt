-- the least id that none of the tables so far has; those that are left decide
use Rattle.std.proofs.Common.{◌≡◌, ℕ, ◌+◌, ◌≤◌, drop, pos}
use Rattle.ft_content.proofs.Common.{info_ids}
use Rattle.ft_content.proofs.TableLemmas.{free_from}
use Rattle.ft_content.proofs.create.free_id.Given as goal

abbrev pub invariant-loop-table : goal.invariant-loop-table
invariant-loop-table l = (n : ℕ) × (l.id ≡ pos n) × (n ≤ 1 + l.table-index) × (free_from n (info_ids (drop l.table-index l.tables)) ≡ free_from 1 (info_ids l.tables))
