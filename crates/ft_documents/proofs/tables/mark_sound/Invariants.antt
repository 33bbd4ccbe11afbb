-- the tables so far have their marks
use Rattle.std.proofs.Common.{◌≡◌, map}
use Rattle.ft_query.proofs.{swept}
use Rattle.ft_documents.proofs.Common.{shown_info, sound_if}
use Rattle.ft_documents.proofs.tables.mark_sound.Given as goal

abbrev pub invariant-loop-table : goal.invariant-loop-table
invariant-loop-table l = map shown_info l.table-items ≡ swept (sound_if l.id) l.table-index (map shown_info l.fn.tables.items)
