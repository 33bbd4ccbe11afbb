use Rattle.std.proofs.Common.{map, take, length, Ok}
use Rattle.ft_store.proofs.Common.{name_cmp}
use Rattle.ft_store.specs.Found.{found_note}
use Rattle.ft_store.specs.Groups.{put_each}
use Rattle.ft_store.specs.Puts.{KeepsRestIfOpen}
use Rattle.ft_store.specs.Changes.{ChangesIfOpen}
use Rattle.ft_store.proofs.clear.put_notes.Given as goal

abbrev pub invariant-loop-note : goal.invariant-loop-note
invariant-loop-note g l =
    ChangesIfOpen g.S.Store l.fn.tx.conn l.tx.conn (Ok tt) (λ v. record v { noted = put_each name_cmp (map found_note (take l.note-index l.notes)) v.noted }) (length (take l.note-index l.notes)) (λ _. ⊥)
    × KeepsRestIfOpen {X = Unit {0}} g.S.Store l.fn.tx.conn.now l.tx.conn.now (Ok tt) 11
