-- the rows so far, in a store that was only read
use Rattle.std.proofs.Common.{◌≡◌, map, zip, take, slice_get, IsTrue}
use Rattle.ft_index.proofs.Common.{HasCleanDisk, shows, Content, docids_named, cells_of, HasRows, Looks, has_given}
use Rattle.ft_index.proofs.written.stored_docids.Given as goal

abbrev pub invariant-loop-row : goal.invariant-loop-row
invariant-loop-row g l = record {
  looks : Looks g.S.Store l.fn.store l.store;
  live : HasCleanDisk (shows g.S.Store l.store) → IsTrue (shows g.S.Store l.fn.store).is_open → IsTrue (shows g.S.Store l.store).is_open;
  found : (content : Content) → HasRows g.S.Store l.tab l.fn.store l.store content →
      l.stored.items ≡ map (λ row. has_given content.documents (slice_get (docids_named (zip (map (λ n. n.now) l.names) (cells_of row))) 0)) (take l.row-index l.rows);
}
