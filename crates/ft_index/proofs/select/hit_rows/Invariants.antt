-- the rows so far, and those that were read
use Rattle.std.proofs.Common.{◌≡◌, ◌*◌, cond, map, take, length, IsTrue}
use Rattle.ft_index.proofs.Common.{list_any, HasCleanDisk, shows, more_rows, Content, rows_of, column_of, item_of, HasRows, Looks, cells_at}
use Rattle.ft_index.proofs.Common.{reads_document, hit_cells}
use Rattle.ft_index.proofs.select.hit_rows.Given as goal

abbrev pub invariant-loop-hit : goal.invariant-loop-hit
invariant-loop-hit g l = record {
  looks : Looks g.S.Store l.fn.store l.store;
  live : HasCleanDisk (shows g.S.Store l.store) → IsTrue (shows g.S.Store l.fn.store).is_open → IsTrue (shows g.S.Store l.store).is_open;
  found : (content : Content) → HasRows g.S.Store l.tab l.fn.store l.store content → rows_of l.rows ≡ map (hit_cells (map column_of l.columns) (map item_of l.items) (cells_at content)) (take l.hit-index l.hits);
  counted : (content : Content) → HasRows g.S.Store l.tab l.fn.store l.store content → l.store.rows_read ≡ more_rows (cond (list_any reads_document (map item_of l.items)) (length content.columns) 0 * l.hit-index) l.fn.store;
}
