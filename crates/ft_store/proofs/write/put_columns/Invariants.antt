use Rattle.std.proofs.Common.{map, take, length, Ok, string_bytes}
use Rattle.ft_store.proofs.Common.{enumerate_from, with_columns}
use Rattle.ft_store.specs.Changes.{ChangesIfOpen}
use Rattle.ft_store.proofs.write.put_columns.Given as goal

abbrev pub invariant-loop-at : goal.invariant-loop-at
invariant-loop-at g l = ChangesIfOpen g.S.Store l.fn.tx.conn l.tx.conn (Ok tt) (λ v. record v { columns = with_columns l.fn.tab (enumerate_from 0 (map string_bytes (take l.at l.columns))) v.columns }) (length (take l.at l.columns)) (λ _. ⊥)
