-- What comes of the rows that are left, with the documents of those so far, is what comes of all.
use Rattle.std.proofs.Common.{◌≡◌, map, zip, drop, IsTrue, int_cmp}
use Rattle.ft_documents.proofs.Common.{is_sorted, Documents, inserted_rows, last_docid, cells_of, column_of, with_new, AreBeside, AreKnown}
use Rattle.ft_documents.proofs.new_documents.made_documents.Given as goal

abbrev pub invariant-loop-place : goal.invariant-loop-place
invariant-loop-place l =
    let names = map (λ n. n.now) l.names in
    (documents : Documents) → IsTrue (is_sorted int_cmp documents) → last_docid documents ≡ l.fn.last → AreKnown documents (map (zip names) (map cells_of l.rows)) l.stored →
    AreBeside documents l.new × (inserted_rows (map column_of l.columns) (map (zip names) (map cells_of (drop l.place l.rows))) (with_new l.new documents) ≡ inserted_rows (map column_of l.columns) (map (zip names) (map cells_of l.rows)) documents)
