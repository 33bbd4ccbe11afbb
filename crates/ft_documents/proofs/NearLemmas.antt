-- The row changes of rewrites name their documents alone.
use Rattle.std.proofs.Common.{ℕ, List, [], ◌∷◌, ◌++◌, map, Option, Some, None, ℤ, refl, sym, filter, length, All, Contains, unwrap_or, nat_lt, flat_map, Ordering, int_cmp, int_eq}
use Rattle.ft_content.specs.Index.{sizes, index_rows}
use Rattle.ft_documents.proofs.Common.{AllByRecursion, enumerate_from, put, find, recursion_from_All, All-from_recursion, All-nil, All-cons, All-head, All-tail, All-append, All-map, All-filter, All-weaker, All-same, All-contains_itself, PlainToken, Cell, column_key_cmp, Change, PutCell, DropCells, PutEntries, DropEntries, PutSize, DropSize, Column, Documents, Entry, Key, key_cmp, key_of, Spot, SizeRow, size_row, document_tokens, document_postings, entry_at, document_entries, document_sizes, IsOfDocids, Rewrite, befores, afters, document_if, rewritten_docids, with_entries, all_put, sized, same_cell, same_spots, gone, changed, numbered_cells, goes, dropped_documents, put_cells, put_documents, dropped_lists, dropped_sizes, lists_joined_by, index_lists_of, sizes_of, list_changes}
use Rattle.ft_documents.specs.RewriteRows.{rewrite_changes}
use Rattle.ft_documents.proofs.IndexOf.{lists_made}
use Rattle.ft_documents.proofs.KeyedRows.{keys_put}
use Rattle.ft_documents.proofs.RewriteLemmas.{held_in}

pub All-flat_map : {X Y : Type 0} (P : Y → Type 0) (f : X → List Y) (xs : List X) → All (λ x. All P (f x)) xs → All P (flat_map f xs)
All-flat_map P f [] h = All-nil P
All-flat_map P f (x ∷ xs) h = All-append P (f x) (flat_map f xs) (All-head (λ x. All P (f x)) x xs h) (All-flat_map P f xs (All-tail (λ x. All P (f x)) x xs h))

keys_all_put : {K V : Type 0} (R : K → K → Ordering) (Q : K → Type 0) (es rows : List (K × V)) → AllByRecursion (λ (e : K × V). Q e.0) es → AllByRecursion (λ (e : K × V). Q e.0) rows → AllByRecursion (λ (e : K × V). Q e.0) (all_put R es rows)
keys_all_put R Q [] rows h g = g
keys_all_put R Q (e ∷ es) rows h g = keys_all_put R Q es (put R e.0 e.1 rows) h.1 (keys_put R Q e.0 e.1 rows h.0 g)

-- a claim of changes, kind by kind
module _ (P : Change → Type 0) (tab : ℤ) (columns : List Column) (rewrites : List Rewrite) where
  abbrev old_lists : List (Key × List Spot)
  old_lists = index_lists_of columns (befores rewrites)

  abbrev new_lists : List (Key × List Spot)
  new_lists = index_lists_of columns (afters rewrites)

  abbrev old_sizes : List ((ℤ × ℤ) × ℤ)
  old_sizes = sizes_of columns (befores rewrites)

  abbrev new_sizes : List ((ℤ × ℤ) × ℤ)
  new_sizes = sizes_of columns (afters rewrites)

  pub all_changes : All (λ (r : Rewrite). P (DropCells tab r.docid)) (filter goes rewrites) → All (λ (r : Rewrite). All P (put_cells tab r.docid (unwrap_or r.before []) (unwrap_or r.after []))) rewrites
      → All (λ (l : Key × List Spot). P (DropEntries tab l.0.0 l.0.1)) (changed key_cmp same_spots new_lists old_lists) → All (λ (l : Key × List Spot). P (PutEntries tab l.0.0 l.0.1 l.1)) (changed key_cmp same_spots old_lists new_lists)
      → All (λ (s : (ℤ × ℤ) × ℤ). P (DropSize tab s.0.0 s.0.1)) (gone column_key_cmp old_sizes new_sizes) → All (λ (s : (ℤ × ℤ) × ℤ). P (PutSize tab s.0.0 s.0.1 s.1)) (changed column_key_cmp int_eq old_sizes new_sizes) → All P (rewrite_changes tab columns rewrites)
  unfolding rewrite_changes
  all_changes drops puts drop_list put_list drop_size put_size =
      All-append P (dropped_documents tab rewrites) _ (All-map P (λ (r : Rewrite). DropCells tab r.docid) (filter goes rewrites) drops)
      (All-append P (put_documents tab rewrites) _ (All-flat_map P (λ (r : Rewrite). put_cells tab r.docid (unwrap_or r.before []) (unwrap_or r.after [])) rewrites puts)
      (All-append P (list_changes tab old_lists new_lists) _
      (All-append P (dropped_lists tab (changed key_cmp same_spots new_lists old_lists)) _ (All-map P (λ (l : Key × List Spot). DropEntries tab l.0.0 l.0.1) (changed key_cmp same_spots new_lists old_lists) drop_list)
      (All-map P (λ (l : Key × List Spot). PutEntries tab l.0.0 l.0.1 l.1) (changed key_cmp same_spots old_lists new_lists) put_list))
      (All-append P (dropped_sizes tab (gone column_key_cmp old_sizes new_sizes)) _ (All-map P (λ (s : (ℤ × ℤ) × ℤ). DropSize tab s.0.0 s.0.1) (gone column_key_cmp old_sizes new_sizes) drop_size)
      (All-map P (λ (s : (ℤ × ℤ) × ℤ). PutSize tab s.0.0 s.0.1 s.1) (changed column_key_cmp int_eq old_sizes new_sizes) put_size))))

-- rows of documents that pass, for a claim of docids
module _ (D : ℤ → Type 0) where
  abbrev OfDocuments : Documents → Type 0
  OfDocuments documents = All (λ (d : ℤ × List Cell). D d.0) documents

  entries_near : (columns : List Column) (documents : Documents) → OfDocuments documents → All (λ (e : Entry). D e.docid) (flat_map (document_entries columns) documents)
  entries_near columns documents h = All-flat_map (λ (e : Entry). D e.docid) (document_entries columns) documents
      (All-weaker (λ (d : ℤ × List Cell). D d.0) (λ d. All (λ (e : Entry). D e.docid) (document_entries columns d)) (λ d is. All-map (λ (e : Entry). D e.docid) (entry_at d.0) (document_postings columns d.1) (λ _ _ _. is)) documents h)

  joined_near : (es : List Entry) (lists : List (Key × List Spot)) → AllByRecursion (λ (e : Entry). D e.docid) es → AllByRecursion (λ (l : Key × List Spot). D l.0.1) lists → AllByRecursion (λ (l : Key × List Spot). D l.0.1) (with_entries es lists)
  joined_near [] lists h g = g
  joined_near (e ∷ es) lists h g =
      let spots = unwrap_or (find key_cmp (key_of e) lists) [] ++ e.spot ∷ [] in
      joined_near es (put key_cmp (key_of e) spots lists) h.1 (keys_put key_cmp (λ (k : Key). D k.1) (key_of e) spots lists h.0 g)

  pub lists_near : (columns : List Column) (documents : Documents) → OfDocuments documents → All (λ (l : Key × List Spot). D l.0.1) (index_lists_of columns documents)
  lists_near columns documents h =
      let es = flat_map (document_entries columns) documents in
      All-same (λ (l : Key × List Spot). D l.0.1) (index_lists_of columns documents) (lists_joined_by columns documents []) (sym (lists_made columns documents))
      (All-from_recursion _ _ (joined_near es [] (recursion_from_All (λ (e : Entry). D e.docid) es (entries_near columns documents h)) tt))

  document_near : (columns : List Column) (d : ℤ × List Cell) → D d.0 → All (λ (s : SizeRow). D s.docid) (document_sizes columns d)
  document_near columns d is =
      All-map (λ (s : SizeRow). D s.docid) (size_row d.0) (filter (λ (c : ℕ × List PlainToken). nat_lt 0 (length c.1)) (enumerate_from 0 (document_tokens columns d.1))) (λ _ _ _. is)

  pub sizes_near : (columns : List Column) (documents : Documents) → OfDocuments documents → All (λ (s : (ℤ × ℤ) × ℤ). D s.0.0) (sizes_of columns documents)
  unfolding index_rows sizes
  sizes_near columns documents h =
      let ss = flat_map (document_sizes columns) documents in
      let near : All (λ (s : SizeRow). D s.docid) ss = All-flat_map (λ (s : SizeRow). D s.docid) (document_sizes columns) documents (All-weaker (λ (d : ℤ × List Cell). D d.0) (λ d. All (λ (s : SizeRow). D s.docid) (document_sizes columns d)) (document_near columns) documents h) in
      let S : (ℤ × ℤ) × ℤ → Type 0 = λ s. D s.0.0 in
      All-from_recursion S _ (keys_all_put column_key_cmp (λ (k : ℤ × ℤ). D k.0) (sized ss) [] (recursion_from_All S (sized ss) (All-map S (λ (s : SizeRow). ((s.docid, s.column), s.n)) ss near)) tt)

  if_near : (docid : ℤ) (cells : Option (List Cell)) → D docid → OfDocuments (document_if docid cells)
  if_near docid None is = All-nil (λ (d : ℤ × List Cell). D d.0)
  if_near docid (Some cells) is = All-cons (λ (d : ℤ × List Cell). D d.0) (docid, cells) [] is (All-nil (λ (d : ℤ × List Cell). D d.0))

  held_near : (held : Rewrite → Option (List Cell)) (rewrites : List Rewrite) → All (λ (r : Rewrite). D r.docid) rewrites → OfDocuments (held_in held rewrites)
  held_near held rewrites h = All-flat_map (λ (d : ℤ × List Cell). D d.0) (λ (r : Rewrite). document_if r.docid (held r)) rewrites (All-weaker (λ (r : Rewrite). D r.docid) (λ r. OfDocuments (document_if r.docid (held r))) (λ r is. if_near r.docid (held r) is) rewrites h)

-- each change is of one of the documents
pub changes_near : (tab : ℤ) (docids : List ℤ) (columns : List Column) (rewrites : List Rewrite) → All (λ (r : Rewrite). Contains docids r.docid) rewrites → All (IsOfDocids tab docids) (rewrite_changes tab columns rewrites)
changes_near tab docids columns rewrites h =
    let D : ℤ → Type 0 = Contains docids in
    let P : Change → Type 0 = IsOfDocids tab docids in
    let R : Rewrite → Type 0 = λ r. D r.docid in
    let N : Key × List Spot → Type 0 = λ l. D l.0.1 in
    let S : (ℤ × ℤ) × ℤ → Type 0 = λ s. D s.0.0 in
    let old = held_near D (λ (r : Rewrite). r.before) rewrites h in
    let new = held_near D (λ (r : Rewrite). r.after) rewrites h in
    all_changes P tab columns rewrites
    (All-weaker R (λ r. P (DropCells tab r.docid)) (λ r is. (refl, is)) (filter goes rewrites) (All-filter goes R rewrites h))
    (All-weaker R (λ r. All P (put_cells tab r.docid (unwrap_or r.before []) (unwrap_or r.after []))) (λ r is. All-map P (λ (c : ℤ × Cell). PutCell tab r.docid c.0 c.1) (changed int_cmp same_cell (numbered_cells (unwrap_or r.before [])) (numbered_cells (unwrap_or r.after []))) (λ k d _. (refl, is))) rewrites h)
    (All-weaker N (λ l. P (DropEntries tab l.0.0 l.0.1)) (λ l is. (refl, is)) _ (All-filter _ N (index_lists_of columns (befores rewrites)) (lists_near D columns (befores rewrites) old)))
    (All-weaker N (λ l. P (PutEntries tab l.0.0 l.0.1 l.1)) (λ l is. (refl, is)) _ (All-filter _ N (index_lists_of columns (afters rewrites)) (lists_near D columns (afters rewrites) new)))
    (All-weaker S (λ s. P (DropSize tab s.0.0 s.0.1)) (λ s is. (refl, is)) _ (All-filter _ S (sizes_of columns (befores rewrites)) (sizes_near D columns (befores rewrites) old)))
    (All-weaker S (λ s. P (PutSize tab s.0.0 s.0.1 s.1)) (λ s is. (refl, is)) _ (All-filter _ S (sizes_of columns (afters rewrites)) (sizes_near D columns (afters rewrites) new)))

-- the docids of rewrites are those of each
pub contains_own : (rewrites : List Rewrite) → All (λ (r : Rewrite). Contains (rewritten_docids rewrites) r.docid) rewrites
contains_own rewrites = mapped rewrites (All-contains_itself (rewritten_docids rewrites))
  where
    mapped : (rs : List Rewrite) → All (Contains (rewritten_docids rewrites)) (map (λ (r : Rewrite). r.docid) rs) → All (λ (r : Rewrite). Contains (rewritten_docids rewrites) r.docid) rs
    mapped [] h = All-nil (λ (r : Rewrite). Contains (rewritten_docids rewrites) r.docid)
    mapped (r ∷ rs) h = All-cons (λ (r : Rewrite). Contains (rewritten_docids rewrites) r.docid) r rs (All-head (Contains (rewritten_docids rewrites)) r.docid (rewritten_docids rs) h) (mapped rs (All-tail (Contains (rewritten_docids rewrites)) r.docid (rewritten_docids rs) h))

pub near : (tab : ℤ) (columns : List Column) (rewrites : List Rewrite) → All (IsOfDocids tab (rewritten_docids rewrites)) (rewrite_changes tab columns rewrites)
near tab columns rewrites = changes_near tab (rewritten_docids rewrites) columns rewrites (contains_own rewrites)
