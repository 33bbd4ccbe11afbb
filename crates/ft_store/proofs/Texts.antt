-- The texts of the statements, and what they mean.
use Rattle.std.proofs.Common.{ℕ, List, codes, ◌≡◌, ◌+◌, map, true, false, [], ◌∷◌, pos, negsuc, None, refl, flat_map, ℤ, true≢false}
use Rattle.ft_store.proofs.Common.{everything, understood, reads_listing, Null, Int, Insert, Select, Delete, Query, inner, end, Term, lit, col, op2}
use Rattle.ft_store.proofs.Common.{Compare, Eq, Ge, Lt, Binary, NoCase, ascending, Key, Values, IsPlain, command_of, Nothing}
use Rattle.sqlite_sql.specs.declared.ops.CompareOp.{CompareOp}
use Rattle.ft_store.specs.Made.{is_whole}
use Rattle.ft_store.specs.Tables.{store_schema}
use Rattle.ft_store.specs.Anew.{LooksAt}

-- ---- changes

abbrev pub drop_column_text : List ℕ
drop_column_text = codes "DELETE FROM col WHERE tab = ?1 AND col = ?2"

abbrev pub drop_cell_text : List ℕ
drop_cell_text = codes "DELETE FROM cell WHERE tab = ?1 AND docid = ?2 AND col = ?3"

abbrev pub drop_list_text : List ℕ
drop_list_text = codes "DELETE FROM posting WHERE tab = ?1 AND term = ?2 AND docid = ?3"

abbrev pub drop_size_text : List ℕ
drop_size_text = codes "DELETE FROM sizes WHERE tab = ?1 AND docid = ?2 AND col = ?3"

abbrev pub drop_note_text : List ℕ
drop_note_text = codes "DELETE FROM noted WHERE name = ?1"

abbrev pub drop_skip_text : List ℕ
drop_skip_text = codes "DELETE FROM skip WHERE tab = ?1 AND col = ?2"

abbrev pub add_name_text : List ℕ
add_name_text = codes "INSERT INTO tab (id, name) VALUES (?1, ?2)"

abbrev pub add_column_text : List ℕ
add_column_text = codes "INSERT INTO col (tab, col, name) VALUES (?1, ?2, ?3)"

abbrev pub add_cell_text : List ℕ
add_cell_text = codes "INSERT INTO cell (tab, docid, col, num, txt) VALUES (?1, ?2, ?3, ?4, ?5)"

abbrev pub add_list_text : List ℕ
add_list_text = codes "INSERT INTO posting (tab, term, docid, list) VALUES (?1, ?2, ?3, ?4)"

abbrev pub add_lists_text : List ℕ
add_lists_text = codes "INSERT INTO posting (tab, term, docid, list) VALUES (?, ?, ?, ?), (?, ?, ?, ?), (?, ?, ?, ?), (?, ?, ?, ?), (?, ?, ?, ?), (?, ?, ?, ?), (?, ?, ?, ?), (?, ?, ?, ?)"

abbrev pub add_size_text : List ℕ
add_size_text = codes "INSERT INTO sizes (tab, docid, col, n) VALUES (?1, ?2, ?3, ?4)"

abbrev pub add_note_text : List ℕ
add_note_text = codes "INSERT INTO noted (name) VALUES (?1)"

abbrev pub add_skip_text : List ℕ
add_skip_text = codes "INSERT INTO skip (tab, col) VALUES (?1, ?2)"

-- ---- reads

abbrev pub names_text : List ℕ
names_text = codes "SELECT id, name FROM tab ORDER BY id, name COLLATE BINARY"

abbrev pub columns_text : List ℕ
columns_text = codes "SELECT col, name FROM col WHERE tab = ?1 ORDER BY col"

abbrev pub skips_text : List ℕ
skips_text = codes "SELECT col FROM skip WHERE tab = ?1 ORDER BY col"

abbrev pub cells_text : List ℕ
cells_text = codes "SELECT docid, col, num, txt FROM cell WHERE tab = ?1 ORDER BY docid, col"

abbrev pub document_text : List ℕ
document_text = codes "SELECT docid, col, num, txt FROM cell WHERE tab = ?1 AND docid = ?2 ORDER BY col"

abbrev pub docids_text : List ℕ
docids_text = codes "SELECT docid FROM cell WHERE tab = ?1 AND col = 0 ORDER BY docid, col LIMIT ?2 OFFSET ?3"

abbrev pub has_document_text : List ℕ
has_document_text = codes "SELECT docid FROM cell WHERE tab = ?1 AND docid = ?2 ORDER BY docid, col LIMIT 1"

abbrev pub last_text : List ℕ
last_text = codes "SELECT docid, col FROM cell WHERE tab = ?1 ORDER BY tab DESC, docid DESC, col DESC LIMIT 1"

abbrev pub term_text : List ℕ
term_text = codes "SELECT docid, list FROM posting WHERE tab = ?1 AND term = ?2 ORDER BY docid"

abbrev pub prefix_text : List ℕ
prefix_text = codes "SELECT docid, list, term FROM posting WHERE tab = ?1 AND term >= ?2 AND term < ?3 ORDER BY term, docid"

abbrev pub bare_prefix_text : List ℕ
bare_prefix_text = codes "SELECT docid, list FROM posting WHERE tab = ?1 AND term >= ?2 AND term < ?3 ORDER BY term, docid"

abbrev pub lists_text : List ℕ
lists_text = codes "SELECT docid, list, term FROM posting WHERE tab = ?1 ORDER BY term, docid"

abbrev pub sizes_text : List ℕ
sizes_text = codes "SELECT docid, col, n FROM sizes WHERE tab = ?1 ORDER BY docid, col"

abbrev pub noted_text : List ℕ
noted_text = codes "SELECT name FROM noted ORDER BY name, name COLLATE BINARY"

-- ---- the tables

abbrev pub make_skip_text : List ℕ
make_skip_text = codes "CREATE TABLE skip (tab INTEGER NOT NULL, col INTEGER NOT NULL, PRIMARY KEY (tab, col)) STRICT"

-- ---- tables that are made anew

abbrev pub blank_text : List ℕ
blank_text = codes ""

abbrev pub many_lists_text : List ℕ
many_lists_text = codes "SELECT tab FROM posting WHERE tab = ?1 ORDER BY tab, term, docid LIMIT 1 OFFSET 200"

-- ---- what the texts mean

abbrev pub compares : CompareOp → ℕ → ℕ → Term
compares op at param = op2 (Compare op Binary) (col 1 at) (col 0 param)

abbrev pub is_param : ℕ → ℕ → Term
is_param = compares Eq

abbrev pub no_offset : Term
no_offset = lit (Int (pos 0))

-- one table, columns of its rows, in the order of some columns
abbrev pub query_by : ℕ → List Term → List ℕ → List (Term × Key) → Term → Query
query_by tree filter shown order limit = record {
  from = inner tree end;
  filter = filter;
  group = None;
  project = map (col 1) shown;
  distinct = false;
  collations = [];
  order = order;
  limit = limit;
  offset = no_offset;
}

abbrev pub rising : List ℕ → List (Term × Key)
rising = map (λ at. (col 1 at, ascending Binary))

abbrev pub falling : List ℕ → List (Term × Key)
falling = map (λ at. (col 1 at, record { collation = Binary; descending = true }))

abbrev pub no_limit : Term
no_limit = lit (Int (negsuc 0))

abbrev pub table_query : ℕ → List Term → List ℕ → List ℕ → Query
table_query tree filter shown order = query_by tree filter shown (rising order) no_limit

abbrev pub list_shown : List ℕ
list_shown = 3 ∷ 4 ∷ 2 ∷ []

abbrev pub bare_shown : List ℕ
bare_shown = 3 ∷ 4 ∷ []

-- what is left of a list's or a cell's key where the table is given
abbrev pub rest_order : List ℕ
rest_order = 2 ∷ 3 ∷ []

-- what a text means that takes the rows of one table out for which these terms hold
pub record IsDeletion (at tree : ℕ) (terms : List Term) (text : List ℕ) (count : ℕ) : Type 0 where
  pub is : command_of (understood store_schema text) ≡ Delete at (record { lets = []; body = table_query tree terms (0 ∷ []) [] })
  pub plain : IsPlain (understood store_schema text)
  pub whole : is_whole text count (understood store_schema text) ≡ true

-- one that adds rows of these values
pub record IsInsertion (at : ℕ) (terms : List Term) (width : ℕ) (text : List ℕ) (count : ℕ) : Type 0 where
  pub is : command_of (understood store_schema text) ≡ Insert at (Values terms width)
  pub plain : IsPlain (understood store_schema text)
  pub whole : is_whole text count (understood store_schema text) ≡ true

-- one that asks for rows
pub record IsQuestion (query : Query) (names : List (List ℕ)) (text : List ℕ) (count : ℕ) : Type 0 where
  pub is : command_of (understood store_schema text) ≡ Select (record { lets = []; body = query }) names
  pub plain : IsPlain (understood store_schema text)
  pub unlisted : reads_listing store_schema text ≡ false
  pub whole : is_whole text count (understood store_schema text) ≡ true

-- ---- changes

-- the terms of a row whose parameters begin at a place
abbrev list_terms : ℕ → List Term
list_terms from = lit Null ∷ col 0 from ∷ col 0 (from + 1) ∷ col 0 (from + 2) ∷ col 0 (from + 3) ∷ []

abbrev pub add_lists_terms : List Term
add_lists_terms = flat_map list_terms (0 ∷ 4 ∷ 8 ∷ 12 ∷ 16 ∷ 20 ∷ 24 ∷ 28 ∷ [])

abbrev pub add_cell_terms : List Term
add_cell_terms = lit Null ∷ col 0 0 ∷ col 0 1 ∷ col 0 2 ∷ col 0 3 ∷ col 0 4 ∷ []

abbrev pub add_name_terms : List Term
add_name_terms = col 0 0 ∷ lit Null ∷ col 0 1 ∷ []

pub add_name_means : IsInsertion 1 add_name_terms 3 add_name_text 2
unfolding understood everything
add_name_means = record { is = refl; plain = (refl, refl); whole = refl }

pub add_lists_means : IsInsertion 4 add_lists_terms 5 add_lists_text 32
unfolding understood everything
add_lists_means = record { is = refl; plain = (refl, refl); whole = refl }

-- ---- reads

abbrev pub names_query : Query
names_query = table_query 1 [] (0 ∷ 2 ∷ []) (0 ∷ 2 ∷ [])

pub names_means : IsQuestion names_query (codes "id" ∷ codes "name" ∷ []) names_text 0
unfolding understood everything
names_means = record { is = refl; plain = (refl, refl); unlisted = refl; whole = refl }

abbrev pub columns_query : Query
columns_query = table_query 3 (is_param 1 0 ∷ []) (2 ∷ 3 ∷ []) (2 ∷ [])

pub columns_means : IsQuestion columns_query (codes "col" ∷ codes "name" ∷ []) columns_text 1
unfolding understood everything
columns_means = record { is = refl; plain = (refl, refl); unlisted = refl; whole = refl }

abbrev pub skips_query : Query
skips_query = table_query 13 (is_param 1 0 ∷ []) (2 ∷ []) (2 ∷ [])

pub skips_means : IsQuestion skips_query (codes "col" ∷ []) skips_text 1
unfolding understood everything
skips_means = record { is = refl; plain = (refl, refl); unlisted = refl; whole = refl }

abbrev pub cells_query : Query
cells_query = table_query 5 (is_param 1 0 ∷ []) (2 ∷ 3 ∷ 4 ∷ 5 ∷ []) rest_order

pub cells_means : IsQuestion cells_query (codes "docid" ∷ codes "col" ∷ codes "num" ∷ codes "txt" ∷ []) cells_text 1
unfolding understood everything
cells_means = record { is = refl; plain = (refl, refl); unlisted = refl; whole = refl }

abbrev pub document_query : Query
document_query = table_query 5 (is_param 1 0 ∷ is_param 2 1 ∷ []) (2 ∷ 3 ∷ 4 ∷ 5 ∷ []) (3 ∷ [])

pub document_means : IsQuestion document_query (codes "docid" ∷ codes "col" ∷ codes "num" ∷ codes "txt" ∷ []) document_text 2
unfolding understood everything
document_means = record { is = refl; plain = (refl, refl); unlisted = refl; whole = refl }

-- the docids of cells, in the order of their keys
abbrev pub docid_query : List Term → Term → Term → Query
docid_query filter limit offset = record (query_by 5 filter (2 ∷ []) (rising rest_order) limit) { offset = offset }

abbrev pub docids_query : Query
docids_query = docid_query (is_param 1 0 ∷ op2 (Compare Eq Binary) (col 1 3) (lit (Int (pos 0))) ∷ []) (col 0 1) (col 0 2)

pub docids_means : IsQuestion docids_query (codes "docid" ∷ []) docids_text 3
unfolding understood everything
docids_means = record { is = refl; plain = (refl, refl); unlisted = refl; whole = refl }

abbrev pub has_document_query : Query
has_document_query = docid_query (is_param 1 0 ∷ is_param 2 1 ∷ []) (lit (Int (pos 1))) no_offset

pub has_document_means : IsQuestion has_document_query (codes "docid" ∷ []) has_document_text 2
unfolding understood everything
has_document_means = record { is = refl; plain = (refl, refl); unlisted = refl; whole = refl }

abbrev pub last_query : Query
last_query = query_by 5 (is_param 1 0 ∷ []) (2 ∷ 3 ∷ []) (falling (1 ∷ 2 ∷ 3 ∷ [])) (lit (Int (pos 1)))

pub last_means : IsQuestion last_query (codes "docid" ∷ codes "col" ∷ []) last_text 1
unfolding understood everything
last_means = record { is = refl; plain = (refl, refl); unlisted = refl; whole = refl }

abbrev pub term_query : Query
term_query = table_query 7 (is_param 1 0 ∷ is_param 2 1 ∷ []) bare_shown (3 ∷ [])

pub term_means : IsQuestion term_query (codes "docid" ∷ codes "list" ∷ []) term_text 2
unfolding understood everything
term_means = record { is = refl; plain = (refl, refl); unlisted = refl; whole = refl }

abbrev pub prefix_query : Query
prefix_query = table_query 7 (is_param 1 0 ∷ compares Ge 2 1 ∷ compares Lt 2 2 ∷ []) list_shown rest_order

pub prefix_means : IsQuestion prefix_query (codes "docid" ∷ codes "list" ∷ codes "term" ∷ []) prefix_text 3
unfolding understood everything
prefix_means = record { is = refl; plain = (refl, refl); unlisted = refl; whole = refl }

abbrev pub bare_prefix_query : Query
bare_prefix_query = table_query 7 (is_param 1 0 ∷ compares Ge 2 1 ∷ compares Lt 2 2 ∷ []) bare_shown rest_order

pub bare_prefix_means : IsQuestion bare_prefix_query (codes "docid" ∷ codes "list" ∷ []) bare_prefix_text 3
unfolding understood everything
bare_prefix_means = record { is = refl; plain = (refl, refl); unlisted = refl; whole = refl }

abbrev pub lists_query : Query
lists_query = table_query 7 (is_param 1 0 ∷ []) list_shown rest_order

pub lists_means : IsQuestion lists_query (codes "docid" ∷ codes "list" ∷ codes "term" ∷ []) lists_text 1
unfolding understood everything
lists_means = record { is = refl; plain = (refl, refl); unlisted = refl; whole = refl }

abbrev pub sizes_query : Query
sizes_query = table_query 9 (is_param 1 0 ∷ []) (2 ∷ 3 ∷ 4 ∷ []) rest_order

pub sizes_means : IsQuestion sizes_query (codes "docid" ∷ codes "col" ∷ codes "n" ∷ []) sizes_text 1
unfolding understood everything
sizes_means = record { is = refl; plain = (refl, refl); unlisted = refl; whole = refl }

abbrev pub noted_query : Query
noted_query = query_by 11 [] (1 ∷ []) ((col 1 1, ascending NoCase) ∷ rising (1 ∷ [])) no_limit

pub noted_means : IsQuestion noted_query (codes "name" ∷ []) noted_text 0
unfolding understood everything
noted_means = record { is = refl; plain = (refl, refl); unlisted = refl; whole = refl }

-- ---- the queries that look for rows that stand in the way

pub blank_is : command_of (understood store_schema blank_text) ≡ Nothing
unfolding understood everything
blank_is = refl

pub blank_plain : IsPlain (understood store_schema blank_text)
unfolding understood everything
blank_plain = (refl, refl)

pub blank_whole : is_whole blank_text 0 (understood store_schema blank_text) ≡ true
unfolding understood everything
blank_whole = refl

pub many_lists : (n : ℤ) → LooksAt many_lists_text (Int n ∷ []) 7 (is_param 1 0 ∷ []) (lit (Int (pos 1))) (lit (Int (pos 200)))
unfolding understood everything
many_lists n = record { show = 1 ∷ []; order = rising (1 ∷ 2 ∷ 3 ∷ []); names = codes "tab" ∷ []; is = refl; plain = (refl, refl); unlisted = refl; whole = refl; typed = λ db has no. true≢false (rw has at no) }

pub all_notes : LooksAt noted_text [] 11 [] no_limit no_offset
all_notes = record {
  show = 1 ∷ [];
  order = (col 1 1, ascending NoCase) ∷ rising (1 ∷ []);
  names = codes "name" ∷ [];
  is = noted_means.is;
  plain = noted_means.plain;
  unlisted = noted_means.unlisted;
  whole = noted_means.whole;
  typed = λ db has no. true≢false (rw has at no);
}
