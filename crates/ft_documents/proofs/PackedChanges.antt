-- The row changes of documents put lists that can be packed.
use Rattle.std.proofs.Common.{◌≡◌, ℕ, suc, flat_map, ◌+◌, ◌<◌, ◌≤◌, Bool, true, false, cond, not, List, [], ◌∷◌, map, length, Option, Some, None, ℤ, refl, sym, ap, subst, ◌∙◌, arith, inl, inr, nat_lt, ◌==◌, filter, All, AllPairs, unwrap_or, IfSome, get_or, int_cmp, int_eq}
use Rattle.std.proofs.lemmas.List.Kept.{AllPairs-filter}
use Rattle.sqlite_trees.proofs.ListLemmas.{all_of}
use Rattle.ft_match.proofs.{computed_tokens, postings_rise}
use Rattle.ft_values.specs.declared.rows.RowChange.{RowChange}
use Rattle.ft_rows.specs.Packed.{CanPack}
use Rattle.ft_content.proofs.{lists_are_entries, key_cmp_total, key_cmp_exact, document_rises}
use Rattle.ft_documents.proofs.Common.{list_all, enumerate_from, range_with_len, AllByRecursion, eq_by_cmp, and_parts, and_from, nat_tests, All-nil, All-cons, All-head, All-tail, All-append, All-filter, recursion_from_All, All-from_recursion, All-map, All-weaker, find, is_sorted, PlainToken, tokens_of, Posting, posting, IsBefore, Cell, Null, Int, Text, shown_change, CanApply, PutCell, Column, cell_text, is_cell, has_nul, Documents, is_document, Spot, Entry, entry_at, Key, key_cmp, key_of, indexed_text, cell_tokens, document_tokens, document_postings, document_entries, spots_of_key, some_if_any, IsShortNumber, AreShortNumbers, same_cell, changed, numbered_cells, put_cells, index_lists_of, rewrite_changes, Rewrite, afters, document_if, under_docids, FitIfAny, IsPackable, HaveShortNumbers}
use Rattle.ft_documents.proofs.RowKinds.{one_list, lists_are}
use Rattle.ft_documents.proofs.NearLemmas.{all_changes, All-flat_map}
use Rattle.ft_documents.proofs.KeyedRows.{each_found}
use Rattle.ft_documents.proofs.RewriteLemmas.{sorted_held}
use Rattle.ft_values.specs.declared.rows.RowChange.TheVariants as row
use Rattle.ft_rows.specs.Packed as packing

-- ---- the lists of documents can be packed

abbrev IsLow : PlainToken → Type 0
IsLow t = t.pos ≤ t.start

later_starts : (n : ℕ) (t : PlainToken) (ts : List PlainToken) → n ≤ t.start → AllByRecursion (λ u. t.start + t.size < u.start) ts → AllByRecursion (λ (u : PlainToken). n + 1 ≤ u.start) ts
later_starts n t [] low apart = tt
later_starts n t (u ∷ us) low apart = let behind = apart.0 in (omega arith, later_starts n t us low apart.1)

all_low : (n : ℕ) (ts : List PlainToken) → map (λ (t : PlainToken). t.pos) ts ≡ range_with_len n (length ts) → AllPairs (λ a b. a.start + a.size < b.start) ts → AllByRecursion (λ (t : PlainToken). n ≤ t.start) ts → AllByRecursion IsLow ts
all_low n [] numbered apart low = tt
all_low n (t ∷ ts) numbered apart low =
    let first : t.pos ≡ n = cc in
    let rest : map (λ (u : PlainToken). u.pos) ts ≡ range_with_len (n + 1) (length ts) = cc in
    let here = low.0 in (
      omega (arith, first, here),
      all_low (n + 1) ts rest (λ i j d before inside. apart (suc i) (suc j) d (omega arith) (omega arith))
          (later_starts n t ts here (recursion_from_All (λ u. t.start + t.size < u.start) ts (λ k d inside. apart 0 (suc k) d (omega arith) (omega arith)))),
    )

abbrev IsSmall : PlainToken → Type 0
IsSmall t = (t.pos < 1000000) × (t.start < 1000000) × (0 < t.size) × (t.size ≤ 1000000)

small : (most : ℕ) (ts : List PlainToken) → most ≤ 1000000 → AllByRecursion IsLow ts → All (λ t. 0 < t.size) ts → All (λ t. t.start + t.size ≤ most) ts → AllByRecursion IsSmall ts
small most [] few low filled within = tt
small most (t ∷ ts) few low filled within =
    let a = low.0 in
    let b = All-head (λ (t : PlainToken). 0 < t.size) t ts filled in
    let c = All-head (λ (t : PlainToken). t.start + t.size ≤ most) t ts within in
    ((omega (arith, a, b, c, few), omega (arith, b, c, few), b, omega (arith, c, few)), small most ts few low.1 (All-tail (λ (t : PlainToken). 0 < t.size) t ts filled) (All-tail (λ (t : PlainToken). t.start + t.size ≤ most) t ts within))

small_tokens : (text : List ℕ) → length text ≤ 1000000 → AllByRecursion IsSmall (tokens_of text)
small_tokens text few = let are = computed_tokens text in small (length text) (tokens_of text) few (all_low 0 (tokens_of text) are.positions are.apart (all_of (λ (t : PlainToken). 0 ≤ t.start) (λ _. omega arith) (tokens_of text))) are.filled are.within

-- ---- postings of a document

abbrev IsPlace : Posting → Type 0
IsPlace p = (p.place.column ≤ 99) × (p.place.pos < 1000000) × (p.place.start < 1000000) × (0 < p.place.size) × (p.place.size ≤ 1000000)

column_places : (c : ℕ) (ts : List PlainToken) → c ≤ 99 → AllByRecursion IsSmall ts → All IsPlace (map (posting c) ts)
column_places c ts few are = All-map IsPlace (posting c) ts (All-weaker IsSmall (λ t. IsPlace (posting c t)) (λ t is. (few, is.0, is.1, is.2, is.3)) ts (All-from_recursion IsSmall ts are))

-- indexed texts of at most 1,000,000 bytes, as documents have
abbrev pub AreShortTexts : List Column → List Cell → Type 0
AreShortTexts [] cells = Unit {0}
AreShortTexts (column ∷ columns) [] = Unit {0}
AreShortTexts (column ∷ columns) (cell ∷ cells) = (length (indexed_text column cell) ≤ 1000000) × AreShortTexts columns cells

cell_short : (cell : Cell) → is_cell cell ≡ true → IsShortNumber cell → length (cell_text cell) ≤ 1000000
cell_short Null is number = omega arith
cell_short (Int n) is number = omega (arith, number)
cell_short (Text t) is number = let short = (and_parts (not (nat_lt 1000000 (length t))) (not (has_nul (Text t))) is).0 in grind (arith, nat_tests, short)

text_short : (column : Column) (cell : Cell) → is_cell cell ≡ true → (column.indexed ≡ true → IsShortNumber cell) → length (indexed_text column cell) ≤ 1000000
text_short column cell is number = elim column.indexed as (λ b. column.indexed ≡ b → length (cond b (cell_text cell) []) ≤ 1000000) [ true ↦ λ indexed. cell_short cell is (number indexed) | false ↦ λ _. omega arith ] refl

pub short_texts : (columns : List Column) (cells : List Cell) → list_all is_cell cells ≡ true → AreShortNumbers columns cells → AreShortTexts columns cells
short_texts [] cells is numbers = tt
short_texts (column ∷ columns) [] is numbers = tt
short_texts (column ∷ columns) (cell ∷ cells) is numbers =
    let parts = and_parts (is_cell cell) (list_all is_cell cells) is in
    (text_short column cell parts.0 numbers.0, short_texts columns cells parts.1 numbers.1)

places : (c : ℕ) (columns : List Column) (cells : List Cell) → c + length columns ≤ 100 → AreShortTexts columns cells → All IsPlace (flat_map (λ e. map (posting e.0) e.1) (enumerate_from c (document_tokens columns cells)))
places c [] cells few short = All-nil IsPlace
places c (column ∷ columns) [] few short = All-nil IsPlace
places c (column ∷ columns) (cell ∷ cells) few short =
    let here : c ≤ 99 = omega (arith, few) in
    let more : (c + 1) + length columns ≤ 100 = omega (arith, few) in
    All-append IsPlace (map (posting c) (cell_tokens column cell)) (flat_map (λ e. map (posting e.0) e.1) (enumerate_from (c + 1) (document_tokens columns cells)))
    (column_places c (cell_tokens column cell) here (small_tokens (indexed_text column cell) short.0))
    (places (c + 1) columns cells more short.1)

in_order : (columns : List Column) (cells : List Cell) → AllPairs IsBefore (document_postings columns cells)
in_order columns cells = document_rises postings_rise columns cells

-- ---- spots that can be packed

abbrev pub spot_at : Posting → packing.Spot
spot_at p = record { column = p.place.column; pos = p.place.pos; place = p.place.start; size = p.place.size }

is_place : (p : Posting) → IsPlace p → packing.is_spot (spot_at p) ≡ true
is_place p is = grind (arith, nat_tests, is.0, is.1, is.2, is.3, is.4)

is_behind : (p q : Posting) → IsBefore p q → packing.is_after (spot_at p) (spot_at q) ≡ true
is_behind p q (inl less) = grind (arith, nat_tests, less)
is_behind p q (inr h) = grind (arith, nat_tests, h.0, h.1, h.2)

places_rise : (p : Posting) (ps : List Posting) → All IsPlace ps → AllPairs IsBefore (p ∷ ps) → packing.rise_after (spot_at p) (map spot_at ps) ≡ true
places_rise p [] are rise = refl
places_rise p (q ∷ qs) are rise = grind (arith, is_place q (All-head IsPlace q qs are), is_behind p q (All-head (IsBefore p) q qs (λ k d inside. rise 0 (suc k) d (omega arith) (omega arith))), places_rise q qs (All-tail IsPlace q qs are) (λ i j d before inside. rise (suc i) (suc j) d (omega arith) (omega arith)))

are_places : (p : Posting) (ps : List Posting) → All IsPlace (p ∷ ps) → AllPairs IsBefore (p ∷ ps) → packing.are_spots (map spot_at (p ∷ ps)) ≡ true
are_places p ps are rise = and_from (packing.is_spot (spot_at p)) (packing.rise_after (spot_at p) (map spot_at ps)) (is_place p (All-head IsPlace p ps are)) (places_rise p ps (All-tail IsPlace p ps are) rise)

-- the spots of a key are those of the postings with its term
pub spots_of : (q : Key) (docid : ℤ) (ps : List Posting) → spots_of_key q (map (entry_at docid) ps) ≡ map spot_at (filter (λ (p : Posting). eq_by_cmp key_cmp q (key_of (entry_at docid p))) ps)
spots_of q docid [] = refl
spots_of q docid (p ∷ ps) =
    let entries = filter (λ (e : Entry). eq_by_cmp key_cmp q (key_of e)) (map (entry_at docid) ps) in
    let kept = filter (λ (p : Posting). eq_by_cmp key_cmp q (key_of (entry_at docid p))) ps in
    elim (eq_by_cmp key_cmp q (key_of (entry_at docid p))) as (λ b. map (λ (e : Entry). e.spot) (cond b (entry_at docid p ∷ entries) entries) ≡ map spot_at (cond b (p ∷ kept) kept)) [
      | true ↦ ap (λ ss. spot_at p ∷ ss) (spots_of q docid ps)
      | false ↦ spots_of q docid ps
    ]

some_packed : (ps : List Posting) (spots ss : List Spot) → spots ≡ map spot_at ps → All IsPlace ps → AllPairs IsBefore ps → some_if_any spots ≡ Some ss → packing.CanPack ss
some_packed ps [] ss same are rise is = absurd (let no = is in cc)
some_packed [] (s ∷ spots) ss same are rise is = absurd (let no = same in cc)
some_packed (p ∷ ps) (s ∷ spots) ss same are rise is = subst packing.CanPack (sym same ∙ ap (λ o. unwrap_or o []) is) (are_places p ps are rise)

-- Each list of a document can be packed.
pub list_packed : (columns : List Column) (q : Key) (held : Option (List Cell)) (ss : List Spot) → length columns ≤ 100 → IfSome held (AreShortTexts columns) → one_list columns q held ≡ Some ss → packing.CanPack ss
list_packed columns q None ss few short is = absurd (let no = is in cc)
list_packed columns q (Some cells) ss few short is =
    let ps = document_postings columns cells in
    let test : Posting → Bool = λ p. eq_by_cmp key_cmp q (key_of (entry_at q.1 p)) in
    let none_before : 0 + length columns ≤ 100 = omega (arith, few) in
    some_packed (filter test ps) (spots_of_key q (document_entries columns (q.1, cells))) ss (spots_of q q.1 ps)
    (All-filter test IsPlace ps (places 0 columns cells none_before short)) (AllPairs-filter IsBefore test ps (in_order columns cells))
    (sym (lists_are_entries (document_entries columns (q.1, cells)) q.0 q.1) ∙ is)

-- ---- the row changes of documents put lists that can be packed

module _ (columns : List Column) where
  abbrev pub ShortDocument : ℤ × List Cell → Type 0
  ShortDocument d = AreShortTexts columns d.1

  found_short : (docid : ℤ) (documents : Documents) → All ShortDocument documents → IfSome (find int_cmp docid documents) (AreShortTexts columns)
  found_short docid [] h = tt
  found_short docid (d ∷ ds) h = elim (int_eq docid d.0) as (λ b. IfSome (cond b (Some d.1) (find int_cmp docid ds)) (AreShortTexts columns)) [ true ↦ All-head ShortDocument d ds h | false ↦ found_short docid ds (All-tail ShortDocument d ds h) ]

  pub lists_packed : (documents : Documents) → length columns ≤ 100 → is_sorted int_cmp documents ≡ true → All ShortDocument documents → All (λ (l : Key × List Spot). CanPack l.1) (index_lists_of columns documents)
  lists_packed documents few rising short =
      let rows = index_lists_of columns documents in
      All-weaker (λ (l : Key × List Spot). find key_cmp l.0 rows ≡ Some l.1) (λ (l : Key × List Spot). CanPack l.1)
      (λ l is. list_packed columns l.0 (find int_cmp l.0.1 documents) l.1 few (found_short l.0.1 documents short) (sym ((lists_are columns).found l.0 documents rising) ∙ is)) rows
      (All-from_recursion (λ (l : Key × List Spot). find key_cmp l.0 rows ≡ Some l.1) rows (each_found key_cmp key_cmp_total key_cmp_exact rows ((lists_are columns).sorted documents rising)))

  -- documents of a table have short texts
  pub document_short : (d : ℤ × List Cell) → is_document (length columns) d ≡ true → AreShortNumbers columns d.1 → ShortDocument d
  document_short d is numbers = short_texts columns d.1 (and_parts (length d.1 == length columns) (list_all is_cell d.1) is).1 numbers

  abbrev IsOfTable : ℤ × List Cell → Type 0
  IsOfTable d = is_document (length columns) d ≡ true

  fits_if : (docid : ℤ) (before after : Option (List Cell)) → FitIfAny (length columns) (record { docid = docid; before = before; after = after }) → All IsOfTable (document_if docid after)
  fits_if docid before None fits = All-nil IsOfTable
  fits_if docid before (Some cells) fits = All-cons IsOfTable (docid, cells) [] fits (All-nil IsOfTable)

  afters_short : (rewrites : List Rewrite) → All (FitIfAny (length columns)) rewrites → HaveShortNumbers columns (afters rewrites) → All ShortDocument (afters rewrites)
  afters_short rewrites fits numbers =
      let fit = All-flat_map IsOfTable (λ (r : Rewrite). document_if r.docid r.after) rewrites (All-weaker (FitIfAny (length columns)) (λ r. All IsOfTable (document_if r.docid r.after)) (λ r is. fits_if r.docid r.before r.after is) rewrites fits) in
      All-weaker (λ (d : ℤ × List Cell). IsOfTable d × AreShortNumbers columns d.1) ShortDocument (λ d is. document_short d is.0 is.1) (afters rewrites) (λ k d within. (fit k d within, numbers k d within))

all_packable : (tab : ℤ) (columns : List Column) (rewrites : List Rewrite) → length columns ≤ 100 → is_sorted int_cmp (under_docids rewrites) ≡ true → All (FitIfAny (length columns)) rewrites → HaveShortNumbers columns (afters rewrites) → All IsPackable (rewrite_changes tab columns rewrites)
all_packable tab columns rewrites few rising fits numbers =
    let packed = lists_packed columns (afters rewrites) few (sorted_held (λ (r : Rewrite). r.after) rewrites rising) (afters_short columns rewrites fits numbers) in
    all_changes IsPackable tab columns rewrites (λ _ _ _. tt) (λ k d _. put_packable (get_or rewrites k d)) (λ _ _ _. tt) (All-filter _ (λ (l : Key × List Spot). CanPack l.1) (index_lists_of columns (afters rewrites)) packed) (λ _ _ _. tt) (λ _ _ _. tt)
  where
    put_packable : (r : Rewrite) → All IsPackable (put_cells tab r.docid (unwrap_or r.before []) (unwrap_or r.after []))
    put_packable r = All-map IsPackable (λ (c : ℤ × Cell). PutCell tab r.docid c.0 c.1) (changed int_cmp same_cell (numbered_cells (unwrap_or r.before [])) (numbered_cells (unwrap_or r.after []))) (λ _ _ _. tt)

can_apply : (change : RowChange) → IsPackable (shown_change change) → CanApply change
can_apply (row.PutEntries tab term docid spots) h = h
can_apply _ h = tt

pub all_apply : (changes : List RowChange) → All IsPackable (map shown_change changes) → All CanApply changes
all_apply [] h = All-nil CanApply
all_apply (c ∷ cs) h = All-cons CanApply c cs (can_apply c (All-head IsPackable (shown_change c) (map shown_change cs) h)) (all_apply cs (All-tail IsPackable (shown_change c) (map shown_change cs) h))

pub are_packable : (tab : ℤ) (columns : List Column) (rewrites : List Rewrite) (changes : List RowChange) → map shown_change changes ≡ rewrite_changes tab columns rewrites → length columns ≤ 100 → is_sorted int_cmp (under_docids rewrites) ≡ true → All (FitIfAny (length columns)) rewrites → HaveShortNumbers columns (afters rewrites) → All CanApply changes
are_packable tab columns rewrites changes is few rising fits numbers = all_apply changes (subst (All IsPackable) (sym is) (all_packable tab columns rewrites few rising fits numbers))
