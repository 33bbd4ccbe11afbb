-- The lists and sizes of documents that join one after another are those made from scratch.
use Rattle.std.proofs.Common.{◌≡◌, ℕ, zero, suc, ◌+◌, ◌≤◌, true, cond, List, [], ◌∷◌, ◌++◌, map, length, drop, min, ℤ, refl, sym, ap, ◌∙◌, arith, nat_lt, filter, flat_map, false, None, Ordering, subst, All, ◌<◌, ◌^◌, length-append, pos, Less, Equal, Greater}
use Rattle.std.proofs.lemmas.Simd.{map-map}
use Rattle.std.specs.Char.{to_ascii_lowercase}
use Rattle.std.specs.BTreeMap.{insert_entry}
use Rattle.ft_content.specs.Index.{entries, sizes, index_rows}
use Rattle.ft_content.proofs.{lists_are_entries, sorted_lists}
use Rattle.ft_documents.proofs.Common.{enumerate_from, map-append, nat_tests, eq_by_cmp, match_ordering, put, by_order, flat_map-append, All-nil, All-append, PlainToken, Scan, is_eligible, token_of, ended, tokens_from, tokens_of, posting, Cell, column_key_cmp, Column, Documents, cell_text, Entry, entry_at, Key, Spot, size_row, document_tokens, key_cmp, key_of, document_entries, spots_of_key, some_if_any, with_spots, with_entries, entry_spot, all_put, sized, cell_entries, cell_sizes, AreShortNumbers, lists_joined_by, sizes_with, index_lists_of, sizes_of, lists_in, sizes_in, HaveShortNumbers, AddsDocuments, IsIndexOf, IsTextOf}
use Rattle.ft_documents.specs.declared.document_index.DocumentIndex.{DocumentIndex}
use Rattle.ft_documents.proofs.TermOrder.{with_spots-append, spots_under, joined, made_of}
use Rattle.ft_documents.proofs.KeyedRows.{true_of}

-- ---- the entries and sizes of a document, cell by cell

-- entries and sizes of the columns from one on
abbrev pub entries_from : ℤ → ℕ → List (List PlainToken) → List Entry
entries_from docid k columns = map (entry_at docid) (flat_map (λ c. map (posting c.0) c.1) (enumerate_from k columns))

abbrev pub sizes_from : ℤ → ℕ → List (List PlainToken) → List ((ℤ × ℤ) × ℤ)
sizes_from docid k columns = sized (map (size_row docid) (filter (λ (c : ℕ × List PlainToken). nat_lt 0 (length c.1)) (enumerate_from k columns)))

pub with_entries-append : (es fs : List Entry) (lists : List (Key × List Spot)) → with_entries (es ++ fs) lists ≡ with_entries fs (with_entries es lists)
with_entries-append es fs lists = ap (λ xs. with_spots xs lists) (map-append entry_spot es fs) ∙ with_spots-append (map entry_spot es) (map entry_spot fs) lists

entries_first : (docid : ℤ) (k : ℕ) (tokens : List PlainToken) (columns : List (List PlainToken)) → entries_from docid k (tokens ∷ columns) ≡ cell_entries docid k tokens ++ entries_from docid (k + 1) columns
entries_first docid k tokens columns = simp (map-append, map-map)

-- a column more
pub lists_more : (docid : ℤ) (k : ℕ) (tokens : List PlainToken) (columns : List (List PlainToken)) (old new all : List (Key × List Spot)) → new ≡ with_entries (cell_entries docid k tokens) old →
    with_entries (entries_from docid k (tokens ∷ columns)) old ≡ all → with_entries (entries_from docid (k + 1) columns) new ≡ all
lists_more docid k tokens columns old new all grown so_far =
    ap (with_entries (entries_from docid (k + 1) columns)) grown ∙ sym (with_entries-append (cell_entries docid k tokens) (entries_from docid (k + 1) columns) old)
    ∙ ap (λ es. with_entries es old) (sym (entries_first docid k tokens columns)) ∙ so_far

size_more : (docid : ℤ) (k : ℕ) (tokens : List PlainToken) (rest : List (ℕ × List PlainToken)) (old : List ((ℤ × ℤ) × ℤ)) →
    all_put column_key_cmp (sized (map (size_row docid) rest)) (all_put column_key_cmp (sized (cell_sizes docid k (length tokens))) old)
    ≡ all_put column_key_cmp (sized (map (size_row docid) (cond (nat_lt 0 (length tokens)) ((k, tokens) ∷ rest) rest))) old
size_more docid k [] rest old = refl
size_more docid k (t ∷ ts) rest old =
    let yes : nat_lt 0 (length (t ∷ ts)) ≡ true = grind (arith, nat_tests) in
    ap (λ b. all_put column_key_cmp (sized (map (size_row docid) (cond b ((k, t ∷ ts) ∷ rest) rest))) old) (sym yes)

pub sizes_more : (docid : ℤ) (k : ℕ) (tokens : List PlainToken) (columns : List (List PlainToken)) (old new all : List ((ℤ × ℤ) × ℤ)) → new ≡ all_put column_key_cmp (sized (cell_sizes docid k (length tokens))) old →
    all_put column_key_cmp (sizes_from docid k (tokens ∷ columns)) old ≡ all → all_put column_key_cmp (sizes_from docid (k + 1) columns) new ≡ all
sizes_more docid k tokens columns old new all grown so_far =
    ap (all_put column_key_cmp (sizes_from docid (k + 1) columns)) grown
    ∙ size_more docid k tokens (filter (λ (c : ℕ × List PlainToken). nat_lt 0 (length c.1)) (enumerate_from (k + 1) columns)) old ∙ so_far

-- where one list is at its end no column is left
pub none_left : (k : ℕ) (columns : List Column) (cells : List Cell) → min (length columns) (length cells) ≤ k → (document_tokens (drop k columns) (drop k cells) ≡ []) × AreShortNumbers (drop k columns) (drop k cells)
none_left zero [] cells past = (refl, tt)
none_left zero (column ∷ columns) [] past = (refl, tt)
none_left zero (column ∷ columns) (cell ∷ cells) past = absurd (omega arith)
none_left (suc k) [] cells past = (refl, tt)
none_left (suc k) (column ∷ columns) [] past = nothing (drop k columns)
  where
    nothing : (cs : List Column) → (document_tokens cs [] ≡ []) × AreShortNumbers cs []
    nothing [] = (refl, tt)
    nothing (c ∷ cs) = (refl, tt)
none_left (suc k) (column ∷ columns) (cell ∷ cells) past = none_left k columns cells (omega arith)

-- ---- documents that join one after another

all_put-append : {K V : Type 0} (R : K → K → Ordering) (es fs rows : List (K × V)) → all_put R (es ++ fs) rows ≡ all_put R fs (all_put R es rows)
all_put-append R [] fs rows = refl
all_put-append R (e ∷ es) fs rows = all_put-append R es fs (put R e.0 e.1 rows)

pub lists_with-append : (columns : List Column) (xs ys : Documents) (lists : List (Key × List Spot)) → lists_joined_by columns (xs ++ ys) lists ≡ lists_joined_by columns ys (lists_joined_by columns xs lists)
lists_with-append columns xs ys lists = ap (λ es. with_entries es lists) (flat_map-append (document_entries columns) xs ys) ∙ with_entries-append (flat_map (document_entries columns) xs) (flat_map (document_entries columns) ys) lists

pub sizes_with-append : (columns : List Column) (xs ys : Documents) (old : List ((ℤ × ℤ) × ℤ)) → sizes_with columns (xs ++ ys) old ≡ sizes_with columns ys (sizes_with columns xs old)
sizes_with-append columns xs ys old = simp (flat_map-append, map-append, all_put-append)

-- ---- lists

spots_of_entries : (q : Key) (es : List Entry) → spots_under q (map entry_spot es) ≡ spots_of_key q es
spots_of_entries q [] = refl
spots_of_entries q (e ∷ es) =
    let left : List (Key × Spot) = filter (λ (x : Key × Spot). eq_by_cmp key_cmp q x.0) (map entry_spot es) in
    let right : List Entry = filter (λ (x : Entry). eq_by_cmp key_cmp q (key_of x)) es in
    let rest = spots_of_entries q es in
    elim (eq_by_cmp key_cmp q (key_of e)) as (λ b. map (λ (x : Key × Spot). x.1) (cond b (entry_spot e ∷ left) left) ≡ map (λ (x : Entry). x.spot) (cond b (e ∷ right) right)) [ true ↦ ap (λ ss. e.spot ∷ ss) rest | false ↦ rest ]

joined_none : (ss : List Spot) → joined None ss ≡ some_if_any ss
joined_none [] = refl
joined_none (s ∷ ss) = refl

pub lists_made : (columns : List Column) (documents : Documents) → lists_joined_by columns documents [] ≡ index_lists_of columns documents
unfolding index_rows entries
lists_made columns documents =
    let es = flat_map (document_entries columns) documents in
    sym (made_of (index_lists_of columns documents) (map entry_spot es) (true_of _ (sorted_lists es))
    (λ q. lists_are_entries es q.0 q.1 ∙ sym (ap (joined None) (spots_of_entries q es) ∙ joined_none (spots_of_key q es))))

pub sizes_made : (columns : List Column) (documents : Documents) → sizes_with columns documents [] ≡ sizes_of columns documents
unfolding index_rows sizes
sizes_made columns documents = refl

-- ---- the documents of an index, one after another

-- what is left of documents joins an index, so that it is that of all
pub record ToJoin (columns : List Column) (left all : Documents) (index : DocumentIndex) : Type 0 where
  pub lists : lists_joined_by columns left (lists_in index) ≡ lists_joined_by columns all []
  pub sizes : sizes_with columns left (sizes_in index) ≡ sizes_with columns all []
  pub numbers : HaveShortNumbers columns left → HaveShortNumbers columns all

-- some documents more
pub more_joined : (columns : List Column) (some rest left all : Documents) (old new : DocumentIndex) → left ≡ some ++ rest → AddsDocuments columns some old new → ToJoin columns left all old → ToJoin columns rest all new
more_joined columns some rest left all old new is adds so_far =
    let P : ℤ × List Cell → Type 0 = λ d. AreShortNumbers columns d.1 in
    record {
      lists = ap (lists_joined_by columns rest) adds.lists ∙ sym (lists_with-append columns some rest (lists_in old)) ∙ ap (λ ds. lists_joined_by columns ds (lists_in old)) (sym is) ∙ so_far.lists;
      sizes = ap (sizes_with columns rest) adds.sizes ∙ sym (sizes_with-append columns some rest (sizes_in old)) ∙ ap (λ ds. sizes_with columns ds (sizes_in old)) (sym is) ∙ so_far.sizes;
      numbers = λ more. so_far.numbers (subst (All P) (sym is) (All-append P some rest adds.numbers more));
    }

-- none is left
pub all_joined : (columns : List Column) (left all : Documents) (index : DocumentIndex) → left ≡ [] → ToJoin columns left all index → IsIndexOf columns all index
all_joined columns left all index none so_far =
    let P : ℤ × List Cell → Type 0 = λ d. AreShortNumbers columns d.1 in
    record {
      lists = ap (λ ds. lists_joined_by columns ds (lists_in index)) (sym none) ∙ so_far.lists ∙ lists_made columns all;
      sizes = ap (λ ds. sizes_with columns ds (sizes_in index)) (sym none) ∙ so_far.sizes ∙ sizes_made columns all;
      numbers = so_far.numbers (subst (All P) (sym none) (All-nil P));
    }

-- ---- the tokens of a cell, one after another

few_ended : (count start : ℕ) (run : List ℕ) → length (token_of count start run) ≤ length run
few_ended count start [] = omega arith
few_ended count start (b ∷ bs) = omega arith

few_from : (s : Scan) (text : List ℕ) → length (tokens_from s text) ≤ length s.run + length text
few_from s [] = omega (arith, few_ended s.count s.start s.run)
few_from s (b ∷ bs) =
    let longer = record s { run = s.run ++ to_ascii_lowercase b ∷ [] } in
    let next : Scan = record { count = s.count + length (ended s); start = s.start + length s.run + 1; run = [] } in
    elim (is_eligible b) as (λ e. length (cond e [] (ended s) ++ tokens_from (cond e longer next) bs) ≤ length s.run + length (b ∷ bs)) [
      | true ↦ omega (arith, few_from longer bs, length-append s.run (to_ascii_lowercase b ∷ []))
      | false ↦ omega (arith, few_from next bs, few_ended s.count s.start s.run, length-append (ended s) (tokens_from next bs))
    ]

-- a text has at most as many tokens as bytes
few_in : (text : List ℕ) → length (tokens_of text) ≤ length text
few_in text = omega (arith, few_from (record { count = 0; start = 0; run = [] }) text)

pub few_tokens : {cell : Cell} {bytes : List ℕ} → IsTextOf cell bytes → length (tokens_of (cell_text cell)) < 2 ^ 63
few_tokens {cell} {bytes} is = subst (λ text. length (tokens_of text) < 2 ^ 63) is.text (omega (arith, few_in bytes, is.short))

pub insert_put : {K V : Type 0} (R : K → K → Ordering) (k : K) (v : V) (es : List (K × V)) → insert_entry R es k v ≡ put R k v es
insert_put R k v [] = refl
insert_put R k v (e ∷ es) = elim (R k e.0) as (λ o. match_ordering o ((k, v) ∷ e ∷ es) ((e.0, v) ∷ es) (e ∷ insert_entry R es k v) ≡ by_order o ((k, v) ∷ e ∷ es) ((e.0, v) ∷ es) (e ∷ put R k v es)) [
  | Less ↦ refl
  | Equal ↦ refl
  | Greater ↦ ap (λ xs. e ∷ xs) (insert_put R k v es)
]

-- the size of a cell that has tokens, and of one that has none
pub size_some : (docid : ℤ) (place n : ℕ) (old new : List ((ℤ × ℤ) × ℤ)) → 0 < n → new ≡ put column_key_cmp (docid, pos place) (pos n) old → new ≡ all_put column_key_cmp (sized (cell_sizes docid place n)) old
size_some docid place zero old new some is = absurd (omega arith)
size_some docid place (suc n) old new some is = is
