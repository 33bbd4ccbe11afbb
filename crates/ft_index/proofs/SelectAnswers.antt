-- The rows of a Select as they are read, what it deserves, and what it is answered.
use Rattle.std.proofs.Common.{◌≡◌, ℕ, ◌+◌, ◌-◌, ◌*◌, ◌^◌, ◌<◌, Bool, true, false, cond, not, ◌&&◌, ◌||◌, ◌==◌, List, [], ◌∷◌, ◌++◌, map, length, take, drop, min, Option, Some, None, ℤ, refl, sym, ap, ◌∙◌, arith, eqb-true, suc, option_map, vec_len, Vec, Global, pos, slice_get, SomeIff, is_some, flat_map, int_cmp, int_eq, option_and_then, length-take, length-append, Bor, ◌⊎◌, inl, inr, Ok, Err, subst, option_copied}
use Rattle.ft_index.proofs.Common.{unwrap_or, list_any, list_all, enumerate_from, find, where_key, and_parts, take_all, length-map, Hit, Tree}
use Rattle.ft_index.proofs.Common.{PlainHit, plain_hit, offsets_text, Cell, Text, shown_value, Column, Content, Documents, IsContent, is_docid}
use Rattle.ft_index.proofs.Common.{CellRow, TableRows, document_rows, content_rows, Filter, Docid, Match, Item, AllColumns, Named, OffsetsOf, Listed}
use Rattle.ft_index.proofs.Common.{Counted, cells_with, item_rows, column_place, cut, query_in, chosen, is_match, is_offsets, Document}
use Rattle.ft_index.proofs.Common.{shown_document, cells_at, document_at, hit_read, chosen_hits, as_wanted, reads_document, entries_asked, rows_asked}
use Rattle.ft_index.proofs.Common.{count_asked, hit_cells, map-map, Value, CellKey, StoreValue, cell_key_cmp, cells_of, document_if, table_rows}
use Rattle.ft_index.proofs.Common.{Ghosts, AreInOrder, StoreState, value_in, more_rows, Fault, names_of, same_name, Items}
use Rattle.ft_index.proofs.Common.{Command, Select, Rows, reading, answer_names, answer, TableState, Sound, Table, Contents, table_named, first_of}
use Rattle.ft_index.proofs.Common.{option_or, has_column, items_in, query_fault, deserved, after, reply_to, step, step_by, TableInfo, bare_content}
use Rattle.ft_index.proofs.Common.{column_of, info_named, IsUnfit, IsSoundNamed, FullText, IsUp, AreHeld, Executes, PlansFrom, is_outside}
use Rattle.ft_index.proofs.Common.{held_content, with_tables, Looks, ReadsFilterAs, IsAsked, CountsHeld, CountsFound, CountsRows, CountsCommand}
use Rattle.std.specs.Option.{option_map_or}
use Rattle.std.proofs.Math.Nat.{mul-add}
use Rattle.std.proofs.lemmas.List.{drop-take}
use Rattle.ft_values.specs.Cells.{Null, Int}
use Rattle.ft_content.specs.Content.{is_cell, is_document}
use Rattle.ft_commands.specs.Command.{All, Grid}
use Rattle.ft_content.specs.Answer.{named_cell, item_cells, offsets_cell, item_headers}
use Rattle.ft_content.proofs.{item_cells_are, cut_of_map}
use Rattle.ft_calls.specs.RowsRead.{docids_asked}
use Rattle.ft_documents.proofs.{chosen_again, chosen_all, chosen_one}
use Rattle.std.proofs.lemmas.List.FromFn.{length-enumerate_from}
use Rattle.ft_rows.specs.Shown.{shown_cell}
use Rattle.ft_values.specs.declared.rows.CellRow as row
use Rattle.ft_store.specs.Docids.{cut_to}
use Rattle.ft_values.specs.declared.fault.Fault.TheVariants as faults
use Rattle.ft_content.specs.Step.{item_unknown, names_unknown, reading_fault, select_fault}
use Rattle.ft_content.specs.Step.{answer_of_found}
use Rattle.ft_values.specs.declared.table.Column as source
use Rattle.ft_match.specs.Reads.{query_of}
use Rattle.ft_index.proofs.Doing.{executes_read, rows_in, index_in}
use Rattle.ft_index.proofs.TablePlans.{plans_nothing}
use Rattle.ft_index.proofs.OneTable.{IsSoundTable, sound_table, sound_is, unfit_is, sound_rows}
use Rattle.ft_content.specs.Laws.{content_with}

pub any_of_map : {X Y : Type 0} (p : Y → Bool) (h : X → Y) (xs : List X) → list_any p (map h xs) ≡ list_any (λ x. p (h x)) xs
any_of_map p h [] = refl
any_of_map p h (x ∷ xs) = ap (λ b. p (h x) || b) (any_of_map p h xs)

-- ---- enough hits

take_less : {A : Type 0} (l : ℕ) (xs : List A) → take l (take l xs) ≡ take l xs
take_less l xs = let n = length-take l xs in take_all l (take l xs) (omega (arith, n))

pub enough_taken : {A : Type 0} (l offset : ℕ) (most : Option ℕ) (xs : List A) → SomeIff most (offset + l < 2 ^ 64) (offset + l) → cut (Some l) offset (cut most 0 xs) ≡ cut (Some l) offset xs
enough_taken l offset None xs h = refl
enough_taken l offset (Some m) xs h = ap (λ k. take l (drop offset (take k xs))) h.1 ∙ ap (take l) (drop-take offset l xs) ∙ take_less l (drop offset xs)

-- ---- cells of items

-- only the columns of a content matter
pub cells_bare : (offsets : Cell) (columns : List Column) (content : Content) (document : ℤ × List Cell) (items : List Item) → content.columns ≡ columns →
    flat_map (cells_with offsets (record { columns = columns; documents = [] }) document) items ≡ flat_map (cells_with offsets content document) items
cells_bare offsets columns content document [] same = refl
cells_bare offsets columns content document (AllColumns ∷ items) same = ap (λ cells. document.1 ++ cells) (cells_bare offsets columns content document items same)
cells_bare offsets columns content document (Named name ∷ items) same =
    λ i. cells_with offsets (record { columns = sym same i; documents = [] }) document (Named name) ++ cells_bare offsets columns content document items same i
cells_bare offsets columns content document (OffsetsOf name ∷ items) same = ap (λ cells. offsets ∷ cells) (cells_bare offsets columns content document items same)

-- without offsets their text doesn't matter
pub offsets_unasked : (one other : Cell) (content : Content) (document : ℤ × List Cell) (items : List Item) → list_any is_offsets items ≡ false →
    flat_map (cells_with one content document) items ≡ flat_map (cells_with other content document) items
offsets_unasked one other content document [] none = refl
offsets_unasked one other content document (AllColumns ∷ items) none = ap (λ cells. document.1 ++ cells) (offsets_unasked one other content document items none)
offsets_unasked one other content document (Named name ∷ items) none = ap (λ cells. named_cell content document name ∷ cells) (offsets_unasked one other content document items none)
offsets_unasked one other content document (OffsetsOf name ∷ items) none = absurd (let no = none in cc)

pub offsets_if_asked : (text right : List ℕ) (content : Content) (document : ℤ × List Cell) (items : List Item) → (list_any is_offsets items ≡ true → text ≡ right) →
    flat_map (cells_with (Text text) content document) items ≡ flat_map (cells_with (Text right) content document) items
offsets_if_asked text right content document items asked = go (list_any is_offsets items) refl
  where
    go : (b : Bool) → list_any is_offsets items ≡ b → flat_map (cells_with (Text text) content document) items ≡ flat_map (cells_with (Text right) content document) items
    go true is = ap (λ t. flat_map (cells_with (Text t) content document) items) (asked is)
    go false isnt = offsets_unasked (Text text) (Text right) content document items isnt

-- without columns the cells of the document don't matter
cells_unread : (offsets : Cell) (content : Content) (docid : ℤ) (one other : List Cell) (items : List Item) → list_any reads_document items ≡ false →
    flat_map (cells_with offsets content (docid, one)) items ≡ flat_map (cells_with offsets content (docid, other)) items
cells_unread offsets content docid one other [] none = refl
cells_unread offsets content docid one other (AllColumns ∷ items) none = absurd (let no = none in cc)
cells_unread offsets content docid one other (Named name ∷ items) none = go (is_docid name) refl none (cells_unread offsets content docid one other items)
  where
    go : (b : Bool) → is_docid name ≡ b → (not b || list_any reads_document items) ≡ false →
        (list_any reads_document items ≡ false → flat_map (cells_with offsets content (docid, one)) items ≡ flat_map (cells_with offsets content (docid, other)) items) →
        flat_map (cells_with offsets content (docid, one)) (Named name ∷ items) ≡ flat_map (cells_with offsets content (docid, other)) (Named name ∷ items)
    go true is none rest =
        let cell : List Cell → Cell = λ cells. unwrap_or (option_and_then (slice_get cells) (column_place content name)) Null in
        λ i. (ap (λ b. cond b (Int docid) (cell one)) is ∙ sym (ap (λ b. cond b (Int docid) (cell other)) is)) i ∷ rest none i
    go false is none rest = absurd (let no = none in cc)
cells_unread offsets content docid one other (OffsetsOf name ∷ items) none = ap (λ cells. offsets ∷ cells) (cells_unread offsets content docid one other items none)

-- ---- rows of hits

-- no cell is needed where no item is a column
pub row_unread : (columns : List Column) (items : List Item) (content : Content) (cells : List Cell) (hit : Hit) → list_any reads_document items ≡ false → hit_cells columns items (λ docid. cells) hit ≡ hit_cells columns items (cells_at content) hit
row_unread columns items content cells h none = cells_unread (Text (offsets_text h.offsets.items)) (record { columns = columns; documents = [] }) h.docid cells (cells_at content h.docid) items none

same_each : {D X : Type 0} (again : D → D) (F : D → D → X) (ds : List D) → map again ds ≡ ds → map (λ d. F d (again d)) ds ≡ map (λ d. F d d) ds
same_each again F [] h = refl
same_each {D} again F (d ∷ ds) h =
    let one : again d ≡ d = cc in
    let more : map again ds ≡ ds = cc in
    λ i. F d (one i) ∷ same_each again F ds more i

-- the row of a hit whose document has these cells
abbrev row_with : Content → List Item → (ℤ → List Cell) → PlainHit → List Cell
row_with content items cells h = flat_map (cells_with (Text (offsets_text h.offsets)) content (h.docid, cells h.docid)) items

plain_rows : (columns : List Column) (content : Content) (items : List Item) (cells : ℤ → List Cell) (hits : List Hit) → content.columns ≡ columns → map (hit_cells columns items cells) hits ≡ map (row_with content items cells) (map plain_hit hits)
plain_rows columns content items cells hits same =
    (λ i. map (λ (h : Hit). cells_bare (Text (offsets_text h.offsets.items)) columns content (h.docid, cells h.docid) items same i) hits) ∙ sym (map-map (row_with content items cells) plain_hit hits)

-- The rows of the documents that hits are of, which are told with their offsets where an item asks
-- for them.
module _ (name : List ℕ) (content : Content) (f : Filter) (columns : List Column) (items : List Item) (limit : Option ℕ) (offset : ℕ) (is : IsContent name content) (same : content.columns ≡ columns) (wanted : Bool) (asks : wanted ≡ list_any is_offsets items) where
  abbrev own_query : Option Tree
  own_query = query_in content f

  abbrev answered_here : Documents
  answered_here = cut limit offset (chosen content f)

  again : map (λ (d : ℤ × List Cell). document_at content d.0) answered_here ≡ answered_here
  again = sym (cut_of_map (λ (d : ℤ × List Cell). document_at content d.0) limit offset (chosen content f)) ∙ ap (cut limit offset) (chosen_again name content f is)

  abbrev row_of : ℤ × List Cell → ℤ × List Cell → List Cell
  row_of d e = flat_map (cells_with (offsets_cell own_query content d) content e) items

  as_told : (cells : ℤ → List Cell) (hits : List PlainHit) → map (row_with content items cells) (map (as_wanted wanted) hits) ≡ map (row_with content items cells) hits
  as_told cells hits =
      map-map (row_with content items cells) (as_wanted wanted) hits
      ∙ (λ i. map (λ (h : PlainHit). offsets_if_asked (offsets_text (cond wanted h.offsets [])) (offsets_text h.offsets) content (h.docid, cells h.docid) items (λ asked. ap (λ b. offsets_text (cond b h.offsets [])) (asks ∙ asked)) i) hits)

  -- the hits that are answered, before they are told
  answered_hits : cut limit offset (map (as_wanted wanted) (chosen_hits content f)) ≡ map (as_wanted wanted) (map (hit_read content own_query) answered_here)
  answered_hits = cut_of_map (as_wanted wanted) limit offset (chosen_hits content f) ∙ ap (map (as_wanted wanted)) (cut_of_map (hit_read content own_query) limit offset (chosen content f))

  pub hit_rows : (hits : List Hit) → map plain_hit hits ≡ cut limit offset (map (as_wanted wanted) (chosen_hits content f)) → map (hit_cells columns items (cells_at content)) hits ≡ cut limit offset (item_rows own_query content items (chosen content f))
  hit_rows hits are =
      plain_rows columns content items (cells_at content) hits same
      ∙ ap (map (row_with content items (cells_at content))) (are ∙ answered_hits)
      ∙ as_told (cells_at content) (map (hit_read content own_query) answered_here)
      ∙ map-map (row_with content items (cells_at content)) (hit_read content own_query) answered_here ∙ same_each (λ (d : ℤ × List Cell). document_at content d.0) row_of answered_here again
      ∙ (λ i. map (λ (d : ℤ × List Cell). sym (item_cells_are own_query content d items) i) answered_here)
      ∙ sym (cut_of_map (λ (d : ℤ × List Cell). flat_map (item_cells own_query content d) items) limit offset (chosen content f))

  pub as_many : (hits : List Hit) → map plain_hit hits ≡ cut limit offset (map (as_wanted wanted) (chosen_hits content f)) → length hits ≡ length answered_here
  as_many hits are = sym (length-map hits plain_hit) ∙ ap length (are ∙ answered_hits) ∙ length-map (map (hit_read content own_query) answered_here) (as_wanted wanted) ∙ length-map answered_here (hit_read content own_query)

-- ---- as many cells as columns

find_wide : (width : ℕ) (docid : ℤ) (cells : List Cell) (ds : Documents) → list_all (is_document width) ds ≡ true → find int_cmp docid ds ≡ Some cells → length cells ≡ width
find_wide width docid cells [] wide found = absurd (let no = found in cc)
find_wide width docid cells (d ∷ ds) wide found =
    let parts = and_parts (is_document width d) (list_all (is_document width) ds) wide in
    let here = eqb-true (length d.1) width (and_parts (length d.1 == width) (list_all is_cell d.1) parts.0).0 in
    go (int_eq docid d.0) found here (find_wide width docid cells ds parts.1)
  where
    go : (b : Bool) → cond b (Some d.1) (find int_cmp docid ds) ≡ Some cells → length d.1 ≡ width → (find int_cmp docid ds ≡ Some cells → length cells ≡ width) → length cells ≡ width
    go true is here rest = ap (λ o. length (unwrap_or o d.1)) (sym is) ∙ here
    go false is here rest = rest is

pub found_wide : (name : List ℕ) (content : Content) (docid : ℤ) (cells : List Cell) → IsContent name content → find int_cmp docid content.documents ≡ Some cells → length cells ≡ length content.columns
found_wide name content docid cells is found = find_wide (length content.columns) docid cells content.documents is.documents found

-- rows that are counted one document after another
pub counted_more : (rows middle last width k n : ℕ) → n ≡ width → middle ≡ min (rows + width * k) (2 ^ 64 - 1) → last ≡ min (middle + n) (2 ^ 64 - 1) → last ≡ min (rows + width * (k + 1)) (2 ^ 64 - 1)
counted_more rows middle last width k n same before here = added rows middle last (width * k) width (width * (k + 1)) n same before here (mul-add width k 1 ∙ ap (λ w. width * k + w) (mul-one width))
  where
    mul-one : (w : ℕ) → w * 1 ≡ w
    mul-one w = grind arith

    added : (rows middle last m w all n : ℕ) → n ≡ w → middle ≡ min (rows + m) (2 ^ 64 - 1) → last ≡ min (middle + n) (2 ^ 64 - 1) → all ≡ m + w → last ≡ min (rows + all) (2 ^ 64 - 1)
    added rows middle last m w all n same before here more = omega arith

-- two counts one after another
pub counted_both : (rows middle last m n : ℕ) → middle ≡ min (rows + m) (2 ^ 64 - 1) → last ≡ min (middle + n) (2 ^ 64 - 1) → last ≡ min (rows + (m + n)) (2 ^ 64 - 1)
counted_both rows middle last m n before here = omega arith

-- ---- the rows that are asked for

-- the hits that are answered, of those that a walk found
pub hits_answered : (limit most : Option ℕ) (offset : ℕ) (hits answered : List Hit) (all : List PlainHit) → answered ≡ cut limit offset hits → map plain_hit hits ≡ cut most 0 all → cut limit offset (cut most 0 all) ≡ cut limit offset all → map plain_hit answered ≡ cut limit offset all
hits_answered limit most offset hits answered all is found enough = ap (map plain_hit) is ∙ sym (cut_of_map plain_hit limit offset hits) ∙ ap (cut limit offset) found ∙ enough

-- of the documents that are answered each is read where an item is a column
pub asked_items : (content : Content) (items : List Item) (name text : List ℕ) (limit : Option ℕ) (offset : ℕ) (n : ℕ) → n ≡ length (cut limit offset (chosen content (Match name text))) →
    entries_asked content (query_in content (Match name text)) + cond (list_any reads_document items) (length content.columns) 0 * n ≡ rows_asked content (Listed items) (Match name text) limit offset
unfolding rows_asked
asked_items content items name text limit offset n many = go (list_any reads_document items)
  where
    entries : ℕ
    entries = entries_asked content (query_in content (Match name text))

    go : (b : Bool) → entries + cond b (length content.columns) 0 * n ≡ entries + cond b (length content.columns * length (cut limit offset (chosen content (Match name text)))) 0
    go true = ap (λ m. entries + length content.columns * m) many
    go false = grind arith

-- ---- rows of documents

-- without MATCH no offsets may be asked for
pub no_offsets : (f : Filter) (items : List Item) → is_match f ≡ false → (list_any is_offsets items && not (is_match f)) ≡ false → list_any is_offsets items ≡ false
no_offsets f items plainly asked = go (list_any is_offsets items) (ap (λ b. list_any is_offsets items && not b) (sym plainly) ∙ asked)
  where
    go : (b : Bool) → (b && true) ≡ false → b ≡ false
    go true h = absurd (let no = h in cc)
    go false h = refl

pub no_query : (content : Content) (f : Filter) → is_match f ≡ false → query_in content f ≡ None
no_query content (Match name text) h = absurd (let no = h in cc)
no_query content _ h = refl

item_cells_bare : (columns : List Column) (content : Content) (document : ℤ × List Cell) (items : List Item) → content.columns ≡ columns →
    flat_map (item_cells None (record { columns = columns; documents = [] }) document) items ≡ flat_map (item_cells None content document) items
item_cells_bare columns content document items same =
    item_cells_are None (record { columns = columns; documents = [] }) document items ∙ cells_bare (Text (offsets_text [])) columns content document items same ∙ sym (item_cells_are None content document items)

rows_bare : (columns : List Column) (content : Content) (items : List Item) (ds : Documents) → content.columns ≡ columns → item_rows None (record { columns = columns; documents = [] }) items ds ≡ item_rows None content items ds
rows_bare columns content items ds same = λ i. map (λ (d : ℤ × List Cell). item_cells_bare columns content d items same i) ds

pub document_rows_are : (content : Content) (f : Filter) (columns : List Column) (items : List Item) (limit : Option ℕ) (offset : ℕ) → is_match f ≡ false → content.columns ≡ columns → (documents answered : List Document) → map shown_document documents ≡ chosen content f → answered ≡ cut limit offset documents →
    item_rows None (record { columns = columns; documents = [] }) items (map shown_document answered) ≡ cut limit offset (item_rows (query_in content f) content items (chosen content f))
document_rows_are content f columns items limit offset plainly same documents answered found is =
    ap (item_rows None (record { columns = columns; documents = [] }) items) (ap (map shown_document) is ∙ sym (cut_of_map shown_document limit offset documents) ∙ ap (cut limit offset) found)
    ∙ rows_bare columns content items (cut limit offset (chosen content f)) same
    ∙ sym (cut_of_map (λ (d : ℤ × List Cell). flat_map (item_cells None content d) items) limit offset (chosen content f))
    ∙ ap (λ q. cut limit offset (item_rows q content items (chosen content f))) (sym (no_query content f plainly))

-- the rows of all documents, of which these are answered
pub listed_rows_are : (content : Content) (columns : List Column) (items : List Item) (limit : Option ℕ) (offset : ℕ) → content.columns ≡ columns → (ds : Documents) → ds ≡ cut limit offset (chosen content All) →
    item_rows None (record { columns = columns; documents = [] }) items ds ≡ cut limit offset (item_rows (query_in content All) content items (chosen content All))
listed_rows_are content columns items limit offset same ds is =
    ap (item_rows None (record { columns = columns; documents = [] }) items) is
    ∙ rows_bare columns content items (cut limit offset (chosen content All)) same
    ∙ sym (cut_of_map (λ (d : ℤ × List Cell). flat_map (item_cells None content d) items) limit offset (chosen content All))

-- the rows of hits without offsets
pub bare_hit_rows : (columns : List Column) (content : Content) (items : List Item) (hits : List Hit) (docids : List ℤ) → map plain_hit hits ≡ map (λ (k : ℤ). record { docid = k; offsets = [] }) docids →
    map (hit_cells columns items (cells_at content)) hits ≡ item_rows None (record { columns = columns; documents = [] }) items (map (document_at content) docids)
bare_hit_rows columns content items hits docids are =
    let none : Content = record { columns = columns; documents = [] } in
    let row = row_with none items (cells_at content) in
    let bare : ℤ → PlainHit = λ k. record { docid = k; offsets = [] } in
    plain_rows columns none items (cells_at content) hits refl ∙ ap (map row) are ∙ map-map row bare docids
    ∙ (λ i. map (λ (k : ℤ). sym (item_cells_are None none (document_at content k) items) i) docids) ∙ sym (map-map (λ (d : ℤ × List Cell). flat_map (item_cells None none d) items) (document_at content) docids)

-- the documents of docids that are answered
pub documents_again : (name : List ℕ) (content : Content) (limit : Option ℕ) (offset : ℕ) → IsContent name content → (docids : List ℤ) → docids ≡ cut limit offset (map (λ (d : ℤ × List Cell). d.0) content.documents) →
    map (document_at content) docids ≡ cut limit offset (chosen content All)
documents_again name content limit offset is docids are =
    ap (map (document_at content)) (are ∙ ap (λ (ds : Documents). cut limit offset (map (λ (d : ℤ × List Cell). d.0) ds)) (sym (chosen_all content)))
    ∙ sym (cut_of_map (document_at content) limit offset (map (λ (d : ℤ × List Cell). d.0) (chosen content All)))
    ∙ ap (cut limit offset) (map-map (document_at content) (λ (d : ℤ × List Cell). d.0) (chosen content All) ∙ chosen_again name content All is)

-- so many of each
one_more : (width m n k : ℕ) → m ≡ width → n ≡ width * k → m + n ≡ width * suc k
one_more width m n k one rest = grind (arith, one, rest)

-- each document has a row for each column
rows_many : (width : ℕ) (documents : Documents) → list_all (is_document width) documents ≡ true → length (flat_map document_rows documents) ≡ width * length documents
rows_many width [] wide = grind arith
rows_many width (d ∷ ds) wide =
    let parts = and_parts (is_document width d) (list_all (is_document width) ds) wide in
    let here = eqb-true (length d.1) width (and_parts (length d.1 == width) (list_all is_cell d.1) parts.0).0 in
    let own : length (document_rows d) ≡ width = length-map (enumerate_from 0 d.1) (λ (c : ℕ × Cell). record { docid = d.0; column = pos c.0; value = c.1 }) ∙ length-enumerate_from 0 d.1 ∙ here in
    length-append (document_rows d) (flat_map document_rows ds) ∙ one_more width (length (document_rows d)) (length (flat_map document_rows ds)) (length ds) own (rows_many width ds parts.1)

-- the rows of all documents as a store reads them
pub all_rows : (tab : ℤ) (store : StoreValue) (name : List ℕ) (content : Content) (read : List row.CellRow) → IsContent name content → table_rows tab store ≡ content_rows content →
    map (shown_cell tab) read ≡ where_key cell_key_cmp (λ k. int_eq tab k.0) store.cells → length read ≡ length content.columns * length content.documents
all_rows tab store name content read is rows same =
    let shown : CellKey × Cell → CellRow = λ c. record { docid = c.0.1; column = c.0.2; value = c.1 } in
    sym (length-map read (shown_cell tab)) ∙ ap length same ∙ sym (length-map (where_key cell_key_cmp (λ k. int_eq tab k.0) store.cells) shown)
    ∙ ap (λ (r : TableRows). length r.cells) rows ∙ rows_many (length content.columns) content.documents is.documents

-- the rows of one document, if there is one
pub one_rows : (name : List ℕ) (content : Content) (docid : ℤ) (read : Option (Vec Value Global)) → IsContent name content → option_map cells_of read ≡ find int_cmp docid content.documents →
    option_map_or vec_len read 0 ≡ length content.columns * length (chosen content (Docid docid))
one_rows name content docid None is found =
    let none : 0 ≡ length content.columns * 0 = grind arith in
    none ∙ ap (λ ds. length content.columns * length ds) (sym (chosen_one name content docid is ∙ ap (document_if docid) (sym found)))
one_rows name content docid (Some cells) is found =
    let once : length content.columns ≡ length content.columns * 1 = grind arith in
    let wide = found_wide name content docid (cells_of cells) is (sym found) in
    cells.ok.0 ∙ sym (length-map cells.items shown_value) ∙ wide ∙ once ∙ ap (λ ds. length content.columns * length ds) (sym (chosen_one name content docid is ∙ ap (document_if docid) (sym found)))

-- ---- the rows that are asked for without MATCH

pub asked_count : (content : Content) (f : Filter) (limit : Option ℕ) (offset : ℕ) → count_asked content f ≡ rows_asked content Counted f limit offset
unfolding rows_asked
asked_count content f limit offset = refl

-- of all documents by their docids
pub asked_all : (content : Content) (items : List Item) (limit : Option ℕ) (offset n : ℕ) → (is_some limit || not (list_any reads_document items)) ≡ true → n ≡ length (cut limit offset content.documents) →
    docids_asked content limit offset + cond (list_any reads_document items) (length content.columns) 0 * n ≡ rows_asked content (Listed items) All limit offset
unfolding rows_asked
asked_all content items limit offset n by_docid many =
    ap (λ m. docids_asked content limit offset + m) (go (list_any reads_document items))
    ∙ sym (ap (λ b. cond b (docids_asked content limit offset + cond (list_any reads_document items) (length content.columns * length (cut limit offset (chosen content All))) 0) (length content.columns * length content.documents)) by_docid)
  where
    answered : n ≡ length (cut limit offset (chosen content All))
    answered = many ∙ ap (λ ds. length (cut limit offset ds)) (sym (chosen_all content))

    go : (b : Bool) → cond b (length content.columns) 0 * n ≡ cond b (length content.columns * length (cut limit offset (chosen content All))) 0
    go true = ap (λ m. length content.columns * m) answered
    go false = grind arith

-- of documents that are read whole
pub asked_whole : (content : Content) (items : List Item) (f : Filter) (limit : Option ℕ) (offset : ℕ) → is_match f ≡ false → (f ≡ All → (is_some limit || not (list_any reads_document items)) ≡ false) →
    length content.columns * length (chosen content f) ≡ rows_asked content (Listed items) f limit offset
unfolding rows_asked
asked_whole content items All limit offset plainly whole =
    ap (λ ds. length content.columns * length ds) (chosen_all content)
    ∙ sym (ap (λ b. cond b (docids_asked content limit offset + cond (list_any reads_document items) (length content.columns * length (cut limit offset (chosen content All))) 0) (length content.columns * length content.documents)) (whole refl))
asked_whole content items (Docid docid) limit offset plainly whole = refl
asked_whole content items (Match name text) limit offset plainly whole = absurd (let no = plainly in cc)

-- ==== limits of docids, and rows of documents without their cells

-- a limit and an offset as the store takes them
pub cut_is : {A : Type 0} (most limit : Option ℕ) (first offset : ℕ) (xs : List A) → most ≡ limit → first ≡ offset → cut_to most first xs ≡ cut limit offset xs
cut_is None limit first offset xs m o = λ i. cut (m i) (o i) xs
cut_is (Some n) limit first offset xs m o = λ i. cut (m i) (o i) xs

-- ==== what a Select deserves and is answered, out of what was read

-- ---- only the columns of a content matter before it is read

pub names_bare : (table : List ℕ) (columns : List Column) (content : Content) (items : Items) → content.columns ≡ columns → answer_names table (content_with columns []) items ≡ answer_names table content items
names_bare table columns content Counted same = refl
names_bare table columns content (Listed items) same = go items
  where
    go : (is : List Item) → flat_map (item_headers table (content_with columns [])) is ≡ flat_map (item_headers table content) is
    go [] = refl
    go (AllColumns ∷ is) = λ i. names_of (sym same i) ++ go is i
    go (Named name ∷ is) = λ i. item_headers table (content_with (sym same i) []) (Named name) ++ go is i
    go (OffsetsOf name ∷ is) = ap (λ l. item_headers table content (OffsetsOf name) ++ l) (go is)

unknown_bare : (table : List ℕ) (columns : List Column) (content : Content) (items : List Item) → content.columns ≡ columns → list_any (item_unknown table (content_with columns [])) items ≡ list_any (item_unknown table content) items
unknown_bare table columns content [] same = refl
unknown_bare table columns content (AllColumns ∷ items) same = unknown_bare table columns content items same
unknown_bare table columns content (Named name ∷ items) same = λ i. not (has_column (content_with (sym same i) []) name) || unknown_bare table columns content items same i
unknown_bare table columns content (OffsetsOf name ∷ items) same = ap (λ b. not (same_name table name) || b) (unknown_bare table columns content items same)

pub unnamed_bare : (table : List ℕ) (columns : List Column) (content : Content) (f : Filter) → content.columns ≡ columns → names_unknown table (content_with columns []) f ≡ names_unknown table content f
unnamed_bare table columns content (Match name text) same = λ i. not (same_name table name || list_any (same_name name) (names_of (sym same i)))
unnamed_bare table columns content _ same = refl

reading_bare : (columns : List Column) (content : Content) (name text : List ℕ) → content.columns ≡ columns → reading (content_with columns []) name text ≡ reading content name text
unfolding reading
reading_bare columns content name text same = λ i. query_of (names_of (sym same i)) (column_place (content_with (sym same i) []) name) text

pub reads_bare : (columns : List Column) (content : Content) (f : Filter) (query : Option Tree) → content.columns ≡ columns → ReadsFilterAs (content_with columns []) f query → ReadsFilterAs content f query
reads_bare columns content (Match name text) query same h = sym (reading_bare columns content name text same) ∙ h
reads_bare columns content _ query same h = tt

pub passed_tree : {A : Type 0} (tree : A → Tree) (passed : Option (Bor A)) (query : Option A) → option_copied passed ≡ query → option_map (λ (r : Bor A). tree r.now) passed ≡ option_map tree query
passed_tree tree None query is = ap (option_map tree) is
passed_tree tree (Some r) query is = ap (option_map tree) is

-- the query as it is passed on
pub reads_passed : {A : Type 0} (tree : A → Tree) (cols : List source.Column) (content : Content) (f : Filter) (passed : Option (Bor A)) (query : Option A) → option_copied passed ≡ query → content.columns ≡ map column_of cols → ReadsFilterAs (bare_content cols) f (option_map tree query) →
    ReadsFilterAs content f (option_map (λ q. tree q.now) passed)
reads_passed tree cols content f passed query is same reads = subst (ReadsFilterAs content f) (sym (passed_tree tree passed query is)) (reads_bare (map column_of cols) content f (option_map tree query) same reads)

pub query_bare : (columns : List Column) (content : Content) (f : Filter) → content.columns ≡ columns → query_fault (content_with columns []) f ≡ query_fault content f
query_bare columns content (Match name text) same = ap reading_fault (reading_bare columns content name text same)
query_bare columns content _ same = refl

pub fault_bare : (table : List ℕ) (columns : List Column) (content : Content) (items : Items) (f : Filter) → content.columns ≡ columns → select_fault table (content_with columns []) items f ≡ select_fault table content items f
fault_bare table columns content items f same =
    λ i. option_or (first_of ((unknown_bare table columns content (items_in items) same i || unnamed_bare table columns content f same i, faults.NoSuchColumn) ∷ (list_any is_offsets (items_in items) && not (is_match f), faults.Context) ∷ [])) (query_bare columns content f same i)

-- no test applies: so offsets are asked for with a MATCH alone
fine_offsets : (table : List ℕ) (content : Content) (items : Items) (f : Filter) → select_fault table content items f ≡ None → (list_any is_offsets (items_in items) && not (is_match f)) ≡ false
fine_offsets table content items f fine = go (list_any (item_unknown table content) (items_in items) || names_unknown table content f) (list_any is_offsets (items_in items) && not (is_match f)) fine
  where
    go : (a b : Bool) → option_or (cond a (Some faults.NoSuchColumn) (cond b (Some faults.Context) None)) (query_fault content f) ≡ None → b ≡ false
    go true b h = absurd (let no = h in cc)
    go false true h = absurd (let no = h in cc)
    go false false h = refl

-- ---- a sound table that is told

pub told_columns : (contents : Contents) (name : List ℕ) (known : TableInfo) (t : IsSoundTable contents name known) → t.content.columns ≡ known.columns
told_columns contents name known t = sym (ap (λ (h : TableState). (held_content h).columns) t.held) ∙ ap (λ (k : TableInfo). k.columns) t.told

-- the rows that are read
counted : {S : Type 0} (old new : StoreState S) (tables : List TableInfo) (name : List ℕ) (items : Items) (f : Filter) (limit : Option ℕ) (offset : ℕ) (first : Contents) (t : ℤ × Table) (content : Content) → table_named first name ≡ Some t → t.1.held ≡ Sound content →
    new.rows_read ≡ more_rows (rows_asked content items f limit offset) old → CountsCommand first (with_tables old tables) (with_tables new tables) (Select name items f limit offset)
counted {S} old new tables name items f limit offset first t content found held counts =
    let before : FullText S = with_tables old tables in
    let later : FullText S = with_tables new tables in
    subst (λ (o : Option (ℤ × Table)). CountsFound offset before later items f limit o) (sym found)
    (subst (λ (h : TableState). CountsHeld offset before later items f limit h) (sym held) counts)

-- ---- what it deserves, and its plan

module _ (contents : Contents) (name : List ℕ) (items : Items) (f : Filter) (limit : Option ℕ) (offset : ℕ) (store : StoreValue) (tables : List TableInfo) (held : AreHeld store tables contents) where
  abbrev command : Command
  command = Select name items f limit offset

  pub select_unplanned : (fault : Fault) → IsUnfit tables name fault → PlansFrom contents command store (Err fault)
  unfolding deserved
  select_unplanned fault unfit = inr (unfit_is contents name fault (λ table content. select_fault table content items f) (subst (λ ts. IsUnfit ts name fault) held.told unfit))

  module _ (known : TableInfo) (named : IsSoundNamed tables name known) where
    due : deserved contents command ≡ select_fault known.name (content_with known.columns []) items f
    unfolding deserved
    due =
        let t = sound_table contents name known (ap (λ ts. info_named ts name) (sym held.told) ∙ named.0) named.1 in
        sound_is contents name known t (λ table content. select_fault table content items f)
        ∙ ap (λ (k : TableInfo). select_fault k.name t.content items f) t.told
        ∙ sym (fault_bare known.name known.columns t.content items f (told_columns contents name known t))

    pub select_fails : (fault : Fault) → (fault ≡ faults.Memory) ⊎ (select_fault known.name (content_with known.columns []) items f ≡ Some fault) → PlansFrom contents command store (Err fault)
    select_fails fault (inl memory) = inl (ap (λ f. is_outside (Err f)) memory)
    select_fails fault (inr is) = inr (due ∙ is)

    pub select_plans : select_fault known.name (content_with known.columns []) items f ≡ None → PlansFrom contents command store (Ok [])
    unfolding after
    select_plans fine = plans_nothing contents command store tables held refl refl (due ∙ fine)

-- ---- what it is answered

module _ {S : Type 0} (g : Ghosts S) (old new : StoreState S) (tables : List TableInfo) (name : List ℕ) (items : Items) (f : Filter) (limit : Option ℕ) (offset : ℕ) (looks : Looks g old new) where
  abbrev asked_so : Command
  asked_so = Select name items f limit offset

  module _ (known : TableInfo) (named : IsSoundNamed tables name known) where
    table_of : (first : Contents) → AreHeld (value_in g old) tables first → IsSoundTable first name known
    table_of first holds = sound_table first name known (ap (λ ts. info_named ts name) (sym holds.told) ∙ named.0) named.1

    stepped : (grid : Grid) (first : Contents) (t : IsSoundTable first name known) → deserved first asked_so ≡ None → grid ≡ answer known.name t.content items f limit offset → step first asked_so ≡ (Ok (Rows grid), first)
    unfolding step reply_to after
    stepped grid first t none is =
        ap (λ due. step_by due first asked_so) none
        ∙ ap (λ (found : Option (ℤ × Table)). (Ok (answer_of_found found items f limit offset), first)) t.found
        ∙ ap (λ (held : TableState). (Ok (Rows (answer t.table.1.name (held_content held) items f limit offset)), first)) t.held
        ∙ ap (λ (k : TableInfo). (Ok (Rows (answer k.name t.content items f limit offset)), first)) t.told
        ∙ ap (λ grid. (Ok (Rows grid), first)) (sym is)

    module _ (order : AreInOrder (value_in g old)) (query : Option Tree) (grid : Grid) (fine : select_fault known.name (content_with known.columns []) items f ≡ None) (reads : ReadsFilterAs (content_with known.columns []) f query) where
      asked : (up : IsUp g (with_tables new tables)) (first : Contents) (holds : AreHeld (value_in g old) tables first) → IsAsked g known.id known.columns items f query old new (table_of first holds).content
      asked up first holds =
          let t = table_of first holds in
          let has = sound_rows (value_in g old) tables first name known t order holds in
          let id : t.table.0 ≡ known.id = ap (λ (k : TableInfo). k.id) t.told in
          record {
            held = record { rows = rows_in g known.id t.table.0 (sym id) old new t.table.1.name t.content has up.clean up.is_open; index = index_in g known.id t.table.0 (sym id) old new t.table.1.name t.content has up.clean up.is_open };
            columns = told_columns first name known t;
            reads = reads_bare known.columns t.content f query (told_columns first name known t) reads;
            offsets = fine_offsets known.name (content_with known.columns []) items f fine;
          }

      pub select_done : ((content : Content) → IsAsked g known.id known.columns items f query old new content → grid ≡ answer known.name content items f limit offset) → Executes g (with_tables old tables) asked_so (Ok (Rows grid)) (with_tables new tables)
      select_done answers = executes_read g old new tables asked_so (Ok (Rows grid)) looks (λ up first holds. inr (stepped grid first (table_of first holds) (due first name items f limit offset (value_in g old) tables holds known named ∙ fine) (answers (table_of first holds).content (asked up first holds))))

      pub select_counts : ((content : Content) → IsAsked g known.id known.columns items f query old new content → new.rows_read ≡ more_rows (rows_asked content items f limit offset) old) → CountsRows g (with_tables old tables) asked_so (Ok (Rows grid)) (with_tables new tables)
      select_counts counts = λ up first holds.
          let t = table_of first holds in
          counted old new tables name items f limit offset first t.table t.content t.found t.held (counts t.content (asked up first holds))
