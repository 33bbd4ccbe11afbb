-- How tables stand as they are read, what is told of them, and what a Check is answered.
use Rattle.std.proofs.Common.{◌≡◌, ℕ, List, [], ◌∷◌, ℤ, refl, sym, ap, ◌∙◌, ◌≢◌, true, false, cond, ◌++◌, map, string_bytes, subst, arith, IsTrue, int_eq, Bool, Option, Some, None, Ok, Err}
use Rattle.ft_index.proofs.Common.{AllZip, TableRows, IndexRows, index_rows, TableState, Sound, Stale, Loose, Table, Contents, StoreValue, table_rows}
use Rattle.ft_index.proofs.Common.{table_index, Stands, HoldsTable, same_int, where_key, map-append, map-map, HasCleanDisk, Survives, IsBlamed}
use Rattle.ft_index.proofs.Common.{Database, Ghosts, StoreState, shows, value_in, value_of, Looks, TabRow, Cell, CellKey, ListKey, cell_key_cmp}
use Rattle.ft_index.proofs.Common.{list_key_cmp, Column, Content, IsContent, content_rows, Key, Spot, TableInfo, held_content, is_sound}
use Rattle.ft_index.proofs.Common.{state_of, IsListed, HasTableMark, shown_table, repeats_name, with_tables, AreHeld, StoreHolds, table_info}
use Rattle.ft_index.proofs.Common.{AreMarked, AllByRecursion, list_all, AreInOrder, Fault, RustTableInfo, Check, Done, shown_info, table_named}
use Rattle.ft_index.proofs.Common.{on_found, deserved, step, step_by, reply_to, after, info_named, AreSound, IsNamed}
use Rattle.ft_calls.specs.Kept.{HoldsOneContents}
use Rattle.ft_content.proofs.{contents_are_one, rows_are_read}
use Rattle.ft_store.proofs.{blamed_then}
use Rattle.ft_values.specs.declared.rows.CellRow as stored_cell
use Rattle.ft_values.specs.declared.rows.SizeRow as stored_size
use Rattle.ft_rows.specs.Shown as shown
use Rattle.ft_content.specs.Content.{content_in}
use Rattle.ft_content.specs.Index.{SizeRow}
use Rattle.ft_index.specs.declared.row_state.RowState.TheVariants as states
use Rattle.ft_index.specs.declared.row_state.RowState.{RowState}
use Rattle.ft_index.specs.Opened.{StandsSo, OpensStore}
use Rattle.ft_documents.specs.RewriteRows.{sized}
use Rattle.ft_documents.specs.Standing.{size_under_key, shown_row, listed_rows, columns_said, AreContent, HaveContent}
use Rattle.ft_documents.specs.Terms.{under_term, lists_of_terms}
use Rattle.ft_rows.specs.Terms.{lists_of_postings, lists_under, lists_by_terms}
use Rattle.ft_rows.specs.declared.terms.TermLists.{TermLists}
use Rattle.ft_documents.proofs.{sized_once}
use Rattle.ft_rows.specs.Shown.{table_listed, AreNamedApart}
use Rattle.ft_calls.specs.Kept.{HoldsSome}
use Rattle.std.specs.List.{find}
use Rattle.std.proofs.lemmas.List.Sums.{AllPass-from_list_all, list_all-from_AllPass}
use Rattle.std.proofs.lemmas.List.Folds.{list_all-map}
use Rattle.ft_values.specs.declared.fault.Fault.TheVariants as faults
use Rattle.ft_content.specs.Step.{check_fault}
use Rattle.ft_index.proofs.OneTable.{none_named, some_named, IsOne, one_named, ids_sorted, AreHeldIn, held_named}

pub held_once : (name : List ℕ) (rows : TableRows) (index : IndexRows) (a b : TableState) → Stands name rows index a → Stands name rows index b → a ≡ b
held_once name rows index (Sound a) (Sound b) h g = ap Sound (contents_are_one name a b h.0 g.0 (sym h.1 ∙ g.1))
held_once name rows index (Sound a) (Stale b) h g = absurd (g.2 (h.2 ∙ ap index_rows (contents_are_one name a b h.0 g.0 (sym h.1 ∙ g.1))))
held_once name rows index (Sound a) (Loose b) h g = absurd (g.1 a h.0 h.1)
held_once name rows index (Stale a) (Sound b) h g = absurd (h.2 (g.2 ∙ ap index_rows (contents_are_one name b a g.0 h.0 (sym g.1 ∙ h.1))))
held_once name rows index (Stale a) (Stale b) h g = ap Stale (contents_are_one name a b h.0 g.0 (sym h.1 ∙ g.1))
held_once name rows index (Stale a) (Loose b) h g = absurd (g.1 a h.0 h.1)
held_once name rows index (Loose a) (Sound b) h g = absurd (h.1 b g.0 g.1)
held_once name rows index (Loose a) (Stale b) h g = absurd (h.1 b g.0 g.1)
held_once name rows index (Loose a) (Loose b) h g = ap Loose (h.0 ∙ sym g.0)

table_once : (named : ℤ × List ℕ) (rows : TableRows) (index : IndexRows) (a b : ℤ × Table) → HoldsTable named rows index a → HoldsTable named rows index b → a ≡ b
table_once named rows index a b h g =
    let held = held_once named.1 rows index a.1.held b.1.held h.stands g.stands in
    λ i. ((h.id ∙ sym g.id) i, record { name = (h.name ∙ sym g.name) i; held = held i })

-- over the names that the store has
tables_once : (store : StoreValue) (tables : List (ℤ × List ℕ)) (one other : Contents) →
    AllZip (λ (named : ℤ × List ℕ) (table : ℤ × Table). HoldsTable named (table_rows named.0 store) (table_index named.0 store) table) tables one →
    AllZip (λ (named : ℤ × List ℕ) (table : ℤ × Table). HoldsTable named (table_rows named.0 store) (table_index named.0 store) table) tables other → one ≡ other
tables_once store [] [] [] h g = refl
tables_once store [] [] (b ∷ bs) h g = absurd g
tables_once store (named ∷ tables) (a ∷ as') [] h g = absurd g
tables_once store (named ∷ tables) (a ∷ as') (b ∷ bs) h g =
    let first = table_once named (table_rows named.0 store) (table_index named.0 store) a b h.0 g.0 in
    let rest = tables_once store tables as' bs h.1 g.1 in
    λ i. first i ∷ rest i
tables_once store _ _ other h g = absurd h

pub holds_one_contents : HoldsOneContents
holds_one_contents store one other h g = tables_once store store.tables one other h g

-- ==== rows of a table as they are read, and how they stand

abbrev lists_asked : ℤ → StoreValue → List (ListKey × List Spot)
lists_asked tab store = where_key list_key_cmp (λ k. int_eq tab k.0) store.lists

abbrev own_list : ListKey × List Spot → Key × List Spot
own_list l = ((l.0.1, l.0.2), l.1)

abbrev own_size : CellKey × ℤ → SizeRow
own_size z = record { docid = z.0.1; column = z.0.2; n = z.1 }

pub sizes_read : (tab : ℤ) (store : StoreValue) (found : List stored_size.SizeRow) → map (shown.shown_size tab) found ≡ where_key cell_key_cmp (λ k. int_eq tab k.0) store.sizes → map size_under_key found ≡ sized (table_index tab store).sizes
sizes_read tab store found is =
    sym (ap (λ zs. sized (map own_size zs)) (sym is)
    ∙ ap sized (map-map own_size (shown.shown_size tab) found)
    ∙ map-map (λ (s : SizeRow). ((s.docid, s.column), s.n)) (λ (s : stored_size.SizeRow). own_size (shown.shown_size tab s)) found)

abbrev pub SizesRead : ℤ → StoreValue → List stored_size.SizeRow → Type 0
SizesRead tab store ss = map (shown.shown_size tab) ss ≡ where_key cell_key_cmp (λ k. int_eq tab k.0) store.sizes

-- ---- lists by their terms

abbrev given : ℤ → Key × List Spot → ListKey × List Spot
given tab l = ((tab, l.0.0, l.0.1), l.1)

asked_given : (tab : ℤ) (lists : List (ListKey × List Spot)) → map (given tab) (map own_list (where_key list_key_cmp (λ k. int_eq tab k.0) lists)) ≡ where_key list_key_cmp (λ k. int_eq tab k.0) lists
asked_given tab [] = refl
asked_given tab (l ∷ ls) =
    let rest = where_key list_key_cmp (λ k. int_eq tab k.0) ls in
    elim (int_eq tab l.0.0) as (λ b. int_eq tab l.0.0 ≡ b → map (given tab) (map own_list (cond b (l ∷ rest) rest)) ≡ cond b (l ∷ rest) rest) [
      | true ↦ λ same. (λ i. ((same_int tab l.0.0 same i, l.0.1, l.0.2), l.1) ∷ asked_given tab ls i)
      | false ↦ λ _. asked_given tab ls
    ] refl

terms_given : (tab : ℤ) (terms : List TermLists) → map (given tab) (lists_of_terms terms) ≡ lists_by_terms tab terms
terms_given tab [] = refl
terms_given tab (t ∷ ts) =
    let lists = lists_of_postings t.postings.items in
    map-append (given tab) (under_term (string_bytes t.term) lists) (lists_of_terms ts) ∙ (λ i. map-map (given tab) (λ (l : ℤ × List Spot). ((string_bytes t.term, l.0), l.1)) lists i ++ terms_given tab ts i)

terms_own : (tab : ℤ) (terms : List TermLists) → map own_list (lists_by_terms tab terms) ≡ lists_of_terms terms
terms_own tab [] = refl
terms_own tab (t ∷ ts) = map-append own_list (lists_under tab t) (lists_by_terms tab ts) ∙ (λ i. map-map own_list (λ (l : ℤ × List Spot). ((tab, string_bytes t.term, l.0), l.1)) (lists_of_postings t.postings.items) i ++ terms_own tab ts i)

-- A table's index rows are those of a content where its sizes and lists are.
pub rows_same : (tab : ℤ) (store : StoreValue) (content : Content) (ss : List stored_size.SizeRow) (terms : List TermLists) → SizesRead tab store ss → (map size_under_key ss ≡ sized (index_rows content).sizes) × (lists_of_terms terms ≡ (index_rows content).lists) →
    lists_asked tab store ≡ lists_by_terms tab terms → table_index tab store ≡ index_rows content
rows_same tab store content ss terms read theirs same =
    let lists : (table_index tab store).lists ≡ (index_rows content).lists = ap (map own_list) same ∙ terms_own tab terms ∙ theirs.1 in
    let sizes : (table_index tab store).sizes ≡ (index_rows content).sizes = sized_once _ _ (sym (sizes_read tab store ss read) ∙ theirs.0) in
    λ i. record { lists = lists i; sizes = sizes i }

pub lists_same : (tab : ℤ) (store : StoreValue) (content : Content) (terms : List TermLists) → lists_of_terms terms ≡ (index_rows content).lists → table_index tab store ≡ index_rows content → lists_asked tab store ≡ lists_by_terms tab terms
lists_same tab store content terms theirs same =
    sym (asked_given tab store.lists) ∙ ap (map (given tab)) (ap (λ (r : IndexRows). r.lists) same ∙ sym theirs) ∙ terms_given tab terms

pub sizes_others : (tab : ℤ) (store : StoreValue) (content : Content) (ss : List stored_size.SizeRow) → SizesRead tab store ss → map size_under_key ss ≢ sized (index_rows content).sizes → table_index tab store ≢ index_rows content
sizes_others tab store content ss read others same = others (sizes_read tab store ss read ∙ ap (λ (r : IndexRows). sized r.sizes) same)

-- ---- reads one after another

pub looked : {S : Type 0} (g : Ghosts S) (a b : StoreState S) → Looks g a b → (HasCleanDisk (shows g b) → IsTrue (shows g b).is_open) → HasCleanDisk (shows g b) → value_in g b ≡ value_in g a
looked g a b first live clean = ap (λ (d : Database). value_of d.trees) (first.kept clean (live clean)).0

-- a read is refused for what lies outside the store also since the first one
pub blamed_after : {S : Type 0} (g : Ghosts S) (a b c : StoreState S) {C D : _} → Survives (shows g a) (shows g b) C → Survives (shows g b) (shows g c) D → HasCleanDisk (shows g c) → IsBlamed (shows g b) (shows g c) → IsBlamed (shows g a) (shows g c)
blamed_after g a b c first second clean = blamed_then (shows g a) (shows g b) (shows g c) _ _ (omega (arith, second.clean, clean)) first second

-- ---- a table that is listed

-- the rows of a table as they are read
pub record Listed (store : StoreValue) (named : ℤ × List ℕ) (table : TabRow) (cells : List stored_cell.CellRow) : Type 0 where
  pub id : table.id ≡ named.0
  pub name : string_bytes table.name ≡ named.1
  pub rows : listed_rows table cells ≡ table_rows named.0 store

abbrev pub CellsRead : ℤ → StoreValue → List stored_cell.CellRow → Type 0
CellsRead tab store cells = map (shown.shown_cell tab) cells ≡ where_key cell_key_cmp (λ k. int_eq tab k.0) store.cells

cells_are : (tab : ℤ) (store : StoreValue) (cells : List stored_cell.CellRow) → CellsRead tab store cells → map shown_row cells ≡ (table_rows tab store).cells
cells_are tab store cells is = sym (map-map (λ (c : CellKey × Cell). record { docid = c.0.1; column = c.0.2; value = c.1 }) (shown.shown_cell tab) cells) ∙ ap (map (λ (c : CellKey × Cell). record { docid = c.0.1; column = c.0.2; value = c.1 })) is

pub listed : (store : StoreValue) (named : ℤ × List ℕ) (table : TabRow) (cells : List stored_cell.CellRow) → IsListed store named table → CellsRead table.id store cells → Listed store named table cells
listed store named table cells is read =
    let id : table.id ≡ named.0 = ap (λ (l : shown.Listed). l.id) is in
    let columns = ap (λ (l : shown.Listed). l.columns) is in
    let skipped = ap (λ (l : shown.Listed). l.skipped) is in
    let own : map shown_row cells ≡ (table_rows named.0 store).cells = cells_are table.id store cells read ∙ ap (λ k. (table_rows k store).cells) id in
    record { id = id; name = ap (λ (l : shown.Listed). l.name) is; rows = λ i. record { columns = columns i; skipped = skipped i; cells = own i } }

-- ---- how rows stand

pub stands_loose : (name : List ℕ) (rows : TableRows) (index : IndexRows) → ¬ AreContent name rows → StandsSo name rows index states.Loose
stands_loose name rows index none = record { held = Loose rows; stands = (refl, λ content is same. none (record { content = content; is_content = is; is = same })); is = refl }

pub stands_sound : (name : List ℕ) (rows : TableRows) (index : IndexRows) (content : Content) → IsContent name content × (rows ≡ content_rows content) → index ≡ index_rows content → StandsSo name rows index states.Sound
stands_sound name rows index content are right = record { held = Sound content; stands = (are.0, are.1, right); is = refl }

pub stands_stale : (name : List ℕ) (rows : TableRows) (index : IndexRows) (content : Content) → IsContent name content × (rows ≡ content_rows content) → index ≢ index_rows content → StandsSo name rows index states.Stale
stands_stale name rows index content are wrong = record { held = Stale content; stands = (are.0, are.1, wrong); is = refl }

-- the columns of a content are those that its rows say
pub said_columns : (name : List ℕ) (rows : TableRows) (content : Content) → IsContent name content → rows ≡ content_rows content → columns_said rows ≡ content.columns
said_columns name rows content is same = ap (λ (r : TableRows). (content_in r).columns) same ∙ ap (λ (x : Content). x.columns) (rows_are_read name content is)

pub have_content : (name : List ℕ) (rows : TableRows) (columns : List Column) → columns ≡ columns_said rows → (are : AreContent name rows) → HaveContent columns rows.cells are.content
have_content name rows columns are h = record {
  name = name;
  is_content = h.is_content;
  columns_are = sym (are ∙ said_columns name rows h.content h.is_content h.is);
  cells_are = ap (λ (r : TableRows). r.cells) h.is;
}

-- what is said of a table that is listed is said of the one that the store names
pub are_listed : (store : StoreValue) (named : ℤ × List ℕ) (table : TabRow) (cells : List stored_cell.CellRow) → Listed store named table cells → AreContent named.1 (table_rows named.0 store) → AreContent (string_bytes table.name) (listed_rows table cells)
are_listed store named table cells l are = record { content = are.content; is_content = subst (λ n. IsContent n are.content) (sym l.name) are.is_content; is = l.rows ∙ are.is }

pub are_named : (store : StoreValue) (named : ℤ × List ℕ) (table : TabRow) (cells : List stored_cell.CellRow) → Listed store named table cells → (are : AreContent (string_bytes table.name) (listed_rows table cells)) → IsContent named.1 are.content × (table_rows named.0 store ≡ content_rows are.content)
are_named store named table cells l are = (subst (λ n. IsContent n are.content) l.name are.is_content, sym l.rows ∙ are.is)

-- ---- what is told of a table

-- the columns of a table are those that its rows say
pub told_columns : (name : List ℕ) (rows : TableRows) (index : IndexRows) (held : TableState) → Stands name rows index held → columns_said rows ≡ (held_content held).columns
told_columns name rows index (Sound content) stands = said_columns name rows content stands.0 stands.1
told_columns name rows index (Stale content) stands = said_columns name rows content stands.0 stands.1
told_columns name rows index (Loose loose) stands = ap (λ (r : TableRows). (content_in r).columns) (sym stands.0)

pub marked : (store : StoreValue) (named : ℤ × List ℕ) (table : TabRow) (known : TableInfo) (state : RowState) → IsListed store named table → StandsSo named.1 (table_rows named.0 store) (table_index named.0 store) state →
    known.id ≡ table.id → known.name ≡ string_bytes table.name → known.columns ≡ columns_said (listed_rows table []) →
    ((held : TableState) → state ≡ state_of held → known.sound ≡ is_sound held) → HasTableMark store named known
marked store named table known _ is so id name columns sound =
    let same_id = id ∙ ap (λ (l : shown.Listed). l.id) is in
    let same_name = name ∙ ap (λ (l : shown.Listed). l.name) is in
    let same_columns : known.columns ≡ (held_content so.held).columns = columns ∙ (λ i. columns_said (record { columns = (is i).columns; skipped = (is i).skipped; cells = [] })) ∙ told_columns named.1 (table_rows named.0 store) (table_index named.0 store) so.held so.stands in
    let same_mark : known.sound ≡ is_sound so.held = sound so.held so.is in
    record { held = so.held; stands = so.stands; told = λ i. record { id = same_id i; name = same_name i; columns = same_columns i; sound = same_mark i } }

-- ==== tables that are told as they are read

-- what is told of each table that is listed
abbrev pub IsMarkedRow : StoreValue → TabRow → TableInfo → Type 0
IsMarkedRow store row known = (named : ℤ × List ℕ) → IsListed store named row → HasTableMark store named known

abbrev pub AreMarkedRows : StoreValue → List TabRow → List TableInfo → Type 0
AreMarkedRows store rows known = AllZip (IsMarkedRow store) rows known

pub one_marked_more : (store : StoreValue) (rows : List TabRow) (known : List TableInfo) (row : TabRow) (k : TableInfo) → AreMarkedRows store rows known → IsMarkedRow store row k → AreMarkedRows store (rows ++ row ∷ []) (known ++ k ∷ [])
one_marked_more store [] [] row k all one = (one, tt)
one_marked_more store (r ∷ rs) (x ∷ xs) row k all one = (all.0, one_marked_more store rs xs row k all.1 one)
one_marked_more store _ _ row k all one = absurd all

pub are_marked : (store : StoreValue) (rows : List TabRow) (tables : List (ℤ × List ℕ)) (known : List TableInfo) → AreMarkedRows store rows known → map shown_table rows ≡ map (table_listed store) tables → AreMarked store tables known
are_marked store [] [] [] all same = tt
are_marked store [] [] (x ∷ xs) all same = absurd all
are_marked store [] (t ∷ ts) known all same = absurd (let none = same in cc)
are_marked store (r ∷ rs) [] known all same = absurd (let none = same in cc)
are_marked store (r ∷ rs) (t ∷ ts) [] all same = absurd all
are_marked store (r ∷ rs) (t ∷ ts) (x ∷ xs) all same =
    let first : IsListed store t r = cc in
    let rest : map shown_table rs ≡ map (table_listed store) ts = cc in
    (all.0 t first, are_marked store rs ts xs all.1 rest)

-- ---- contents out of what is told

pub record FoundIn (store : StoreValue) (tables : List (ℤ × List ℕ)) (known : List TableInfo) : Type 0 where
  pub contents : Contents
  pub held : AllZip (λ (named : ℤ × List ℕ) (table : ℤ × Table). HoldsTable named (table_rows named.0 store) (table_index named.0 store) table) tables contents
  pub told : known ≡ map table_info contents
  pub names : map (λ (t : ℤ × Table). t.1.name) contents ≡ map (λ (t : ℤ × List ℕ). t.1) tables

found_in : (store : StoreValue) (tables : List (ℤ × List ℕ)) (known : List TableInfo) → AreMarked store tables known → FoundIn store tables known
found_in store [] [] all = record { contents = []; held = tt; told = refl; names = refl }
found_in store (t ∷ ts) (x ∷ xs) all =
    let rest = found_in store ts xs all.1 in
    let one = all.0 in
    record {
      contents = (t.0, record { name = t.1; held = one.held }) ∷ rest.contents;
      held = (record { id = refl; name = refl; stands = one.stands }, rest.held);
      told = λ i. one.told i ∷ rest.told i;
      names = ap (λ ns. t.1 ∷ ns) rest.names;
    }
found_in store _ _ all = absurd all

pub marked_contents : (store : StoreValue) (known : List TableInfo) → AreMarked store store.tables known → FoundIn store store.tables known
marked_contents store known all = found_in store store.tables known all

-- Where no two tables have one name, what is told of them is of contents that the store holds.
pub marked_holds : (store : StoreValue) (known : List TableInfo) → AreNamedApart store → AreMarked store store.tables known → (contents : Contents) × AreHeld store known contents
marked_holds store known apart all =
    let f = found_in store store.tables known all in
    (f.contents, record { named_once = ap repeats_name f.names ∙ apart; held = f.held; told = f.told })

-- ---- a store that is taken

module _ {S : Type 0} (g : Ghosts S) (old new : StoreState S) (known : List TableInfo) (looks : Looks g old new) (live : HasCleanDisk (shows g new) → IsTrue (shows g new).is_open)
    (marked : HasCleanDisk (shows g new) → AreMarked (value_in g old) (value_in g old).tables known)
    (apart : HasCleanDisk (shows g old) → IsTrue (shows g old).is_open → AreNamedApart (value_in g old)) where
  pub opened_holds : HoldsSome g (with_tables new known)
  opened_holds up =
      let found = marked_holds (value_in g old) known (apart (omega (arith, looks.survives.clean, up.clean)) (looks.kept up.clean up.is_open).2) (marked up.clean) in
      (found.0, subst (λ v. AreHeld v known found.0) (sym (looked g old new looks live up.clean)) found.1)

  pub opens : OpensStore g old (with_tables new known)
  opens = record {
    looks = looks;
    live = live;
    some = opened_holds;
    marks = λ up contents held.
        let found = opened_holds up in
        let same : found.0 ≡ contents = holds_one_contents (value_in g new) found.0 contents found.1.held (subst (λ v. StoreHolds v contents) (sym (looked g old new looks live up.clean)) held) in
        subst (λ cs. AreHeld (value_in g new) known cs) same found.1;
  }

-- ==== what is answered to a Check, and whether all tables are sound

-- ---- the table of a name

-- it stands under its id among those that the store names
named_under : (store : StoreValue) (name : List ℕ) (t : ℤ × Table) (tables : List (ℤ × List ℕ)) (contents : Contents) → AllByRecursion (IsOne name t) contents → AreHeldIn store tables contents → table_named contents name ≡ Some t →
    find (λ (n : ℤ × List ℕ). int_eq t.0 n.0) tables ≡ Some (t.0, t.1.name)
named_under store name t [] [] one held found = absurd (let no = found in cc)
named_under store name t (n ∷ ns) (c ∷ cs) one held found = go (int_eq t.0 c.0) refl (named_under store name t ns cs one.1 held.1)
  where
    go : (b : Bool) → int_eq t.0 c.0 ≡ b → (table_named cs name ≡ Some t → find (λ (n : ℤ × List ℕ). int_eq t.0 n.0) ns ≡ Some (t.0, t.1.name)) → cond (int_eq t.0 n.0) (Some n) (find (λ (n : ℤ × List ℕ). int_eq t.0 n.0) ns) ≡ Some (t.0, t.1.name)
    go true is rest =
        let same : c ≡ t = one.0.is is in
        let here : n ≡ (t.0, t.1.name) = (λ i. (sym held.0.id i, sym held.0.name i)) ∙ (λ i. ((same i).0, (same i).1.name)) in
        ap (λ b. cond b (Some n) (find (λ (n : ℤ × List ℕ). int_eq t.0 n.0) ns)) (ap (int_eq t.0) (sym held.0.id) ∙ is) ∙ ap Some here
    go false is rest =
        ap (λ b. cond b (Some n) (find (λ (n : ℤ × List ℕ). int_eq t.0 n.0) ns)) (ap (int_eq t.0) (sym held.0.id) ∙ is)
        ∙ rest (sym (ap (λ b. cond b (Some c) (table_named cs name)) (one.0.agrees ∙ is)) ∙ found)
named_under store name t _ _ one held found = absurd held

-- what is known of a table that is told under a name
pub record IsTold (store : StoreValue) (contents : Contents) (name : List ℕ) (known : TableInfo) : Type 0 where
  pub table : ℤ × Table
  pub found : table_named contents name ≡ Some table
  pub told : table_info table ≡ known
  pub one : AllByRecursion (IsOne name table) contents
  pub named : IsNamed store known.id (table.0, table.1.name)
  pub stands : Stands table.1.name (table_rows table.0 store) (table_index table.0 store) table.1.held

pub told_here : (store : StoreValue) (tables : List TableInfo) (contents : Contents) (name : List ℕ) (known : TableInfo) → AreInOrder store → AreHeld store tables contents → info_named tables name ≡ Some known → IsTold store contents name known
told_here store tables contents name known order held named =
    let it = some_named contents name known (ap (λ ts. info_named ts name) (sym held.told) ∙ named) in
    let one = one_named name it.0 contents (ids_sorted store store.tables contents held.held order.tables) held.named_once it.1 in
    record {
      table = it.0;
      found = it.1;
      told = it.2;
      one = one;
      named = ap (λ (k : TableInfo). find (λ (n : ℤ × List ℕ). int_eq k.id n.0) store.tables) (sym it.2) ∙ named_under store name it.0 store.tables contents one held.held it.1;
      stands = (held_named store name it.0 store.tables contents held.held it.1).0;
    }

-- ---- what a Check is answered

checked : (contents : Contents) (name : List ℕ) (found : Option (ℤ × Table)) (due : Option Fault) → table_named contents name ≡ found → on_found found check_fault ≡ due → step contents (Check name) ≡ step_by due contents (Check name)
unfolding deserved step
checked contents name found due is fault = ap (λ d. step_by d contents (Check name)) (ap (λ f. on_found f check_fault) is ∙ fault)

sound_due : (name : List ℕ) (held : TableState) → is_sound held ≡ true → check_fault name held ≡ None
sound_due name (Sound content) h = refl
sound_due name _ h = absurd (let no = h in cc)

unsound_due : (name : List ℕ) (held : TableState) → is_sound held ≡ false → check_fault name held ≡ Some faults.Corrupt
unsound_due name (Sound content) h = absurd (let no = h in cc)
unsound_due name _ h = refl

pub check_missing : (contents : Contents) (tables : List TableInfo) (name : List ℕ) → tables ≡ map table_info contents → info_named tables name ≡ None → step contents (Check name) ≡ (Err faults.NoSuchTable, contents)
check_missing contents tables name told none = checked contents name None (Some faults.NoSuchTable) (none_named contents name (ap (λ ts. info_named ts name) (sym told) ∙ none)) refl

pub check_right : (contents : Contents) (name : List ℕ) (t : ℤ × Table) → table_named contents name ≡ Some t → is_sound t.1.held ≡ true → step contents (Check name) ≡ (Ok Done, contents)
unfolding reply_to after
check_right contents name t found sound = checked contents name (Some t) None found (sound_due t.1.name t.1.held sound)

pub check_wrong : (contents : Contents) (name : List ℕ) (t : ℤ × Table) → table_named contents name ≡ Some t → is_sound t.1.held ≡ false → step contents (Check name) ≡ (Err faults.Corrupt, contents)
check_wrong contents name t found unsound = checked contents name (Some t) (Some faults.Corrupt) found (unsound_due t.1.name t.1.held unsound)

-- ---- whether all tables are sound

pub all_are_sound : (store : StoreValue) (infos : List RustTableInfo) (contents : Contents) (all : Bool) → AreMarked store store.tables (map shown_info infos) → StoreHolds store contents → all ≡ list_all (λ (t : RustTableInfo). t.sound) infos →
    (IsTrue all → AreSound contents) × (AreSound contents → IsTrue all)
all_are_sound store infos contents all marked held is =
    let found = marked_contents store (map shown_info infos) marked in
    let told : map shown_info infos ≡ map table_info contents = found.told ∙ ap (map table_info) (holds_one_contents store found.contents contents found.held held) in
    let same : all ≡ list_all (λ (t : ℤ × Table). is_sound t.1.held) contents = is ∙ sym (list_all-map (λ (k : TableInfo). k.sound) shown_info infos) ∙ ap (list_all (λ (k : TableInfo). k.sound)) told ∙ list_all-map (λ (k : TableInfo). k.sound) table_info contents in (
      (λ h. AllPass-from_list_all (λ (t : ℤ × Table). is_sound t.1.held) contents (sym same ∙ h)),
      (λ h. same ∙ list_all-from_AllPass (λ (t : ℤ × Table). is_sound t.1.held) contents h),
    )
