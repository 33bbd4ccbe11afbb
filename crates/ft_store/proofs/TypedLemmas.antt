-- The orders of keys, and what the schema makes sure of in the values and the rowids of rows.
use Rattle.std.proofs.Common.{◌≡◌, ℕ, ℤ, List, refl, sym, ap, Ordering, Less, Equal, Greater, is_eq, true≢false, int_cmp, zero, suc, ◌+◌, Bool, true, false, not, [], ◌∷◌, Some, slice_get, slice_index_or, IsTrue, ◌≢◌, ◌&&◌, ◌||◌, filter, ap₂, ◌∙◌}
use Rattle.ft_store.proofs.Common.{IsTotalOrder, ordering_then, int_ranked, on_total, then_total, int_cmp_total, nat_list_cmp_total, same_bytes}
use Rattle.ft_store.proofs.Common.{CellKey, ListKey, ColumnKey, cell_key_cmp, list_key_cmp, column_key_cmp, name_cmp, AllByRecursion, Value, Null}
use Rattle.ft_store.proofs.Common.{Int, Real, Text, Blob, Row, column, bytes, Trees, id_in, rowid, is_int, is_null, Datatype, NotNull, are_typed}
use Rattle.ft_store.proofs.Common.{is_of, suits, passes, IsSound, all_both, and_parts, match_ordering, tied_itself, value_cmp}
use Rattle.ft_store.proofs.Common.{value_cmp_total, value_cmp-Int, IsAscending, put_row, is_taken, are_fresh, put_all, all-filter, ascending-filter}
use Rattle.sqlite_schema.specs.declared.schema.Kind.TheVariants as kind
use Rattle.ft_store.specs.Calls.{HasOwnRowids}
use Rattle.sqlite_schema.specs.declared.schema.Column.{Column}
use Rattle.ft_store.specs.Tables.{store_schema, tab_table, col_table, cell_table, posting_table, sizes_table, noted_table, skip_table}

-- ---- the orders of keys are total, and keys that tie are equal

pub tied_first : (x y : Ordering) → ordering_then x y ≡ Equal → x ≡ Equal
tied_first Less y h = h
tied_first Equal y h = refl
tied_first Greater y h = h

pub tied_second : (x y : Ordering) → ordering_then x y ≡ Equal → y ≡ Equal
tied_second Less y h = absurd (true≢false (sym (ap is_eq h)))
tied_second Equal y h = h
tied_second Greater y h = absurd (true≢false (sym (ap is_eq h)))

pub tied_ints : (a b : ℤ) → int_cmp a b ≡ Equal → a ≡ b
tied_ints a b h = int_ranked a b Equal (sym h)

pub tied_names : (a b : List ℕ) → name_cmp a b ≡ Equal → a ≡ b
tied_names a b h = same_bytes a b (ap is_eq h)

pub cell_key_total : IsTotalOrder cell_key_cmp
cell_key_total = then_total (on_total (λ (k : CellKey). k.0) int_cmp_total) (then_total (on_total (λ (k : CellKey). k.1) int_cmp_total) (on_total (λ (k : CellKey). k.2) int_cmp_total))

pub tied_cell_keys : (a b : CellKey) → cell_key_cmp a b ≡ Equal → a ≡ b
tied_cell_keys a b h =
    let h1 = tied_second _ _ h in
    let tab = tied_ints a.0 b.0 (tied_first _ _ h) in
    let docid = tied_ints a.1 b.1 (tied_first _ _ h1) in
    let at = tied_ints a.2 b.2 (tied_second _ _ h1) in
    λ i. (tab i, docid i, at i)

pub list_key_total : IsTotalOrder list_key_cmp
list_key_total = then_total (on_total (λ (k : ListKey). k.0) int_cmp_total) (then_total (on_total (λ (k : ListKey). k.1) nat_list_cmp_total) (on_total (λ (k : ListKey). k.2) int_cmp_total))

pub tied_list_keys : (a b : ListKey) → list_key_cmp a b ≡ Equal → a ≡ b
tied_list_keys a b h =
    let h1 = tied_second _ _ h in
    let tab = tied_ints a.0 b.0 (tied_first _ _ h) in
    let term = tied_names a.1 b.1 (tied_first _ _ h1) in
    let docid = tied_ints a.2 b.2 (tied_second _ _ h1) in
    λ i. (tab i, term i, docid i)

pub column_key_total : IsTotalOrder column_key_cmp
column_key_total = then_total (on_total (λ (k : ColumnKey). k.0) int_cmp_total) (on_total (λ (k : ColumnKey). k.1) int_cmp_total)

pub tied_column_keys : (a b : ColumnKey) → column_key_cmp a b ≡ Equal → a ≡ b
tied_column_keys a b h =
    let tab = tied_ints a.0 b.0 (tied_first _ _ h) in
    let at = tied_ints a.1 b.1 (tied_second _ _ h) in
    λ i. (tab i, at i)

pub name_total : IsTotalOrder name_cmp
name_total = nat_list_cmp_total

-- ---- the values of a row

pub not_null : (b : Bool) → not b ≡ true → b ≡ false
not_null true h = sym h
not_null false h = refl

-- the value at a place is of the column's type, or missing
typed_at : (at : ℕ) (columns : List Column) (values : Row) → are_typed Rattle.std.proofs.Common.None at columns values ≡ true → (i : ℕ) (c : Column) → slice_get columns i ≡ Some c → c.is_strict ≡ true
    → is_of c.kind (slice_index_or values i Null) ≡ true
typed_at at [] values h i c found strict = cc
typed_at at (d ∷ columns) [] h i c found strict = refl
typed_at at (d ∷ columns) (v ∷ values) h zero c found strict = let same : d ≡ c = cc in let first : suits d v ≡ true = (and_parts _ _ h).0 in rw (same, strict) at first
typed_at at (d ∷ columns) (v ∷ values) h (suc i) c found strict = typed_at (at + 1) columns values (and_parts _ _ h).1 i c found strict

pub is_integer : (v : Value) → is_of kind.Integer v ≡ true → is_null v ≡ false → v ≡ Int (id_in v)
is_integer Null h n = absurd (true≢false n)
is_integer (Int m) h n = refl
is_integer (Real x) h n = absurd (true≢false (sym h))
is_integer (Text t) h n = absurd (true≢false (sym h))
is_integer (Blob b) h n = absurd (true≢false (sym h))

is_text : (v : Value) → is_of kind.Text v ≡ true → is_null v ≡ false → v ≡ Text (bytes v)
is_text Null h n = absurd (true≢false n)
is_text (Int m) h n = absurd (true≢false (sym h))
is_text (Real x) h n = absurd (true≢false (sym h))
is_text (Text t) h n = refl
is_text (Blob b) h n = absurd (true≢false (sym h))

is_blob : (v : Value) → is_of kind.Blob v ≡ true → is_null v ≡ false → v ≡ Blob (bytes v)
is_blob Null h n = absurd (true≢false n)
is_blob (Int m) h n = absurd (true≢false (sym h))
is_blob (Real x) h n = absurd (true≢false (sym h))
is_blob (Text t) h n = absurd (true≢false (sym h))
is_blob (Blob b) h n = refl

pub int_is : (v : Value) → IsTrue (is_int v) → v ≡ Int (id_in v)
int_is Null h = absurd (true≢false (sym h))
int_is (Int n) h = refl
int_is (Real x) h = absurd (true≢false (sym h))
int_is (Text t) h = absurd (true≢false (sym h))
int_is (Blob b) h = absurd (true≢false (sym h))

-- ---- tables

pub record IsNameRow (row : Row) : Type 0 where
  pub id : column row 0 ≡ Int (id_in (column row 0))
  pub name : column row 2 ≡ Text (bytes (column row 2))

name_typed : (db : Trees) (row : Row) → (passes Datatype store_schema db (tab_table 1) row ≡ true) × (passes NotNull store_schema db (tab_table 1) row ≡ true) → IsTrue (is_int (rowid row)) → IsNameRow row
name_typed db [] typed id = absurd (true≢false (sym typed.1))
name_typed db (r ∷ []) typed id = absurd (true≢false (sym typed.1))
name_typed db (r ∷ v ∷ []) typed id = absurd (true≢false (sym typed.1))
name_typed db (r ∷ v ∷ w ∷ values) typed id = record {
  id = int_is r id;
  name = is_text w (and_parts _ _ (and_parts _ _ (and_parts _ _ typed.0).0).1).0 (not_null _ (and_parts _ _ typed.1).0);
}

pub are_names : (db : Trees) → IsSound store_schema db → HasOwnRowids (db 1) → AllByRecursion IsNameRow (db 1)
are_names db sound shaped =
    let typed = all_both _ (λ row. passes NotNull store_schema db (tab_table 1) row ≡ true) (λ row. (passes Datatype store_schema db (tab_table 1) row ≡ true) × (passes NotNull store_schema db (tab_table 1) row ≡ true)) (λ row h k. (h, k)) (db 1) (sound.obeys.rules Datatype).1.0 (sound.obeys.rules NotNull).1.0 in
    all_both _ (λ row. IsTrue (is_int (rowid row))) IsNameRow (name_typed db) (db 1) typed shaped.1

-- ---- cells

pub record IsCellRow (row : Row) : Type 0 where
  pub tab : column row 1 ≡ Int (id_in (column row 1))
  pub docid : column row 2 ≡ Int (id_in (column row 2))
  pub at : column row 3 ≡ Int (id_in (column row 3))

cell_typed : (db : Trees) (row : Row) → passes Datatype store_schema db (cell_table 5) row ≡ true → passes NotNull store_schema db (cell_table 5) row ≡ true → IsCellRow row
cell_typed db [] typed there = absurd (true≢false (sym there))
cell_typed db (r ∷ values) typed there =
    let kinds = typed_at 0 (cell_table 5).columns values (and_parts _ _ typed).0 in
    let n1 = (and_parts _ _ there).1 in
    let n2 = (and_parts _ _ n1).1 in
    record {
      tab = is_integer _ (kinds 0 _ refl refl) (not_null _ (and_parts _ _ there).0);
      docid = is_integer _ (kinds 1 _ refl refl) (not_null _ (and_parts _ _ n1).0);
      at = is_integer _ (kinds 2 _ refl refl) (not_null _ (and_parts _ _ n2).0);
    }

pub are_cells : (db : Trees) → IsSound store_schema db → AllByRecursion IsCellRow (db 5)
are_cells db sound = all_both _ (λ row. passes NotNull store_schema db (cell_table 5) row ≡ true) IsCellRow (cell_typed db) (db 5) (sound.obeys.rules Datatype).1.1.1.0 (sound.obeys.rules NotNull).1.1.1.0

-- ---- columns

pub record IsColumnRow (row : Row) : Type 0 where
  pub tab : column row 1 ≡ Int (id_in (column row 1))
  pub at : column row 2 ≡ Int (id_in (column row 2))
  pub name : column row 3 ≡ Text (bytes (column row 3))

column_typed : (db : Trees) (row : Row) → passes Datatype store_schema db (col_table 3) row ≡ true → passes NotNull store_schema db (col_table 3) row ≡ true → IsColumnRow row
column_typed db [] typed there = absurd (true≢false (sym there))
column_typed db (r ∷ values) typed there =
    let kinds = typed_at 0 (col_table 3).columns values (and_parts _ _ typed).0 in
    let n1 = (and_parts _ _ there).1 in
    record {
      tab = is_integer _ (kinds 0 _ refl refl) (not_null _ (and_parts _ _ there).0);
      at = is_integer _ (kinds 1 _ refl refl) (not_null _ (and_parts _ _ n1).0);
      name = is_text _ (kinds 2 _ refl refl) (not_null _ (and_parts _ _ (and_parts _ _ n1).1).0);
    }

pub are_columns : (db : Trees) → IsSound store_schema db → AllByRecursion IsColumnRow (db 3)
are_columns db sound = all_both _ (λ row. passes NotNull store_schema db (col_table 3) row ≡ true) IsColumnRow (column_typed db) (db 3) (sound.obeys.rules Datatype).1.1.0 (sound.obeys.rules NotNull).1.1.0

-- ---- posting rows

pub record IsListRow (row : Row) : Type 0 where
  pub tab : column row 1 ≡ Int (id_in (column row 1))
  pub term : column row 2 ≡ Text (bytes (column row 2))
  pub docid : column row 3 ≡ Int (id_in (column row 3))
  pub list : column row 4 ≡ Blob (bytes (column row 4))

list_typed : (db : Trees) (row : Row) → passes Datatype store_schema db (posting_table 7) row ≡ true → passes NotNull store_schema db (posting_table 7) row ≡ true → IsListRow row
list_typed db [] typed there = absurd (true≢false (sym there))
list_typed db (r ∷ values) typed there =
    let kinds = typed_at 0 (posting_table 7).columns values (and_parts _ _ typed).0 in
    let n1 = (and_parts _ _ there).1 in
    let n2 = (and_parts _ _ n1).1 in
    let n3 = (and_parts _ _ n2).1 in
    record {
      tab = is_integer _ (kinds 0 _ refl refl) (not_null _ (and_parts _ _ there).0);
      term = is_text _ (kinds 1 _ refl refl) (not_null _ (and_parts _ _ n1).0);
      docid = is_integer _ (kinds 2 _ refl refl) (not_null _ (and_parts _ _ n2).0);
      list = is_blob _ (kinds 3 _ refl refl) (not_null _ (and_parts _ _ n3).0);
    }

pub are_lists : (db : Trees) → IsSound store_schema db → AllByRecursion IsListRow (db 7)
are_lists db sound = all_both _ (λ row. passes NotNull store_schema db (posting_table 7) row ≡ true) IsListRow (list_typed db) (db 7) (sound.obeys.rules Datatype).1.1.1.1.0 (sound.obeys.rules NotNull).1.1.1.1.0

-- ---- sizes

pub record IsSizeRow (row : Row) : Type 0 where
  pub tab : column row 1 ≡ Int (id_in (column row 1))
  pub docid : column row 2 ≡ Int (id_in (column row 2))
  pub at : column row 3 ≡ Int (id_in (column row 3))
  pub n : column row 4 ≡ Int (id_in (column row 4))

size_typed : (db : Trees) (row : Row) → passes Datatype store_schema db (sizes_table 9) row ≡ true → passes NotNull store_schema db (sizes_table 9) row ≡ true → IsSizeRow row
size_typed db [] typed there = absurd (true≢false (sym there))
size_typed db (r ∷ values) typed there =
    let kinds = typed_at 0 (sizes_table 9).columns values (and_parts _ _ typed).0 in
    let n1 = (and_parts _ _ there).1 in
    let n2 = (and_parts _ _ n1).1 in
    let n3 = (and_parts _ _ n2).1 in
    record {
      tab = is_integer _ (kinds 0 _ refl refl) (not_null _ (and_parts _ _ there).0);
      docid = is_integer _ (kinds 1 _ refl refl) (not_null _ (and_parts _ _ n1).0);
      at = is_integer _ (kinds 2 _ refl refl) (not_null _ (and_parts _ _ n2).0);
      n = is_integer _ (kinds 3 _ refl refl) (not_null _ (and_parts _ _ n3).0);
    }

pub are_sizes : (db : Trees) → IsSound store_schema db → AllByRecursion IsSizeRow (db 9)
are_sizes db sound = all_both _ (λ row. passes NotNull store_schema db (sizes_table 9) row ≡ true) IsSizeRow (size_typed db) (db 9) (sound.obeys.rules Datatype).1.1.1.1.1.0 (sound.obeys.rules NotNull).1.1.1.1.1.0

-- ---- noted names

pub record IsNoteRow (row : Row) : Type 0 where
  pub name : column row 1 ≡ Text (bytes (column row 1))

note_typed : (db : Trees) (row : Row) → passes Datatype store_schema db (noted_table 11) row ≡ true → passes NotNull store_schema db (noted_table 11) row ≡ true → IsNoteRow row
note_typed db [] typed there = absurd (true≢false (sym there))
note_typed db (r ∷ values) typed there =
    let kinds = typed_at 0 (noted_table 11).columns values (and_parts _ _ typed).0 in
    record {
      name = is_text _ (kinds 0 _ refl refl) (not_null _ (and_parts _ _ there).0);
    }

pub are_notes : (db : Trees) → IsSound store_schema db → AllByRecursion IsNoteRow (db 11)
are_notes db sound = all_both _ (λ row. passes NotNull store_schema db (noted_table 11) row ≡ true) IsNoteRow (note_typed db) (db 11) (sound.obeys.rules Datatype).1.1.1.1.1.1.0 (sound.obeys.rules NotNull).1.1.1.1.1.1.0

-- ---- columns that aren't indexed

pub record IsSkipRow (row : Row) : Type 0 where
  pub tab : column row 1 ≡ Int (id_in (column row 1))
  pub at : column row 2 ≡ Int (id_in (column row 2))

skip_typed : (db : Trees) (row : Row) → passes Datatype store_schema db (skip_table 13) row ≡ true → passes NotNull store_schema db (skip_table 13) row ≡ true → IsSkipRow row
skip_typed db [] typed there = absurd (true≢false (sym there))
skip_typed db (r ∷ values) typed there =
    let kinds = typed_at 0 (skip_table 13).columns values (and_parts _ _ typed).0 in
    let n1 = (and_parts _ _ there).1 in
    record {
      tab = is_integer _ (kinds 0 _ refl refl) (not_null _ (and_parts _ _ there).0);
      at = is_integer _ (kinds 1 _ refl refl) (not_null _ (and_parts _ _ n1).0);
    }

pub are_skips : (db : Trees) → IsSound store_schema db → AllByRecursion IsSkipRow (db 13)
are_skips db sound = all_both _ (λ row. passes NotNull store_schema db (skip_table 13) row ≡ true) IsSkipRow (skip_typed db) (db 13) (sound.obeys.rules Datatype).1.1.1.1.1.1.1.0 (sound.obeys.rules NotNull).1.1.1.1.1.1.1.0

-- ---- rows whose rowids are integers, no two the same

abbrev pub IsInt : Row → Type 0
IsInt r = IsTrue (is_int (rowid r))

abbrev pub DifferIn : Row → Row → Type 0
DifferIn a b = rowid a ≢ rowid b

pub unequal_ints : (m n : ℤ) → (m ≡ n → ⊥) → is_eq (int_cmp m n) ≡ false
unequal_ints m n h = go (int_cmp m n) refl
  where
    go : (o : Ordering) → int_cmp m n ≡ o → is_eq o ≡ false
    go Less e = refl
    go Equal e = absurd (h (tied_ints m n e))
    go Greater e = refl

pub unequal : (v w : Value) (m n : ℤ) → v ≡ Int m → w ≡ Int n → v ≢ w → is_eq (int_cmp m n) ≡ false
unequal v w m n p q apart = unequal_ints m n (λ same. apart (p ∙ ap Int same ∙ sym q))

pub apart_rows : (a b : Row) → IsInt a → IsInt b → DifferIn a b → is_eq (value_cmp (rowid a) (rowid b)) ≡ false
apart_rows a b p q apart = ap is_eq (ap₂ value_cmp (int_is _ p) (int_is _ q) ∙ value_cmp-Int _ _) ∙ unequal (rowid a) (rowid b) _ _ (int_is _ p) (int_is _ q) apart

untaken : (r new : Row) → is_eq (value_cmp (rowid r) (rowid new)) ≡ false → DifferIn r new
untaken r new h e = true≢false (sym (ap is_eq (ap (value_cmp (rowid r)) (sym e) ∙ tied_itself value_cmp_total (rowid r))) ∙ h)

or_first : (a b : Bool) → (a || b) ≡ false → a ≡ false
or_first true b h = h
or_first false b h = refl

or_second : (a b : Bool) → (a || b) ≡ false → b ≡ false
or_second true b h = absurd (true≢false h)
or_second false b h = h

all_untaken : (rows : List Row) (new : Row) → is_taken rows new ≡ false → AllByRecursion (DifferIn new) rows
all_untaken [] new h = tt
all_untaken (r ∷ rows) new h = (λ e. untaken r new (or_first _ _ h) (sym e), all_untaken rows new (or_second _ _ h))

all-put_row : (P : Row → Type 0) (new : Row) (rows : List Row) → P new → AllByRecursion P rows → AllByRecursion P (put_row new rows)
all-put_row P new [] p all = (p, tt)
all-put_row P new (r ∷ rows) p all = elim (value_cmp (rowid r) (rowid new)) as (λ o. AllByRecursion P (match_ordering o (r ∷ put_row new rows) (new ∷ rows) (new ∷ r ∷ rows))) [
  | Less ↦ (all.0, all-put_row P new rows p all.1)
  | Equal ↦ (p, all.1)
  | Greater ↦ (p, all)
]

differ-put_row : (new : Row) (rows : List Row) → AllByRecursion (DifferIn new) rows → IsAscending DifferIn rows → IsAscending DifferIn (put_row new rows)
differ-put_row new [] apart up = (tt, tt)
differ-put_row new (r ∷ rows) apart up = elim (value_cmp (rowid r) (rowid new)) as (λ o. IsAscending DifferIn (match_ordering o (r ∷ put_row new rows) (new ∷ rows) (new ∷ r ∷ rows))) [
  | Less ↦ (all-put_row (DifferIn r) new rows (λ e. apart.0 (sym e)) up.0, differ-put_row new rows apart.1 up.1)
  | Equal ↦ (apart.1, up.1)
  | Greater ↦ (apart, up)
]

-- the first new row has a rowid of its own, and so have those after it
pub fresh_first : (a b : Bool) → (not a && b) ≡ true → a ≡ false
fresh_first true b h = sym h
fresh_first false b h = refl

pub fresh_later : (a b : Bool) → (not a && b) ≡ true → b ≡ true
fresh_later true b h = absurd (true≢false (sym h))
fresh_later false b h = h

-- rows are added, and rows are taken out
pub own-put_row : (new : Row) (rows : List Row) → IsInt new → is_taken rows new ≡ false → HasOwnRowids rows → HasOwnRowids (put_row new rows)
own-put_row new rows int free own = (differ-put_row new rows (all_untaken rows new free) own.0, all-put_row IsInt new rows int own.1)

pub own-put_all : (news rows : List Row) → AllByRecursion IsInt news → are_fresh rows news ≡ true → HasOwnRowids rows → HasOwnRowids (put_all rows news)
own-put_all [] rows ints fresh own = own
own-put_all (new ∷ news) rows ints fresh own = own-put_all news (put_row new rows) ints.1 (fresh_later _ _ fresh) (own-put_row new rows ints.0 (fresh_first _ _ fresh) own)

pub own-filter : (p : Row → Bool) (rows : List Row) → HasOwnRowids rows → HasOwnRowids (filter p rows)
own-filter p rows own = (ascending-filter DifferIn p rows own.0, all-filter IsInt p rows own.1)
