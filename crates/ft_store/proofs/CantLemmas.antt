-- How the rowids of a table go on when rows are put and taken out, and why changes are refused, told by the rows before all of them.
use Rattle.std.proofs.Common.{◌≡◌, ◌⊎◌, ◌≤◌, ◌+◌, ◌-◌, ◌^◌, ◌≤ℤ◌, ◌<ℤ◌, ◌+ℤ◌, ℕ, ℤ, pos, negsuc, suc, Bool, true, false, ◌&&◌, cond, drop, List, [], ◌∷◌, ◌++◌, fold, filter, length, Less, Equal, Greater, refl, sym, ap, ◌∙◌, subst, arith, inl, inr, true≢false, ltb-false, ◌<◌, map, take, get_or, All, append_assoc, Any, String, string_bytes, sum_by, length-take-le}
use Rattle.ft_store.proofs.Common.{AllByRecursion, list_all, match_ordering, ints, fold_push, Null, Int, Row, Trees, value_cmp, value_cmp-Int}
use Rattle.ft_store.proofs.Common.{IsAscending, IsTable, rowid, put_row, fits_i64, id_in, next_rowid, is_taken, are_fresh, put_all, numbered}
use Rattle.ft_store.proofs.Common.{with_rowid, Chosen, ascending-filter, all-filter, all_both, all_weaker, all_of, Global, length-map, get_or-map}
use Rattle.ft_store.proofs.Common.{recursion_from_All, sum_by-append, sum_by-cons, State, HasCleanDisk, Survives, Has, any_has, RowChange, StoreValue}
use Rattle.ft_store.proofs.Common.{Change, AddTable, PutCell, PutEntries, PutSize, Note, all_applied, shown_change}
use Rattle.ft_values.specs.declared.rows.RowChange.TheVariants as row
use Rattle.sqlite_rules.proofs.PlaceLemmas.{next_is_free}
use Rattle.sqlite_keyed.proofs.KeyedLemmas.{lt_from_Less, Less-from_lt}
use Rattle.ft_store.proofs.TypedLemmas.{int_is, IsInt}
use Rattle.ft_store.specs.Puts.{at_least_zero, last_number, AreRowids, IsFull, IsGrown, AreGrown, chosen_trees, IsTooBig, IsBigEntry, rows_put, CantPut, CantPutAll}
use Rattle.ft_store.specs.Rows.{value_of}
use Rattle.ft_store.specs.Calls.{Goes}
use Rattle.ft_store.specs.Groups.{PackedList, PutsList, entry_put}
use Rattle.ft_store.specs.Blame.{IsBlamed, TakesOut}
use Rattle.ft_store.proofs.BlameLemmas.{blamed_then}
use Rattle.ft_store.proofs.GroupLemmas.{applied-append}

-- ---- rowids that rise

abbrev num : Row → ℕ
num r = at_least_zero (id_in (rowid r))

at_least_zero-lt : (m n : ℤ) → m <ℤ n → at_least_zero m ≤ at_least_zero n
at_least_zero-lt (pos m) (pos n) h = omega (arith, ints, h)
at_least_zero-lt (pos m) (negsuc n) h = absurd (omega (arith, ints, h))
at_least_zero-lt (negsuc m) n h = omega arith

pub ids_rise : (a b : Row) → IsInt a → IsInt b → value_cmp (rowid a) (rowid b) ≡ Less → id_in (rowid a) <ℤ id_in (rowid b)
ids_rise a b p q h = lt_from_Less _ _ (sym (value_cmp-Int _ _) ∙ (λ i. value_cmp (sym (int_is _ p) i) (sym (int_is _ q) i)) ∙ h)

-- the last number of what is left is no higher
last_filter : (p : Row → Bool) (rows : List Row) (a b : ℕ) → a ≤ b → AllByRecursion (λ r. b ≤ num r) rows → IsTable rows → AllByRecursion IsInt rows
    → fold (λ _ r. num r) a (filter p rows) ≤ fold (λ _ r. num r) b rows
last_filter p [] a b low above up ints_ = low
last_filter p (r ∷ rows) a b low above up keyed =
    let later = all_both (λ s. value_cmp (rowid r) (rowid s) ≡ Less) IsInt (λ s. num r ≤ num s) (λ s less int. at_least_zero-lt _ _ (ids_rise r s keyed.0 int less)) rows up.0 keyed.1 in
    elim (p r) as (λ c. fold (λ _ s. num s) a (cond c (r ∷ filter p rows) (filter p rows)) ≤ fold (λ _ s. num s) (num r) rows) [
      | true ↦ last_filter p rows (num r) (num r) (omega arith) later up.1 keyed.1
      | false ↦ last_filter p rows a (num r) (omega (arith, low, above.0)) later up.1 keyed.1
    ]

pub grown_filter : (p : Row → Bool) (rows : List Row) → AllByRecursion IsInt rows → IsGrown 0 rows (filter p rows)
grown_filter p rows keyed is = (
  record { rise = ascending-filter _ p rows is.rise; fit = all-filter _ p rows is.fit },
  omega (arith, last_filter p rows 0 0 (omega arith) (all_weaker IsInt (λ r. 0 ≤ num r) (λ r _. omega arith) rows keyed) is.rise keyed),
)

pub grown_same : (count : ℕ) (old new : List Row) → new ≡ old → IsGrown count old new
grown_same count old new same is = (subst AreRowids (sym same) is, (let e = ap last_number same in omega (arith, e)))

-- ---- a row that is put behind the last

put_last : (new : Row) (rows : List Row) → AllByRecursion (λ r. value_cmp (rowid r) (rowid new) ≡ Less) rows → put_row new rows ≡ rows ++ new ∷ []
put_last new [] below = refl
put_last new (r ∷ rows) below = rw below.0 (ap (λ x. r ∷ x) (put_last new rows below.1))

all_push : {X : Type 0} (P : X → Type 0) (xs : List X) (x : X) → AllByRecursion P xs → P x → AllByRecursion P (xs ++ x ∷ [])
all_push P [] x all here = (here, tt)
all_push P (y ∷ xs) x all here = (all.0, all_push P xs x all.1 here)

pub ascending_push : {X : Type 0} (R : X → X → Type 0) (xs : List X) (x : X) → IsAscending R xs → AllByRecursion (λ y. R y x) xs → IsAscending R (xs ++ x ∷ [])
ascending_push R [] x up below = (tt, tt)
ascending_push R (y ∷ xs) x up below = (all_push (R y) xs x up.0 below.0, ascending_push R xs x up.1 below.1)

abbrev step : ℤ → Row → ℤ
step n r = id_in (rowid r) +ℤ pos 1

-- the next rowid is above all
below_next : (start : ℤ) (x : Row) (rows : List Row) → IsTable (x ∷ rows) → AllByRecursion IsInt (x ∷ rows) → AllByRecursion (λ r. id_in (rowid r) <ℤ fold step start (x ∷ rows)) (x ∷ rows)
below_next start x [] up keyed = (omega (arith, ints), tt)
below_next start x (y ∷ rows) up keyed =
    let later = below_next (step start x) y rows up.1 keyed.1 in
    let lower = ids_rise x y keyed.0 keyed.1.0 up.0.0 in
    let first = later.0 in
    (omega (arith, ints, lower, first), later)

below : (rows : List Row) → IsTable rows → AllByRecursion IsInt rows → AllByRecursion (λ r. id_in (rowid r) <ℤ next_rowid rows) rows
below [] up keyed = tt
below (x ∷ rows) up keyed = below_next (pos 1) x rows up keyed

less_than_new : (new : Row) (n : ℤ) → rowid new ≡ Int n → (r : Row) → id_in (rowid r) <ℤ n → IsInt r → value_cmp (rowid r) (rowid new) ≡ Less
less_than_new new n is r low int = (λ i. value_cmp (int_is _ int i) (is i)) ∙ value_cmp-Int _ _ ∙ Less-from_lt _ _ low

one_above : (z w : ℤ) → w ≡ z +ℤ pos 1 → at_least_zero w ≤ at_least_zero z + 1
one_above (pos m) (pos n) e = omega (arith, ints, e)
one_above (negsuc m) (pos n) e = omega (arith, ints, e)
one_above z (negsuc n) e = omega arith

one_more : (z : ℤ) → at_least_zero (z +ℤ pos 1) ≤ at_least_zero z + 1
one_more z = one_above z (z +ℤ pos 1) refl

next_low : (rows : List Row) (x : ℤ) (y : ℕ) → at_least_zero x ≤ y + 1 → at_least_zero (fold step x rows) ≤ fold (λ _ r. num r) y rows + 1
next_low [] x y low = low
next_low (r ∷ rows) x y low = next_low rows (step x r) (num r) (one_more (id_in (rowid r)))

next_fit : (rows : List Row) (x : ℤ) → negsuc (2 ^ 63 - 1) ≤ℤ x → AllByRecursion (λ r. negsuc (2 ^ 63 - 1) ≤ℤ id_in (rowid r)) rows → negsuc (2 ^ 63 - 1) ≤ℤ fold step x rows
next_fit [] x low all = low
next_fit (r ∷ rows) x low all = let first = all.0 in next_fit rows (step x r) (omega (arith, ints, first)) all.1

least : negsuc (2 ^ 63 - 1) ≤ℤ pos 1
least = omega (arith, ints)

grown_put : (new : Row) (rows : List Row) → AllByRecursion IsInt rows → rowid new ≡ Int (next_rowid rows) → IsGrown 1 rows (put_row new rows)
grown_put new rows keyed is ok =
    let lower = all_both (λ r. id_in (rowid r) <ℤ next_rowid rows) IsInt (λ r. value_cmp (rowid r) (rowid new) ≡ Less) (less_than_new new (next_rowid rows) is) rows (below rows ok.rise keyed) keyed in
    let behind = put_last new rows lower in
    let id : id_in (rowid new) ≡ next_rowid rows = ap id_in is in (
      record {
        rise = subst IsTable (sym behind) (ascending_push _ rows new ok.rise lower);
        fit = subst (AllByRecursion (λ r. negsuc (2 ^ 63 - 1) ≤ℤ id_in (rowid r))) (sym behind) (all_push _ rows new ok.fit (subst (λ z. negsuc (2 ^ 63 - 1) ≤ℤ z) (sym id) (next_fit rows (pos 1) least ok.fit)));
      },
      subst (λ n. n ≤ last_number rows + 1) (sym (ap last_number behind ∙ fold_push _ 0 rows new ∙ ap at_least_zero id)) (next_low rows (pos 1) 0 (omega arith)),
    )

pub grown_then : (n m : ℕ) (a b c : List Row) → IsGrown n a b → IsGrown m b c → IsGrown (n + m) a c
grown_then n m a b c one two is =
    let first = one is in
    let second = two first.0 in
    let low = first.1 in
    let high = second.1 in
    (second.0, omega (arith, low, high))

pub full_since : (n m : ℕ) (a b : List Row) → IsGrown n a b → IsFull m b → IsFull (n + m) a
full_since n m a b one full is =
    let first = one is in
    let low = first.1 in
    let high = full first.0 in
    omega (arith, low, high)

pub full_more : (n m : ℕ) (a : List Row) → n ≤ m → IsFull n a → IsFull m a
full_more n m a le full is = let high = full is in omega (arith, le, high)

-- the next rowid is no number of 64 bits
unfit : (rows : List Row) (z : ℤ) → z ≡ next_rowid rows → fits_i64 z ≡ false → IsFull 1 rows
unfit rows (pos n) is out ok =
    let high = ltb-false n (2 ^ 63) out in
    let low : n ≤ last_number rows + 1 = subst (λ z. at_least_zero z ≤ last_number rows + 1) (sym is) (next_low rows (pos 1) 0 (omega arith)) in
    omega (arith, high, low)
unfit rows (negsuc n) is out ok =
    let high = ltb-false n (2 ^ 63) out in
    let low = subst (λ z. negsuc (2 ^ 63 - 1) ≤ℤ z) (sym is) (next_fit rows (pos 1) least ok.fit) in
    absurd (omega (arith, ints, high, low))

-- ---- rows that are given rowids

abbrev pub IsUnnumbered : Row → Type 0
IsUnnumbered row = rowid row ≡ Null

chosen_is : (rows : List Row) (row : Row) → IsUnnumbered row → rowid (with_rowid Chosen rows row) ≡ Int (next_rowid rows)
chosen_is rows row is = rw is refl

chosen_int : (rows : List Row) (row : Row) → IsUnnumbered row → IsInt (with_rowid Chosen rows row)
chosen_int rows row is = rw is refl

ints_put : (new : Row) (rows : List Row) → IsInt new → AllByRecursion IsInt rows → AllByRecursion IsInt (put_row new rows)
ints_put new [] int keyed = (int, tt)
ints_put new (r ∷ rows) int keyed = elim (value_cmp (rowid r) (rowid new)) as (λ o. AllByRecursion IsInt (match_ordering o (r ∷ put_row new rows) (new ∷ rows) (new ∷ r ∷ rows))) [
  | Less ↦ (keyed.0, ints_put new rows int keyed.1)
  | Equal ↦ (int, keyed.1)
  | Greater ↦ (int, keyed)
]

module _ (rows : List Row) (keyed : AllByRecursion IsInt rows) (row : Row) (bare : IsUnnumbered row) where
  abbrev new : Row
  new = with_rowid Chosen rows row

  put_one : IsGrown 1 rows (put_row new rows)
  put_one = grown_put new rows keyed (chosen_is rows row bare)

  put_ints : AllByRecursion IsInt (put_row new rows)
  put_ints = ints_put new rows (chosen_int rows row bare) keyed

  put_free : IsTable rows → is_taken rows new ≡ false
  put_free up = rw bare (next_is_free Chosen rows (drop 1 row) up keyed)

  put_unfit : fits_i64 (id_in (rowid new)) ≡ false → IsFull 1 rows
  put_unfit h = unfit rows (id_in (rowid new)) (ap id_in (chosen_is rows row bare)) h

pub numbered_ints : (sources rows : List Row) → AllByRecursion IsUnnumbered sources → AllByRecursion IsInt (numbered Chosen rows sources)
numbered_ints [] rows bare = tt
numbered_ints (s ∷ sources) rows bare = (chosen_int rows s bare.0, numbered_ints sources _ bare.1)

pub numbered_grown : (sources rows : List Row) → AllByRecursion IsInt rows → AllByRecursion IsUnnumbered sources → IsGrown (length sources) rows (put_all rows (numbered Chosen rows sources))
numbered_grown [] rows keyed bare ok = grown_same 0 rows rows refl ok
numbered_grown (s ∷ sources) rows keyed bare ok =
    let next = numbered_grown sources (put_row (with_rowid Chosen rows s) rows) (put_ints rows keyed s bare.0) bare.1 in
    let all = grown_then 1 (length sources) rows _ _ (put_one rows keyed s bare.0) next ok in
    let low = all.1 in
    (all.0, omega (arith, low))

and_false : (a b : Bool) → (a && b) ≡ false → (a ≡ false) ⊎ (b ≡ false)
and_false true b h = inr h
and_false false b h = inl refl

pub numbered_fresh : (sources rows : List Row) → AllByRecursion IsInt rows → AllByRecursion IsUnnumbered sources → AreRowids rows → are_fresh rows (numbered Chosen rows sources) ≡ true
numbered_fresh [] rows keyed bare ok = refl
numbered_fresh (s ∷ sources) rows keyed bare ok = rw (put_free rows keyed s bare.0 ok.rise) (numbered_fresh sources _ (put_ints rows keyed s bare.0) bare.1 (put_one rows keyed s bare.0 ok).0)

-- rows that are not fresh or get no rowid: the table is full
pub stale_full : (sources rows : List Row) → AllByRecursion IsInt rows → AllByRecursion IsUnnumbered sources → are_fresh rows (numbered Chosen rows sources) ≡ false → IsFull (length sources) rows
stale_full sources rows keyed bare stale ok = absurd (true≢false (sym (numbered_fresh sources rows keyed bare ok) ∙ stale))

pub unfit_full : (sources rows : List Row) → AllByRecursion IsInt rows → AllByRecursion IsUnnumbered sources → list_all (λ r. fits_i64 (id_in (rowid r))) (numbered Chosen rows sources) ≡ false → IsFull (length sources) rows
unfit_full [] rows keyed bare out = absurd (true≢false out)
unfit_full (s ∷ sources) rows keyed bare out = elim (and_false _ _ out) [
  | inl here ↦ full_more 1 (suc (length sources)) rows (omega arith) (put_unfit rows keyed s bare.0 here)
  | inr later ↦ full_more (1 + length sources) (suc (length sources)) rows (omega arith)
      (full_since 1 (length sources) rows _ (put_one rows keyed s bare.0) (unfit_full sources _ (put_ints rows keyed s bare.0) bare.1 later))
]

-- ---- the tables of a store

pub trees_then : (n m : ℕ) (a b c : Trees) → AreGrown n a b → AreGrown m b c → AreGrown (n + m) a c
trees_then n m a b c = all_both (λ t. IsGrown n (a t) (b t)) (λ t. IsGrown m (b t) (c t)) (λ t. IsGrown (n + m) (a t) (c t)) (λ t one two. grown_then n m (a t) (b t) (c t) one two) chosen_trees

pub trees_same : (n : ℕ) (a b : Trees) → b ≡ a → AreGrown n a b
trees_same n a b same = all_of (λ t. IsGrown n (a t) (b t)) (λ t. grown_same n (a t) (b t) (ap (λ db. db t) same)) chosen_trees

-- ---- one change

pub cant_since : (n m : ℕ) (a b : Trees) (v : StoreValue) (c : Change) → AreGrown n a b → CantPut m b v c → CantPut (n + m) a v c
cant_since n m a b v (AddTable tab name columns skipped) grown (inl full) = inl (full_since n m (a 3) (b 3) grown.0 full)
cant_since n m a b v (AddTable tab name columns skipped) grown (inr (inl full)) = inr (inl (full_since n m (a 13) (b 13) grown.1.1.1.1.1.0 full))
cant_since n m a b v (AddTable tab name columns skipped) grown (inr (inr other)) = inr (inr other)
cant_since n m a b v (PutCell tab docid column value) grown (inl full) = inl (full_since n m (a 5) (b 5) grown.1.0 full)
cant_since n m a b v (PutCell tab docid column value) grown (inr big) = inr big
cant_since n m a b v (PutEntries tab term docid spots) grown (inl full) = inl (full_since n m (a 7) (b 7) grown.1.1.0 full)
cant_since n m a b v (PutEntries tab term docid spots) grown (inr big) = inr big
cant_since n m a b v (PutSize tab docid column x) grown full = full_since n m (a 9) (b 9) grown.1.1.1.0 full
cant_since n m a b v (Note name) grown (inl full) = inl (full_since n m (a 11) (b 11) grown.1.1.1.1.0 full)
cant_since n m a b v (Note name) grown (inr big) = inr big
cant_since n m a b v _ grown none = absurd none

pub cant_more : (n m : ℕ) (db : Trees) (v : StoreValue) (c : Change) → n ≤ m → CantPut n db v c → CantPut m db v c
cant_more n m db v (AddTable tab name columns skipped) le (inl full) = inl (full_more n m (db 3) le full)
cant_more n m db v (AddTable tab name columns skipped) le (inr (inl full)) = inr (inl (full_more n m (db 13) le full))
cant_more n m db v (AddTable tab name columns skipped) le (inr (inr other)) = inr (inr other)
cant_more n m db v (PutCell tab docid column value) le (inl full) = inl (full_more n m (db 5) le full)
cant_more n m db v (PutCell tab docid column value) le (inr big) = inr big
cant_more n m db v (PutEntries tab term docid spots) le (inl full) = inl (full_more n m (db 7) le full)
cant_more n m db v (PutEntries tab term docid spots) le (inr big) = inr big
cant_more n m db v (PutSize tab docid column x) le full = full_more n m (db 9) le full
cant_more n m db v (Note name) le (inl full) = inl (full_more n m (db 11) le full)
cant_more n m db v (Note name) le (inr big) = inr big
cant_more n m db v _ le none = absurd none

-- ---- several changes

pub cant_one : (db : Trees) (c : Change) → CantPut (rows_put c) db (value_of db) c → CantPutAll db (c ∷ [])
cant_one db c why = record {
  done = [];
  change = c;
  left = [];
  are = refl;
  why = cant_more (rows_put c) (sum_by rows_put (c ∷ [])) db (value_of db) c (let e = sum_by-cons rows_put c [] in omega (arith, e)) why;
}

cant_first : (db : Trees) (xs ys : List Change) → CantPutAll db xs → CantPutAll db (xs ++ ys)
cant_first db xs ys it = record {
  done = it.done;
  change = it.change;
  left = it.left ++ ys;
  are = ap (λ l. l ++ ys) it.are ∙ append_assoc it.done (it.change ∷ it.left) ys;
  why = cant_more (sum_by rows_put xs) (sum_by rows_put (xs ++ ys)) db (all_applied it.done (value_of db)) it.change (let e = sum_by-append rows_put xs ys in omega (arith, e)) it.why;
}

cant_later : (a b : Trees) (xs ys : List Change) → AreGrown (sum_by rows_put xs) a b → value_of b ≡ all_applied xs (value_of a) → CantPutAll b ys → CantPutAll a (xs ++ ys)
cant_later a b xs ys grown is it = record {
  done = xs ++ it.done;
  change = it.change;
  left = it.left;
  are = ap (λ l. xs ++ l) it.are ∙ sym (append_assoc xs it.done (it.change ∷ it.left));
  why = subst (λ n. CantPut n a (all_applied (xs ++ it.done) (value_of a)) it.change) (sym (sum_by-append rows_put xs ys))
      (subst (λ v. CantPut (sum_by rows_put xs + sum_by rows_put ys) a v it.change) (ap (all_applied it.done) is ∙ sym (applied-append xs it.done (value_of a)))
      (cant_since (sum_by rows_put xs) (sum_by rows_put ys) a b (all_applied it.done (value_of b)) it.change grown it.why));
}

-- some of them, after those before them
pub part_why : (old was new : State) (C D : _) (done part rest whole : List Change) → whole ≡ (done ++ part) ++ rest → HasCleanDisk was → Survives old was C → Survives was new D → Goes old was (all_applied done (value_of old.now.trees))
    → AreGrown (sum_by rows_put done) old.now.trees was.now.trees → IsBlamed was new ⊎ CantPutAll was.now.trees part → IsBlamed old new ⊎ CantPutAll old.now.trees whole
part_why old was new C D done part rest whole is clean one two goes grown why = by_open old.is_open refl why
  where
    by_open : (o : Bool) → old.is_open ≡ o → IsBlamed was new ⊎ CantPutAll was.now.trees part → IsBlamed old new ⊎ CantPutAll old.now.trees whole
    by_open false shut h = inl (inr (inl shut))
    by_open true is_open (inl blamed) = inl (blamed_then old was new C D clean one two blamed)
    by_open true is_open (inr cant) = inr (subst (CantPutAll old.now.trees) (sym is) (cant_first old.now.trees (done ++ part) rest (cant_later old.now.trees was.now.trees done part grown (goes.going is_open).2 cant)))

-- ---- eight lists

big_entry : (c : RowChange) → PutsList c → IsBigEntry (entry_put c) → (n : ℕ) (db : Trees) (v : StoreValue) → CantPut n db v (shown_change c)
big_entry (row.PutEntries tab term docid spots) puts big n db v = inr big
big_entry _ puts big n db v = absurd puts

full_entry : (c : RowChange) → PutsList c → (n : ℕ) (db : Trees) (v : StoreValue) → IsFull n (db 7) → CantPut n db v (shown_change c)
full_entry (row.PutEntries tab term docid spots) puts n db v full = inl full
full_entry _ puts n db v full = absurd puts

one_row : (c : RowChange) → PutsList c → rows_put (shown_change c) ≡ 1
one_row (row.PutEntries tab term docid spots) puts = refl
one_row _ puts = absurd puts

pub count_rows : (changes : List RowChange) → AllByRecursion PutsList changes → sum_by rows_put (map shown_change changes) ≡ length changes
count_rows [] all = refl
count_rows (c ∷ changes) all = let e = sum_by-cons rows_put (shown_change c) (map shown_change changes) in let one = one_row c all.0 in let more = count_rows changes all.1 in omega (arith, e, one, more)

-- one of them is too big
big_at : (changes : List RowChange) → AllByRecursion PutsList changes → (e : PackedList) → Has (map entry_put changes) e → IsBigEntry e
    → (done : List Change) × (change : Change) × (left : List Change) × (map shown_change changes ≡ done ++ change ∷ left) × ((n : ℕ) (db : Trees) (v : StoreValue) → CantPut n db v change)
big_at [] all e has big = absurd has
big_at (c ∷ changes) all e (inl same) big = ([], shown_change c, map shown_change changes, refl, big_entry c all.0 (subst IsBigEntry same big))
big_at (c ∷ changes) all e (inr later) big =
    let it = big_at changes all.1 e later big in (shown_change c ∷ it.0, it.1, it.2, ap (λ l. shown_change c ∷ l) it.3, it.4)

pub group_why : (db : Trees) (changes : List RowChange) → AllByRecursion PutsList changes → 0 < length changes → IsFull (length changes) (db 7) ⊎ Any IsBigEntry (map entry_put changes) → CantPutAll db (map shown_change changes)
group_why db [] all some why = absurd (omega (arith, some))
group_why db (c ∷ changes) all some (inl full) = record {
  done = [];
  change = shown_change c;
  left = map shown_change changes;
  are = refl;
  why = full_entry c all.0 (sum_by rows_put (map shown_change (c ∷ changes))) db (value_of db) (subst (λ n. IsFull n (db 7)) (sym (count_rows (c ∷ changes) all)) full);
}
group_why db (c ∷ changes) all some (inr big) =
    let found = any_has IsBigEntry (map entry_put (c ∷ changes)) big in
    let it = big_at (c ∷ changes) all found.0 found.1 found.2 in
    record { done = it.0; change = it.1; left = it.2; are = it.3; why = it.4 _ db (all_applied it.0 (value_of db)) }

-- ---- the columns of a table

pub big_name : (columns : List (String Global)) (i : ℕ) (name : String Global) → i < length columns → name ≡ get_or columns i name → IsTooBig 4 (length (string_bytes name)) → Any (λ c. IsTooBig 4 (length c)) (map string_bytes columns)
big_name columns i name within is big =
    (i, string_bytes name, (let e = length-map columns string_bytes in omega (arith, e, within)), get_or-map string_bytes columns i name (string_bytes name) within ∙ ap string_bytes (sym is), big)

-- ---- the front of a list, one element more

pub take_one : {X : Type 0} (xs : List X) (i : ℕ) → i < length xs → length (take (i + 1) xs) ≡ length (take i xs) + 1
take_one xs i within = let a = length-take-le i xs (omega (arith, within)) in let b = length-take-le (i + 1) xs (omega (arith, within)) in omega (arith, a, b)

pub room_left : {X : Type 0} (xs : List X) (i : ℕ) → i < length xs → length (take i xs) + 1 ≤ length xs
room_left xs i within = let a = length-take-le i xs (omega (arith, within)) in omega (arith, a, within)

-- ---- changes that only take rows out

takes_none : (c : RowChange) → TakesOut c → (n : ℕ) (db : Trees) (v : StoreValue) → CantPut n db v (shown_change c) → ⊥
takes_none (row.AddTable tab name columns skipped) takes n db v cant = true≢false (sym takes)
takes_none (row.DropTable tab) takes n db v cant = cant
takes_none (row.PutCell tab docid column value) takes n db v cant = true≢false (sym takes)
takes_none (row.DropCells tab docid) takes n db v cant = cant
takes_none (row.PutEntries tab term docid spots) takes n db v cant = true≢false (sym takes)
takes_none (row.DropEntries tab term docid) takes n db v cant = cant
takes_none (row.PutSize tab docid column x) takes n db v cant = true≢false (sym takes)
takes_none (row.DropSize tab docid column) takes n db v cant = cant
takes_none (row.ClearIndex tab) takes n db v cant = cant
takes_none (row.Note name) takes n db v cant = true≢false (sym takes)

abbrev NeverRefused : Change → Type 0
NeverRefused c = (n : ℕ) (db : Trees) (v : StoreValue) → CantPut n db v c → ⊥

all_never : (changes : List RowChange) → AllByRecursion TakesOut changes → AllByRecursion NeverRefused (map shown_change changes)
all_never [] all = tt
all_never (c ∷ changes) all = (takes_none c all.0, all_never changes all.1)

never_at : (done : List Change) (c : Change) (left : List Change) → AllByRecursion NeverRefused (done ++ c ∷ left) → NeverRefused c
never_at [] c left all = all.0
never_at (d ∷ done) c left all = never_at done c left all.1

pub nothing_put : (db : Trees) (changes : List RowChange) → All TakesOut changes → CantPutAll db (map shown_change changes) → ⊥
nothing_put db changes takes it =
    never_at it.done it.change it.left (subst (AllByRecursion NeverRefused) it.are (all_never changes (recursion_from_All TakesOut changes takes))) (sum_by rows_put (map shown_change changes)) db (all_applied it.done (value_of db)) it.why
