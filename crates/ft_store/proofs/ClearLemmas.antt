-- Queries of rows that stand in the way, and what is left of a store where its tables are made anew or lists are taken out in parts.
use Rattle.std.proofs.Common.{◌≡◌, ◌∙◌, ◌≤◌, ◌<◌, ◌+◌, ℕ, ℤ, pos, Bool, true, false, cond, List, [], ◌∷◌, map, filter, length, take, None, refl, sym, ap, subst, arith, IsTrue, nat_eq, ◌≢◌, ◌==◌, eqb-true, ◌⊎◌, Option, Some, Ok, Err, inl, inr, true≢false, ◌<ℤ◌, ◌≤ℤ◌, negsuc, ◌&&◌, ◌++◌, fold, get_or, Ordering, Equal, Less, Greater, is_eq, is_lt, T, is_some, IfSome, IsUtf8, Bor, not, Result, int_lt, int_le, ◌+ℤ◌, OnOk, int_cmp, int_eq, MutBor, is_le}
use Rattle.ft_store.proofs.Common.{AllByRecursion, list_all, eqb-false, length-map, length_permutation, Null, Int, Row, Trees, lit, holds, Output}
use Rattle.ft_store.proofs.Common.{output, IsAnswer, overlay, State, Shown, reads_as, Term, Nothing, Database, understood, reads_listing, IsSourceOf}
use Rattle.ft_store.proofs.Common.{timed, Executes, ExecutesIn, ExecutesInside, EndsScope, IsNotRun, IsUnchanged, IsTooLate, FailsToQuery, ShowsRows}
use Rattle.ft_store.proofs.Common.{Error, SqliteFailure, IsPlain, command_of, runs_as, unchanged_then, all_of, eq_by_cmp, IsTotalOrder, put, find}
use Rattle.ft_store.proofs.Common.{is_sorted, below_all, find-put, is_sorted-put, length-put, same_entries, ints, take_more, map-append, Text, column}
use Rattle.ft_store.proofs.Common.{IsTable, rowid, id_in, all_both, all_weaker, name_cmp, where_key, Value, col, is_true, binary, Compare, Eq, Lt, Le}
use Rattle.ft_store.proofs.Common.{Ge, Binary, Shows, HasCleanDisk, at_ints, last_term, all_map, IsSound, StoreValue, cell_key_cmp, list_key_cmp}
use Rattle.ft_store.proofs.Common.{column_key_cmp, without_index, on_ok_weaker, Ghosts, Held, state, ListKey}
use Rattle.sqlite.specs.declared.error.ErrorCode.TheVariants as code
use Rattle.ft_store.specs.Tables.{store_schema}
use Rattle.ft_store.specs.Anew.{IsProbe, IsFree, IsNear, probe_tree, probe_term, LooksAt, IsUntouched, IsShortNote, AreFree, AreNotes, Fills, compared, Thins}
use Rattle.ft_store.proofs.ChangeLemmas.{arranged, filter_twice, no_overlay}
use Rattle.ft_store.proofs.Texts.{query_by, blank_text, blank_is, blank_plain, blank_whole}
use Rattle.std.specs.Prelude.{⊤}
use Rattle.ft_store.specs.Calls.{IsStore, Steps, StepsOnOk, StaysUncommitted, IsPlainFault}
use Rattle.ft_store.specs.Blame.{IsBlamed, BlamesOutside}
use Rattle.ft_store.proofs.BlameLemmas.{fails_blamed, query_blamed, blamed_then, unless_shut}
use Rattle.ft_store.proofs.AnswerLemmas.{is_statement, query_only}
use Rattle.ft_store.proofs.RefusedLemmas.{fails_unless}
use Rattle.ft_store.specs.Rows.{keyed, table_entry, column_entry, skip_entry, cell_entry, list_entry, size_entry, note_entry, value_of}
use Rattle.ft_store.specs.Found.{found_note}
use Rattle.ft_store.specs.Groups.{put_each}
use Rattle.ft_store.specs.Puts.{at_least_zero, last_number, AreRowids, IsGrown, AreGrown, KeepsRest, GrowsOnOk}
use Rattle.ft_store.proofs.KeyedLemmas.{some_first, none_from, equal_from, is_sorted-keyed, keyed-where}
use Rattle.ft_store.proofs.CantLemmas.{ids_rise, grown_same, trees_then}
use Rattle.ft_store.proofs.TypedLemmas.{IsInt, tied_cell_keys, cell_key_total, tied_list_keys, list_key_total, tied_names, name_total, IsCellRow}
use Rattle.ft_store.proofs.TypedLemmas.{are_cells, IsListRow, are_lists, IsSizeRow, are_sizes, int_is}
use Rattle.ft_store.specs.Inside.{without_contents, without_lists}
use Rattle.ft_store.proofs.MakeLemmas.{shows_then}
use Rattle.ft_store.proofs.StoreTables.{same_store}
use Rattle.ft_store.specs.declared.fault.StoreFault.{StoreFault}
use Rattle.ft_store.specs.Changes.{Drops}
use Rattle.ft_store.proofs.InsideLemmas.{stays_then}
use Rattle.ft_values.specs.declared.rows.Spot.{Spot}

none_taken : {X : Type 0} (xs : List X) → [] ≡ take 1 xs → xs ≡ []
none_taken [] h = refl
none_taken (x ∷ xs) h = absurd cc

none_left : {X : Type 0} (xs : List X) → length xs ≡ 0 → xs ≡ []
none_left [] h = refl
none_left (x ∷ xs) h = absurd (omega (arith, h))

pub empty_rows : {X : Type 0} (rows : List X) → IsTrue (length rows == 0) → rows ≡ []
empty_rows rows h = none_left rows (eqb-true (length rows) 0 h)

each_fails : {X : Type 0} (p : X → Bool) (xs : List X) → filter p xs ≡ [] → AllByRecursion (λ x. p x ≡ false) xs
each_fails p [] h = tt
each_fails p (x ∷ xs) h = go (p x) refl h (each_fails p xs)
  where
    go : (b : Bool) → p x ≡ b → cond b (x ∷ filter p xs) (filter p xs) ≡ [] → (filter p xs ≡ [] → AllByRecursion (λ y. p y ≡ false) xs) → AllByRecursion (λ y. p y ≡ false) (x ∷ xs)
    go true is h more = absurd cc
    go false is h more = (is, more h)

-- a probe that gives no row
pub free_of : (at : ℕ) (text : List ℕ) (tab n : ℤ) (old new : State) (rows : List Row) → IsProbe at text → IsNear at tab n → old.now.schema ≡ store_schema → rows ≡ [] → Shown text (Int n ∷ []) old new rows → IsFree at tab old.now.trees
free_of at text tab n old new rows probe near has none h =
    let params = Int n ∷ [] in
    let it = probe n in
    let tree = probe_tree at in
    let terms = probe_term at ∷ [] in
    let db = overlay old.now.trees [] in
    let answer : IsAnswer (query_by tree terms it.show it.order (lit (Int (pos 1)))) db params rows = (reads_as text params old new store_schema has _ it.is it.plain it.unlisted rows h).answer Null in
    let shown : rows ≡ take 1 (map (λ (o : Output). o.1) answer.ordered) = answer.shown in
    let empty = none_taken (map (λ (o : Output). o.1) answer.ordered) (sym none ∙ shown) in
    let perm = arranged db tree terms it.show it.order (lit (Int (pos 1))) params rows answer in
    let size = length_permutation _ _ perm in
    let count = length-map answer.ordered (λ (o : Output). o.1) in
    let here = length-map (filter (λ r. list_all (holds (params ∷ r ∷ [])) terms) (db tree)) (λ r. output (query_by tree terms it.show it.order (lit (Int (pos 1)))) (params ∷ r ∷ [])) in
    let gone = ap length empty in
    let all = each_fails (λ r. list_all (holds (params ∷ r ∷ [])) terms) (db tree) (none_left _ (omega (arith, size, count, here, gone))) in
    (n, near, subst (AllByRecursion (λ r. list_all (holds (params ∷ r ∷ [])) terms ≡ false)) (no_overlay old.now.trees tree) all)

less_of : (i at : ℕ) → i < at + 1 → i ≢ at → i < at
less_of i at high other = grind (arith, high, other)

pub free_more : (from at : ℕ) (tab : ℤ) (db : Trees) → ((i : ℕ) → from ≤ i → i < at → IsFree i tab db) → IsFree at tab db → (i : ℕ) → from ≤ i → i < at + 1 → IsFree i tab db
free_more from at tab db before here i low high = go (nat_eq i at) refl
  where
    go : (b : Bool) → nat_eq i at ≡ b → IsFree i tab db
    go true e = subst (λ n. IsFree n tab db) (sym (eqb-true i at e)) here
    go false e = let other = eqb-false i at e in before i low (less_of i at high other)

-- ---- queries in a transaction

pub blank_runs : (old new : State) (count : ℕ) → old.now.schema ≡ store_schema → Executes blank_text [] old new (Ok count) → IsUnchanged old new
blank_runs old new count has h = (runs_as blank_text [] old new store_schema has Nothing blank_is blank_plain count h).0

pub blank_blamed : (old new : State) → (IsTrue old.is_open → IsStore old.now) → (e : Error) → e ≢ SqliteFailure code.OutOfMemory → ExecutesInside 0 blank_text [] old new (Err e) → IsBlamed old new
unfolding ExecutesIn IsNotRun EndsScope
blank_blamed old new store e other ran = unless_shut old new (λ blamed. blamed) (λ is_open. go (store is_open).schema ran)
  where
    go : old.now.schema ≡ store_schema → ExecutesInside 0 blank_text [] old new (Err e) → IsBlamed old new
    go has (inr ((c, it, escapes), error, same)) =
        let here : understood store_schema blank_text ≡ Ok c = sym (ap (λ s. understood s blank_text) has) ∙ it.is in
        let k : Nothing ≡ c.command = sym blank_is ∙ ap command_of here in
        absurd (elim escapes [
          | inl (inl a) ↦ (let f = k ∙ a in cc)
          | inl (inr a) ↦ (let f = k ∙ a in cc)
          | inr (name, inl a, held) ↦ (let f = k ∙ a in cc)
          | inr (name, inr a, held) ↦ (let f = k ∙ a in cc)
        ])
    go has (inl (inl (inl none), kept)) = absurd (is_statement old blank_text [] has blank_plain blank_whole e none.0)
    go has (inl (inl (inr fails), kept)) = fails_blamed old new e other fails
    go has (inl (inr (c, it, alone), kept)) =
        let here : understood store_schema blank_text ≡ Ok c = sym (ap (λ s. understood s blank_text) has) ∙ it.is in
        let same : c.command ≡ Nothing = ap command_of (sym here) ∙ blank_is in
        let bare = subst IsPlain here blank_plain in
        elim (rw (same, bare.0) at alone) [
          | inl (inl misplaced, kept) ↦ absurd (elim misplaced [
            | inl a ↦ elim a.1 [ inl b ↦ (let f = b.0 in cc) | inr b ↦ elim b.0 [ inl k ↦ (let f = k in cc) | inr k ↦ (let f = k in cc) ] ]
            | inr a ↦ elim a.2 [ inl k ↦ (let f = k in cc) | inr k ↦ (let f = k in cc) ]
          ])
          | inl (inr does, kept) ↦ absurd (elim does.0 [ inl w ↦ w | inr w ↦ true≢false (sym w) ])
          | inr fails ↦ fails_unless old new e _ _ (λ b. b) (λ big. absurd (let f = big in cc)) other fails
        ]

-- what is shown of a state that nothing has changed
pub shown_from : (sql : List ℕ) (params : Row) (old mid new : State) (rows : List Row) → IsUnchanged old mid → IsPlain (understood mid.now.schema sql) → Shown sql params mid new rows → Shown sql params old new rows × IsUnchanged old new
unfolding Shown
shown_from sql params old mid new rows same plain h =
    let none = (subst IsPlain h.1.is plain).0 in
    let full = timed params h.0.formats h.1.now in
    let it = subst (ShowsRows mid new sql h.0 full rows) none h.2 in
    let now = same.0.now_is in
    let all = unchanged_then old mid new same it.3 in (
      (
        h.0,
        record { is = subst (λ (d : Database). understood d.schema sql ≡ Ok h.0) now h.1.is; whole = h.1.whole; given = h.1.given; now = h.1.now },
        subst (ShowsRows old new sql h.0 full rows) (sym none) (it.0, subst (λ (d : Database). IsSourceOf (reads_listing d.schema sql) d it.0) now it.1, it.2, all),
      ),
      all,
    )

-- a query in a transaction of a store is refused only by what lies outside it
pub look_blamed : (sql : List ℕ) (params : Row) (tree : ℕ) (terms : List Term) (limit offset : Term) → LooksAt sql params tree terms limit offset → (old new : State) → IsTrue old.in_transaction → (IsTrue old.is_open → IsStore old.now)
    → (e : Error) → e ≢ SqliteFailure code.OutOfMemory → FailsToQuery sql params old new e ⊎ IsTooLate sql params old new e → IsBlamed old new
look_blamed sql params tree terms limit offset it old new inside store e other (inr (c, is, some, out, told, same)) = absurd (true≢false (sym inside ∙ out))
look_blamed sql params tree terms limit offset it old new inside store e other (inl fails) =
    let plain = λ (is_open : IsTrue old.is_open). subst (λ s. IsPlain (understood s sql)) (sym (store is_open).schema) it.plain in
    query_only old new store sql params it.names tree terms it.show it.order limit offset it.is it.plain it.unlisted it.whole it.typed
    (λ _. ⊤) (λ kept. all_of (λ _. ⊤) (λ r. tt) _) (λ _. ⊤) (λ r h. tt)
    (elim (query_blamed sql params old new e plain other fails) [ inl blamed ↦ inl blamed | inr unasked ↦ inr (inl unasked) ])

-- ---- reads one after another

pub stands_then : (a b c : State) → IsUntouched a b → IsUntouched b c → IsUntouched a c
stands_then a b c one two = record { now = two.now ∙ one.now; committed = two.committed ∙ one.committed; inside = two.inside; opened = λ o. one.opened (two.opened o) }

pub stands_store : (a b : State) → IsUntouched a b → (IsTrue a.is_open → IsStore a.now) → IsTrue b.is_open → IsStore b.now
stands_store a b one store o = subst IsStore (sym one.now) (store (one.opened o))

-- ---- entries that are put one after the other where there were none

both_first : (a b : Bool) → T (a && b) → T a
both_first true b h = tt
both_first false b h = h

both_second : (a b : Bool) → T (a && b) → T b
both_second true b h = h
both_second false b h = absurd h

lt_not_eq : (o : Ordering) → T (is_lt o) → is_eq o ≡ false
lt_not_eq Less h = refl
lt_not_eq Equal h = absurd h
lt_not_eq Greater h = refl

find_above : {K X : Type 0} (R : K → K → Ordering) (q : K) (es : List (K × X)) → T (below_all R q es) → find R q es ≡ None
find_above R q [] h = refl
find_above R q (e ∷ es) h = none_from (eq_by_cmp R q e.0) e.1 (find R q es) (lt_not_eq _ (both_first _ _ h)) (find_above R q es (both_second _ _ h))

module _ {K X : Type 0} (R : K → K → Ordering) (total : IsTotalOrder R) (tie : (x y : K) → R x y ≡ Equal → x ≡ y) where
  sorted_each : (es l : List (K × X)) → T (is_sorted R l) → T (is_sorted R (put_each R es l))
  sorted_each [] l up = up
  sorted_each (e ∷ es) l up = sorted_each es (put R e.0 e.1 l) (is_sorted-put R total e.0 e.1 l up)

  missing : (q : K) (es l : List (K × X)) → find R q es ≡ None → find R q (put_each R es l) ≡ find R q l
  missing q [] l none = refl
  missing q (e ∷ es) l none =
      let split = some_first (eq_by_cmp R q e.0) e.1 (find R q es) none in
      missing q es (put R e.0 e.1 l) split.1 ∙ find-put R total q e.0 e.1 l ∙ ap (λ b. cond b (Some e.1) (find R q l)) split.0

  there : (q : K) (x : X) (es l : List (K × X)) → T (is_sorted R es) → find R q es ≡ Some x → find R q (put_each R es l) ≡ Some x
  there q x [] l up is = (let e = is in cc)
  there q x (e ∷ es) l up is = go (eq_by_cmp R q e.0) refl (there q x es (put R e.0 e.1 l) (both_second _ _ up))
    where
      go : (b : Bool) → eq_by_cmp R q e.0 ≡ b → (find R q es ≡ Some x → find R q (put_each R es (put R e.0 e.1 l)) ≡ Some x) → find R q (put_each R es (put R e.0 e.1 l)) ≡ Some x
      go true same more =
          let none : find R q es ≡ None = subst (λ k. find R k es ≡ None) (sym (tie q e.0 (equal_from _ same))) (find_above R e.0 es (both_first _ _ up)) in
          missing q es (put R e.0 e.1 l) none ∙ find-put R total q e.0 e.1 l ∙ ap (λ b. cond b (Some e.1) (find R q l)) same ∙ sym (ap (λ b. cond b (Some e.1) (find R q es)) same) ∙ is
      go false other more = more (sym (ap (λ b. cond b (Some e.1) (find R q es)) other) ∙ is)

  found_each : (q : K) (es : List (K × X)) → T (is_sorted R es) → find R q (put_each R es []) ≡ find R q es
  found_each q es up = go (find R q es) refl
    where
      go : (o : Option X) → find R q es ≡ o → find R q (put_each R es []) ≡ find R q es
      go None is = missing q es [] is ∙ sym is
      go (Some x) is = there q x es [] up is ∙ sym is

  pub put_all_again : (es : List (K × X)) → T (is_sorted R es) → put_each R es [] ≡ es
  put_all_again es up = same_entries R total tie _ _ (sorted_each es [] tt) up (λ q. found_each q es up)

  grown_length : (o : Option X) (n m : ℕ) → n ≤ m → cond (is_some o) n (n + 1) ≤ m + 1
  grown_length None n m le = omega (arith, le)
  grown_length (Some x) n m le = omega (arith, le)

  pub length-keyed : (es : List (K × X)) → length (keyed R es) ≤ length es
  length-keyed [] = omega arith
  length-keyed (e ∷ es) =
      let one = length-put R total e.0 e.1 (keyed R es) (is_sorted-keyed R total tie es) in
      let low = grown_length (find R e.0 (keyed R es)) (length (keyed R es)) (length es) (length-keyed es) in
      omega (arith, one, low)

-- one entry more
put_each-append : {K X : Type 0} (R : K → K → Ordering) (es : List (K × X)) (e : K × X) (l : List (K × X)) → put_each R (es ++ e ∷ []) l ≡ put R e.0 e.1 (put_each R es l)
put_each-append R [] e l = refl
put_each-append R (f ∷ es) e l = put_each-append R es e (put R f.0 f.1 l)

pub note_more : (rows : List Row) (i : ℕ) (row : Row) → i < length rows → row ≡ get_or rows i row → (before : List (List ℕ × List ℕ))
    → put_each name_cmp (found_note row ∷ []) (put_each name_cmp (map found_note (take i rows)) before) ≡ put_each name_cmp (map found_note (take (i + 1) rows)) before
note_more rows i row inside is before =
    sym (put_each-append name_cmp (map found_note (take i rows)) (found_note row) before)
    ∙ ap (λ es. put_each name_cmp es before) (sym (map-append found_note (take i rows) (row ∷ [])) ∙ ap (map found_note) (ap (λ r. take i rows ++ r ∷ []) is ∙ sym (take_more rows i row inside)))

-- ---- rowids from 1 on

abbrev num : Row → ℕ
num r = at_least_zero (id_in (rowid r))

above_last : (b : ℕ) (rows : List Row) → IsTable rows → AllByRecursion IsInt rows → AllByRecursion (λ r. pos b <ℤ id_in (rowid r)) rows → b + length rows ≤ fold (λ _ r. num r) b rows
above_last b [] up keyed above = omega arith
above_last b (r ∷ rows) up keyed above = go (id_in (rowid r)) refl above.0 (above_last (num r) rows up.1 keyed.1)
  where
    go : (z : ℤ) → id_in (rowid r) ≡ z → pos b <ℤ z → (AllByRecursion (λ s. pos (num r) <ℤ id_in (rowid s)) rows → num r + length rows ≤ fold (λ _ s. num s) (num r) rows) → b + length (r ∷ rows) ≤ fold (λ _ s. num s) (num r) rows
    go (pos n) is low up_to =
        let here : num r ≡ n = ap at_least_zero is in
        let later = all_both _ IsInt (λ s. pos (num r) <ℤ id_in (rowid s)) (λ s less int. subst (λ z. z <ℤ id_in (rowid s)) (is ∙ ap pos (sym here)) (ids_rise r s keyed.0 int less)) rows up.0 keyed.1 in
        let more = up_to later in
        omega (arith, ints, low, here, more)
    go (negsuc n) is low up_to = absurd (omega (arith, ints, low))

pub enough_numbers : (rows : List Row) → AreRowids rows → AllByRecursion IsInt rows → AllByRecursion (λ r. pos 1 ≤ℤ id_in (rowid r)) rows → length rows ≤ last_number rows
enough_numbers rows is keyed low =
    let above = above_last 0 rows is.rise keyed (all_weaker (λ r. pos 1 ≤ℤ id_in (rowid r)) (λ r. pos 0 <ℤ id_in (rowid r)) (λ r h. omega (arith, ints, h)) rows low) in
    omega (arith, above)

-- ---- names that are short

pub short_note : (row : Row) (o : Option (Bor (List ℕ))) → is_some o ≡ true → IfSome o (λ name. (column row 0 ≡ Text name.now) × IsUtf8 name.now × (length name.now < 1000000)) → IsShortNote row
short_note row (Some name) h it = record { text = name.now; is = it.0; utf8 = it.1; short = it.2 }
short_note row None h it = absurd (true≢false (sym h))

-- ---- what the probes tell of the rows

abbrev HasTab : ℤ → Row → Type 0
HasTab tab r = int_eq tab (id_in (column r 1)) ≡ true

compares_below : (v : Value) (n m : ℤ) → v ≡ Int n → is_true (binary (Compare Lt Binary) v (Int m)) ≡ int_lt n m
compares_below v n m is = ap (λ w. is_true (binary (Compare Lt Binary) w (Int m))) is ∙ at_ints false Lt n m

compares_up_to : (v : Value) (n m : ℤ) → v ≡ Int n → is_true (binary (Compare Le Binary) v (Int m)) ≡ int_le n m
compares_up_to v n m is = ap (λ w. is_true (binary (Compare Le Binary) w (Int m))) is ∙ at_ints false Le n m

compares_from : (v : Value) (n m : ℤ) → v ≡ Int n → is_true (binary (Compare Ge Binary) v (Int m)) ≡ int_le m n
compares_from v n m is = ap (λ w. is_true (binary (Compare Ge Binary) w (Int m))) is ∙ at_ints false Ge n m

neither : (n tab low high : ℤ) → tab ≤ℤ (low +ℤ pos 1) → high ≤ℤ (tab +ℤ pos 1) → int_le n low ≡ false → int_le high n ≡ false → int_eq tab n ≡ true
neither n tab low high near_low near_high below above = grind (arith, ints, near_low, near_high, below, above)

at_least_one : (n : ℤ) → int_lt n (pos 1) ≡ false → pos 1 ≤ℤ n
at_least_one n low = grind (arith, ints, low)

abbrev IsNumbered : Row → Type 0
IsNumbered r = column r 1 ≡ Int (id_in (column r 1))

-- no row of another table
tabs_of : (tab low high : ℤ) (rows : List Row) → tab ≤ℤ (low +ℤ pos 1) → high ≤ℤ (tab +ℤ pos 1) → AllByRecursion IsNumbered rows
    → AllByRecursion (λ r. list_all (holds ((Int low ∷ []) ∷ r ∷ [])) (compared Le (col 1 1) ∷ []) ≡ false) rows
    → AllByRecursion (λ r. list_all (holds ((Int high ∷ []) ∷ r ∷ [])) (compared Ge (col 1 1) ∷ []) ≡ false) rows
    → AllByRecursion (HasTab tab) rows
tabs_of tab low high [] near_low near_high typed below above = tt
tabs_of tab low high (r ∷ rows) near_low near_high typed below above = (
  neither (id_in (column r 1)) tab low high near_low near_high (sym (last_term (compares_up_to (column r 1) (id_in (column r 1)) low typed.0)) ∙ below.0)
      (sym (last_term (compares_from (column r 1) (id_in (column r 1)) high typed.0)) ∙ above.0),
  tabs_of tab low high rows near_low near_high typed.1 below.1 above.1,
)

free_tabs : (tab : ℤ) (rows : List Row) → AllByRecursion IsNumbered rows
    → (n : ℤ) × (tab ≤ℤ (n +ℤ pos 1)) × AllByRecursion (λ r. list_all (holds ((Int n ∷ []) ∷ r ∷ [])) (compared Le (col 1 1) ∷ []) ≡ false) rows
    → (n : ℤ) × (n ≤ℤ (tab +ℤ pos 1)) × AllByRecursion (λ r. list_all (holds ((Int n ∷ []) ∷ r ∷ [])) (compared Ge (col 1 1) ∷ []) ≡ false) rows
    → AllByRecursion (HasTab tab) rows
free_tabs tab rows typed below above = tabs_of tab below.0 above.0 rows below.1 above.1 typed below.2 above.2

cells_of : (tab : ℤ) (db : Trees) → IsSound store_schema db → AreFree 0 tab db → AllByRecursion (HasTab tab) (db 5)
cells_of tab db sound free = free_tabs tab (db 5) (all_weaker IsCellRow IsNumbered (λ r h. h.tab) (db 5) (are_cells db sound)) (free 0 (omega arith) (omega arith)) (free 1 (omega arith) (omega arith))

lists_of : (tab : ℤ) (db : Trees) → IsSound store_schema db → AreFree 2 tab db → AllByRecursion (HasTab tab) (db 7)
lists_of tab db sound free = free_tabs tab (db 7) (all_weaker IsListRow IsNumbered (λ r h. h.tab) (db 7) (are_lists db sound)) (free 2 (omega arith) (omega arith)) (free 3 (omega arith) (omega arith))

sizes_of : (tab : ℤ) (db : Trees) → IsSound store_schema db → AreFree 2 tab db → AllByRecursion (HasTab tab) (db 9)
sizes_of tab db sound free = free_tabs tab (db 9) (all_weaker IsSizeRow IsNumbered (λ r h. h.tab) (db 9) (are_sizes db sound)) (free 4 (omega arith) (omega arith)) (free 5 (omega arith) (omega arith))

none_of : (rows : List Row) → AllByRecursion (λ (r : Row). (is_true (binary (Compare Eq Binary) (Int (pos 1)) (Int (pos 1))) && true) ≡ false) rows → rows ≡ []
none_of [] all = refl
none_of (r ∷ rows) all = absurd (true≢false (sym (last_term (at_ints false Eq (pos 1) (pos 1))) ∙ all.0))

skips_of : (tab : ℤ) (db : Trees) → AreFree 2 tab db → db 13 ≡ []
skips_of tab db free =
    let any = free 6 (omega arith) (omega arith) in
    none_of (db 13) (rw any.1 at any.2)

numbers_of : (rows : List Row) → AllByRecursion IsInt rows → AllByRecursion (λ r. list_all (holds ((Int (pos 1) ∷ []) ∷ r ∷ [])) (compared Lt (col 1 0) ∷ []) ≡ false) rows
    → AllByRecursion (λ r. pos 1 ≤ℤ id_in (rowid r)) rows
numbers_of [] keyed_ low = tt
numbers_of (r ∷ rows) keyed_ low = (at_least_one (id_in (rowid r)) (sym (last_term (compares_below (column r 0) (id_in (rowid r)) (pos 1) (int_is _ keyed_.0))) ∙ low.0), numbers_of rows keyed_.1 low.1)

pub later_free : (tab : ℤ) (db : Trees) → AreFree 0 tab db → AreFree 2 tab db
later_free tab db free at low high = free at (omega arith) high

-- ---- the rows that are gone

none_pass : {X : Type 0} (p : X → Bool) (xs : List X) → AllByRecursion (λ x. p x ≡ false) xs → filter p xs ≡ []
none_pass p [] all = refl
none_pass p (x ∷ xs) all = rw all.0 (none_pass p xs all.1)

all_gone : {K X : Type 0} (R : K → K → Ordering) (total : IsTotalOrder R) (tie : (x y : K) → R x y ≡ Equal → x ≡ y) (p : K → Bool) (entry : Row → K × X) (rows : List Row) → AllByRecursion (λ r. p (entry r).0 ≡ false) rows
    → where_key R p (keyed R (map entry rows)) ≡ []
all_gone R total tie p entry rows all = sym (keyed-where R total tie p (map entry rows)) ∙ ap (keyed R) (none_pass (λ e. p e.0) (map entry rows) (all_map (λ e. p e.0 ≡ false) entry rows all))

gone_of : (tab : ℤ) (rows : List Row) → AllByRecursion (HasTab tab) rows → AllByRecursion (λ r. not (int_eq tab (id_in (column r 1))) ≡ false) rows
gone_of tab rows = all_weaker (HasTab tab) (λ r. not (int_eq tab (id_in (column r 1))) ≡ false) (λ r h. ap not h) rows

-- ---- the notes that are put again

notes_again : (db : Trees) (notes : List Row) → AreNotes db notes → put_each name_cmp (map found_note notes) [] ≡ keyed name_cmp (map note_entry (db 11))
notes_again db notes are = ap (λ es. put_each name_cmp es []) are.all ∙ put_all_again name_cmp name_total tied_names _ (is_sorted-keyed name_cmp name_total tied_names (map note_entry (db 11)))

notes_count : (db : Trees) (notes : List Row) → AreNotes db notes → length notes ≤ length (db 11)
notes_count db notes are =
    let a = length-map notes found_note in
    let b = ap length are.all in
    let d = length-keyed name_cmp name_total tied_names (map note_entry (db 11)) in
    let e = length-map (db 11) note_entry in
    omega (arith, a, b, d, e)

module _ (tab : ℤ) (x y : Database) (notes : List Row) (store : IsStore x) (are : AreNotes x.trees notes) where
  sound : IsSound store_schema x.trees
  sound = subst (λ c. IsSound c x.trees) store.schema store.sound

  index_value : AreFree 2 tab x.trees → Fills 4 8 x y → (record (value_of y.trees) { noted = put_each name_cmp (map found_note notes) (value_of y.trees).noted }) ≡ without_index tab (value_of x.trees)
  index_value free p =
      same_store
      (ap (λ r. keyed int_cmp (map table_entry r)) p.1.1.0) (ap (λ r. keyed column_key_cmp (map column_entry r)) p.1.1.1.0) (ap (λ r. keyed column_key_cmp (map skip_entry r)) (p.2.1.1.1.0 ∙ sym (skips_of tab x.trees free)))
      (ap (λ r. keyed cell_key_cmp (map cell_entry r)) p.1.1.1.1.0)
      (ap (λ r. keyed list_key_cmp (map list_entry r)) p.2.0 ∙ sym (all_gone list_key_cmp list_key_total tied_list_keys (λ k. not (int_eq tab k.0)) list_entry (x.trees 7) (gone_of tab (x.trees 7) (lists_of tab x.trees sound free))))
      (ap (λ r. keyed cell_key_cmp (map size_entry r)) p.2.1.0 ∙ sym (all_gone cell_key_cmp cell_key_total tied_cell_keys (λ k. not (int_eq tab k.0)) size_entry (x.trees 9) (gone_of tab (x.trees 9) (sizes_of tab x.trees sound free))))
      (ap (λ r. put_each name_cmp (map found_note notes) (keyed name_cmp (map note_entry r))) p.2.1.1.0 ∙ notes_again x.trees notes are)

  documents_value : AreFree 0 tab x.trees → Fills 3 8 x y → (record (value_of y.trees) { noted = put_each name_cmp (map found_note notes) (value_of y.trees).noted }) ≡ without_contents tab (without_index tab (value_of x.trees))
  documents_value free p =
      let later = later_free tab x.trees free in
      same_store
      (ap (λ r. keyed int_cmp (map table_entry r)) p.1.1.0) (ap (λ r. keyed column_key_cmp (map column_entry r)) p.1.1.1.0) (ap (λ r. keyed column_key_cmp (map skip_entry r)) (p.2.1.1.1.1.0 ∙ sym (skips_of tab x.trees later)))
      (ap (λ r. keyed cell_key_cmp (map cell_entry r)) p.2.0 ∙ sym (all_gone cell_key_cmp cell_key_total tied_cell_keys (λ k. not (int_eq tab k.0)) cell_entry (x.trees 5) (gone_of tab (x.trees 5) (cells_of tab x.trees sound free))))
      (ap (λ r. keyed list_key_cmp (map list_entry r)) p.2.1.0 ∙ sym (all_gone list_key_cmp list_key_total tied_list_keys (λ k. not (int_eq tab k.0)) list_entry (x.trees 7) (gone_of tab (x.trees 7) (lists_of tab x.trees sound later))))
      (ap (λ r. keyed cell_key_cmp (map size_entry r)) p.2.1.1.0 ∙ sym (all_gone cell_key_cmp cell_key_total tied_cell_keys (λ k. not (int_eq tab k.0)) size_entry (x.trees 9) (gone_of tab (x.trees 9) (sizes_of tab x.trees sound later))))
      (ap (λ r. put_each name_cmp (map found_note notes) (keyed name_cmp (map note_entry r))) p.2.1.1.1.0 ∙ notes_again x.trees notes are)

  -- ---- how the tables grow

  grown_none : (old new : List Row) → new ≡ [] → IsGrown 0 old new
  grown_none old new none is = (subst AreRowids (sym none) (record { rise = tt; fit = tt }), (let e = ap last_number none in omega (arith, e)))

  grown_notes : AreFree 2 tab x.trees → (before after : List Row) → before ≡ [] → IsGrown (length notes) before after → IsGrown 0 (x.trees 11) after
  grown_notes free before after none grown is =
      let own = store.numbered.1.1.1.1.1.1.0.1 in
      let low = free 7 (omega arith) (omega arith) in
      let enough = enough_numbers (x.trees 11) is own (numbers_of (x.trees 11) own (rw low.1 at low.2)) in
      let new = grown (subst AreRowids (sym none) (record { rise = tt; fit = tt })) in
      let zero_before = ap last_number none in
      let count = notes_count x.trees notes are in
      let high = new.1 in
      (new.0, omega (arith, enough, zero_before, count, high))

  pub index_grown : (z : Trees) → AreFree 2 tab x.trees → Fills 4 8 x y → AreGrown (length notes) y.trees z → KeepsRest 11 y.trees z → AreGrown 0 x.trees z
  index_grown z free p grown rest = (
    grown_same 0 _ _ (rest.0 (λ e. omega (arith, e)) ∙ p.1.1.1.0),
    (
      grown_same 0 _ _ (rest.1.0 (λ e. omega (arith, e)) ∙ p.1.1.1.1.0),
      (
        grown_none _ _ (rest.1.1.0 (λ e. omega (arith, e)) ∙ p.2.0),
        (
          grown_none _ _ (rest.1.1.1.0 (λ e. omega (arith, e)) ∙ p.2.1.0),
          (grown_notes free (y.trees 11) (z 11) p.2.1.1.0 grown.1.1.1.1.0, (grown_none _ _ (rest.1.1.1.1.1.0 (λ e. omega (arith, e)) ∙ p.2.1.1.1.0), tt)),
        ),
      ),
    ),
  )

  pub documents_grown : (z : Trees) → AreFree 0 tab x.trees → Fills 3 8 x y → AreGrown (length notes) y.trees z → KeepsRest 11 y.trees z → AreGrown 0 x.trees z
  documents_grown z free p grown rest = (
    grown_same 0 _ _ (rest.0 (λ e. omega (arith, e)) ∙ p.1.1.1.0),
    (
      grown_none _ _ (rest.1.0 (λ e. omega (arith, e)) ∙ p.2.0),
      (
        grown_none _ _ (rest.1.1.0 (λ e. omega (arith, e)) ∙ p.2.1.0),
        (
          grown_none _ _ (rest.1.1.1.0 (λ e. omega (arith, e)) ∙ p.2.1.1.0),
          (grown_notes (later_free tab x.trees free) (y.trees 11) (z 11) p.2.1.1.1.0 grown.1.1.1.1.0, (grown_none _ _ (rest.1.1.1.1.1.0 (λ e. omega (arith, e)) ∙ p.2.1.1.1.1.0), tt)),
        ),
      ),
    ),
  )

-- ---- the two steps

module _ (tab : ℤ) (a b c : State) (notes : List Row) (store : IsStore a.now) (are : AreNotes a.now.trees notes) (made : Shows a b b.now a.committed true) where
  pub index_steps : AreFree 2 tab a.now.trees → Fills 4 8 a.now b.now → Steps b c (record (value_of b.now.trees) { noted = put_each name_cmp (map found_note notes) (value_of b.now.trees).noted }) → Steps a c (without_index tab (value_of a.now.trees))
  index_steps free p two = record { store = two.store; is = two.is ∙ index_value tab a.now b.now notes store are free p; shown = shows_then a b c made two.shown }

  pub documents_steps : AreFree 0 tab a.now.trees → Fills 3 8 a.now b.now → Steps b c (record (value_of b.now.trees) { noted = put_each name_cmp (map found_note notes) (value_of b.now.trees).noted })
      → Steps a c (without_contents tab (without_index tab (value_of a.now.trees)))
  documents_steps free p two = record { store = two.store; is = two.is ∙ documents_value tab a.now b.now notes store are free p; shown = shows_then a b c made two.shown }

pub ok_both : {A E : Type 0} (P Q : Type 0) (r : Result A E) → OnOk r P → OnOk r Q → OnOk r (P × Q)
ok_both P Q (Ok a) p q = (p, q)
ok_both P Q (Err e) p q = tt

-- ---- a step after what was read

pub looked_steps : (a b c : State) (f : StoreValue → StoreValue) → IsUntouched a b → Steps b c (f (value_of b.now.trees)) → Steps a c (f (value_of a.now.trees))
looked_steps a b c f one two = record {
  store = two.store;
  is = two.is ∙ ap (λ (d : Database). f (value_of d.trees)) one.now;
  shown = record { was_open = one.opened two.shown.was_open; is_open = two.shown.is_open; now_is = two.shown.now_is; committed_is = two.shown.committed_is ∙ one.committed; mode = two.shown.mode };
}

pub looked_grown : (n : ℕ) (a b c : State) → IsUntouched a b → AreGrown n b.now.trees c.now.trees → AreGrown n a.now.trees c.now.trees
looked_grown n a b c one two = subst (λ (d : Database). AreGrown n d.trees c.now.trees) one.now two

-- what is done after a look at rows, which saw that this holds
pub looked_then : {S X : Type 0} (g : Ghosts S) (a b c : MutBor (Held S)) (one : Result X StoreFault) (two : Result (Unit {0}) StoreFault) (f : StoreValue → StoreValue) (Seen : Type 0) → StaysUncommitted g a b one
    → (HasCleanDisk (state g b.now) → IsTrue (state g a.now).in_transaction → (IsTrue (state g a.now).is_open → IsStore (state g a.now).now) → IsUntouched (state g a.now) (state g b.now) × Seen)
    → StaysUncommitted g b c two → (Seen → StepsOnOk g b.now c.now two f) → (Seen → GrowsOnOk g b.now c.now two 0) → (Seen → BlamesOutside g b.now c.now two) → Drops g a c two f
looked_then g a b c one two f Seen first seen second steps grown blames =
    let old = state g a.now in
    let mid = state g b.now in
    let new = state g c.now in
    let was_clean = λ (clean : HasCleanDisk new). (let mid_clean : HasCleanDisk mid = omega (arith, second.survives.clean, clean) in mid_clean) in
    record {
      done = record {
        steps = λ clean inside store. let it = seen (was_clean clean) inside store in on_ok_weaker two (looked_steps old mid new f it.0) (steps it.1 clean it.0.inside (stands_store old mid it.0 store));
        stays = stays_then g IsPlainFault a b c one two first second;
      };
      grown = λ clean inside store. let it = seen (was_clean clean) inside store in on_ok_weaker two (looked_grown 0 old mid new it.0) (grown it.1 clean it.0.inside (stands_store old mid it.0 store));
      refused = λ clean inside store is. let it = seen (was_clean clean) inside store in inl (blamed_then old mid new _ _ (was_clean clean) first.survives second.survives (blames it.1 clean it.0.inside (stands_store old mid it.0 store) is));
    }

-- ---- what is left of a table's lists goes with the last part

both_gone : (a b : Bool) → (not (a && b) && not a) ≡ not a
both_gone true true = refl
both_gone true false = refl
both_gone false b = refl

gone_later : (tab : ℤ) (more : ListKey → Bool) (lists : List (ListKey × List Spot))
    → where_key list_key_cmp (λ k. not (int_eq tab k.0)) (where_key list_key_cmp (λ k. not (int_eq tab k.0 && more k)) lists) ≡ where_key list_key_cmp (λ k. not (int_eq tab k.0)) lists
gone_later tab more lists =
    filter_twice (λ (e : ListKey × List Spot). not (int_eq tab e.0.0)) (λ (e : ListKey × List Spot). not (int_eq tab e.0.0 && more e.0)) lists
    ∙ (λ i. filter (λ (e : ListKey × List Spot). both_gone (int_eq tab e.0.0) (more e.0) i) lists)

pub thins_more : (tab : ℤ) (from : List ℕ) (a b c : State) → Thins tab a b → Steps b c (record (value_of b.now.trees) { lists = where_key list_key_cmp (λ k. not (int_eq tab k.0 && is_le (name_cmp from k.1))) (value_of b.now.trees).lists })
    → AreGrown 0 b.now.trees c.now.trees → Thins tab a c
thins_more tab from a b c one two more = record {
  committed = two.shown.committed_is ∙ one.committed;
  inside = two.shown.mode;
  opened = λ o. one.opened two.shown.was_open;
  store = λ o. two.store;
  same = λ o. ap (without_lists tab) two.is ∙ ap (λ l. record (value_of b.now.trees) { lists = l }) (gone_later tab (λ k. is_le (name_cmp from k.1)) (value_of b.now.trees).lists) ∙ one.same two.shown.was_open;
  grown = λ o. trees_then 0 0 a.now.trees b.now.trees c.now.trees (one.grown two.shown.was_open) more;
}

pub thins_then : (tab : ℤ) (a b c : State) → Thins tab a b → Steps b c (without_lists tab (value_of b.now.trees)) → Steps a c (without_lists tab (value_of a.now.trees))
thins_then tab a b c one two = record {
  store = two.store;
  is = two.is ∙ one.same two.shown.was_open;
  shown = record { was_open = one.opened two.shown.was_open; is_open = two.shown.is_open; now_is = two.shown.now_is; committed_is = two.shown.committed_is ∙ one.committed; mode = two.shown.mode };
}
