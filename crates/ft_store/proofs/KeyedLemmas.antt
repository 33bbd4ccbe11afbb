-- Rows under their keys, as they are sorted, filtered, added to and read.
use Rattle.std.proofs.Common.{◌≡◌, suc, Bool, true, false, cond, List, [], ◌∷◌, filter, refl, sym, ap, ap₂, ◌∙◌, arith, Ordering, Less, Equal, Greater, is_lt, is_gt, true≢false, IsPermutation, IsSorted, add-one, ℕ, ◌+◌, ◌<◌, zero, not, ◌||◌, map, length, get_or, Option, Some, None, subst, is_eq, T}
use Rattle.ft_store.proofs.Common.{AllByRecursion, IsTotalOrder, ordering_reverse, upto, IsPermutation-sym, IsAscending, sort_by, insert_sorted}
use Rattle.ft_store.proofs.Common.{all_weaker, along_permutation, IsPermutation-filter, ascending-filter, IsPermutation-sort_by, eq_by_cmp}
use Rattle.ft_store.proofs.Common.{ordering_then, match_ordering, tied_itself, put, where_key, find, is_sorted, by_order, is_sorted-put}
use Rattle.ft_store.proofs.Common.{is_sorted-where_key, find-put, find-where_key, same_entries, on_total, then_total, Row, value_cmp, put_row, rowid}
use Rattle.ft_store.proofs.Common.{is_taken, are_fresh, put_all, without_key}
use Rattle.ft_store.specs.Groups.{put_each}
use Rattle.ft_store.specs.Rows.{keyed}
use Rattle.ft_store.proofs.TypedLemmas.{tied_first, tied_second, fresh_first, fresh_later}

-- ---- where only equal elements tie, a list has one sorted order

module _ {X : Type 0} (cmp : X → X → Ordering) (total : IsTotalOrder cmp) (tie : (a b : X) → cmp a b ≡ Equal → a ≡ b) where
  abbrev above : X → X → Bool
  above a b = is_gt (cmp a b)

  turned : (a b : X) → above a b ≡ true → above b a ≡ false
  turned a b h = go (cmp a b) refl h
    where
      go : (o : Ordering) → cmp a b ≡ o → is_gt o ≡ true → above b a ≡ false
      go Less e h = absurd (true≢false (sym h))
      go Equal e h = absurd (true≢false (sym h))
      go Greater e h = ap is_gt (total.antisymm b a ∙ ap ordering_reverse e)

  between : (a b x : X) → above a x ≡ true → above b x ≡ false → above a b ≡ true
  between a b x p q = go (cmp a x) (cmp b x) refl refl p q
    where
      go : (o u : Ordering) → cmp a x ≡ o → cmp b x ≡ u → is_gt o ≡ true → is_gt u ≡ false → above a b ≡ true
      go Greater Less e f p q = ap is_gt (total.antisymm a b ∙ ap ordering_reverse (total.trans b x a f (total.antisymm x a ∙ ap ordering_reverse e)))
      go Greater Equal e f p q = ap is_gt (total.antisymm a b ∙ ap ordering_reverse (total.congr b x a f ∙ total.antisymm x a ∙ ap ordering_reverse e))
      go Greater Greater e f p q = absurd (true≢false q)
      go Less u e f p q = absurd (true≢false (sym p))
      go Equal u e f p q = absurd (true≢false (sym p))

  level : (a b : X) → above a b ≡ false → above b a ≡ false → a ≡ b
  level a b p q = go (cmp a b) refl p
    where
      go : (o : Ordering) → cmp a b ≡ o → is_gt o ≡ false → a ≡ b
      go Less e h = absurd (true≢false (sym (ap is_gt (total.antisymm b a ∙ ap ordering_reverse e)) ∙ q))
      go Equal e h = tie a b e
      go Greater e h = absurd (true≢false h)

  either_way : (a b : X) (xs : List X) → cond (above a b) (b ∷ a ∷ xs) (a ∷ b ∷ xs) ≡ cond (above b a) (a ∷ b ∷ xs) (b ∷ a ∷ xs)
  either_way a b xs = go (above a b) (above b a) refl refl
    where
      go : (p q : Bool) → above a b ≡ p → above b a ≡ q → cond p (b ∷ a ∷ xs) (a ∷ b ∷ xs) ≡ cond q (a ∷ b ∷ xs) (b ∷ a ∷ xs)
      go true true e f = absurd (true≢false (sym f ∙ turned a b e))
      go true false e f = refl
      go false true e f = refl
      go false false e f = let same = level a b e f in ap₂ (λ x y. x ∷ y ∷ xs) same (sym same)

  insert_twice : (a b : X) (xs : List X) → insert_sorted cmp a (insert_sorted cmp b xs) ≡ insert_sorted cmp b (insert_sorted cmp a xs)
  insert_twice a b [] = either_way a b []
  insert_twice a b (x ∷ xs) = go (above a x) (above b x) refl refl (insert_twice a b xs)
    where
      go : (p q : Bool) → above a x ≡ p → above b x ≡ q → insert_sorted cmp a (insert_sorted cmp b xs) ≡ insert_sorted cmp b (insert_sorted cmp a xs)
          → insert_sorted cmp a (cond q (x ∷ insert_sorted cmp b xs) (b ∷ x ∷ xs)) ≡ insert_sorted cmp b (cond p (x ∷ insert_sorted cmp a xs) (a ∷ x ∷ xs))
      go true true e f more = rw (e, f) (ap (λ l. x ∷ l) more)
      go true false e f more = rw (e, f, between a b x e f) refl
      go false true e f more = rw (e, f, between b a x f e) refl
      go false false e f more = rw (e, f) (either_way a b (x ∷ xs))

  pub sort_by-permutation : (xs ys : List X) → IsPermutation xs ys → sort_by cmp xs ≡ sort_by cmp ys
  sort_by-permutation =
      along_permutation (λ xs ys. sort_by cmp xs ≡ sort_by cmp ys) (λ xs. refl) (λ x xs ys h. ap (insert_sorted cmp x) h) (λ x y xs. insert_twice x y (sort_by cmp xs)) (λ xs ys zs h k. h ∙ k)

  not_above : (x y : X) → is_lt (cmp y x) ≡ false → above x y ≡ false
  not_above x y h = go (cmp y x) refl h
    where
      go : (o : Ordering) → cmp y x ≡ o → is_lt o ≡ false → above x y ≡ false
      go Less e h = absurd (true≢false h)
      go Equal e h = ap is_gt (total.antisymm x y ∙ ap ordering_reverse e)
      go Greater e h = ap is_gt (total.antisymm x y ∙ ap ordering_reverse e)

  sort_by-sorted : (xs : List X) → IsSorted cmp xs → sort_by cmp xs ≡ xs
  sort_by-sorted [] sorted = refl
  sort_by-sorted (x ∷ []) sorted = refl
  sort_by-sorted (x ∷ y ∷ ys) sorted =
      let tail : IsSorted cmp (y ∷ ys) = λ k d p q. rw add-one (rw add-one at (sorted (suc k) d (omega arith) (omega arith))) in
      let first : is_lt (cmp y x) ≡ false = sorted 0 x (omega arith) (omega arith) in
      ap (insert_sorted cmp x) (sort_by-sorted (y ∷ ys) tail) ∙ rw (not_above x y first) refl

  pub sorted_is : (xs ys : List X) → IsPermutation xs ys → IsSorted cmp ys → ys ≡ sort_by cmp xs
  sorted_is xs ys same sorted = sym (sort_by-sorted ys sorted) ∙ sym (sort_by-permutation xs ys same)

  abbrev AtMost : X → X → Type 0
  AtMost a b = above a b ≡ false

  all-insert_sorted : (P : X → Type 0) (new : X) (xs : List X) → P new → AllByRecursion P xs → AllByRecursion P (insert_sorted cmp new xs)
  all-insert_sorted P new [] h all = (h, tt)
  all-insert_sorted P new (x ∷ xs) h all =
      elim (is_gt (cmp new x)) as (λ b. AllByRecursion P (cond b (x ∷ insert_sorted cmp new xs) (new ∷ x ∷ xs))) [ true ↦ (all.0, all-insert_sorted P new xs h all.1) | false ↦ (h, all) ]

  rises-insert_sorted : (new : X) (xs : List X) → IsAscending AtMost xs → IsAscending AtMost (insert_sorted cmp new xs)
  rises-insert_sorted new [] up = (tt, tt)
  rises-insert_sorted new (x ∷ xs) up = go (above new x) refl (rises-insert_sorted new xs up.1)
    where
      go : (b : Bool) → above new x ≡ b → IsAscending AtMost (insert_sorted cmp new xs) → IsAscending AtMost (cond b (x ∷ insert_sorted cmp new xs) (new ∷ x ∷ xs))
      go true e more = (all-insert_sorted (AtMost x) new xs (turned new x e) up.0, more)
      go false e more = ((e, all_weaker (AtMost x) (AtMost new) (λ y h. upto total new x y e h) xs up.0), up)

  pub rises-sort_by : (xs : List X) → IsAscending AtMost (sort_by cmp xs)
  rises-sort_by [] = tt
  rises-sort_by (x ∷ xs) = rises-insert_sorted x (sort_by cmp xs) (rises-sort_by xs)

  -- inserting into a list in order is putting at its head what is at most each
  pub sort_by-rising : (xs : List X) → IsAscending AtMost xs → sort_by cmp xs ≡ xs
  sort_by-rising [] up = refl
  sort_by-rising (x ∷ []) up = refl
  sort_by-rising (x ∷ y ∷ ys) up = ap (insert_sorted cmp x) (sort_by-rising (y ∷ ys) up.1) ∙ rw up.0.0 refl

  -- the rows that pass may be taken before or after the sort
  pub sort_by-filter : (p : X → Bool) (xs : List X) → sort_by cmp (filter p xs) ≡ filter p (sort_by cmp xs)
  sort_by-filter p xs =
      sort_by-permutation (filter p xs) (filter p (sort_by cmp xs)) (IsPermutation-filter p xs (sort_by cmp xs) (IsPermutation-sym _ _ (IsPermutation-sort_by cmp total xs)))
      ∙ sort_by-rising _ (ascending-filter AtMost p _ (rises-sort_by xs))

-- ---- rows under their keys

pub some_first : {X : Type 0} (b : Bool) (x : X) (o : Option X) → cond b (Some x) o ≡ None → (b ≡ false) × (o ≡ None)
some_first true x o h = absurd cc
some_first false x o h = (refl, h)

pub none_from : {X : Type 0} (b : Bool) (x : X) (o : Option X) → b ≡ false → o ≡ None → cond b (Some x) o ≡ None
none_from b x o e h = ap (λ t. cond t (Some x) o) e ∙ h

pub equal_from : (o : Ordering) → is_eq o ≡ true → o ≡ Equal
equal_from Less h = absurd (true≢false (sym h))
equal_from Equal h = refl
equal_from Greater h = absurd (true≢false (sym h))

module _ {K : Type 0} (R : K → K → Ordering) (total : IsTotalOrder R) (tie : (x y : K) → R x y ≡ Equal → x ≡ y) where
  pub respects : (p : K → Bool) (q x : K) → R q x ≡ Equal → p x ≡ p q
  respects p q x h = ap p (sym (tie q x h))

  pub itself : (k : K) → eq_by_cmp R k k ≡ true
  itself k = ap is_eq (tied_itself total k)

  -- two keys that both tie with q tie with each other
  both_tie : (q k j : K) → eq_by_cmp R k j ≡ false → eq_by_cmp R q j ≡ true → eq_by_cmp R q k ≡ true → ⊥
  both_tie q k j apart a b =
      true≢false (sym (itself k) ∙ ap (eq_by_cmp R k) (sym (tie q k (equal_from _ b)) ∙ tie q j (equal_from _ a)) ∙ apart)

  pub apart_back : (q k : K) → eq_by_cmp R q k ≡ false → eq_by_cmp R k q ≡ false
  apart_back q k e = back (R k q) refl
    where
      back : (o : Ordering) → R k q ≡ o → is_eq o ≡ false
      back Less h = refl
      back Greater h = refl
      back Equal h = absurd (true≢false (sym (ap (λ x. eq_by_cmp R x k) (sym (tie k q h)) ∙ itself k) ∙ e))

-- no two rows have one key
module _ {K X : Type 0} (R : K → K → Ordering) where
  abbrev pub AreApart : List (K × X) → Type 0
  AreApart [] = Unit {0}
  AreApart (e ∷ es) = (find R e.0 es ≡ None) × AreApart es

module _ {K X : Type 0} (R : K → K → Ordering) (total : IsTotalOrder R) (tie : (x y : K) → R x y ≡ Equal → x ≡ y) where
  pub is_sorted-keyed : (es : List (K × X)) → T (is_sorted R (keyed R es))
  is_sorted-keyed [] = tt
  is_sorted-keyed (e ∷ es) = is_sorted-put R total e.0 e.1 (keyed R es) (is_sorted-keyed es)

  -- a key is looked up among the rows as they stand
  pub find-keyed : (q : K) (es : List (K × X)) → find R q (keyed R es) ≡ find R q es
  find-keyed q [] = refl
  find-keyed q (e ∷ es) = find-put R total q e.0 e.1 (keyed R es) ∙ ap (cond (eq_by_cmp R q e.0) (Some e.1)) (find-keyed q es)

  -- the rows whose keys pass may be taken before or after
  pub keyed-where : (p : K → Bool) (es : List (K × X)) → keyed R (filter (λ e. p e.0) es) ≡ where_key R p (keyed R es)
  keyed-where p es =
      same_entries R total tie _ _ (is_sorted-keyed (filter (λ e. p e.0) es)) (is_sorted-where_key R p (keyed R es) (is_sorted-keyed es))
      (λ q. find-keyed q (filter (λ e. p e.0) es) ∙ find-where_key R p q (respects R total tie p q) es ∙ ap (λ o. cond (p q) o None) (sym (find-keyed q es)) ∙ sym (find-where_key R p q (respects R total tie p q) (keyed R es)))

  -- a row whose key was taken out is free
  pub find-without_key : (k : K) (es : List (K × X)) → find R k (without_key R k es) ≡ None
  find-without_key k es = find-where_key R (λ x. not (eq_by_cmp R k x)) k (respects R total tie _ k) es ∙ ap (λ b. cond (not b) (find R k es) None) (itself R total tie k)

  -- to put a row is to take out the one of its key and then to put it
  pub put-without_key : (k : K) (v : X) (es : List (K × X)) → T (is_sorted R es) → put R k v (without_key R k es) ≡ put R k v es
  put-without_key k v es up =
      same_entries R total tie _ _ (is_sorted-put R total k v _ (is_sorted-where_key R _ es up)) (is_sorted-put R total k v es up)
      (λ q. find-put R total q k v _ ∙ ap (cond (eq_by_cmp R q k) (Some v)) (find-where_key R (λ x. not (eq_by_cmp R k x)) q (respects R total tie _ q) es) ∙ go q (eq_by_cmp R q k) refl ∙ sym (find-put R total q k v es))
    where
      go : (q : K) (b : Bool) → eq_by_cmp R q k ≡ b → cond b (Some v) (cond (not (eq_by_cmp R k q)) (find R q es) None) ≡ cond b (Some v) (find R q es)
      go q true e = refl
      go q false e = ap (λ t. cond (not t) (find R q es) None) (apart_back R total tie q k e)

  apart_swap : (a b : Bool) (x y : X) (z : Option X) → (a ≡ true → b ≡ true → ⊥) → cond a (Some x) (cond b (Some y) z) ≡ cond b (Some y) (cond a (Some x) z)
  apart_swap true true x y z h = absurd (h refl refl)
  apart_swap true false x y z h = refl
  apart_swap false b x y z h = refl

  module _ (entry : Row → K × X) (new : Row) where
    -- a new row is found where it is added
    find-put_row : (rows : List Row) → is_taken rows new ≡ false → find R (entry new).0 (map entry rows) ≡ None → (q : K)
        → find R q (map entry (put_row new rows)) ≡ cond (eq_by_cmp R q (entry new).0) (Some (entry new).1) (find R q (map entry rows))
    find-put_row [] free none q = refl
    find-put_row (r ∷ rows) free none q =
        let split = some_first (eq_by_cmp R (entry new).0 (entry r).0) (entry r).1 (find R (entry new).0 (map entry rows)) none in
        go (value_cmp (rowid r) (rowid new)) free split.0 (λ f. find-put_row rows f split.1 q)
      where
        go : (o : Ordering) → (is_eq o || is_taken rows new) ≡ false → eq_by_cmp R (entry new).0 (entry r).0 ≡ false
            → (is_taken rows new ≡ false → find R q (map entry (put_row new rows)) ≡ cond (eq_by_cmp R q (entry new).0) (Some (entry new).1) (find R q (map entry rows)))
            → find R q (map entry (match_ordering o (r ∷ put_row new rows) (new ∷ rows) (new ∷ r ∷ rows)))
            ≡ cond (eq_by_cmp R q (entry new).0) (Some (entry new).1) (cond (eq_by_cmp R q (entry r).0) (Some (entry r).1) (find R q (map entry rows)))
        go Less h apart more =
            ap (cond (eq_by_cmp R q (entry r).0) (Some (entry r).1)) (more h)
            ∙ apart_swap (eq_by_cmp R q (entry r).0) (eq_by_cmp R q (entry new).0) (entry r).1 (entry new).1 (find R q (map entry rows)) (both_tie R total tie q (entry new).0 (entry r).0 apart)
        go Equal h apart more = absurd (true≢false h)
        go Greater h apart more = refl

    pub keyed-put_row : (rows : List Row) → is_taken rows new ≡ false → find R (entry new).0 (keyed R (map entry rows)) ≡ None
        → keyed R (map entry (put_row new rows)) ≡ put R (entry new).0 (entry new).1 (keyed R (map entry rows))
    keyed-put_row rows free none =
        same_entries R total tie _ _ (is_sorted-keyed (map entry (put_row new rows))) (is_sorted-put R total (entry new).0 (entry new).1 _ (is_sorted-keyed (map entry rows)))
        (λ q. find-keyed q (map entry (put_row new rows)) ∙ find-put_row rows free (sym (find-keyed (entry new).0 (map entry rows)) ∙ none) q
        ∙ ap (cond (eq_by_cmp R q (entry new).0) (Some (entry new).1)) (sym (find-keyed q (map entry rows))) ∙ sym (find-put R total q (entry new).0 (entry new).1 (keyed R (map entry rows))))

    -- rows that are apart with a new one were so before, and none had its key
    apart-put_row : (rows : List Row) → is_taken rows new ≡ false → AreApart R (map entry (put_row new rows)) → (find R (entry new).0 (map entry rows) ≡ None) × AreApart R (map entry rows)
    apart-put_row [] free apart = (refl, tt)
    apart-put_row (r ∷ rows) free apart = go (value_cmp (rowid r) (rowid new)) free apart (apart-put_row rows)
      where
        go : (o : Ordering) → (is_eq o || is_taken rows new) ≡ false → AreApart R (map entry (match_ordering o (r ∷ put_row new rows) (new ∷ rows) (new ∷ r ∷ rows)))
            → (is_taken rows new ≡ false → AreApart R (map entry (put_row new rows)) → (find R (entry new).0 (map entry rows) ≡ None) × AreApart R (map entry rows))
            → (find R (entry new).0 (map entry (r ∷ rows)) ≡ None) × AreApart R (map entry (r ∷ rows))
        go Less h apart more =
            let before = more h apart.1 in
            let split = some_first (eq_by_cmp R (entry r).0 (entry new).0) (entry new).1 (find R (entry r).0 (map entry rows)) (sym (find-put_row rows h before.0 (entry r).0) ∙ apart.0) in
            (none_from (eq_by_cmp R (entry new).0 (entry r).0) (entry r).1 (find R (entry new).0 (map entry rows)) (apart_back R total tie (entry r).0 (entry new).0 split.0) before.0, (split.1, before.1))
        go Equal h apart more = absurd (true≢false h)
        go Greater h apart more = apart

  -- new rows that are apart from all others and from each other are put one after the other
  module _ (entry : Row → K × X) where
    apart-put_all : (news rows : List Row) → are_fresh rows news ≡ true → AreApart R (map entry (put_all rows news)) → AreApart R (map entry rows)
    apart-put_all [] rows fresh apart = apart
    apart-put_all (n ∷ news) rows fresh apart = (apart-put_row entry n rows (fresh_first _ _ fresh) (apart-put_all news (put_row n rows) (fresh_later _ _ fresh) apart)).1

    pub keyed-put_all : (news rows : List Row) → are_fresh rows news ≡ true → AreApart R (map entry (put_all rows news))
        → keyed R (map entry (put_all rows news)) ≡ put_each R (map entry news) (keyed R (map entry rows))
    keyed-put_all [] rows fresh apart = refl
    keyed-put_all (n ∷ news) rows fresh apart =
        let later = fresh_later _ _ fresh in
        let before = apart-put_row entry n rows (fresh_first _ _ fresh) (apart-put_all news (put_row n rows) later apart) in
        keyed-put_all news (put_row n rows) later apart ∙ ap (put_each R (map entry news)) (keyed-put_row entry n rows (fresh_first _ _ fresh) (find-keyed (entry n).0 (map entry rows) ∙ before.0))

  module _ (V : X → X → Ordering) where
    abbrev pub whole_cmp : K × X → K × X → Ordering
    whole_cmp a b = ordering_then (R a.0 b.0) (V a.1 b.1)

    insert_is_put : (k : K) (v : X) (es : List (K × X)) → find R k es ≡ None → insert_sorted whole_cmp (k, v) es ≡ put R k v es
    insert_is_put k v [] none = refl
    insert_is_put k v (e ∷ es) none =
        let split = some_first (eq_by_cmp R k e.0) e.1 (find R k es) none in
        go (R k e.0) split.0 (insert_is_put k v es split.1)
      where
        go : (o : Ordering) → is_eq o ≡ false → insert_sorted whole_cmp (k, v) es ≡ put R k v es
            → cond (is_gt (ordering_then o (V v e.1))) (e ∷ insert_sorted whole_cmp (k, v) es) ((k, v) ∷ e ∷ es) ≡ by_order o ((k, v) ∷ e ∷ es) ((e.0, v) ∷ es) (e ∷ put R k v es)
        go Less h more = refl
        go Equal h more = absurd (true≢false h)
        go Greater h more = ap (λ l. e ∷ l) more

    pub sorted-keyed : (es : List (K × X)) → AreApart R es → sort_by whole_cmp es ≡ keyed R es
    sorted-keyed [] apart = refl
    sorted-keyed (e ∷ es) apart = ap (insert_sorted whole_cmp e) (sorted-keyed es apart.1) ∙ insert_is_put e.0 e.1 (keyed R es) (find-keyed e.0 es ∙ apart.0)

-- rows that are apart stay so in any order, and so do some of them
module _ {K X : Type 0} (R : K → K → Ordering) (total : IsTotalOrder R) (tie : (x y : K) → R x y ≡ Equal → x ≡ y) where
  abbrev Missing : List (K × X) → List (K × X) → Type 0
  Missing es fs = (k : K) → find R k es ≡ None → find R k fs ≡ None

  missing_cons : (e : K × X) (es fs : List (K × X)) → Missing es fs → Missing (e ∷ es) (e ∷ fs)
  missing_cons e es fs more k none = let split = some_first (eq_by_cmp R k e.0) e.1 (find R k es) none in none_from (eq_by_cmp R k e.0) e.1 (find R k fs) split.0 (more k split.1)

  missing_filter : (p : K × X → Bool) (es : List (K × X)) → Missing es (filter p es)
  missing_filter p [] k none = none
  missing_filter p (e ∷ es) k none =
      let split = some_first (eq_by_cmp R k e.0) e.1 (find R k es) none in
      let more = missing_filter p es k split.1 in
      elim (p e) as (λ b. find R k (cond b (e ∷ filter p es) (filter p es)) ≡ None) [ true ↦ none_from (eq_by_cmp R k e.0) e.1 (find R k (filter p es)) split.0 more | false ↦ more ]

  pub apart-filter : (p : K × X → Bool) (es : List (K × X)) → AreApart R es → AreApart R (filter p es)
  apart-filter p [] apart = tt
  apart-filter p (e ∷ es) apart =
      let more = apart-filter p es apart.1 in
      elim (p e) as (λ b. AreApart R (cond b (e ∷ filter p es) (filter p es))) [ true ↦ (missing_filter p es e.0 apart.0, more) | false ↦ more ]

  abbrev StayApart : List (K × X) → List (K × X) → Type 0
  StayApart es fs = Missing es fs × (AreApart R es → AreApart R fs)

  swap_apart : (a b : K × X) (es : List (K × X)) → StayApart (a ∷ b ∷ es) (b ∷ a ∷ es)
  swap_apart a b es = (
    (λ k none.
        let first = some_first (eq_by_cmp R k a.0) a.1 (find R k (b ∷ es)) none in
        let second = some_first (eq_by_cmp R k b.0) b.1 (find R k es) first.1 in
        none_from (eq_by_cmp R k b.0) b.1 (find R k (a ∷ es)) second.0 (none_from (eq_by_cmp R k a.0) a.1 (find R k es) first.0 second.1)),
    (λ apart.
        let first = some_first (eq_by_cmp R a.0 b.0) b.1 (find R a.0 es) apart.0 in
        (none_from (eq_by_cmp R b.0 a.0) a.1 (find R b.0 es) (apart_back R total tie a.0 b.0 first.0) apart.1.0, (first.1, apart.1.1))),
  )

  pub stays_apart : (es fs : List (K × X)) → IsPermutation es fs → StayApart es fs
  stays_apart =
      along_permutation StayApart (λ es. ((λ k none. none), (λ apart. apart)))
      (λ e es fs h. (missing_cons e es fs h.0, λ apart. (h.0 e.0 apart.0, h.1 apart.1))) swap_apart
      (λ es fs gs h k. ((λ q none. k.0 q (h.0 q none)), (λ apart. k.1 (h.1 apart))))

  found_at : (k : K) (es : List (K × X)) (i : ℕ) (d : K × X) → i < length es → find R k es ≡ None → eq_by_cmp R k (get_or es i d).0 ≡ false
  found_at k [] i d h none = absurd (omega (arith, h))
  found_at k (e ∷ es) zero d h none = (some_first (eq_by_cmp R k e.0) e.1 (find R k es) none).0
  found_at k (e ∷ es) (suc i) d h none = found_at k es i d (omega (arith, h)) (some_first (eq_by_cmp R k e.0) e.1 (find R k es) none).1

  -- the key of a row and that of the next one
  next_apart : (es : List (K × X)) (i : ℕ) (d : K × X) → suc i < length es → AreApart R es → eq_by_cmp R (get_or es i d).0 (get_or es (suc i) d).0 ≡ false
  next_apart [] i d h apart = absurd (omega (arith, h))
  next_apart (e ∷ es) zero d h apart = found_at e.0 es 0 d (omega (arith, h)) apart.0
  next_apart (e ∷ es) (suc i) d h apart = next_apart es i d (omega (arith, h)) apart.1

  module _ (V : X → X → Ordering) (v_total : IsTotalOrder V) (v_tie : (x y : X) → V x y ≡ Equal → x ≡ y) where
    pub whole_total : IsTotalOrder (whole_cmp R total tie V)
    whole_total = then_total (on_total (λ (e : K × X). e.0) total) (on_total (λ (e : K × X). e.1) v_total)

    pub whole_tie : (a b : K × X) → whole_cmp R total tie V a b ≡ Equal → a ≡ b
    whole_tie a b h = let key = tie a.0 b.0 (tied_first _ _ h) in let value = v_tie a.1 b.1 (tied_second _ _ h) in λ i. (key i, value i)

    by_values_too : (es : List (K × X)) → AreApart R es → IsSorted (λ (a b : K × X). R a.0 b.0) es → IsSorted (whole_cmp R total tie V) es
    by_values_too es apart sorted k d low within =
        let one : k + 1 ≡ suc k = omega arith in
        let inside : suc k < length es = omega arith in
        let a = get_or es k d in
        let b = get_or es (k + 1) d in
        let not_less : is_lt (R b.0 a.0) ≡ false = sorted k d low within in
        let not_equal : eq_by_cmp R b.0 a.0 ≡ false = apart_back R total tie a.0 b.0 (subst (λ n. eq_by_cmp R a.0 (get_or es n d).0 ≡ false) (sym one) (next_apart es k d inside apart)) in
        greater (R b.0 a.0) (V b.1 a.1) not_less not_equal
      where
        greater : (o u : Ordering) → is_lt o ≡ false → is_eq o ≡ false → is_lt (ordering_then o u) ≡ false
        greater Less u h e = absurd (true≢false h)
        greater Equal u h e = absurd (true≢false e)
        greater Greater u h e = refl

    -- rows that are apart, sorted by their keys alone
    pub sorted_by_key : (es fs : List (K × X)) → AreApart R es → IsPermutation es fs → IsSorted (λ (a b : K × X). R a.0 b.0) fs → fs ≡ keyed R es
    sorted_by_key es fs apart same sorted =
        sorted_is (whole_cmp R total tie V) whole_total whole_tie es fs same (by_values_too fs ((stays_apart es fs same).1 apart) sorted)
        ∙ sorted-keyed R total tie V es apart

module _ {K X Y : Type 0} (R : K → K → Ordering) (f : X → Y) where
  abbrev pub at_value : K × X → K × Y
  at_value e = (e.0, f e.1)

  put-map : (k : K) (v : X) (es : List (K × X)) → put R k (f v) (map at_value es) ≡ map at_value (put R k v es)
  put-map k v [] = refl
  put-map k v (e ∷ es) = elim (R k e.0) as (λ o. by_order o ((k, f v) ∷ map at_value (e ∷ es)) ((e.0, f v) ∷ map at_value es) (at_value e ∷ put R k (f v) (map at_value es)) ≡ map at_value (by_order o ((k, v) ∷ e ∷ es) ((e.0, v) ∷ es) (e ∷ put R k v es))) [
    | Less ↦ refl
    | Equal ↦ refl
    | Greater ↦ ap (λ l. at_value e ∷ l) (put-map k v es)
  ]

  pub keyed-map : (es : List (K × X)) → keyed R (map at_value es) ≡ map at_value (keyed R es)
  keyed-map [] = refl
  keyed-map (e ∷ es) = ap (put R e.0 (f e.1)) (keyed-map es) ∙ put-map e.0 e.1 (keyed R es)
