-- Rows under keys: what is found in them after they are mapped, filtered and put.
use Rattle.std.proofs.Common.{◌≡◌, All, Bool, true, false, cond, not, T, ◌&&◌, List, [], ◌∷◌, map, Option, Some, None, refl, sym, ap, subst, ◌∙◌, ℤ, filter, option_map, is_some, Ordering, Less, Equal, Greater, int_eq, is_eq, is_lt, Bor, option_copied}
use Rattle.ft_documents.proofs.Common.{AllByRecursion, eq_by_cmp, ordering_then, IsTotalOrder, eq_by_cmp_equiv, int_cmp_total, tied_itself, int_cmp-IsAntisymmetric, by_order, put, find, below_all, is_sorted, is_sorted-put, is_sorted-where_key, find-put, find-where_key, same_entries, and_parts, and_from, All-head, All-tail, CmpEqualImpliesEq, same_Some, option_eq, lookup, without_key, column_key_cmp, all_put, was_there, gone, changed}

pub true_of : (b : Bool) → T b → b ≡ true
true_of true h = refl
true_of false h = absurd h

pub of_true : (b : Bool) → b ≡ true → T b
of_true b h = subst T (sym h) tt

pub tie : (o : Ordering) → is_eq o ≡ true → o ≡ Equal
tie Equal h = refl
tie _ h = absurd (let no = h in cc)

pub itself : (x : ℤ) → int_eq x x ≡ true
itself x = ap is_eq (tied_itself int_cmp_total x)

pub turned_round : (x y : ℤ) → int_eq x y ≡ int_eq y x
turned_round x y = (eq_by_cmp_equiv int_cmp_total).symm x y

pub same_int : (x y : ℤ) → int_eq x y ≡ true → x ≡ y
same_int x y h = int_cmp-IsAntisymmetric x y (tie _ h)

pub below_apart : (o : Ordering) → is_lt o ≡ true → is_eq o ≡ false
below_apart Equal h = absurd (let no = h in cc)
below_apart _ h = refl

pub less : (o : Ordering) → is_lt o ≡ true → o ≡ Less
less Less h = refl
less _ h = absurd (let no = h in cc)

pub then_equal : (o r : Ordering) → is_eq o ≡ true → ordering_then o r ≡ r
then_equal Equal r h = refl
then_equal _ r h = absurd (let no = h in cc)

pub then_apart : (o r : Ordering) → is_eq o ≡ false → is_eq (ordering_then o r) ≡ false
then_apart Equal r h = absurd (let no = h in cc)
then_apart _ r h = refl

-- a claim of keys still holds after one is put
pub keys_put : {K V : Type 0} (R : K → K → Ordering) (P : K → Type 0) (k : K) (v : V) (es : List (K × V)) → P k → AllByRecursion (λ (e : K × V). P e.0) es → AllByRecursion (λ (e : K × V). P e.0) (put R k v es)
keys_put R P k v [] h all = (h, tt)
keys_put {K} {V} R P k v (e ∷ es) h all = elim (R k e.0) as (λ o. AllByRecursion (λ (e : K × V). P e.0) (by_order o ((k, v) ∷ e ∷ es) ((e.0, v) ∷ es) (e ∷ put R k v es))) [ Less ↦ (h, all) | Equal ↦ all | Greater ↦ (all.0, keys_put R P k v es h all.1) ]

-- ---- values that are mapped

pub find-values : {K V W : Type 0} (R : K → K → Ordering) (f : V → W) (q : K) (es : List (K × V)) → find R q (map (λ e. (e.0, f e.1)) es) ≡ option_map f (find R q es)
find-values R f q [] = refl
find-values R f q (e ∷ es) = elim (eq_by_cmp R q e.0) as (λ b. cond b (Some (f e.1)) (find R q (map (λ e. (e.0, f e.1)) es)) ≡ option_map f (cond b (Some e.1) (find R q es))) [ true ↦ refl | false ↦ find-values R f q es ]

below-values : {K V W : Type 0} (R : K → K → Ordering) (f : V → W) (x : K) (es : List (K × V)) → below_all R x (map (λ e. (e.0, f e.1)) es) ≡ below_all R x es
below-values R f x [] = refl
below-values R f x (e ∷ es) = ap (λ b. is_lt (R x e.0) && b) (below-values R f x es)

pub sorted-values : {K V W : Type 0} (R : K → K → Ordering) (f : V → W) (es : List (K × V)) → is_sorted R (map (λ e. (e.0, f e.1)) es) ≡ is_sorted R es
sorted-values R f [] = refl
sorted-values R f (e ∷ es) = λ i. below-values R f e.0 es i && sorted-values R f es i

-- a key below all others isn't there
pub none_found : {K V : Type 0} (R : K → K → Ordering) (k : K) (es : List (K × V)) → below_all R k es ≡ true → find R k es ≡ None
none_found R k [] h = refl
none_found R k (e ∷ es) h =
    let parts = and_parts (is_lt (R k e.0)) (below_all R k es) h in
    ap (λ o. cond (is_eq o) (Some e.1) (find R k es)) (less _ parts.0) ∙ none_found R k es parts.1

-- what is below a key is below all that it is below
pub below_lower : {K V : Type 0} (R : K → K → Ordering) → IsTotalOrder R → (x y : K) (es : List (K × V)) → is_lt (R x y) ≡ true → below_all R y es ≡ true → below_all R x es ≡ true
below_lower R o x y [] h below = refl
below_lower R o x y (e ∷ es) h below =
    let parts = and_parts (is_lt (R y e.0)) (below_all R y es) below in
    and_from (is_lt (R x e.0)) (below_all R x es) (ap is_lt (o.trans x y e.0 (less _ h) (less _ parts.0))) (below_lower R o x y es h parts.1)

module _ {K V : Type 0} (R : K → K → Ordering) (o : IsTotalOrder R) (exact : CmpEqualImpliesEq R) where
  pub none_below : (q k : K) (es : List (K × V)) → eq_by_cmp R q k ≡ true → below_all R k es ≡ true → find R q es ≡ None
  none_below q k es same h = ap (λ x. find R x es) (exact q k (tie _ same)) ∙ none_found R k es h

  -- what holds of all holds of what is found
  pub found_holds : (P : K × V → Type 0) (q : K) (v : V) (es : List (K × V)) → All P es → find R q es ≡ Some v → P (q, v)
  found_holds P q v [] all = λ is. absurd (let no = is in cc)
  found_holds P q v (e ∷ es) all =
      elim (eq_by_cmp R q e.0) as (λ b. eq_by_cmp R q e.0 ≡ b → cond b (Some e.1) (find R q es) ≡ Some v → P (q, v)) [
        | true ↦ λ same is. subst P (λ i. (sym (exact q e.0 (tie _ same)) i, same_Some e.1 v is i)) (All-head P e es all)
        | false ↦ λ _ is. found_holds P q v es (All-tail P e es all) is
      ] refl

  -- and of rows in order each is found
  found_behind : (x : K × V) (es all : List (K × V)) → below_all R x.0 es ≡ true → AllByRecursion (λ (e : K × V). find R e.0 all ≡ Some e.1) es → AllByRecursion (λ (e : K × V). find R e.0 (x ∷ all) ≡ Some e.1) es
  found_behind x [] all below found = tt
  found_behind x (e ∷ es) all below found =
      let parts = and_parts (is_lt (R x.0 e.0)) (below_all R x.0 es) below in
      (ap (λ b. cond b (Some x.1) (find R e.0 all)) ((eq_by_cmp_equiv o).symm e.0 x.0 ∙ below_apart _ parts.0) ∙ found.0, found_behind x es all parts.1 found.1)

  pub each_found : (es : List (K × V)) → is_sorted R es ≡ true → AllByRecursion (λ (e : K × V). find R e.0 es ≡ Some e.1) es
  each_found [] h = tt
  each_found (e ∷ es) h =
      let parts = and_parts (below_all R e.0 es) (is_sorted R es) h in
      (ap (λ r. cond (is_eq r) (Some e.1) (find R e.0 es)) (tied_itself o e.0), found_behind e es es parts.0 (each_found es parts.1))

  -- ---- rows that are put

  pub sorted_put : (es rows : List (K × V)) → is_sorted R rows ≡ true → is_sorted R (all_put R es rows) ≡ true
  sorted_put [] rows h = h
  sorted_put (e ∷ es) rows h = sorted_put es (put R e.0 e.1 rows) (true_of _ (is_sorted-put R o e.0 e.1 rows (of_true _ h)))

  abbrev pub or_else : Option V → Option V → Option V
  or_else None later = later
  or_else (Some v) later = Some v

  pub find_all_put : (q : K) (es rows : List (K × V)) → is_sorted R es ≡ true → find R q (all_put R es rows) ≡ or_else (find R q es) (find R q rows)
  find_all_put q [] rows h = refl
  find_all_put q (e ∷ es) rows h =
      let parts = and_parts (below_all R e.0 es) (is_sorted R es) h in
      find_all_put q es (put R e.0 e.1 rows) parts.1 ∙ ap (or_else (find R q es)) (find-put R o q e.0 e.1 rows)
      ∙ elim (eq_by_cmp R q e.0) as (λ b. eq_by_cmp R q e.0 ≡ b → or_else (find R q es) (cond b (Some e.1) (find R q rows)) ≡ or_else (cond b (Some e.1) (find R q es)) (find R q rows)) [
        | true ↦ λ same. ap (λ x. or_else x (Some e.1)) (none_below q e.0 es same parts.0)
        | false ↦ λ _. refl
      ] refl

  or_none : (x : Option V) → or_else x None ≡ x
  or_none None = refl
  or_none (Some v) = refl

  -- rows in order that are put one after another
  pub put_in_order : (es : List (K × V)) → is_sorted R es ≡ true → all_put R es [] ≡ es
  put_in_order es h = same_entries R o exact (all_put R es []) es (of_true _ (sorted_put es [] refl)) (of_true _ h) (λ q. find_all_put q es [] h ∙ or_none (find R q es))

  -- ---- rows that pass a test of key and value

  abbrev pub kept : (K × V → Bool) → K → Option V → Option V
  kept p q None = None
  kept p q (Some v) = cond (p (q, v)) (Some v) None

  below-filter : (p : K × V → Bool) (x : K) (es : List (K × V)) → below_all R x es ≡ true → below_all R x (filter p es) ≡ true
  below-filter p x [] h = refl
  below-filter p x (e ∷ es) h =
      let parts = and_parts (is_lt (R x e.0)) (below_all R x es) h in
      elim (p e) as (λ b. below_all R x (cond b (e ∷ filter p es) (filter p es)) ≡ true) [ true ↦ and_from (is_lt (R x e.0)) (below_all R x (filter p es)) parts.0 (below-filter p x es parts.1) | false ↦ below-filter p x es parts.1 ]

  pub sorted-filter : (p : K × V → Bool) (es : List (K × V)) → is_sorted R es ≡ true → is_sorted R (filter p es) ≡ true
  sorted-filter p [] h = refl
  sorted-filter p (e ∷ es) h =
      let parts = and_parts (below_all R e.0 es) (is_sorted R es) h in
      elim (p e) as (λ b. is_sorted R (cond b (e ∷ filter p es) (filter p es)) ≡ true) [ true ↦ and_from (below_all R e.0 (filter p es)) (is_sorted R (filter p es)) (below-filter p e.0 es parts.0) (sorted-filter p es parts.1) | false ↦ sorted-filter p es parts.1 ]

  pub find-filter : (p : K × V → Bool) (q : K) (es : List (K × V)) → is_sorted R es ≡ true → find R q (filter p es) ≡ kept p q (find R q es)
  find-filter p q [] h = refl
  find-filter p q (e ∷ es) h =
      let parts = and_parts (below_all R e.0 es) (is_sorted R es) h in
      let rest = find-filter p q es parts.1 in
      let at : eq_by_cmp R q e.0 ≡ true → p (q, e.1) ≡ p e = λ same. ap (λ k. p (k, e.1)) (exact q e.0 (tie _ same)) in
      elim (p e) as (λ c. p e ≡ c → find R q (cond c (e ∷ filter p es) (filter p es)) ≡ kept p q (cond (eq_by_cmp R q e.0) (Some e.1) (find R q es))) [
        | true ↦ λ passes. elim (eq_by_cmp R q e.0) as (λ b. eq_by_cmp R q e.0 ≡ b → cond b (Some e.1) (find R q (filter p es)) ≡ kept p q (cond b (Some e.1) (find R q es))) [ true ↦ λ same. sym (ap (λ b. cond b (Some e.1) None) (at same ∙ passes)) | false ↦ λ _. rest ] refl
        | false ↦ λ fails. elim (eq_by_cmp R q e.0) as (λ b. eq_by_cmp R q e.0 ≡ b → find R q (filter p es) ≡ kept p q (cond b (Some e.1) (find R q es))) [
          | true ↦ λ same. rest ∙ ap (kept p q) (none_below q e.0 es same parts.0) ∙ sym (ap (λ b. cond b (Some e.1) None) (at same ∙ fails))
          | false ↦ λ _. rest
        ] refl
      ] refl

  -- ---- rows that are dropped by their keys

  abbrev pub all_dropped : List (K × V) → List (K × V) → List (K × V)
  all_dropped [] rows = rows
  all_dropped (e ∷ es) rows = all_dropped es (without_key R e.0 rows)

  pub sorted_dropped : (es rows : List (K × V)) → is_sorted R rows ≡ true → is_sorted R (all_dropped es rows) ≡ true
  sorted_dropped [] rows h = h
  sorted_dropped (e ∷ es) rows h = sorted_dropped es (without_key R e.0 rows) (true_of _ (is_sorted-where_key R (λ k. not (eq_by_cmp R e.0 k)) rows (of_true _ h)))

  abbrev pub unless_some : Option V → Option V → Option V
  unless_some None later = later
  unless_some (Some v) later = None

  unless_none : (a : Option V) → unless_some a None ≡ None
  unless_none None = refl
  unless_none (Some v) = refl

  pub find_all_dropped : (q : K) (es rows : List (K × V)) → find R q (all_dropped es rows) ≡ unless_some (find R q es) (find R q rows)
  find_all_dropped q [] rows = refl
  find_all_dropped q (e ∷ es) rows =
      let p : K → Bool = λ (k : K). not (eq_by_cmp R e.0 k) in
      find_all_dropped q es (without_key R e.0 rows)
      ∙ ap (unless_some (find R q es)) (find-where_key R p q (λ x t. ap p (sym (exact q x t))) rows ∙ ap (λ b. cond (not b) (find R q rows) None) ((eq_by_cmp_equiv o).symm e.0 q))
      ∙ elim (eq_by_cmp R q e.0) as (λ b. unless_some (find R q es) (cond (not b) (find R q rows) None) ≡ unless_some (cond b (Some e.1) (find R q es)) (find R q rows)) [
        | true ↦ unless_none (find R q es)
        | false ↦ refl
      ]

  -- ---- from old rows to new ones

  abbrev pub replaced : Option V → Option V → Option V → Option V
  replaced old None there = cond (is_some old) None there
  replaced old (Some v) there = Some v

  abbrev pub fresh : (V → V → Bool) → Option V → Option V → Option V
  fresh same old None = None
  fresh same old (Some v) = cond (not (was_there same old v)) (Some v) None

  fresh_kept : (same : V → V → Bool) (q : K) (old : List (K × V)) (x : Option V) → kept (λ e. not (was_there same (find R e.0 old) e.1)) q x ≡ fresh same (find R q old) x
  fresh_kept same q old None = refl
  fresh_kept same q old (Some v) = refl

  pub changed_found : (same : V → V → Bool) (q : K) (old new : List (K × V)) → is_sorted R new ≡ true → find R q (changed R same old new) ≡ fresh same (find R q old) (find R q new)
  changed_found same q old new h = find-filter (λ e. not (was_there same (find R e.0 old) e.1)) q new h ∙ fresh_kept same q old (find R q new)

  -- rows that are gone are changed ones, where all values are the same
  pub gone_is : (old new : List (K × V)) → gone R old new ≡ changed R (λ _ _. true) new old
  gone_is [] new = refl
  gone_is (e ∷ es) new = λ i. cond (not (is_there (find R e.0 new) i)) (e ∷ gone_is es new i) (gone_is es new i)
    where
      is_there : (x : Option V) → is_some x ≡ was_there (λ _ _. true) x e.1
      is_there None = refl
      is_there (Some v) = refl

  module _ (same other : V → V → Bool) (sound : (v w : V) → same v w ≡ true → (v ≡ w) × (other w v ≡ true)) where
    renewed : (old new there : Option V) → ((v : V) → old ≡ Some v → there ≡ Some v) → or_else (fresh same old new) (unless_some (fresh other new old) there) ≡ replaced old new there
    renewed None None there held = refl
    renewed None (Some v) there held = refl
    renewed (Some w) None there held = refl
    renewed (Some w) (Some v) there held =
        elim (same w v) as (λ b. same w v ≡ b → or_else (cond (not b) (Some v) None) (unless_some (fresh other (Some v) (Some w)) there) ≡ Some v) [
          | true ↦ λ is. ap (λ b. unless_some (cond (not b) (Some w) None) there) (sound w v is).1 ∙ held w refl ∙ ap Some (sound w v is).0
          | false ↦ λ _. refl
        ] refl

    -- What is found after the rows that are gone or differ are dropped and the changed ones are put,
    -- where the old ones were there.
    pub find_renewed : (q : K) (old new rows : List (K × V)) → is_sorted R old ≡ true → is_sorted R new ≡ true → ((v : V) → find R q old ≡ Some v → find R q rows ≡ Some v) →
        find R q (all_put R (changed R same old new) (all_dropped (changed R other new old) rows)) ≡ replaced (find R q old) (find R q new) (find R q rows)
    find_renewed q old new rows g h there =
        let left = find_all_dropped q (changed R other new old) rows ∙ ap (λ x. unless_some x (find R q rows)) (changed_found other q new old g) in
        find_all_put q (changed R same old new) (all_dropped (changed R other new old) rows) (sorted-filter (λ e. not (was_there same (find R e.0 old) e.1)) new h)
        ∙ (λ i. or_else (changed_found same q old new h i) (left i))
        ∙ renewed (find R q old) (find R q new) (find R q rows) there

-- ---- what is found in a map is found in the rows that it shows

pub find_looked_up : {K V : Type 0} (R : K → K → Ordering) (key : K) (es : List (K × V)) → find R key es ≡ lookup (λ k. is_eq (R key k)) es
find_looked_up R key [] = refl
find_looked_up R key (e ∷ es) = ap (cond (is_eq (R key e.0)) (Some e.1)) (find_looked_up R key es)

-- whether exactly this size was found
pub held_size : (key : ℤ × ℤ) (es : List ((ℤ × ℤ) × ℤ)) (n : Bor ℤ) (o : Option (Bor ℤ)) → option_copied o ≡ lookup (λ k. is_eq (column_key_cmp key k)) es →
    option_eq (λ x y. int_eq x.now y.now) o (Some n) ≡ was_there int_eq (find column_key_cmp key es) n.now
held_size key es n None found = ap (λ o. was_there int_eq o n.now) (found ∙ sym (find_looked_up column_key_cmp key es))
held_size key es n (Some held) found = ap (λ o. was_there int_eq o n.now) (found ∙ sym (find_looked_up column_key_cmp key es))
