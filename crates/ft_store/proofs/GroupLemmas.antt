-- How lists that are added together make the steps of a change.
use Rattle.std.proofs.Common.{◌≡◌, ℕ, suc, ◌+◌, ◌<◌, Bool, true, false, List, [], ◌∷◌, ◌++◌, map, length, take, get_or, All, Ok, refl, sym, ap, ap₂, ◌∙◌, subst, arith, IsTrue, if◌then◌else◌, MatchBool, flat_map}
use Rattle.ft_store.proofs.Common.{put, nil_from_length, map_push, take_more, get_or-map, Row, State, Executes, Shows, ExecutesInside, IsUnchanged}
use Rattle.ft_store.proofs.Common.{RowChange, StoreValue, Change, list_key_cmp, all_applied, shown_change}
use Rattle.std.proofs.lemmas.List.Concat.{flat_map-append}
use Rattle.ft_values.specs.declared.rows.RowChange.TheVariants as row
use Rattle.ft_store.specs.Rows.{value_of}
use Rattle.ft_store.specs.Calls.{IsStore, Steps, Goes}
use Rattle.ft_store.specs.Groups.{PackedList, entry_values, with_lists, entry_put, PutsList}
use Rattle.ft_store.proofs.Texts.{add_lists_text}
use Rattle.ft_store.proofs.StoreTables.{does_add_eight}
use Rattle.ft_store.proofs.PutLemmas.{packed_back}

-- ---- eight lists

first_of : {X : Type 0} (n : ℕ) (xs : List X) → length xs ≡ suc n → (x : X) × (rest : List X) × (xs ≡ x ∷ rest) × (length rest ≡ n)
first_of n [] len = absurd (omega (arith, len))
first_of n (x ∷ xs) len = (x, xs, refl, omega (arith, len))

pub all_eight : (es : List PackedList) → length es ≡ 8
    → (a : PackedList) × (b : PackedList) × (c : PackedList) × (d : PackedList) × (e : PackedList) × (f : PackedList) × (g : PackedList) × (h : PackedList) × (es ≡ a ∷ b ∷ c ∷ d ∷ e ∷ f ∷ g ∷ h ∷ [])
all_eight es len =
    let a = first_of 7 es len in
    let b = first_of 6 a.1 a.3 in
    let c = first_of 5 b.1 b.3 in
    let d = first_of 4 c.1 c.3 in
    let e = first_of 3 d.1 d.3 in
    let f = first_of 2 e.1 e.3 in
    let g = first_of 1 f.1 f.3 in
    let h = first_of 0 g.1 g.3 in (
      a.0,
      b.0,
      c.0,
      d.0,
      e.0,
      f.0,
      g.0,
      h.0,
      a.2 ∙ ap (λ l. a.0 ∷ l) (b.2 ∙ ap (λ l. b.0 ∷ l) (c.2 ∙ ap (λ l. c.0 ∷ l) (d.2 ∙ ap (λ l. d.0 ∷ l) (e.2 ∙ ap (λ l. e.0 ∷ l) (f.2 ∙ ap (λ l. f.0 ∷ l) (g.2 ∙ ap (λ l. g.0 ∷ l) (h.2 ∙ ap (λ l. h.0 ∷ l) (nil_from_length h.1 h.3)))))))),
    )

does_add_lists : (old new : State) → IsStore old.now → Shows old new new.now old.committed true → (es : List PackedList) → length es ≡ 8 → (values : Row) → values ≡ flat_map entry_values es
    → (count : ℕ) → Executes add_lists_text values old new (Ok count) → Steps old new (with_lists es (value_of old.now.trees))
does_add_lists old new kept shown es len values is count ran =
    let e = all_eight es len in
    subst (λ l. Steps old new (with_lists l (value_of old.now.trees))) (sym e.8)
    (does_add_eight old new kept shown e.0 e.1 e.2 e.3 e.4 e.5 e.6 e.7 count (subst (λ l. Executes add_lists_text l old new (Ok count)) (is ∙ ap (flat_map entry_values) e.8) ran))

-- ---- what steps make

pub goes_of : (old new : State) (v : StoreValue) → Steps old new v → Goes old new v
goes_of old new v step = record { going = λ _. (step.shown.is_open, step.store, step.is); was_open = λ _. step.shown.was_open; committed = step.shown.committed_is; inside = step.shown.mode }

pub goes_nowhere : (old new : State) → IsUnchanged old new → IsTrue old.in_transaction → (IsTrue old.is_open → IsStore old.now) → Goes old new (value_of old.now.trees)
goes_nowhere old new same inside kept = record {
  going = λ is_open. (same.0.is_open, subst IsStore (sym same.0.now_is) (kept is_open), ap (λ d. value_of d.trees) same.0.now_is);
  was_open = λ _. same.0.was_open;
  committed = same.0.committed_is;
  inside = same.0.mode ∙ inside;
}

pub goes_then : (a b c : State) (v : StoreValue) (f : StoreValue → StoreValue) → Goes a b v → Goes b c (f (value_of b.now.trees)) → Goes a c (f v)
goes_then a b c v f one two = record {
  going = λ is_open.
      let first = one.going is_open in
      let second = two.going first.0 in (second.0, second.1, second.2 ∙ ap f first.2);
  was_open = λ is_open. one.was_open (two.was_open is_open);
  committed = two.committed ∙ one.committed;
  inside = two.inside;
}

-- the statement that adds eight lists
pub adds_eight : (old new : State) (es : List PackedList) (values : Row) (added : Bool) → length es ≡ 8 → values ≡ flat_map entry_values es → IsTrue old.in_transaction → (IsTrue old.is_open → IsStore old.now)
    → MatchBool added ((count : ℕ) × ExecutesInside 0 add_lists_text values old new (Ok count)) (IsUnchanged old new) → Goes old new (if added then with_lists es (value_of old.now.trees) else value_of old.now.trees)
adds_eight old new es values true len is inside kept ran = goes_of old new _ (does_add_lists old new (kept ran.1.1.was_open) ran.1.1 es len values is ran.0 ran.1.0)
adds_eight old new es values false len is inside kept same = goes_nowhere old new same inside kept

-- ---- changes that put lists

pub each_puts : (changes : List RowChange) → All PutsList changes → (v : StoreValue) → with_lists (map entry_put changes) v ≡ all_applied (map shown_change changes) v
each_puts [] all v = refl
each_puts (change ∷ changes) all v = go change (all 0 change (omega arith)) (each_puts changes (λ i d low. all (suc i) d (omega (arith, low))))
  where
    go : (c : RowChange) → PutsList c → ((w : StoreValue) → with_lists (map entry_put changes) w ≡ all_applied (map shown_change changes) w)
        → with_lists (map entry_put (c ∷ changes)) v ≡ all_applied (map shown_change (c ∷ changes)) v
    go (row.PutEntries tab term docid spots) can more =
        ap (λ l. with_lists (map entry_put changes) (record v { lists = put list_key_cmp (entry_put (row.PutEntries tab term docid spots)).0 l v.lists })) (packed_back spots.items can) ∙ more _
    go _ can more = absurd can

-- ---- what the loops make, one change more

-- the packed lists
pub one_more_list : (changes : List RowChange) (i : ℕ) (change : RowChange) (lists : List (List ℕ)) (list : List ℕ) → i < length changes → change ≡ get_or changes i change → list ≡ (entry_put change).1
    → lists ≡ map (λ c. (entry_put c).1) (take i changes) → lists ++ list ∷ [] ≡ map (λ c. (entry_put c).1) (take (i + 1) changes)
one_more_list changes i change lists list inside is here before =
    let f = λ (c : RowChange). (entry_put c).1 in
    ap₂ (λ a b. a ++ b ∷ []) before here ∙ sym (map_push f (take i changes) change) ∙ ap (map f) (ap (λ c. take i changes ++ c ∷ []) is ∙ sym (take_more changes i change inside))

-- what is bound for them
pub one_more_bound : (changes : List RowChange) (i : ℕ) (change : RowChange) (lists : List (List ℕ)) (list : List ℕ) (values : Row) → i < length changes → change ≡ get_or changes i change
    → lists ≡ map (λ c. (entry_put c).1) changes → list ≡ get_or lists i list → values ≡ flat_map entry_values (map entry_put (take i changes))
    → values ++ entry_values ((entry_put change).0, list) ≡ flat_map entry_values (map entry_put (take (i + 1) changes))
one_more_bound changes i change lists list values inside is all at before =
    let f = λ (c : RowChange). (entry_put c).1 in
    let here : list ≡ f change = at ∙ ap (λ l. get_or l i list) all ∙ get_or-map f changes i change list inside ∙ ap f (sym is) in
    ap₂ (λ a b. a ++ entry_values ((entry_put change).0, b)) before here ∙ sym (flat_map-append entry_values (map entry_put (take i changes)) (entry_put change ∷ []))
    ∙ ap (flat_map entry_values) (sym (map_push entry_put (take i changes) change) ∙ ap (map entry_put) (ap (λ c. take i changes ++ c ∷ []) is ∙ sym (take_more changes i change inside)))

-- ---- one group after the other

pub applied-append : (xs ys : List Change) (v : StoreValue) → all_applied (xs ++ ys) v ≡ all_applied ys (all_applied xs v)
applied-append [] ys v = refl
applied-append (x ∷ xs) ys v = applied-append xs ys _
