-- Row changes that are made in a transaction, one after the other.
use Rattle.std.proofs.Common.{◌≡◌, ◌⊎◌, ◌+◌, ◌-◌, ◌<◌, ◌≤◌, ◌∷◌, ◌++◌, ℕ, Bool, true, false, List, [], map, length, take, drop, get_or, All, Result, Ok, Err, IsTrue, refl, sym, ap, subst, ◌∙◌, arith, inl, inr, append_assoc, Any, IfErr, Some, Vec, if◌then◌else◌, MutBor, sum_by, take_all, take-append-drop, take-add}
use Rattle.ft_store.proofs.Common.{Global, AllByRecursion, between, map-append, All-nil, All-cons, All-append, All-map, All-weaker}
use Rattle.ft_store.proofs.Common.{recursion_from_All, All-from_recursion, sum_by-append, sum_by-cons, IfOk-weaker, State, HasCleanDisk, Ghosts, Held}
use Rattle.ft_store.proofs.Common.{state, RowChange, Change, applied, all_applied, shown_change, CanApply}
use Rattle.std.proofs.lemmas.List.Edits.{between_none, between_more}
use Rattle.ft_values.specs.declared.rows.RowChange.TheVariants as row
use Rattle.ft_store.specs.declared.fault.StoreFault.{StoreFault}
use Rattle.ft_store.specs.Rows.{value_of}
use Rattle.ft_store.specs.Calls.{IsStore, Steps, Goes, StaysUncommitted, IsPlainFault, IsChangeFault}
use Rattle.ft_store.specs.Groups.{PutsList, entry_put, with_lists, GoesOnOk}
use Rattle.ft_store.specs.Parts.{CanMake, changes_in, IsNext}
use Rattle.ft_store.specs.Puts.{AreGrown, IsFull, IsBigEntry, GrowsIfAdded, BlamesRows, rows_put, CantPut}
use Rattle.ft_store.specs.Changes.{Changes, HasMade, MakesSome, MakesAll}
use Rattle.ft_store.proofs.CantLemmas.{part_why, cant_one, count_rows, group_why, trees_same, trees_then}
use Rattle.ft_store.proofs.ChainLemmas.{ok_too, both}
use Rattle.ft_store.proofs.GroupLemmas.{applied-append, each_puts, goes_of, goes_then}
use Rattle.ft_store.proofs.InsideLemmas.{stays_same, stays_for, stays_then}

-- ---- what can be made

can_apply : (change : RowChange) → CanMake (shown_change change) → CanApply change
can_apply (row.PutEntries tab term docid spots) can = can
can_apply _ can = tt

can_make : (change : RowChange) → CanApply change → CanMake (shown_change change)
can_make (row.PutEntries tab term docid spots) can = can
can_make _ can = tt

can_put : (change : RowChange) → PutsList change → CanMake (shown_change change)
can_put (row.PutEntries tab term docid spots) can = can
can_put _ can = absurd can

each_applies : (changes : List RowChange) → AllByRecursion CanMake (map shown_change changes) → AllByRecursion CanApply changes
each_applies [] all = tt
each_applies (change ∷ changes) all = (can_apply change all.0, each_applies changes all.1)

pub all_apply : (changes : List RowChange) → All CanMake (map shown_change changes) → All CanApply changes
all_apply changes all = All-from_recursion CanApply changes (each_applies changes (recursion_from_All CanMake (map shown_change changes) all))

-- what may be refused as damaged
pub rows_fault : (changes : List RowChange) (e : StoreFault) → IsChangeFault (All CanMake (map shown_change changes)) e → IsChangeFault (All CanApply changes) e
rows_fault changes e (inl plain) = inl plain
rows_fault changes e (inr damaged) = inr (damaged.0, λ can. damaged.1 (All-map CanMake shown_change changes (All-weaker CanApply (λ c. CanMake (shown_change c)) can_make changes can)))

first_can : (xs ys : List Change) → AllByRecursion CanMake (xs ++ ys) → AllByRecursion CanMake xs
first_can [] ys all = tt
first_can (x ∷ xs) ys all = (all.0, first_can xs ys all.1)

last_can : (xs ys : List Change) → AllByRecursion CanMake (xs ++ ys) → AllByRecursion CanMake ys
last_can [] ys all = all
last_can (x ∷ xs) ys all = last_can xs ys all.1

part_fault : (done part rest all : List Change) → all ≡ (done ++ part) ++ rest → (e : StoreFault) → IsChangeFault (All CanMake part) e → IsChangeFault (All CanMake all) e
part_fault done part rest all is e (inl plain) = inl plain
part_fault done part rest all is e (inr damaged) =
    inr (damaged.0, λ can. damaged.1 (All-from_recursion CanMake part (last_can done part (first_can (done ++ part) rest (subst (AllByRecursion CanMake) is (recursion_from_All CanMake all can))))))

-- ---- what was made, and what a step makes

none_made : (a : State) → IsTrue a.in_transaction → (IsTrue a.is_open → IsStore a.now) → HasMade a a []
none_made a inside kept = record {
  goes = record { going = λ is_open. (is_open, kept is_open, refl); was_open = λ is_open. is_open; committed = refl; inside = inside };
  grown = trees_same 0 a.now.trees a.now.trees refl;
}

made_then : (a b c : State) (xs ys : List Change) → HasMade a b xs → HasMade b c ys → HasMade a c (xs ++ ys)
made_then a b c xs ys one two = record {
  goes = subst (Goes a c) (sym (applied-append xs ys (value_of a.now.trees))) (goes_then a b c _ (all_applied ys) one.goes two.goes);
  grown = subst (λ n. AreGrown n a.now.trees c.now.trees) (sym (sum_by-append rows_put xs ys)) (trees_then (sum_by rows_put xs) (sum_by rows_put ys) a.now.trees b.now.trees c.now.trees one.grown two.grown);
}

-- nothing is made yet
pub nothing_made : {S X : Type 0} (g : Ghosts S) (a : MutBor (Held S)) (x : X) (made : X → List Change) (all : List Change) → made x ≡ [] → MakesSome g a a (Ok x) made all
nothing_made g a x made all is = record {
  packable = subst (All CanMake) (sym is) (All-nil CanMake);
  steps = λ clean inside kept. subst (HasMade (state g a.now) (state g a.now)) (sym is) (none_made (state g a.now) inside kept);
  stays = stays_same g a (Ok x) (IsChangeFault (All CanMake all)) tt;
  refused = λ clean inside kept told. absurd (let no = told in cc);
}

-- one change is made
made_one : (a b : State) (c : Change) → Steps a b (applied c (value_of a.now.trees)) → AreGrown (rows_put c) a.now.trees b.now.trees → HasMade a b (c ∷ [])
made_one a b c step grown = record { goes = goes_of a b _ step; grown = subst (λ n. AreGrown n a.now.trees b.now.trees) (let e = sum_by-cons rows_put c [] in omega (arith, e)) grown }

pub one_made : {S : Type 0} (g : Ghosts S) (a b : MutBor (Held S)) (result : Result (Unit {0}) StoreFault) (c d : Change) → c ≡ d → CanMake c → Changes g a b result (applied c) (rows_put c) (λ db. CantPut (rows_put c) db (value_of db) c) → MakesAll g a b result (d ∷ [])
one_made g a b result c d is can it = subst (λ x. MakesAll g a b result (x ∷ [])) is (record {
  packable = ok_too result (All-cons CanMake c [] can (All-nil CanMake));
  steps = λ clean inside kept. both result _ _ _ (λ _. made_one (state g a.now) (state g b.now) c) (it.done.steps clean inside kept) (it.grown clean inside kept);
  stays = stays_for g a b result IsPlainFault (IsChangeFault (All CanMake (c ∷ []))) (λ e plain. inl plain) it.done.stays;
  refused = λ clean inside kept told. elim (it.refused clean inside kept told) [ inl blamed ↦ inl blamed | inr why ↦ inr (cant_one (state g a.now).now.trees c why) ];
})

-- what is made is told in another way
pub made_so : {S X Y : Type 0} (g : Ghosts S) (a b : MutBor (Held S)) (x : X) (y : Y) (made : X → List Change) (done all : List Change) → made x ≡ done → MakesSome g a b (Ok x) made all → MakesSome g a b (Ok y) (λ _. done) all
made_so g a b x y made done all is it = subst (λ l. MakesSome g a b (Ok y) (λ _. l) all) is (record {
  packable = it.packable;
  steps = it.steps;
  stays = record { same_reference = it.stays.same_reference; kept = it.stays.kept; survives = it.stays.survives; fault = tt };
  refused = λ clean inside kept told. absurd (let no = told in cc);
})

-- one that is refused ends all
pub ends_all : {S X Y : Type 0} (g : Ghosts S) (a b : MutBor (Held S)) (one : Result X StoreFault) (two : Result Y StoreFault) (e : StoreFault) (some : X → List Change) (made : Y → List Change) (all : List Change) → one ≡ Err e → two ≡ Err e → MakesSome g a b one some all → MakesSome g a b two made all
ends_all g a b one two e some made all is same it = subst (λ r. MakesSome g a b r made all) (sym same) (record {
  packable = tt;
  steps = λ clean inside kept. tt;
  stays = record { same_reference = it.stays.same_reference; kept = it.stays.kept; survives = it.stays.survives; fault = subst (λ r. IfErr r (IsChangeFault (All CanMake all))) is it.stays.fault };
  refused = λ clean inside kept told. it.refused clean inside kept (is ∙ ap Err (let it = told in cc));
})

-- some were made, and then a step is done
module _ {S X : Type 0} (g : Ghosts S) (a b c : MutBor (Held S)) (two : Result X StoreFault) (done : List Change) (made : X → List Change) (part rest all : List Change) (is : all ≡ (done ++ part) ++ rest)
    (first : MakesSome {X = Unit {0}} g a b (Ok tt) (λ _. done) all) (second : MakesSome g b c two made part) where
  abbrev old : State
  old = state g a.now

  abbrev mid : State
  mid = state g b.now

  abbrev new : State
  new = state g c.now

  was_clean : HasCleanDisk new → HasCleanDisk mid
  was_clean clean = omega (arith, second.stays.survives.clean, clean)

  still_store : HasMade old mid done → IsTrue mid.is_open → IsStore mid.now
  still_store one is_open = (one.goes.going (one.goes.was_open is_open)).1

  pub part_made : MakesSome g a c two (λ x. done ++ made x) all
  part_made = record {
    packable = IfOk-weaker two (λ x. All CanMake (made x)) (λ x. All CanMake (done ++ made x)) (λ x can. All-append CanMake done (made x) first.packable can) second.packable;
    steps = λ clean inside kept.
        let one = first.steps (was_clean clean) inside kept in
        IfOk-weaker two (λ x. HasMade mid new (made x)) (λ x. HasMade old new (done ++ made x)) (λ x next. made_then old mid new done (made x) one next) (second.steps clean one.goes.inside (still_store one));
    stays = stays_then g (IsChangeFault (All CanMake all)) a b c (Ok tt) two first.stays
        (stays_for g b c two (IsChangeFault (All CanMake part)) (IsChangeFault (All CanMake all)) (part_fault done part rest all is) second.stays);
    refused = λ clean inside kept told.
        let one = first.steps (was_clean clean) inside kept in
        part_why old mid new _ _ done part rest all is (was_clean clean) first.stays.survives second.stays.survives one.goes one.grown (second.refused clean one.goes.inside (still_store one) told);
  }

-- ---- the loops over changes

-- the first of a list of changes are made
abbrev pub MakesFirst : {S : Type 0} → Ghosts S → MutBor (Held S) → MutBor (Held S) → Result (Unit {0}) StoreFault → List RowChange → ℕ → Type 0
MakesFirst g old new result changes at = MakesSome g old new result (λ _. map shown_change (take at changes)) (map shown_change changes)

pub one_between : (changes : List RowChange) (at : ℕ) (change : RowChange) → at < length changes → change ≡ get_or changes at change → shown_change change ∷ [] ≡ map shown_change (between at (at + 1) changes)
one_between changes at change inside is =
    ap (λ c. map shown_change (c ∷ [])) is ∙ ap (map shown_change) (sym (between_more changes at at change (omega arith) inside ∙ ap (λ l. l ++ get_or changes at change ∷ []) (between_none changes at)))

module _ {S : Type 0} (g : Ghosts S) (a b : MutBor (Held S)) (changes : List RowChange) where
  pub first_made : (c : MutBor (Held S)) (two : Result (Unit {0}) StoreFault) (at end : ℕ) → at ≤ end → MakesFirst g a b (Ok tt) changes at → MakesAll g b c two (map shown_change (between at end changes)) → MakesFirst g a c two changes end
  first_made c two at end le first second =
      let done = map shown_change (take at changes) in
      let part = map shown_change (between at end changes) in
      let more : map shown_change (take end changes) ≡ done ++ part =
      (let e : end ≡ at + (end - at) = omega (arith, le) in ap (λ n. map shown_change (take n changes)) e ∙ ap (map shown_change) (take-add at (end - at) changes) ∙ map-append shown_change (take at changes) (between at end changes)) in
      let split : map shown_change changes ≡ (done ++ part) ++ map shown_change (drop end changes) =
      ap (map shown_change) (sym (take-append-drop end changes)) ∙ map-append shown_change (take end changes) (drop end changes) ∙ ap (λ l. l ++ map shown_change (drop end changes)) more in
      subst (λ l. MakesSome g a c two (λ _. l) (map shown_change changes)) (sym more) (part_made g a b c two done (λ _. part) part (map shown_change (drop end changes)) (map shown_change changes) split first second)

  pub all_made : (at : ℕ) → length changes ≤ at → MakesFirst g a b (Ok tt) changes at → MakesAll g a b (Ok tt) (map shown_change changes)
  all_made at end it = subst (λ (l : List RowChange). MakesSome g a b (Ok tt) (λ _. map shown_change l) (map shown_change changes)) (take_all at changes end) it

-- one part more
module _ {S : Type 0} (g : Ghosts S) (a b c : MutBor (Held S)) (two : Result (Unit {0}) StoreFault) (done : List Change) (left rest : List (List Change)) (part : Vec RowChange Global) (all : List Change) (is : all ≡ done ++ changes_in left)
    (next : IsNext left (Ok (Some part)) rest) where
  pub next_is : all ≡ (done ++ map shown_change part.items) ++ changes_in rest
  next_is = is ∙ ap (λ l. done ++ changes_in l) next ∙ sym (append_assoc done (map shown_change part.items) (changes_in rest))

  pub next_made : MakesSome {X = Unit {0}} g a b (Ok tt) (λ _. done) all → MakesAll g b c two (map shown_change part.items) → MakesSome g a c two (λ _. done ++ map shown_change part.items) all
  next_made first second = part_made g a b c two done (λ _. map shown_change part.items) (map shown_change part.items) (changes_in rest) all next_is first second

-- ---- eight lists

puts_made : (old new : State) (changes : List RowChange) (added : Bool) → All PutsList changes → length changes ≡ 8 → Goes old new (if added then with_lists (map entry_put changes) (value_of old.now.trees) else value_of old.now.trees)
    → AreGrown (if added then 8 else 0) old.now.trees new.now.trees → HasMade old new (if added then map shown_change changes else [])
puts_made old new changes true puts eight goes grown = record {
  goes = subst (Goes old new) (each_puts changes puts _) goes;
  grown = subst (λ n. AreGrown n old.now.trees new.now.trees) (let e = count_rows changes (recursion_from_All PutsList changes puts) in omega (arith, e, eight)) grown;
}
puts_made old new changes false puts eight goes grown = record { goes = goes; grown = grown }

puts_can : (changes : List RowChange) (added : Bool) → All PutsList changes → All CanMake (if added then map shown_change changes else [])
puts_can changes true puts = All-map CanMake shown_change changes (All-weaker PutsList (λ c. CanMake (shown_change c)) can_put changes puts)
puts_can changes false puts = All-nil CanMake

pub eight_made : {S : Type 0} (g : Ghosts S) (a b : MutBor (Held S)) (result : Result Bool StoreFault) (changes : List RowChange) → All PutsList changes → length changes ≡ 8
    → GoesOnOk g a.now b.now result (λ added v. if added then with_lists (map entry_put changes) v else v) → StaysUncommitted g a b result → GrowsIfAdded g a.now b.now result 8
    → BlamesRows g a.now b.now result (λ db. IsFull 8 (db 7) ⊎ Any IsBigEntry (map entry_put changes)) → MakesSome g a b result (λ added. if added then map shown_change changes else []) (map shown_change changes)
eight_made g a b result changes puts eight goes stays grown refused = record {
  packable = IfOk-weaker result (λ _. Unit {0}) (λ added. All CanMake (if added then map shown_change changes else [])) (λ added _. puts_can changes added puts) (ok_too result tt);
  steps = λ clean inside kept. both result _ _ _ (λ added. puts_made (state g a.now) (state g b.now) changes added puts eight) (goes clean inside kept) (grown clean inside kept);
  stays = stays_for g a b result IsPlainFault (IsChangeFault (All CanMake (map shown_change changes))) (λ e plain. inl plain) stays;
  refused = λ clean inside kept told. elim (refused clean inside kept told) [
    | inl blamed ↦ inl blamed
    | inr why ↦ inr (group_why (state g a.now).now.trees changes (recursion_from_All PutsList changes puts) (omega (arith, eight)) (subst (λ n. IsFull n ((state g a.now).now.trees 7) ⊎ Any IsBigEntry (map entry_put changes)) (sym eight) why))
  ];
}
