-- Calls in one transaction, one after the other.
use Rattle.std.proofs.Common.{◌≡◌, ◌⊎◌, ◌+◌, ◌∙◌, ℕ, Bool, true, false, MatchBool, ap, List, [], IsTrue, Result, Ok, Err, arith, inl, inr, refl, sym, subst, ◌<◌, ℤ, pos, map, take, length, get_or, OnOk, IfErr, String, string_bytes, MutBor}
use Rattle.ft_store.proofs.Common.{Database, Executes, Trees, IfErr-weaker, on_ok_weaker, Ghosts, Held, state, State, HasCleanDisk, Survives}
use Rattle.ft_store.proofs.Common.{ExecutesInside, IsUnchanged, survives_then, Row, StoreValue, column_key_cmp, with_columns, with_skipped, enumerate_from, Global}
use Rattle.ft_store.proofs.Common.{put}
use Rattle.ft_store.specs.declared.fault.StoreFault.TheVariants as fault
use Rattle.ft_store.specs.Rows.{value_of}
use Rattle.ft_store.specs.Puts.{AreGrown, IsFull, IsTooBig, KeepsRest, KeepsRestOnOk, RefusesAdd}
use Rattle.ft_store.specs.Changes.{PutsRow, Changes, ChangesIfOpen, Drops}
use Rattle.ft_store.proofs.CantLemmas.{trees_same, trees_then, take_one}
use Rattle.ft_store.specs.declared.fault.StoreFault.{StoreFault}
use Rattle.ft_store.specs.Calls.{IsStore, Steps, StaysInside, StaysUncommitted, IsPlainFault}
use Rattle.ft_store.specs.Blame.{IsBlamed, RefusesRun, BlamesOutside}
use Rattle.ft_store.specs.Inside.{DoneInside, RunsOnOk, RunsOrKeeps, MakesInside}
use Rattle.ft_store.proofs.RefusedLemmas.{rest_then}
use Rattle.ft_store.proofs.BlameLemmas.{blamed_then, keeps_same, keeps_then}
use Rattle.ft_store.proofs.PutLemmas.{then_step, no_step, column_more, skip_more}

-- one call after another, with an answer of its own
pub stays_more : {S X Y Z : Type 0} {g : Ghosts S} {IsFault : StoreFault → Type 0} {a b c : MutBor (Held S)} {one : Result X StoreFault} {two : Result Y StoreFault} {three : Result Z StoreFault} → StaysInside g a b one IsFault → StaysInside g b c two IsFault
    → IfErr three IsFault → StaysInside g a c three IsFault
stays_more first second fault = record {
  same_reference = second.same_reference ∙ first.same_reference;
  kept = λ clean. keeps_then _ _ _ (first.kept (omega (arith, second.survives.clean))) (second.kept clean);
  survives = survives_then _ _ _ _ _ _ (λ _ db none. none) (λ _ db none. none) first.survives second.survives;
  fault = fault;
}

pub stays_then : {S X Y : Type 0} (g : Ghosts S) (IsFault : StoreFault → Type 0) (a b c : MutBor (Held S)) (one : Result X StoreFault) (two : Result Y StoreFault) → StaysInside g a b one IsFault → StaysInside g b c two IsFault → StaysInside g a c two IsFault
stays_then g IsFault a b c one two first second = stays_more first second second.fault

-- an answer that says the same of another result
pub stays_as : {S X Y : Type 0} {g : Ghosts S} {IsFault : StoreFault → Type 0} {a b : MutBor (Held S)} {one : Result X StoreFault} {two : Result Y StoreFault} → StaysInside g a b one IsFault → IfErr two IsFault → StaysInside g a b two IsFault
stays_as it fault = record { same_reference = it.same_reference; kept = it.kept; survives = it.survives; fault = fault }

-- nothing is done
pub stays_same : {S X : Type 0} (g : Ghosts S) (a : MutBor (Held S)) (result : Result X StoreFault) (IsFault : StoreFault → Type 0) → IfErr result IsFault → StaysInside g a a result IsFault
stays_same g a result IsFault fault = record {
  same_reference = refl;
  kept = λ clean. keeps_same (state g a.now);
  survives = record { clean = omega arith; shield = λ h. h; counts = omega arith; limit = refl; closes = λ clean h. inl h; crash = λ clean db h. inl h };
  fault = fault;
}

-- a statement that is run makes one database of another
pub runs_make : {S : Type 0} (g : Ghosts S) (a b : MutBor (Held S)) (result : Result (Unit {0}) StoreFault) (text : List ℕ) (Before : Database → Type 0) (After : Database → Database → Type 0) → DoneInside g a b result (RunsOnOk g a.now b.now result text [])
    → ((count : ℕ) → Before (state g a.now).now → Executes text [] (state g a.now) (state g b.now) (Ok count) → After (state g a.now).now (state g b.now).now) → MakesInside g a b result Before After
runs_make g a b result text Before After ran makes = record {
  steps = λ clean inside was.
      on_ok_weaker result (λ (h : (count : ℕ) × ExecutesInside 0 text [] (state g a.now) (state g b.now) (Ok count)). (makes h.0 (was h.1.1.was_open) h.1.0, h.1.1)) (ran.steps clean inside);
  stays = ran.stays;
}

-- a fault that says less
pub stays_for : {S X : Type 0} (g : Ghosts S) (a b : MutBor (Held S)) (result : Result X StoreFault) (One Two : StoreFault → Type 0) → ((e : StoreFault) → One e → Two e) → StaysInside g a b result One → StaysInside g a b result Two
stays_for g a b result One Two less it = record { same_reference = it.same_reference; kept = it.kept; survives = it.survives; fault = IfErr-weaker result One Two less it.fault }

-- a function that gives up made nothing
pub gives_up : {S : Type 0} (g : Ghosts S) (a b : MutBor (Held S)) (one two : Result (Unit {0}) StoreFault) (e : StoreFault) (f h : StoreValue → StoreValue) (n k : ℕ) (One Why : Trees → Type 0) → one ≡ Err e → two ≡ Err e → Changes g a b one f n One
    → ((db : Trees) → One db → Why db) → Changes g a b two h k Why
gives_up g a b one two e f h n k One Why is same it why = subst (λ r. Changes g a b r h k Why) (sym same) (record {
  done = record { steps = λ clean inside kept. tt; stays = subst (λ r. StaysUncommitted g a b r) is it.done.stays };
  grown = λ clean inside kept. tt;
  refused = λ clean inside kept told. elim (it.refused clean inside kept (is ∙ told)) [ inl blamed ↦ inl blamed | inr one ↦ inr (why _ one) ];
})

pub stops : {S : Type 0} (g : Ghosts S) (a b : MutBor (Held S)) (one two : Result (Unit {0}) StoreFault) (e : StoreFault) (f h : StoreValue → StoreValue) (n k : ℕ) (Why : Trees → Type 0) → one ≡ Err e → two ≡ Err e → ChangesIfOpen g a b one f n Why
    → ChangesIfOpen g a b two h k Why
stops g a b one two e f h n k Why is same it = subst (λ r. ChangesIfOpen g a b r h k Why) (sym same) (record {
  done = record { steps = λ clean inside is_open store. tt; stays = subst (λ r. StaysUncommitted g a b r) is it.done.stays };
  grown = λ clean inside is_open store. tt;
  refused = λ clean inside is_open store told. it.refused clean inside is_open store (is ∙ told);
})

-- a value that is the same
pub becomes : {S : Type 0} (g : Ghosts S) (a b : MutBor (Held S)) (result : Result (Unit {0}) StoreFault) (f h : StoreValue → StoreValue) (n : ℕ) (Why : Trees → Type 0) → ChangesIfOpen g a b result f n Why → ((v : StoreValue) → f v ≡ h v) → ChangesIfOpen g a b result h n Why
becomes g a b result f h n Why it same = subst (λ (l : StoreValue → StoreValue). ChangesIfOpen g a b result l n Why) (λ i v. same v i) it

-- rows that are taken out have no reason of their own to be refused
pub only : {S : Type 0} (g : Ghosts S) (a b : MutBor (Held S)) (result : Result (Unit {0}) StoreFault) (f : StoreValue → StoreValue) → Drops g a b result f → BlamesOutside g a.now b.now result
only g a b result f it clean inside kept is = elim (it.refused clean inside kept is) [ inl blamed ↦ blamed | inr none ↦ absurd none ]

-- a reason is weaker
pub for_reasons : {S : Type 0} (g : Ghosts S) (a b : MutBor (Held S)) (result : Result (Unit {0}) StoreFault) (f : StoreValue → StoreValue) (n : ℕ) (One Why : Trees → Type 0) → Changes g a b result f n One
    → ((db : Trees) → One db → Why db) → Changes g a b result f n Why
for_reasons g a b result f n One Why it why = record {
  done = it.done;
  grown = it.grown;
  refused = λ clean inside kept same. elim (it.refused clean inside kept same) [ inl blamed ↦ inl blamed | inr one ↦ inr (why _ one) ];
}

-- what is done in a store is done in an open one
pub if_open : {S : Type 0} (g : Ghosts S) (a b : MutBor (Held S)) (result : Result (Unit {0}) StoreFault) (f : StoreValue → StoreValue) (n : ℕ) (Why : Trees → Type 0) → Changes g a b result f n Why → ChangesIfOpen g a b result f n Why
if_open g a b result f n Why it = record {
  done = record { steps = λ clean inside is_open store. it.done.steps clean inside (λ _. store); stays = it.done.stays };
  grown = λ clean inside is_open store. it.grown clean inside (λ _. store);
  refused = λ clean inside is_open store. it.refused clean inside (λ _. store);
}

-- one that goes on had no reason to stop
pub open_on : {S : Type 0} (g : Ghosts S) (a b : MutBor (Held S)) (f : StoreValue → StoreValue) (n : ℕ) (One : Trees → Type 0) → ChangesIfOpen g a b (Ok tt) f n One → ChangesIfOpen g a b (Ok tt) f n (λ _. ⊥)
open_on g a b f n One it = record { done = it.done; grown = it.grown; refused = λ clean inside is_open store is. absurd (let no = is in cc) }

pub went_on : {S : Type 0} (g : Ghosts S) (a b : MutBor (Held S)) (f : StoreValue → StoreValue) (n : ℕ) (One : Trees → Type 0) → Changes g a b (Ok tt) f n One → ChangesIfOpen g a b (Ok tt) f n (λ _. ⊥)
went_on g a b f n One it = open_on g a b f n One (if_open g a b (Ok tt) f n One it)

-- nothing is done yet
pub nothing_done : {S : Type 0} (g : Ghosts S) (a : MutBor (Held S)) → ChangesIfOpen g a a (Ok tt) (λ v. v) 0 (λ _. ⊥)
nothing_done g a = record {
  done = record {
    steps = λ clean inside is_open store. no_step (state g a.now) inside is_open store;
    stays = stays_same g a (Ok tt) IsPlainFault tt;
  };
  grown = λ clean inside is_open store. trees_same 0 (state g a.now).now.trees (state g a.now).now.trees refl;
  refused = λ clean inside is_open store is. absurd (let no = is in cc);
}

-- one step of a transaction after the other
module _ {S : Type 0} (g : Ghosts S) (a b c : MutBor (Held S)) (two : Result (Unit {0}) StoreFault) (f h : StoreValue → StoreValue) (n m k : ℕ) (One Two Why : Trees → Type 0) (second : ChangesIfOpen g b c two h m Two) (sum : n + m ≡ k)
    (why : Steps (state g a.now) (state g b.now) (f (value_of (state g a.now).now.trees)) → AreGrown n (state g a.now).now.trees (state g b.now).now.trees → Two (state g b.now).now.trees → Why (state g a.now).now.trees) where
  was_clean : HasCleanDisk (state g c.now) → HasCleanDisk (state g b.now)
  was_clean clean = omega (arith, second.done.stays.survives.clean, clean)

  abbrev First : Type 0
  First = Steps (state g a.now) (state g b.now) (f (value_of (state g a.now).now.trees))

  steps_on : HasCleanDisk (state g c.now) → First → OnOk two (Steps (state g a.now) (state g c.now) (h (f (value_of (state g a.now).now.trees))))
  steps_on clean one = on_ok_weaker two (λ next. then_step (state g a.now) (state g b.now) (state g c.now) _ h one next) (second.done.steps clean one.shown.mode one.shown.is_open one.store)

  grows_on : HasCleanDisk (state g c.now) → First → AreGrown n (state g a.now).now.trees (state g b.now).now.trees → OnOk two (AreGrown k (state g a.now).now.trees (state g c.now).now.trees)
  grows_on clean one grown =
      on_ok_weaker two (λ more. subst (λ l. AreGrown l (state g a.now).now.trees (state g c.now).now.trees) sum (trees_then n m (state g a.now).now.trees (state g b.now).now.trees (state g c.now).now.trees grown more))
      (second.grown clean one.shown.mode one.shown.is_open one.store)

  blames_on : Survives (state g a.now) (state g b.now) (λ _. ⊥) → HasCleanDisk (state g c.now) → First → AreGrown n (state g a.now).now.trees (state g b.now).now.trees → two ≡ Err fault.Refused
      → IsBlamed (state g a.now) (state g c.now) ⊎ Why (state g a.now).now.trees
  blames_on past clean one grown is = elim (second.refused clean one.shown.mode one.shown.is_open one.store is) [
    | inl blamed ↦ inl (blamed_then (state g a.now) (state g b.now) (state g c.now) _ _ (was_clean clean) past second.done.stays.survives blamed)
    | inr other ↦ inr (why one grown other)
  ]

  pub changes_then : Changes g a b (Ok tt) f n One → Changes g a c two (λ v. h (f v)) k Why
  changes_then first = record {
    done = record {
      steps = λ clean inside kept. steps_on clean (first.done.steps (was_clean clean) inside kept);
      stays = stays_then g IsPlainFault a b c (Ok tt) two first.done.stays second.done.stays;
    };
    grown = λ clean inside kept. grows_on clean (first.done.steps (was_clean clean) inside kept) (first.grown (was_clean clean) inside kept);
    refused = λ clean inside kept. blames_on first.done.stays.survives clean (first.done.steps (was_clean clean) inside kept) (first.grown (was_clean clean) inside kept);
  }

  pub open_then : ChangesIfOpen g a b (Ok tt) f n One → ChangesIfOpen g a c two (λ v. h (f v)) k Why
  open_then first = record {
    done = record {
      steps = λ clean inside is_open store. steps_on clean (first.done.steps (was_clean clean) inside is_open store);
      stays = stays_then g IsPlainFault a b c (Ok tt) two first.done.stays second.done.stays;
    };
    grown = λ clean inside is_open store. grows_on clean (first.done.steps (was_clean clean) inside is_open store) (first.grown (was_clean clean) inside is_open store);
    refused = λ clean inside is_open store. blames_on first.done.stays.survives clean (first.done.steps (was_clean clean) inside is_open store) (first.grown (was_clean clean) inside is_open store);
  }

-- one deletion after the other
pub drops_then : {S : Type 0} (g : Ghosts S) (a b c : MutBor (Held S)) (two : Result (Unit {0}) StoreFault) (f h : StoreValue → StoreValue) → Drops g a b (Ok tt) f → Drops g b c two h → Drops g a c two (λ v. h (f v))
drops_then g a b c two f h first second = changes_then g a b c two f h 0 0 0 (λ _. ⊥) (λ _. ⊥) (λ _. ⊥) (if_open g b c two h 0 (λ _. ⊥) second) refl (λ _ _ none. none) first

-- what a function does after a statement that changed nothing
module _ {S : Type 0} (g : Ghosts S) (a b c : MutBor (Held S)) (two : Result (Unit {0}) StoreFault)
    (add : List ℕ) (row : Row) (added : Bool) (is_not : added ≡ false) (first : DoneInside {X = Bool} g a b (Ok added) (RunsOrKeeps g a.now b.now (Ok added) add row)) where
  kept_all : HasCleanDisk (state g b.now) → IsTrue (state g a.now).in_transaction → IsUnchanged (state g a.now) (state g b.now)
  kept_all clean inside =
      subst (λ is. MatchBool is ((n : ℕ) × ExecutesInside 0 add row (state g a.now) (state g b.now) (Ok n)) (IsUnchanged (state g a.now) (state g b.now))) is_not (first.steps clean inside)

  same_store : (s : State) → IsUnchanged (state g a.now) s → (IsTrue (state g a.now).is_open → IsStore (state g a.now).now) → IsTrue s.is_open → IsStore s.now
  same_store s same kept open_now = subst IsStore (sym same.0.now_is) (kept same.0.was_open)

  pub unchanged_then : (f : StoreValue → StoreValue) (n : ℕ) (Why : Trees → Type 0) → Changes g b c two f n Why → Changes g a c two f n Why
  unchanged_then f n Why second =
      let old = state g a.now in
      let mid = state g b.now in
      let new = state g c.now in
      let same = λ (clean : HasCleanDisk new) (inside : IsTrue old.in_transaction). kept_all (omega (arith, second.done.stays.survives.clean, clean)) inside in
      record {
        done = record {
          steps = λ clean inside kept. let is = same clean inside in on_ok_weaker two (λ (step : Steps mid new (f (value_of mid.now.trees))). record {
            store = step.store;
            is = step.is ∙ ap (λ (d : Database). f (value_of d.trees)) is.0.now_is;
            shown = record { was_open = is.0.was_open; is_open = step.shown.is_open; now_is = refl; committed_is = step.shown.committed_is ∙ is.0.committed_is; mode = step.shown.mode };
          }) (second.done.steps clean (is.0.mode ∙ inside) (same_store mid is kept));
          stays = stays_then g IsPlainFault a b c (Ok added) two first.stays second.done.stays;
        };
        grown = λ clean inside kept. let is = same clean inside in on_ok_weaker two (subst (λ (d : Database). AreGrown n d.trees new.now.trees) is.0.now_is) (second.grown clean (is.0.mode ∙ inside) (same_store mid is kept));
        refused = λ clean inside kept told. let is = same clean inside in elim (second.refused clean (is.0.mode ∙ inside) (same_store mid is kept) told) [
          | inl blamed ↦ inl (blamed_then old mid new _ _ (omega (arith, second.done.stays.survives.clean, clean)) first.stays.survives second.done.stays.survives blamed)
          | inr why ↦ inr (subst (λ (d : Database). Why d.trees) is.0.now_is why)
        ];
      }

  pub rest_unchanged : (tree : ℕ) → (HasCleanDisk (state g c.now) → HasCleanDisk (state g b.now)) → KeepsRestOnOk g b.now c.now two tree → KeepsRestOnOk g a.now c.now two tree
  rest_unchanged tree was_clean second clean inside kept =
      let is = kept_all (was_clean clean) inside in
      on_ok_weaker two (subst (λ (d : Database). KeepsRest tree d.trees (state g c.now).now.trees) is.0.now_is) (second clean (is.0.mode ∙ inside) (same_store (state g b.now) is kept))

-- a row that is added at once, or can't be
module _ {S : Type 0} (g : Ghosts S) (a b : MutBor (Held S)) (drop add : List ℕ) (key row : Row) (tree : ℕ) (f : StoreValue → StoreValue) (values count : ℕ) (by : PutsRow g drop add key row tree f values count) where
  pub landed : (added : Bool) → added ≡ true → DoneInside {X = Bool} g a b (Ok added) (RunsOrKeeps g a.now b.now (Ok added) add row)
      → Changes g a b (Ok (tt {0})) f 1 (λ db. IsFull 1 (db tree) ⊎ IsTooBig values count) × KeepsRestOnOk g a.now b.now (Ok (tt {0})) tree
  landed false is it = absurd (let no = is in cc)
  landed true is it =
      let lands = λ (clean : HasCleanDisk (state g b.now)) (inside : IsTrue (state g a.now).in_transaction) (kept : IsTrue (state g a.now).is_open → IsStore (state g a.now).now).
      let ran = it.steps clean inside in by.lands a.now b.now ran.0 (kept ran.1.1.was_open) ran.1 in (
        record {
          done = record { steps = λ clean inside kept. (lands clean inside kept).0; stays = stays_as it.stays (tt {0}) };
          grown = λ clean inside kept. (lands clean inside kept).1;
          refused = λ clean inside kept is. absurd (let no = is in cc);
        },
        λ clean inside kept. (lands clean inside kept).2,
      )

  as_answer : Result (Unit {0}) StoreFault → Result Bool StoreFault
  as_answer (Ok done) = Ok true
  as_answer (Err e) = Err e

  pub not_landed : (e : StoreFault) → StaysUncommitted {X = Bool} g a b (Err e) → RefusesAdd {X = Bool} g a.now b.now (Err e) add row → Changes g a b (Err e) f 1 (λ db. IsFull 1 (db tree) ⊎ IsTooBig values count)
  unfolding as_answer
  not_landed e stays refuses = record {
    done = record { steps = λ clean inside kept. tt; stays = stays_as stays stays.fault };
    grown = λ clean inside kept. tt;
    refused = λ clean inside kept is. by.fails a.now b.now kept (refuses clean inside (ap as_answer is));
  }

-- a row that is replaced by two statements
module _ {S : Type 0} (g : Ghosts S) (a b c : MutBor (Held S)) (two : Result (Unit {0}) StoreFault) (drop add : List ℕ) (key row : Row) (tree : ℕ) (f : StoreValue → StoreValue) (values count : ℕ) (by : PutsRow g drop add key row tree f values count)
    (first : DoneInside {X = Unit {0}} g a b (Ok tt) (RunsOnOk g a.now b.now (Ok tt) drop key)) (second : DoneInside g b c two (RunsOnOk g b.now c.now two add row)) where
  abbrev old : State
  old = state g a.now

  abbrev new : State
  new = state g c.now

  mid_clean : HasCleanDisk new → HasCleanDisk (state g b.now)
  mid_clean clean = omega (arith, second.stays.survives.clean, clean)

  took : HasCleanDisk new → IsTrue old.in_transaction → (IsTrue old.is_open → IsStore old.now)
      → Steps old (state g b.now) (by.gone (value_of old.now.trees)) × AreGrown 0 old.now.trees (state g b.now).now.trees × KeepsRest tree old.now.trees (state g b.now).now.trees
  took clean inside kept = let ran = first.steps (mid_clean clean) inside in by.takes.done a.now b.now ran.0 (kept ran.1.1.was_open) ran.1

  put_row : HasCleanDisk new → IsTrue old.in_transaction → (IsTrue old.is_open → IsStore old.now) → OnOk two (Steps old new (f (value_of old.now.trees)) × AreGrown 1 old.now.trees new.now.trees × KeepsRest tree old.now.trees new.now.trees)
  put_row clean inside kept =
      let gone = took clean inside kept in
      on_ok_weaker two (λ (ran : (n : ℕ) × ExecutesInside 0 add row (state g b.now) new (Ok n)).
      let put = by.adds a.now b.now c.now ran.0 gone.0 ran.1 in
      (put.0, trees_then 0 1 old.now.trees (state g b.now).now.trees new.now.trees gone.1 put.1, rest_then tree old.now.trees (state g b.now).now.trees new.now.trees gone.2 put.2)) (second.steps clean gone.0.shown.mode)

  pub rest_kept : KeepsRestOnOk g a.now c.now two tree
  rest_kept clean inside kept = on_ok_weaker two (λ put. put.2) (put_row clean inside kept)

  pub replaced : RefusesRun g b.now c.now two add row → Changes g a c two f 1 (λ db. IsFull 1 (db tree) ⊎ IsTooBig values count)
  replaced refuses = record {
    done = record { steps = λ clean inside kept. on_ok_weaker two (λ put. put.0) (put_row clean inside kept); stays = stays_then g IsPlainFault a b c (Ok tt) two first.stays second.stays };
    grown = λ clean inside kept. on_ok_weaker two (λ put. put.1) (put_row clean inside kept);
    refused = λ clean inside kept is.
        let gone = took clean inside kept in
        elim (by.refused a.now b.now c.now gone.0 gone.1 (refuses clean gone.0.shown.mode is)) [
          | inl blamed ↦ inl (blamed_then old (state g b.now) new _ _ (mid_clean clean) first.stays.survives second.stays.survives blamed)
          | inr other ↦ inr other
        ];
  }

-- one column more
pub columns_on : {S : Type 0} (g : Ghosts S) (a b c : MutBor (Held S)) (tab at : ℤ) (names : List (String Global)) (i : ℕ) (name : String Global) (One : Trees → Type 0) → i < length names → name ≡ get_or names i name
    → ChangesIfOpen g a b (Ok tt) (λ v. record v { columns = with_columns tab (enumerate_from 0 (map string_bytes (take i names))) v.columns }) (length (take i names)) (λ _. ⊥)
    → Changes g b c (Ok tt) (λ v. record v { columns = put column_key_cmp (tab, at) (string_bytes name) v.columns }) 1 One → at ≡ pos i
    → ChangesIfOpen g a c (Ok tt) (λ v. record v { columns = with_columns tab (enumerate_from 0 (map string_bytes (take (i + 1) names))) v.columns }) (length (take (i + 1) names)) (λ _. ⊥)
columns_on g a b c tab at names i name One inside is before step number =
    becomes g a c (Ok tt) _ _ _ _ (open_then g a b c (Ok tt) _ _ (length (take i names)) 1 _ (λ _. ⊥) (λ _. ⊥) (λ _. ⊥) (went_on g b c _ 1 One step) (sym (take_one names i inside)) (λ _ _ none. none) before)
    (λ v i_. record v { columns = column_more tab at names i name inside is number v.columns i_ })

-- one column more that isn't indexed
pub skips_on : {S : Type 0} (g : Ghosts S) (a b c : MutBor (Held S)) (tab x : ℤ) (skipped : List ℤ) (i : ℕ) (One : Trees → Type 0) → i < length skipped
    → ChangesIfOpen g a b (Ok tt) (λ v. record v { skipped = with_skipped tab (take i skipped) v.skipped }) (length (take i skipped)) (λ _. ⊥)
    → Changes g b c (Ok tt) (λ v. record v { skipped = put column_key_cmp (tab, x) tt v.skipped }) 1 One → x ≡ get_or skipped i (pos 0)
    → ChangesIfOpen g a c (Ok tt) (λ v. record v { skipped = with_skipped tab (take (i + 1) skipped) v.skipped }) (length (take (i + 1) skipped)) (λ _. ⊥)
skips_on g a b c tab x skipped i One inside before step is =
    becomes g a c (Ok tt) _ _ _ _ (open_then g a b c (Ok tt) _ _ (length (take i skipped)) 1 _ (λ _. ⊥) (λ _. ⊥) (λ _. ⊥) (went_on g b c _ 1 One step) (sym (take_one skipped i inside)) (λ _ _ none. none) before)
    (λ v i_. record v { skipped = skip_more tab x skipped i inside is v.skipped i_ })
