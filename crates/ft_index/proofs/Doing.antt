-- What calls do that read, and then change rows, and why they are refused.
use Rattle.std.proofs.Common.{◌≡◌, ◌⊎◌, inl, inr, ℕ, ◌+◌, ◌-◌, ◌^◌, ◌<◌, Bool, true, false, min, refl, ◌∙◌, arith, IsTrue, Result, Ok, Err, ℤ, sym, ap, subst, is_ok, OnOk, List, map, None, cond, [], ◌∷◌, Some, Option, All as AllOf, ◌≢◌, ◌&&◌, Less, Equal, Greater, drop, All, IsSome, is_some, filter, int_cmp, int_eq, map-id}
use Rattle.ft_index.proofs.Common.{State, HasCleanDisk, Survives, Ghosts, Trees, StoreState, shows, value_in, ReadsStore, IsIndexed, Database}
use Rattle.ft_index.proofs.Common.{survives_then, value_of, Content, table_rows, HasRows, Looks, IsOf, StoreValue, Change, all_applied, Fault}
use Rattle.ft_index.proofs.Common.{Command, Done, TableInfo, Contents, deserved, TableState, Sound, Table, after, reply_to, step, step_by}
use Rattle.ft_index.proofs.Common.{with_documents, on_table, with_tables, ReachesStep, IsUp, IsOutside, KeepsOthers, PlansFrom, AreHeld, Executes}
use Rattle.ft_index.proofs.Common.{is_outside, table_info, Answers, StoreHolds, doubt, Documents, same_name, survives_weaker, IsStored}
use Rattle.ft_index.proofs.Common.{AllByRecursion, All-weaker, All-from_recursion, RowChange, shown_change, TakesOut, IsPlainFault, IsChangeFault}
use Rattle.ft_index.proofs.Common.{fault_of_read, StoreFault, AddTable, Note, RustReply, Select, Filter, Items, Rows, table_named}
use Rattle.ft_index.proofs.Common.{answer_of, FullText, OnlyLooks, store_value, SurvivesCrash, Leaves, Does, MakesRows, CountsFound, CountsHeld}
use Rattle.ft_index.proofs.Common.{CountsRows, CountsCommand, All-nil, put, find, by_order, where_key, map-map, Hit, PlainHit, plain_hit, AreInOrder}
use Rattle.ft_index.proofs.Common.{ListKey, list_key_cmp, IsBlamed, Cell, chosen, is_chosen, cut, query_in, Column, IsContent, hit_read, chosen_hits}
use Rattle.ft_index.proofs.Common.{as_wanted, AreThere, AreRewrites, BlamesMade, Key, Spot, IndexRows, index_rows, HasContent, table_index}
use Rattle.ft_index.proofs.Common.{IsSoundNamed, info_named, held_content, PlansTo, BlamesDone}
use Rattle.ft_query.specs.Lists.{Reaches, Stays, Goes, Ends}
use Rattle.ft_store.proofs.{kept_then}
use Rattle.ft_commands.specs.Command.{Reply}
use Rattle.ft_index.specs.Changed.{Changed, DoesAsked, LooksAsked, MakesAsked}
use Rattle.ft_calls.proofs.{apart_after}
use Rattle.ft_index.proofs.OneTable.{keeps_same, sound_rows, sound_table}
use Rattle.ft_index.proofs.TablePlans.{refused_answers}
use Rattle.ft_calls.specs.Kept.{CommitsCommand, HoldsLeft}
use Rattle.ft_values.specs.declared.rows.RowChange.TheVariants as row
use Rattle.ft_rows.specs.Changes.{CanApply}
use Rattle.ft_store.specs.Kept.{Pings, ReadsRows}
use Rattle.ft_store.specs.declared.fault.StoreFault.TheVariants as causes
use Rattle.ft_rows.specs.Store.{PutEntries}
use Rattle.ft_values.specs.declared.fault.Fault.TheVariants as faults
use Rattle.ft_calls.specs.RowsRead.{CountsIfRows}
use Rattle.std.proofs.lemmas.List.Elements.{All-cons, All-head, All-tail, All-map, All-filter, All-take, All-drop}
use Rattle.ft_rows.specs.Shown.{AreWhole}
use Rattle.ft_store.specs.Blame.{Blames}
use Rattle.ft_store.specs.Parts.{CanMake}
use Rattle.ft_store.specs.Puts.{BlamesPuts}
use Rattle.ft_store.specs.Calls.{IsReadFault}
use Rattle.ft_content.proofs.{cut_of_map}
use Rattle.ft_documents.proofs.{all_found}
use Rattle.ft_content.specs.Index.{Entry, entries, spot_lists, spots_at, key_cmp, key_of}
use Rattle.ft_calls.specs.Kept.{BlamesStore, puts_rows}
use Rattle.ft_index.specs.Walked.{Fails, FailsIf}
use Rattle.ft_index.proofs.OpenedTables.{blamed_after}
use Rattle.ft_commands.specs.declared.command.Reply.TheVariants as replies
use Rattle.ft_calls.specs.Causes.{AreOwn, CantMake}

-- where nothing is done, nothing is committed
pub nothing_done : (s : State) {P : Trees → Type 0} → Survives s s P
nothing_done s = record { clean = omega arith; shield = λ h. h; counts = omega arith; limit = refl; closes = λ clean is_open. inl is_open; crash = λ clean db h. inl h }

-- no read
pub no_look : {S : Type 0} (g : Ghosts S) (s : StoreState S) → Looks g s s
no_look g s = record { kept = λ clean is_open. (refl, refl, is_open); survives = nothing_done (shows g s) }

module _ {S : Type 0} (g : Ghosts S) (a b c : StoreState S) (one : Looks g a b) (two : Looks g b c) where
  -- an open store is open in the middle
  pub looks_then : (HasCleanDisk (shows g b) → IsTrue (shows g a).is_open → IsTrue (shows g b).is_open) → Looks g a c
  looks_then live = record {
    kept = λ clean. kept_then (shows g a) (shows g b) (shows g c) (one.kept (omega (arith, two.survives.clean, clean))) (two.kept clean);
    survives = survives_then (shows g a) (shows g b) (shows g c) _ _ _ (λ _ db none. none) (λ clean db none is_open. none (live (omega (arith, two.survives.clean, clean)) is_open)) one.survives two.survives;
  }

  module _ (tab : ℤ) (content : Content) where
    same_value : HasCleanDisk (shows g b) → IsTrue (shows g b).is_open → value_in g b ≡ value_in g a
    same_value clean is_open = ap (λ (d : Database). value_of d.trees) (one.kept clean is_open).0

    pub rows_first : HasRows g tab a c content → HasRows g tab a b content
    rows_first h = record { clean = omega (arith, two.survives.clean, h.clean); is_open = (two.kept h.clean h.is_open).2; name = h.name; is_content = h.is_content; rows = h.rows }

    pub rows_then : HasRows g tab a c content → HasRows g tab b c content
    rows_then h =
        let first = rows_first h in
        record { clean = h.clean; is_open = h.is_open; name = h.name; is_content = h.is_content; rows = ap (table_rows tab) (same_value first.clean first.is_open) ∙ h.rows }

    pub index_first : IsIndexed g tab a c content → IsIndexed g tab a b content
    index_first h = record { clean = omega (arith, two.survives.clean, h.clean); is_open = (two.kept h.clean h.is_open).2; name = h.name; is_content = h.is_content; index = h.index }

    -- where the table is as it was passed
    pub held_first : {id : ℤ} → tab ≡ id → IsOf g id a c content → IsOf g tab a b content
    held_first same h = record { rows = rows_first (subst (λ k. HasRows g k a c content) (sym same) h.rows); index = index_first (subst (λ k. IsIndexed g k a c content) (sym same) h.index) }

    pub held_then : {id : ℤ} → tab ≡ id → IsOf g id a c content → HasRows g tab b c content
    held_then same h = rows_then (subst (λ k. HasRows g k a c content) (sym same) h.rows)

-- as many rows more as places were given: none, or some
abbrev pub Grows : ℕ → ℕ → ℕ → ℕ → Type 0
Grows rows given rows_now given_now =
    ((rows_now ≡ rows) × (given_now ≡ given)) ⊎ ((n : ℕ) × (rows_now ≡ min (rows + n) (2 ^ 64 - 1)) × (given_now ≡ min (given + n) (2 ^ 64 - 1)))

grows_then : (r g r' g' r'' g'' n : ℕ) → r' ≡ min (r + n) (2 ^ 64 - 1) → g' ≡ min (g + n) (2 ^ 64 - 1) → Grows r' g' r'' g'' → Grows r g r'' g''
grows_then r g r' g' r'' g'' n rows given (inl same) = inr (n, same.0 ∙ rows, same.1 ∙ given)
grows_then r g r' g' r'' g'' n rows given (inr more) = inr (n + more.0, (let h = more.1 in omega arith), (let h = more.2 in omega arith))

-- what reads do, perhaps none
pub record Read {S : Type 0} (g : Ghosts S) (old : StoreState S) (given : ℕ) (all : Bool) (new : StoreState S) (given_now : ℕ) : Type 0 where
  pub looks : Looks g old new
  pub live : HasCleanDisk (shows g new) → IsTrue all → IsTrue (shows g old).is_open → IsTrue (shows g new).is_open
  pub counted : IsTrue all → Grows old.rows_read given new.rows_read given_now

module _ {X S : Type 0} (g : Ghosts S) (Becomes : X → Bool → X → Type 0) (store : X → StoreState S) (given : X → ℕ) (reads : (x : X) (all : Bool) (y : X) → Becomes x all y → ReadsStore g (store x) (given x) all (store y) (given y)) where
  pub all_read : (x : X) (all : Bool) (y : X) → Reaches Becomes x all y → Read g (store x) (given x) all (store y) (given y)
  all_read x all y (Stays z _) = record { looks = no_look g (store z); live = λ clean whole is_open. is_open; counted = λ all. inl (refl, refl) }
  all_read x all y (Goes a b d _ step calls) =
      let one = reads a true b step in
      let more = all_read b all d calls in
      record {
        looks = looks_then g (store a) (store b) (store d) (record { kept = one.kept; survives = one.survives }) more.looks (λ clean _. one.live clean refl);
        live = λ clean whole _. more.live clean whole (one.live (omega (arith, more.looks.survives.clean, clean)) refl);
        counted = λ whole. (let n = one.counted refl in grows_then (store a).rows_read (given a) (store b).rows_read (given b) (store d).rows_read (given d) n.0 n.1 n.2 (more.counted whole));
      }
  all_read x all y (Ends a b step) =
      let one = reads a false b step in
      record { looks = record { kept = one.kept; survives = one.survives }; live = λ clean whole. absurd (let no = whole in cc); counted = λ whole. absurd (let no = whole in cc) }

  -- what no call changes
  pub all_same : {A : Type 0} (f : X → A) → ((x : X) (all : Bool) (y : X) → Becomes x all y → f y ≡ f x) → (x : X) (all : Bool) (y : X) → Reaches Becomes x all y → f y ≡ f x
  all_same f same x all y (Stays z _) = refl
  all_same f same x all y (Goes a b d _ step calls) = all_same f same b all d calls ∙ same a true b step
  all_same f same x all y (Ends a b step) = same a false b step

-- the rows of a walk that began with nothing given
pub rows_of_walk : (rows rows_now given_now n : ℕ) → rows < 2 ^ 64 → Grows rows 0 rows_now given_now → given_now ≡ min (0 + n) (2 ^ 64 - 1) → rows_now ≡ min (rows + n) (2 ^ 64 - 1)
rows_of_walk rows rows_now given_now n fits (inl same) given = let h = same.0 in let k = same.1 in omega arith
rows_of_walk rows rows_now given_now n fits (inr more) given = let h = more.1 in let k = more.2 in omega arith

pub on_ok_from : {T E : Type 0} (r : Result T E) (P Q : Type 0) → (IsTrue (is_ok r) → P → Q) → OnOk r P → OnOk r Q
on_ok_from (Ok x) P Q f h = f refl h
on_ok_from (Err e) P Q f h = tt

pub on_ok_if : {T E : Type 0} (r : Result T E) (P : Type 0) → (IsTrue (is_ok r) → P) → OnOk r P
on_ok_if (Ok x) P f = f refl
on_ok_if (Err e) P f = tt

-- ==== what commands do that read, and change rows, and what a crash leaves of them

-- what is refused from outside
pub is_outside_of : (fault : Fault) → IsOutside fault → IsTrue (is_outside (Err fault))
is_outside_of fault (inl is) = ap (λ f. is_outside (Err f)) is
is_outside_of fault (inr is) = ap (λ f. is_outside (Err f)) is

-- a change of rows that was refused, for want of memory or by the store
pub executes_refused : {S : Type 0} (g : Ghosts S) (old new : StoreState S) (tables : List TableInfo) (changes : List Change) (command : Command) (fault : Fault) → IsOutside fault → Changed g old new changes false →
    Executes g (with_tables old tables) command (Err fault) (with_tables new tables)
executes_refused g old new tables changes command fault outside changed = record {
  was_up = λ up. changed.was_up tables tables up;
  steps = λ up first holds. (first, subst (λ v. AreHeld v tables first) (sym (changed.value tables up)) holds, inl (is_outside_of fault outside, refl));
  others = λ up first holds. subst (KeepsOthers (value_in g old)) (sym (changed.value tables up)) (keeps_same (value_in g old));
  unchanged = λ no up. (changed.value tables up, refl);
}

-- ---- a plan that is carried out

pub done_answers : (contents : Contents) (command : Command) → deserved contents command ≡ None → reply_to contents command ≡ Done → step contents command ≡ (Ok Done, after contents command)
unfolding step
done_answers contents command fine done = ap (λ due. step_by due contents command) fine ∙ ap (λ r. (Ok r, after contents command)) done

pub reached : (contents : Contents) (command : Command) (store : StoreValue) (changes : List Change) → PlansFrom contents command store (Ok changes) → ReachesStep contents command store changes
reached contents command store changes plans = (plans.0, plans.1, plans.2)

-- Such changes that are made, and the tables that are told as they are then.
pub executes_planned : {S : Type 0} (g : Ghosts S) (old new : StoreState S) (tables after_tables : List TableInfo) (changes : List Change) (command : Command) →
    (IsUp g (with_tables new after_tables) → (contents : Contents) → AreHeld (value_in g old) tables contents → ReachesStep contents command (value_in g old) changes) → Changed g old new changes true →
    ((contents : Contents) → AreHeld (value_in g old) tables contents → deserved contents command ≡ None → after_tables ≡ map table_info (after contents command)) → ((contents : Contents) → reply_to contents command ≡ Done) →
    Executes g (with_tables old tables) command (Ok Done) (with_tables new after_tables)
executes_planned g old new tables after_tables changes command reaches changed told replies = record {
  was_up = λ up. changed.was_up after_tables tables up;
  steps = λ up first holds. (
    after first command,
    subst (λ v. AreHeld v after_tables (after first command)) (sym (changed.value after_tables up)) (record {
      named_once = apart_after first command holds.named_once;
      held = (reaches up first holds).1;
      told = told first holds (reaches up first holds).0;
    }),
    inr (done_answers first command (reaches up first holds).0 (replies first)),
  );
  others = λ up first holds. subst (KeepsOthers (value_in g old)) (sym (changed.value after_tables up)) (reaches up first holds).2;
  unchanged = λ no up. absurd (let wrong = no in cc);
}

-- ---- the tables that are told stay

same_told : (t : ℤ × Table) (change : Content → Documents) (held : TableState) → t.1.held ≡ held → table_info (t.0, record { name = t.1.name; held = with_documents change held }) ≡ table_info (t.0, record { name = t.1.name; held = held })
same_told t change (Sound content) is = refl
same_told t change _ is = refl

told_written : (name : List ℕ) (change : Content → Documents) (contents : Contents) → map table_info (on_table contents name (with_documents change)) ≡ map table_info contents
told_written name change [] = refl
told_written name change (t ∷ ts) = λ i. here i ∷ told_written name change ts i
  where
    here : table_info (cond (same_name t.1.name name) (t.0, record { name = t.1.name; held = with_documents change t.1.held }) t) ≡ table_info t
    here = elim (same_name t.1.name name) as (λ b. table_info (cond b (t.0, record { name = t.1.name; held = with_documents change t.1.held }) t) ≡ table_info t) [ true ↦ same_told t change t.1.held refl | false ↦ refl ]

-- after a command that leaves other documents
pub told_kept : (store : StoreValue) (tables : List TableInfo) (command : Command) (name : List ℕ) (change : Content → Documents) → ((contents : Contents) → after contents command ≡ on_table contents name (with_documents change)) →
    (contents : Contents) → AreHeld store tables contents → deserved contents command ≡ None → tables ≡ map table_info (after contents command)
told_kept store tables command name change leaves contents held fine = held.told ∙ sym (told_written name change contents) ∙ ap (map table_info) (sym (leaves contents))

-- the answer of a plan that is refused
pub fault_answers : (first : Contents) (command : Command) (fault : Fault) → IsTrue (is_outside (Err fault)) ⊎ (deserved first command ≡ Some fault) → Answers first command (Err fault) first
fault_answers first command fault (inl outside) = inl (outside, refl)
fault_answers first command fault (inr is) = inr (refused_answers first command fault is)

module _ {S : Type 0} (g : Ghosts S) where
  pub looks_up : (old new : StoreState S) (tables others : List TableInfo) → Looks g old new → IsUp g (with_tables new tables) → IsUp g (with_tables old others)
  looks_up old new tables others looks up =
      let c : doubt (shows g new).is_clean ≡ 0 = up.clean in
      record { clean = omega (arith, c, looks.survives.clean); is_open = (looks.kept up.clean up.is_open).2 }

  pub looks_same : (old new : StoreState S) (tables : List TableInfo) → Looks g old new → IsUp g (with_tables new tables) → value_in g new ≡ value_in g old
  looks_same old new tables looks up = ap (λ (d : Database). value_of d.trees) (looks.kept up.clean up.is_open).0

  -- reads and then a change are a change
  pub then_changed : (old mid new : StoreState S) (changes : List Change) (is_done : Bool) → Looks g old mid → Changed g mid new changes is_done → Changed g old new changes is_done
  then_changed old mid new changes is_done looks changed = record {
    was_up = λ tables others up. looks_up old mid tables others looks (changed.was_up tables tables up);
    value = λ tables up. changed.value tables up ∙ ap (λ v. cond is_done (all_applied changes v) v) (looks_same old mid tables looks (changed.was_up tables tables up));
  }

  -- a command that only reads
  pub executes_read : (old new : StoreState S) (tables : List TableInfo) (command : Command) (answer : Result Reply Fault) → Looks g old new →
      (IsUp g (with_tables new tables) → (first : Contents) → AreHeld (value_in g old) tables first → Answers first command answer first) → Executes g (with_tables old tables) command answer (with_tables new tables)
  executes_read old new tables command answer looks answers = record {
    was_up = λ up. looks_up old new tables tables looks up;
    steps = λ up first holds. (first, subst (λ v. AreHeld v tables first) (sym (looks_same old new tables looks up)) holds, answers up first holds);
    others = λ up first holds. subst (KeepsOthers (value_in g old)) (sym (looks_same old new tables looks up)) (keeps_same (value_in g old));
    unchanged = λ no up. (looks_same old new tables looks up, refl);
  }

-- what a command leaves that deserves no fault
left_is : (first : Contents) (command : Command) → deserved first command ≡ None → after first command ≡ (step first command).1
unfolding step
left_is first command fine = sym (ap (λ due. (step_by due first command).1) fine)

module _ {S : Type 0} (g : Ghosts S) where
  -- row changes that are committed, whole
  abbrev pub CommitsRows : StoreState S → List Change → Trees → Type 0
  CommitsRows store changes db = IsTrue (shows g store).is_open → IsStored db (all_applied changes (value_in g store))

  -- row changes after reads that lead to it
  pub crash_reached : (old mid new : StoreState S) (tables others : List TableInfo) (command : Command) (changes : List Change) → Looks g old mid → (HasCleanDisk (shows g mid) → IsTrue (shows g old).is_open → IsTrue (shows g mid).is_open) →
      (IsUp g (with_tables mid tables) → (first : Contents) → AreHeld (value_in g old) tables first → ReachesStep first command (value_in g old) changes) → Survives (shows g mid) (shows g new) (CommitsRows mid changes) → Survives (shows g old) (shows g new) (CommitsCommand g (with_tables old tables) command)
  crash_reached old mid new tables others command changes looks live reaches survives =
      survives_then (shows g old) (shows g mid) (shows g new) _ _ _ (λ clean db none up first holds. absurd (none up.is_open)) (λ clean db commits up first holds.
      let c : doubt (shows g new).is_clean ≡ 0 = clean in
      let mid_clean : HasCleanDisk (shows g mid) = omega (arith, c, survives.clean) in
      let mid_up : IsUp g (with_tables mid tables) = record { clean = mid_clean; is_open = live mid_clean up.is_open } in
      let planned = reaches mid_up first holds in
      record {
        left = all_applied changes (value_in g old);
        stored = subst (λ (v : StoreValue). IsStored db (all_applied changes v)) (looks_same g old mid tables looks mid_up) (commits mid_up.is_open);
        held = subst (StoreHolds (all_applied changes (value_in g old))) (left_is first command planned.0) planned.1;
        noted = planned.2.noted;
      }) looks.survives survives

-- ==== calls that ask first whether the store is open

-- what a Select reads is told by the count before it alone
module _ {S : Type 0} (one other new : FullText S) (same : one.store.rows_read ≡ other.store.rows_read) where
  counts_held : (offset : ℕ) (items : Items) (f : Filter) (limit : Option ℕ) (held : TableState) → CountsHeld offset one new items f limit held → CountsHeld offset other new items f limit held
  counts_held offset items f limit (Sound content) it = rw (← same) it
  counts_held offset items f limit _ it = tt

  counts_found : (offset : ℕ) (items : Items) (f : Filter) (limit : Option ℕ) (found : Option (ℤ × Table)) → CountsFound offset one new items f limit found → CountsFound offset other new items f limit found
  counts_found offset items f limit None it = tt
  counts_found offset items f limit (Some t) it = counts_held offset items f limit t.1.held it

  counts_same : (first : Contents) (command : Command) (answer : Result Reply Fault) → CountsIfRows first one new command answer → CountsIfRows first other new command answer
  counts_same first (Select table items f limit offset) (Ok (Rows grid)) it = counts_found offset items f limit (table_named first table) it
  counts_same first _ (Ok (Rows grid)) it = tt
  counts_same first command (Ok Done) it = tt
  counts_same first command (Err fault) it = tt

-- of no other command anything is said
pub counts_other : {S : Type 0} (g : Ghosts S) (old new : FullText S) (command : Command) (answer : Result Reply Fault) → ((contents : Contents) → CountsCommand contents old new command) → CountsRows g old command answer new
counts_other g old new command (Ok (Rows grid)) none up first holds = none first
counts_other g old new command _ none up first holds = tt

pub ok_then : {X E A : Type 0} (r : Result X E) → OnOk r A → is_ok r ≡ true → A
ok_then (Ok x) a done = a
ok_then (Err e) a done = absurd (let wrong = done in cc)

-- a fault of the store is one from outside
pub outside_of : (e : StoreFault) → IsOutside (fault_of_read e)
outside_of causes.Memory = inr refl
outside_of _ = inl refl

pub clean_before : (a b : State) {C : _} → Survives a b C → HasCleanDisk b → HasCleanDisk a
clean_before a b survives clean = omega (arith, survives.clean, clean)

-- where no change was asked for
makes_none : {S X : Type 0} (g : Ghosts S) (old mid : StoreState S) (looks : Looks g old mid) (left : (P : Trees → Type 0) → Survives (shows g old) (shows g mid) P) (changes : List Change) (result : Result X Fault) (f : Fault) → result ≡ Err f → IsOutside f → MakesAsked g old mid changes result
makes_none {S} {X} g old mid looks left changes result f is outside = subst (λ (r : Result X Fault). MakesAsked g old mid changes r) (sym is) (record {
  changed = record { was_up = λ tables others up. looks_up g old mid tables others looks up; value = λ tables up. looks_same g old mid tables looks up };
  crash = left _;
  live = λ clean. tt;
  cause = outside;
})

-- for want of memory, before the store is asked
pub unasked : {S X : Type 0} (g : Ghosts S) (old : StoreState S) (changes : List Change) (result : Result X Fault) (f : Fault) → result ≡ Err f → IsOutside f → MakesAsked g old old changes result
unasked g old = makes_none g old old (no_look g old) (λ P. nothing_done (shows g old))

module _ {S : Type 0} (g : Ghosts S) (old mid : StoreState S) (result : Result (Unit {0}) StoreFault) (it : Pings g old mid result) where
  pub pinged : Looks g old mid
  pinged = record { kept = it.kept; survives = survives_weaker (shows g old) (shows g mid) _ _ (λ clean db none is_open. none) it.survives }

  nothing_left : (P : Trees → Type 0) → Survives (shows g old) (shows g mid) P
  nothing_left P = survives_weaker (shows g old) (shows g mid) _ _ (λ clean db none. absurd none) it.survives

  -- where the answer is that it isn't open
  pub makes_nothing : {X : Type 0} (changes : List Change) (made : Result X Fault) (f : Fault) → made ≡ Err f → IsOutside f → MakesAsked g old mid changes made
  makes_nothing = makes_none g old mid pinged nothing_left

  pub does_nothing : (tables : List TableInfo) (command : Command) (answer : Result RustReply Fault) (f : Fault) → answer ≡ Err f → IsOutside f → DoesAsked g (with_tables old tables) command answer (with_tables mid tables)
  does_nothing tables command answer f is outside = subst (λ (r : Result RustReply Fault). DoesAsked g (with_tables old tables) command r (with_tables mid tables)) (sym is) (record {
    executes = executes_read g old mid tables command (Err f) pinged (λ up first held. inl (is_outside_of f outside, refl));
    crash = nothing_left _;
    live = λ clean. tt;
  })

  pub counts_nothing : (tables : List TableInfo) (command : Command) (answer : Result RustReply Fault) (f : Fault) → answer ≡ Err f → CountsRows g (with_tables old tables) command (answer_of answer) (with_tables mid tables)
  counts_nothing tables command answer f is = subst (λ (r : Result RustReply Fault). CountsRows g (with_tables old tables) command (answer_of r) (with_tables mid tables)) (sym is) (λ up first holds. tt)

  -- where it is
  module _ (asked : HasCleanDisk (shows g mid) → IsTrue (shows g mid).is_open) where
    up_mid : (tables : List TableInfo) → HasCleanDisk (shows g mid) → IsUp g (with_tables mid tables)
    up_mid tables clean = record { clean = clean; is_open = asked clean }

    pub makes_then : {X : Type 0} (new : StoreState S) (changes : List Change) (made : Result X Fault) → MakesRows g mid new changes made → MakesAsked g old new changes made
    makes_then new changes made rows = record {
      changed = then_changed g old mid new changes (is_ok made) pinged rows.changed;
      crash = survives_then (shows g old) (shows g mid) (shows g new) (λ _. ⊥) _ _ (λ clean db none. absurd none) (λ clean db commits.
          let up = up_mid [] (clean_before (shows g mid) (shows g new) rows.crash clean) in
          (looks_up g old mid [] [] pinged up, subst (λ (v : StoreValue). IsStored db (all_applied changes v)) (looks_same g old mid [] pinged up) (commits up.is_open))) it.survives rows.crash;
      live = λ clean. on_ok_from made _ _ (λ done stays. stays (asked (clean_before (shows g mid) (shows g new) rows.crash clean))) (rows.live clean);
      cause = rows.cause;
    }

    pub does_then : (tables : List TableInfo) (new : FullText S) (command : Command) (answer : Result RustReply Fault) → Does g (with_tables mid tables) command answer new → DoesAsked g (with_tables old tables) command answer new
    does_then tables new command answer does = record {
      executes = executes_behind;
      crash = survives_then (shows g old) (shows g mid) (shows g new.store) (λ _. ⊥) _ _ (λ clean db none. absurd none) (λ clean db commits.
          let up = up_mid tables (clean_before (shows g mid) (shows g new.store) does.crash clean) in
          let same : value_in g mid ≡ value_in g old = looks_same g old mid tables pinged up in
          (looks_up g old mid tables tables pinged up, λ old_up first holds. subst (λ (v : StoreValue). HoldsLeft (step first command).1 v.noted db) same (commits up first (subst (λ v. AreHeld v tables first) (sym same) holds)))) it.survives does.crash;
      live = λ clean. on_ok_from answer _ _ (λ done stays. stays (asked (clean_before (shows g mid) (shows g new.store) does.crash clean))) (does.live clean);
    }
      where
        same_value : IsUp g new → value_in g mid ≡ value_in g old
        same_value up = looks_same g old mid tables pinged (does.executes.was_up up)

        executes_behind : Executes g (with_tables old tables) command (answer_of answer) new
        executes_behind = record {
          was_up = λ up. looks_up g old mid tables tables pinged (does.executes.was_up up);
          steps = λ up first holds. does.executes.steps up first (subst (λ v. AreHeld v tables first) (sym (same_value up)) holds);
          others = λ up first holds. subst (λ v. KeepsOthers v (store_value g new)) (same_value up) (does.executes.others up first (subst (λ v. AreHeld v tables first) (sym (same_value up)) holds));
          unchanged = λ refused up. ((does.executes.unchanged refused up).0 ∙ same_value up, (does.executes.unchanged refused up).1);
        }

    pub counts_then : (tables : List TableInfo) (new : FullText S) (command : Command) (answer : Result RustReply Fault) → Does g (with_tables mid tables) command answer new → CountsRows g (with_tables mid tables) command (answer_of answer) new → CountsRows g (with_tables old tables) command (answer_of answer) new
    counts_then tables new command answer does counts up first holds =
        let same : value_in g mid ≡ value_in g old = looks_same g old mid tables pinged (does.executes.was_up up) in
        counts_same (with_tables mid tables) (with_tables old tables) new it.unread first command (answer_of answer) (counts up first (subst (λ v. AreHeld v tables first) (sym same) holds))

    pub value_mid : HasCleanDisk (shows g mid) → value_in g mid ≡ value_in g old
    value_mid clean = looks_same g old mid [] pinged (up_mid [] clean)

    pub asked_looks : {X : Type 0} (new : StoreState S) (read : Result X StoreFault) (count : X → ℕ) → ReadsRows g mid new read count IsPlainFault → LooksAsked g old new read
    asked_looks new read count rows = record {
      kept = λ clean. kept_then (shows g old) (shows g mid) (shows g new) (it.kept (clean_before (shows g mid) (shows g new) rows.survives clean)) (rows.kept clean);
      survives = survives_then (shows g old) (shows g mid) (shows g new) (λ _. ⊥) _ _ (λ clean db none. none) (λ clean db none. none (asked (clean_before (shows g mid) (shows g new) rows.survives clean))) it.survives rows.survives;
      live = rows.live;
      cause = rows.causes;
    }

-- a read only looks
pub read_looks : {S X : Type 0} (g : Ghosts S) (old new : StoreState S) (tables : List TableInfo) (read : Result X StoreFault) → LooksAsked g old new read → OnlyLooks g (with_tables old tables) (with_tables new tables)
read_looks g old new tables read it =
    let looks : Looks g old new = record { kept = it.kept; survives = survives_weaker (shows g old) (shows g new) _ _ (λ clean db none is_open. none) it.survives } in
    record { was_up = λ up. looks_up g old new tables tables looks up; value = λ up. looks_same g old new tables looks up; survives = looks.survives; tables = refl }

-- and what it leaves of full-text tables
pub read_leaves : {S X : Type 0} (g : Ghosts S) (old new : StoreState S) (tables : List TableInfo) (read : Result X StoreFault) → LooksAsked g old new read → SurvivesCrash g (with_tables old tables) → Leaves g (with_tables old tables) (with_tables new tables) (is_ok read) (λ _. ⊥)
read_leaves g old new tables read it settled =
    let only = read_looks g old new tables read it in
    record {
      live = λ clean done. ok_then read (it.live clean) done;
      settled = λ up db may. subst (IsStored db) (sym (only.value up)) (settled (only.was_up up) db (elim (it.survives.crash up.clean db may) [ inl kept ↦ kept | inr none ↦ absurd none ]));
      survives = survives_weaker (shows g old) (shows g new) _ _ (λ clean db none. absurd none) it.survives;
    }

-- a question that is told as `Store` was refused
pub is_refused : {X : Type 0} (fault : StoreFault) (result : Result X Fault) → result ≡ Err (fault_of_read fault) → IsPlainFault fault → result ≡ Err faults.Store → fault ≡ causes.Refused
is_refused fault result is (inl memory) store = absurd (let e = sym store ∙ is ∙ ap (λ f. Err (fault_of_read f)) memory in cc)
is_refused fault result is (inr refused) store = refused

takes_one : (change : RowChange) → TakesOut change → CanApply change
takes_one (row.PutEntries tab term docid spots) takes = absurd (let e = takes in cc)
takes_one _ takes = tt

-- what only takes rows out can be made, and what can be made is refused by no damage
pub takes_can : (changes : List RowChange) → AllOf TakesOut changes → AllOf CanApply changes
takes_can = All-weaker TakesOut CanApply takes_one

pub plain_if : (changes : List RowChange) (fault : StoreFault) → AllOf CanApply changes → IsChangeFault (AllOf CanApply changes) fault → IsPlainFault fault
plain_if changes fault can (inl plain) = plain
plain_if changes fault can (inr damaged) = absurd (damaged.1 can)

abbrev pub puts_list : Change → Bool
puts_list (PutEntries tab term docid spots) = true
puts_list _ = false

one_other : (other : Change) → puts_list other ≡ false → (change : RowChange) → shown_change change ≡ other → CanApply change
one_other other none (row.PutEntries tab term docid spots) is = absurd (let no : true ≡ false = ap puts_list is ∙ none in cc)
one_other other none _ is = tt

-- one change that puts no list
pub other_can : (other : Change) → puts_list other ≡ false → (changes : List RowChange) → map shown_change changes ≡ other ∷ [] → AllOf CanApply changes
other_can other none [] is = absurd cc
other_can other none (c ∷ changes) is = All-from_recursion CanApply (c ∷ changes) (one_other other none c (let first : shown_change c ≡ other = cc in first), none_left changes (let rest : map shown_change changes ≡ [] = cc in rest))
  where
    none_left : (cs : List RowChange) → map shown_change cs ≡ [] → AllByRecursion CanApply cs
    none_left [] none = tt
    none_left (d ∷ cs) none = absurd cc

pub note_can : (name : List ℕ) (changes : List RowChange) → map shown_change changes ≡ Note name ∷ [] → AllOf CanApply changes
note_can name = other_can (Note name) refl

pub made_can : (tab : ℤ) (name : List ℕ) (columns : List (List ℕ)) (skipped : List ℤ) (changes : List RowChange) → map shown_change changes ≡ AddTable tab name columns skipped ∷ [] → AllOf CanApply changes
made_can tab name columns skipped = other_can (AddTable tab name columns skipped) refl

-- ==== why calls over a store are answered `Store`, one after another

-- a read whose refusal is handed on
pub store_blamed : {X Y : Type 0} (old new : State) (e : StoreFault) (read : Result X StoreFault) (result : Result Y Fault) → read ≡ Err e → IsPlainFault e → result ≡ Err (fault_of_read e) → Blames old new read → BlamesStore old new result
store_blamed old new e read result was plain is blames clean told = blames clean (was ∙ ap Err (is_refused e result is plain told))

module _ {S : Type 0} (g : Ghosts S) (a b c : StoreState S) (one : Looks g a b) (live : HasCleanDisk (shows g b) → IsTrue (shows g a).is_open → IsTrue (shows g b).is_open) {D : _} (two : Survives (shows g b) (shows g c) D) where
  -- reads and then another call, which is refused over what was there before, or for another cause
  pub then_either : {W : Type 0} → HasCleanDisk (shows g c) → (HasCleanDisk (shows g b) → IsTrue (shows g b).is_open → (shows g b).now ≡ (shows g a).now → IsBlamed (shows g b) (shows g c) ⊎ W) → IsBlamed (shows g a) (shows g c) ⊎ W
  then_either {W} clean either = go (shows g a).is_open refl
    where
      go : (o : Bool) → (shows g a).is_open ≡ o → IsBlamed (shows g a) (shows g c) ⊎ W
      go false is = inl (inr (inl is))
      go true is =
          let middle : HasCleanDisk (shows g b) = omega (arith, two.clean, clean) in
          let stays = live middle is in
          elim (either middle stays (one.kept middle stays).0) [ inl blamed ↦ inl (blamed_after g a b c one.survives two clean blamed) | inr other ↦ inr other ]

  pub then_blamed : HasCleanDisk (shows g c) → (HasCleanDisk (shows g b) → IsTrue (shows g b).is_open → value_in g b ≡ value_in g a → IsBlamed (shows g b) (shows g c)) → IsBlamed (shows g a) (shows g c)
  then_blamed clean blamed = elim (then_either {W = ⊥} clean (λ middle is_open same. inl (blamed middle is_open (ap (λ (d : Database). value_of d.trees) same)))) [ inl blamed ↦ blamed | inr none ↦ absurd none ]

-- changes that are refused
pub made_blamed : {S X Y : Type 0} (g : Ghosts S) (old new : StoreState S) (changes : List Change) (e : StoreFault) (read : Result X StoreFault) (result : Result Y Fault) → read ≡ Err e → IsChangeFault (All CanMake changes) e → result ≡ Err (fault_of_read e) → BlamesPuts (shows g old) (shows g new) read changes → BlamesMade g old new result changes
made_blamed g old new changes e read result was (inl plain) is blames clean told = elim (blames clean (was ∙ ap Err (is_refused e result is plain told))) [ inl blamed ↦ inl blamed | inr cant ↦ inr (inl cant) ]
made_blamed g old new changes e read result was (inr damaged) is blames clean told = inr (inr damaged.1)

-- no document is written anew
pub no_rewrites : (tab : ℤ) (columns : List Column) → AreRewrites tab []
no_rewrites tab columns = record { content = record { columns = columns; documents = [] }; groups = []; are_of = record { rising = refl; befores = All-nil _; afters = All-nil _ }; are = refl }

-- what a table has, as reads want it
module _ {S : Type 0} (g : Ghosts S) (tab id : ℤ) (same : tab ≡ id) (old new : StoreState S) (name : List ℕ) (content : Content) (has : HasContent name content id (value_in g old)) (clean : HasCleanDisk (shows g new)) (is_open : IsTrue (shows g new).is_open) where
  here : HasContent name content tab (value_in g old)
  here = subst (λ k. HasContent name content k (value_in g old)) (sym same) has

  pub rows_in : HasRows g tab old new content
  rows_in = record { clean = clean; is_open = is_open; name = name; is_content = has.is_content; rows = here.rows }

  pub index_in : IsIndexed g tab old new content
  index_in = record { clean = clean; is_open = is_open; name = name; is_content = has.is_content; index = here.index }

-- ---- a content's lists are whole

abbrev IsFull : {A : Type 0} → List A → Type 0
IsFull xs = xs ≢ []

put_some : {A : Type 0} (k : Key) (v : List A) (ls : List (Key × List A)) → IsFull v → AllByRecursion (λ l. IsFull l.1) ls → AllByRecursion (λ (l : Key × List A). IsFull l.1) (put key_cmp k v ls)
put_some k v [] new all = (new, tt)
put_some {A} k v (e ∷ es) new all = elim (key_cmp k e.0) as (λ o. AllByRecursion (λ (l : Key × List A). IsFull l.1) (by_order o ((k, v) ∷ e ∷ es) ((e.0, v) ∷ es) (e ∷ put key_cmp k v es))) [
  | Less ↦ (new, all)
  | Equal ↦ (new, all.1)
  | Greater ↦ (all.0, put_some k v es new all.1)
]

spots_some : (es : List Entry) → AllByRecursion (λ (l : Key × List Spot). IsFull l.1) (spot_lists es)
unfolding spot_lists
spots_some [] = tt
spots_some (e ∷ es) = put_some (key_of e) (e.spot ∷ spots_at (spot_lists es) (key_of e)) (spot_lists es) (λ none. absurd (let h = none in cc)) (spots_some es)

index_some : (content : Content) → AllByRecursion (λ (l : Key × List Spot). IsFull l.1) (index_rows content).lists
unfolding index_rows
index_some content = spots_some (entries content)

asked_whole : (tab : ℤ) (asks : ListKey → Bool) (test : ListKey → Bool) → ((k : ListKey) → asks k ≡ (int_eq tab k.0 && test k)) → (lists : List (ListKey × List Spot)) →
    AllByRecursion (λ (l : Key × List Spot). IsFull l.1) (map (λ (l : ListKey × List Spot). ((l.0.1, l.0.2), l.1)) (where_key list_key_cmp (λ k. int_eq tab k.0) lists)) → AreWhole (where_key list_key_cmp asks lists)
asked_whole tab asks test same [] all = tt
asked_whole tab asks test same (l ∷ ls) all = go (asked_whole tab asks test same ls) (int_eq tab l.0.0) refl (test l.0) refl all
  where
    few : List (ListKey × List Spot)
    few = where_key list_key_cmp asks ls

    many : List (ListKey × List Spot)
    many = where_key list_key_cmp (λ k. int_eq tab k.0) ls

    AreFull : List (ListKey × List Spot) → Type 0
    AreFull lists = AllByRecursion (λ (l : Key × List Spot). IsFull l.1) (map (λ (l : ListKey × List Spot). ((l.0.1, l.0.2), l.1)) lists)

    go : (AreFull many → AreWhole few) → (b : Bool) → int_eq tab l.0.0 ≡ b → (t : Bool) → test l.0 ≡ t → AreFull (cond b (l ∷ many) many) → AreWhole (cond (asks l.0) (l ∷ few) few)
    go rest true is true passes all = subst (λ b. AreWhole (cond b (l ∷ few) few)) (sym (same l.0 ∙ (λ i. is i && passes i))) (all.0, rest all.1)
    go rest true is false fails all = subst (λ b. AreWhole (cond b (l ∷ few) few)) (sym (same l.0 ∙ (λ i. is i && fails i))) (rest all.1)
    go rest false is t _ all = subst (λ b. AreWhole (cond b (l ∷ few) few)) (sym (same l.0 ∙ ap (λ b. b && test l.0) is)) (rest all)

-- none of the lists that are asked of a table is damaged
pub none_damaged : (tab : ℤ) (store : StoreValue) (content : Content) (asks : ListKey → Bool) (test : ListKey → Bool) → ((k : ListKey) → asks k ≡ (int_eq tab k.0 && test k)) → table_index tab store ≡ index_rows content → AreWhole (where_key list_key_cmp asks store.lists)
none_damaged tab store content asks test same index =
    asked_whole tab asks test same store.lists (subst (AllByRecursion (λ (l : Key × List Spot). IsFull l.1)) (sym (ap (λ (r : IndexRows). r.lists) index)) (index_some content))

-- a read of lists that fails, of which none is damaged
pub read_failed : {S X : Type 0} (g : Ghosts S) (a b : StoreState S) (e : StoreFault) (read : Result X StoreFault) (asked : List (ListKey × List Spot)) (failed failed_now : Bool) → read ≡ Err e → IsReadFault e → Blames (shows g a) (shows g b) read →
    (HasCleanDisk (shows g b) → read ≡ Err causes.Damaged → ¬ AreWhole asked) → AreWhole asked → (e ≡ causes.Memory → failed_now ≡ failed) → HasCleanDisk (shows g b) → failed_now ≡ true → (failed ≡ true) ⊎ IsBlamed (shows g a) (shows g b)
read_failed g a b e read asked failed failed_now was (inl (inl memory)) blames damaged whole kept clean has = inl (sym (kept memory) ∙ has)
read_failed g a b e read asked failed failed_now was (inl (inr refused)) blames damaged whole kept clean has = inr (blames clean (was ∙ ap Err refused))
read_failed g a b e read asked failed failed_now was (inr bad) blames damaged whole kept clean has = absurd (damaged clean (was ∙ ap Err bad) whole)

-- ---- calls of lists one after another

module _ {X S : Type 0} (g : Ghosts S) (Becomes : X → Bool → X → Type 0) (store : X → StoreState S) (given : X → ℕ) (tab : X → ℤ) (failed : X → Bool)
    (reads : (x : X) (all : Bool) (y : X) → Becomes x all y → ReadsStore g (store x) (given x) all (store y) (given y))
    (stays : (x : X) (all : Bool) (y : X) → Becomes x all y → tab y ≡ tab x)
    (fails : (x : X) (all : Bool) (y : X) → Becomes x all y → FailsIf g (tab x) (store x) (failed x) all (store y) (failed y)) where
  pub all_fails : (x : X) (all : Bool) (y : X) → Reaches Becomes x all y → Fails g (tab x) (store x) (failed x) (store y) (failed y)
  all_fails x all y (Stays z _) clean name content is index has = inl has
  all_fails x all y (Goes a b d _ step calls) clean name content is index has =
      let one = reads a true b step in
      let more = all_read g Becomes store given reads b all d calls in
      let middle : HasCleanDisk (shows g (store b)) = omega (arith, more.looks.survives.clean, clean) in
      let same : value_in g (store b) ≡ value_in g (store a) = ap (λ (d : Database). value_of d.trees) (one.kept middle (one.live middle refl)).0 in
      elim (all_fails b all d calls clean name content is ((λ i. table_index (stays a true b step i) (same i)) ∙ index) has) [
        | inl before ↦ inl (sym (fails a true b step) ∙ before)
        | inr blamed ↦ inr (blamed_after g (store a) (store b) (store d) one.survives more.looks.survives clean blamed)
      ]
  all_fails x all y (Ends a b step) clean name content is index has = fails a false b step clean name content is index has

-- ---- a table that is told as sound

-- the content that a store has in a table, as what is known of it says
pub record IsOver (store : StoreValue) (known : TableInfo) : Type 0 where
  pub content : Content
  pub has : HasContent known.name content known.id store
  pub columns_are : content.columns ≡ known.columns

pub over_sound : (store : StoreValue) (tables : List TableInfo) (contents : Contents) (name : List ℕ) (known : TableInfo) → AreInOrder store → AreHeld store tables contents → IsSoundNamed tables name known → IsOver store known
over_sound store tables contents name known order held named =
    let t = sound_table contents name known (ap (λ ts. info_named ts name) (sym held.told) ∙ named.0) named.1 in
    record {
      content = t.content;
      has = subst (λ (k : TableInfo). HasContent k.name t.content k.id store) t.told (sound_rows store tables contents name known t order held);
      columns_are = ap (λ (h : TableState). (held_content h).columns) (sym t.held) ∙ ap (λ (k : TableInfo). k.columns) t.told;
    }

-- what a call is answered by a fault
pub err_of : {X : Type 0} (r : Result X Fault) (fault : Fault) → r ≡ Err fault → r ≡ Err faults.Store → fault ≡ faults.Store
err_of r fault is told = let e = sym is ∙ told in cc

-- ---- documents that are there

module _ (name : List ℕ) (content : Content) (is : IsContent name content) where
  abbrev IsThere : ℤ × List Cell → Type 0
  IsThere d = IsSome (find int_cmp d.0 content.documents)

  all_there : All IsThere content.documents
  all_there = All-weaker (λ (d : ℤ × List Cell). find int_cmp d.0 content.documents ≡ Some d.1) IsThere (λ d found. ap is_some found) content.documents
      (All-from_recursion _ content.documents (all_found content.documents is.rising))

  abbrev docid_of : ℤ × List Cell → ℤ
  docid_of d = d.0

  chosen_there : (f : Filter) → AreThere content (map docid_of (chosen content f))
  unfolding chosen
  chosen_there f = All-map (λ (k : ℤ). IsSome (find int_cmp k content.documents)) docid_of (filter (is_chosen content f) content.documents) (All-filter (is_chosen content f) IsThere content.documents all_there)

  cut_there : (limit : Option ℕ) (offset : ℕ) (docids : List ℤ) → AreThere content docids → AreThere content (cut limit offset docids)
  cut_there None offset docids all = All-drop (λ (k : ℤ). IsSome (find int_cmp k content.documents)) offset docids all
  cut_there (Some n) offset docids all = All-take (λ (k : ℤ). IsSome (find int_cmp k content.documents)) n (drop offset docids) (All-drop (λ (k : ℤ). IsSome (find int_cmp k content.documents)) offset docids all)

  -- those of all documents, and those of hits
  pub docids_there : (limit : Option ℕ) (offset : ℕ) (docids : List ℤ) → docids ≡ cut limit offset (map docid_of content.documents) → AreThere content docids
  docids_there limit offset docids are =
      subst (AreThere content) (sym are) (cut_there limit offset (map docid_of content.documents) (All-map (λ (k : ℤ). IsSome (find int_cmp k content.documents)) docid_of content.documents all_there))

  pub hits_there : (f : Filter) (wanted : Bool) (limit : Option ℕ) (offset : ℕ) (hits : List Hit) → map plain_hit hits ≡ cut limit offset (map (as_wanted wanted) (chosen_hits content f)) → AreThere content (map (λ (h : Hit). h.docid) hits)
  hits_there f wanted limit offset hits are =
      let query = query_in content f in
      let of_hit : PlainHit → ℤ = λ h. h.docid in
      subst (AreThere content)
      (sym (sym (map-map of_hit plain_hit hits) ∙ ap (map of_hit) are ∙ sym (cut_of_map of_hit limit offset (map (as_wanted wanted) (chosen_hits content f)))
      ∙ ap (cut limit offset) (map-map of_hit (as_wanted wanted) (chosen_hits content f) ∙ map-map of_hit (hit_read content query) (chosen content f))))
      (cut_there limit offset (map docid_of (chosen content f)) (chosen_there f))

-- a document that is there is found
pub none_there : (content : Content) (docid : ℤ) → IsSome (find int_cmp docid content.documents) → find int_cmp docid content.documents ≡ None → ⊥
none_there content docid there none = absurd (let no = sym (ap is_some none) ∙ there in cc)

-- those of hits, one by one
pub there_of : (content : Content) (hits : List Hit) → AreThere content (map (λ (h : Hit). h.docid) hits) → All (λ (h : Hit). IsSome (find int_cmp h.docid content.documents)) hits
there_of content [] all = All-nil (λ (h : Hit). IsSome (find int_cmp h.docid content.documents))
there_of content (h ∷ hs) all =
    let Found : ℤ → Type 0 = λ k. IsSome (find int_cmp k content.documents) in
    let docids = map (λ (h : Hit). h.docid) hs in
    All-cons (λ (h : Hit). Found h.docid) h hs (All-head Found h.docid docids all) (there_of content hs (All-tail Found h.docid docids all))

-- hits without offsets have these docids
pub bare_docids : (hits : List Hit) (docids : List ℤ) → map plain_hit hits ≡ map (λ (k : ℤ). record { docid = k; offsets = [] }) docids → map (λ (h : Hit). h.docid) hits ≡ docids
bare_docids hits docids are =
    let of_hit : PlainHit → ℤ = λ h. h.docid in
    sym (map-map of_hit plain_hit hits) ∙ ap (map of_hit) are ∙ map-map of_hit (λ (k : ℤ). record { docid = k; offsets = [] }) docids ∙ map-id docids

-- the same of another number and another value that are the same
pub has_at : {name : List ℕ} {content : Content} {tab id : ℤ} {old new : StoreValue} → old ≡ new → tab ≡ id → HasContent name content tab old → HasContent name content id new
has_at {name} {content} {tab} {id} {old} {new} same at has = subst (λ k. HasContent name content k new) at (subst (λ v. HasContent name content tab v) same has)

-- an answer of a command as the definitions see it
pub store_answer : (r : Result RustReply Fault) → answer_of r ≡ Err faults.Store → r ≡ Err faults.Store
store_answer (Ok reply) is = absurd (let no = is in cc)
store_answer (Err fault) is = ap Err (err_of (answer_of (Err fault)) fault refl is)

-- ==== what commands do that read, and then change rows

module _ {S : Type 0} (g : Ghosts S) (old mid : StoreState S) (tables : List TableInfo) (command : Command) (looks : Looks g old mid) where
  -- reads that show its answer
  pub does_read : (answer : Result RustReply Fault) → (HasCleanDisk (shows g mid) → OnOk answer (IsTrue (shows g old).is_open → IsTrue (shows g mid).is_open)) → (IsUp g (with_tables mid tables) → (first : Contents) → AreHeld (value_in g old) tables first → Answers first command (answer_of answer) first) →
      Does g (with_tables old tables) command answer (with_tables mid tables)
  does_read answer live answers = record { executes = executes_read g old mid tables command (answer_of answer) looks answers; crash = survives_weaker (shows g old) (shows g mid) _ _ (λ clean db none up first holds. absurd (none up.is_open)) looks.survives; live = live }

  pub does_failed : (fault : Fault) (answer : Result RustReply Fault) → answer ≡ Err fault → PlansTo g tables old mid command (Err fault) → Does g (with_tables old tables) command answer (with_tables mid tables)
  does_failed fault answer is plans = subst (λ a. Does g (with_tables old tables) command a (with_tables mid tables)) (sym is) (does_read (Err fault) (λ clean. tt) (λ up first held. fault_answers first command fault (plans up first held)))

  module _ (live : HasCleanDisk (shows g mid) → IsTrue (shows g old).is_open → IsTrue (shows g mid).is_open) (new : StoreState S) (changes : List Change) (result : Result (Unit {0}) Fault) (makes : MakesRows g mid new changes result)
      (reaches : IsUp g (with_tables mid tables) → (first : Contents) → AreHeld (value_in g old) tables first → ReachesStep first command (value_in g old) changes) where
    -- row changes that are refused
    pub does_undone : (fault : Fault) (answer : Result RustReply Fault) → answer ≡ Err fault → result ≡ Err fault → Does g (with_tables old tables) command answer (with_tables new tables)
    does_undone fault answer is refused =
        let made = subst (MakesRows g mid new changes) refused makes in
        subst (λ a. Does g (with_tables old tables) command a (with_tables new tables)) (sym is) (record {
          executes = executes_refused g old new tables changes command fault made.cause (then_changed g old mid new changes false looks made.changed);
          crash = crash_reached g old mid new tables tables command changes looks live reaches made.crash;
          live = λ clean. tt;
        })

    -- and those that are made
    pub does_made : (after_tables : List TableInfo) → result ≡ Ok tt → ((contents : Contents) → AreHeld (value_in g old) tables contents → deserved contents command ≡ None → after_tables ≡ map table_info (after contents command)) →
        ((contents : Contents) → reply_to contents command ≡ Done) → Does g (with_tables old tables) command (Ok replies.Done) (with_tables new after_tables)
    does_made after_tables done told replies_so =
        let made = subst (MakesRows g mid new changes) done makes in
        record {
          executes = executes_planned g old new tables after_tables changes command (λ up first holds. reaches (made.changed.was_up after_tables tables up) first holds) (then_changed g old mid new changes true looks made.changed) told replies_so;
          crash = crash_reached g old mid new tables after_tables command changes looks live reaches made.crash;
          live = λ clean is_open.
              let c : doubt (shows g new).is_clean ≡ 0 = clean in
              made.live clean (live (omega (arith, c, made.crash.clean)) is_open);
        }

    -- why they are refused
    pub done_blamed : {X : Type 0} (answer : Result X Fault) → IsTrue (puts_rows command) → (IsUp g (with_tables mid tables) → (first : Contents) → AreHeld (value_in g old) tables first → AreOwn changes) → (answer ≡ Err faults.Store → result ≡ Err faults.Store) → BlamesMade g mid new result changes →
        BlamesDone g tables old command new answer
    done_blamed answer puts own by refused contents held clean told = then_either g old mid new looks live makes.crash clean (λ middle is_open same.
        let up : IsUp g (with_tables mid tables) = record { clean = middle; is_open = is_open } in
        elim (refused clean (by told)) [
          | inl blamed ↦ inl blamed
          | inr cant ↦ inr (record { puts = puts; changes = changes; own = own up contents held; reaches = reaches up contents held; cant = subst (λ (d : Database). CantMake d.trees changes) same cant })
        ])
