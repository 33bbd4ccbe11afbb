-- Steps of an import into the plain database.
use Rattle.std.proofs.Common.{◌≡◌, ◌≢◌, ◌<◌, ◌+◌, ℕ, List, [], ◌∷◌, ◌++◌, map, length, get_or, take, drop, true, false, Bool, Result, Ok, Err, refl, sym, ap, subst, ◌∙◌, inl, inr, IsTrue, String, Vec, Global, ◌⊎◌, if◌then◌else◌}
use Rattle.sqlite_value.specs.Order.{Row}
use Rattle.sqlite.specs.Tree.{Trees}
use Rattle.sqlite.specs.State.{IsNotRun}
use Rattle.sqlite.specs.Steps.{FailsToCommit}
use Rattle.sqlite.specs.declared.error.Error.TheVariants.{SqlInputError}
use Rattle.sqlite_resolve.specs.declared.error.CompileError.{CompileError}
use Rattle.plain_sql.proofs.Common.{take_more, drop_more, take-append-drop, map-append, texts_of, Ghosts, Held, state, State, HasCleanDisk, Survives, ExecutesInside, IsRolledBack, IsUnchanged, KeepsCommit, Error, ImportFault, Refused, Memory, IfClean, is_memory_error, Step, Prepare, Run, row_values, runs_of, Stays, CommitsNothing, Does, IsRefused, IsUnsaid, DoesAll, StopsAtStep, begun, IsInside, KeepsLast}
use Rattle.plain_sql.proofs.QueryLemmas.{was_clean, was_same, was_then}

-- ---- what a call leaves of the last commit

pub keeps_same : (s : State) → KeepsCommit s s
keeps_same s = record { was_open = λ o. o; committed = λ _. refl }

keeps_then : (a b c : State) → KeepsCommit a b → KeepsCommit b c → KeepsCommit a c
keeps_then a b c one two = record { was_open = λ o. one.was_open (two.was_open o); committed = λ o. two.committed o ∙ one.committed (two.was_open o) }

unchanged_keeps : (old new : State) → IsUnchanged old new → KeepsCommit old new
unchanged_keeps old new same = record { was_open = λ _. same.0.was_open; committed = λ _. same.0.committed_is }

undone_keeps : (old new : State) → IsRolledBack old new → KeepsCommit old new
undone_keeps old new back = record { was_open = back.was_open; committed = λ o. (back.undone o).1 }

unrun_either : (old new : State) (text : List ℕ) (values : Row) (e : Error) → IsNotRun old new text values e → IsUnchanged old new ⊎ IsRolledBack old new
unfolding IsNotRun
unrun_either old new text values e (inl none) = inl none.1
unrun_either old new text values e (inr fails) = inr fails.3

either_keeps : (old new : State) → IsUnchanged old new ⊎ IsRolledBack old new → KeepsCommit old new
either_keeps old new (inl same) = unchanged_keeps old new same
either_keeps old new (inr back) = undone_keeps old new back

pub unrun_keeps : (old new : State) (text : List ℕ) (values : Row) (e : Error) → IsNotRun old new text values e → KeepsCommit old new
unrun_keeps old new text values e h = either_keeps old new (unrun_either old new text values e h)

inside_keeps : (text : List ℕ) (values : Row) (old new : State) (r : Result ℕ Error) → ExecutesInside 0 text values old new r → KeepsCommit old new
inside_keeps text values old new (Ok count) h = record { was_open = λ _. h.1.was_open; committed = λ _. h.1.committed_is }
inside_keeps text values old new (Err e) (inl (ran, either)) = either_keeps old new either
inside_keeps text values old new (Err e) (inr escapes) = unchanged_keeps old new escapes.2

stays_same : (s : State) → Stays s s
stays_same s = record { was_open = λ o. o; now = refl; committed = refl; mode = refl; marks = refl }

pub unchanged_stays : (old new : State) → IsUnchanged old new → Stays old new
unchanged_stays old new same = record { was_open = λ _. same.0.was_open; now = same.0.now_is; committed = same.0.committed_is; mode = same.0.mode; marks = same.2 }

pub stays_then : (a b c : State) → Stays a b → Stays b c → Stays a c
stays_then a b c one two = record { was_open = λ o. one.was_open (two.was_open o); now = two.now ∙ one.now; committed = two.committed ∙ one.committed; mode = two.mode ∙ one.mode; marks = two.marks ∙ one.marks }

-- no transaction is open where one was undone
none_open : {X : Type 0} (old new : State) → IsRolledBack old new → IsTrue new.in_transaction → X
none_open old new back inside = absurd (let wrong : true ≡ false = sym inside ∙ back.autocommit in cc)

-- nothing was done
pub all_kept : (s : State) → CommitsNothing s s
all_kept s = record { commit = keeps_same s; now = λ _. inl refl; none_begun = λ _. stays_same s }

pub unrun_all_kept : (old new : State) (text : List ℕ) (values : Row) (e : Error) → IsNotRun old new text values e → CommitsNothing old new
unrun_all_kept old new text values e h = go (unrun_either old new text values e h)
  where
    go : IsUnchanged old new ⊎ IsRolledBack old new → CommitsNothing old new
    go (inl same) = record { commit = unchanged_keeps old new same; now = λ _. inl same.0.now_is; none_begun = λ _. unchanged_stays old new same }
    go (inr back) = record { commit = undone_keeps old new back; now = λ o. inr (back.undone o).0; none_begun = none_open old new back }

pub stays_all_kept : (a b c : State) → Stays a b → CommitsNothing b c → CommitsNothing a c
stays_all_kept a b c stays keeps = record {
  commit = record { was_open = λ o. stays.was_open (keeps.commit.was_open o); committed = λ o. keeps.commit.committed o ∙ stays.committed };
  now = λ o. elim (keeps.now o) [ inl same ↦ inl (same ∙ stays.now) | inr back ↦ inr (back ∙ stays.committed) ];
  none_begun = λ inside. stays_then a b c stays (keeps.none_begun inside);
}

-- ---- one step

-- a fault that isn't want of memory has another cause
pub other_cause : {T : Type 0} (e : Error) (r : Result T ImportFault) → r ≡ Err (if is_memory_error e then Memory else Refused) → r ≡ Err Refused → is_memory_error e ≡ false
other_cause {T} e r is other = go (is_memory_error e) refl
  where
    go : (b : Bool) → is_memory_error e ≡ b → is_memory_error e ≡ false
    go true memory = absurd (let same : ◌≡◌ {A = Result T ImportFault} (Err Refused) (Err Memory) = sym other ∙ is ∙ ap (λ b. Err (if b then Memory else Refused)) memory in cc)
    go false none = none

-- a fault that is passed on
pub passed_on : {T U : Type 0} (fault : ImportFault) (r : Result T ImportFault) → r ≡ Err fault → r ≡ Err Refused → ◌≡◌ {A = Result U ImportFault} (Err fault) (Err Refused)
passed_on {T} {U} fault r is refused = let same : ◌≡◌ {A = Result T ImportFault} (Err fault) (Err Refused) = sym is ∙ refused in let inner : fault ≡ Refused = cc in ap Err inner

-- ---- the insertions of records

pub runs_more : (text : List ℕ) (n : ℕ) (records : List (Vec (String Global) Global)) (i : ℕ) (d : Vec (String Global) Global) (row : List (List ℕ)) → i < length records → row ≡ texts_of (get_or records i d) →
    runs_of text n (map texts_of (take i records)) ++ Run text (row_values n row) ∷ [] ≡ runs_of text n (map texts_of (take (i + 1) records))
runs_more text n records i d row within is =
    let step = λ (fields : List (List ℕ)). Run text (row_values n fields) in
    ap (λ fields. runs_of text n (map texts_of (take i records)) ++ step fields ∷ []) is
    ∙ sym (map-append step (map texts_of (take i records)) (texts_of (get_or records i d) ∷ []))
    ∙ ap (map step) (sym (map-append texts_of (take i records) (get_or records i d ∷ [])))
    ∙ ap (λ rs. map step (map texts_of rs)) (sym (take_more records i d within))

pub runs_split : (text : List ℕ) (n : ℕ) (records : List (Vec (String Global) Global)) (i : ℕ) (d : Vec (String Global) Global) (row : List (List ℕ)) → i < length records → row ≡ texts_of (get_or records i d) →
    runs_of text n (map texts_of (take i records)) ++ Run text (row_values n row) ∷ runs_of text n (map texts_of (drop (i + 1) records)) ≡ runs_of text n (map texts_of records)
runs_split text n records i d row within is =
    let step = λ (fields : List (List ℕ)). Run text (row_values n fields) in
    ap (λ fields. runs_of text n (map texts_of (take i records)) ++ step fields ∷ runs_of text n (map texts_of (drop (i + 1) records))) is
    ∙ sym (map-append step (map texts_of (take i records)) (map texts_of (get_or records i d ∷ drop (i + 1) records)))
    ∙ ap (map step) (sym (map-append texts_of (take i records) (get_or records i d ∷ drop (i + 1) records)))
    ∙ ap (λ rs. map step (map texts_of (take i records ++ rs))) (sym (drop_more records i d within))
    ∙ ap (λ rs. map step (map texts_of rs)) (take-append-drop i records)

module _ {P : Type 0} (g : Ghosts P) where
  pub run_refused : (text : List ℕ) (values : Row) (old new : Held P) (e : Error) {C : Trees → Type 0} → Survives (state g old) (state g new) C → IsInside g old → is_memory_error e ≡ false
      → (HasCleanDisk (state g new) → IsTrue (state g old).in_transaction → ExecutesInside 0 text values (state g old) (state g new) (Err e)) → IsRefused g (Run text values) old new
  run_refused text values old new e survives inside cause runs =
      record { error = e; cause = cause; refused = λ clean. let before = was_clean survives clean in (before, runs clean (inside before.clean)) }

  pub prepare_refused : (text : List ℕ) (old new : Held P) (e : Error) {C : Trees → Type 0} → Survives (state g old) (state g new) C → is_memory_error e ≡ false
      → (HasCleanDisk (state g new) → (values : Row) → IsNotRun (state g old) (state g new) text values e) → IsRefused g (Prepare text) old new
  prepare_refused text old new e survives cause fails = record { error = e; cause = cause; refused = λ clean. (was_clean survives clean, fails clean []) }

  pub prepare_unsaid : (text : List ℕ) (old new : Held P) (e : Error) {C : Trees → Type 0} → Survives (state g old) (state g new) C → is_memory_error e ≡ false → ((why : CompileError) → e ≢ SqlInputError why)
      → (HasCleanDisk (state g new) → (values : Row) → IsNotRun (state g old) (state g new) text values e) → IsUnsaid g text old new
  unfolding prepare_refused
  prepare_unsaid text old new e survives cause other fails = record { is = prepare_refused text old new e survives cause fails; other = other }

  pub unprepared_kept : (text : List ℕ) (old new : Held P) (e : Error) {C : Trees → Type 0} → Survives (state g old) (state g new) C
      → (HasCleanDisk (state g new) → (values : Row) → IsNotRun (state g old) (state g new) text values e) → KeepsLast g old new
  unprepared_kept text old new e survives fails clean = (was_clean survives clean, unrun_keeps (state g old) (state g new) text [] e (fails clean []))

  pub last_same : (h : Held P) → KeepsLast g h h
  last_same h clean = (was_same (state g h) clean, keeps_same (state g h))

  pub last_then : (a b c : Held P) → KeepsLast g a b → KeepsLast g b c → KeepsLast g a c
  last_then a b c one two clean = let second = two clean in let first = one second.0.clean in (was_then first.0 second.0, keeps_then (state g a) (state g b) (state g c) first.1 second.1)

  -- ---- steps

  -- one step more is done
  pub does_more : (steps : List Step) (step : Step) (old mid new : Held P) → DoesAll g steps old mid → Does g step mid new → DoesAll g (steps ++ step ∷ []) old new
  does_more [] step old mid new first more = (new, subst (λ h. Does g step h new) first more, refl)
  does_more (s ∷ steps) step old mid new first more = (first.0, first.1, does_more steps step first.0 mid new first.2 more)

  -- the next step is refused
  pub stops_at : (front : List Step) (step : Step) (rest : List Step) (old mid new : Held P) → DoesAll g front old mid → IsRefused g step mid new → StopsAtStep g (front ++ step ∷ rest) old new
  stops_at front step rest old mid new done refused = record { front = front; step = step; rest = rest; split = refl; mid = mid; done = done; refused = refused }

  -- a step before others
  pub stops_later : (step : Step) (steps : List Step) (old mid new : Held P) → Does g step old mid → StopsAtStep g steps mid new → StopsAtStep g (step ∷ steps) old new
  stops_later step steps old mid new done stops =
      record { front = step ∷ stops.front; step = stops.step; rest = stops.rest; split = ap (λ s. step ∷ s) stops.split; mid = stops.mid; done = (mid, done, stops.done); refused = stops.refused }

  -- ---- the transaction

  -- what a transaction that ended without its commit keeps of the connection before it
  pub undone_all_kept : (old last new : Held P) → KeepsLast g (begun g old) last → IfClean g last new (IsRolledBack (state g last) (state g new)) → IfClean g old new (CommitsNothing (state g old) (state g new))
  undone_all_kept old last new kept back clean =
      let undone = back clean in
      let first = kept undone.0.clean in (
        record { clean = first.0.clean; limit = undone.0.limit ∙ first.0.limit },
        record {
          commit = keeps_then (state g old) (state g last) (state g new) (record { was_open = first.1.was_open; committed = first.1.committed }) (undone_keeps (state g last) (state g new) undone.1);
          now = λ o. inr ((undone.1.undone o).0 ∙ first.1.committed (undone.1.was_open o));
          none_begun = none_open (state g last) (state g new) undone.1;
        },
      )

  -- a refused commit undoes the transaction
  commit_undone : (old new : State) (e : Error) → FailsToCommit old new e → IsTrue old.in_transaction → IsRolledBack old new
  commit_undone old new e (inl fails) inside = fails.3
  commit_undone old new e (inr late) inside = absurd (let wrong : true ≡ false = sym inside ∙ late.1 in cc)

  pub uncommitted_all_kept : (old last new : Held P) (e : Error) → KeepsLast g (begun g old) last → IsInside g last → IfClean g last new (FailsToCommit (state g last) (state g new) e) → IfClean g old new (CommitsNothing (state g old) (state g new))
  uncommitted_all_kept old last new e kept inside fails =
      undone_all_kept old last new kept (λ clean. let failed = fails clean in (failed.0, commit_undone (state g last) (state g new) e failed.1 (inside failed.0.clean)))
