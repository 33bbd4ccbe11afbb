-- What follows from a call of the connection, and why the database refuses it.
use Rattle.std.proofs.Common.{◌≡◌, ℕ, ◌+◌, ◌<◌, List, [], ◌∷◌, ◌++◌, map, length, get_or, take, arith, Option, Some, None, sym, ap, ap₂, ◌∙◌, Result, refl, Ok, Err, inl, inr, ◌⊎◌, IsTrue, Bool, true, false, MatchBool, Bor, subst, true≢false, IfOk, IfErr, OnOk, IsSome, option_copied, ◌≢◌}
use Rattle.ft_store.proofs.Common.{KeepsCommit, Shown, Returning, ShowsRows, timed, IsUnchanged, IsRolledBack, FailsToQuery, IsTooLate, take_more}
use Rattle.ft_store.proofs.Common.{map-append, Row, understood, State, HasCleanDisk, IsNotRun, Fails, ExecutesIn, RunsCommand, shows_rows}
use Rattle.ft_store.proofs.Common.{store_error, FailsToShow, Survives, ExecutesInside, CommitsShowing, Error, SqliteFailure, ExecuteReturnedResults}
use Rattle.ft_store.proofs.Common.{StoreError, OutOfMemory, Io, Corrupt, Full, Broken, Unstorable, survives_weaker, IsPlain, never_commits, Database}
use Rattle.ft_store.proofs.Common.{Ghosts, reads_listing, IsSourceOf, Returns, HasGiven, HasBegun, Advances, FailsToAdvance, Held, state}
use Rattle.ft_store.proofs.Common.{unchanged_then, survives_then, RefusesToRead, given_begin, HasCause, IsNoStatement, Begins}
use Rattle.sqlite.specs.declared.error.ErrorCode.TheVariants as code
use Rattle.ft_store.specs.declared.fault.StoreFault.TheVariants as fault
use Rattle.sqlite_schema.specs.declared.schema.Constraint.{Constraint}
use Rattle.ft_store.specs.Calls.{Keeps, fault_of}
use Rattle.sqlite.specs.declared.rows.stream.Rows.{Rows}
use Rattle.sqlite.specs.Next.{HasMoved}
use Rattle.sqlite_resolve.specs.declared.compiled.Compiled.{Compiled}
use Rattle.sqlite_resolve.specs.declared.error.CompileError.{CompileError}
use Rattle.ft_store.specs.Streamed.{Gathering}
use Rattle.ft_store.specs.Blame.{IsBlamed, IsUnasked, GivesUntaken}

-- ---- calls, whatever their texts are

pub shown_open : (sql : List ℕ) (params : Row) (old new : State) (rows : List Row) → Shown sql params old new rows → IsTrue old.is_open
unfolding Shown
shown_open sql params old new rows h = go h.0.returning h.2
  where
    go : (o : Option Returning) → ShowsRows old new sql h.0 (timed params h.0.formats h.1.now) rows o → IsTrue old.is_open
    go None shows = shows.3.0.was_open
    go (Some what) shows = shows.1.shown.was_open

-- a query that is refused changes nothing, or the transaction is undone
pub refused_keeps : (sql : List ℕ) (params : Row) (old new : State) (e : Error) → FailsToQuery sql params old new e → IsUnchanged old new ⊎ IsRolledBack old new
unfolding FailsToQuery IsNotRun
refused_keeps sql params old new e (inl (inl none)) = inl none.1
refused_keeps sql params old new e (inl (inr fails)) = inr fails.3
refused_keeps sql params old new e (inr shows) = go shows.0.returning shows.2
  where
    go : (o : Option Returning) → FailsToShow old new sql shows.0 (timed params shows.0.formats shows.1.now) e o → IsUnchanged old new ⊎ IsRolledBack old new
    go None h = inl h.3
    go (Some what) (inl h) = inl h.1
    go (Some what) (inr h) = inr h.3

-- a statement that isn't run changes nothing, or the transaction is undone
pub not_run : (sql : List ℕ) (params : Row) (old new : State) (e : Error) → IsNotRun old new sql params e → IsUnchanged old new ⊎ IsRolledBack old new
unfolding IsNotRun
not_run sql params old new e (inl none) = inl none.1
not_run sql params old new e (inr fails) = inr fails.3

pub kept_either : (old new : State) → (IsTrue old.is_open → old.now ≡ old.committed) → IsUnchanged old new ⊎ IsRolledBack old new → Keeps old new
kept_either old new settled (inl same) now = (same.0.now_is, same.0.committed_is, same.0.was_open)
kept_either old new settled (inr back) now = let undone = back.undone now in (undone.0 ∙ sym (settled (back.was_open now)), undone.1, back.was_open now)

pub commits_nothing : (sql : List ℕ) (params : Row) (old new : State) → (HasCleanDisk old → IsTrue old.is_open → IsPlain (understood old.now.schema sql)) → Survives old new (CommitsShowing sql params old)
    → Survives old new (λ _. IsTrue old.is_open → ⊥)
commits_nothing sql params old new plain s =
    survives_weaker old new _ _ (λ clean db may is_open. never_commits sql params old db (plain (omega (arith, s.clean)) is_open) may) s

pub one_more : {A B C : Type 0} (f : A → C) (g : B → C) (xs : List A) (ys : List B) (i : ℕ) (x : A) (y : B) → i < length ys → y ≡ get_or ys i y → map f xs ≡ map g (take i ys) → f x ≡ g y
    → map f (xs ++ x ∷ []) ≡ map g (take (i + 1) ys)
one_more f g xs ys i x y inside is h here =
    map-append f xs (x ∷ []) ∙ ap₂ (λ l z. l ++ z ∷ []) h (here ∙ ap g is) ∙ sym (map-append g (take i ys) (get_or ys i y ∷ [])) ∙ ap (map g) (sym (take_more ys i y inside))

pub keeps_same : (s : State) → KeepsCommit s s
keeps_same s = record { was_open = λ o. o; committed = λ _. refl }

pub keeps_then : (a b c : State) → KeepsCommit a b → KeepsCommit b c → KeepsCommit a c
keeps_then a b c one two = record { was_open = λ o. one.was_open (two.was_open o); committed = λ o. two.committed o ∙ one.committed (two.was_open o) }

-- ---- a statement in a transaction that breaks a rule changes nothing

no_failure : (old new : State) (rule : Constraint) (TooBig : Type 0) → Fails old new TooBig (SqliteFailure (code.ConstraintViolation rule)) → ⊥
no_failure old new rule TooBig h = go h.0 h.1
  where
    go : (cause : StoreError) → SqliteFailure (code.ConstraintViolation rule) ≡ store_error cause → ⊥
    go OutOfMemory e = cc
    go Io e = cc
    go Corrupt e = cc
    go Full e = cc
    go Broken e = cc
    go Unstorable e = cc

pub broken_keeps : (sql : List ℕ) (params : Row) (old new : State) (rule : Constraint) → ExecutesInside 0 sql params old new (Err (SqliteFailure (code.ConstraintViolation rule))) → IsUnchanged old new
unfolding ExecutesIn IsNotRun
broken_keeps sql params old new rule (inr ends) = ends.2
broken_keeps sql params old new rule (inl (inl (inl none), kept)) = none.1
broken_keeps sql params old new rule (inl (inl (inr fails), kept)) = absurd (no_failure old new rule ⊥ fails)
broken_keeps sql params old new rule (inl (inr ran, kept)) = go (shows_rows false ran.0) ran.2
  where
    runs : RunsCommand old new sql ran.0 (timed params ran.0.formats ran.1.now) (Err (SqliteFailure (code.ConstraintViolation rule))) → IsUnchanged old new
    runs (inl refused) = refused.1
    runs (inr fails) = absurd (no_failure old new rule _ fails)

    go : (b : Bool) → MatchBool b (◌≡◌ {A = Result ℕ Error} (Err (SqliteFailure (code.ConstraintViolation rule))) (Err ExecuteReturnedResults) × IsUnchanged old new) (RunsCommand old new sql ran.0 (timed params ran.0.formats ran.1.now) (Err (SqliteFailure (code.ConstraintViolation rule)))) → IsUnchanged old new
    go true h = h.1
    go false h = runs h

pub unchanged_keeps : (old new : State) → IsUnchanged old new ⊎ IsRolledBack old new → KeepsCommit old new
unchanged_keeps old new (inl same) = record { was_open = λ _. same.0.was_open; committed = λ _. same.0.committed_is }
unchanged_keeps old new (inr back) = record { was_open = back.was_open; committed = λ o. (back.undone o).1 }

pub shown_commit : (sql : List ℕ) (params : Row) (old new : State) (rows : List Row) → IsTrue old.in_transaction → Shown sql params old new rows → KeepsCommit old new
unfolding Shown
shown_commit sql params old new rows inside h = go h.0.returning h.2
  where
    go : (o : Option Returning) → ShowsRows old new sql h.0 (timed params h.0.formats h.1.now) rows o → KeepsCommit old new
    go None shows = record { was_open = λ _. shows.3.0.was_open; committed = λ _. shows.3.0.committed_is }
    go (Some what) shows = record { was_open = λ _. shows.1.shown.was_open; committed = λ _. rw inside at shows.1.shown.committed_is }

pub refused_commit : (sql : List ℕ) (params : Row) (old new : State) (e : Error) → FailsToQuery sql params old new e ⊎ IsTooLate sql params old new e → KeepsCommit old new
refused_commit sql params old new e (inl fails) = unchanged_keeps old new (refused_keeps sql params old new e fails)
refused_commit sql params old new e (inr (c, it, some, out, is, same)) = unchanged_keeps old new (inl same)

-- ---- rows that are gathered one at a time

not_both : (r : Result Compiled CompileError) → IsPlain r → Returns r → ⊥
not_both (Ok c) plain returns = true≢false (sym (subst IsSome plain.0 returns))
not_both (Err e) plain returns = plain

-- an answer that is read from a state to which nothing has changed
pub shown_since : (sql : List ℕ) (params : Row) (old mid new : State) (rows : List Row) → IsPlain (understood old.now.schema sql) → IsUnchanged old mid → Shown sql params mid new rows → Shown sql params old new rows
unfolding Shown
shown_since sql params old mid new rows plain same h =
    let is : understood old.now.schema sql ≡ Ok h.0 = subst (λ (d : Database). understood d.schema sql ≡ Ok h.0) same.0.now_is h.1.is in
    let none = (subst IsPlain is plain).0 in
    let full = timed params h.0.formats h.1.now in
    let it = subst (ShowsRows mid new sql h.0 full rows) none h.2 in
    let source = subst (λ (d : Database). IsSourceOf (reads_listing d.schema sql) d it.0) same.0.now_is it.1 in
    (h.0, record { is = is; whole = h.1.whole; given = h.1.given; now = h.1.now }, subst (ShowsRows old new sql h.0 full rows) (sym none) (it.0, source, it.2, unchanged_then old mid new same it.3))

pub keeps_unchanged : (old new : State) → IsUnchanged old new → Keeps old new
keeps_unchanged old new same now = (same.0.now_is, same.0.committed_is, same.0.was_open)

keeps_since : (old mid new : State) → IsUnchanged old mid → Keeps mid new → Keeps old new
keeps_since old mid new same keeps now = let kept = keeps now in (kept.0 ∙ same.0.now_is, kept.1 ∙ same.0.committed_is, same.0.was_open)

module _ {S : Type 0} (g : Ghosts S) (sql : List ℕ) (params : Row) (old : Held S)
    (plain : HasCleanDisk (state g old) → IsTrue (state g old).is_open → IsPlain (understood (state g old).now.schema sql)) where
  pub begun : (now : Held S) (AreMade : List Row → Type 0) → now.in_transaction ≡ false → Survives (state g old) (state g now) (CommitsShowing sql params (state g old))
      → (HasCleanDisk (state g now) → HasBegun g sql params old now) → AreMade [] → Gathering g sql params old now AreMade
  begun now AreMade mode survives begins none = record {
    mode = mode;
    survives = commits_nothing sql params _ _ plain survives;
    given = λ clean. first clean (begins clean);
  }
    where
      first : HasCleanDisk (state g now) → HasBegun g sql params old now → (rows : List Row) × HasGiven g sql params now rows × IsUnchanged (state g old) (state g now) × AreMade rows
      first clean (inl h) = ([], h.0, h.1, none)
      first clean (inr h) = absurd (not_both (understood old.schema sql) (plain (omega (arith, survives.clean)) (shown_open _ _ _ _ _ h.1)) h.0)

  module _ (rows left : Rows S g) (result : Result (Option (Bor Row)) Error) (moved : HasMoved g rows result left)
      (AreMade : List Row → Type 0) (so : Gathering g sql params old rows.conn.now AreMade) where
    clean_before : HasCleanDisk (state g left.conn.now) → HasCleanDisk (state g rows.conn.now)
    clean_before clean = omega (arith, moved.survives.clean, clean)

    pub moved_survives : Survives (state g old) (state g left.conn.now) (λ _. IsTrue (state g old).is_open → ⊥)
    moved_survives = survives_then _ _ _ _ _ _ (λ _ db h. h) (λ _ db h. absurd h) so.survives moved.survives

    pub one_row : (row : Bor Row) → result ≡ Ok (Some row) → (More : List Row → Type 0) → ((given : List Row) → AreMade given → More (given ++ row.now ∷ [])) → Gathering g sql params old left.conn.now More
    one_row row is More more = record {
      mode = moved.mode so.mode;
      survives = moved_survives;
      given = λ clean.
          let before = so.given (clean_before clean) in
          let goes : Advances g rows.conn.now left.conn.now (Some row.now) = subst (λ (r : Result (Option (Bor Row)) Error). IfOk r (λ o. Advances g rows.conn.now left.conn.now (option_copied o))) is (moved.ok clean) in
          let same : IsUnchanged (state g rows.conn.now) (state g left.conn.now) = subst (λ (r : Result (Option (Bor Row)) Error). OnOk r (IsUnchanged (state g rows.conn.now) (state g left.conn.now))) is (moved.same clean) in
          (before.0 ++ row.now ∷ [], goes sql params before.0 before.1, unchanged_then _ _ _ before.2 same, more before.0 before.3);
    }

    pub rows_shown : result ≡ Ok None → HasCleanDisk (state g left.conn.now) → (given : List Row) × Shown sql params (state g old) (state g left.conn.now) given × AreMade given
    rows_shown is clean =
        let before = so.given (clean_before clean) in
        let goes : Advances g rows.conn.now left.conn.now None = subst (λ (r : Result (Option (Bor Row)) Error). IfOk r (λ o. Advances g rows.conn.now left.conn.now (option_copied o))) is (moved.ok clean) in
        let known = plain (omega (arith, so.survives.clean, clean_before clean)) before.2.0.was_open in
        (before.0, shown_since sql params _ _ _ before.0 known before.2 (goes sql params before.0 before.1), before.3)

    pub moved_unchanged : (o : Option (Bor Row)) → result ≡ Ok o → HasCleanDisk (state g left.conn.now) → IsUnchanged (state g old) (state g left.conn.now)
    moved_unchanged o is clean =
        unchanged_then _ _ _ (so.given (clean_before clean)).2 (subst (λ (r : Result (Option (Bor Row)) Error). OnOk r (IsUnchanged (state g rows.conn.now) (state g left.conn.now))) is (moved.same clean))

    pub stopped_keeps : (e : Error) → result ≡ Err e → (IsTrue (state g old).is_open → (state g old).now ≡ (state g old).committed) → HasCleanDisk (state g left.conn.now) → Keeps (state g old) (state g left.conn.now)
    stopped_keeps e is settled clean =
        let before = so.given (clean_before clean) in
        let fails : FailsToAdvance g rows.conn.now left.conn.now e = subst (λ (r : Result (Option (Bor Row)) Error). IfErr r (FailsToAdvance g rows.conn.now left.conn.now)) is (moved.err clean) in
        let here = refused_keeps sql params (state g rows.conn.now) (state g left.conn.now) e (fails sql params before.0 before.1) in
        let still : IsTrue (state g rows.conn.now).is_open → (state g rows.conn.now).now ≡ (state g rows.conn.now).committed = λ is_open. before.2.0.now_is ∙ settled before.2.0.was_open ∙ sym before.2.0.committed_is in
        keeps_since (state g old) (state g rows.conn.now) (state g left.conn.now) before.2 (kept_either (state g rows.conn.now) (state g left.conn.now) still here)

-- ---- why the database refuses a call

-- a database that was shut refuses for that alone
pub unless_shut : {A : Type 0} (old new : State) → (IsBlamed old new → A) → (IsTrue old.is_open → A) → A
unless_shut {A} old new shut opened = by_open old.is_open refl
  where
    by_open : (o : Bool) → old.is_open ≡ o → A
    by_open false is = shut (inr (inl is))
    by_open true is = opened is

pub blamed_then : (a b c : State) (C D : _) → HasCleanDisk b → Survives a b C → Survives b c D → IsBlamed b c → IsBlamed a c
blamed_then a b c C D clean one two (inl more) = inl (omega (arith, one.counts, more))
blamed_then a b c C D clean one two (inr (inr limit)) = inr (inr (subst IsSome one.limit limit))
blamed_then a b c C D clean one two (inr (inl shut)) = go a.is_open refl
  where
    go : (o : Bool) → a.is_open ≡ o → IsBlamed a c
    go false is = inr (inl is)
    go true is = elim (one.closes clean is) [
      | inl is_open ↦ absurd (true≢false (sym is_open ∙ shut))
      | inr more ↦ inl (omega (arith, two.counts, more))
    ]

pub fails_blamed : (old new : State) (e : Error) → e ≢ SqliteFailure code.OutOfMemory → Fails old new ⊥ e → IsBlamed old new
fails_blamed old new e other h = go h.0 h.1 h.2
  where
    go : (cause : StoreError) → e ≡ store_error cause → HasCause old new ⊥ cause → IsBlamed old new
    go OutOfMemory is cause = absurd (other is)
    go Io is cause = inl cause
    go Corrupt is cause = inl cause
    go Full is cause = inl cause
    go Broken is cause = inr (inl cause)
    go Unstorable is cause = absurd cause

-- a query that is refused
pub query_blamed : (sql : List ℕ) (params : Row) (old new : State) (e : Error) → (IsTrue old.is_open → IsPlain (understood old.now.schema sql)) → e ≢ SqliteFailure code.OutOfMemory
    → FailsToQuery sql params old new e → IsBlamed old new ⊎ IsUnasked old sql params
unfolding FailsToQuery IsNotRun
query_blamed sql params old new e plain other (inl (inl none)) = inr (e, inl none.0)
query_blamed sql params old new e plain other (inl (inr fails)) = inl (fails_blamed old new e other fails)
query_blamed sql params old new e plain other (inr shows) = unless_shut old new inl (λ is. go shows.0.returning (subst IsPlain shows.1.is (plain is)).0 shows.2)
  where
    go : (o : Option Returning) → o ≡ None → FailsToShow old new sql shows.0 (timed params shows.0.formats shows.1.now) e o → IsBlamed old new ⊎ IsUnasked old sql params
    go None is h = inr (e, inr (shows.0, shows.1, h.0, h.1, h.2))
    go (Some what) is h = absurd cc

pub not_memory : (e : Error) → fault_of e ≡ fault.Refused → e ≢ SqliteFailure code.OutOfMemory
not_memory e is memory = absurd (let same = ap fault_of (sym memory) ∙ is in cc)

-- ---- a state to which nothing has changed

unasked_since : (old mid : State) (sql : List ℕ) (params : Row) → mid.now ≡ old.now → mid.step_limit ≡ old.step_limit → IsUnasked mid sql params → IsUnasked old sql params
unasked_since old mid sql params same limit (e, inl none) = (e, inl (subst (λ (d : Database). IsNoStatement (record mid { now = d }) sql params e) same none))
unasked_since old mid sql params same limit (e, inr (c, it, db, source, refuses)) = (
  e,
  inr (
    c,
    record { is = subst (λ (d : Database). understood d.schema sql ≡ Ok c) same it.is; whole = it.whole; given = it.given; now = it.now },
    db,
    subst (λ (d : Database). IsSourceOf (reads_listing d.schema sql) d db) same source,
    subst (λ l. RefusesToRead l c.command db (timed params c.formats it.now) e) limit refuses,
  ),
)

begins_since : (old new : State) (sql : List ℕ) (params : Row) (rows : List Row) → new.now ≡ old.now → Begins sql params new rows → Begins sql params old rows
unfolding Begins
begins_since old new sql params rows same (c, it, none, db, source, first) = (
  c,
  record { is = subst (λ (d : Database). understood d.schema sql ≡ Ok c) same it.is; whole = it.whole; given = it.given; now = it.now },
  none,
  db,
  subst (λ (d : Database). IsSourceOf (reads_listing d.schema sql) d db) same source,
  first,
)

module _ {S : Type 0} (g : Ghosts S) (sql : List ℕ) (params : Row) (old : Held S)
    (plain : HasCleanDisk (state g old) → IsTrue (state g old).is_open → IsPlain (understood (state g old).now.schema sql))
    (rows left : Rows S g) (result : Result (Option (Bor Row)) Error) (moved : HasMoved g rows result left)
    (AreMade : List Row → Type 0) (so : Gathering g sql params old rows.conn.now AreMade) where
  pub next_blamed : (e : Error) → result ≡ Err e → e ≢ SqliteFailure code.OutOfMemory → HasCleanDisk (state g left.conn.now) → IsBlamed (state g old) (state g left.conn.now) ⊎ IsUnasked (state g old) sql params
  next_blamed e is other clean =
      let clean_mid : HasCleanDisk (state g rows.conn.now) = omega (arith, moved.survives.clean, clean) in
      let clean_old : HasCleanDisk (state g old) = omega (arith, so.survives.clean, clean_mid) in
      let before = so.given clean_mid in
      let same = before.2.0.now_is in
      let fails : FailsToAdvance g rows.conn.now left.conn.now e = subst (λ (r : Result (Option (Bor Row)) Error). IfErr r (FailsToAdvance g rows.conn.now left.conn.now)) is (moved.err clean) in
      let here = query_blamed sql params (state g rows.conn.now) (state g left.conn.now) e
      (λ is_open. subst (λ (d : Database). IsPlain (understood d.schema sql)) (sym same) (plain clean_old before.2.0.was_open)) other (fails sql params before.0 before.1) in
      elim here [
        | inl blamed ↦ inl (blamed_then (state g old) (state g rows.conn.now) (state g left.conn.now) _ _ clean_mid so.survives moved.survives blamed)
        | inr unasked ↦ inr (unasked_since (state g old) (state g rows.conn.now) sql params same so.survives.limit unasked)
      ]

  pub row_untaken : (row : Bor Row) → result ≡ Ok (Some row) → (Takes : Row → Type 0) → (Takes row.now → ⊥) → HasCleanDisk (state g left.conn.now) → GivesUntaken (state g old) sql params Takes
  row_untaken row is Takes not clean =
      let clean_mid : HasCleanDisk (state g rows.conn.now) = omega (arith, moved.survives.clean, clean) in
      let before = so.given clean_mid in
      let goes : Advances g rows.conn.now left.conn.now (Some row.now) = subst (λ (r : Result (Option (Bor Row)) Error). IfOk r (λ o. Advances g rows.conn.now left.conn.now (option_copied o))) is (moved.ok clean) in
      let same = (moved_unchanged g sql params old plain rows left result moved AreMade so (Some row) is clean).0.now_is in
      (before.0, row.now, begins_since (state g old) (state g left.conn.now) sql params _ same (given_begin g sql params left.conn.now _ (goes sql params before.0 before.1)), not)
