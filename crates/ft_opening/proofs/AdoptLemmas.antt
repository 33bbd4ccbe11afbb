-- Why a database is not taken as a store; a query in a transaction that is undone changes nothing.
use Rattle.std.proofs.Common.{◌≡◌, ◌≢◌, ◌⊎◌, ◌∙◌, cond, ℕ, ◌+◌, Bool, true, false, [], Option, None, Result, Ok, Err, inl, inr, refl, sym, ap, subst, length, arith, IsTrue, Vec, IfOk, IfErr, OnErr}
use Rattle.ft_opening.proofs.Common.{Row, Schema, Select, Rows, Database, RefusesToRead, timed, understood, reads_listing, listing_schema, if_select}
use Rattle.ft_opening.proofs.Common.{is_select, State, FailsToQuery, FailsToShow, IsNotRun, IsNoStatement, IsTooLate, Error, Returning, everything}
use Rattle.ft_opening.proofs.Common.{Global, Shown, IsRolledBack, KeepsCommit, HasCleanDisk, Survives, Ghosts, Held, state}
use Rattle.sqlite_resolve.specs.Compile as compile
use Rattle.ft_store.specs.declared.fault.StoreFault.TheVariants as fault
use Rattle.sqlite.specs.Command.{Command}
use Rattle.sqlite_resolve.specs.declared.compiled.Compiled.{Compiled}
use Rattle.sqlite_resolve.specs.declared.error.CompileError.{CompileError}
use Rattle.sqlite_resolve.specs.declared.error.CompileError.TheVariants.{NoSuchTable}
use Rattle.sqlite_resolve.specs.Lowering.{Checked, and_then}
use Rattle.sqlite_resolve.specs.Compile.{compiled, planned, meaning, returning, first, command, small}
use Rattle.ft_opening.specs.Adopted.{version_query, error_cause, GivesVersion, IsAdoptFault, IsRefusable, IsNotTaken, no_schema}
use Rattle.ft_store.specs.Blame.{IsBlamed, Blames}
use Rattle.ft_store.proofs.{fails_blamed, refused_keeps, unchanged_keeps, shown_commit}
use Rattle.ft_store.specs.Calls.{IsPlainFault, Keeps}
use Rattle.ft_store.specs.declared.fault.StoreFault.{StoreFault}
use Rattle.ft_opening.specs.Older.{HasStoreTables}
use Rattle.ft_opening.specs.Taking.{IsJudged}

pub blamed_on : (a b c : State) (C : _) → IsBlamed a b → Survives b c C → IsBlamed a c
blamed_on a b c C (inl more) s = inl (omega (arith, s.counts, more))
blamed_on a b c C (inr other) s = inr other

-- ---- the question for the version shows no rows of a write

then_ok : {A B : Type 0} (r : Checked A) (f : A → Checked B) (b : B) → and_then r f ≡ Ok b → (a : A) × (r ≡ Ok a) × (f a ≡ Ok b)
then_ok (Ok a) f b h = (a, refl, h)
then_ok (Err e) f b h = absurd (let same = h in cc)

queried : (schema : Schema) (base : ℕ) → and_then (first version_query) (λ p. returning schema base p.statement) ≡ Ok None
unfolding everything
queried schema base = refl

same_ok : {A E : Type 0} {a b : A} → ◌≡◌ {A = Result A E} (Ok a) (Ok b) → a ≡ b
same_ok e = cc

compiles : (schema : Schema) (c : Compiled) → compiled schema version_query ≡ Ok c → c.returning ≡ None
unfolding compiled planned meaning
compiles schema c h =
    let read = then_ok (first version_query) _ c h in
    let plan = then_ok (planned schema read.0) _ c read.2 in
    let base = small read.0.names + small (compile.timed schema read.0.formats read.0.statement) in
    let found = then_ok (meaning schema read.0 base) _ plan.0 plan.1 in
    let shown = then_ok (returning schema base read.0.statement) _ found.0 found.1 in
    let ran = then_ok (command schema _ base read.0.statement) _ found.0 shown.2 in
    let none : ◌≡◌ {A = Checked (Option Returning)} (Ok shown.0) (Ok None) = sym shown.1 ∙ subst (λ r. and_then r (λ p. returning schema base p.statement) ≡ Ok None) read.1 (queried schema base) in
    ap (λ (c : Compiled). c.returning) (sym (same_ok plan.2)) ∙ ap (λ p. p.1.1) (sym (same_ok found.2)) ∙ ap (λ p. p.1) (sym (same_ok ran.2)) ∙ same_ok none

selected : (r : Result Compiled CompileError) (c : Compiled) → if_select r ≡ Ok c → r ≡ Ok c
selected (Err e) c h = absurd (let same = h in cc)
selected (Ok d) c h = go (is_select d.command) h
  where
    go : (b : Bool) → cond b (Ok d) (Err NoSuchTable) ≡ Ok c → ◌≡◌ {A = Result Compiled CompileError} (Ok d) (Ok c)
    go true h = h
    go false h = absurd (let same = h in cc)

no_returning : (schema : Schema) (c : Compiled) → understood schema version_query ≡ Ok c → c.returning ≡ None
unfolding understood
no_returning schema c h = go (reads_listing schema version_query) h
  where
    go : (b : Bool) → cond b (if_select (compiled listing_schema version_query)) (compiled schema version_query) ≡ Ok c → c.returning ≡ None
    go true h = compiles listing_schema c (selected _ c h)
    go false h = compiles schema c h

-- ---- an error that is told as a refusal comes of the disk, or of a database that was shut

unread : (limit : Option ℕ) (k : Command) (db : Database) (params : Row) (e : Error) → RefusesToRead limit k db params e → error_cause e ≢ fault.Refused
unread limit (Select q names) db params e (inl typed) is = absurd (let same = ap error_cause (sym typed.0) ∙ is in cc)
unread limit (Select q names) db params e (inr (inl over)) is = absurd (let same = ap error_cause (sym over.0) ∙ is in cc)
unread limit (Select q names) db params e (inr (inr limited)) is = absurd (let same = ap error_cause (sym limited.0) ∙ is in cc)
unread limit (Rows values width names) db params e limited is = absurd (let same = ap error_cause (sym limited.0) ∙ is in cc)
unread limit _ db params e bad is = absurd (let same = ap error_cause (sym bad) ∙ is in cc)

none_asked : (s : State) (e : Error) → IsNoStatement s version_query [] e → error_cause e ≢ fault.Refused
none_asked s e (inl bad) is = absurd (let same = ap error_cause (sym bad.2) ∙ is in cc)
none_asked s e (inr (c, known, inl more)) is = absurd (let same = ap error_cause (sym more.1) ∙ is in cc)
none_asked s e (inr (c, known, inr (inl count))) is = absurd (let same = ap error_cause (sym count.1) ∙ is in cc)
none_asked s e (inr (c, known, inr (inr clock))) is = absurd (let same = ap error_cause (sym clock.1) ∙ is in cc)

pub error_blamed : (old new : State) (e : Error) → FailsToQuery version_query [] old new e ⊎ IsTooLate version_query [] old new e → error_cause e ≡ fault.Refused → IsBlamed old new
unfolding FailsToQuery IsNotRun
error_blamed old new e (inr late) is = absurd (let same = ap error_cause (sym late.4) ∙ is in cc)
error_blamed old new e (inl (inl (inl none))) is = absurd (none_asked old e none.0 is)
error_blamed old new e (inl (inl (inr fails))) is = fails_blamed old new e (λ memory. absurd (let same = ap error_cause (sym memory) ∙ is in cc)) fails
error_blamed old new e (inl (inr (c, it, shows))) is =
    let none = no_returning old.now.schema c it.is in
    let refuses = subst (FailsToShow old new version_query c (timed [] c.formats it.now) e) none shows in
    absurd (unread old.step_limit c.command refuses.0 _ e refuses.2 is)

-- ---- a query that is undone

gives_keeps : (old new : State) (result : Result (Vec Row Global) Error) → old.in_transaction ≡ true → GivesVersion old new result → KeepsCommit old new
gives_keeps old new (Ok rows) inside h = shown_commit version_query _ old new rows.items inside h
gives_keeps old new (Err e) inside (inl fails) = unchanged_keeps old new (refused_keeps version_query _ old new e fails)
gives_keeps old new (Err e) inside (inr late) = unchanged_keeps old new (inl late.5)

pub undone_keeps : (old begun mid new : State) (result : Result (Vec Row Global) Error) → (IsTrue old.is_open → old.now ≡ old.committed) → (IsTrue begun.is_open → IsTrue old.is_open) → begun.committed ≡ old.committed → begun.in_transaction ≡ true
    → GivesVersion begun mid result → IsRolledBack mid new → Keeps old new
undone_keeps old begun mid new result settled was same inside gives back is_open =
    let keeps = gives_keeps begun mid result inside gives in
    let undone = back.undone is_open in
    let open_mid = back.was_open is_open in
    let open_old = was (keeps.was_open open_mid) in
    let last = keeps.committed open_mid ∙ same in
    (undone.0 ∙ last ∙ sym (settled open_old), undone.1 ∙ last, open_old)

pub gives_of : (old new : State) (result : Result (Vec Row Global) Error) → IfOk result (λ rows. Shown version_query [] old new rows.items) → IfErr result (λ e. FailsToQuery version_query [] old new e ⊎ IsTooLate version_query [] old new e) → GivesVersion old new result
gives_of old new (Ok rows) ok err = ok
gives_of old new (Err e) ok err = err

not_bare : (schema : Schema) → HasStoreTables schema → schema ≡ no_schema → ⊥
not_bare schema (inl is) none = omega (arith, ap (λ (s : Schema). length s.tables) (sym is ∙ none))
not_bare schema (inr is) none = omega (arith, ap (λ (s : Schema). length s.tables) (sym is ∙ none))

pub err_too : {A E K : Type 0} (r : Result A E) → K → OnErr r K
err_too (Ok a) k = tt
err_too (Err e) k = k

pub not_taken : {S : Type 0} (g : Ghosts S) (old new : Held S) (result : Result (Unit {0}) StoreFault) → HasStoreTables old.schema
    → (HasCleanDisk (state g new) → OnErr result (Keeps (state g old) (state g new))) → new.in_transaction ≡ false → IfErr result IsAdoptFault
    → (HasCleanDisk (state g new) → IsJudged (state g old).now.trees result) → (HasCleanDisk (state g new) → result ≡ Err fault.Refused → IsBlamed (state g old) (state g new) ⊎ IsRefusable g old)
    → IfErr result (IsNotTaken g old new)
not_taken g old new (Ok done) tables kept settled kind judged blames = tt
not_taken g old new (Err e) tables kept settled kind judged blames = record {
  kept = kept;
  settled = settled;
  kind = kind;
  bare = λ none. absurd (not_bare old.schema tables none);
  unmarked = λ clean ours is. (judged clean).unmarked (ap Err is);
  version = λ clean n ours is. (judged clean).version n (ap Err is);
  other = λ some others unnamed. absurd (others tables);
  told = λ clean some others named. absurd (others tables);
  blames = λ clean is. blames clean (ap Err is);
}

pub not_made : {S : Type 0} (g : Ghosts S) (old new : Held S) (result : Result (Unit {0}) StoreFault) → old.schema ≡ no_schema
    → (HasCleanDisk (state g new) → OnErr result (Keeps (state g old) (state g new))) → new.in_transaction ≡ false → IfErr result IsPlainFault → Blames (state g old) (state g new) result → IfErr result (IsNotTaken g old new)
not_made g old new (Ok done) bare kept settled plain blames = tt
not_made g old new (Err e) bare kept settled plain blames = record {
  kept = kept;
  settled = settled;
  kind = inl plain;
  bare = λ none. plain;
  unmarked = λ clean tables is. absurd (not_bare old.schema tables bare);
  version = λ clean n tables is. absurd (not_bare old.schema tables bare);
  other = λ some others unnamed. absurd (some bare);
  told = λ clean some others named. absurd (some bare);
  blames = λ clean is. inl (blames clean (ap Err is));
}
