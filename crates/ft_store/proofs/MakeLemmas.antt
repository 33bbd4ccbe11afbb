-- How the tables of a store are made.
use Rattle.std.proofs.Common.{Option, Some, None, true, ◌≡◌, ◌≢◌, inl, inr, ℕ, ◌+◌, ◌*◌, ◌^◌, ◌<◌, ◌≤◌, false, List, [], length, Ok, Err, refl, sym, ap, subst, ◌∙◌, arith, IsTrue, IsUtf8, true≢false, codes}
use Rattle.ft_store.proofs.Common.{AllByRecursion, Schema, Table, CreateTable, created, next_tree, Tally, Does, MakesTable, lacks_sequence}
use Rattle.ft_store.proofs.Common.{Error, SqliteFailure, is_formed, is_fit, table_reals, index_reals, all_has, value_cmp, everything, understood}
use Rattle.ft_store.proofs.Common.{Database, IsDatabase, State, Shows, Executes, ExecutesInside, mode_of, runs_as, Row}
use Rattle.ft_store.proofs.Common.{Text}
use Rattle.ft_store.proofs.Common.{all-append, all_both}
use Rattle.ft_store.proofs.Common.{Refusal, Violates}
use Rattle.sqlite.specs.declared.error.ErrorCode.TheVariants as code
use lib.Ieee
use lib.Utf8
use Rattle.sqlite_catalog.specs.declared.error.Refusal as alter
use Rattle.sqlite_catalog.specs.declared.error.Refusal.TheVariants as cause
use Rattle.sqlite_trees.specs.Sound as sound
use Rattle.std.proofs.lemmas.Str.{IsUtf8-from_is_utf8}
use Rattle.sqlite_catalog.specs.Calls.{RefusesTable}
use Rattle.sqlite_catalog.specs.Change.{is_used, is_reserved, automatics}
use Rattle.sqlite_resolve.specs.Compile.{table_defined_by}
use Rattle.sqlite.specs.State.{Writes}
use Rattle.ft_store.proofs.ChangeLemmas.{went, same_value}
use Rattle.ft_store.specs.Tables.{skip_table}
use Rattle.ft_store.proofs.Texts.{make_skip_text}
use Rattle.ft_store.specs.Made.{first_tables, IsAllowed, IsEmptyOf, MakesTableOf, MakesNext}
use Rattle.ft_store.specs.Calls.{HasOwnRowids}
use Rattle.ft_store.specs.Blame.{IsBlamed}
use Rattle.ft_store.proofs.BlameLemmas.{unless_shut}
use Rattle.ft_store.proofs.RefusedLemmas.{write_refused_as}

-- a table is there that has no row, and the others have their rows
pub record Creates (old now : Database) (tables : Schema) (table : Table) : Type 0 where
  pub schema : now.schema ≡ created tables table
  pub others : AllByRecursion (λ t. now.trees t.tree ≡ old.trees t.tree) tables.tables
  pub empty : now.trees (next_tree tables) ≡ []
  pub sound : IsDatabase now

pub creates : (old new : State) (text : List ℕ) (s : Schema) (table : Table) (count : ℕ) → MakesTableOf s text table → old.now.schema ≡ s → Executes text [] old new (Ok count) → Creates old.now new.now s table
creates old new text s table count made was h =
    let w = subst (λ t. Writes old new None CreateTable t [] count) made.whole (runs_as text [] old new s was CreateTable made.command made.plain count h) in
    let all = went w.changed in
    let first = went all.1 in
    let it = first.1 in
    let both : Ok it.table ≡ Ok table = sym it.defined ∙ made.defined in
    let same : it.table ≡ table = cc in
    let schema : first.0.schema ≡ created s table = it.is ∙ ap (λ d. created d it.table) was ∙ ap (created s) same in
    let plain : lacks_sequence first.0.schema ≡ false = ap lacks_sequence schema ∙ made.uncounted in
    let now : new.now ≡ first.0 = ap (λ (p : Tally × Database). p.1) (same_value all.2) ∙ same_value (rw plain at first.2) in
    subst (λ (d : Database). IsDatabase d → Creates old.now d s table) (sym now)
    (λ sound. record {
      schema = schema;
      others = subst (λ (d : Schema). AllByRecursion (λ t. first.0.trees t.tree ≡ old.now.trees t.tree) d.tables) was it.others;
      empty = subst (λ d. first.0.trees (next_tree d) ≡ []) was it.empty;
      sound = sound;
    }) w.sound

pub makes : (old new : State) (text : List ℕ) (s : Schema) (table : Table) (count : ℕ) → MakesTableOf s text table → IsEmptyOf s old.now → Executes text [] old new (Ok count) → IsEmptyOf (created s table) new.now
makes old new text s table count made was h =
    let it = creates old new text s table count made was.schema h in
    let kept = all_both (λ t. new.now.trees t.tree ≡ old.now.trees t.tree) (λ t. old.now.trees t.tree ≡ []) (λ (t : Table). new.now.trees t.tree ≡ []) (λ t e f. e ∙ f) s.tables it.others was.empty in
    record {
      schema = it.schema;
      empty = all-append (λ (t : Table). new.now.trees t.tree ≡ []) s.tables _ kept (it.empty, tt);
      sound = it.sound;
    }

-- no test refuses the table
never_refused : (s : Schema) (text : List ℕ) (table : Table) → MakesTableOf s text table → IsAllowed s text table → (why : alter.Refusal) → ¬ RefusesTable s text why
never_refused s text table made allowed why = go why
  where
    same : (t : Table) → table_defined_by text ≡ Ok t → table ≡ t
    same t is = same_value (sym made.defined ∙ is)

    go : (why : alter.Refusal) → ¬ RefusesTable s text why
    go (cause.Invalid e) h = absurd (let both = sym made.defined ∙ h in cc)
    go cause.NameTaken (t, is, inl used) = true≢false (sym used ∙ subst (λ t. is_used s t.name ≡ false) (same t is) allowed.free)
    go cause.NameTaken (t, is, inr (index, listed, used)) = true≢false (sym used ∙ all_has _ _ index (subst (λ t. AllByRecursion (λ i. is_used s i.name ≡ false) (automatics t 0 0 t.uniques)) (same t is) allowed.indexes) listed)
    go cause.BadName (t, is, inl no_text) = no_text (subst (λ t. IsUtf8 t.name) (same t is) allowed.utf8.1)
    go cause.BadName (t, is, inr reserved) = true≢false (sym reserved.0 ∙ subst (λ t. is_reserved t.name ≡ false) (same t is) allowed.unreserved)
    go cause.BadKey (t, is, odd) = true≢false (subst (λ t. true ≡ is_formed t) (same t is) (sym allowed.formed) ∙ odd)
    go cause.BadText (t, is, odd) = true≢false (subst (λ t. true ≡ is_fit (Text (codes "table")) (Text t.name) (Text t.name) (Text text)) (same t is) (sym allowed.fits) ∙ odd)
    go cause.TooBig (t, is, inl many) = let room = subst (λ t. next_tree s + length t.uniques < 65536) (same t is) allowed.room in omega (arith, room, many)
    go cause.TooBig (t, is, inr (inl wide)) = let narrow = subst (λ t. table_reals t < 2 ^ 64) (same t is) allowed.reals in omega (arith, narrow, wide)
    go cause.TooBig (t, is, inr (inr (key, listed, wide))) =
        let narrow = all_has _ _ key (subst (λ t. AllByRecursion (λ key. index_reals (table_reals t) key < 2 ^ 64) t.uniques) (same t is) allowed.key_reals) listed in omega (arith, narrow, wide)
    go (cause.Violates rule) h = h

never_stops : (s : Schema) (text : List ℕ) (table : Table) → MakesTableOf s text table → IsAllowed s text table → (db : Database) → db.schema ≡ s → (stop : Option Error) → ¬ MakesTable text db (Err stop)
never_stops s text table made allowed db has None (t, is, long) =
    let short = subst (λ t. 2 * length t.name + length text + 200 < 10 ^ 9) (same_value (sym made.defined ∙ is)) allowed.short in omega (arith, short, long)
never_stops s text table made allowed db has (Some e) (inl no_text) = no_text.0 allowed.utf8.0
never_stops s text table made allowed db has (Some e) (inr (why, refuses, is)) = never_refused s text table made allowed why (subst (λ d. RefusesTable d text why) has refuses)

-- such a text is refused only by what lies outside the database
pub create_blamed : (old new : State) (s : Schema) (text : List ℕ) (table : Table) → MakesTableOf s text table → IsAllowed s text table → (IsTrue old.is_open → old.now.schema ≡ s) → (e : Error) → e ≢ SqliteFailure code.OutOfMemory → ExecutesInside 0 text [] old new (Err e) → IsBlamed old new
create_blamed old new s text table made allowed kept e other ran = unless_shut old new (λ blamed. blamed) (λ is.
    elim (write_refused_as old new text [] (kept is) CreateTable made.command made.plain allowed.whole tt refl e other ran) [
      | inl blamed ↦ blamed
      | inr cant ↦ absurd (stopped (kept is) cant.0 (subst (λ t. Does old.step_limit (mode_of old) [] old.now t None CreateTable (Err cant.0)) made.whole cant.2))
    ])
  where
    stopped : old.now.schema ≡ s → (stop : Option Error) → ¬ Does old.step_limit (mode_of old) [] old.now text None CreateTable (Err stop)
    stopped has stop (inr (a, made_all, is)) = (let f = is in cc)
    stopped has stop (inl (one, inl (two, refuses, is), same)) = never_stops s text table made allowed old.now has two refuses
    stopped has stop (inl (one, inr (mid, it, sequence), same)) =
        let schema : mid.schema ≡ created s table = it.is ∙ ap (λ d. created d it.table) has ∙ ap (created s) (same_value (sym it.defined ∙ made.defined)) in
        let plain : lacks_sequence mid.schema ≡ false = ap lacks_sequence schema ∙ made.uncounted in
        let f = rw plain at sequence in cc

-- ---- the tables, one after the other

-- what the tests of such a text compute with
unfoldable pub tests_compute : Unit {0}
unfolding understood everything Rattle.std.specs.Str.is_utf8 Rattle.std.specs.Str.chars Rattle.std.specs.Fmt.digits sound.fits_kind sound.is_free_name sound.begins sound.same_name value_cmp lib.Ieee.is_nan lib.Ieee.lt lib.Utf8.encode
tests_compute = tt

pub makes_skip : MakesTableOf (first_tables 7) make_skip_text (skip_table 0)
unfolding tests_compute
makes_skip = record { command = refl; plain = (refl, refl); whole = refl; defined = refl; uncounted = refl }

pub allows_skip : IsAllowed (first_tables 7) make_skip_text (skip_table 0)
unfolding tests_compute
allows_skip = record {
  whole = refl;
  utf8 = (IsUtf8-from_is_utf8 _ refl, IsUtf8-from_is_utf8 _ refl);
  free = refl;
  indexes = (refl, tt);
  unreserved = refl;
  formed = refl;
  fits = refl;
  room = omega arith;
  reals = omega arith;
  key_reals = (omega arith, tt);
  short = omega arith;
}

pub next_last : (at : ℕ) → 7 ≤ at → at < 8 → MakesNext at make_skip_text
unfolding tests_compute
next_last at low below =
    let is : at ≡ 7 = omega (arith, low, below) in
    rw is (record { table = skip_table 0; makes = makes_skip; allowed = allows_skip; next = refl })

pub shows_then : (a b c : State) → Shows a b b.now a.committed true → Shows b c c.now b.committed true → Shows a c c.now a.committed true
shows_then a b c one two = record { was_open = one.was_open; is_open = two.is_open; now_is = refl; committed_is = two.committed_is ∙ one.committed_is; mode = two.mode }

pub own : {rows : List Row} → rows ≡ [] → HasOwnRowids rows
own e = subst HasOwnRowids (sym e) (tt, tt)
