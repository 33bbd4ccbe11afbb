-- Databases that are opened, in memory or by a host.
use Rattle.std.proofs.Common.{◌≡◌, ◌≢◌, ◌⊎◌, ◌∙◌, ◌+◌, ℕ, Bool, true, List, [], length, map, Option, Some, String, string_bytes, Global, Ok, Err, inl, inr, refl, sym, ap, subst, arith}
use Rattle.std.specs.Prelude.{IsTrue, codes, is_ok, ◌&&◌}
use Rattle.std.proofs.lemmas.List.{length-append}
use Rattle.sqlite_disk.specs.declared.Disk as disk
use Rattle.sqlite_disk.specs.declared.Files.{Files}
use Rattle.ft_line.specs.declared.line.Line.{Line}
use Rattle.sqlite_store.specs.declared.store.FileStore.{FileStore}
use Rattle.sqlite.specs.Files.{image_of, over_files}
use Rattle.sqlite.specs.Held.{Held}
use Rattle.sqlite.specs.State.{HasCleanDisk}
use Rattle.shell_text.specs.Print.{Settings}
use Rattle.ft_store.specs.declared.fault.StoreFault.TheVariants as store
use Rattle.ft_store.specs.Kept.{StoreState, shows}
use Rattle.ft_calls.specs.Kept.{StoreHolds}
use Rattle.ft_files.specs.declared.databases.OpenFault.{OpenFault}
use Rattle.ft_files.specs.declared.databases.OpenFault.TheVariants as opening
use Rattle.ft_files.specs.Hosts.{IsLeft, Names, OpensBothIn, Stay, StayBut, files_in}
use Rattle.ft_files.specs.Opening.{OpensMemory, file_path, has_long_name, store_path}
use Rattle.ft_program.specs.Closed.{Closed, IsStoreLeft, RunsAndTells, RunsBoth, RunsOn, TellsClose}
use Rattle.ft_program.proofs.Reopening.{finds_left}
use Rattle.ft_program.specs.InFiles.{IsCause, RunsBeside, RunsInFiles}
use Rattle.ft_program.specs.Inputs.{NotOpened, Outputs, due}
use Rattle.ft_program.specs.Memory.{FromNothing, IsOfMemory, RunsIn, RunsLine}

-- over stores that are always clean an empty one is up
pub from_nothing : {D : Type 0} (g : disk.Ghosts D) (settings : Settings) (plain : Held (FileStore D g)) (store : StoreState (FileStore D g)) (tables texts : Closed D) (inputs : List (Option (List ℕ))) (old new : Outputs) (status : ℕ) →
    ((store : StoreState (FileStore D g)) → HasCleanDisk (shows over_files store)) → OpensMemory over_files over_files (Ok (plain, store)) → RunsOn settings plain store inputs tables texts old new status →
    ((why : OpenFault) × IsOfMemory why × NotOpened why old new status) ⊎ FromNothing g settings inputs old new status
from_nothing {D} g settings plain store tables texts inputs old new status always opens ran = go ran.runs
  where
    go : RunsBoth over_files over_files settings plain store inputs ran.plain_after ran.after old new status → ((why : OpenFault) × IsOfMemory why × NotOpened why old new status) ⊎ FromNothing g settings inputs old new status
    go (inl unread) = inl (opening.Store, inr refl, unread.told)
    go (inr (runs, held)) = inr (record {
      plain = plain;
      no_plain = opens.opened.0;
      store = store;
      no_store = opens.opened.1;
      runs = runs;
      kept = runs.kept [] (subst (λ v. StoreHolds v []) (sym opens.opened.1.empty) tt) (always runs.last.parts.full_text.store);
      tables = tables;
      texts = texts;
      closed = record {
        tables_left = subst (λ (p : Held (FileStore D g)). IsLeft p tables) held.plain_is ran.tables_left;
        texts_left = subst (λ (s : StoreState (FileStore D g)). IsStoreLeft s texts) held.store_is ran.texts_left;
      };
    })

-- what is told of the closes comes last
pub told_last : {D E : Type 0} {g : disk.Ghosts D} {h : disk.Ghosts E} (settings : Settings) (plain : Held (FileStore D g)) (store : StoreState (FileStore E h)) (inputs : List (Option (List ℕ))) (tables : Closed D) (texts : Closed E) (old mid new : Outputs) (ended status : ℕ) (is_closed : Bool) →
    RunsOn settings plain store inputs tables texts old mid ended → is_closed ≡ (is_ok tables && is_ok texts) → new.out ≡ mid.out → TellsClose is_closed mid.err new.err ended status → RunsAndTells settings plain store inputs tables texts old new status
told_last settings plain store inputs tables texts old mid new ended status is_closed runs is out told = record {
  mid = mid;
  ended = ended;
  runs = runs;
  out = out;
  told = subst (λ b. TellsClose b mid.err new.err ended status) is told;
}

-- the name of the store is another
longer : (path beside : List ℕ) → path ≡ beside → beside ≡ store_path path → ⊥
longer path beside same is = let count : length path ≡ length path + 5 = ap length (same ∙ is) ∙ length-append path (codes "-fts4") in absurd (omega (arith, count))

pub names_apart : (path tables texts : List ℕ) → tables ≡ file_path path → texts ≡ store_path (file_path path) → tables ≢ texts
names_apart path tables texts one other same = longer tables texts same (other ∙ ap store_path (sym one))

-- ---- a host

module _ {D : Type 0} (g : disk.Ghosts D) (tells : Bool) (path : List ℕ) (held left : Names) where
  -- no name is opened
  pub none_opened : (settings : Settings) (inputs : List (Option (List ℕ))) (old new : Outputs) (status : ℕ) (why : OpenFault) → (why ≡ opening.Database) ⊎ (why ≡ opening.Store) → NotOpened why old new status → (has_long_name path ≡ true → why ≡ opening.Database) → (IsTrue tells → Stay held left) →
      RunsInFiles g tells path held left settings inputs old new status
  none_opened settings inputs old new status why cause told long stay = (
    (
      (λ t other a b. stay t other),
      inl (record { why = why; cause = go cause; told = told; tables_left = λ t. inl (stay t (file_path path)); texts_left = λ t. inl (stay t (store_path (file_path path))) }),
    ),
    (λ is. (subst (λ w. NotOpened w old new status) (long is) told, stay)),
  )
    where
      go : (why ≡ opening.Database) ⊎ (why ≡ opening.Store) → IsCause g tells (file_path path) (store_path (file_path path)) held left why
      go (inl is) = inl is
      go (inr is) = inr (held (store_path (file_path path)), (λ t. refl), (store.Memory, is, inl (inl refl)))

  module _ (tables texts : List ℕ) (one : tables ≡ file_path path) (other : texts ≡ store_path (file_path path)) (short : has_long_name path ≡ true → ⊥) where
    named : (settings : Settings) (inputs : List (Option (List ℕ))) (old new : Outputs) (status : ℕ) → RunsBeside g tells tables texts held left settings inputs old new status → RunsInFiles g tells path held left settings inputs old new status
    named settings inputs old new status runs = (
      subst (λ b. RunsBeside g tells (file_path path) b held left settings inputs old new status) other (subst (λ p. RunsBeside g tells p texts held left settings inputs old new status) one runs),
      (λ is. absurd (short is)),
    )

    -- one of them is not
    pub one_refused : (settings : Settings) (inputs : List (Option (List ℕ))) (old new : Outputs) (status : ℕ) (why : OpenFault) → OpensBothIn g tells tables texts held left (Err why) → NotOpened why old new status → RunsInFiles g tells path held left settings inputs old new status
    one_refused settings inputs old new status why it told = named settings inputs old new status (it.others, inl (record { why = why; cause = it.refused; told = told; tables_left = it.plain_left; texts_left = it.store_left }))

    -- both are opened, and closed in the end
    pub from_files : (settings : Settings) (inputs : List (Option (List ℕ))) (old new : Outputs) (status : ℕ) (opened mid : Names) (plain : Held (FileStore D g)) (made : StoreState (FileStore D g)) (tables_closed texts_closed : Closed D) (tables_files texts_files : Files D) →
        OpensBothIn g tells tables texts held opened (Ok (plain, made)) → RunsAndTells settings plain made inputs tables_closed texts_closed old new status → tables_files ≡ files_in tables_closed → texts_files ≡ files_in texts_closed →
        (IsTrue tells → mid tables ≡ image_of g tables_files) → (IsTrue tells → StayBut tables opened mid) → (IsTrue tells → left texts ≡ image_of g texts_files) → (IsTrue tells → StayBut texts mid left) → RunsInFiles g tells path held left settings inputs old new status
    from_files settings inputs old new status opened mid plain made tables_closed texts_closed tables_files texts_files it runs tables_are texts_are tables_left first texts_left second =
        named settings inputs old new status (
          (λ t other a b. second t other b ∙ (first t other a ∙ it.others t other a b)),
          inr (record {
            tables = it.plain.0;
            tables_held = it.plain.1;
            plain = plain;
            tables_found = it.plain.2;
            texts = it.store.0;
            texts_held = it.store.1;
            store = made;
            texts_found = it.store.2;
            tables_closed = tables_closed;
            texts_closed = texts_closed;
            runs = runs;
            tables_left = λ t. second t tables (names_apart path tables texts one other) ∙ (tables_left t ∙ ap (λ (f : Files D). image_of g f) tables_are);
            texts_left = λ t. texts_left t ∙ ap (λ (f : Files D). image_of g f) texts_are;
            again = finds_left g;
          }),
        )

  -- a command line, with a FILE or with none
  pub of_the_line : (line : Line) (file : Option (String Global)) (given : List (String Global)) (standard : Option (List ℕ)) (old new : Outputs) (status : ℕ) → line.file ≡ file → given ≡ line.inputs.items →
      RunsIn g tells held left file line.settings (due (map string_bytes given) standard) old new status → RunsLine g tells held left line standard old new status
  of_the_line line file given standard old new status is same runs =
      subst (λ (f : Option (String Global)). RunsIn g tells held left f line.settings (due (map string_bytes line.inputs.items) standard) old new status) (sym is)
      (subst (λ (t : List (String Global)). RunsIn g tells held left file line.settings (due (map string_bytes t) standard) old new status) same runs)

  pub of_a_file : (line : Line) (file : String Global) (given : List (String Global)) (standard : Option (List ℕ)) (old new : Outputs) (status : ℕ) → line.file ≡ Some file → path ≡ string_bytes file → given ≡ line.inputs.items →
      RunsInFiles g tells path held left line.settings (due (map string_bytes given) standard) old new status → RunsLine g tells held left line standard old new status
  of_a_file line file given standard old new status is called same runs =
      of_the_line line (Some file) given standard old new status is same (subst (λ p. RunsInFiles g tells p held left line.settings (due (map string_bytes given) standard) old new status) called runs)
