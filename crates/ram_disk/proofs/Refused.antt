-- Why an open of two empty files in memory fails.
use Rattle.std.proofs.Common.{◌≡◌, ℕ, [], length, IsTrue, inl, inr, refl, sym, subst, ap}
use Rattle.std.proofs.lemmas.Bool.{and_from}
use Rattle.sqlite_disk.specs.declared.Disk.{Ghosts}
use Rattle.sqlite_disk.specs.declared.Files.{Files}
use Rattle.sqlite_disk.specs.declared.tally.Tally.{Tally}
use Rattle.sqlite_pool.specs.Pool as pool
use Rattle.sqlite_pool.proofs.StateLemmas.{clean_is}
use Rattle.sqlite_trees.specs.declared.error.StoreError.TheVariants.{Io}
use Rattle.sqlite_store.specs.Report.{named}
use Rattle.sqlite.specs.declared.file.Leftover.{Leftover}
use Rattle.sqlite.specs.declared.file.Leftover.TheVariants as left
use Rattle.sqlite.specs.declared.error.Error.{Error}
use Rattle.sqlite.specs.Opening.{FailsAs}
use Rattle.sqlite.specs.Files.{IsCleanLeft, FailsToOpenAs, FailsToOpenFiles, tally_left}
use Rattle.ram_disk.specs.Clean.{NeverLies}
use Rattle.ram_disk.specs.Refused.{LacksMemory}

-- no call of this disk fails for damage or for want of room
abbrev pub CatchesNone : {D : Type 0} → Ghosts D → Type 0
CatchesNone {D} g = (d : D) → g.tally_of d ≡ record { caught = 0; refused = 0 }

sorted : (old new : ℕ) (AtLimit Wanted : Type 0) (e : Error) → Wanted → FailsAs Io old new AtLimit Wanted e → LacksMemory e
sorted old new AtLimit Wanted e wanted (inl memory) = inl memory
sorted old new AtLimit Wanted e wanted (inr (inl refused)) = absurd (refused.1 wanted)
sorted old new AtLimit Wanted e wanted (inr (inr (inl io))) = inr (inl io.0)
sorted old new AtLimit Wanted e wanted (inr (inr (inr full))) = inr (inr full.0)

named_io : (a b : Tally) → a ≡ record { caught = 0; refused = 0 } → b ≡ record { caught = 0; refused = 0 } → named a b ≡ Io
named_io a b first second = rw (first, second) refl

module _ {D : Type 0} {g : Ghosts D} (honest : NeverLies g) (still : CatchesNone g) where
  left_is_clean : (rest : Leftover D g) → IsCleanLeft rest
  left_is_clean (left.Files files) = and_from _ _ (honest files.log) (honest files.db)
  left_is_clean (left.Unopened it) = subst IsTrue (sym (clean_is it.pool)) (and_from _ _ (honest (pool.files it.pool).0) (honest (pool.files it.pool).1))
  left_is_clean (left.Store it) = subst IsTrue (sym (clean_is it.pool)) (and_from _ _ (honest (pool.files it.pool).0) (honest (pool.files it.pool).1))

  none_caught : (rest : Leftover D g) → tally_left rest ≡ record { caught = 0; refused = 0 }
  none_caught (left.Files files) = rw (still files.log, still files.db) refl
  none_caught (left.Unopened it) = rw (still (pool.files it.pool).0, still (pool.files it.pool).1) refl
  none_caught (left.Store it) = rw (still (pool.files it.pool).0, still (pool.files it.pool).1) refl

  pub lacks_memory : (files : Files D) (rest : Leftover D g) (e : Error) → g.seen files.db ≡ [] → (IsCleanLeft rest → FailsToOpenFiles files rest e) → LacksMemory e
  lacks_memory files rest e none cause =
      let kind = named_io _ _ (none_caught (left.Files files)) (none_caught rest) in
      sorted _ _ _ _ e (inr (inl (inl (ap length none)))) (subst (λ k. FailsToOpenAs k files rest e) kind (cause (left_is_clean rest)))
