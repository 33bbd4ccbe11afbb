-- The number of columns of a plain table.
use Rattle.std.proofs.Common.{◌≡◌, ◌+◌, ◌≤◌, ℕ, List, [], true, false, Option, Some, None, sym, ap, ◌∙◌, arith, inl, inr, is_ok}
use Rattle.std.proofs.lemmas.Bool.{cases_lt}
use Rattle.sqlite_trees.specs.declared.error.StoreError.{StoreError}
use Rattle.sqlite_trees.specs.declared.error.StoreError.TheVariants.{OutOfMemory, Io, Corrupt, Full, Broken, Unstorable}
use Rattle.sqlite.specs.Schema.{Schema}
use Rattle.sqlite_resolve.specs.declared.error.CompileError.{CompileError}
use Rattle.sqlite.specs.State.{IsNotRun}
use Rattle.sqlite.specs.declared.error.Error.TheVariants.{SqlInputError}
use Rattle.plain_sql.proofs.Common.{understood, State, IsUnchanged, store_error, HasColumns, IsOnlyBelow, takes_values}

no_input_error : (cause : StoreError) (f : CompileError) → SqlInputError f ≡ store_error cause → ⊥
no_input_error OutOfMemory f e = cc
no_input_error Io f e = cc
no_input_error Corrupt f e = cc
no_input_error Full f e = cc
no_input_error Broken f e = cc
no_input_error Unstorable f e = cc

-- a text that is no input of SQL is not understood, and changes nothing
pub not_understood : (old new : State) (text : List ℕ) (f : CompileError) → IsNotRun old new text [] (SqlInputError f) → (is_ok (understood old.now.schema text) ≡ false) × IsUnchanged old new
unfolding IsNotRun
not_understood old new text f (inl (inl bad, same)) = (ap is_ok bad.1, same)
not_understood old new text f (inl (inr (c, is, inl two), same)) = absurd (let e = two.1 in cc)
not_understood old new text f (inl (inr (c, is, inr (inl given)), same)) = absurd (let e = given.1 in cc)
not_understood old new text f (inl (inr (c, is, inr (inr timed)), same)) = absurd (let e = timed.1 in cc)
not_understood old new text f (inr fails) = absurd (no_input_error fails.0 f fails.1)

module _ (schema : Schema) (name : List ℕ) (count : ℕ) where
  unlike : (m : ℕ) → takes_values schema name count ≡ false → takes_values schema name m ≡ true → m ≡ count → ⊥
  unlike m none some same = let both : takes_values schema name count ≡ true = ap (takes_values schema name) (sym same) ∙ some in let e : true ≡ false = sym both ∙ none in cc

  -- the next number is not one of values that are taken
  pub skipped_number : (found : Option ℕ) → takes_values schema name count ≡ false → IsOnlyBelow schema name count found → IsOnlyBelow schema name (count + 1) found
  skipped_number None none h = λ m low high is. elim (cases_lt m count) [
    | inl below ↦ h m low below is
    | inr above ↦ unlike m none is (omega (arith, high, above))
  ]
  skipped_number (Some n) none h = (
    h.0,
    omega (arith, h.1),
    h.2,
    λ m low high is. elim (cases_lt m count) [
      | inl below ↦ h.3 m low below is
      | inr above ↦ absurd (unlike m none is (omega (arith, high, above)))
    ],
  )

  -- the next number is the first
  pub first_number : 1 ≤ count → takes_values schema name count ≡ true → IsOnlyBelow schema name count None → IsOnlyBelow schema name (count + 1) (Some count)
  first_number low some h = (
    low,
    omega arith,
    some,
    λ m least high is. elim (cases_lt m count) [
      | inl below ↦ absurd (h m least below is)
      | inr above ↦ omega (arith, high, above)
    ],
  )

  -- the next number is the second
  pub second_number : (k : ℕ) → 1 ≤ count → takes_values schema name count ≡ true → IsOnlyBelow schema name count (Some k) → count ≤ 100 → (n : ℕ) → HasColumns schema name n → ⊥
  second_number k low some h high n has =
      let one : k ≡ n = has.only k h.0 (omega (arith, h.1, high)) h.2 in
      let other : count ≡ n = has.only count low high some in
      omega (arith, one, other, h.1)

pub no_number : (schema : Schema) (name : List ℕ) → IsOnlyBelow schema name 101 None → (n : ℕ) → HasColumns schema name n → ⊥
no_number schema name h n has = h n has.least (let most = has.most in omega (arith, most)) has.takes

pub only_number : (schema : Schema) (name : List ℕ) (n : ℕ) → IsOnlyBelow schema name 101 (Some n) → HasColumns schema name n
only_number schema name n h = record { least = h.0; most = omega (arith, h.1); takes = h.2; only = λ m low high is. h.3 m low (omega (arith, high)) is }
