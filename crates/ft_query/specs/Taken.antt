-- Steps. How many steps a call of a walk takes.
use Rattle.std.specs.Prelude.{◌≡◌, ℕ, ℤ, ◌+◌, ◌-◌, ◌^◌, ◌≤◌, min, List, Option, None, if◌then◌else◌, Result, OnOk}
use Rattle.ft_query.specs.declared.standing.Steps.{Steps}
use Rattle.ft_match.specs.Documents.{PlaceList, is_filled}

-- so many steps more, as a number of 64 bits that stays at its greatest value
abbrev pub more_steps : ℕ → Steps → ℕ
more_steps n steps = min (steps.taken + n) (2 ^ 64 - 1)

-- just so many
pub record TakesSteps (count : ℕ) (old new : Steps) : Type 0 where
  pub taken : new.taken ≡ more_steps count old
  pub at_least : old.taken ≤ new.taken
  pub at_most : new.taken ≤ old.taken + count

-- none or more, but at most so many
pub record TakesAtMost (most : ℕ) (old new : Steps) : Type 0 where
  pub at_least : old.taken ≤ new.taken
  pub at_most : new.taken ≤ old.taken + most

-- the same where of so many so many are left to take afterwards
pub record TakesOf (most left : ℕ) (old new : Steps) : Type 0 where
  pub at_least : old.taken ≤ new.taken
  pub at_most : new.taken + left ≤ old.taken + most

-- so many, or at most so many where no memory is left
pub record LooksForAll {X F : Type 0} (most : ℕ) (result : Result X F) (old new : Steps) : Type 0 where
  pub at_least : old.taken ≤ new.taken
  pub at_most : new.taken ≤ old.taken + most
  pub all : OnOk result (more_steps most old ≤ new.taken)

-- one where there is a next docid, and none where there is none and so no answer
pub record LooksForNext (lists : List PlaceList) (answer : Option ℤ) (old new : Steps) : Type 0 where
  pub taken : new.taken ≡ (if is_filled lists then more_steps 1 old else old.taken)
  pub at_least : old.taken ≤ new.taken
  pub at_most : new.taken ≤ old.taken + 1
  pub none : answer ≡ None → new.taken ≡ old.taken

-- the same of so many lists
pub record LooksAtAll (most : ℕ) (answer : Option ℤ) (old new : Steps) : Type 0 where
  pub at_least : old.taken ≤ new.taken
  pub at_most : new.taken ≤ old.taken + most
  pub none : answer ≡ None → new.taken ≡ old.taken
