-- Steps. Calls that change all or nothing.
use Rattle.std.specs.Prelude.{◌≡◌, Result, OnOk, OnErr}

-- what was there becomes this; after a fault it is as it was
pub record Becomes {A X F : Type 0} (told old new : A) (result : Result X F) : Type 0 where
  pub ok : OnOk result (new ≡ told)
  pub err : OnErr result (new ≡ old)
