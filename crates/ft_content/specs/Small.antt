-- Steps. Names in small letters.
use Rattle.std.specs.Prelude.{◌≡◌, ℕ, List}
use Rattle.std.specs.BTreeSet.{BTreeSet, contains_text}
use Rattle.std.specs.List.{list_any}
use Rattle.std.specs.Str.{bytes_eq, str_to_ascii_lowercase}
use Rattle.std.specs.declared.string.String.{String}

-- the set has just these names, in small letters
pub record HasLowercase {Y : Type 0} (set : BTreeSet (String Y)) (names : List (List ℕ)) : Type 0 where
  pub has : (bytes : List ℕ) → contains_text set bytes ≡ list_any (λ n. bytes_eq (str_to_ascii_lowercase n) bytes) names
