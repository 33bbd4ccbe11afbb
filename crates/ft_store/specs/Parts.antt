-- Meaning. Row changes that come in parts. All of it is our own choice.
use Rattle.std.specs.Prelude.{◌≡◌, List, [], ◌∷◌, ◌++◌, map, Option, Some, None, Result, Ok, Err, Vec}
use Rattle.std.specs.declared.alloc.Global.{Global}
use Rattle.std.specs.declared.alloc.AllocError.{AllocError}
use Rattle.ft_values.specs.declared.rows.RowChange.{RowChange}
use Rattle.ft_rows.specs.Packed.{CanPack}
use Rattle.ft_rows.specs.Store.{Change, PutEntries}
use Rattle.ft_rows.specs.Changes.{shown_change}

-- the changes of some parts, in their order
abbrev pub changes_in : List (List Change) → List Change
changes_in [] = []
changes_in (part ∷ parts) = part ++ changes_in parts

-- what a call for the next part answers, and what it leaves to come
abbrev pub IsNext : List (List Change) → Result (Option (Vec RowChange Global)) AllocError → List (List Change) → Type 0
IsNext old (Ok (Some part)) new = old ≡ map shown_change part.items ∷ new
IsNext old (Ok None) new = old ≡ []
IsNext old (Err fault) new = Unit {0}

-- places that are put can be packed
abbrev pub CanMake : Change → Type 0
CanMake (PutEntries tab term docid spots) = CanPack spots
CanMake _ = Unit {0}
