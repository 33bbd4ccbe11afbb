-- Meaning. The table of a name in a list of tables.
use Rattle.std.specs.Prelude.{◌≡◌, ◌⊎◌, ℕ, ℤ, true, not, if◌then◌else◌, filter, map, List, [], ◌∷◌, Option, Some, None, IsTrue, false}
use Rattle.std.specs.List.{find}
use Rattle.std.specs.Ordering.{int_cmp, int_eq, is_lt}
use Rattle.ft_values.specs.declared.fault.Fault.{Fault}
use Rattle.ft_values.specs.declared.fault.Fault.TheVariants as faults
use Rattle.ft_content.specs.Content.{same_name}
use Rattle.ft_content.specs.Views.{TableInfo}

abbrev pub info_named : List TableInfo → List ℕ → Option TableInfo
info_named tables name = find (λ (t : TableInfo). same_name t.name name) tables

-- it is in the list, and is sound
abbrev pub IsSoundNamed : List TableInfo → List ℕ → TableInfo → Type 0
IsSoundNamed tables name known = (info_named tables name ≡ Some known) × IsTrue known.sound

-- there is none, or it isn't sound
abbrev pub IsUnfit : List TableInfo → List ℕ → Fault → Type 0
IsUnfit tables name fault =
    ((fault ≡ faults.NoSuchTable) × (info_named tables name ≡ None))
    ⊎ ((fault ≡ faults.Unsound) × ((table : TableInfo) × (info_named tables name ≡ Some table) × (table.sound ≡ false)))

-- the tables with one more, in its place by its id
abbrev pub with_info : TableInfo → List TableInfo → List TableInfo
with_info table [] = table ∷ []
with_info table (t ∷ ts) = if is_lt (int_cmp table.id t.id) then (table ∷ t ∷ ts) else (t ∷ with_info table ts)

-- the tables without the one of an id
abbrev pub without_info : ℤ → List TableInfo → List TableInfo
without_info id tables = filter (λ (t : TableInfo). not (int_eq id t.id)) tables

-- the tables, the one of an id marked sound
abbrev pub sound_if : ℤ → TableInfo → TableInfo
sound_if id table = if int_eq id table.id then (record table { sound = true }) else table

abbrev pub with_sound : ℤ → List TableInfo → List TableInfo
with_sound id tables = map (sound_if id) tables
