-- Meaning. Names of tables and columns.
use Rattle.std.specs.Prelude.{ℕ, ℤ, Bool, false, ◌||◌, List, [], ◌∷◌, map, string_bytes}
use Rattle.std.specs.List.{list_any}
use Rattle.std.specs.Str.{str_eq_ignore_ascii_case}
use Rattle.ft_values.specs.declared.table.TableInfo.{TableInfo}

-- Names are compared without ASCII case (own choice, after SQLite's names).
abbrev pub same_name : List ℕ → List ℕ → Bool
same_name = str_eq_ignore_ascii_case

-- whether a name comes twice
abbrev pub repeats_name : List (List ℕ) → Bool
repeats_name [] = false
repeats_name (name ∷ names) = list_any (same_name name) names || repeats_name names

-- the names and the ids of tables
abbrev pub info_names : List TableInfo → List (List ℕ)
info_names tables = map (λ t. string_bytes t.name) tables

abbrev pub info_ids : List TableInfo → List ℤ
info_ids tables = map (λ t. t.id) tables
