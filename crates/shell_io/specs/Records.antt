-- Meaning. The records of an import: those that are not skipped, brought to the columns of its table, full-text or plain. Short ones are
-- filled with NULL and long ones cut, each with a warning (own choice).
use Rattle.std.specs.Prelude.{ℕ, ◌==◌, List, [], ◌∷◌, ◌++◌, length, map, take, drop, replicate, Option, Some, None, unwrap_or, if◌then◌else◌, codes, decimal}
use Rattle.std.specs.List.{enumerate_from, flat_map}

-- the records that are not skipped, each with its number, from 1
abbrev pub kept : Option ℕ → List (List (List ℕ)) → List (ℕ × List (List ℕ))
kept skip found = drop (unwrap_or skip 0) (enumerate_from 1 found)

abbrev pub records_in : List (ℕ × List (List ℕ)) → List (List (List ℕ))
records_in rows = map (λ r. r.1) rows

-- a record's fields in n columns: cut, or filled with none, which is NULL
abbrev pub fitted : ℕ → List (List ℕ) → List (Option (List ℕ))
fitted n fields = take n (map Some fields ++ replicate n None)

-- the line for a record that doesn't fit
abbrev pub warning : List ℕ → ℕ → ℕ × List (List ℕ) → List ℕ
warning file n record_at =
    if length record_at.1 == n then []
    else codes "Warning: " ++ (file ++ (codes ":" ++ (decimal record_at.0
    ++ (codes ": fields " ++ (decimal (length record_at.1) ++ (codes ", columns " ++ (decimal n ++ 10 ∷ [])))))))

-- the lines for those of the records that don't fit, each with its number
abbrev pub warnings : List ℕ → ℕ → List (ℕ × List (List ℕ)) → List ℕ
warnings file n records = flat_map (warning file n) records
