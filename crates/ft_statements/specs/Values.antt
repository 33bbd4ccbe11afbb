-- Meaning. Numbers of a statement, within 64 bits (own choice).
use Rattle.std.specs.Prelude.{ℕ, ◌+◌, ◌-◌, ◌*◌, ◌^◌, nat_le, ℤ, pos, neg_ℤ, Bool, true, false, List, fold, Option, Some, None, if◌then◌else◌}
use Rattle.shell_text.specs.declared.words.SqlKind.TheVariants as kinds
use Rattle.ft_statements.specs.Words.{Token, token}

-- the number that digits write
abbrev pub digits_value : List ℕ → ℕ
digits_value digits = fold (λ n d. 10 * n + (d - 48)) 0 digits

abbrev pub number_of : Token → Option ℕ
number_of (token kinds.Number digits) = Some (digits_value digits)
number_of _ = None

-- the number with its sign, where it is within 64 bits
abbrev pub signed : Bool → ℕ → Option ℤ
signed true n = if nat_le n (2 ^ 63) then Some (neg_ℤ (pos n)) else None
signed false n = if nat_le n (2 ^ 63 - 1) then Some (pos n) else None
