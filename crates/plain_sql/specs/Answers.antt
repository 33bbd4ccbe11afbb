-- Meaning. What is printed of the rows that `sqlite` answers ("Changing Output Formats" of "Command Line Shell For SQLite").
use Rattle.std.specs.Prelude.{ℕ, ◌+◌, Bool, true, false, List, [], ◌∷◌, ◌++◌, map, codes, decimal, if◌then◌else◌}
use Rattle.std.specs.List.{list_any}
use Rattle.std.specs.Str.{is_utf8}
use Rattle.sqlite_value.specs.Order.{Row}
use Rattle.sqlite_value.specs.declared.value.Value.{Value}
use Rattle.sqlite_value.specs.declared.value.Value.TheVariants as value
use Rattle.shell_text.specs.Print as print
use Rattle.shell_text.specs.Print.{Settings, PrintedTable, printed}
use Rattle.shell_io.specs.Outcomes.{Answer, says, blames}

abbrev pub is_float : Value → Bool
is_float (value.Real x) = true
is_float _ = false

-- a text that isn't UTF-8 is shown as its bytes (own choice)
abbrev pub words_or_blob : List ℕ → print.Value
words_or_blob bytes = if is_utf8 bytes then print.Words bytes else print.Blob bytes

-- a value that is shown; an answer with a float never is
abbrev pub printed_value : Value → print.Value
printed_value value.Null = print.Null
printed_value (value.Int n) = print.Integer n
printed_value (value.Real x) = print.Null
printed_value (value.Text bytes) = words_or_blob bytes
printed_value (value.Blob bytes) = print.Blob bytes

-- A column without a name, or whose name isn't UTF-8, is named by its place (own choice).
abbrev pub column_name : ℕ → List ℕ → List ℕ
column_name place [] = codes "column" ++ decimal place
column_name place (b ∷ bs) = if is_utf8 (b ∷ bs) then b ∷ bs else codes "column" ++ decimal place

-- the names of the columns from this place on
abbrev pub column_names : ℕ → List (List ℕ) → List (List ℕ)
column_names place [] = []
column_names place (name ∷ names) = column_name place name ∷ column_names (place + 1) names

abbrev pub answer_table : List (List ℕ) → List Row → PrintedTable
answer_table names rows = record { names = column_names 1 names; rows = map (map printed_value) rows }

-- whether an answer has a float
abbrev pub has_float : List Row → Bool
has_float rows = list_any (list_any is_float) rows

-- An answer with a float is refused before anything is printed (own choice).
abbrev pub row_print : Settings → List (List ℕ) → List Row → Answer
row_print settings names rows =
    if has_float rows then blames (codes "floating-point value in result") else says (printed settings (answer_table names rows))
