-- Meaning. The parts of an import: the texts that are made for `sqlite`, the rows of a full-text table, and the delimiter ("Importing files
-- as CSV or other formats" of "Command Line Shell For SQLite"; that each record has its place in one command is an own choice).
use Rattle.std.specs.Prelude.{ℕ, Bool, ◌==◌, List, [], ◌∷◌, ◌++◌, map, replicate, Option, Some, None, if◌then◌else◌, codes, chars, encode_utf8}
use Rattle.std.specs.List.{flat_map}
use Rattle.shell_text.specs.Print.{Settings, is_csv_separator}
use Rattle.shell_text.specs.Words.{first_byte}
use Rattle.ft_values.specs.Cells.{Cell, Null, Text}
use Rattle.shell_io.specs.Records.{fitted}

-- ---- texts for sqlite

-- a character's bytes; a quotation mark is doubled ("SQLite Keywords")
abbrev pub doubled : ℕ → List ℕ
doubled c = if c == 0x22 then 0x22 ∷ 0x22 ∷ [] else encode_utf8 c

-- a name between quotation marks
abbrev pub identifier : List ℕ → List ℕ
identifier name = codes "\"" ++ (flat_map doubled (chars name) ++ codes "\"")

-- what stands for each, with a comma between each two
abbrev pub with_commas : {A : Type 0} → (A → List ℕ) → List A → List ℕ
with_commas f [] = []
with_commas f (x ∷ xs) = f x ++ flat_map (λ y. codes ", " ++ f y) xs

-- a statement that can be run where the table is there to be read
abbrev pub reading_of : List ℕ → List ℕ
reading_of name = codes "SELECT 1 FROM " ++ (identifier name ++ codes " LIMIT 1")

-- a statement that puts a row of so many values into the table
abbrev pub insert_text : List ℕ → ℕ → List ℕ
insert_text name n = codes "INSERT INTO " ++ (identifier name ++ (codes " VALUES (" ++ (with_commas (λ mark. mark) (replicate n (codes "?")) ++ codes ")")))

abbrev pub text_column : List ℕ → List ℕ
text_column column = identifier column ++ codes " TEXT"

-- a statement that makes the table, with columns of texts
abbrev pub create_text : List ℕ → List (List ℕ) → List ℕ
create_text name columns = codes "CREATE TABLE " ++ (identifier name ++ (codes " (" ++ (with_commas text_column columns ++ codes ")")))

-- ---- rows of a full-text table

-- a field as what a cell holds: its text, or NULL
abbrev pub field_cell : Option (List ℕ) → Cell
field_cell None = Null
field_cell (Some text) = Text text

-- a record as a row of n cells
abbrev pub row_cells : ℕ → List (List ℕ) → List Cell
row_cells n fields = map field_cell (fitted n fields)

-- ---- the delimiter

-- what parts fields: a comma where that is said, or else the separator, if it may part fields
abbrev pub delimiter_of : Bool → Settings → Option ℕ
delimiter_of csv settings = if csv then Some 0x2C else if is_csv_separator settings.separator then first_byte settings.separator else None
