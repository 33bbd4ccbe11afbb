-- Meaning. The grammar of full-text statements: which words spell which command. A section named in quotes is one of the SQLite document
-- "SQLite FTS3 and FTS4 Extensions"; what has none is our own choice, and so it is that just these forms are read. Tables are made and
-- dropped as in "Creating and Destroying FTS Tables", written as in "Populating FTS Tables", and read as in "Simple FTS Queries". Where one
-- of several forms is read, the first that the words have is taken.
use Prim.Native.String.{String}
use Rattle.std.specs.Prelude.{ℕ, ◌-◌, ◌^◌, nat_le, Bool, true, false, List, [], ◌∷◌, Option, Some, None, if◌then◌else◌, codes, ℤ}
use Rattle.std.specs.Str.{str_eq_ignore_ascii_case}
use Rattle.ft_values.specs.Cells.{Cell, Null, Int, Text}
use Rattle.ft_commands.specs.Command.{Command, Create, Drop, Insert, Update, Delete, Select, Rebuild, Check, Optimize, Filter, All}
use Rattle.ft_commands.specs.Command.{Docid, Match, Item, AllColumns, Named, OffsetsOf, Items, Counted, Listed}
use Rattle.ft_statements.specs.Forms.{Mark, Opens, Closes, Parts, Other, Form, means, one, ends, ◌&◌, ◌·◌, such, when, first, list, balanced, Has}
use Rattle.ft_statements.specs.Words.{Token, spells, name_of, literal_of}
use Rattle.ft_statements.specs.Values.{number_of, signed}
use Rattle.ft_statements.specs.Create.{Argument, Setting, Column, joined, tokenizer_of, settings_in, columns_in}

-- ---- single words

-- this keyword, in any case of ASCII letters, or this single character
abbrev pub spelled : List ℕ → Form Token (Unit {0})
spelled text = one (λ t. if spells text t then Some tt else None)

abbrev pub word : String → Form Token (Unit {0})
word text = spelled (codes text)

-- any word without marks, keywords too, or a quoted one
abbrev pub name : Form Token (List ℕ)
name = one name_of

-- between single quotes
abbrev pub text : Form Token (List ℕ)
text = one literal_of

-- digits
abbrev pub number : Form Token ℕ
number = one number_of

-- these, one after the other
abbrev pub words : List (List ℕ) → Form Token (Unit {0})
words [] = means tt
words (text ∷ texts) = spelled text · words texts

-- ---- words that may be missing, parentheses and lists

-- [words]          whether they stand there
abbrev pub may : List (List ℕ) → Form Token Bool
may texts = first (means true · words texts) (means false)

-- [word form]          and what its absence means
abbrev pub clause : {A : Type 0} → String → Form Token A → A → Form Token A
clause text form absent = when (spells (codes text)) (means (λ x. x) · word text & form) (means absent)

-- ( form )
abbrev pub parens : {A : Type 0} → Form Token A → Form Token A
parens form = means (λ x. x) · word "(" & form · word ")"

-- form {, form}
abbrev pub commas : {A : Type 0} → Form Token A → Form Token (List A)
commas form = list (spells (codes ",")) form

abbrev pub mark_of : Token → Mark
mark_of t = if spells (codes "(") t then Opens else if spells (codes ")") t then Closes else if spells (codes ",") t then Parts else Other

-- {word}          their parentheses are balanced, and a comma in them ends nothing
abbrev pub any_words : Form Token (List Token)
any_words = balanced mark_of

-- ---- values and filters

-- - | +          whether it is a minus; it may be missing
unfoldable pub minus : Form Token Bool
minus = when (spells (codes "-")) (means true · word "-") (when (spells (codes "+")) (means false · word "+") (means false))

-- [+ | -] number          within 64 bits
unfoldable pub integer : Form Token ℤ
integer = such (means signed & minus & number)

-- NULL | text | integer          (no other literals)
unfoldable pub value : Form Token Cell
value = first (means Null · word "NULL") (first (means Text & text) (means Int & integer))

-- docid | rowid          the two names of the docid ("Populating FTS Tables")
unfoldable pub key : Form Token (Unit {0})
key = first (word "docid") (word "rowid")

-- key = integer | name MATCH text          ("Simple FTS Queries")
unfoldable pub by_docid : Form Token Filter
by_docid = means Docid · key · word "=" & integer

unfoldable pub by_match : Form Token Filter
by_match = means Match & name · word "MATCH" & text

-- [WHERE filter]
unfoldable pub filter : Form Token Filter
filter = clause "WHERE" (first by_docid by_match) All

-- ---- CREATE VIRTUAL TABLE [IF NOT EXISTS] name USING name arguments

-- tokenize [=] word {word}          ("Tokenizers"; that the sign may be missing is our own choice)
unfoldable pub tokenizer : Form Token Argument
tokenizer = such (means tokenizer_of · word "tokenize" · may (codes "=" ∷ []) & any_words)

-- name = {word}          ("FTS4 Options")
unfoldable pub setting : Form Token Argument
setting = means (λ name value. Setting name (joined value)) & name · word "=" & any_words

-- (name | text) {word}          a column; what stands after its name is ignored
unfoldable pub column : Form Token Argument
column = means Column & first name text · any_words

unfoldable pub argument : Form Token Argument
argument = first tokenizer (first setting column)

-- [( [argument {, argument}] )]
unfoldable pub arguments : Form Token (List Argument)
arguments = when (spells (codes "(")) (parens (when (spells (codes ")")) (means []) (commas argument))) (means [])

unfoldable pub create : Form Token Command
create =
    means (λ new table kind given. Create table kind (settings_in given) (columns_in given) new) · word "CREATE" · word "VIRTUAL" · word "TABLE"
    & may (codes "IF" ∷ codes "NOT" ∷ codes "EXISTS" ∷ []) & name · word "USING" & name & arguments

-- ---- DROP TABLE [IF EXISTS] name

unfoldable pub drop_table : Form Token Command
drop_table = means (λ there table. Drop table there) · word "DROP" · word "TABLE" & may (codes "IF" ∷ codes "EXISTS" ∷ []) & name

-- ---- the end of a statement

-- [;]
unfoldable pub done : Form Token (Unit {0})
done = means tt · may (codes ";" ∷ []) · ends

-- ---- INSERT INTO name ( name ) VALUES ( text )          ("Special Commands For FTS3 and FTS4")

-- the word of a special command, in any case of ASCII letters
abbrev pub special_of : List ℕ → List ℕ → Option Command
special_of table word =
    if str_eq_ignore_ascii_case word (codes "rebuild") then Some (Rebuild table)
    else if str_eq_ignore_ascii_case word (codes "integrity-check") then Some (Check table)
    else if str_eq_ignore_ascii_case word (codes "optimize") then Some (Optimize table)
    else None

-- the one column is named as the table, and nothing but an end is after it
unfoldable pub special : Form Token Command
special =
    such (means (λ table column word. if str_eq_ignore_ascii_case column table then special_of table word else None)
    · word "INSERT" · word "INTO" & name & parens name · word "VALUES" & parens text · done)

-- ---- INSERT INTO name [( name {, name} )] VALUES row {, row}

unfoldable pub columns : Form Token (Option (List (List ℕ)))
columns = when (spells (codes "(")) (means Some & parens (commas name)) (means None)

-- ( value {, value} )
unfoldable pub row : Form Token (List Cell)
row = parens (commas value)

-- several rows in one statement are our own choice
unfoldable pub insert_rows : Form Token Command
insert_rows = means Insert · word "INSERT" · word "INTO" & name & columns · word "VALUES" & commas row

-- what spells a special command is no INSERT of a row
unfoldable pub insert : Form Token Command
insert = first special insert_rows

-- ---- UPDATE name SET set {, set} [WHERE filter], and DELETE FROM name [WHERE filter]

-- name = value
unfoldable pub set : Form Token (List ℕ × Cell)
set = means (λ name cell. (name, cell)) & name · word "=" & value

unfoldable pub update : Form Token Command
update = means Update · word "UPDATE" & name · word "SET" & commas set & filter

unfoldable pub delete : Form Token Command
delete = means Delete · word "DELETE" · word "FROM" & name & filter

-- ---- SELECT items FROM name [WHERE filter] [ORDER BY key [ASC]] [LIMIT n [OFFSET n]]

-- * | offsets ( name ) | name          ("Simple FTS Queries", "The Offsets Function")
unfoldable pub offsets : Form Token Item
offsets = means OffsetsOf · word "offsets" & parens name

unfoldable pub item : Form Token Item
item = first (means AllColumns · word "*") (first offsets (means Named & name))

-- count ( * ) | item {, item}          ("Introduction to FTS3 and FTS4")
unfoldable pub count_all : Form Token Items
count_all = means Counted · word "count" · parens (word "*")

unfoldable pub items : Form Token Items
items = first count_all (means Listed & commas item)

-- [ORDER BY key [ASC]]          the documents come by docid in any case
unfoldable pub order : Form Token (Unit {0})
order = clause "ORDER" (means tt · word "BY" · key · may (codes "ASC" ∷ [])) tt

-- number          less than 2 ^ 63, without a sign
unfoldable pub count : Form Token ℕ
count = such (means (λ n. if nat_le n (2 ^ 63 - 1) then Some n else None) & number)

-- [OFFSET n]
unfoldable pub offset : Form Token ℕ
offset = clause "OFFSET" count 0

-- [LIMIT n [OFFSET n]]          (no LIMIT n, n)
unfoldable pub limits : Form Token (Option ℕ × ℕ)
limits = clause "LIMIT" (means (λ limit offset. (Some limit, offset)) & count & offset) (None, 0)

unfoldable pub select : Form Token Command
select =
    means (λ items table filter limits. Select table items filter limits.0 limits.1)
    · word "SELECT" & items · word "FROM" & name & filter · order & limits

-- ---- a command, and a statement

-- any of these, by its first word
unfoldable pub command : Form Token Command
command =
    when (spells (codes "CREATE")) create
    (when (spells (codes "DROP")) drop_table
    (when (spells (codes "INSERT")) insert
    (when (spells (codes "UPDATE")) update
    (when (spells (codes "DELETE")) delete select))))

-- command [;]
unfoldable pub statement : Form Token Command
statement = command · done

-- all of the words
abbrev pub IsStatement : List Token → Command → Type 0
IsStatement ts c = Has statement ts c []
