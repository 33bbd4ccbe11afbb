-- Worked statements, computed. By the law of statements each has the class that is computed.
use Rattle.std.proofs.Common.{◌≡◌, refl, [], ◌∷◌, codes, Some, None, true, false, pos, negsuc, encode_utf8_all}
use Rattle.std.specs.Str.{chars}
use Rattle.shell_text.specs.Words.{pieces_from, turn, begun}
use Rattle.ft_values.specs.Cells.{Null, Int, Text}
use Rattle.ft_commands.specs.Command.{All, Docid, Match, AllColumns, Named, OffsetsOf, Counted, Listed, Create, Drop, Insert, Update, Delete, Select, Rebuild, Check}
use Rattle.ft_statements.proofs.Common.{sql_tokens, Plain, FullText, asks, made_name}
use Rattle.ft_statements.specs.Statements.{class_of, spelled_command}
use Rattle.ft_statements.specs.Plain.{temporary}
use Rattle.ft_statements.specs.Grammar as forms
use lib.Utf8

-- all forms
abbrev pub all_forms : Unit {0}
unfolding spelled_command forms.statement forms.command forms.done forms.create forms.tokenizer forms.setting forms.column forms.argument forms.arguments forms.drop_table forms.insert forms.special forms.insert_rows forms.columns forms.row forms.update forms.set forms.delete forms.select forms.items forms.count_all forms.item forms.offsets forms.order forms.limits forms.offset forms.count forms.filter forms.by_docid forms.by_match forms.key forms.value forms.integer forms.minus
all_forms = tt

pub create_fts5 : class_of (codes "x" ∷ codes "mail" ∷ codes "d" ∷ []) (sql_tokens (codes "CREATE VIRTUAL TABLE x USING fts5(a);")) ≡ Some (FullText (Create (codes "x") (codes "fts5") [] (codes "a" ∷ []) false))
unfolding pieces_from turn begun chars lib.Utf8.encode class_of all_forms
create_fts5 = refl

pub create_porter : class_of (codes "x" ∷ codes "mail" ∷ codes "d" ∷ []) (sql_tokens (codes "CREATE VIRTUAL TABLE x USING fts4(a, tokenize=porter);")) ≡ Some (FullText (Create (codes "x") (codes "fts4") ((codes "tokenize", codes "porter") ∷ []) (codes "a" ∷ []) false))
unfolding pieces_from turn begun chars lib.Utf8.encode class_of all_forms
create_porter = refl

pub create_tokenize_words : class_of (codes "x" ∷ codes "mail" ∷ codes "d" ∷ []) (sql_tokens (codes "create virtual table if not exists \"y\"\"z\" using FTS4(tokenize simple 'x' \"p q\");")) ≡ Some (FullText (Create (codes "y\"z") (codes "FTS4") ((codes "tokenize", codes "simple x p q") ∷ []) [] true))
unfolding pieces_from turn begun chars lib.Utf8.encode class_of all_forms
create_tokenize_words = refl

pub create_prefix : class_of (codes "x" ∷ codes "mail" ∷ codes "d" ∷ []) (sql_tokens (codes "CREATE VIRTUAL TABLE x USING fts4(a, prefix=\"2\");")) ≡ Some (FullText (Create (codes "x") (codes "fts4") ((codes "prefix", codes "2") ∷ []) (codes "a" ∷ []) false))
unfolding pieces_from turn begun chars lib.Utf8.encode class_of all_forms
create_prefix = refl

pub create_types : class_of (codes "x" ∷ codes "mail" ∷ codes "d" ∷ []) (sql_tokens (codes "CREATE VIRTUAL TABLE x USING fts4(a TEXT NOT NULL, b CHECK(length(b)<9));")) ≡ Some (FullText (Create (codes "x") (codes "fts4") [] (codes "a" ∷ codes "b" ∷ []) false))
unfolding pieces_from turn begun chars lib.Utf8.encode class_of all_forms
create_types = refl

-- commas in parentheses end no argument
pub create_decimal : class_of (codes "x" ∷ codes "mail" ∷ codes "d" ∷ []) (sql_tokens (codes "CREATE VIRTUAL TABLE x USING fts4([a b] DECIMAL(10, 2), 'c')")) ≡ Some (FullText (Create (codes "x") (codes "fts4") [] (codes "a b" ∷ codes "c" ∷ []) false))
unfolding pieces_from turn begun chars lib.Utf8.encode class_of all_forms
create_decimal = refl

pub create_not_indexed : class_of [] (sql_tokens (codes "CREATE VIRTUAL TABLE n USING fts4(a, b, notindexed=b, NotIndexed=[a b] c)")) ≡ Some (FullText (Create (codes "n") (codes "fts4") ((codes "notindexed", codes "b") ∷ (codes "NotIndexed", codes "a b c") ∷ []) (codes "a" ∷ codes "b" ∷ []) false))
unfolding pieces_from turn begun chars lib.Utf8.encode class_of all_forms
create_not_indexed = refl

-- nothing is doubled between square brackets
pub create_bracket : class_of [] (sql_tokens (codes "CREATE VIRTUAL TABLE [a[[b] USING fts4")) ≡ Some (FullText (Create (codes "a[[b") (codes "fts4") [] [] false))
unfolding pieces_from turn begun chars lib.Utf8.encode class_of all_forms
create_bracket = refl

pub create_none : class_of (codes "x" ∷ codes "mail" ∷ codes "d" ∷ []) (sql_tokens (codes "CREATE VIRTUAL TABLE d USING fts4;")) ≡ Some (FullText (Create (codes "d") (codes "fts4") [] [] false))
unfolding pieces_from turn begun chars lib.Utf8.encode class_of all_forms
create_none = refl

pub create_empty : class_of (codes "x" ∷ codes "mail" ∷ codes "d" ∷ []) (sql_tokens (codes "CREATE VIRTUAL TABLE docs USING fts4();")) ≡ Some (FullText (Create (codes "docs") (codes "fts4") [] [] false))
unfolding pieces_from turn begun chars lib.Utf8.encode class_of all_forms
create_empty = refl

pub create_comma : class_of (codes "x" ∷ codes "mail" ∷ codes "d" ∷ []) (sql_tokens (codes "CREATE VIRTUAL TABLE docs USING fts4(a,);")) ≡ None
unfolding pieces_from turn begun chars lib.Utf8.encode class_of all_forms
create_comma = refl

pub create_unbalanced : class_of (codes "x" ∷ codes "mail" ∷ codes "d" ∷ []) (sql_tokens (codes "CREATE VIRTUAL TABLE docs USING fts4(a));")) ≡ None
unfolding pieces_from turn begun chars lib.Utf8.encode class_of all_forms
create_unbalanced = refl

-- without a word after the sign it is a setting, without a sign a column
pub create_tokenize_empty : class_of (codes "x" ∷ codes "mail" ∷ codes "d" ∷ []) (sql_tokens (codes "CREATE VIRTUAL TABLE x USING fts4(tokenize=, tokenize)")) ≡ Some (FullText (Create (codes "x") (codes "fts4") ((codes "tokenize", []) ∷ []) (codes "tokenize" ∷ []) false))
unfolding pieces_from turn begun chars lib.Utf8.encode class_of all_forms
create_tokenize_empty = refl

pub create_open : class_of (codes "x" ∷ codes "mail" ∷ codes "d" ∷ []) (sql_tokens (codes "CREATE VIRTUAL TABLE docs USING fts4(a(b);")) ≡ None
unfolding pieces_from turn begun chars lib.Utf8.encode class_of all_forms
create_open = refl

pub insert : class_of (codes "x" ∷ codes "mail" ∷ codes "d" ∷ []) (sql_tokens (codes "INSERT INTO x VALUES('p');")) ≡ Some (FullText (Insert (codes "x") None ((Text (codes "p") ∷ []) ∷ [])))
unfolding pieces_from turn begun chars lib.Utf8.encode class_of all_forms
insert = refl

pub insert_columns : class_of (codes "x" ∷ codes "mail" ∷ codes "d" ∷ []) (sql_tokens (codes "INSERT INTO X(docid, rowid, a) VALUES(1, -2, 'p'),(NULL,+3,'it''s');")) ≡ Some (FullText (Insert (codes "X") (Some (codes "docid" ∷ codes "rowid" ∷ codes "a" ∷ [])) ((Int (pos 1) ∷ Int (negsuc 1) ∷ Text (codes "p") ∷ []) ∷ (Null ∷ Int (pos 3) ∷ Text (codes "it's") ∷ []) ∷ [])))
unfolding pieces_from turn begun chars lib.Utf8.encode class_of all_forms
insert_columns = refl

pub insert_least : class_of (codes "x" ∷ codes "mail" ∷ codes "d" ∷ []) (sql_tokens (codes "INSERT INTO d VALUES(-9223372036854775808)")) ≡ Some (FullText (Insert (codes "d") None ((Int (negsuc 9223372036854775807) ∷ []) ∷ [])))
unfolding pieces_from turn begun chars lib.Utf8.encode class_of all_forms
insert_least = refl

pub insert_large : class_of (codes "x" ∷ codes "mail" ∷ codes "d" ∷ []) (sql_tokens (codes "INSERT INTO d VALUES(9223372036854775808)")) ≡ None
unfolding pieces_from turn begun chars lib.Utf8.encode class_of all_forms
insert_large = refl

pub insert_select : class_of (codes "x" ∷ codes "mail" ∷ codes "d" ∷ []) (sql_tokens (codes "INSERT INTO d SELECT a FROM p")) ≡ None
unfolding pieces_from turn begun chars lib.Utf8.encode class_of all_forms
insert_select = refl

pub rebuild : class_of (codes "x" ∷ codes "mail" ∷ codes "d" ∷ []) (sql_tokens (codes "INSERT INTO d(d) VALUES('Rebuild');")) ≡ Some (FullText (Rebuild (codes "d")))
unfolding pieces_from turn begun chars lib.Utf8.encode class_of all_forms
rebuild = refl

pub not_special : class_of (codes "x" ∷ codes "mail" ∷ codes "d" ∷ []) (sql_tokens (codes "INSERT INTO d(d) VALUES('merge=1,2');")) ≡ Some (FullText (Insert (codes "d") (Some (codes "d" ∷ [])) ((Text (codes "merge=1,2") ∷ []) ∷ [])))
unfolding pieces_from turn begun chars lib.Utf8.encode class_of all_forms
not_special = refl

-- two rows are no special command
pub special_rows : class_of (codes "x" ∷ codes "mail" ∷ codes "d" ∷ []) (sql_tokens (codes "INSERT INTO d(d) VALUES('optimize'), ('optimize')")) ≡ Some (FullText (Insert (codes "d") (Some (codes "d" ∷ [])) ((Text (codes "optimize") ∷ []) ∷ (Text (codes "optimize") ∷ []) ∷ [])))
unfolding pieces_from turn begun chars lib.Utf8.encode class_of all_forms
special_rows = refl

-- any Word is a name where a name is wanted
pub update : class_of (codes "x" ∷ codes "mail" ∷ codes "d" ∷ []) (sql_tokens (codes "UPDATE d SET x='green', where = NULL WHERE docid=-1;")) ≡ Some (FullText (Update (codes "d") ((codes "x", Text (codes "green")) ∷ (codes "where", Null) ∷ []) (Docid (negsuc 0))))
unfolding pieces_from turn begun chars lib.Utf8.encode class_of all_forms
update = refl

pub update_open : class_of (codes "x" ∷ codes "mail" ∷ codes "d" ∷ []) (sql_tokens (codes "UPDATE d SET x=1,")) ≡ None
unfolding pieces_from turn begun chars lib.Utf8.encode class_of all_forms
update_open = refl

pub delete : class_of (codes "x" ∷ codes "mail" ∷ codes "d" ∷ []) (sql_tokens (codes "DELETE FROM d WHERE x MATCH 'red';")) ≡ Some (FullText (Delete (codes "d") (Match (codes "x") (codes "red"))))
unfolding pieces_from turn begun chars lib.Utf8.encode class_of all_forms
delete = refl

pub delete_or : class_of (codes "x" ∷ codes "mail" ∷ codes "d" ∷ []) (sql_tokens (codes "DELETE FROM d WHERE docid=1 OR docid=2;")) ≡ None
unfolding pieces_from turn begun chars lib.Utf8.encode class_of all_forms
delete_or = refl

pub select_nope : class_of (codes "x" ∷ codes "mail" ∷ codes "d" ∷ []) (sql_tokens (codes "SELECT nope FROM x;")) ≡ Some (FullText (Select (codes "x") (Listed (Named (codes "nope") ∷ [])) All None 0))
unfolding pieces_from turn begun chars lib.Utf8.encode class_of all_forms
select_nope = refl

pub select_offsets : class_of (codes "x" ∷ codes "mail" ∷ codes "d" ∷ []) (sql_tokens (codes "SELECT docid, offsets(mail), * FROM mail WHERE mail MATCH 'world' ORDER BY rowid ASC LIMIT 2 OFFSET 1;")) ≡ Some (FullText (Select (codes "mail") (Listed (Named (codes "docid") ∷ OffsetsOf (codes "mail") ∷ AllColumns ∷ [])) (Match (codes "mail") (codes "world")) (Some 2) 1))
unfolding pieces_from turn begun chars lib.Utf8.encode class_of all_forms
select_offsets = refl

pub select_two : class_of (codes "x" ∷ codes "mail" ∷ codes "d" ∷ []) (sql_tokens (codes "SELECT a FROM x, x;")) ≡ None
unfolding pieces_from turn begun chars lib.Utf8.encode class_of all_forms
select_two = refl

pub select_count : class_of (codes "x" ∷ codes "mail" ∷ codes "d" ∷ []) (sql_tokens (codes "SELECT count(*) FROM d LIMIT 0")) ≡ Some (FullText (Select (codes "d") Counted All (Some 0) 0))
unfolding pieces_from turn begun chars lib.Utf8.encode class_of all_forms
select_count = refl

pub select_count_column : class_of (codes "x" ∷ codes "mail" ∷ codes "d" ∷ []) (sql_tokens (codes "SELECT count, from FROM d")) ≡ Some (FullText (Select (codes "d") (Listed (Named (codes "count") ∷ Named (codes "from") ∷ [])) All None 0))
unfolding pieces_from turn begun chars lib.Utf8.encode class_of all_forms
select_count_column = refl

pub select_count_more : class_of (codes "x" ∷ codes "mail" ∷ codes "d" ∷ []) (sql_tokens (codes "SELECT count(*), a FROM d")) ≡ None
unfolding pieces_from turn begun chars lib.Utf8.encode class_of all_forms
select_count_more = refl

pub select_desc : class_of (codes "x" ∷ codes "mail" ∷ codes "d" ∷ []) (sql_tokens (codes "SELECT a FROM d ORDER BY docid DESC")) ≡ None
unfolding pieces_from turn begun chars lib.Utf8.encode class_of all_forms
select_desc = refl

pub select_limit_comma : class_of (codes "x" ∷ codes "mail" ∷ codes "d" ∷ []) (sql_tokens (codes "SELECT a FROM d LIMIT 1, 2")) ≡ None
unfolding pieces_from turn begun chars lib.Utf8.encode class_of all_forms
select_limit_comma = refl

pub select_alias : class_of (codes "x" ∷ codes "mail" ∷ codes "d" ∷ []) (sql_tokens (codes "SELECT a AS b FROM d")) ≡ None
unfolding pieces_from turn begun chars lib.Utf8.encode class_of all_forms
select_alias = refl

pub drop : class_of (codes "x" ∷ codes "mail" ∷ codes "d" ∷ []) (sql_tokens (codes "DROP TABLE IF EXISTS d;")) ≡ Some (FullText (Drop (codes "d") true))
unfolding pieces_from turn begun chars lib.Utf8.encode class_of all_forms
drop = refl

-- no table is named, so it is plain
pub drop_if : class_of (codes "x" ∷ codes "mail" ∷ codes "d" ∷ []) (sql_tokens (codes "DROP TABLE IF EXISTS")) ≡ Some Plain
unfolding pieces_from turn begun chars lib.Utf8.encode class_of all_forms
drop_if = refl

-- a plain table may not be made over a full-text one
pub create_hidden : class_of (codes "x" ∷ codes "mail" ∷ codes "d" ∷ []) (sql_tokens (codes "CREATE TABLE d(a);")) ≡ None
unfolding pieces_from turn begun chars lib.Utf8.encode class_of all_forms
create_hidden = refl

pub plain : class_of (codes "x" ∷ codes "mail" ∷ codes "d" ∷ []) (sql_tokens (codes "SELECT a FROM p;")) ≡ Some Plain
unfolding pieces_from turn begun chars lib.Utf8.encode class_of all_forms
plain = refl

pub plain_text : class_of (codes "x" ∷ codes "mail" ∷ codes "d" ∷ []) (sql_tokens (codes "SELECT 'FROM d';")) ≡ Some Plain
unfolding pieces_from turn begun chars lib.Utf8.encode class_of all_forms
plain_text = refl

pub two_ends : class_of (codes "x" ∷ codes "mail" ∷ codes "d" ∷ []) (sql_tokens (codes "DELETE FROM d;;")) ≡ None
unfolding pieces_from turn begun chars lib.Utf8.encode class_of all_forms
two_ends = refl

-- a byte of a character past ASCII is part of a name, and stands in a text as it is
pub wide_characters : class_of (codes "d" ∷ []) (sql_tokens (encode_utf8_all (codes "INSERT INTO d(é) VALUES('日''本')"))) ≡ Some (FullText (Insert (codes "d") (Some (encode_utf8_all (codes "é") ∷ [])) ((Text (encode_utf8_all (codes "日'本")) ∷ []) ∷ [])))
unfolding pieces_from turn begun chars lib.Utf8.encode class_of all_forms
wide_characters = refl

-- the module, the options' names and the special command's words are kept in their spelling
pub integrity_check : class_of (codes "d" ∷ []) (sql_tokens (codes "insert into D(\"d\") values ('INTEGRITY-check')")) ≡ Some (FullText (Check (codes "D")))
unfolding pieces_from turn begun chars lib.Utf8.encode class_of all_forms
integrity_check = refl

-- a keyword in quotation marks is none
pub quoted_docid : class_of (codes "d" ∷ []) (sql_tokens (codes "SELECT \"docid\" FROM d WHERE \"docid\" = 1")) ≡ None
unfolding pieces_from turn begun chars lib.Utf8.encode class_of all_forms
quoted_docid = refl

-- a table after JOIN makes a statement full-text, and this one spells no command
pub joined_table : class_of (codes "d" ∷ []) (sql_tokens (codes "SELECT a FROM p JOIN [D]")) ≡ None
unfolding pieces_from turn begun chars lib.Utf8.encode class_of all_forms
joined_table = refl

asks_returning : asks (sql_tokens (codes "DELETE FROM p RETURNING a;")) ≡ true
unfolding pieces_from turn begun chars lib.Utf8.encode
asks_returning = refl

asks_quoted : asks (sql_tokens (codes "DELETE FROM p WHERE \"returning\" = 1;")) ≡ false
unfolding pieces_from turn begun chars lib.Utf8.encode
asks_quoted = refl

made : made_name (sql_tokens (codes "CREATE TEMP TABLE IF NOT EXISTS [a b](x);")) ≡ Some (codes "a b")
unfolding pieces_from turn begun chars lib.Utf8.encode temporary
made = refl
