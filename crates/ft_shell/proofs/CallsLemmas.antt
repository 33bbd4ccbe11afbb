-- What the calls are like that the turns of a session make of the full-text tables, and that they
-- are all that changes these.
use Rattle.std.proofs.Common.{◌≡◌, ℕ, Bool, true, false, List, [], ◌∷◌, ◌++◌, Option, Some, None, refl, sym, ap, subst, ◌⊎◌, inl, inr, MatchBool, codes, length, map, is_ok}
use Rattle.shell_text.specs.Print.{Settings}
use Rattle.shell_text.specs.Units.{Member, Sql, Dot, Fault}
use Rattle.shell_text.specs.Dot.{dot_words_of}
use Rattle.shell_text.specs.Words.{is_unclosed}
use Rattle.ft_calls.specs.Kept.{Leaves, Runs}
use Rattle.shell_io.specs.Outcomes.{Answer, blames, lacks_memory}
use Rattle.plain_sql.specs.Imports.{delimiter_of, row_cells}
use Rattle.shell_io.specs.Records.{warnings, kept, records_in}
use Rattle.shell_io.specs.Sources.{fetch_words, Files, GivesFile}
use Rattle.plain_sql.specs.PlainStatements.{QueryTurn}
use Rattle.ft_statements.specs.Statements.{FullText as FullTextClass}
use Rattle.ft_shell.proofs.Common.{Ghosts, Held, FullText, OnlyLooks, Call, Looked, Noted, DoesForCause, sql_tokens, asks, seeks, made_name, Shell, Effects, and_then, Insert, DotCommand, Import, Nothing, SetMode, SetHeaders, SetSeparator, SetNull, SetEcho, SetBail, Print, Importing, Tables, Quit, Usage, Unknown, dot_command_of, DotTurn, after_stop, MaybeNotes, NoteTurn, BytesTurn, DelimitedTurn, FileTurn, IntoNamed, IntoNew, PlainImport, TextImport, width_in, executed, no_memory, no_header, too_wide, declined, there, new_table, untried, read, no_text, fetched, unfetched, TablesTurn, CommandTurn, PlainTurn, done, refused, Class, Plain, class_of, ClassTurn, Declines, StatementTurn, known_names, Body, Turn, Turns, calls_in}
use Rattle.ft_shell.specs.TurnCalls.{bytes_in, class_in, closed_in, command_in, delimited_in, dot_in, file_in, named_in, new_in, note_in, plain_in, statement_in, table_in, tables_in, text_in}
use Rattle.ft_shell.proofs.Spelled.{MayNote, MayRead, NoCall, CallsOf, CallsOfClass, CallsOfDot, CallsOfImport, HasRecords, OneCommand}
use Rattle.ft_shell.specs.ImportTurns as imports
use Rattle.ft_shell.specs.TablesTurns as tables

-- ---- calls

-- calls are of this kind, and all that changes the tables
abbrev pub Called : {S : Type 0} → Ghosts S → (List Call → Type 0) → List Call → FullText S → FullText S → Type 0
Called h Spelled calls old new = Spelled calls × Runs (DoesForCause h) old calls new

-- nothing is called
abbrev Uncalled : List Call → Type 0
Uncalled calls = calls ≡ []

calls_nothing : {S : Type 0} (h : Ghosts S) (old new : FullText S) → new ≡ old → Called h Uncalled [] old new
calls_nothing h old new same = (refl, same)

notes_none : {S : Type 0} (h : Ghosts S) (made : Option (List ℕ)) (old new : FullText S) → new ≡ old → Called h (MayNote made) [] old new
notes_none h None old new same = (refl, same)
notes_none h (Some name) old new same = (inl refl, same)

notes_one : {S : Type 0} (h : Ghosts S) (old new : FullText S) (name : List ℕ) (is_done : Bool) → DoesForCause h old (Noted name is_done) new → Called h (MayNote (Some name)) (Noted name is_done ∷ []) old new
notes_one h old new name is_done does = (inr (is_done, refl), (new, does, refl))

same_shell : {P S : Type 0} (h : Ghosts S) (old new : Shell P S) → new ≡ old → Called h Uncalled [] old.full_text new.full_text
same_shell h old new same = calls_nothing h old.full_text new.full_text (ap (λ (s : Shell _ _). s.full_text) same)

-- ---- statements

notes_calls : {S : Type 0} (h : Ghosts S) (made : Option (List ℕ)) (old new : FullText S) (told : Answer) → (it : MaybeNotes h made old new told) → Called h (MayNote made) (note_in h made old new told it) old new
notes_calls h None old new told it = notes_none h None old new it.0
notes_calls h (Some name) old new told it = notes_one h old new name (is_ok it.answer) it.does

command_calls : {P S : Type 0} (g : Ghosts P) (h : Ghosts S) (settings : Settings) (text : List ℕ) (made : Option (List ℕ)) (old new : Held P) (before after : FullText S) (told : Answer) → (it : CommandTurn g h text made old new before after told) → Called h (MayNote made) (command_in g h settings text old new before after told made it) before after
command_calls g h settings text made old new before after told (done count is notes) = notes_calls h made before after told notes
command_calls g h settings text made old new before after told (refused e is same tells) = notes_none h made before after same

plain_calls : {P S : Type 0} (g : Ghosts P) (h : Ghosts S) (settings : Settings) (text : List ℕ) (old new : Held P) (before after : FullText S) (told : Answer) → (it : PlainTurn g h settings text old new before after told) → Called h (MayNote (made_name (sql_tokens text))) (plain_in g h settings text old new before after told (asks (sql_tokens text)) it) before after
plain_calls g h settings text old new before after told it = go (asks (sql_tokens text)) it
  where
    go : (is_query : Bool) (it : MatchBool is_query (QueryTurn g settings text (seeks (sql_tokens text)) old new told × (after ≡ before)) (CommandTurn g h text (made_name (sql_tokens text)) old new before after told)) → Called h (MayNote (made_name (sql_tokens text))) (plain_in g h settings text old new before after told is_query it) before after
    go true it = notes_none h (made_name (sql_tokens text)) before after it.1
    go false it = command_calls g h settings text (made_name (sql_tokens text)) old new before after told it

class_calls : {P S : Type 0} (g : Ghosts P) (h : Ghosts S) (settings : Settings) (text : List ℕ) (old new : Held P) (before after : FullText S) (told : Answer) (class : Option Class) (it : ClassTurn g h settings text old new before after told class) → Called h (λ calls. CallsOfClass settings told calls (made_name (sql_tokens text)) class) (class_in g h settings text old new before after told class it) before after
class_calls g h settings text old new before after told None it = calls_nothing h before after it.1
class_calls g h settings text old new before after told (Some Plain) it = plain_calls g h settings text old new before after told it
class_calls g h settings text old new before after told (Some (FullTextClass command)) it = (inl (it.1.answer, refl, it.1.tells), (after, it.1.does, refl))

class_none : {S : Type 0} (h : Ghosts S) (settings : Settings) (made : Option (List ℕ)) (before after : FullText S) (told : Answer) (class : Option Class) → after ≡ before → told ≡ lacks_memory → Called h (λ calls. CallsOfClass settings told calls made class) [] before after
class_none h settings made before after told None same is = calls_nothing h before after same
class_none h settings made before after told (Some Plain) same is = notes_none h made before after same
class_none h settings made before after told (Some (FullTextClass command)) same is = (inr (refl, codes "out of memory", is), same)

statement_calls : {P S : Type 0} (g : Ghosts P) (h : Ghosts S) (settings : Settings) (text : List ℕ) (old new : Held P) (before after : FullText S) (told : Answer) → (it : StatementTurn g h settings text old new before after told) →
    Called h (λ calls. MatchBool (is_unclosed text) (calls ≡ []) (CallsOfClass settings told calls (made_name (sql_tokens text)) (class_of (known_names before) (sql_tokens text)))) (statement_in g h settings text old new before after told it) before after
statement_calls g h settings text old new before after told (inr nothing) = go (is_unclosed text)
  where
    go : (is_open : Bool) → Called h (λ calls. MatchBool is_open (calls ≡ []) (CallsOfClass settings told calls (made_name (sql_tokens text)) (class_of (known_names before) (sql_tokens text)))) [] before after
    go true = calls_nothing h before after nothing.1
    go false = class_none h settings (made_name (sql_tokens text)) before after told (class_of (known_names before) (sql_tokens text)) nothing.1 nothing.2
statement_calls g h settings text old new before after told (inl it) = go (is_unclosed text) it
  where
    go : (is_open : Bool) (it : MatchBool is_open (Declines g h settings text old new before after told (codes "incomplete input")) (ClassTurn g h settings text old new before after told (class_of (known_names before) (sql_tokens text)))) →
        Called h (λ calls. MatchBool is_open (calls ≡ []) (CallsOfClass settings told calls (made_name (sql_tokens text)) (class_of (known_names before) (sql_tokens text)))) (closed_in g h settings text old new before after told is_open it) before after
    go true it = calls_nothing h before after it.1
    go false it = class_calls g h settings text old new before after told (class_of (known_names before) (sql_tokens text)) it

looks_call : {S : Type 0} (h : Ghosts S) (old new : FullText S) (is_done : Bool) → OnlyLooks h old new → Leaves h old new is_done (λ _. ⊥) → Called h MayRead (Looked is_done ∷ []) old new
looks_call h old new is_done looks leaves = (inr (is_done, refl), (new, (looks, leaves), refl))

tables_calls : {P S : Type 0} (g : Ghosts P) (h : Ghosts S) (old new : Shell P S) (told : Answer) → (it : TablesTurn g h old.plain new.plain old.full_text new.full_text told) →
    Called h MayRead (tables_in g h old new told it) old.full_text new.full_text
tables_calls g h old new told (tables.lists noted looks leaves is it) = looks_call h old.full_text new.full_text true looks leaves
tables_calls g h old new told (tables.refused fault refuses looks leaves same tells cause) = looks_call h old.full_text new.full_text false looks leaves

note_calls : {S : Type 0} (h : Ghosts S) (lines name : List ℕ) (old new : FullText S) (told : Answer) → (it : NoteTurn h lines name old new told) → Called h (MayNote (Some name)) (Noted name (is_ok it.answer) ∷ []) old new
note_calls h lines name old new told it = notes_one h old new name (is_ok it.answer) it.does

-- ---- imports

-- one Insert of these records
abbrev Inserts : Settings → Import → ℕ → List (ℕ × List (List ℕ)) → Answer → List Call → Type 0
Inserts settings what n rows told calls = OneCommand settings told calls (Insert what.table None (map (row_cells n) (records_in rows))) (imports.answer_of_insert (warnings what.file n rows))

text_calls : {S : Type 0} (h : Ghosts S) (settings : Settings) (what : Import) (n : ℕ) (rows : List (ℕ × List (List ℕ))) (before after : FullText S) (told : Answer) → (it : TextImport h what n rows before after told) →
    Called h (λ calls. Inserts settings what n rows told calls ⊎ NoCall settings told calls) (text_in h what n rows before after told it) before after
text_calls h settings what n rows before after told (executed it) = (inl (it.answer, refl, inl it.tells), (after, it.does, refl))
text_calls h settings what n rows before after told (no_memory same is) = (inr (refl, codes "out of memory", is), same)

new_calls : {P S : Type 0} (g : Ghosts P) (h : Ghosts S) (what : Import) (rows : List (ℕ × List (List ℕ))) (old new : Held P) (before after : FullText S) (told : Answer) → (it : IntoNew g what rows h old new before after told) → Called h (MayNote (Some what.table)) (new_in g h what rows old new before after told it) before after
new_calls g h what rows old new before after told (no_header none same kept is) = notes_none h (Some what.table) before after kept
new_calls g h what rows old new before after told (too_wide first rest are wide same kept is) = notes_none h (Some what.table) before after kept
new_calls g h what rows old new before after told (imports.made first rest are narrow commits notes) = note_calls h (warnings what.file (length first.1) rest) what.table before after told notes
new_calls g h what rows old new before after told (declined first rest are narrow why kept is) = notes_none h (Some what.table) before after kept
new_calls g h what rows old new before after told (no_memory kept is) = notes_none h (Some what.table) before after kept

plain_import_calls : {P S : Type 0} (g : Ghosts P) (h : Ghosts S) (what : Import) (rows : List (ℕ × List (List ℕ))) (old new : Held P) (before after : FullText S) (told : Answer) → (it : PlainImport g what rows h old new before after told) → Called h (MayNote (Some what.table)) (table_in g h what rows old new before after told it) before after
plain_import_calls g h what rows old new before after told (there found tries same it) = notes_none h (Some what.table) before after same
plain_import_calls g h what rows old new before after told (new_table found tries it) = new_calls g h what rows found new before after told it
plain_import_calls g h what rows old new before after told (untried tries same is) = notes_none h (Some what.table) before after same

module _ {P S : Type 0} (g : Ghosts P) (h : Ghosts S) (settings : Settings) (what : Import) (old new : Held P) (before after : FullText S) (told : Answer) (holds : Files) where
  abbrev ImportCalls : Option ℕ → List Call → Type 0
  ImportCalls found calls = Called h (λ calls. CallsOfImport settings told calls holds what found) calls before after

  -- where nothing is called, and a fault line is told
  import_none : (why : List ℕ) (there : Option ℕ) → after ≡ before → told ≡ blames why → ImportCalls there []
  import_none why None same is = notes_none h (Some what.table) before after same
  import_none why (Some n) same is = (inr (refl, why, is), same)

  named_calls : (found : List (List (List ℕ))) → HasRecords settings holds what found → (n : Option ℕ) (it : IntoNamed g h what old new before after told (kept what.skip found) n) → ImportCalls n (named_in g h what old new before after told (kept what.skip found) n it)
  named_calls found has (Some n) it = go (text_in h what n (kept what.skip found) before after told it.1) (text_calls h settings what n (kept what.skip found) before after told it.1)
    where
      go : (calls : List Call) → Called h (λ calls. Inserts settings what n (kept what.skip found) told calls ⊎ NoCall settings told calls) calls before after → ImportCalls (Some n) calls
      go calls (inl one, made) = (inl (found, has, one), made)
      go calls (inr none, made) = (inr none, made)
  named_calls found has None it = plain_import_calls g h what (kept what.skip found) old new before after told it

  bytes_calls : (delimiter : ℕ) (bytes : List ℕ) → delimiter_of what.csv settings ≡ Some delimiter → GivesFile holds what.file bytes → (it : BytesTurn g h what old new before after told delimiter bytes) → ImportCalls (width_in before.tables what.table) (bytes_in g h what old new before after told delimiter bytes it)
  bytes_calls delimiter bytes parts gives (read found are (inl it)) = named_calls found (record { delimiter = delimiter; parts = parts; bytes = bytes; gives = gives; are = are }) (width_in before.tables what.table) it
  bytes_calls delimiter bytes parts gives (read found are (inr nothing)) = import_none (codes "out of memory") (width_in before.tables what.table) nothing.1 nothing.2
  bytes_calls delimiter bytes parts gives (no_text is nothing) = import_none (codes "file is not UTF-8") (width_in before.tables what.table) nothing.1 nothing.2
  bytes_calls delimiter bytes parts gives (no_memory nothing) = import_none (codes "out of memory") (width_in before.tables what.table) nothing.1 nothing.2

  file_calls : (delimiter : ℕ) → delimiter_of what.csv settings ≡ Some delimiter → (it : FileTurn g h what old new before after told holds delimiter) → ImportCalls (width_in before.tables what.table) (file_in g h what old new before after told holds delimiter it)
  file_calls delimiter parts (fetched bytes gives it) = bytes_calls delimiter bytes parts gives it
  file_calls delimiter parts (unfetched fault allowed nothing) = import_none (fetch_words fault) (width_in before.tables what.table) nothing.1 nothing.2

  delimited_calls : (delimiter : Option ℕ) → delimiter_of what.csv settings ≡ delimiter → (it : DelimitedTurn g h what old new before after told holds delimiter) → ImportCalls (width_in before.tables what.table) (delimited_in g h what old new before after told holds delimiter it)
  delimited_calls None parts nothing = import_none (codes "bad separator") (width_in before.tables what.table) nothing.1 nothing.2
  delimited_calls (Some delimiter) parts it = file_calls delimiter parts it

-- ---- dot-commands, and whole turns

dot_calls : {P S : Type 0} (g : Ghosts P) (h : Ghosts S) (old new : Shell P S) (told : Answer) (command : DotCommand) (it : DotTurn g h old new told command) → Called h (λ calls. CallsOfDot old told calls command) (dot_in g h old new told command it) old.full_text new.full_text
dot_calls g h old new told Nothing it = calls_nothing h old.full_text new.full_text it.1
dot_calls g h old new told (SetMode mode) it = calls_nothing h old.full_text new.full_text it.1
dot_calls g h old new told (SetHeaders shown) it = calls_nothing h old.full_text new.full_text it.1
dot_calls g h old new told (SetSeparator text) it = calls_nothing h old.full_text new.full_text it.1
dot_calls g h old new told (SetNull text) it = calls_nothing h old.full_text new.full_text it.1
dot_calls g h old new told (SetEcho on) it = calls_nothing h old.full_text new.full_text it.1
dot_calls g h old new told (SetBail on) it = calls_nothing h old.full_text new.full_text it.1
dot_calls g h old new told (Print words) it = same_shell h old new it.0
dot_calls g h old new told (Importing what) it = delimited_calls g h old.settings what old.plain new.plain old.full_text new.full_text told old.holds (delimiter_of what.csv old.settings) refl it.1
dot_calls g h old new told Tables it = tables_calls g h old new told it.1
dot_calls g h old new told Quit it = same_shell h old new it.0
dot_calls g h old new told (Usage text) it = same_shell h old new it.0
dot_calls g h old new told Unknown it = same_shell h old new it.0

dot_none : {P S : Type 0} (h : Ghosts S) (old new : Shell P S) (told : Answer) (command : DotCommand) → new ≡ old → told ≡ lacks_memory → Called h (λ calls. CallsOfDot old told calls command) [] old.full_text new.full_text
dot_none h old new told Nothing same is = same_shell h old new same
dot_none h old new told (SetMode mode) same is = same_shell h old new same
dot_none h old new told (SetHeaders shown) same is = same_shell h old new same
dot_none h old new told (SetSeparator text) same is = same_shell h old new same
dot_none h old new told (SetNull text) same is = same_shell h old new same
dot_none h old new told (SetEcho on) same is = same_shell h old new same
dot_none h old new told (SetBail on) same is = same_shell h old new same
dot_none h old new told (Print words) same is = same_shell h old new same
dot_none h old new told Tables same is = (inl refl, ap (λ (s : Shell _ _). s.full_text) same)
dot_none h old new told Quit same is = same_shell h old new same
dot_none h old new told (Usage text) same is = same_shell h old new same
dot_none h old new told Unknown same is = same_shell h old new same
dot_none h old new told (Importing what) same is = go (width_in old.full_text.tables what.table)
  where
    go : (there : Option ℕ) → Called h (λ calls. CallsOfImport old.settings told calls old.holds what there) [] old.full_text new.full_text
    go None = notes_none h (Some what.table) old.full_text new.full_text (ap (λ (s : Shell _ _). s.full_text) same)
    go (Some n) = (inr (refl, codes "out of memory", is), ap (λ (s : Shell _ _). s.full_text) same)

-- what a member's turn calls
pub body_calls : {P S : Type 0} (g : Ghosts P) (h : Ghosts S) (member : Member) (old new : Shell P S) (told : Answer) → (it : Body g h member old new told) → Called h (λ calls. CallsOf member old told calls) (calls_in g h member old new told it) old.full_text new.full_text
body_calls g h (Fault line fault) old new told it = same_shell h old new it.0
body_calls g h (Sql line text) old new told it = statement_calls g h old.settings text old.plain new.plain old.full_text new.full_text told it.2
body_calls g h (Dot line text) old new told (inl it) = dot_calls g h old new told (dot_command_of (dot_words_of (after_stop text))) it
body_calls g h (Dot line text) old new told (inr nothing) = dot_none h old new told (dot_command_of (dot_words_of (after_stop text))) nothing.0 nothing.1

pub turn_spelled : {P S : Type 0} (g : Ghosts P) (h : Ghosts S) (member : Member) (old new : Shell P S) (all : Effects) → (turn : Turn g h member old new all) → CallsOf member old turn.body all.calls
turn_spelled g h member old new all turn = subst (λ calls. CallsOf member old turn.body calls) (sym turn.calls) (body_calls g h member old new turn.body turn.done).0

pub turn_made : {P S : Type 0} (g : Ghosts P) (h : Ghosts S) (member : Member) (old new : Shell P S) (all : Effects) → Turn g h member old new all → Runs (DoesForCause h) old.full_text all.calls new.full_text
turn_made g h member old new all turn = subst (λ calls. Runs (DoesForCause h) old.full_text calls new.full_text) (sym turn.calls) (body_calls g h member old new turn.body turn.done).1

-- ---- calls one after another

pub runs_join : {S : Type 0} (h : Ghosts S) (a b c : FullText S) (xs ys : List Call) → Runs (DoesForCause h) a xs b → Runs (DoesForCause h) b ys c → Runs (DoesForCause h) a (xs ++ ys) c
runs_join h a b c [] ys same second = subst (λ k. Runs (DoesForCause h) k ys c) same second
runs_join h a b c (call ∷ xs) ys (mid, does, rest) second = (mid, does, runs_join h mid b c xs ys rest second)

pub turns_made : {P S : Type 0} (g : Ghosts P) (h : Ghosts S) (members : List Member) (old new : Shell P S) (all : Effects) → Turns g h members old new all → Runs (DoesForCause h) old.full_text all.calls new.full_text
turns_made g h [] old new all it = subst (λ (d : Effects). Runs (DoesForCause h) old.full_text d.calls new.full_text) (sym it.1) (ap (λ (s : Shell _ _). s.full_text) it.0)
turns_made g h (member ∷ members) old new all (mid, first, turn, more) = go (λ rest turns. turns_made g h members mid new rest turns) first.ends more
  where
    go : ((rest : Effects) → Turns g h members mid new rest → Runs (DoesForCause h) mid.full_text rest.calls new.full_text) → (ends : Bool) → MatchBool ends ((new ≡ mid) × (all ≡ first)) ((rest : Effects) × Turns g h members mid new rest × (all ≡ and_then first rest)) → Runs (DoesForCause h) old.full_text all.calls new.full_text
    go later true (same, is) = subst (λ (d : Effects). Runs (DoesForCause h) old.full_text d.calls new.full_text) (sym is) (subst (λ (s : Shell _ _). Runs (DoesForCause h) old.full_text first.calls s.full_text) (sym same) (turn_made g h member old mid first turn))
    go later false (rest, turns, is) = subst (λ (d : Effects). Runs (DoesForCause h) old.full_text d.calls new.full_text) (sym is) (runs_join h old.full_text mid.full_text new.full_text first.calls rest.calls (turn_made g h member old mid first turn) (later rest turns))
