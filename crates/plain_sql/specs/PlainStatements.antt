-- Meaning. What a query of plain SQL does in a session, and what is said of a refusal ("Command Line Shell For SQLite"; that a query is
-- prepared for its names and then executed once, and how a refusal is worded, are own choices).
use Rattle.std.specs.Prelude.{ℕ, ◌≡◌, ◌++◌, List, [], Bool, true, false, MatchBool, if◌then◌else◌, codes}
use Rattle.sqlite.specs.Store.{Ghosts}
use Rattle.sqlite_value.specs.Order.{Row}
use Rattle.sqlite.specs.Held.{Held, state}
use Rattle.sqlite.specs.State.{State, HasCleanDisk, FailsToQuery, IsUnchanged, Shown}
use Rattle.sqlite.specs.Listing.{understood}
use Rattle.sqlite.specs.Outline.{Outline}
use Rattle.sqlite.specs.Steps.{Outlines}
use Rattle.sqlite.specs.declared.error.Error.{Error}
use Rattle.sqlite.specs.declared.error.Error.TheVariants.{SqliteFailure}
use Rattle.sqlite.specs.declared.error.ErrorCode.TheVariants as code
use Rattle.shell_text.specs.Print.{Settings}
use Rattle.plain_sql.specs.Answers.{row_print}
use Rattle.shell_io.specs.Outcomes.{Answer, blames, lacks_memory, Tells}

abbrev pub is_memory_error : Error → Bool
is_memory_error (SqliteFailure code.OutOfMemory) = true
is_memory_error _ = false

-- what is said behind the words of `sqlite` where MATCH is among those of the statement
abbrev pub match_hint : Bool → List ℕ
match_hint seeks = if seeks then codes " (MATCH is for full-text tables, and this names none)" else []

-- some words, and then these
abbrev pub EndsSo : List ℕ → List ℕ → Type 0
EndsSo end text = (words : List ℕ) × (text ≡ words ++ end)

-- the fault line of a refusal: its words are those of `sqlite`, but for want of memory
abbrev pub TellsRefusal : Bool → Error → Answer → Type 0
TellsRefusal seeks e answer = MatchBool (is_memory_error e) (answer ≡ lacks_memory)
    ((text : List ℕ) × EndsSo (match_hint seeks) text × Tells (blames text) answer)

-- the disk was clean, and the limit on the steps of a query is as before
pub record WasClean (old new : State) : Type 0 where
  pub clean : HasCleanDisk old
  pub limit : new.step_limit ≡ old.step_limit

module _ {P : Type 0} (g : Ghosts P) where
  -- A step of the plain database. All that `sqlite` says has the premise that the disk is clean as the step ends; then it was clean as the
  -- step began, so that no step is an unclean one of which nothing is said. No step sets the limit on steps.
  abbrev pub IfClean : Held P → Held P → Type 0 → Type 0
  IfClean old new Step = HasCleanDisk (state g new) → WasClean (state g old) (state g new) × Step

  -- the statement was prepared, which gives its columns' names
  pub record Prepares (text : List ℕ) (old new : Held P) (names : List (List ℕ)) : Type 0 where
    pub outline : Outline
    pub columns : names ≡ outline.columns
    pub is : IfClean old new (Outlines (understood (state g old).now.schema text) outline × IsUnchanged (state g old) (state g new))

  -- a query, or a write with RETURNING, is done with these rows
  abbrev pub Shows : List ℕ → Held P → Held P → List Row → Type 0
  Shows text old new rows = IfClean old new (Shown text [] (state g old) (state g new) rows)

  abbrev pub Refuses : List ℕ → Held P → Held P → Error → Type 0
  Refuses text old new e = IfClean old new (FailsToQuery text [] (state g old) (state g new) e)

  -- it is prepared, and then answered
  pub record Answers (text : List ℕ) (old new : Held P) (names : List (List ℕ)) (rows : List Row) : Type 0 where
    pub prepared : Held P
    pub prepares : Prepares text old prepared names
    pub shows : Shows text prepared new rows

  -- it is refused as it is prepared, or as it is run
  pub data FailsToAnswer (text : List ℕ) (old new : Held P) (e : Error) : Type 0 where
    unprepared : Refuses text old new e → FailsToAnswer text old new e
    refused : (prepared : Held P) (names : List (List ℕ)) → Prepares text old prepared names → Refuses text prepared new e → FailsToAnswer text old new e

  -- a query is answered, or refused; `seeks` says whether MATCH stands in its text
  pub data QueryTurn (settings : Settings) (text : List ℕ) (seeks : Bool) (old new : Held P) (answer : Answer) : Type 0 where
    answered : (names : List (List ℕ)) (rows : List Row) → Answers text old new names rows → Tells (row_print settings names rows) answer
        → QueryTurn settings text seeks old new answer
    refused : (e : Error) → FailsToAnswer text old new e → TellsRefusal seeks e answer → QueryTurn settings text seeks old new answer
