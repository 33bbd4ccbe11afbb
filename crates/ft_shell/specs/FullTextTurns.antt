-- Meaning. What a full-text statement does in a session. All of it is our own choice.
use Rattle.std.specs.Prelude.{ℕ, ◌≡◌, ◌⊎◌, List, [], ◌∷◌, codes, Option, Some, None, Result, Ok, Err, is_ok, IfErr}
use Rattle.sqlite.specs.Store.{Ghosts}
use Rattle.shell_text.specs.Print.{Settings}
use Rattle.ft_values.specs.declared.fault.Fault.{Fault}
use Rattle.ft_values.specs.declared.fault.Fault.TheVariants as faults
use Rattle.ft_rows.specs.Store.{Note}
use Rattle.ft_store.specs.Kept.{shows}
use Rattle.ft_commands.specs.Command.{Command, Reply}
use Rattle.ft_calls.specs.Kept.{FullText, BlamesChanges}
use Rattle.ft_calls.specs.Kept.{Executed, Noted}
use Rattle.ft_calls.specs.Causes.{DoesForCause}
use Rattle.shell_io.specs.Texts.{fault_text}
use Rattle.ft_statements.specs.Replies.{reply_text}
use Rattle.shell_io.specs.Outcomes.{Answer, says, warned, blames, complains, Tells}

-- what is printed of a reply, or the fault
abbrev pub answer_of_reply : Settings → Result Reply Fault → Answer
answer_of_reply settings (Ok reply) = says (reply_text settings reply)
answer_of_reply settings (Err fault) = blames (fault_text fault)

-- The command is executed once, and its reply is printed; where memory refuses the print, it was executed all the same.
pub record FullTextTurn {S : Type 0} (h : Ghosts S) (settings : Settings) (command : Command) (old new : FullText S) (told : Answer) : Type 0 where
  pub answer : Result Reply Fault
  pub does : DoesForCause h old (Executed command answer) new
  pub tells : Tells (answer_of_reply settings answer) told

-- what is said of a note, after warnings
abbrev pub answer_of_note : List ℕ → Result (Unit {0}) Fault → Answer
answer_of_note lines (Ok _) = warned lines
answer_of_note lines (Err faults.Memory) = complains lines (codes "out of memory")
answer_of_note lines (Err _) = complains lines (codes "table not noted")

-- A new plain table's name is noted, after warnings, or the note is refused: for want of memory, for what lies outside the full-text store, or
-- since the row of the name can't be put.
pub record NoteTurn {S : Type 0} (h : Ghosts S) (lines name : List ℕ) (old new : FullText S) (told : Answer) : Type 0 where
  pub answer : Result (Unit {0}) Fault
  pub does : DoesForCause h old (Noted name (is_ok answer)) new
  pub fault : IfErr answer (λ fault. (fault ≡ faults.Store) ⊎ (fault ≡ faults.Memory))
  pub cause : BlamesChanges (shows h old.store) (shows h new.store) answer (Note name ∷ [])
  pub tells : told ≡ answer_of_note lines answer

-- it is noted if there is one
abbrev pub MaybeNotes : {S : Type 0} → Ghosts S → Option (List ℕ) → FullText S → FullText S → Answer → Type 0
MaybeNotes h None old new told = (new ≡ old) × (told ≡ warned [])
MaybeNotes h (Some name) old new told = NoteTurn h [] name old new told
