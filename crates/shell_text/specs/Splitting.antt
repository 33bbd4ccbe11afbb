-- Meaning. What a splitter is seen as, and what its calls do. The units are those of Units ("Command Line Shell For SQLite", section "Line
-- Structure"); how a splitter is fed, and what it keeps after a fault, is our own choice.
use Rattle.std.specs.Prelude.{ℕ, ◌≡◌, ◌==◌, Bool, true, false, ⊤, List, [], ◌∷◌, ◌++◌, Option, Some, None, Result, Ok, Err, option_map, string_bytes}
use Rattle.std.specs.List.{list_any}
use Rattle.std.specs.Str.{is_utf8}
use Rattle.shell_text.specs.Words.{pieces_of, text_of}
use Rattle.shell_text.specs.Lexed.{KeepsPending}
use Rattle.shell_text.specs.declared.units.Pending.{Pending}
use Rattle.shell_text.specs.Units.{Member, at_line, end_of, ended_units, at_semicolons, tail_of, Sql, Dot, Fault, Reading, Role, Refused, Command}
use Rattle.shell_text.specs.Units.{Joins, after_line, last_member, member_of, role_of, tail_in, units_in}
use Rattle.shell_text.specs.declared.units.SplitFault.{SplitFault}
use Rattle.shell_text.specs.declared.units.SplitFault.TheVariants as fault
use Rattle.shell_text.specs.declared.units.Unit.{Unit as SeenUnit}
use Rattle.shell_text.specs.declared.units.UnitKind.{UnitKind}
use Rattle.shell_text.specs.declared.units.UnitKind.TheVariants as kind

-- of the block it keeps what follows the last statement alone; `waiting` are the units that `next` hands out
pub record Splitting : Type 0 where
  pub reading : Reading
  pub waiting : List Member

-- a reading without the statements that its block ended
abbrev pub without_ended : Reading → Reading
without_ended r = record r { first = (tail_in r).0; block = option_map (λ _. text_of (tail_in r).1) r.block }

-- a unit as a member of the input
abbrev pub member_as : UnitKind → ℕ → List ℕ → Member
member_as kind.Sql line text = Sql line text
member_as kind.Dot line text = Dot line text

abbrev pub member_of_unit : SeenUnit → Member
member_of_unit u = member_as u.kind u.line (string_bytes u.text)

-- whether a line of this role is taken
abbrev pub IsAccepted : Role → Type 0
IsAccepted (Refused why) = ⊥
IsAccepted _ = ⊤

-- why a line's bytes are no text
abbrev pub IsBadText : List ℕ → SplitFault → Type 0
IsBadText line fault.NotUtf8 = is_utf8 line ≡ false
IsBadText line fault.HasNul = (is_utf8 line ≡ true) × (list_any (λ b. b == 0) line ≡ true)
IsBadText line _ = ⊥

-- the role of a line that is taken: a dot-command, or a line of the block
abbrev pub role_as : Bool → Role
role_as true = Command
role_as false = Joins

-- what `line` does: it takes the line, or refuses it for a fault of the line, or has no memory and changes nothing
abbrev pub TakesLine : List ℕ → Splitting → Splitting → Result Unit SplitFault → Type 0
TakesLine line old new (Ok _) = IsAccepted (role_of old.reading line) × (new.reading ≡ without_ended (after_line old.reading line))
    × (new.waiting ≡ old.waiting ++ member_of (role_of old.reading line) old.reading line ++ units_in (after_line old.reading line))
TakesLine line old new (Err fault.Memory) = new ≡ old
TakesLine line old new (Err why) = (role_of old.reading line ≡ Refused why) × (new ≡ record old { reading = after_line old.reading line })

-- what `next` does
abbrev pub HandsOut : Splitting → Splitting → Option SeenUnit → Type 0
HandsOut old new None = (old.waiting ≡ []) × (new ≡ old)
HandsOut old new (Some u) = old ≡ record new { waiting = member_of_unit u ∷ new.waiting }

-- nothing is pending
abbrev pub emptied : Splitting → Splitting
emptied s = record s { reading = at_line s.reading.line }

-- what `finish` does, where no unit waits
abbrev pub Finishes : Splitting → Splitting → Result (Option SeenUnit) SplitFault → Type 0
Finishes old new (Ok None) = (last_member (tail_in old.reading) ≡ []) × (new ≡ emptied old)
Finishes old new (Ok (Some u)) = (last_member (tail_in old.reading) ≡ member_of_unit u ∷ []) × (new ≡ emptied old)
Finishes old new (Err fault.Memory) = new ≡ old
Finishes old new (Err (fault.Incomplete line)) = (last_member (tail_in old.reading) ≡ Fault line (fault.Incomplete line) ∷ []) × (new ≡ emptied old)
Finishes old new (Err _) = ⊥

-- the members that lines give, where each statement is handed out as its line comes
abbrev pub given_by : (ends : Bool) → Reading → List (List ℕ) → List Member
given_by ends r [] = end_of ends r
given_by ends r (line ∷ lines) = member_of (role_of r line) r line ++ units_in (after_line r line) ++ given_by ends (without_ended (after_line r line)) lines

-- the block that is kept, where one is begun
abbrev pub block_as : Option Pending → List ℕ → Option (List ℕ)
block_as None text = None
block_as (Some p) text = Some text

-- the line on which a block begins that is kept, or begins with the next line
abbrev pub first_as : Option Pending → ℕ → ℕ
first_as None line = line
first_as (Some p) line = p.first

-- what is kept is that of the text; without a block there is no text
abbrev pub IsKeptText : Option Pending → List ℕ → Type 0
IsKeptText None text = text ≡ []
IsKeptText (Some p) text = KeepsPending text [] p

-- a text that begins on line n was read: its statements are given after `told`, and `text` is what follows the last of them
pub record TakesText (n : ℕ) (whole : List ℕ) (told now : List Member) (text : List ℕ) (p : Pending) : Type 0 where
  pub units : now ≡ told ++ ended_units n (at_semicolons (pieces_of whole))
  pub tail : tail_of n (at_semicolons (pieces_of whole)) ≡ (p.first, pieces_of text)
  pub keeps : KeepsPending text [] p
