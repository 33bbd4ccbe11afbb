-- Steps. An input that is read piece by piece (own choice).
use Rattle.std.specs.Prelude.{ℕ, ◌≡◌, ◌==◌, Bool, true, false, ⊤, List, [], ◌∷◌, ◌++◌, Option, Some, None, Result, Ok, Err}
use Rattle.std.specs.List.{list_any}
use Rattle.shell_text.specs.Units.{Member, Fault, lines_of}
use Rattle.shell_text.specs.declared.units.SplitFault.{SplitFault}
use Rattle.shell_text.specs.declared.units.SplitFault.TheVariants as fault
use Rattle.shell_text.specs.declared.units.Unit.{Unit as SeenUnit}
use Rattle.shell_text.specs.Splitting.{Splitting, given_by, member_of_unit}
use Rattle.shell_io.specs.declared.line_reader.Refusal.{Refusal}

-- what was read of an input: the lines that ended, and the bytes so far of the line that is being read
pub record LinesRead : Type 0 where
  pub splitting : Splitting
  pub line : List ℕ

-- no line feed stands in these bytes
abbrev pub HasNoEnd : List ℕ → Type 0
HasNoEnd bytes = list_any (λ b. b == 10) bytes ≡ false

-- how an input goes on: with these bytes, after which it ends or may go on
pub record Way : Type 0 where
  pub rest : List ℕ
  pub ends : Bool

-- these bytes come first
abbrev pub behind : List ℕ → Way → Way
behind bytes way = record way { rest = bytes ++ way.rest }

-- nothing more comes
abbrev pub at_end : Way
at_end = record { rest = []; ends = true }

-- the members that are still to come, where the input goes on so
abbrev pub members_left : LinesRead → Way → List Member
members_left read way = read.splitting.waiting ++ given_by way.ends read.splitting.reading (lines_of way.ends (read.line ++ way.rest))

abbrev pub refused_as : Option Refusal → List Member
refused_as None = []
refused_as (Some r) = Fault r.line r.fault ∷ []

-- the line with which the end of an input is refused
abbrev pub end_line : SplitFault → ℕ
end_line (fault.Incomplete line) = line
end_line _ = 1

-- What is left as the input ends: a unit, or its refusal, or nothing. Want of memory says nothing of it.
abbrev pub EndsWith : Result (Option SeenUnit) SplitFault → List Member → Type 0
EndsWith (Ok None) left = left ≡ []
EndsWith (Ok (Some unit)) left = left ≡ member_of_unit unit ∷ []
EndsWith (Err fault.Memory) left = ⊤
EndsWith (Err why) left = left ≡ Fault (end_line why) why ∷ []
