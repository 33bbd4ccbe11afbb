-- Meaning. The units of a shell's input. Each block of lines is read whole. The rules are those of "Command Line Shell For SQLite", section
-- "Line Structure": statements end with a semicolon and may go over lines, a dot-command is one line that begins with a full stop, does not
-- stand inside a statement and knows no comments. Own choice: the largest size of a statement, which lines are refused, what is left open
-- at the end, and the numbers of lines.
use Rattle.std.specs.Prelude.{ℕ, ◌+◌, ◌-◌, ◌^◌, min, nat_lt, Bool, not, ◌==◌, ◌&&◌, List, [], ◌∷◌, ◌++◌, length, drop, count_by, true, false}
use Rattle.std.specs.Prelude.{Option, Some, None, is_some, unwrap_or, if◌then◌else◌}
use Rattle.std.specs.List.{list_any, list_all, onto_first, prefix_len, take_while}
use Rattle.std.specs.Str.{is_utf8}
use Rattle.std.specs.Str.Lines.{strip_carriage_return}
use Rattle.shell_text.specs.Words.{Piece, first_byte, is_gap, is_open, is_symbol_kind, is_word, next_is, pieces_of, text_of}
use Rattle.shell_text.specs.declared.units.SplitFault.{SplitFault}
use Rattle.shell_text.specs.declared.units.SplitFault.TheVariants as fault

-- a byte before lines; alone it is a line where the input ends there
abbrev pub onto_line : (ends : Bool) → ℕ → List (List ℕ) → List (List ℕ)
onto_line ends b [] = if ends then (b ∷ []) ∷ [] else []
onto_line ends b (line ∷ lines) = (b ∷ line) ∷ lines

-- the parts that line feeds end, and, where the input ends there, what follows the last of them, if anything does; a line keeps its
-- carriage return
abbrev pub lines_of : (ends : Bool) → List ℕ → List (List ℕ)
lines_of ends [] = []
lines_of ends (b ∷ rest) = if b == 0x0A then [] ∷ lines_of ends rest else onto_line ends b (lines_of ends rest)

-- how many lines end in a text
abbrev pub line_feeds : List ℕ → ℕ
line_feeds text = count_by (λ b. b == 0x0A) text

-- a line's number, which stops at the largest (own choice)
abbrev pub numbered : ℕ → ℕ
numbered n = min n (2 ^ 64 - 1)

-- the line on which a text ends that begins on line n
abbrev pub line_behind : ℕ → List ℕ → ℕ
line_behind n text = numbered (n + line_feeds text)

-- what the input is made of: units, and faults in the place of units, each with its line
pub data Member : Type 0 where
  Sql : (line : ℕ) (text : List ℕ) → Member
  Dot : (line : ℕ) (text : List ℕ) → Member
  Fault : (line : ℕ) (fault : SplitFault) → Member

-- a semicolon outside literals, quoted names and comments ends a statement (section "Line Structure")
abbrev pub ends_statement : Piece → Bool
ends_statement p = is_symbol_kind p.kind && next_is (λ b. b == 0x3B) (first_byte p.text)

-- pieces up to each semicolon, with it; the last part is what follows the last of them
abbrev pub at_semicolons : List Piece → List (List Piece)
at_semicolons [] = [] ∷ []
at_semicolons (p ∷ ps) = if ends_statement p then (p ∷ []) ∷ at_semicolons ps else onto_first p (at_semicolons ps)

-- the white space and comments before the first word
abbrev pub gaps_before : List Piece → List Piece
gaps_before ps = take_while is_gap ps

-- the first word and what follows it
abbrev pub from_first_word : List Piece → List Piece
from_first_word ps = drop (prefix_len is_gap ps) ps

-- the line on which pieces begin, after the gaps before them, where the gaps begin on line n
abbrev pub unit_line : ℕ → List Piece → ℕ
unit_line n ps = line_behind n (text_of (gaps_before ps))

-- a statement goes from its first word on, and has the line of that word (own choice)
abbrev pub unit_of : ℕ → List Piece → Member
unit_of n ps = Sql (unit_line n ps) (text_of (from_first_word ps))

-- the unit of a part that ends with a semicolon, if it has another word: a statement without words is none (own choice)
abbrev pub ended_unit : ℕ → List Piece → List Member
ended_unit n ps = if nat_lt 1 (count_by is_word ps) then unit_of n ps ∷ [] else []

-- the units of the parts but the last, which begin on line n
abbrev pub ended_units : ℕ → List (List Piece) → List Member
ended_units n [] = []
ended_units n (last ∷ []) = []
ended_units n (part ∷ next ∷ more) = ended_unit n part ++ ended_units (line_behind n (text_of part)) (next ∷ more)

-- the last part, and the line on which it begins
abbrev pub tail_of : ℕ → List (List Piece) → ℕ × List Piece
tail_of n [] = (n, [])
tail_of n (last ∷ []) = (n, last)
tail_of n (part ∷ next ∷ more) = tail_of (line_behind n (text_of part)) (next ∷ more)

-- a block that is being read
pub record Reading : Type 0 where
  -- the number of the line that comes next
  pub line : ℕ
  -- the line on which the block begins
  pub first : ℕ
  -- the lines since the last refused line or dot-command, joined by line feeds, if there is one
  pub block : Option (List ℕ)

-- before the first line, which has number 1
abbrev pub start : Reading
start = record { line = 1; first = 1; block = None }

-- the parts of the block
abbrev pub parts_in : Reading → List (List Piece)
parts_in r = at_semicolons (pieces_of (unwrap_or r.block []))

-- the units that semicolons of the block end
abbrev pub units_in : Reading → List Member
units_in r = ended_units r.first (parts_in r)

-- what follows the last semicolon of the block, and the line on which it begins
abbrev pub tail_in : Reading → ℕ × List Piece
tail_in r = tail_of r.first (parts_in r)

-- whether what follows the last statement is only white space and closed comments; it counts as nothing then
abbrev pub is_idle : Reading → Bool
is_idle r = list_all is_gap (tail_in r).1

-- the pending text: what follows the last statement, or nothing where that is idle
abbrev pub pending_in : Reading → List ℕ
pending_in r = if is_idle r then [] else text_of (tail_in r).1

-- how many bytes a statement may have, as long as it is pending (own choice)
abbrev pub most_bytes : ℕ
most_bytes = 1000000

-- what a line is: refused, for the first fault that applies; a dot-command; or a line of the block
pub data Role : Type 0 where
  Refused : (fault : SplitFault) → Role
  Command : Role
  Joins : Role

-- the pending text, a line feed if there is any, and the line with its carriage return
abbrev pub size_with : Reading → List ℕ → ℕ
size_with r line = (if is_idle r then 0 else length (pending_in r) + 1) + length line

-- the tests of a line in their order: too long, not UTF-8, U+0000 (own choice), a full stop where nothing is pending (section "Line
-- Structure")
abbrev pub role_of : Reading → List ℕ → Role
role_of r line =
    if nat_lt most_bytes (size_with r line) then Refused fault.TooLong
    else if not (is_utf8 line) then Refused fault.NotUtf8
    else if list_any (λ b. b == 0) line then Refused fault.HasNul
    else if is_idle r && next_is (λ b. b == 0x2E) (first_byte line) then Command
    else Joins

-- a block with one more line
abbrev pub block_with : Option (List ℕ) → List ℕ → List ℕ
block_with None line = line
block_with (Some block) line = block ++ 0x0A ∷ line

-- a line joins the block, or begins one
abbrev pub with_line : Reading → List ℕ → Reading
with_line r line = record {
  line = numbered (r.line + 1);
  first = if is_some r.block then r.first else r.line;
  block = Some (block_with r.block line);
}

-- no block is begun, and a line comes next
abbrev pub at_line : ℕ → Reading
at_line n = record { line = n; first = n; block = None }

-- a line was taken that is in no block
abbrev pub without_block : Reading → Reading
without_block r = at_line (numbered (r.line + 1))

-- how reading goes on after a line of a role; in a block a line has lost the carriage return at its end, if it had one
abbrev pub after_role : Role → Reading → List ℕ → Reading
after_role (Refused why) r line = without_block r
after_role Command r line = without_block r
after_role Joins r line = with_line r (strip_carriage_return line)

-- what a line gives, beside the statements: a fault or a dot-command, with the line's number
abbrev pub member_of : Role → Reading → List ℕ → List Member
member_of (Refused why) r line = Fault r.line why ∷ []
member_of Command r line = Dot r.line (strip_carriage_return line) ∷ []
member_of Joins r line = []

-- how reading goes on after a line
abbrev pub after_line : Reading → List ℕ → Reading
after_line r line = after_role (role_of r line) r line

-- a line that doesn't join the block closes it: the block's units, and then what the line is
abbrev pub closed_by : Role → Reading → List Member
closed_by Joins r = []
closed_by _ r = units_in r

-- what is given as a line is read
abbrev pub told_by : Reading → List ℕ → List Member
told_by r line = closed_by (role_of r line) r ++ member_of (role_of r line) r line

-- the text that no semicolon ends: incomplete where something in it is open, and else a unit if it has a word (own choice)
abbrev pub last_member : ℕ × List Piece → List Member
last_member tail =
    if list_any is_open tail.1 then Fault (unit_line tail.0 tail.1) (fault.Incomplete (unit_line tail.0 tail.1)) ∷ []
    else if list_any is_word tail.1 then unit_of tail.0 tail.1 ∷ []
    else []

-- what the end of an input gives after a reading, where it ends
abbrev pub end_of : (ends : Bool) → Reading → List Member
end_of true r = last_member (tail_in r)
end_of false r = []

-- the members of the lines that follow a reading
abbrev pub members_from : (ends : Bool) → Reading → List (List ℕ) → List Member
members_from ends r [] = units_in r ++ end_of ends r
members_from ends r (line ∷ lines) = told_by r line ++ members_from ends (after_line r line) lines

-- the units and faults of an input, in order
abbrev pub members_of : List ℕ → List Member
members_of input = members_from true start (lines_of true input)

-- those of its lines that ended, where it may go on: whatever follows, they come first
abbrev pub ended_members : List ℕ → List Member
ended_members input = members_from false start (lines_of false input)
