-- Steps. What clauses see of a splitter (own choice).
use Rattle.std.specs.Prelude.{map, string_bytes}
use Rattle.shell_text.specs.Splitting.{IsKeptText, Splitting, block_as, first_as, member_of_unit}
use Rattle.shell_text.specs.declared.units.Splitter.TheInside.{Inside}

-- a splitter as the reading that it is in, and the units that wait
abbrev pub splitting_of : Inside → Splitting
splitting_of s = record {
  reading = record { line = s.line; first = first_as s.kept s.line; block = block_as s.kept (string_bytes s.text) };
  waiting = map member_of_unit s.waiting.items;
}

-- what a splitter keeps is what was read of its text
abbrev pub IsSplitter : Inside → Type 0
IsSplitter s = IsKeptText s.kept (string_bytes s.text)
