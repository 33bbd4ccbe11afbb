-- Reading each block whole gives the members that reading only what follows the last statement
-- gives.
use Rattle.std.proofs.Common.{◌≡◌, refl, sym, ap, ◌∙◌, ℕ, ◌+◌, Bool, true, false, List, [], ◌∷◌, ◌++◌, Option, Some, None}
use Rattle.std.specs.Prelude.{if◌then◌else◌, length, nat_lt, not, ◌==◌, ◌&&◌}
use Rattle.std.specs.Str.{is_utf8}
use Rattle.std.specs.Str.Lines.{strip_carriage_return}
use Rattle.shell_text.specs.declared.units.SplitFault.TheVariants as fault
use Rattle.std.specs.List.{list_all, list_any, onto_first}
use Rattle.std.proofs.lemmas.List.{append_assoc, append-nil}
use Rattle.shell_text.specs.Words.{Piece, first_byte, is_gap, next_is, pieces_from, pieces_of, text_of}
use Rattle.shell_text.specs.declared.words.Place.TheVariants.{Between}
use Rattle.shell_text.specs.Units.{Member, Reading, Role, Refused, Command, Joins, after_line, after_role, closed_by, ended_unit, ended_units, ends_statement, last_member, line_behind, lines_of, member_of, members_from, most_bytes, numbered, at_semicolons, role_of, start, tail_in, tail_of, units_in, with_line}
use Rattle.shell_text.specs.Splitting.{given_by, without_ended}
use Rattle.shell_text.proofs.Restart.{Cuts, cut, cuts, uncut, text_of-pieces}

-- ---- parts

-- there is a first part
pub record HasFirst (parts : List (List Piece)) : Type 0 where
  pub part : List Piece
  pub more : List (List Piece)
  pub is : parts ≡ part ∷ more

first_onto : (p : Piece) (parts : List (List Piece)) → HasFirst (onto_first p parts)
first_onto p [] = record { part = p ∷ []; more = []; is = refl }
first_onto p (part ∷ more) = record { part = p ∷ part; more = more; is = refl }

first_if : (ends : Bool) (p : Piece) (parts : List (List Piece)) → HasFirst (if ends then (p ∷ []) ∷ parts else onto_first p parts)
first_if true p parts = record { part = p ∷ []; more = parts; is = refl }
first_if false p parts = first_onto p parts

has_first : (ps : List Piece) → HasFirst (at_semicolons ps)
has_first [] = record { part = []; more = []; is = refl }
has_first (p ∷ ps) = first_if (ends_statement p) p (at_semicolons ps)

-- ---- units and tail of parts that go on

abbrev pub end_line : ℕ → List (List Piece) → List Piece → ℕ
end_line n es tail = (tail_of n (es ++ tail ∷ [])).0

tail_end : (es : List (List Piece)) (n : ℕ) (tail : List Piece) → (tail_of n (es ++ tail ∷ [])).1 ≡ tail
tail_end [] n tail = refl
tail_end (e ∷ []) n tail = refl
tail_end (e ∷ f ∷ es) n tail = tail_end (f ∷ es) (line_behind n (text_of e)) tail

units_on : (es : List (List Piece)) (n : ℕ) (tail p : List Piece) (ps : List (List Piece))
    → ended_units n (es ++ p ∷ ps) ≡ ended_units n (es ++ tail ∷ []) ++ ended_units (end_line n es tail) (p ∷ ps)
units_on [] n tail p ps = refl
units_on (e ∷ []) n tail p ps =
    ap (λ us. us ++ ended_units (line_behind n (text_of e)) (p ∷ ps)) (sym (append-nil (ended_unit n e)))
units_on (e ∷ f ∷ es) n tail p ps =
    ap (λ us. ended_unit n e ++ us) (units_on (f ∷ es) (line_behind n (text_of e)) tail p ps)
    ∙ sym (append_assoc (ended_unit n e) (ended_units (line_behind n (text_of e)) (f ∷ es ++ tail ∷ [])) (ended_units (end_line n (e ∷ f ∷ es) tail) (p ∷ ps)))

tail_on : (es : List (List Piece)) (n : ℕ) (tail p : List Piece) (ps : List (List Piece)) → tail_of n (es ++ p ∷ ps) ≡ tail_of (end_line n es tail) (p ∷ ps)
tail_on [] n tail p ps = refl
tail_on (e ∷ []) n tail p ps = refl
tail_on (e ∷ f ∷ es) n tail p ps = tail_on (f ∷ es) (line_behind n (text_of e)) tail p ps

-- the same for parts of any pieces
units_past : (es : List (List Piece)) (n : ℕ) (tail ps : List Piece)
    → ended_units n (es ++ at_semicolons ps) ≡ ended_units n (es ++ tail ∷ []) ++ ended_units (end_line n es tail) (at_semicolons ps)
units_past es n tail ps =
    let f = has_first ps in
    ap (λ parts. ended_units n (es ++ parts)) f.is ∙ units_on es n tail f.part f.more
    ∙ sym (ap (λ parts. ended_units n (es ++ tail ∷ []) ++ ended_units (end_line n es tail) parts) f.is)

tail_past : (es : List (List Piece)) (n : ℕ) (tail ps : List Piece) → tail_of n (es ++ at_semicolons ps) ≡ tail_of (end_line n es tail) (at_semicolons ps)
tail_past es n tail ps =
    let f = has_first ps in
    ap (λ parts. tail_of n (es ++ parts)) f.is ∙ tail_on es n tail f.part f.more ∙ sym (ap (tail_of (end_line n es tail)) f.is)

-- ---- readings

-- without the statements that it ended, a reading goes on as before
pub record GoesOn (r : Reading) : Type 0 where
  pub idle : units_in (without_ended r) ≡ []
  pub tail : tail_in (without_ended r) ≡ tail_in r
  pub units : (line : List ℕ) → units_in (with_line r line) ≡ units_in r ++ units_in (with_line (without_ended r) line)
  pub tails : (line : List ℕ) → tail_in (with_line r line) ≡ tail_in (with_line (without_ended r) line)

abbrev pub reading : ℕ → ℕ → List ℕ → Reading
reading at_line first text = record { line = at_line; first = first; block = Some text }

abbrev pub with_parts : ℕ → ℕ → List (List Piece) → Reading
with_parts at_line first parts = reading at_line (tail_of first parts).0 (text_of (tail_of first parts).1)

goes_uncut : (at_line first : ℕ) (text : List ℕ) → at_semicolons (pieces_of text) ≡ pieces_of text ∷ [] → GoesOn (reading at_line first text)
goes_uncut at_line first text h =
    let r = reading at_line first text in
    let same : without_ended r ≡ r = ap (with_parts at_line first) h ∙ ap (reading at_line first) (text_of-pieces text Between) in
    let none : units_in r ≡ [] = ap (ended_units first) h in
    record {
      idle = ap units_in same ∙ none;
      tail = ap tail_in same;
      units = λ line. sym (ap (λ s. units_in r ++ units_in (with_line s line)) same ∙ ap (λ us. us ++ units_in (with_line r line)) none);
      tails = λ line. sym (ap (λ s. tail_in (with_line s line)) same);
    }

goes_cut : (at_line first : ℕ) (text : List ℕ) (es : List (List Piece)) (tail : List ℕ) → at_semicolons (pieces_of text) ≡ es ++ pieces_of tail ∷ [] → at_semicolons (pieces_of tail) ≡ pieces_of tail ∷ []
    → ((more : List ℕ) → at_semicolons (pieces_of (text ++ more)) ≡ es ++ at_semicolons (pieces_of (tail ++ more))) → GoesOn (reading at_line first text)
goes_cut at_line first text es tail h u g =
    let r = reading at_line first text in
    let at = end_line first es (pieces_of tail) in
    let same : without_ended r ≡ reading at_line at tail =
    ap (with_parts at_line first) h ∙ ap (λ ps. reading at_line at (text_of ps)) (tail_end es first (pieces_of tail)) ∙ ap (reading at_line at) (text_of-pieces tail Between) in
    record {
      idle = ap units_in same ∙ ap (ended_units at) u;
      tail = ap tail_in same ∙ ap (tail_of at) u ∙ sym (ap (tail_of first) h ∙ ap (λ ps. (at, ps)) (tail_end es first (pieces_of tail)));
      units = λ line. ap (ended_units first) (g (0x0A ∷ line)) ∙ units_past es first (pieces_of tail) (pieces_of (tail ++ 0x0A ∷ line))
          ∙ sym (ap (λ s. units_in r ++ units_in (with_line s line)) same ∙ ap (λ us. us ++ units_in (with_line (reading at_line at tail) line)) (ap (ended_units first) h));
      tails = λ line. ap (tail_of first) (g (0x0A ∷ line)) ∙ tail_past es first (pieces_of tail) (pieces_of (tail ++ 0x0A ∷ line)) ∙ sym (ap (λ s. tail_in (with_line s line)) same);
    }

goes_text : (at_line first : ℕ) (text : List ℕ) → Cuts Between text → GoesOn (reading at_line first text)
goes_text at_line first text (uncut h) = goes_uncut at_line first text h
goes_text at_line first text (cut part ended tail h u g) = goes_cut at_line first text (part ∷ ended) tail h u g

goes_block : (at_line first : ℕ) (block : Option (List ℕ)) → GoesOn (record { line = at_line; first = first; block = block })
unfolding pieces_from
goes_block at_line first None = record { idle = refl; tail = refl; units = λ line. refl; tails = λ line. refl }
goes_block at_line first (Some text) = goes_text at_line first text (cuts text Between)

pub goes_on : (r : Reading) → GoesOn r
goes_on r = goes_block r.line r.first r.block

-- ---- lines

-- what a line is, by what is pending
abbrev pub role_by : List ℕ → ℕ × List Piece → Role
role_by line tail =
    if nat_lt most_bytes ((if list_all is_gap tail.1 then 0 else length (if list_all is_gap tail.1 then [] else text_of tail.1) + 1) + length line) then Refused fault.TooLong
    else if not (is_utf8 line) then Refused fault.NotUtf8
    else if list_any (λ b. b == 0) line then Refused fault.HasNul
    else if list_all is_gap tail.1 && next_is (λ b. b == 0x2E) (first_byte line) then Command
    else Joins

same_role : (r : Reading) (line : List ℕ) → role_of (without_ended r) line ≡ role_of r line
same_role r line = ap (role_by line) (goes_on r).tail

closes : (a m u g x : List Member) → x ≡ u ++ g → (a ++ m) ++ x ≡ a ++ ((m ++ u) ++ g)
closes a m u g x is = append_assoc a m x ∙ ap (λ z. a ++ z) (ap (λ y. m ++ y) is ∙ sym (append_assoc m u g))

continues : (a u v g h x : List Member) → x ≡ u ++ g → u ≡ a ++ v → g ≡ h → x ≡ a ++ (v ++ h)
continues a u v g h x is units rest = is ∙ ap (λ y. y ++ g) units ∙ append_assoc a v g ∙ ap (λ y. a ++ (v ++ y)) rest

-- one line, where the lines after it give the same
one_line : (ends : Bool) (role : Role) (r : Reading) (line : List ℕ) (lines : List (List ℕ))
    → members_from ends (after_role role r line) lines ≡ units_in (after_role role r line) ++ given_by ends (without_ended (after_role role r line)) lines
    → (closed_by role r ++ member_of role r line) ++ members_from ends (after_role role r line) lines
    ≡ units_in r ++ ((member_of role (without_ended r) line ++ units_in (after_role role (without_ended r) line))
    ++ given_by ends (without_ended (after_role role (without_ended r) line)) lines)
one_line ends (Refused why) r line lines h =
    closes (units_in r) (member_of (Refused why) r line) (units_in (after_role (Refused why) r line))
    (given_by ends (without_ended (after_role (Refused why) r line)) lines) (members_from ends (after_role (Refused why) r line) lines) h
one_line ends Command r line lines h =
    closes (units_in r) (member_of Command r line) (units_in (after_role Command r line))
    (given_by ends (without_ended (after_role Command r line)) lines) (members_from ends (after_role Command r line) lines) h
one_line ends Joins r line lines h =
    let kept = strip_carriage_return line in
    let again : ℕ × List Piece → Reading = λ t. record { line = numbered (r.line + 1); first = t.0; block = Some (text_of t.1) } in
    continues (units_in r) (units_in (with_line r kept)) (units_in (with_line (without_ended r) kept)) (given_by ends (without_ended (with_line r kept)) lines)
    (given_by ends (without_ended (with_line (without_ended r) kept)) lines) (members_from ends (with_line r kept) lines)
    h ((goes_on r).units kept) (ap (λ s. given_by ends s lines) (ap again ((goes_on r).tails kept)))

pub members_from-given : (ends : Bool) (lines : List (List ℕ)) (r : Reading) → members_from ends r lines ≡ units_in r ++ given_by ends (without_ended r) lines
members_from-given true [] r = ap (λ t. units_in r ++ last_member t) (sym (goes_on r).tail)
members_from-given false [] r = refl
members_from-given ends (line ∷ lines) r =
    one_line ends (role_of r line) r line lines (members_from-given ends lines (after_line r line))
    ∙ sym (ap (λ role. units_in r ++ ((member_of role (without_ended r) line ++ units_in (after_role role (without_ended r) line))
    ++ given_by ends (without_ended (after_role role (without_ended r) line)) lines)) (same_role r line))

-- the members of an input are those that reading only what is pending gives
pub members-given : (ends : Bool) (input : List ℕ) → members_from ends start (lines_of ends input) ≡ given_by ends start (lines_of ends input)
unfolding pieces_from
members-given ends input = members_from-given ends (lines_of ends input) start
