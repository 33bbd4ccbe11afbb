-- What a splitter keeps, as readings.
use Rattle.std.proofs.Common.{◌≡◌, refl, sym, ap, subst, ◌∙◌, ℕ, ◌+◌, ◌-◌, ◌≤◌, arith, Bool, true, false, List, [], ◌∷◌, ◌++◌, length, take, drop, Option, Some, None, Ok}
use Rattle.std.specs.Prelude.{if◌then◌else◌, is_some, is_none, nat_le, nat_lt, not, unwrap_or, ◌&&◌, ◌==◌}
use Rattle.std.specs.List.{list_all, list_any}
use Rattle.std.specs.Str.{IsUtf8, is_utf8}
use Rattle.std.specs.Str.Lines.{strip_carriage_return}
use Rattle.std.proofs.lemmas.Bool.Decides.{nat_tests}
use Rattle.std.proofs.lemmas.List.{append-nil, take_at, drop_at}
use Rattle.std.proofs.lemmas.Str.{IsUtf8-from_is_utf8}
use Rattle.shell_text.specs.Words.{Piece, first_byte, is_gap, next_is, pieces_from, pieces_of, text_of}
use Rattle.shell_text.specs.Units.{Member, Dot, Fault, Reading, Role, Refused, Command, after_role, ended_units, is_idle, block_with, last_member, member_of, most_bytes, numbered, at_semicolons, pending_in, role_of, size_with, tail_in, tail_of, units_in, with_line, without_block}
use Rattle.shell_text.specs.Lexed.{KeepsPending, handed, is_between, last_of}
use Rattle.shell_text.specs.Splitting.{IsAccepted, IsKeptText, Splitting, TakesLine, TakesText, block_as, emptied, first_as, without_ended}
use Rattle.shell_text.specs.declared.units.SplitFault.TheVariants as fault
use Rattle.shell_text.specs.declared.units.Pending.{Pending}
use Rattle.shell_text.specs.declared.units.Spot.{Spot}
use Rattle.shell_text.specs.declared.words.Place.TheVariants.{Between}
use Rattle.shell_text.proofs.Keeping.{at_end, keeps_on}
use Rattle.shell_text.proofs.Restart.{text_of-pieces}

pub start_keeps : (kept : Option Pending) (text line whole : List ℕ) (fresh : Pending) → IsKeptText kept text → whole ≡ text ++ (if is_some kept then 0x0A ∷ line else line) → ((rest : List ℕ) → KeepsPending [] rest fresh)
    → KeepsPending (take (length text) whole) (drop (length text) whole) (unwrap_or kept fresh)
start_keeps None text line whole fresh k e f =
    subst (λ w. KeepsPending (take (length text) w) (drop (length text) w) fresh) (sym e)
    (subst (λ t. KeepsPending (take (length t) (t ++ line)) (drop (length t) (t ++ line)) fresh) (sym k) (f line))
start_keeps (Some p) text line whole fresh k e f =
    subst (λ w. KeepsPending (take (length text) w) (drop (length text) w) p) (sym e)
    (subst (λ t. KeepsPending t (drop (length text) (text ++ 0x0A ∷ line)) p) (sym (take_at text (0x0A ∷ line) (length text) refl))
    (subst (λ t. KeepsPending text t p) (sym (drop_at text (0x0A ∷ line) (length text) refl)) (keeps_on line k)))

-- ---- readings

abbrev pub reading_of : Option Pending → ℕ → List ℕ → Reading
reading_of kept line text = record { line = line; first = first_as kept line; block = block_as kept text }

abbrev pub idle_as : Option Pending → Bool
idle_as None = true
idle_as (Some p) = is_between p.place && is_none p.word

abbrev pub last_as : Option Pending → List ℕ → List Member
last_as None text = []
last_as (Some p) text = last_of p text

pub record KeptReading (kept : Option Pending) (line : ℕ) (text : List ℕ) : Type 0 where
  pub tail : tail_in (reading_of kept line text) ≡ (first_as kept line, pieces_of text)
  pub idle : is_idle (reading_of kept line text) ≡ idle_as kept
  pub last : last_member (tail_in (reading_of kept line text)) ≡ last_as kept text

pub kept_reading : (kept : Option Pending) (line : ℕ) (text : List ℕ) → IsKeptText kept text → KeptReading kept line text
unfolding pieces_from
kept_reading None line text k = record { tail = ap (λ t. (line, pieces_of t)) (sym k); idle = refl; last = refl }
kept_reading (Some p) line text k =
    let end = at_end k in
    let tail : tail_in (reading_of (Some p) line text) ≡ (p.first, pieces_of text) = ap (tail_of p.first) end.one in
    record { tail = tail; idle = ap (λ t. list_all is_gap t.1) tail ∙ end.idle; last = ap last_member tail ∙ end.last }

pub kept_pending : (kept : Option Pending) (line : ℕ) (text : List ℕ) → IsKeptText kept text → is_idle (reading_of kept line text) ≡ false → pending_in (reading_of kept line text) ≡ text
kept_pending kept line text k h =
    let r = kept_reading kept line text k in
    ap (λ b. if b then [] else text_of (tail_in (reading_of kept line text)).1) h ∙ ap (λ t. text_of t.1) r.tail ∙ text_of-pieces text Between

pub is_full_by : (size len n : ℕ) (idle : Bool) → size ≤ 1000000 → idle ≡ false → len ≡ n → nat_le (1000000 - size) len ≡ nat_lt 1000000 ((if idle then 0 else n + 1) + size)
is_full_by size len n idle h e f = ap (λ m. nat_le (1000000 - size) m) f ∙ same size n h ∙ sym (ap (λ b. nat_lt 1000000 ((if b then 0 else n + 1) + size)) e)
  where
    same : (size n : ℕ) → size ≤ 1000000 → nat_le (1000000 - size) n ≡ nat_lt 1000000 (n + 1 + size)
    same size n h = grind (arith, nat_tests)

first_is : (kept : Option Pending) (line : ℕ) (text : List ℕ) → (if is_some (block_as kept text) then first_as kept line else line) ≡ first_as kept line
first_is None line text = refl
first_is (Some p) line text = refl

-- a line that was joined
abbrev pub splitting : Reading → List Member → Splitting
splitting reading waiting = record { reading = reading; waiting = waiting }

pub joined_view : (kept : Option Pending) (line : ℕ) (text added : List ℕ) (told now : List Member) (new : List ℕ) (p : Pending) → TakesText (first_as kept line) (block_with (block_as kept text) added) told now new p
    → splitting (reading_of (Some p) (numbered (line + 1)) new) now ≡ splitting (without_ended (with_line (reading_of kept line text) added)) (told ++ units_in (with_line (reading_of kept line text) added))
joined_view kept line text added told now new p t =
    let parts = at_semicolons (pieces_of (block_with (block_as kept text) added)) in
    let from : ℕ × List Piece → List Member → Splitting = λ tail units. splitting (record { line = numbered (line + 1); first = tail.0; block = Some (text_of tail.1) }) (told ++ units) in
    ap (λ w. splitting (reading_of (Some p) (numbered (line + 1)) new) w) t.units
    ∙ ap (λ b. splitting (reading_of (Some p) (numbered (line + 1)) b) (told ++ ended_units (first_as kept line) parts)) (sym (text_of-pieces new Between))
    ∙ ap (λ tail. from tail (ended_units (first_as kept line) parts)) (sym t.tail)
    ∙ ap (λ n. from (tail_of n parts) (ended_units n parts)) (sym (first_is kept line text))

-- ---- what `line` answers

pub command_taken : (line text : List ℕ) (old new : Splitting) (u : Unit) → role_of old.reading line ≡ Command → text ≡ strip_carriage_return line
    → new ≡ splitting (without_block old.reading) (old.waiting ++ Dot old.reading.line text ∷ []) → TakesLine line old new (Ok u)
unfolding pieces_from
command_taken line text old new u e f g = (
  subst IsAccepted (sym e) tt,
  ap (λ s. s.reading) g ∙ ap (λ role. without_ended (after_role role old.reading line)) (sym e),
  ap (λ s. s.waiting) g ∙ ap (λ t. old.waiting ++ Dot old.reading.line t ∷ []) f ∙ sym (append-nil (old.waiting ++ Dot old.reading.line (strip_carriage_return line) ∷ []))
      ∙ ap (λ role. (old.waiting ++ member_of role old.reading line) ++ units_in (after_role role old.reading line)) (sym e),
)

-- no line is refused for memory
NoMemory : Role → Type 0
NoMemory (Refused fault.Memory) = ⊥
NoMemory _ = Unit {0}

no_memory : (r : Reading) (line : List ℕ) → NoMemory (role_of r line)
unfolding NoMemory
no_memory r line =
    either (nat_lt most_bytes (size_with r line)) _ _ tt
    (either (not (is_utf8 line)) _ _ tt (either (list_any (λ b. b == 0) line) _ _ tt (either (is_idle r && next_is (λ b. b == 0x2E) (first_byte line)) _ _ tt tt)))
  where
    either : (b : Bool) (x y : Role) → NoMemory x → NoMemory y → NoMemory (if b then x else y)
    either true x y px py = px
    either false x y px py = py

-- ---- what a line is

pub not_utf8 : (bytes : List ℕ) → ¬ (IsUtf8 bytes) → is_utf8 bytes ≡ false
not_utf8 bytes h = by_test (is_utf8 bytes) refl
  where
    by_test : (b : Bool) → is_utf8 bytes ≡ b → is_utf8 bytes ≡ false
    by_test true e = absurd (h (IsUtf8-from_is_utf8 bytes e))
    by_test false e = e

-- ---- what `finish` answers

pub none_emptied : (kept : Option Pending) (line : ℕ) (text : List ℕ) (waiting : List Member) → kept ≡ None → splitting (reading_of kept line text) waiting ≡ emptied (splitting (reading_of kept line text) waiting)
none_emptied kept line text waiting e = subst (λ k. splitting (reading_of k line text) waiting ≡ emptied (splitting (reading_of k line text) waiting)) (sym e) refl

pub kept_keeps : (kept : Option Pending) (p : Pending) (text : List ℕ) → kept ≡ Some p → IsKeptText kept text → KeepsPending text [] p
kept_keeps kept p text e k = subst (λ o. IsKeptText o text) e k

pub last_open : (p : Pending) (text : List ℕ) (n : ℕ) → is_between p.place ≡ false → n ≡ (unwrap_or p.word p.piece).line → last_of p text ≡ Fault n (fault.Incomplete n) ∷ []
last_open p text n e f =
    ap (λ b. if b then handed p.word text else (let line = (unwrap_or p.word p.piece).line in Fault line (fault.Incomplete line) ∷ [])) e
    ∙ ap (λ line. Fault line (fault.Incomplete line) ∷ []) (sym f)

pub last_closed : (p : Pending) (text : List ℕ) (word : Option Spot) → is_between p.place ≡ true → p.word ≡ word → last_of p text ≡ handed word text
last_closed p text word e f =
    ap (λ b. if b then handed p.word text else (let line = (unwrap_or p.word p.piece).line in Fault line (fault.Incomplete line) ∷ [])) e ∙ ap (λ w. handed w text) f
