-- What the loop keeps that reads a text from a byte on.
use Rattle.std.proofs.Common.{◌≡◌, sym, ap, subst, ◌∙◌, ℕ, ◌+◌, ◌-◌, ◌<◌, ◌≤◌, arith, true, List, [], ◌∷◌, ◌++◌, length, take, drop, Option, get_or}
use Rattle.std.specs.Prelude.{slice_get, IsCharBoundary}
use Rattle.std.specs.Option.{ForSome}
use Rattle.std.specs.Str.{IsUtf8}
use Rattle.std.proofs.lemmas.List.{append_assoc, append-nil, take-append-drop, drop-drop, take_all, drop_all, length-drop, length-take, take-take, length-take-le, get_or-take, get_or-drop}
use Rattle.std.proofs.lemmas.Str.{IsUtf8-drop, IsCharBoundary-after_ascii, IsCharBoundary-start}
use Rattle.shell_text.specs.Words.{turn, first_byte, pieces_of}
use Rattle.shell_text.specs.Units.{Member, ended_units, at_semicolons, tail_of}
use Rattle.shell_text.specs.Lexed.{KeepsPending, Splits, handed, is_semicolon}
use Rattle.shell_text.specs.declared.words.SqlKind.{SqlKind}
use Rattle.shell_text.specs.declared.words.SqlKind.TheVariants as kinds
use Rattle.shell_text.specs.declared.words.Place.{Place}
use Rattle.shell_text.specs.declared.words.Turn.{Turn}
use Rattle.std.proofs.lemmas.Bool.{eqb-true}
use Rattle.shell_text.specs.declared.units.Pending.{Pending}
use Rattle.shell_text.proofs.WordLoop.{IsByte, is_byte, first_byte-drop}
use Rattle.shell_text.proofs.Keeping.{EndsStatement, at_end, byte_line, word_boundary, word_within}

pub record ReadTo (n : ℕ) (text : List ℕ) (told now : List Member) (cut i : ℕ) (p : Pending) : Type 0 where
  pub units : now ++ ended_units p.first (at_semicolons (pieces_of (drop cut text))) ≡ told ++ ended_units n (at_semicolons (pieces_of text))
  pub tail : tail_of n (at_semicolons (pieces_of text)) ≡ tail_of p.first (at_semicolons (pieces_of (drop cut text)))
  pub keeps : KeepsPending (take (i - cut) (drop cut text)) (drop i text) p
  pub low : cut ≤ i
  pub boundary : IsCharBoundary text cut

sub-zero : (i : ℕ) → i ≡ i - 0
sub-zero i = omega arith

pub read_none : (n : ℕ) (text : List ℕ) (told : List Member) (i : ℕ) (p : Pending) → IsUtf8 text → p.first ≡ n → KeepsPending (take i text) (drop i text) p → ReadTo n text told told 0 i p
read_none n text told i p utf8 e k = record {
  units = ap (λ m. told ++ ended_units m (at_semicolons (pieces_of text))) e;
  tail = ap (λ m. tail_of m (at_semicolons (pieces_of text))) (sym e);
  keeps = subst (λ m. KeepsPending (take m text) (drop i text) p) (sub-zero i) k;
  low = omega arith;
  boundary = IsCharBoundary-start text utf8;
}

-- the byte, as one of the pending text
byte_in : (text : List ℕ) (i b cut : ℕ) → IsByte text i b → cut ≤ i → IsByte (drop cut text) (i - cut) b
byte_in text i b cut at low =
    is_byte (drop cut text) (i - cut) b
    (let within = at.within in omega (arith, length-drop cut text))
    (get_or-drop cut text (i - cut) 0 ∙ ap (λ n. get_or text n 0) (let same : cut + (i - cut) ≡ i = omega arith in same) ∙ at.byte)

-- what is read of the pending text, with a byte more
pub front_more : (text : List ℕ) (i b cut : ℕ) → IsByte text i b → cut ≤ i → take (i + 1 - cut) (drop cut text) ≡ take (i - cut) (drop cut text) ++ b ∷ []
front_more text i b cut at low =
    ap (λ n. take n (drop cut text)) (let more : i + 1 - cut ≡ i - cut + 1 = omega arith in more) ∙ (byte_in text i b cut at low).front

pub length_front : (text : List ℕ) (i b cut : ℕ) → IsByte text i b → cut ≤ i → length (take (i - cut) (drop cut text)) ≡ i - cut
length_front text i b cut at low =
    let within = (byte_in text i b cut at low).within in
    let inside : i - cut ≤ length (drop cut text) = omega arith in
    length-take-le (i - cut) (drop cut text) inside

-- the pending text, split at the byte
pub whole_front : (text : List ℕ) (i b cut : ℕ) → IsByte text i b → cut ≤ i → take (i - cut) (drop cut text) ++ b ∷ drop (i + 1) text ≡ drop cut text
whole_front text i b cut at low =
    ap (λ r. take (i - cut) (drop cut text) ++ r) (sym at.rest ∙ ap (λ n. drop n text) (let same : i ≡ cut + (i - cut) = omega arith in same) ∙ sym (drop-drop (i - cut) cut text))
    ∙ take-append-drop (i - cut) (drop cut text)

turned : (text : List ℕ) (i : ℕ) → slice_get text (i + 1) ≡ first_byte (drop (i + 1) text)
turned text i = sym (first_byte-drop text (i + 1))

-- a byte that ends no statement
pub read_more : {n : ℕ} {text : List ℕ} {told now : List Member} {cut i : ℕ} {p : Pending} (b : ℕ) (q : Pending) → IsByte text i b → ReadTo n text told now cut i p → q.first ≡ p.first
    → KeepsPending (take (i - cut) (drop cut text) ++ b ∷ []) (drop (i + 1) text) q → ReadTo n text told now cut (i + 1) q
read_more {n} {text} {told} {now} {cut} {i} {p} b q at r e k = record {
  units = ap (λ m. now ++ ended_units m (at_semicolons (pieces_of (drop cut text)))) e ∙ r.units;
  tail = r.tail ∙ ap (λ m. tail_of m (at_semicolons (pieces_of (drop cut text)))) (sym e);
  keeps = subst (λ before. KeepsPending before (drop (i + 1) text) q) (sym (front_more text i b cut at r.low)) k;
  low = let low = r.low in omega arith;
  boundary = r.boundary;
}

pub keeps_at : {n : ℕ} {text : List ℕ} {told now : List Member} {cut i : ℕ} {p : Pending} (b : ℕ) → IsByte text i b → ReadTo n text told now cut i p
    → KeepsPending (take (i - cut) (drop cut text)) (b ∷ drop (i + 1) text) p
keeps_at {n} {text} {told} {now} {cut} {i} {p} b at r = subst (λ rest. KeepsPending (take (i - cut) (drop cut text)) rest p) at.rest r.keeps

-- a byte that ends a statement
pub read_semicolon : {n : ℕ} {text : List ℕ} {told now : List Member} {cut i : ℕ} {p : Pending} (b : ℕ) (q : Pending) (later : List Member) → IsUtf8 text → b < 128 → IsByte text i b → ReadTo n text told now cut i p
    → EndsStatement (take (i - cut) (drop cut text)) (drop (i + 1) text) b p → later ≡ now ++ handed p.word (take (i + 1 - cut) (drop cut text)) → q.first ≡ byte_line p b → KeepsPending [] (drop (i + 1) text) q
    → ReadTo n text told later (i + 1) (i + 1) q
read_semicolon {n} {text} {told} {now} {cut} {i} {p} b q later utf8 low at r ends told_now first k =
    let front = take (i - cut) (drop cut text) in
    let rest = drop (i + 1) text in
    let same : front ++ b ∷ rest ≡ drop cut text = whole_front text i b cut at r.low in
    record {
      units = ap (λ us. us ++ ended_units q.first (at_semicolons (pieces_of rest))) told_now
          ∙ ap (λ m. (now ++ handed p.word (take (i + 1 - cut) (drop cut text))) ++ ended_units m (at_semicolons (pieces_of rest))) first
          ∙ append_assoc now (handed p.word (take (i + 1 - cut) (drop cut text))) (ended_units (byte_line p b) (at_semicolons (pieces_of rest)))
          ∙ ap (λ t. now ++ (handed p.word t ++ ended_units (byte_line p b) (at_semicolons (pieces_of rest)))) (front_more text i b cut at r.low)
          ∙ ap (λ us. now ++ us) (sym ends.units) ∙ ap (λ t. now ++ ended_units p.first (at_semicolons (pieces_of t))) same ∙ r.units;
      tail = r.tail ∙ ap (λ t. tail_of p.first (at_semicolons (pieces_of t))) (sym same) ∙ ends.tail ∙ ap (λ m. tail_of m (at_semicolons (pieces_of rest))) (sym first);
      keeps = subst (λ m. KeepsPending (take m rest) rest q) (let none : 0 ≡ i + 1 - (i + 1) = omega arith in none) k;
      low = omega arith;
      boundary = IsCharBoundary-after_ascii text i utf8 at.within (subst (λ c. c < 128) (sym at.byte) low);
    }

cut_in_front : (text : List ℕ) (k at : ℕ) → IsCharBoundary text at → at < k → at ≤ length (take k text) → IsCharBoundary (take k text) at
cut_in_front text k at h within inside =
    let same : get_or (take k text) at 0 ≡ get_or text at 0 = get_or-take k text at 0 within in
    (inside, λ short wide. let shorter : at < length text = omega (arith, length-take k text) in subst (λ c. 192 ≤ c) (sym same) (h.1 shorter (subst (λ c. 128 ≤ c) same wide)))

-- the statement's text may be cut where its first word begins
pub word_cut : {n : ℕ} {text : List ℕ} {told now : List Member} {cut i : ℕ} {p : Pending} (b : ℕ) → IsUtf8 text → IsByte text i b → ReadTo n text told now cut i p
    → ForSome p.word (λ w. IsCharBoundary (take (i + 1 - cut) (drop cut text)) w.at)
word_cut {n} {text} {told} {now} {cut} {i} {p} b utf8 at r w e =
    let text' = drop cut text in
    let front = take (i - cut) text' in
    let whole = whole_front text i b cut at r.low in
    let k = keeps_at b at r in
    let here : w.at ≤ length front = word_within w k e in
    let long : length front ≡ i - cut = length_front text i b cut at r.low in
    let within = (byte_in text i b cut at r.low).within in
    let low = r.low in
    cut_in_front text' (i + 1 - cut) w.at
    (subst (λ t. IsCharBoundary t w.at) whole (word_boundary w k e (subst IsUtf8 (sym whole) (IsUtf8-drop text cut utf8 r.boundary))))
    (omega arith) (omega (arith, length-take (i + 1 - cut) text'))

-- all is read
pub read_all : {n : ℕ} {text : List ℕ} {told now : List Member} {cut i : ℕ} {p : Pending} → length text ≤ i → i ≤ length text → ReadTo n text told now cut i p → Splits n text told now cut p
read_all {n} {text} {told} {now} {cut} {i} {p} past within r =
    let low = r.low in
    let full : length (drop cut text) ≤ i - cut = omega (arith, length-drop cut text) in
    let k : KeepsPending (drop cut text) [] p =
    subst (λ before. KeepsPending before [] p) (take_all (i - cut) (drop cut text) full) (subst (λ rest. KeepsPending (take (i - cut) (drop cut text)) rest p) (drop_all i text past) r.keeps) in
    let end = at_end k in
    record {
      units = sym (append-nil now) ∙ ap (λ ps. now ++ ended_units p.first ps) (sym end.one) ∙ r.units;
      tail = r.tail ∙ ap (tail_of p.first) end.one;
      keeps = k;
      within = let low = r.low in omega arith;
      boundary = r.boundary;
    }

-- ---- the code's steps

pub semicolon_low : (kind : SqlKind) (b : ℕ) → is_semicolon kind b ≡ true → b < 128
semicolon_low kinds.Word b h = cc
semicolon_low kinds.Quoted b h = cc
semicolon_low kinds.Text b h = cc
semicolon_low kinds.Number b h = cc
semicolon_low kinds.Symbol b h = let e : b ≡ 0x3B = eqb-true b 0x3B h in omega arith

pub turned_at : (text : List ℕ) (i b : ℕ) (place : Place) (t : Turn) (next : Option ℕ) → next ≡ slice_get text (i + 1) → t ≡ turn place b next → turn place b (first_byte (drop (i + 1) text)) ≡ t
turned_at text i b place t next e h = sym (h ∙ ap (turn place b) (e ∙ turned text i))

pub behind_cut : {n : ℕ} {text : List ℕ} {told now : List Member} {cut i : ℕ} {p : Pending} (b : ℕ) → IsByte text i b → ReadTo n text told now cut i p → i + 1 - cut ≡ length (take (i - cut) (drop cut text)) + 1
behind_cut {n} {text} {told} {now} {cut} {i} {p} b at r = let long = length_front text i b cut at r.low in let low = r.low in omega arith

-- the units that waited are still there
pub still : {T : Type 0} (first now later : List T) → take (length first) now ≡ first → take (length now) later ≡ now → take (length first) later ≡ first
still first now later e f =
    let short : length first ≤ length now = omega (arith, ap length e, length-take (length first) now) in
    sym (take-take (length first) (length now) later short) ∙ ap (take (length first)) f ∙ e
