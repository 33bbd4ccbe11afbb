-- From the pieces of an input to a whole run.
use Rattle.std.proofs.Common.{◌≡◌, ◌≢◌, ◌⊎◌, ℕ, zero, suc, ◌+◌, ◌-◌, ◌^◌, ◌<◌, ◌≤◌, Bool, true, false, ◌||◌, List, [], ◌∷◌, ◌++◌, length, take, drop, Option, Some, None, Result, Err, refl, sym, ap, subst, ◌∙◌, arith, append-nil, append_assoc, length-append, inl, inr}
use Rattle.std.proofs.Math.Seq.{take-append-add, take-append_seam, drop-append_seam}
use Rattle.shell_text.specs.Units.{Member, ended_members, lines_of, members_from, members_of, start}
use Rattle.shell_text.specs.Splitting.{given_by}
use Rattle.shell_io.specs.declared.run.Status.{Status}
use Rattle.shell_io.specs.declared.run.RunFault.{RunFault}
use Rattle.shell_io.specs.LinesRead.{HasNoEnd, LinesRead, Way, at_end, behind, members_left}
use Rattle.shell_io.proofs.{none_left, appends_kept}
use Rattle.ft_shell.proofs.Common.{Consumes, IsAtEnd, Keeps, take_all, take-append-drop, Ghosts, Shell, Effects, Turns, Session, Begins, Moment, Did, Passes, Breaks, Ends, IsInside, Console, EndedDone, IsWhole, IsFront, Completes, Stops}
use Rattle.ft_shell.proofs.TurnsLemmas.{turns_ended}
use Rattle.ft_shell.proofs.RanLemmas.{breaks_after, breaks_none, breaks_then, passes_as, passes_none, passes_then}
use Rattle.shell_io.specs.declared.run.RunFault.TheVariants as causes

-- ---- lists and readers

pub nil_of : {X : Type 0} (xs : List X) → length xs ≡ 0 → xs ≡ []
nil_of [] e = refl
nil_of (x ∷ xs) e = absurd (omega (arith, e))

-- a front of two texts, of which the first is in it
take_both : (most room : ℕ) (xs ys : List ℕ) → length xs ≤ most → room ≡ most - length xs → take most (xs ++ ys) ≡ take most xs ++ take room ys
take_both most room xs ys h is =
    let sum : most ≡ length xs + room = omega (arith, h, is) in
    ap (λ m. take m (xs ++ ys)) sum ∙ take-append-add xs ys room ∙ ap (λ t. t ++ take room ys) (sym (take_all most xs h))

consumes_then : (a b c : Option (List ℕ)) (x y : List ℕ) → Consumes a b x → Consumes b c y → Consumes a c (x ++ y)
consumes_then None b c x y h k = tt
consumes_then (Some p) None c x y h k = absurd h
consumes_then (Some p) (Some q) None x y h k = absurd k
consumes_then (Some p) (Some q) (Some r) x y h k = h ∙ ap (λ z. x ++ z) k ∙ sym (append_assoc x y r)

pub consumes_none : (a b : Option (List ℕ)) → Keeps a b → Consumes a b []
consumes_none None b kept = tt
consumes_none (Some p) None kept = absurd kept
consumes_none (Some p) (Some q) kept = sym kept

keeps_same : (a : Option (List ℕ)) → Keeps a a
keeps_same None = tt
keeps_same (Some p) = refl

-- ---- pieces

module _ {P S : Type 0} (g : Ghosts P) (h : Ghosts S) where
  -- So many bytes were read. They are taken, as far as there is room; without any the input is at
  -- its end, and what was left of it is done.
  pub record HasRead (room n : ℕ) (before after : Option (List ℕ)) (fed left : LinesRead) (old new : Moment P S) : Type 0 where
    pub bytes : List ℕ
    pub consumed : Consumes before after bytes
    pub size : length bytes ≡ n
    pub goes : 0 < n → Passes g h (λ (way : Way). members_left fed (behind (take room bytes) way)) (members_left left) old new
    pub ends : n ≡ 0 → IsAtEnd after × Passes g h (λ (_ : Unit {0}). members_left fed at_end) (λ _. []) old new

  -- Bytes were read, and the run is cut short: in the part of them that there is room for, or at
  -- the end of the input.
  pub record Interrupted (fault : RunFault) (room : ℕ) (before after : Option (List ℕ)) (fed : LinesRead) (old new : Moment P S) : Type 0 where
    pub bytes : List ℕ
    pub consumed : Consumes before after bytes
    pub cause : IsInside g h fault
    pub breaks : Breaks g h fault (λ (way : Way). members_left fed (behind (take room bytes) way)) old new ⊎ ((bytes ≡ []) × IsAtEnd after × Breaks g h fault (λ (_ : Unit {0}). members_left fed at_end) old new)

-- ---- a run so far

-- the moment at which a run begins
abbrev pub opening : {P S : Type 0} → Shell P S → Option (List ℕ) → Option (List ℕ) → Moment P S
opening shell out err = record { shell = shell; status = record { faults = 0; quit = false }; out = out; err = err }

-- the members of an input of which these bytes come first
abbrev pub members_by : List ℕ → Way → List Member
members_by read way = members_from way.ends start (lines_of way.ends (read ++ way.rest))

-- it goes on with these bytes and ends there, or nothing more is known of it
abbrev ending : List ℕ → Way
ending rest = record { rest = rest; ends = true }

abbrev going_on : Way
going_on = record { rest = []; ends = false }

-- what was read, and was run as far as it isn't too much
pub record SoFar {P S : Type 0} (g : Ghosts P) (h : Ghosts S) (most total : ℕ) (before after : Option (List ℕ)) (left : LinesRead) (old new : Moment P S) : Type 0 where
  pub read : List ℕ
  pub consumed : Consumes before after read
  pub size : length read ≡ total
  pub passes : Passes g h (members_by (take most read)) (members_left left) old new

-- the law of reading on
abbrev pub ReadsOn : Type 0
ReadsOn = (ends : Bool) (input : List ℕ) → members_from ends start (lines_of ends input) ≡ given_by ends start (lines_of ends input)

pub so_far_none : {P S : Type 0} (g : Ghosts P) (h : Ghosts S) (most : ℕ) (before : Option (List ℕ)) (left : LinesRead) (a : Moment P S) → ReadsOn → left ≡ record { splitting = record { reading = start; waiting = [] }; line = [] } → SoFar g h most 0 before before left a a
so_far_none g h most before left a law fresh = record {
  read = [];
  consumed = consumes_none before before (keeps_same before);
  size = refl;
  passes = passes_none g h _ _ a (λ way. ap (λ xs. members_by xs way) (take_all most [] (omega arith)) ∙ law way.ends way.rest ∙ ap (λ f. members_left f way) (sym fresh));
}

-- what was run before a piece, where the piece follows
run_before : {P S : Type 0} (g : Ghosts P) (h : Ghosts S) (most total room : ℕ) (before mid : Option (List ℕ)) (left : LinesRead) (a b : Moment P S) (so : SoFar g h most total before mid left a b) → total ≤ most → room ≡ most - total → (bytes : List ℕ) →
    Passes g h (members_by (take most (so.read ++ bytes))) (λ way. members_left left (behind (take room bytes) way)) a b
run_before g h most total room before mid left a b so fits is bytes =
    let whole = take_both most room so.read bytes (omega (arith, so.size, fits)) (omega (arith, so.size, is)) in
    passes_as g h _ _ _ _ (behind (take room bytes)) a b
    (λ way. ap (λ xs. members_from way.ends start (lines_of way.ends xs)) (ap (λ xs. xs ++ way.rest) whole ∙ append_assoc (take most so.read) (take room bytes) way.rest)) (λ way goes. refl) so.passes

-- the same, where the input ends there
run_to_end : {P S : Type 0} (g : Ghosts P) (h : Ghosts S) (most total : ℕ) (before mid : Option (List ℕ)) (left : LinesRead) (a b : Moment P S) (so : SoFar g h most total before mid left a b) → total ≤ most →
    Passes g h (λ (_ : Unit {0}). members_of so.read) (λ _. members_left left at_end) a b
run_to_end g h most total before mid left a b so fits =
    passes_as g h _ _ _ _ (λ (_ : Unit {0}). at_end) a b
    (λ u. ap members_of (sym (append-nil (take most so.read) ∙ take_all most so.read (omega (arith, so.size, fits))))) (λ u goes. refl) so.passes

pub so_far_more : {P S : Type 0} (g : Ghosts P) (h : Ghosts S) (most total room n : ℕ) (before mid after : Option (List ℕ)) (left left' : LinesRead) (a b c : Moment P S) →
    SoFar g h most total before mid left a b → b.status.quit ≡ false → total ≤ most → room ≡ most - total → HasRead g h room n mid after left left' b c → 0 < n →
    SoFar g h most (total + n) before after left' a c
so_far_more g h most total room n before mid after left left' a b c so goes fits is piece some = record {
  read = so.read ++ piece.bytes;
  consumed = consumes_then before mid after so.read piece.bytes so.consumed piece.consumed;
  size = length-append so.read piece.bytes ∙ (λ k. so.size k + piece.size k);
  passes = passes_then g h _ (λ way. members_left left (behind (take room piece.bytes) way)) _ a b c (run_before g h most total room before mid left a b so fits is piece.bytes) goes (piece.goes some);
}

consumes_to_end : (before mid after : Option (List ℕ)) (read bytes : List ℕ) → Consumes before mid read → Consumes mid after bytes → bytes ≡ [] → Consumes before after read
consumes_to_end before mid after read bytes first second none =
    subst (λ xs. Consumes before after xs) (ap (λ xs. read ++ xs) none ∙ append-nil read) (consumes_then before mid after read bytes first second)

-- ---- a flush at the end

pub passes_kept : {P S W : Type 0} (g : Ghosts P) (h : Ghosts S) (due left : W → List Member) (a b : Moment P S) (out : Option (List ℕ)) → Keeps b.out out → Passes g h due left a b → Passes g h due left a (record b { out = out })
passes_kept g h due left a b out kept it = record {
  done = it.done;
  front = it.front;
  did = record {
    effects = it.did.effects;
    turns = it.did.turns;
    out = appends_kept a.out b.out out it.did.effects.out it.did.out kept;
    err = it.did.err;
    faults = it.did.faults;
    quit = it.did.quit;
  };
}

-- it may be flushed before the next piece is read
pub so_far_kept : {P S : Type 0} (g : Ghosts P) (h : Ghosts S) (most total : ℕ) (before after : Option (List ℕ)) (left : LinesRead) (a b : Moment P S) (out : Option (List ℕ)) → SoFar g h most total before after left a b → Keeps b.out out → SoFar g h most total before after left a (record b { out = out })
so_far_kept g h most total before after left a b out so kept = record { read = so.read; consumed = so.consumed; size = so.size; passes = passes_kept g h _ _ a b out kept so.passes }

-- ---- a run that ended well

-- what was done ended the session
ended_by : {P S : Type 0} (g : Ghosts P) (h : Ghosts S) (members : List Member) (a b : Moment P S) (d : Did g h members a b) → a.status.quit ≡ false → b.status.quit ≡ true → d.effects.ends ≡ true
ended_by g h members a b d began ended = ap (λ q. q || d.effects.ends) (sym began) ∙ sym d.quit ∙ ended

whole_at_end : {P S : Type 0} (g : Ghosts P) (h : Ghosts S) (after : Option (List ℕ)) (read : List ℕ) (a b : Moment P S) (p : Passes g h (λ (_ : Unit {0}). members_of read) (λ _. []) a b) → a.status.quit ≡ false → IsAtEnd after → length read ≤ 2 ^ 30 → IsWhole g h after read a.shell b.shell p.did.effects
whole_at_end g h after read a b p began at_end fits = inl (at_end, fits, go b.status.quit refl)
  where
    go : (quit : Bool) → b.status.quit ≡ quit → Session g h read a.shell b.shell p.did.effects
    go false is =
        let all : members_of read ≡ p.done = (p.front tt).1 ∙ ap (λ ms. p.done ++ ms) ((p.front tt).2 is) ∙ append-nil p.done in
        subst (λ ms. Turns g h ms a.shell b.shell p.did.effects) (sym all) p.did.turns
    go true is =
        subst (λ ms. Turns g h ms a.shell b.shell p.did.effects) (sym (p.front tt).1)
        (turns_ended g h p.done (p.front tt).0 a.shell b.shell p.did.effects p.did.turns (ended_by g h p.done a b p.did began is))

split_members : (most : ℕ) (read rest : List ℕ) → members_of (read ++ rest) ≡ members_of (take most read ++ (drop most read ++ rest))
split_members most read rest = ap members_of (ap (λ xs. xs ++ rest) (sym (take-append-drop most read)) ∙ append_assoc (take most read) (drop most read) rest)

whole_by_turn : {P S : Type 0} (g : Ghosts P) (h : Ghosts S) (after : Option (List ℕ)) (most : ℕ) (read : List ℕ) (left : Way → List Member) (a b : Moment P S) (p : Passes g h (members_by (take most read)) left a b) →
    most ≡ 2 ^ 30 → a.status.quit ≡ false → b.status.quit ≡ true → IsWhole g h after read a.shell b.shell p.did.effects
whole_by_turn g h after most read left a b p size began ended =
    let ends = ended_by g h p.done a b p.did began ended in
    inr (
      ends,
      λ rest.
          let front = p.front (ending rest) in
          let all : members_of (take (2 ^ 30) read ++ rest) ≡ p.done ++ front.0 = ap (λ m. members_of (take m read ++ rest)) (sym size) ∙ front.1 in
          subst (λ ms. Turns g h ms a.shell b.shell p.did.effects) (sym all) (turns_ended g h p.done front.0 a.shell b.shell p.did.effects p.did.turns ends),
    )

completes_by : {P S W : Type 0} (g : Ghosts P) (h : Ghosts S) (due left : W → List Member) (before after : Option (List ℕ)) (read : List ℕ) (shell : Shell P S) (out err : Option (List ℕ)) (b : Moment P S) (p : Passes g h due left (opening shell out err) b) →
    Consumes before after read → IsWhole g h after read shell b.shell p.did.effects → b.status.faults < 2 ^ 64 →
    Completes g h b.status (record { shell = shell; input = before; out = out; err = err }) (record { shell = b.shell; input = after; out = b.out; err = b.err })
completes_by g h due left before after read shell out err b p consumed whole fits = record {
  read = read;
  consumed = consumed;
  effects = p.did.effects;
  turns = whole;
  out = p.did.out;
  err = p.did.err;
  faults = omega (arith, p.did.faults, fits);
  quit = p.did.quit;
}

-- the last piece was read: it was the end, or a turn ended the session
pub completes : {P S : Type 0} (g : Ghosts P) (h : Ghosts S) (most total room n : ℕ) (before mid after : Option (List ℕ)) (left left' : LinesRead) (shell : Shell P S) (out err out' : Option (List ℕ)) (b c : Moment P S) → most ≡ 2 ^ 30 →
    SoFar g h most total before mid left (opening shell out err) b → b.status.quit ≡ false → total ≤ most → room ≡ most - total → HasRead g h room n mid after left left' b c → (n ≡ 0) ⊎ ((0 < n) × (c.status.quit ≡ true)) → Keeps c.out out' → c.status.faults < 2 ^ 64 →
    Completes g h c.status (record { shell = shell; input = before; out = out; err = err }) (record { shell = c.shell; input = after; out = out'; err = c.err })
completes g h most total room n before mid after left left' shell out err out' b c size so goes fits is piece (inl none) kept small =
    let a = opening shell out err in
    let p = passes_kept g h _ _ a c out' kept (passes_then g h _ (λ _. members_left left at_end) _ a b c (run_to_end g h most total before mid left a b so fits) goes (piece.ends none).1) in
    completes_by g h _ _ before after so.read shell out err (record c { out = out' }) p
    (consumes_to_end before mid after so.read piece.bytes so.consumed piece.consumed (nil_of piece.bytes (piece.size ∙ none)))
    (whole_at_end g h after so.read a (record c { out = out' }) p refl (piece.ends none).0 (omega (arith, so.size, fits, size))) small
completes g h most total room n before mid after left left' shell out err out' b c size so goes fits is piece (inr (some, ended)) kept small =
    let a = opening shell out err in
    let more = so_far_more g h most total room n before mid after left left' a b c so goes fits is piece some in
    let p = passes_kept g h _ _ a c out' kept more.passes in
    completes_by g h _ _ before after more.read shell out err (record c { out = out' }) p more.consumed
    (whole_by_turn g h after most more.read _ a (record c { out = out' }) p size refl ended) small

-- ---- a run that is cut short

begun : {P S : Type 0} (g : Ghosts P) (h : Ghosts S) (input : List ℕ) (done next more : List Member) (old new : Shell P S) (all : Effects) → members_of input ≡ done ++ (next ++ more) → Turns g h done old new all → Begins g h input old new all next
begun g h input done next more old new all is turns = (
  length done,
  subst (λ ms. Turns g h ms old new all) (sym (ap (take (length done)) is ∙ take-append_seam done (next ++ more))) turns,
  more,
  ap (drop (length done)) is ∙ drop-append_seam done (next ++ more),
)

stops_by : {P S W : Type 0} (g : Ghosts P) (h : Ghosts S) (fault : RunFault) (due : W → List Member) (before after : Option (List ℕ)) (read : List ℕ) (shell : Shell P S) (out err : Option (List ℕ)) (b : Moment P S) (p : Breaks g h fault due (opening shell out err) b) →
    Consumes before after read → IsFront g h after read shell p.cut.mid.shell p.cut.did.effects p.next → (fault ≡ causes.TooMuch → (2 ^ 30 < length read) × EndedDone g h (take (2 ^ 30) read) shell p.cut.mid.shell p.cut.did.effects × ((rest : List ℕ) → Begins g h (take (2 ^ 30) read ++ rest) shell p.cut.mid.shell p.cut.did.effects p.next)) → (fault ≡ causes.Read → (length read ≤ 2 ^ 30) × EndedDone g h read shell p.cut.mid.shell p.cut.did.effects) →
    Stops g h fault (record { shell = shell; input = before; out = out; err = err }) (record { shell = b.shell; input = after; out = b.out; err = b.err })
stops_by g h fault due before after read shell out err b p consumed front much unread = record {
  read = read;
  consumed = consumed;
  whole = p.cut.did.effects;
  mid = p.cut.mid.shell;
  mid_out = p.cut.mid.out;
  mid_err = p.cut.mid.err;
  next = p.next;
  turns = front;
  out = p.cut.did.out;
  err = p.cut.did.err;
  effects = p.cut.effects;
  broken = p.cut.broken;
  much = much;
  unread = unread;
}

not_much : {P S : Type 0} (g : Ghosts P) (h : Ghosts S) (fault : RunFault) → IsInside g h fault → fault ≢ causes.TooMuch
not_much g h fault (inl write) is = let wrong : causes.Write ≡ causes.TooMuch = sym write ∙ is in cc
not_much g h fault (inr memory) is = let wrong : causes.Memory ≡ causes.TooMuch = sym memory ∙ is in cc

not_unread : {P S : Type 0} (g : Ghosts P) (h : Ghosts S) (fault : RunFault) → IsInside g h fault → fault ≢ causes.Read
not_unread g h fault (inl write) is = let wrong : causes.Write ≡ causes.Read = sym write ∙ is in cc
not_unread g h fault (inr memory) is = let wrong : causes.Memory ≡ causes.Read = sym memory ∙ is in cc

stops_at_end : {P S : Type 0} (g : Ghosts P) (h : Ghosts S) (fault : RunFault) (before after : Option (List ℕ)) (read : List ℕ) (shell : Shell P S) (out err : Option (List ℕ)) (b : Moment P S) → Breaks g h fault (λ (_ : Unit {0}). members_of read) (opening shell out err) b →
    Consumes before after read → IsAtEnd after → IsInside g h fault →
    Stops g h fault (record { shell = shell; input = before; out = out; err = err }) (record { shell = b.shell; input = after; out = b.out; err = b.err })
stops_at_end g h fault before after read shell out err b p consumed at_end inside =
    stops_by g h fault _ before after read shell out err b p consumed (inl (at_end, begun g h read p.done p.next (p.front tt).0 shell p.cut.mid.shell p.cut.did.effects (p.front tt).1 p.cut.did.turns)) (λ is. absurd (not_much g h fault inside is)) (λ is. absurd (not_unread g h fault inside is))

-- the turns of the lines that ended were done, where no unit waits and no line that ended
ended_done : {P S : Type 0} (g : Ghosts P) (h : Ghosts S) (most total : ℕ) (before after : Option (List ℕ)) (left : LinesRead) (a b : Moment P S) (so : SoFar g h most total before after left a b) → b.status.quit ≡ false → left.splitting.waiting ≡ [] → HasNoEnd left.line →
    EndedDone g h (take most so.read) a.shell b.shell so.passes.did.effects
ended_done g h most total before after left a b so goes waits within =
    let front = so.passes.front going_on in
    let all : ended_members (take most so.read) ≡ so.passes.done =
    ap (λ xs. members_from false start (lines_of false xs)) (sym (append-nil (take most so.read))) ∙ front.1
    ∙ ap (λ ms. so.passes.done ++ ms) (front.2 goes ∙ none_left left waits within) ∙ append-nil so.passes.done in
    subst (λ ms. Turns g h ms a.shell b.shell so.passes.did.effects) (sym all) so.passes.did.turns

stops_within : {P S : Type 0} (g : Ghosts P) (h : Ghosts S) (fault : RunFault) (most : ℕ) (before after : Option (List ℕ)) (read : List ℕ) (shell : Shell P S) (out err : Option (List ℕ)) (b : Moment P S) → most ≡ 2 ^ 30 → (p : Breaks g h fault (members_by (take most read)) (opening shell out err) b) →
    Consumes before after read → (fault ≡ causes.TooMuch → (most < length read) × EndedDone g h (take most read) shell p.cut.mid.shell p.cut.did.effects) → (fault ≡ causes.Read → (length read ≤ most) × EndedDone g h read shell p.cut.mid.shell p.cut.did.effects) →
    Stops g h fault (record { shell = shell; input = before; out = out; err = err }) (record { shell = b.shell; input = after; out = b.out; err = b.err })
stops_within g h fault most before after read shell out err b size p consumed much unread =
    stops_by g h fault _ before after read shell out err b p consumed
    (inr (λ rest. let front = p.front (ending (drop most read ++ rest)) in begun g h (read ++ rest) p.done p.next front.0 shell p.cut.mid.shell p.cut.did.effects (split_members most read rest ∙ front.1) p.cut.did.turns))
    (λ is. let past = much is in (
      subst (λ m. m < length read) size past.0,
      subst (λ m. EndedDone g h (take m read) shell p.cut.mid.shell p.cut.did.effects) size past.1,
      λ rest. let front = p.front (ending rest) in begun g h (take (2 ^ 30) read ++ rest) p.done p.next front.0 shell p.cut.mid.shell p.cut.did.effects (ap (λ m. members_of (take m read ++ rest)) (sym size) ∙ front.1) p.cut.did.turns,
    ))
    (λ is. (subst (λ m. length read ≤ m) size (unread is).0, (unread is).1))

-- it is cut short within what it does
stops_inside : {P S : Type 0} (g : Ghosts P) (h : Ghosts S) (fault : RunFault) (most : ℕ) (before after : Option (List ℕ)) (read : List ℕ) (shell : Shell P S) (out err : Option (List ℕ)) (b : Moment P S) → most ≡ 2 ^ 30 → Breaks g h fault (members_by (take most read)) (opening shell out err) b →
    Consumes before after read → IsInside g h fault →
    Stops g h fault (record { shell = shell; input = before; out = out; err = err }) (record { shell = b.shell; input = after; out = b.out; err = b.err })
stops_inside g h fault most before after read shell out err b size p consumed inside =
    stops_within g h fault most before after read shell out err b size p consumed (λ is. absurd (not_much g h fault inside is)) (λ is. absurd (not_unread g h fault inside is))

-- nothing was read
pub stops_first : {P S : Type 0} (g : Ghosts P) (h : Ghosts S) (before : Option (List ℕ)) (shell : Shell P S) (out err : Option (List ℕ)) →
    Stops g h causes.Memory (record { shell = shell; input = before; out = out; err = err }) (record { shell = shell; input = before; out = out; err = err })
stops_first g h before shell out err =
    stops_inside g h causes.Memory (2 ^ 30) before before [] shell out err (opening shell out err) refl (breaks_none g h causes.Memory _ (opening shell out err)) (consumes_none before before (keeps_same before)) (inr refl)

-- there was more than the limit
pub stops_too_much : {P S : Type 0} (g : Ghosts P) (h : Ghosts S) (most total : ℕ) (before after : Option (List ℕ)) (left : LinesRead) (shell : Shell P S) (out err : Option (List ℕ)) (b : Moment P S) → most ≡ 2 ^ 30 → SoFar g h most total before after left (opening shell out err) b → b.status.quit ≡ false → left.splitting.waiting ≡ [] → HasNoEnd left.line → most < total →
    Stops g h causes.TooMuch (record { shell = shell; input = before; out = out; err = err }) (record { shell = b.shell; input = after; out = b.out; err = b.err })
stops_too_much g h most total before after left shell out err b size so goes waits within past =
    stops_within g h causes.TooMuch most before after so.read shell out err b size (breaks_after g h causes.TooMuch _ _ (opening shell out err) b so.passes) so.consumed
    (λ _. (omega (arith, so.size, past), ended_done g h most total before after left (opening shell out err) b so goes waits within)) (λ is. absurd (let wrong = is in cc))

-- no more could be read
pub stops_unread : {P S : Type 0} (g : Ghosts P) (h : Ghosts S) (fault : RunFault) (most total : ℕ) (before mid after : Option (List ℕ)) (left : LinesRead) (shell : Shell P S) (out err : Option (List ℕ)) (b : Moment P S) → most ≡ 2 ^ 30 → SoFar g h most total before mid left (opening shell out err) b → b.status.quit ≡ false → left.splitting.waiting ≡ [] → HasNoEnd left.line → total ≤ most → Keeps mid after → fault ≡ causes.Read →
    Stops g h fault (record { shell = shell; input = before; out = out; err = err }) (record { shell = b.shell; input = after; out = b.out; err = b.err })
stops_unread g h fault most total before mid after left shell out err b size so goes waits within fits kept cause =
    let all : take most so.read ≡ so.read = take_all most so.read (omega (arith, so.size, fits)) in
    stops_within g h fault most before after so.read shell out err b size (breaks_after g h fault _ _ (opening shell out err) b so.passes)
    (consumes_to_end before mid after so.read [] so.consumed (consumes_none mid after kept) refl) (λ is. absurd (let wrong : causes.Read ≡ causes.TooMuch = sym cause ∙ is in cc))
    (λ _. (omega (arith, so.size, fits), subst (λ xs. EndedDone g h xs shell b.shell so.passes.did.effects) all (ended_done g h most total before mid left (opening shell out err) b so goes waits within)))

-- a piece was cut short
pub stops_in_piece : {P S : Type 0} (g : Ghosts P) (h : Ghosts S) (fault : RunFault) (most total room : ℕ) (before mid after : Option (List ℕ)) (left : LinesRead) (shell : Shell P S) (out err : Option (List ℕ)) (b c : Moment P S) → most ≡ 2 ^ 30 →
    SoFar g h most total before mid left (opening shell out err) b → b.status.quit ≡ false → total ≤ most → room ≡ most - total → Interrupted g h fault room mid after left b c →
    Stops g h fault (record { shell = shell; input = before; out = out; err = err }) (record { shell = c.shell; input = after; out = c.out; err = c.err })
stops_in_piece g h fault most total room before mid after left shell out err b c size so goes fits is piece = go piece.breaks
  where
    go : Breaks g h fault (λ (way : Way). members_left left (behind (take room piece.bytes) way)) b c ⊎ ((piece.bytes ≡ []) × IsAtEnd after × Breaks g h fault (λ (_ : Unit {0}). members_left left at_end) b c) →
        Stops g h fault (record { shell = shell; input = before; out = out; err = err }) (record { shell = c.shell; input = after; out = c.out; err = c.err })
    go (inl within) =
        stops_inside g h fault most before after (so.read ++ piece.bytes) shell out err c size
        (breaks_then g h fault _ (λ way. members_left left (behind (take room piece.bytes) way)) (opening shell out err) b c (run_before g h most total room before mid left (opening shell out err) b so fits is piece.bytes) goes within)
        (consumes_then before mid after so.read piece.bytes so.consumed piece.consumed) piece.cause
    go (inr (none, is_at_end, last)) =
        stops_at_end g h fault before after so.read shell out err c
        (breaks_then g h fault _ (λ _. members_left left at_end) (opening shell out err) b c (run_to_end g h most total before mid left (opening shell out err) b so fits) goes last)
        (consumes_to_end before mid after so.read piece.bytes so.consumed piece.consumed none) is_at_end piece.cause

-- what was run was not flushed
pub stops_unflushed : {P S : Type 0} (g : Ghosts P) (h : Ghosts S) (fault : RunFault) (most total : ℕ) (before after : Option (List ℕ)) (left : LinesRead) (shell : Shell P S) (out err out' : Option (List ℕ)) (b : Moment P S) → most ≡ 2 ^ 30 → SoFar g h most total before after left (opening shell out err) b → Keeps b.out out' → fault ≡ causes.Write →
    Stops g h fault (record { shell = shell; input = before; out = out; err = err }) (record { shell = b.shell; input = after; out = out'; err = b.err })
stops_unflushed g h fault most total before after left shell out err out' b size so kept cause =
    let flushed = so_far_kept g h most total before after left (opening shell out err) b out' so kept in
    stops_inside g h fault most before after flushed.read shell out err (record b { out = out' }) size (breaks_after g h fault _ _ (opening shell out err) (record b { out = out' }) flushed.passes) flushed.consumed (inl cause)

-- all was run, and the last flush was refused
pub stops_at_flush : {P S : Type 0} (g : Ghosts P) (h : Ghosts S) (fault : RunFault) (most total room n : ℕ) (before mid after : Option (List ℕ)) (left left' : LinesRead) (shell : Shell P S) (out err out' : Option (List ℕ)) (b c : Moment P S) → most ≡ 2 ^ 30 →
    SoFar g h most total before mid left (opening shell out err) b → b.status.quit ≡ false → total ≤ most → room ≡ most - total → HasRead g h room n mid after left left' b c → (n ≡ 0) ⊎ (0 < n) → Keeps c.out out' → fault ≡ causes.Write →
    Stops g h fault (record { shell = shell; input = before; out = out; err = err }) (record { shell = c.shell; input = after; out = out'; err = c.err })
stops_at_flush g h fault most total room n before mid after left left' shell out err out' b c size so goes fits is piece (inl none) kept cause =
    let a = opening shell out err in
    let p = passes_kept g h _ _ a c out' kept (passes_then g h _ (λ _. members_left left at_end) _ a b c (run_to_end g h most total before mid left a b so fits) goes (piece.ends none).1) in
    stops_at_end g h fault before after so.read shell out err (record c { out = out' }) (breaks_after g h fault _ _ a (record c { out = out' }) p)
    (consumes_to_end before mid after so.read piece.bytes so.consumed piece.consumed (nil_of piece.bytes (piece.size ∙ none))) (piece.ends none).0 (inl cause)
stops_at_flush g h fault most total room n before mid after left left' shell out err out' b c size so goes fits is piece (inr some) kept cause =
    let a = opening shell out err in
    let more = so_far_more g h most total room n before mid after left left' a b c so goes fits is piece some in
    let p = passes_kept g h _ _ a c out' kept more.passes in
    stops_inside g h fault most before after more.read shell out err (record c { out = out' }) size (breaks_after g h fault _ _ a (record c { out = out' }) p) more.consumed (inl cause)

-- ---- exits

pub ends_err : {P S : Type 0} (g : Ghosts P) (h : Ghosts S) (r : Result Status RunFault) (fault : RunFault) (old new : Console P S) → r ≡ Err fault → Stops g h fault old new → Ends g h r old new
ends_err g h r fault old new is stops = subst (λ (x : Result Status RunFault). Ends g h x old new) (sym is) stops

pub some_or_none : (n : ℕ) → (n ≡ 0) ⊎ (0 < n)
some_or_none zero = inl refl
some_or_none (suc n) = inr (omega arith)
