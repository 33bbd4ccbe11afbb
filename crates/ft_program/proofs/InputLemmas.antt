-- Inputs that are run in turn.
use Rattle.std.proofs.Common.{◌≡◌, ◌<◌, ◌≤◌, ◌+◌, ◌-◌, ◌^◌, ◌∙◌, ℕ, Bool, true, false, List, [], ◌∷◌, map, take, drop, get_or, length, Option, Some, None, Result, Ok, Err, min, refl, ap, sym, subst, arith, string_bytes, String, Global, zero, suc}
use Rattle.std.specs.Prelude.{MatchBool, MatchResult, if◌then◌else◌, ◌==◌}
use Rattle.std.proofs.lemmas.Bool.Decides.{nat_tests}
use Rattle.std.proofs.lemmas.List.{drop_all, drop_more, append-nil, take-append-drop}
use Rattle.sqlite.specs.Store.{Ghosts}
use Rattle.shell_io.specs.declared.run.Status.{Status}
use Rattle.shell_io.specs.declared.run.RunFault.{RunFault}
use Rattle.ft_shell.specs.Shell.{Parts}
use Rattle.ft_shell.specs.Effects.{Effects, idle, and_then}
use Rattle.ft_shell.specs.Promise.{IsClean, Ran, AllRan, PromiseKept, KeptByRuns, none_ran, last_ran, first_ran, read_by}
use Rattle.ft_shell.specs.Runs.{Console}
use Rattle.ft_shell.proofs.{assoc_then, idle_then, then_idle, all_made}
use Rattle.std.specs.Prelude.{OnOk, OnErr, ◌≢◌}
use Rattle.std.specs.Io.KnownBytes.{Appends, Consumes}
use Rattle.sqlite.specs.Held.{Held}
use Rattle.shell_text.specs.Print.{AppendsFront, Settings}
use Rattle.ft_store.specs.Kept.{StoreState}
use Rattle.ft_calls.specs.Kept.{FullText, Holds, IsUp}
use Rattle.ft_calls.specs.Kept.{SurvivesCrash}
use Rattle.ft_calls.proofs.{clean_at_first}
use Rattle.ft_index.specs.Opened.{OpensStore}
use Rattle.shell_io.specs.Writing.{AppendsUpTo, Sends}
use Rattle.ft_program.specs.Inputs.{AreRead, Closes, EndsAs, InTurn, Outputs, RunsAndKeeps, RunsInTurn, RunsOne, RunsOver, Stage, WritesOwn, console, due, exit_status}

module _ {P S : Type 0} (g : Ghosts P) (h : Ghosts S) where
  -- what is answered of a run is what its turns told
  pub counts_faults : (status : Status) (old new : Console P S) (own : Effects) → Ran g h (Ok status) old new own → status.faults ≡ min own.faults (2 ^ 64 - 1)
  counts_faults status old new own (it, is) = it.faults ∙ ap (λ (d : Effects). min d.faults (2 ^ 64 - 1)) (sym is)

  pub tells_quit : (status : Status) (old new : Console P S) (own : Effects) → Ran g h (Ok status) old new own → status.quit ≡ own.ends
  tells_quit status old new own (it, is) = it.quit ∙ ap (λ (d : Effects). d.ends) (sym is)

  -- ---- one input, and then others

  stops_by_fault : (fault : RunFault) (input : Option (List ℕ)) (inputs : List (Option (List ℕ))) (old new : Stage P S) (own : Effects) → RunsOne g h input (Err fault) old new own → InTurn g h (input ∷ inputs) (Some fault) old new own
  stops_by_fault fault input inputs old new own ran = (Err fault, new, own, ran, (refl, refl, refl))

  stops_by_quit : (status : Status) (input : Option (List ℕ)) (inputs : List (Option (List ℕ))) (old new : Stage P S) (own : Effects) → RunsOne g h input (Ok status) old new own → own.ends ≡ true → InTurn g h (input ∷ inputs) None old new own
  stops_by_quit status input inputs old new own ran ends = (Ok status, new, own, ran, go None refl own.ends ends)
    where
      go : (cause : Option RunFault) → cause ≡ None → (e : Bool) → e ≡ true → MatchBool e ((cause ≡ None) × (new ≡ new) × (own ≡ own)) ((rest : Effects) × InTurn g h inputs cause new new rest × (own ≡ and_then own rest))
      go cause none true is = (none, refl, refl)
      go cause none false is = absurd (let wrong = is in cc)

  goes_on : (status : Status) (input : Option (List ℕ)) (inputs : List (Option (List ℕ))) (cause : Option RunFault) (old mid new : Stage P S) (own rest : Effects) → RunsOne g h input (Ok status) old mid own → own.ends ≡ false →
      InTurn g h inputs cause mid new rest → InTurn g h (input ∷ inputs) cause old new (and_then own rest)
  goes_on status input inputs cause old mid new own rest ran goes later = (Ok status, mid, own, ran, go own.ends goes)
    where
      go : (e : Bool) → e ≡ false → MatchBool e ((cause ≡ None) × (new ≡ mid) × (and_then own rest ≡ own)) ((more : Effects) × InTurn g h inputs cause mid new more × (and_then own rest ≡ and_then own more))
      go true is = absurd (let wrong = is in cc)
      go false is = (rest, later, refl)

  -- one input alone
  pub one_alone : (ended : Result Status RunFault) (input : Option (List ℕ)) (old new : Stage P S) (own : Effects) → RunsOne g h input ended old new own → RunsInTurn g h (input ∷ []) ended old new
  one_alone (Err fault) input old new own ran = (Some fault, own, stops_by_fault fault input [] old new own ran, refl)
  one_alone (Ok status) input old new own ran = (None, own, go own.ends refl, (refl, counts_faults status _ _ own ran.1, tells_quit status _ _ own ran.1))
    where
      go : (e : Bool) → own.ends ≡ e → InTurn g h (input ∷ []) None old new own
      go true is = stops_by_quit status input [] old new own ran is
      go false is = subst (λ d. InTurn g h (input ∷ []) None old new d) (then_idle own is) (goes_on status input [] None old new new own idle ran is (refl, refl, refl))

  -- ---- some inputs, and then those that are left

  -- Some inputs were run to their ends from old to mid: however those go that are left, so go all.
  abbrev pub Joins : List (Option (List ℕ)) → List (Option (List ℕ)) → Stage P S → Stage P S → Effects → Type 0
  Joins inputs left old mid so_far = (cause : Option RunFault) (new : Stage P S) (more : Effects) → InTurn g h left cause mid new more → InTurn g h inputs cause old new (and_then so_far more)

  -- what was run so far, with its fault lines
  pub record SoFar (inputs left : List (Option (List ℕ))) (old mid : Stage P S) (count : ℕ) : Type 0 where
    pub effects : Effects
    pub joins : Joins inputs left old mid effects
    pub faults : count ≡ min effects.faults (2 ^ 64 - 1)

  pub so_far_none : (inputs : List (Option (List ℕ))) (old : Stage P S) → SoFar inputs inputs old old 0
  so_far_none inputs old = record {
    effects = idle;
    joins = λ cause new more it. subst (λ d. InTurn g h inputs cause old new d) (sym (idle_then more)) it;
    faults = refl;
  }

  pub so_far_more : (inputs left : List (Option (List ℕ))) (input : Option (List ℕ)) (old mid next : Stage P S) (count sum : ℕ) (status : Status) (own : Effects) → SoFar inputs (input ∷ left) old mid count →
      RunsOne g h input (Ok status) mid next own → status.quit ≡ false → sum ≡ min (count + status.faults) (2 ^ 64 - 1) → SoFar inputs left old next sum
  so_far_more inputs left input old mid next count sum status own far ran goes is = record {
    effects = and_then far.effects own;
    joins = λ cause new more it. subst (λ d. InTurn g h inputs cause old new d) (sym (assoc_then far.effects own more)) (far.joins cause new (and_then own more) (goes_on status input left cause mid next new own more ran (sym (tells_quit status _ _ own ran.1) ∙ goes) it));
    faults = let counts = counts_faults status _ _ own ran.1 in omega (arith, is, counts, far.faults);
  }

  pub ends_by_fault : (inputs left : List (Option (List ℕ))) (input : Option (List ℕ)) (old mid new : Stage P S) (count : ℕ) (fault : RunFault) (own : Effects) (ended : Result Status RunFault) → ended ≡ Err fault → SoFar inputs (input ∷ left) old mid count →
      RunsOne g h input (Err fault) mid new own → RunsInTurn g h inputs ended old new
  ends_by_fault inputs left input old mid new count fault own ended is far ran =
      subst (λ r. RunsInTurn g h inputs r old new) (sym is) (Some fault, and_then far.effects own, far.joins (Some fault) new own (stops_by_fault fault input left mid new own ran), refl)

  pub ends_by_quit : (inputs left : List (Option (List ℕ))) (input : Option (List ℕ)) (old mid new : Stage P S) (count sum : ℕ) (status : Status) (own : Effects) → SoFar inputs (input ∷ left) old mid count →
      RunsOne g h input (Ok status) mid new own → status.quit ≡ true → sum ≡ min (count + status.faults) (2 ^ 64 - 1) → RunsInTurn g h inputs (Ok (record { faults = sum; quit = true })) old new
  ends_by_quit inputs left input old mid new count sum status own far ran quits is =
      let ends : own.ends ≡ true = sym (tells_quit status _ _ own ran.1) ∙ quits in
      let counts = counts_faults status _ _ own ran.1 in
      (None, and_then far.effects own, far.joins None new own (stops_by_quit status input left mid new own ran ends), (refl, omega (arith, is, counts, far.faults), sym ends))

  pub ends_at_end : (inputs : List (Option (List ℕ))) (old new : Stage P S) (count : ℕ) → SoFar inputs [] old new count → RunsInTurn g h inputs (Ok (record { faults = count; quit = false })) old new
  ends_at_end inputs old new count far = (None, and_then far.effects idle, far.joins None new idle (refl, refl, refl), (refl, omega (arith, far.faults), refl))

-- the next of the texts that are left
pub next_text : (texts : List (String Global)) (i : ℕ) (text : String Global) (bytes : List ℕ) → i < length texts → text ≡ get_or texts i text → bytes ≡ string_bytes text → map Some (map string_bytes (drop i texts)) ≡ Some bytes ∷ map Some (map string_bytes (drop (i + 1) texts))
next_text texts i text bytes within is same =
    ap (λ ts. map Some (map string_bytes ts)) (drop_more texts i text within ∙ ap (λ t. t ∷ drop (i + 1) texts) (sym is)) ∙ ap (λ b. Some b ∷ map Some (map string_bytes (drop (i + 1) texts))) (sym same)

-- none is left
pub no_text : (texts : List (String Global)) (i : ℕ) → length texts ≤ i → map Some (map string_bytes (drop i texts)) ≡ []
no_text texts i past = ap (λ ts. map Some (map string_bytes ts)) (drop_all i texts past)

-- inputs that were run in turn are runs one after another, which read them
record RanInputs {P S : Type 0} (g : Ghosts P) (h : Ghosts S) (inputs : List (Option (List ℕ))) (old new : Stage P S) (all : Effects) : Type 0 where
  pub reads : List (List ℕ)
  pub read : AreRead inputs reads
  pub ran : AllRan g h old.parts reads all new.parts

run_read : {P S : Type 0} (g : Ghosts P) (h : Ghosts S) (ended : Result Status RunFault) (old new : Console P S) (all : Effects) (ran : Ran g h ended old new all) → Consumes old.input new.input (read_by g h ended old new all ran)
run_read g h (Ok status) old new all ran = ran.0.consumed
run_read g h (Err fault) old new all ran = ran.0.consumed

all_ran : {P S : Type 0} (g : Ghosts P) (h : Ghosts S) (inputs : List (Option (List ℕ))) (cause : Option RunFault) (old new : Stage P S) (all : Effects) → InTurn g h inputs cause old new all → RanInputs g h inputs old new all
all_ran {P} {S} g h [] cause old new all (is_none, same, nothing) =
    subst (λ (s : Stage P S). RanInputs g h [] old s all) (sym same) (subst (RanInputs g h [] old old) (sym nothing) (record { reads = []; read = tt; ran = none_ran old.parts }))
all_ran {P} {S} g h (input ∷ inputs) cause old new all (ended, mid, own, (left, ran), goes) = by_end (λ rest later. all_ran g h inputs cause mid new rest later) ended ran goes
  where
    only : (ended : Result Status RunFault) → Ran g h ended (console old input) (console mid left) own → new ≡ mid → all ≡ own → RanInputs g h (input ∷ inputs) old new all
    only ended ran same whole =
        subst (λ (s : Stage P S). RanInputs g h (input ∷ inputs) old s all) (sym same)
        (subst (RanInputs g h (input ∷ inputs) old mid) (sym whole) (record {
          reads = read_by g h ended (console old input) (console mid left) own ran ∷ [];
          read = (left, run_read g h ended (console old input) (console mid left) own ran, tt);
          ran = last_ran ended (console old input) (console mid left) own ran;
        }))

    by_end : ((rest : Effects) → InTurn g h inputs cause mid new rest → RanInputs g h inputs mid new rest) → (ended : Result Status RunFault) → Ran g h ended (console old input) (console mid left) own → MatchResult ended
        (λ status. MatchBool own.ends ((cause ≡ None) × (new ≡ mid) × (all ≡ own)) ((rest : Effects) × InTurn g h inputs cause mid new rest × (all ≡ and_then own rest)))
        (λ fault. (cause ≡ Some fault) × (new ≡ mid) × (all ≡ own)) → RanInputs g h (input ∷ inputs) old new all
    by_end left_ran (Err fault) ran (is, same, whole) = only (Err fault) ran same whole
    by_end left_ran (Ok status) ran goes = go own.ends goes
      where
        go : (e : Bool) → MatchBool e ((cause ≡ None) × (new ≡ mid) × (all ≡ own)) ((rest : Effects) × InTurn g h inputs cause mid new rest × (all ≡ and_then own rest)) → RanInputs g h (input ∷ inputs) old new all
        go true (is, same, whole) = only (Ok status) ran same whole
        go false (rest, later, whole) =
            let behind = left_ran rest later in
            subst (RanInputs g h (input ∷ inputs) old new) (sym whole) (record {
              reads = read_by g h (Ok status) (console old input) (console mid left) own ran ∷ behind.reads;
              read = (left, run_read g h (Ok status) (console old input) (console mid left) own ran, behind.read);
              ran = first_ran (Ok status) (console old input) (console mid left) own behind.reads rest new.parts ran behind.ran;
            })

-- so what they leave is kept
pub runs_and_keeps : {P S : Type 0} (g : Ghosts P) (h : Ghosts S) (inputs : List (Option (List ℕ))) (ended : Result Status RunFault) (old new : Stage P S) → KeptByRuns g h (IsClean h) → RunsInTurn g h inputs ended old new → RunsAndKeeps g h inputs ended old new
runs_and_keeps g h inputs ended old new law (cause, all, turns, ends) =
    let it = all_ran g h inputs cause old new all turns in
    (cause, all, turns, ends, it.reads, it.read, it.ran, λ first held settled clean. law first old.parts new.parts it.reads all held settled it.ran clean)

-- ---- the inputs of a command line

pub due_none : (texts : List (String Global)) (standard : Option (List ℕ)) → length texts ≡ 0 → due (map string_bytes texts) standard ≡ standard ∷ []
due_none [] standard none = refl
due_none (text ∷ texts) standard none = absurd (let wrong = none in cc)

pub due_some : (texts : List (String Global)) (standard : Option (List ℕ)) → length texts ≢ 0 → due (map string_bytes texts) standard ≡ map Some (map string_bytes texts)
due_some [] standard some = absurd (some refl)
due_some (text ∷ texts) standard some = refl

-- ---- what is written at the end

-- a text, whole or a front of it
pub text_sent : {T E : Type 0} (r : Result T E) (a b : Option (List ℕ)) (x : List ℕ) → OnOk r (Appends a b x) → OnErr r (AppendsFront a b x) → Sends r a b x
text_sent (Ok t) a b x whole part = whole
text_sent (Err e) a b x whole part = (take part.0 x, drop part.0 x, sym (take-append-drop part.0 x), part.2)

pub up_to_sent : {T E : Type 0} (r : Result T E) (a b : Option (List ℕ)) (x : List ℕ) → Sends r a b x → AppendsUpTo a b x
up_to_sent (Ok t) a b x whole = (x, [], sym (append-nil x), whole)
up_to_sent (Err e) a b x front = front

abbrev pub code_if : Bool → ℕ
code_if b = if b then 0 else 1

-- 0 for no fault lines, and else 1
abbrev pub code_of : ℕ → ℕ
code_of n = code_if (n == 0)

equal : (m n : ℕ) → (m == n) ≡ true → m ≡ n
equal m n h = grind (arith, nat_tests)

not_none : (n : ℕ) → 0 < n → (n == 0) ≡ false
not_none n above = go (n == 0) refl
  where
    go : (b : Bool) → (n == 0) ≡ b → (n == 0) ≡ false
    go true is = let none : n ≡ 0 = equal n 0 is in absurd (omega (arith, none, above))
    go false is = is

-- the program's own line and its status are those of what was told
pub closes_as : (ended : Result Status RunFault) (cause : Option RunFault) (all : Effects) (a b : Option (List ℕ)) (n : ℕ) → EndsAs ended cause all → Closes ended a b n → WritesOwn cause a b × (n ≡ exit_status cause all)
closes_as (Err fault) cause all a b n is (line, one) =
    (subst (λ c. WritesOwn c a b) (sym is) line, one ∙ ap (λ c. exit_status c all) (sym is))
closes_as (Ok status) cause all a b n (is, faults, quit) (same, code) =
    (subst (λ c. WritesOwn c a b) (sym is) same, code ∙ go status.faults all.faults faults ∙ ap (λ c. exit_status c all) (sym is))
  where
    go : (few many : ℕ) → few ≡ min many (2 ^ 64 - 1) → code_of few ≡ code_of many
    go zero zero same = refl
    go zero (suc n) same = absurd (omega (arith, same))
    go (suc m) zero same = absurd (omega (arith, same))
    go (suc m) (suc n) same = ap code_if (not_none (suc m) (omega arith) ∙ sym (not_none (suc n) (omega arith)))

-- where the disk did what it was told to the end, it did so from the first
clean_from_first : {P S : Type 0} (g : Ghosts P) (h : Ghosts S) (old new : Parts P S) (reads : List (List ℕ)) (all : Effects) → AllRan g h old reads all new → IsClean h new.full_text → IsClean h old.full_text
clean_from_first g h old new reads all ran clean = clean_at_first h old.full_text new.full_text all.calls (all_made g h old new reads all ran) clean

-- the inputs are run over two databases, and then the program ends
pub runs_over : {P S : Type 0} (g : Ghosts P) (h : Ghosts S) (AreClosed : Parts P S → Type 0) (settings : Settings) (plain : Held P) (store : StoreState S) (made : FullText S) (inputs : List (Option (List ℕ))) (ended : Result Status RunFault) (old new : Outputs) (parts : Parts P S) (last : Stage P S) (status : ℕ) →
    OpensStore h store made → SurvivesCrash h made → parts ≡ record { settings = settings; plain = plain; full_text = made } → RunsAndKeeps g h inputs ended (record { parts = parts; on = old }) last → AreClosed last.parts → new.out ≡ last.on.out → Closes ended last.on.err new.err status → (it : RunsOver g h settings plain store inputs old new status) × AreClosed it.last.parts
runs_over {P} {S} g h AreClosed settings plain store made inputs ended old new parts last status opened settled is (cause, all, turns, ends, reads, read, ran, kept) closed out closes =
    let end = closes_as ended cause all last.on.err new.err status ends closes in (
      record {
        made = made;
        opened = opened;
        cause = cause;
        last = last;
        all = all;
        turns = subst (λ (p : Parts P S). InTurn g h inputs cause (record { parts = p; on = old }) last all) is turns;
        out = out;
        err = end.0;
        ends = end.1;
        reads = reads;
        read = read;
        ran = subst (λ (p : Parts P S). AllRan g h p reads all last.parts) is ran;
        kept = λ first held clean.
            let first_clean : IsClean h made = subst (λ (p : Parts P S). IsClean h p.full_text) is (clean_from_first g h parts last.parts reads all ran clean) in
            let up : IsUp h made = record { clean = first_clean; is_open = opened.live first_clean } in
            subst (λ (p : Parts P S). PromiseKept g h first p reads all last.parts) is
            (kept first (subst (λ (p : Parts P S). Holds h p.full_text first) (sym is) (opened.marks up first held)) (subst (λ (p : Parts P S). SurvivesCrash h p.full_text) (sym is) settled) clean);
      },
      closed,
    )
