-- What calls one after another leave.
use Rattle.std.proofs.Common.{◌≡◌, ℕ, Bool, true, false, cond, List, [], ◌∷◌, ◌++◌, ◌||◌, Option, Some, None, Result, Ok, Err, refl, ◌⊎◌, sym, ap, ap₂, subst, subst₂, ◌∙◌, inl, inr, append_assoc, arith, IsTrue, is_ok}
use Rattle.std.specs.List.{list_any}
use Rattle.ft_values.specs.declared.fault.Fault.{Fault}
use Rattle.ft_commands.specs.Command.{Command}
use Rattle.ft_content.specs.Step.{Contents, deserved, step, step_by, after}
use Rattle.sqlite.specs.State.{HasCleanDisk}
use Rattle.sqlite.specs.Store.{Ghosts}
use Rattle.sqlite.specs.Tree.{Trees}
use Rattle.ft_rows.specs.Store.{StoreValue, applied, Note}
use Rattle.ft_store.specs.Kept.{shows}
use Rattle.ft_calls.specs.Kept.{StoreHolds, FullText, IsUp, store_value, Holds, Answers, is_outside, SurvivesCrash, left_by}
use Rattle.ft_commands.specs.Command.{Reply}
use Rattle.ft_calls.specs.Causes.{DoesForCause}
use Rattle.ft_calls.specs.Kept.{HoldsLeft, Name, Call, Executed, Looked, Noted, DoesCall, Runs, is_answered, accepted, with_name, noted_by, contents_with, names_with, AreAnswered, StandsAfter, LeftAfter, at_rest, running, KeptByCalls}

-- a step that is done leaves what comes after it, and one that is refused leaves the contents
done : (due : Option Fault) (first mid : Contents) (command : Command) (reply : Reply) → step_by due first command ≡ (Ok reply, mid) → mid ≡ after first command
done None first mid command reply is = sym (ap (λ (p : Result Reply Fault × Contents). p.1) is)
done (Some fault) first mid command reply is = let no = ap (λ (p : Result Reply Fault × Contents). p.0) is in cc

refused : (due : Option Fault) (first mid : Contents) (command : Command) (fault : Fault) → step_by due first command ≡ (Err fault, mid) → mid ≡ first
refused None first mid command fault is = let no = ap (λ (p : Result Reply Fault × Contents). p.0) is in cc
refused (Some other) first mid command fault is = sym (ap (λ (p : Result Reply Fault × Contents). p.1) is)

-- the contents after an answer
abbrev next_of : Contents → Command → Result Reply Fault → Contents
next_of first command answer = cond (is_ok answer) (after first command) first

next_is : (first mid : Contents) (command : Command) (answer : Result Reply Fault) → Answers first command answer mid → mid ≡ next_of first command answer
unfolding step
next_is first mid command (Ok reply) (inl outside) = let no = outside.0 in cc
next_is first mid command (Ok reply) (inr s) = done (deserved first command) first mid command reply s
next_is first mid command (Err fault) (inl outside) = outside.1
next_is first mid command (Err fault) (inr s) = refused (deserved first command) first mid command fault s

is_answered_by : (first mid : Contents) (command : Command) (answer : Result Reply Fault) → Answers first command answer mid → IsTrue (is_outside answer) ⊎ (answer ≡ (step first command).0)
is_answered_by first mid command answer (inl outside) = inl outside.0
is_answered_by first mid command answer (inr s) = inr (sym (ap (λ (p : Result Reply Fault × Contents). p.0) s))

-- what an accepted command leaves comes first
left_next : (first : Contents) (command : Command) (rest : List Command) (answer : Result Reply Fault) → left_by (next_of first command answer) rest ≡ left_by first (cond (is_ok answer) (command ∷ rest) rest)
unfolding left_by
left_next first command rest (Ok reply) = refl
left_next first command rest (Err fault) = refl

-- ---- calls one after another

runs_split : {S : Type 0} (Does : FullText S → Call → FullText S → Type 0) (start end : FullText S) (xs ys : List Call) → Runs Does start (xs ++ ys) end → (mid : FullText S) × Runs Does start xs mid × Runs Does mid ys end
runs_split Does start end [] ys runs = (start, refl, runs)
runs_split Does start end (call ∷ xs) ys runs = let it = runs_split Does runs.0 end xs ys runs.2 in (it.0, (runs.0, runs.1, it.1), it.2)

module _ {S : Type 0} (g : Ghosts S) where
  abbrev pub IsCleanAt : FullText S → Type 0
  IsCleanAt known = HasCleanDisk (shows g known.store)

  -- what any call leaves
  record CallLeaves (old new : FullText S) (call : Call) : Type 0 where
    clean : IsCleanAt new → IsCleanAt old
    up : IsUp g new → IsUp g old
    -- an answer says that the store is open
    live : is_answered call ≡ true → IsCleanAt new → IsUp g new
    settled : SurvivesCrash g new

  call_leaves : (old new : FullText S) (call : Call) → DoesCall g old call new → CallLeaves old new call
  call_leaves old new (Executed command answer) does = record { clean = λ c. omega (arith, does.1.survives.clean, c); up = λ u. does.0.was_up u; live = λ done c. record { clean = c; is_open = does.1.live c done }; settled = does.1.settled }
  call_leaves old new _ does = record { clean = λ c. omega (arith, does.1.survives.clean, c); up = λ u. does.0.was_up u; live = λ done c. record { clean = c; is_open = does.1.live c done }; settled = does.1.settled }

  -- the disk did what it was told at each call
  pub clean_before : (start end : FullText S) (calls : List Call) → Runs (DoesCall g) start calls end → IsCleanAt end → IsCleanAt start
  clean_before start end [] same clean = subst IsCleanAt same clean
  clean_before start end (call ∷ calls) runs clean = (call_leaves start runs.0 call runs.1).clean (clean_before runs.0 end calls runs.2 clean)

  -- what is up in the end was so at each call
  up_before : (start end : FullText S) (calls : List Call) → IsUp g end → Runs (DoesCall g) start calls end → IsUp g start
  up_before start end [] up runs = subst (IsUp g) runs up
  up_before start end (call ∷ calls) up runs = (call_leaves start runs.0 call runs.1).up (up_before runs.0 end calls up runs.2)

  -- a note changes no table
  pub note_holds : (old new : FullText S) (name : List ℕ) (is_done : Bool) (contents : Contents) →
      store_value g new ≡ cond is_done (applied (Note name) (store_value g old)) (store_value g old) → new.tables ≡ old.tables → Holds g old contents → Holds g new contents
  note_holds old new name is_done contents value tables h = record {
    named_once = h.named_once;
    held = subst (λ v. StoreHolds v contents) (sym value) (elim is_done as (λ b. StoreHolds (cond b (applied (Note name) (store_value g old)) (store_value g old)) contents) [ true ↦ h.held | false ↦ h.held ]);
    told = tables ∙ h.told;
  }

  name_noted : (old new : FullText S) (name : List ℕ) (is_done : Bool) → store_value g new ≡ cond is_done (applied (Note name) (store_value g old)) (store_value g old) →
      (store_value g new).noted ≡ cond is_done (with_name name (store_value g old).noted) (store_value g old).noted
  name_noted old new name true is = ap (λ (v : StoreValue). v.noted) is
  name_noted old new name false is = ap (λ (v : StoreValue). v.noted) is

  -- the contents and the noted names after a call
  abbrev contents_next : Contents → Call → Contents
  contents_next first (Executed command answer) = next_of first command answer
  contents_next first (Noted name is_done) = first
  contents_next first (Looked is_done) = first

  abbrev names_next : List Name → Call → List Name
  names_next names (Executed command answer) = names
  names_next names (Noted name is_done) = cond is_done (with_name name names) names
  names_next names (Looked is_done) = names

  call_holds : (old new : FullText S) (call : Call) (first : Contents) → DoesCall g old call new → IsUp g new → Holds g old first → Holds g new (contents_next first call)
  call_holds old new (Executed command answer) first does up holds =
      let stepped = does.0.steps up first holds in subst (Holds g new) (next_is first stepped.0 command answer stepped.2) stepped.1
  call_holds old new (Noted name is_done) first does up holds = note_holds old new name is_done first (does.0.noted up) does.0.tables holds
  call_holds old new (Looked is_done) first does up holds = record {
    named_once = holds.named_once;
    held = subst (λ v. StoreHolds v first) (sym (does.0.value up)) holds.held;
    told = does.0.tables ∙ holds.told;
  }

  call_names : (old new : FullText S) (call : Call) (first : Contents) → DoesCall g old call new → IsUp g new → Holds g old first → (store_value g new).noted ≡ names_next (store_value g old).noted call
  call_names old new (Executed command answer) first does up holds = (does.0.others up first holds).noted
  call_names old new (Noted name is_done) first does up holds = name_noted old new name is_done (does.0.noted up)
  call_names old new (Looked is_done) first does up holds = ap (λ (v : StoreValue). v.noted) (does.0.value up)

  left_after : (first : Contents) (call : Call) (calls : List Call) → left_by (contents_next first call) (accepted calls) ≡ left_by first (accepted (call ∷ calls))
  left_after first (Executed command answer) calls = left_next first command (accepted calls) answer
  left_after first _ calls = refl

  names_after : (names : List Name) (call : Call) (calls : List Call) → noted_by (names_next names call) calls ≡ noted_by names (call ∷ calls)
  names_after names (Executed command answer) calls = refl
  names_after names _ calls = refl

  answered_more : (first : Contents) (old new : FullText S) (call : Call) (calls : List Call) → DoesCall g old call new → IsUp g new → Holds g old first → AreAnswered (contents_next first call) calls → AreAnswered first (call ∷ calls)
  unfolding AreAnswered
  answered_more first old new (Executed command answer) calls does up holds rest = let stepped = does.0.steps up first holds in (is_answered_by first stepped.0 command answer stepped.2, rest)
  answered_more first old new _ calls does up holds rest = rest

  -- what stands after calls, where the store is up
  stands_up : (start end : FullText S) (calls : List Call) (first : Contents) → IsUp g end → Holds g start first → Runs (DoesCall g) start calls end → StandsAfter g first (store_value g start).noted calls end
  unfolding left_by AreAnswered
  stands_up start end [] first up holds same = record { up = up; holds = subst (λ k. Holds g k first) (sym same) holds; noted = ap (λ (k : FullText S). (store_value g k).noted) same; answered = tt }
  stands_up start end (call ∷ calls) first up holds runs =
      let up_now = up_before runs.0 end calls up runs.2 in
      let held = call_holds start runs.0 call first runs.1 up_now holds in
      let rest = stands_up runs.0 end calls (contents_next first call) up held runs.2 in
      record {
        up = up;
        holds = subst (Holds g end) (left_after first call calls) rest.holds;
        noted = rest.noted ∙ ap (λ names. noted_by names calls) (call_names start runs.0 call first runs.1 up_now holds) ∙ names_after (store_value g start).noted call calls;
        answered = answered_more first start runs.0 call calls runs.1 up_now holds rest.answered;
      }

  -- ---- where more is known of each call

  module _ (Does : FullText S → Call → FullText S → Type 0) (does_call : (old new : FullText S) (call : Call) → Does old call new → DoesCall g old call new) where
    runs_plainly : (start end : FullText S) (calls : List Call) → Runs Does start calls end → Runs (DoesCall g) start calls end
    runs_plainly start end [] same = same
    runs_plainly start end (call ∷ calls) runs = (runs.0, does_call start runs.0 call runs.1, runs_plainly runs.0 end calls runs.2)

    -- after a call that was answered
    stands_behind : (start end : FullText S) (calls before more : List Call) (call : Call) (first : Contents) → IsCleanAt end → Holds g start first → Runs Does start calls end → calls ≡ before ++ call ∷ more → is_answered call ≡ true →
        (mid : FullText S) × Runs Does start (before ++ call ∷ []) mid × Runs Does mid more end × StandsAfter g first (store_value g start).noted (before ++ call ∷ []) mid
    stands_behind start end calls before more call first clean holds runs is done =
        let cut = runs_split Does start end (before ++ call ∷ []) more (subst (λ cs. Runs Does start cs end) (is ∙ sym (append_assoc before (call ∷ []) more)) runs) in
        let last = runs_split Does start cut.0 before (call ∷ []) cut.1 in
        let mid_clean = clean_before cut.0 end more (runs_plainly cut.0 end more cut.2) clean in
        let leaves = call_leaves last.0 last.2.0 call (does_call last.0 last.2.0 call last.2.1) in
        let up : IsUp g cut.0 = subst (IsUp g) (sym last.2.2) (leaves.live done (subst IsCleanAt last.2.2 mid_clean)) in
        (cut.0, cut.1, cut.2, stands_up start cut.0 (before ++ call ∷ []) first up holds (runs_plainly start cut.0 (before ++ call ∷ []) cut.1))

    refused_behind : (start end : FullText S) (calls before more : List Call) (command : Command) (fault : Fault) → Runs Does start calls end → calls ≡ before ++ Executed command (Err fault) ∷ more →
        (was now : FullText S) × Runs Does start before was × Does was (Executed command (Err fault)) now × Runs Does now more end × (IsUp g now → (store_value g now ≡ store_value g was) × (now.tables ≡ was.tables))
    refused_behind start end calls before more command fault runs is =
        let cut = runs_split Does start end before (Executed command (Err fault) ∷ more) (subst (λ cs. Runs Does start cs end) is runs) in
        (cut.0, cut.2.0, cut.1, cut.2.1, cut.2.2, λ up. (does_call cut.0 cut.2.0 (Executed command (Err fault)) cut.2.1).0.unchanged refl up)

  -- ---- a crash

  -- what a call leaves that found the store shut
  kept_only : {B C : Type 0} (old : FullText S) → (IsUp g old → ⊥) → B ⊎ (IsUp g old × C) → B
  kept_only old shut (inl kept) = kept
  kept_only old shut (inr more) = absurd (shut more.0)

  shut_call : (old new : FullText S) (call : Call) → DoesCall g old call new → (IsUp g old → ⊥) → IsCleanAt new → (db : Trees) → (shows g new.store).may_leave db → (shows g old.store).may_leave db
  shut_call old new (Executed command answer) does shut clean db may = kept_only old shut (does.1.survives.crash clean db may)
  shut_call old new _ does shut clean db may = kept_only old shut (does.1.survives.crash clean db may)

  -- what calls leave that found it so, and that none of them was answered
  shut_calls : (start end : FullText S) (calls : List Call) → Runs (DoesCall g) start calls end → (IsUp g start → ⊥) → IsCleanAt end → (db : Trees) → (shows g end.store).may_leave db → (shows g start.store).may_leave db
  shut_calls start end [] same shut clean db may = subst (λ (k : FullText S). (shows g k.store).may_leave db) same may
  shut_calls start end (call ∷ calls) runs shut clean db may =
      shut_call start runs.0 call runs.1 shut (clean_before runs.0 end calls runs.2 clean) db
      (shut_calls runs.0 end calls runs.2 (λ up. shut ((call_leaves start runs.0 call runs.1).up up)) clean db may)

  unanswered : (call : Call) → (is_answered call ≡ true → ⊥) → is_answered call ≡ false
  unanswered call refused = go (is_answered call) refl
    where
      go : (b : Bool) → is_answered call ≡ b → is_answered call ≡ false
      go true is = absurd (refused is)
      go false is = is

  none_answered : (start end : FullText S) (calls : List Call) → Runs (DoesCall g) start calls end → (IsUp g start → ⊥) → IsCleanAt end → list_any is_answered calls ≡ false
  none_answered start end [] same shut clean = refl
  none_answered start end (call ∷ calls) runs shut clean =
      let mid_clean = clean_before runs.0 end calls runs.2 clean in
      let one = unanswered call (λ done. shut ((call_leaves start runs.0 call runs.1).up ((call_leaves start runs.0 call runs.1).live done mid_clean))) in
      let rest = none_answered runs.0 end calls runs.2 (λ up. shut ((call_leaves start runs.0 call runs.1).up up)) clean in
      ap₂ (λ a b. a || b) one rest

  -- calls that were not answered leave contents and names
  refused_left : (first : Contents) (names : List Name) (calls : List Call) → list_any is_answered calls ≡ false → (left_by first (accepted calls) ≡ first) × (noted_by names calls ≡ names)
  unfolding left_by
  refused_left first names [] none = (refl, refl)
  refused_left first names (Executed command (Ok reply) ∷ calls) none = absurd (let wrong = none in cc)
  refused_left first names (Executed command (Err fault) ∷ calls) none = refused_left first names calls none
  refused_left first names (Noted name true ∷ calls) none = absurd (let wrong = none in cc)
  refused_left first names (Noted name false ∷ calls) none = refused_left first names calls none
  refused_left first names (Looked true ∷ calls) none = absurd (let wrong = none in cc)
  refused_left first names (Looked false ∷ calls) none = refused_left first names calls none

  -- what a call commits
  left_here : (old : FullText S) (first : Contents) → Holds g old first → SurvivesCrash g old → IsUp g old → (db : Trees) → (shows g old.store).may_leave db → HoldsLeft first (store_value g old).noted db
  left_here old first holds settled up db kept = record { left = store_value g old; stored = settled up db kept; held = holds.held; noted = refl }

  call_commits : (old new : FullText S) (call : Call) (first : Contents) → DoesCall g old call new → Holds g old first → SurvivesCrash g old → IsUp g old → IsCleanAt new → (db : Trees) → (shows g new.store).may_leave db →
      HoldsLeft first (store_value g old).noted db ⊎ HoldsLeft (contents_with call first) (names_with call (store_value g old).noted) db
  call_commits old new (Executed command answer) first does holds settled up clean db may = elim (does.1.survives.crash clean db may) [
    | inl kept ↦ inl (left_here old first holds settled up db kept)
    | inr commits ↦ inr (commits.1 commits.0 first holds)
  ]
  call_commits old new (Noted name is_done) first does holds settled up clean db may = elim (does.1.survives.crash clean db may) [
    | inl kept ↦ inl (left_here old first holds settled up db kept)
    | inr commits ↦ inr (record { left = applied (Note name) (store_value g old); stored = commits.1 commits.0; held = holds.held; noted = refl })
  ]
  call_commits old new (Looked is_done) first does holds settled up clean db may = elim (does.1.survives.crash clean db may) [ inl kept ↦ inl (left_here old first holds settled up db kept) | inr nothing ↦ absurd nothing.1 ]

  -- one call more in front
  left_more : (first : Contents) (names : List Name) (call : Call) (calls : List Call) (db : Trees) → LeftAfter (contents_next first call) (names_next names call) calls db → LeftAfter first names (call ∷ calls) db
  left_more first names call calls db (at_rest it) = at_rest (subst₂ (λ c n. HoldsLeft c n db) (left_after first call calls) (names_after names call calls) it)
  left_more first names call calls db (running front more one is none it) =
      running (call ∷ front) more one (ap (λ cs. call ∷ cs) is) none
      (subst₂ (λ c n. HoldsLeft (contents_with one c) (names_with one n) db) (left_after first call front) (names_after names call front) it)

  crash_after : (start end : FullText S) (calls : List Call) (first : Contents) → Runs (DoesCall g) start calls end → IsCleanAt end → IsUp g start → Holds g start first → SurvivesCrash g start → (db : Trees) → (shows g end.store).may_leave db → LeftAfter first (store_value g start).noted calls db
  unfolding left_by
  crash_after start end [] first same clean up holds settled db may =
      at_rest (left_here start first holds settled up db (subst (λ (k : FullText S). (shows g k.store).may_leave db) same may))
  crash_after start end (call ∷ calls) first runs clean up holds settled db may = go (λ up_now held. crash_after runs.0 end calls (contents_next first call) runs.2 clean up_now held (call_leaves start runs.0 call runs.1).settled db may) (shows g runs.0.store).is_open refl
    where
      mid_clean : IsCleanAt runs.0
      mid_clean = clean_before runs.0 end calls runs.2 clean

      go : (IsUp g runs.0 → Holds g runs.0 (contents_next first call) → LeftAfter (contents_next first call) (store_value g runs.0).noted calls db) → (b : Bool) → (shows g runs.0.store).is_open ≡ b → LeftAfter first (store_value g start).noted (call ∷ calls) db
      go later true is =
          let up_now : IsUp g runs.0 = record { clean = mid_clean; is_open = is } in
          let held = call_holds start runs.0 call first runs.1 up_now holds in
          let rest = later up_now held in
          left_more first (store_value g start).noted call calls db (subst (λ names. LeftAfter (contents_next first call) names calls db) (call_names start runs.0 call first runs.1 up_now holds) rest)
      go later false is = shut (call_commits start runs.0 call first runs.1 holds settled up mid_clean db (shut_calls runs.0 end calls runs.2 is_shut clean db may))
        where
          is_shut : IsUp g runs.0 → ⊥
          is_shut now = let wrong = now.is_open in cc

          none : list_any is_answered (call ∷ calls) ≡ false
          none = ap₂ (λ a b. a || b) (unanswered call (λ done. is_shut ((call_leaves start runs.0 call runs.1).live done mid_clean))) (none_answered runs.0 end calls runs.2 is_shut clean)

          shut : HoldsLeft first (store_value g start).noted db ⊎ HoldsLeft (contents_with call first) (names_with call (store_value g start).noted) db → LeftAfter first (store_value g start).noted (call ∷ calls) db
          shut (inl it) =
              let same = refused_left first (store_value g start).noted (call ∷ calls) none in
              at_rest (subst₂ (λ c n. HoldsLeft c n db) (sym same.0) (sym same.1) it)
          shut (inr it) = running [] calls call refl none it

kept_by : {S : Type 0} (g : Ghosts S) (Does : FullText S → Call → FullText S → Type 0) → ((old new : FullText S) (call : Call) → Does old call new → DoesCall g old call new) → KeptByCalls g Does
kept_by g Does does_call start end calls first clean holds settled runs = record {
  stands = λ before more call is done. stands_behind g Does does_call start end calls before more call first clean holds runs is done;
  ends = λ is_open. stands_up g start end calls first (record { clean = clean; is_open = is_open }) holds plainly;
  refused = λ before more command fault is. refused_behind g Does does_call start end calls before more command fault runs is;
  crash = λ up db may. crash_after g start end calls first plainly clean up holds settled db may;
}
  where
    plainly : Runs (DoesCall g) start calls end
    plainly = runs_plainly g Does does_call start end calls runs

pub kept : {S : Type 0} (g : Ghosts S) → KeptByCalls g (DoesCall g)
kept g = kept_by g (DoesCall g) (λ old new call does. does)

-- ---- where the causes are known

pub does_plainly : {S : Type 0} (g : Ghosts S) (old new : FullText S) (call : Call) → DoesForCause g old call new → DoesCall g old call new
does_plainly g old new (Executed command answer) does = (does.0, does.1)
does_plainly g old new (Noted name is_done) does = does
does_plainly g old new (Looked is_done) does = does

pub kept_for_causes : {S : Type 0} (g : Ghosts S) → KeptByCalls g (DoesForCause g)
kept_for_causes g = kept_by g (DoesForCause g) (does_plainly g)

-- the disk did what it was told at each call
pub clean_at_first : {S : Type 0} (g : Ghosts S) (start end : FullText S) (calls : List Call) → Runs (DoesForCause g) start calls end → HasCleanDisk (shows g end.store) → HasCleanDisk (shows g start.store)
clean_at_first g start end calls runs clean = clean_before g start end calls (runs_plainly g (DoesForCause g) (does_plainly g) start end calls runs) clean
