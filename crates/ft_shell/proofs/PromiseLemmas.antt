-- What runs leave, by the calls that their turns made.
use Rattle.std.proofs.Common.{◌≡◌, ℕ, Bool, true, false, List, [], ◌∷◌, ◌++◌, Option, Some, None, Result, Ok, Err, refl, ap, sym, subst, ◌∙◌, ◌⊎◌, inl, inr, append-nil, append_assoc, ◌^◌, IsTrue, MatchBool, drop, map, take}
use Rattle.shell_text.specs.Print.{Settings}
use Rattle.shell_text.specs.Dot.{dot_words_of}
use Rattle.shell_text.specs.Units.{Member, Sql, Dot, members_of}
use Rattle.shell_text.specs.Words.{is_unclosed}
use Rattle.ft_values.specs.declared.fault.Fault.{Fault}
use Rattle.ft_content.specs.Step.{Contents, deserved}
use Rattle.ft_content.specs.Step.{after, reply_to, step, step_by}
use Rattle.ft_calls.specs.Kept.{Runs, left_by, AreAnswered, SurvivesCrash}
use Rattle.ft_statements.specs.Statements.{FullText as FullTextClass}
use Rattle.shell_io.specs.declared.run.Status.{Status}
use Rattle.shell_io.specs.declared.run.RunFault.{RunFault}
use Rattle.plain_sql.specs.Imports.{row_cells}
use Rattle.shell_io.specs.Records.{kept, records_in}
use Rattle.shell_io.specs.Outcomes.{Answer, Outcome, Tells, says, echoed, lacks_memory, outcome_of}
use Rattle.shell_io.specs.Sources.{Files}
use Rattle.ft_shell.proofs.Common.{take-append-drop, Ghosts, Command, Filter, Insert, Items, Reply, Select, FullText, is_outside, Call, DoesForCause, CallsKept, Executed, Looked, Noted, KeptByCalls, NoneGetsUnsound, accepted, sql_tokens, Class, Plain, class_of, DotCommand, Import, Nothing, SetMode, SetHeaders, SetSeparator, SetNull, SetEcho, SetBail, Print, Importing, Tables, Quit, Usage, Unknown, dot_command_of, reply_text, Parts, Shell, width_in, answer_of_reply, known_names, Effects, idle, and_then, outcome_in, after_stop, Begins, Turn, Turns, Ends, Console, IsFront, IsWhole, IsClean, Ran, AllRan, none_ran, last_ran, first_ran, Reached, Lists, KeptByRuns, RanAndKept, shell_parts, read_by, Broken, not_begun, not_echoed, not_told, made_name}
use Rattle.ft_shell.proofs.Spelled.{MayNote, MayRead, CallsOf, CallsOfClass, CallsOfDot, CallsOfImport}
use Rattle.ft_shell.proofs.CallsLemmas.{runs_join, turn_spelled, turns_made}
use Rattle.ft_shell.proofs.TurnsLemmas.{assoc_then, idle_then, turns_one, turns_then}
use Rattle.shell_text.specs.Units as units

-- ---- calls

-- the answer of a command is one that the definitions give over what those before it left
answer_at : (first : Contents) (before more : List Call) (command : Command) (answer : Result Reply Fault) → AreAnswered first (before ++ Executed command answer ∷ more) → IsTrue (is_outside answer) ⊎ (answer ≡ (step (left_by first (accepted before)) command).0)
unfolding AreAnswered left_by
answer_at first [] more command answer it = it.0
answer_at first (Executed c (Ok reply) ∷ before) more command answer it = answer_at (after first c) before more command answer it.1
answer_at first (Executed c (Err fault) ∷ before) more command answer it = answer_at first before more command answer it.1
answer_at first (Noted name is_done ∷ before) more command answer it = answer_at first before more command answer it
answer_at first (Looked is_done ∷ before) more command answer it = answer_at first before more command answer it

reply_is : (contents : Contents) (command : Command) (reply : Reply) → IsTrue (is_outside (Ok reply)) ⊎ (Ok reply ≡ (step contents command).0) → reply ≡ reply_to contents command
unfolding step
reply_is contents command reply (inl outside) = absurd (let wrong = outside in cc)
reply_is contents command reply (inr is) = go (deserved contents command) is
  where
    go : (due : Option Fault) → Ok reply ≡ (step_by due contents command).0 → reply ≡ reply_to contents command
    go None same = let is = same in cc
    go (Some fault) same = absurd (let wrong = same in cc)

-- ---- the turn of a call

-- where one of two lists stood together is cut
split_at : {X : Type 0} (xs ys before more : List X) (x : X) → xs ++ ys ≡ before ++ x ∷ more → ((m : List X) × (xs ≡ before ++ x ∷ m) × (more ≡ m ++ ys)) ⊎ ((b : List X) × (before ≡ xs ++ b) × (ys ≡ b ++ x ∷ more))
split_at [] ys before more x is = inr (before, refl, is)
split_at (a ∷ xs) ys [] more x is = inl (xs, (let same = is in cc), (let same = is in cc))
split_at (a ∷ xs) ys (b ∷ before) more x is = go (split_at xs ys before more x (let same = is in cc)) (let same = is in cc)
  where
    go : ((m : List _) × (xs ≡ before ++ x ∷ m) × (more ≡ m ++ ys)) ⊎ ((c : List _) × (before ≡ xs ++ c) × (ys ≡ c ++ x ∷ more)) → a ≡ b →
        ((m : List _) × (a ∷ xs ≡ (b ∷ before) ++ x ∷ m) × (more ≡ m ++ ys)) ⊎ ((c : List _) × (b ∷ before ≡ (a ∷ xs) ++ c) × (ys ≡ c ++ x ∷ more))
    go (inl (m, left, right)) same = inl (m, (λ i. same i ∷ left i), right)
    go (inr (c, left, right)) same = inr (c, (λ i. sym same i ∷ left i), right)

no_more : {X : Type 0} (before more : List X) (x : X) → [] ≡ before ++ x ∷ more → ⊥
no_more [] more x is = let wrong = is in cc
no_more (b ∷ before) more x is = let wrong = is in cc

-- no command is executed: names are noted or read at most
abbrev NoCommand : List Call → Type 0
NoCommand [] = Unit {0}
NoCommand (Executed command answer ∷ calls) = ⊥
NoCommand (Noted name is_done ∷ calls) = NoCommand calls
NoCommand (Looked is_done ∷ calls) = NoCommand calls

-- the calls of a turn: one command, or none
abbrev Few : List Call → Type 0
Few calls = NoCommand calls ⊎ ((command : Command) × (answer : Result Reply Fault) × (calls ≡ Executed command answer ∷ []))

none_of : (calls : List Call) → calls ≡ [] → NoCommand calls
none_of calls is = subst NoCommand (sym is) tt

note_of : (made : Option (List ℕ)) (calls : List Call) → MayNote made calls → NoCommand calls
note_of None calls is = none_of calls is
note_of (Some name) calls (inl is) = none_of calls is
note_of (Some name) calls (inr it) = subst NoCommand (sym it.1) tt

read_of : (calls : List Call) → MayRead calls → NoCommand calls
read_of calls (inl is) = none_of calls is
read_of calls (inr it) = subst NoCommand (sym it.1) tt

few_class : (settings : Settings) (told : Answer) (calls : List Call) (made : Option (List ℕ)) (class : Option Class) → CallsOfClass settings told calls made class → Few calls
few_class settings told calls made None it = inl (none_of calls it)
few_class settings told calls made (Some Plain) it = inl (note_of made calls it)
few_class settings told calls made (Some (FullTextClass command)) (inl it) = inr (command, it.0, it.1)
few_class settings told calls made (Some (FullTextClass command)) (inr it) = inl (none_of calls it.0)

few_import : (settings : Settings) (told : Answer) (calls : List Call) (holds : Files) (what : Import) (there : Option ℕ) → CallsOfImport settings told calls holds what there → Few calls
few_import settings told calls holds what None it = inl (note_of (Some what.table) calls it)
few_import settings told calls holds what (Some n) (inl it) = inr (Insert what.table None (map (row_cells n) (records_in (kept what.skip it.0))), it.2.0, it.2.1)
few_import settings told calls holds what (Some n) (inr it) = inl (none_of calls it.0)

few_dot : {P S : Type 0} (old : Shell P S) (told : Answer) (calls : List Call) (command : DotCommand) → CallsOfDot old told calls command → Few calls
few_dot old told calls (Importing what) it = few_import old.settings told calls old.holds what (width_in old.full_text.tables what.table) it
few_dot old told calls Nothing it = inl (none_of calls it)
few_dot old told calls (SetMode mode) it = inl (none_of calls it)
few_dot old told calls (SetHeaders shown) it = inl (none_of calls it)
few_dot old told calls (SetSeparator text) it = inl (none_of calls it)
few_dot old told calls (SetNull text) it = inl (none_of calls it)
few_dot old told calls (SetEcho on) it = inl (none_of calls it)
few_dot old told calls (SetBail on) it = inl (none_of calls it)
few_dot old told calls (Print words) it = inl (none_of calls it)
few_dot old told calls Tables it = inl (read_of calls it)
few_dot old told calls Quit it = inl (none_of calls it)
few_dot old told calls (Usage text) it = inl (none_of calls it)
few_dot old told calls Unknown it = inl (none_of calls it)

few : {P S : Type 0} (member : Member) (old : Shell P S) (told : Answer) (calls : List Call) → CallsOf member old told calls → Few calls
few (units.Fault line fault) old told calls it = inl (none_of calls it)
few (Sql line text) old told calls it = go (is_unclosed text) it
  where
    go : (is_open : Bool) → MatchBool is_open (calls ≡ []) (CallsOfClass old.settings told calls (made_name (sql_tokens text)) (class_of (known_names old.full_text) (sql_tokens text))) → Few calls
    go true it = inl (none_of calls it)
    go false it = few_class old.settings told calls (made_name (sql_tokens text)) (class_of (known_names old.full_text) (sql_tokens text)) it
few (Dot line text) old told calls it = few_dot old told calls (dot_command_of (dot_words_of (after_stop text))) it

not_noted : (before more : List Call) (command : Command) (answer : Result Reply Fault) → NoCommand (before ++ Executed command answer ∷ more) → ⊥
not_noted [] more command answer it = it
not_noted (Executed c a ∷ before) more command answer it = it
not_noted (Noted name is_done ∷ before) more command answer it = not_noted before more command answer it
not_noted (Looked is_done ∷ before) more command answer it = not_noted before more command answer it

few_is : (calls before more : List Call) (command : Command) (answer : Result Reply Fault) → Few calls → calls ≡ before ++ Executed command answer ∷ more → (before ≡ []) × (more ≡ [])
few_is calls before more command answer (inl only_notes) is = absurd (not_noted before more command answer (subst NoCommand is only_notes))
few_is calls before more command answer (inr (c, a, one)) is = go before (sym one ∙ is)
  where
    go : (before : List Call) → Executed c a ∷ [] ≡ before ++ Executed command answer ∷ more → (before ≡ []) × (more ≡ [])
    go [] same = (refl, (let e = same in cc))
    go (b ∷ before) same = absurd (no_more before more (Executed command answer) (let e = same in cc))

module _ {P S : Type 0} (g : Ghosts P) (h : Ghosts S) where
  -- a call's turn, among others, with what the turns before it did
  record At (Reaches : Effects → Shell P S → Member → Type 0) (all : Effects) (before : List Call) (command : Command) (answer : Result Reply Fault) (more : List Call) (new : FullText S) : Type 0 where
    member : Member
    was : Shell P S
    now : Shell P S
    earlier : Effects
    own : Effects
    later : Effects
    reached : Reaches earlier was member
    calls : earlier.calls ≡ before
    turn : Turn g h member was now own
    only : own.calls ≡ Executed command answer ∷ []
    behind : later.calls ≡ more
    ends : Runs (DoesForCause h) now.full_text more new
    out : all.out ≡ earlier.out ++ (own.out ++ later.out)
    err : all.err ≡ earlier.err ++ (own.err ++ later.err)

  -- turns from this shell, of those of these members that stand before one
  record From (members : List Member) (old : Shell P S) (earlier : Effects) (was : Shell P S) (next : Member) : Type 0 where
    done : List Member
    rest : List Member
    stands : members ≡ done ++ next ∷ rest
    turns : Turns g h done old was earlier

  at_turn : (members : List Member) (old new : Shell P S) (all : Effects) → Turns g h members old new all → (before more : List Call) (command : Command) (answer : Result Reply Fault) → all.calls ≡ before ++ Executed command answer ∷ more → At (From members old) all before command answer more new.full_text
  at_turn [] old new all it before more command answer is = absurd (no_more before more (Executed command answer) (sym (ap (λ (d : Effects). d.calls) it.1) ∙ is))
  at_turn (member ∷ members) old new all (mid, first, turn, rest) before more command answer is = go (λ later turns b e. at_turn members mid new later turns b more command answer e) first.ends refl rest
    where
      here : first.calls ≡ before ++ Executed command answer ∷ [] → before ≡ [] → Runs (DoesForCause h) mid.full_text more new.full_text → (later : Effects) → later.calls ≡ more → all.out ≡ first.out ++ later.out → all.err ≡ first.err ++ later.err → At (From (member ∷ members) old) all before command answer more new.full_text
      here own no_front ends later behind out err = record {
        member = member;
        was = old;
        now = mid;
        earlier = idle;
        own = first;
        later = later;
        reached = record { done = []; rest = members; stands = refl; turns = (refl, refl) };
        calls = sym no_front;
        turn = turn;
        only = own ∙ ap (λ b. b ++ Executed command answer ∷ []) no_front;
        behind = behind;
        ends = ends;
        out = out;
        err = err;
      }

      go : ((later : Effects) → Turns g h members mid new later → (b : List Call) → later.calls ≡ b ++ Executed command answer ∷ more → At (From members mid) later b command answer more new.full_text) → (stops : Bool) → first.ends ≡ stops →
          MatchBool stops ((new ≡ mid) × (all ≡ first)) ((later : Effects) × Turns g h members mid new later × (all ≡ and_then first later)) → At (From (member ∷ members) old) all before command answer more new.full_text
      go next true ended (same, all_is) =
          let own : first.calls ≡ before ++ Executed command answer ∷ more = sym (ap (λ (d : Effects). d.calls) all_is) ∙ is in
          let alone = few_is first.calls before more command answer (few member old turn.body first.calls (turn_spelled g h member old mid first turn)) own in
          here (own ∙ ap (λ m. before ++ Executed command answer ∷ m) alone.1) alone.0 (subst (λ m. Runs (DoesForCause h) mid.full_text m new.full_text) (sym alone.1) (ap (λ (s : Shell P S). s.full_text) same)) idle (sym alone.1)
          (ap (λ (d : Effects). d.out) all_is ∙ sym (append-nil first.out)) (ap (λ (d : Effects). d.err) all_is ∙ sym (append-nil first.err))
      go next false goes (later, turns, all_is) = cut (split_at first.calls later.calls before more (Executed command answer) (sym (ap (λ (d : Effects). d.calls) all_is) ∙ is))
        where
          cut : ((m : List Call) × (first.calls ≡ before ++ Executed command answer ∷ m) × (more ≡ m ++ later.calls)) ⊎ ((b : List Call) × (before ≡ first.calls ++ b) × (later.calls ≡ b ++ Executed command answer ∷ more)) → At (From (member ∷ members) old) all before command answer more new.full_text
          cut (inl (m, own, left)) =
              let alone = few_is first.calls before m command answer (few member old turn.body first.calls (turn_spelled g h member old mid first turn)) own in
              here (own ∙ ap (λ k. before ++ Executed command answer ∷ k) alone.1) alone.0 (subst (λ k. Runs (DoesForCause h) mid.full_text k new.full_text) (sym (left ∙ ap (λ k. k ++ later.calls) alone.1)) (turns_made g h members mid new later turns)) later (sym (left ∙ ap (λ k. k ++ later.calls) alone.1))
              (ap (λ (d : Effects). d.out) all_is) (ap (λ (d : Effects). d.err) all_is)
          cut (inr (b, front, left)) =
              let it = next later turns b left in
              record {
                member = it.member;
                was = it.was;
                now = it.now;
                earlier = and_then first it.earlier;
                own = it.own;
                later = it.later;
                reached = record {
                  done = member ∷ it.reached.done;
                  rest = it.reached.rest;
                  stands = ap (λ ms. member ∷ ms) it.reached.stands;
                  turns = (mid, first, turn, subst (λ ends. MatchBool ends ((it.was ≡ mid) × (and_then first it.earlier ≡ first)) ((rest : Effects) × Turns g h it.reached.done mid it.was rest × (and_then first it.earlier ≡ and_then first rest))) (sym goes) (it.earlier, it.reached.turns, refl));
                };
                calls = ap (λ cs. first.calls ++ cs) it.calls ∙ sym front;
                turn = it.turn;
                only = it.only;
                behind = it.behind;
                ends = it.ends;
                out = ap (λ (d : Effects). d.out) all_is ∙ ap (λ o. first.out ++ o) it.out ∙ sym (append_assoc first.out it.earlier.out (it.own.out ++ it.later.out));
                err = ap (λ (d : Effects). d.err) all_is ∙ ap (λ o. first.err ++ o) it.err ∙ sym (append_assoc first.err it.earlier.err (it.own.err ++ it.later.err));
              }

-- ---- runs

-- turns of members that stand first in what was read
record Made {P S : Type 0} (g : Ghosts P) (h : Ghosts S) (read : List ℕ) (old new : Shell P S) (all : Effects) : Type 0 where
  members : List Member
  rest : List Member
  stands : members_of read ≡ members ++ rest
  turns : Turns g h members old new all

whole_made : {P S : Type 0} (g : Ghosts P) (h : Ghosts S) (left : Option (List ℕ)) (read : List ℕ) (old new : Shell P S) (all : Effects) → IsWhole g h left read old new all → Made g h read old new all
whole_made g h left read old new all (inl it) = record { members = members_of read; rest = []; stands = sym (append-nil (members_of read)); turns = it.2 }
whole_made g h left read old new all (inr it) = record {
  members = members_of (take (2 ^ 30) read ++ drop (2 ^ 30) read);
  rest = [];
  stands = ap members_of (sym (take-append-drop (2 ^ 30) read)) ∙ sym (append-nil (members_of (take (2 ^ 30) read ++ drop (2 ^ 30) read)));
  turns = it.1 (drop (2 ^ 30) read);
}

-- of a front of the turns, what begins it
front_begins : {P S : Type 0} (g : Ghosts P) (h : Ghosts S) (left : Option (List ℕ)) (read : List ℕ) (old new : Shell P S) (all : Effects) (next : List Member) → IsFront g h left read old new all next → Begins g h read old new all next
front_begins g h left read old new all next (inl it) = it.1
front_begins g h left read old new all next (inr it) = subst (λ bytes. Begins g h bytes old new all next) (append-nil read) (it [])

-- with the turn that was done, and not told whole
broken_made : {P S : Type 0} (g : Ghosts P) (h : Ghosts S) (fault : RunFault) (whole : Effects) (read : List ℕ) (old mid new : Shell P S) (out out' err err' : Option (List ℕ)) (next : List Member) (all : Effects) →
    Begins g h read old mid whole next → Broken g h fault whole mid new out out' err err' next all → Made g h read old new all
broken_made {P} {S} g h fault whole read old mid new out out' err err' next all begins broken = go next all begins.3 broken
  where
    front : List Member
    front = take begins.0 (members_of read)

    undone : (next : List Member) → drop begins.0 (members_of read) ≡ next ++ begins.2 → new ≡ mid → Made g h read old new whole
    undone next left same = record {
      members = front;
      rest = drop begins.0 (members_of read);
      stands = sym (take-append-drop begins.0 (members_of read));
      turns = subst (λ s. Turns g h front old s whole) (sym same) begins.1;
    }

    go : (next : List Member) (all : Effects) → drop begins.0 (members_of read) ≡ next ++ begins.2 → Broken g h fault whole mid new out out' err err' next all → Made g h read old new all
    go next all left (not_begun same no_out no_err) = undone [] left same
    go next all left (not_echoed member goes cause same part no_err) = undone (member ∷ []) left same
    go next all left (not_told member own told rest goes cause turn is written lines) = record {
      members = front ++ member ∷ [];
      rest = begins.2;
      stands = sym (take-append-drop begins.0 (members_of read)) ∙ ap (λ ms. front ++ ms) left ∙ sym (append_assoc front (member ∷ []) begins.2);
      turns = turns_then g h front (member ∷ []) old mid new whole own begins.1 goes (turns_one g h member mid new own turn);
    }

made_as : {P S : Type 0} (g : Ghosts P) (h : Ghosts S) (read : List ℕ) (old new : Shell P S) (all due : Effects) → due ≡ all → Made g h read old new all → Made g h read old new due
made_as g h read old new all due is made = subst (Made g h read old new) (sym is) made

-- the turns of a run, however it ended
ran_turns : {P S : Type 0} (g : Ghosts P) (h : Ghosts S) (ended : Result Status RunFault) (old new : Console P S) (all : Effects) (ran : Ran g h ended old new all) → Made g h (read_by g h ended old new all ran) old.shell new.shell all
ran_turns g h (Ok status) old new all (it, is) = made_as g h it.read old.shell new.shell it.effects all is (whole_made g h new.input it.read old.shell new.shell it.effects it.turns)
ran_turns g h (Err fault) old new all (it, is) =
    made_as g h it.read old.shell new.shell it.effects all is
    (broken_made g h fault it.whole it.read old.shell it.mid new.shell it.mid_out new.out it.mid_err new.err it.next it.effects (front_begins g h new.input it.read old.shell it.mid it.whole it.next it.turns) it.broken)

ran_made : {P S : Type 0} (g : Ghosts P) (h : Ghosts S) (ended : Result Status RunFault) (old new : Console P S) (all : Effects) → Ran g h ended old new all → Runs (DoesForCause h) old.shell.full_text all.calls new.shell.full_text
ran_made g h ended old new all ran = let it = ran_turns g h ended old new all ran in turns_made g h it.members old.shell new.shell all it.turns

pub all_made : {P S : Type 0} (g : Ghosts P) (h : Ghosts S) (old new : Parts P S) (reads : List (List ℕ)) (all : Effects) → AllRan g h old reads all new → Runs (DoesForCause h) old.full_text all.calls new.full_text
all_made g h old new reads all (none_ran parts) = refl
all_made g h old new reads all (last_ran ended from to own ran) = ran_made g h ended from to own ran
all_made g h old new reads all (first_ran ended from to own others rest last ran later) =
    runs_join h from.shell.full_text to.shell.full_text last.full_text own.calls rest.calls (ran_made g h ended from to own ran) (all_made g h (shell_parts to.shell) last others rest later)

-- in a run, after none
at_run : {P S : Type 0} (g : Ghosts P) (h : Ghosts S) (ended : Result Status RunFault) (from to : Console P S) (all : Effects) (ran : Ran g h ended from to all) (others : List (List ℕ)) → (before more : List Call) (command : Command) (answer : Result Reply Fault) → all.calls ≡ before ++ Executed command answer ∷ more → At g h (Reached g h (shell_parts from.shell) (read_by g h ended from to all ran ∷ others)) all before command answer more to.shell.full_text
at_run g h ended from to all ran others before more command answer is =
    let turns = ran_turns g h ended from to all ran in
    let it = at_turn g h turns.members from.shell to.shell all turns.turns before more command answer is in
    record {
      member = it.member;
      was = it.was;
      now = it.now;
      earlier = it.earlier;
      own = it.own;
      later = it.later;
      reached = record {
        before = [];
        whole = idle;
        start = from.shell;
        ran = none_ran (shell_parts from.shell);
        read = read_by g h ended from to all ran;
        more = others;
        inputs = refl;
        members = it.reached.done;
        rest = it.reached.rest ++ turns.rest;
        stands = turns.stands ∙ ap (λ ms. ms ++ turns.rest) it.reached.stands ∙ append_assoc it.reached.done (it.member ∷ it.reached.rest) turns.rest;
        part = it.earlier;
        turns = it.reached.turns;
        both = sym (idle_then it.earlier);
      };
      calls = it.calls;
      turn = it.turn;
      only = it.only;
      behind = it.behind;
      ends = it.ends;
      out = it.out;
      err = it.err;
    }

at_all : {P S : Type 0} (g : Ghosts P) (h : Ghosts S) (old new : Parts P S) (reads : List (List ℕ)) (all : Effects) → AllRan g h old reads all new → (before more : List Call) (command : Command) (answer : Result Reply Fault) → all.calls ≡ before ++ Executed command answer ∷ more → At g h (Reached g h old reads) all before command answer more new.full_text
at_all g h old new reads all (none_ran parts) before more command answer is = absurd (no_more before more (Executed command answer) is)
at_all g h old new reads all (last_ran ended from to own ran) before more command answer is = at_run g h ended from to own ran [] before more command answer is
at_all {P} {S} g h old new reads all (first_ran ended from to own inputs rest last ran others) before more command answer is = cut (λ b left. at_all g h (shell_parts to.shell) last inputs rest others b more command answer left) (split_at own.calls rest.calls before more (Executed command answer) is)
  where
    cut : ((b : List Call) → rest.calls ≡ b ++ Executed command answer ∷ more → At g h (Reached g h (shell_parts to.shell) inputs) rest b command answer more last.full_text) → ((m : List Call) × (own.calls ≡ before ++ Executed command answer ∷ m) × (more ≡ m ++ rest.calls)) ⊎ ((b : List Call) × (before ≡ own.calls ++ b) × (rest.calls ≡ b ++ Executed command answer ∷ more)) →
        At g h (Reached g h (shell_parts from.shell) (read_by g h ended from to own ran ∷ inputs)) (and_then own rest) before command answer more last.full_text
    cut next (inl (m, mine, left)) =
        let it = at_run g h ended from to own ran inputs before m command answer mine in
        record {
          member = it.member;
          was = it.was;
          now = it.now;
          earlier = it.earlier;
          own = it.own;
          later = and_then it.later rest;
          reached = it.reached;
          calls = it.calls;
          turn = it.turn;
          only = it.only;
          behind = ap (λ k. k ++ rest.calls) it.behind ∙ sym left;
          ends = subst (λ k. Runs (DoesForCause h) it.now.full_text k last.full_text) (sym left) (runs_join h it.now.full_text to.shell.full_text last.full_text m rest.calls it.ends (all_made g h (shell_parts to.shell) last inputs rest others));
          out = behind it.earlier.out it.own.out it.later.out rest.out it.out;
          err = behind it.earlier.err it.own.err it.later.err rest.err it.err;
        }
      where
        behind : {xs : List ℕ} (front mine back end : List ℕ) → xs ≡ front ++ (mine ++ back) → xs ++ end ≡ front ++ (mine ++ (back ++ end))
        behind front mine back end is = ap (λ o. o ++ end) is ∙ append_assoc front (mine ++ back) end ∙ ap (λ o. front ++ o) (append_assoc mine back end)
    cut next (inr (b, front, left)) =
        let it = next b left in
        let r = it.reached in
        record {
          member = it.member;
          was = it.was;
          now = it.now;
          earlier = and_then own it.earlier;
          own = it.own;
          later = it.later;
          reached = record {
            before = read_by g h ended from to own ran ∷ r.before;
            whole = and_then own r.whole;
            start = r.start;
            ran = first_ran ended from to own r.before r.whole (shell_parts r.start) ran r.ran;
            read = r.read;
            more = r.more;
            inputs = ap (λ rs. read_by g h ended from to own ran ∷ rs) r.inputs;
            members = r.members;
            rest = r.rest;
            stands = r.stands;
            part = r.part;
            turns = r.turns;
            both = ap (and_then own) r.both ∙ sym (assoc_then own r.whole r.part);
          };
          calls = ap (λ cs. own.calls ++ cs) it.calls ∙ sym front;
          turn = it.turn;
          only = it.only;
          behind = it.behind;
          ends = it.ends;
          out = ap (λ o. own.out ++ o) it.out ∙ sym (append_assoc own.out it.earlier.out (it.own.out ++ it.later.out));
          err = ap (λ o. own.err ++ o) it.err ∙ sym (append_assoc own.err it.earlier.err (it.own.err ++ it.later.err));
        }

-- ---- a Select's turn

module _ (table : List ℕ) (items : Items) (filter : Filter) (limit : Option ℕ) (offset : ℕ) (reply : Reply) where
  abbrev selected : List Call
  selected = Executed (Select table items filter limit offset) (Ok reply) ∷ []

  not_none : NoCommand selected → ⊥
  not_none it = it

  select_class : (settings : Settings) (told : Answer) (made : Option (List ℕ)) (class : Option Class) → CallsOfClass settings told selected made class → Tells (says (reply_text settings reply)) told
  select_class settings told made None it = absurd (not_none (none_of selected it))
  select_class settings told made (Some Plain) it = absurd (not_none (note_of made selected it))
  select_class settings told made (Some (FullTextClass command)) (inl (answer, is, tells)) =
      let same : answer ≡ Ok reply = (let e = is in cc) in
      subst (λ a. Tells (answer_of_reply settings a) told) same tells
  select_class settings told made (Some (FullTextClass command)) (inr it) = absurd (let wrong = it.0 in cc)

  select_import : (settings : Settings) (told : Answer) (holds : Files) (what : Import) (there : Option ℕ) → CallsOfImport settings told selected holds what there → ⊥
  select_import settings told holds what None it = not_none (note_of (Some what.table) selected it)
  select_import settings told holds what (Some n) (inl it) = let wrong = it.2.1 in cc
  select_import settings told holds what (Some n) (inr it) = let wrong = it.0 in cc

  select_dot : {P S : Type 0} (old : Shell P S) (told : Answer) (command : DotCommand) → CallsOfDot old told selected command → ⊥
  select_dot old told (Importing what) it = select_import old.settings told old.holds what (width_in old.full_text.tables what.table) it
  select_dot old told Nothing it = not_none (none_of selected it)
  select_dot old told (SetMode mode) it = not_none (none_of selected it)
  select_dot old told (SetHeaders shown) it = not_none (none_of selected it)
  select_dot old told (SetSeparator text) it = not_none (none_of selected it)
  select_dot old told (SetNull text) it = not_none (none_of selected it)
  select_dot old told (SetEcho on) it = not_none (none_of selected it)
  select_dot old told (SetBail on) it = not_none (none_of selected it)
  select_dot old told (Print words) it = not_none (none_of selected it)
  select_dot old told Tables it = not_none (read_of selected it)
  select_dot old told Quit it = not_none (none_of selected it)
  select_dot old told (Usage text) it = not_none (none_of selected it)
  select_dot old told Unknown it = not_none (none_of selected it)

  select_sql : {P S : Type 0} (line : ℕ) (text : List ℕ) (old : Shell P S) (told : Answer) → CallsOf (Sql line text) old told selected → Tells (says (reply_text old.settings reply)) told
  select_sql line text old told it = go (is_unclosed text) it
    where
      go : (is_open : Bool) → MatchBool is_open (selected ≡ []) (CallsOfClass old.settings told selected (made_name (sql_tokens text)) (class_of (known_names old.full_text) (sql_tokens text))) → Tells (says (reply_text old.settings reply)) told
      go true it = absurd (not_none (none_of selected it))
      go false it = select_class old.settings told (made_name (sql_tokens text)) (class_of (known_names old.full_text) (sql_tokens text)) it

  select_lists : {P S : Type 0} (g : Ghosts P) (h : Ghosts S) (old new : Parts P S) (reads : List (List ℕ)) (all : Effects) (before more : List Call) → At g h (Reached g h old reads) all before (Select table items filter limit offset) (Ok reply) more new.full_text → Lists g h old reads all before (Select table items filter limit offset) reply more new
  select_lists {P} {S} g h old new reads all before more it = go it.member it.turn it.reached
    where
      go : (member : Member) → Turn g h member it.was it.now it.own → Reached g h old reads it.earlier it.was member → Lists g h old reads all before (Select table items filter limit offset) reply more new
      go (units.Fault line fault) turn reached = absurd (not_none (none_of selected (sym it.only ∙ turn_spelled g h (units.Fault line fault) it.was it.now it.own turn)))
      go (Dot line text) turn reached = absurd (select_dot it.was turn.body (dot_command_of (dot_words_of (after_stop text))) (subst (λ calls. CallsOfDot it.was turn.body calls (dot_command_of (dot_words_of (after_stop text)))) it.only (turn_spelled g h (Dot line text) it.was it.now it.own turn)))
      go (Sql line text) turn reached = record {
        line = line;
        text = text;
        was = it.was;
        now = it.now;
        earlier = it.earlier;
        own = it.own;
        later = it.later;
        reached = reached;
        calls_before = it.calls;
        turn = turn;
        one_call = it.only;
        calls_behind = it.behind;
        goes_on = it.ends;
        prints = told (select_sql line text it.was turn.body (subst (λ calls. CallsOf (Sql line text) it.was turn.body calls) it.only (turn_spelled g h (Sql line text) it.was it.now it.own turn)));
        out = it.out;
        err = it.err;
      }
        where
          shown : Answer → Outcome
          shown answer = echoed it.was.settings text (outcome_of it.was.settings.bail line answer)

          told : Tells (says (reply_text it.was.settings reply)) turn.body → (outcome_in it.own ≡ shown (says (reply_text it.was.settings reply))) ⊎ (outcome_in it.own ≡ shown lacks_memory)
          told (inl is) = inl (turn.tells ∙ ap shown is)
          told (inr is) = inr (turn.tells ∙ ap shown is)

-- ---- the promise

pub kept_by_runs : {P S : Type 0} (g : Ghosts P) (h : Ghosts S) → KeptByCalls h (DoesForCause h) → NoneGetsUnsound → KeptByRuns g h (IsClean h)
kept_by_runs g h law sound first old new reads all held settled ran clean = record {
  calls = kept;
  sound = λ id. sound first (accepted all.calls) id;
  lists = λ before more table items filter limit offset reply is.
      let select = Select table items filter limit offset in
      let behind = kept.stands before more (Executed select (Ok reply)) is refl in (
        reply_is (left_by first (accepted before)) select reply (answer_at first before [] select (Ok reply) behind.3.answered),
        select_lists table items filter limit offset reply g h old new reads all before more (at_all g h old new reads all ran before more select (Ok reply) is),
      );
}
  where
    kept : CallsKept h (DoesForCause h) first old.full_text all.calls new.full_text
    kept = law old.full_text new.full_text all.calls first clean held settled (all_made g h old new reads all ran)

-- one run, however it ends
pub ran_and_kept : {P S : Type 0} (g : Ghosts P) (h : Ghosts S) (ended : Result Status RunFault) (old new : Console P S) → Ends g h ended old new → SurvivesCrash h old.shell.full_text → KeptByRuns g h (IsClean h) → RanAndKept g h ended old new
ran_and_kept g h (Ok status) old new ran settled law = (ran.effects, (ran, refl), λ first held clean. law first (shell_parts old.shell) (shell_parts new.shell) (ran.read ∷ []) ran.effects held settled (last_ran (Ok status) old new ran.effects (ran, refl)) clean)
ran_and_kept g h (Err fault) old new cut settled law = (cut.effects, (cut, refl), λ first held clean. law first (shell_parts old.shell) (shell_parts new.shell) (cut.read ∷ []) cut.effects held settled (last_ran (Err fault) old new cut.effects (cut, refl)) clean)
