-- What parts of a run do, one after the other.
use Rattle.std.proofs.Common.{◌≡◌, ℕ, ◌+◌, ◌-◌, ◌^◌, min, Bool, true, false, ◌||◌, List, [], ◌∷◌, ◌++◌, Option, Result, Ok, Err, refl, sym, ap, subst, ◌∙◌, arith, append_assoc, inl, inr, IfErr, OnOk}
use Rattle.shell_text.specs.declared.units.UnitKind.{UnitKind}
use Rattle.shell_text.specs.Units.{Member}
use Rattle.shell_text.specs.Splitting.{member_as}
use Rattle.shell_io.specs.declared.run.RunFault.{RunFault}
use Rattle.shell_io.specs.Outcomes.{Answer, echo_text, echoed, outcome_of}
use Rattle.shell_text.specs.Print.{Settings}
use Rattle.shell_io.specs.Writing.{AppendsUpTo, Sends}
use Rattle.shell_io.proofs.{appends_then, appends_same}
use Rattle.ft_shell.proofs.Common.{Appends, Ghosts, Shell, Effects, effects_of, idle, and_then, Body, Turn, calls_in, echo_of, Broken, not_begun, not_echoed, not_told, Moment, Did, Cut, Passes, Breaks, Runs}
use Rattle.ft_shell.proofs.TurnsLemmas.{assoc_then, turns_then, turns_one}
use Rattle.shell_text.specs.declared.units.UnitKind.TheVariants as kinds
use Rattle.shell_io.specs.declared.run.RunFault.TheVariants as causes

-- ---- turns of members

pub or_false : (b : Bool) → (b || false) ≡ b
or_false true = refl
or_false false = refl

right_of_or : (a b : Bool) → (a || b) ≡ false → b ≡ false
right_of_or true b h = absurd (let wrong = h in cc)
right_of_or false b h = h

abbrev pub did_none : {P S : Type 0} (g : Ghosts P) (h : Ghosts S) (a : Moment P S) → Did g h [] a a
did_none g h a = record {
  effects = idle;
  turns = (refl, refl);
  out = appends_same a.out;
  err = appends_same a.err;
  faults = omega arith;
  quit = sym (or_false a.status.quit);
}

pub did_one : {P S : Type 0} (g : Ghosts P) (h : Ghosts S) (member : Member) (a b : Moment P S) (told : Effects) → Turn g h member a.shell b.shell told → Appends a.out b.out told.out → Appends a.err b.err told.err →
    b.status.faults ≡ min (a.status.faults + told.faults) (2 ^ 64 - 1) → b.status.quit ≡ (a.status.quit || told.ends) → Did g h (member ∷ []) a b
did_one g h member a b told turn out err faults quit = record {
  effects = told;
  turns = turns_one g h member a.shell b.shell told turn;
  out = out;
  err = err;
  faults = omega (arith, faults);
  quit = quit;
}

-- a session that goes on was not ended by what was done before
goes_on : {P S : Type 0} (g : Ghosts P) (h : Ghosts S) (members : List Member) (a b : Moment P S) (d : Did g h members a b) → b.status.quit ≡ false → d.effects.ends ≡ false
goes_on g h members a b d goes = right_of_or a.status.quit d.effects.ends (sym d.quit ∙ goes)

-- nothing ended it before, and so it goes on
went_on : {P S : Type 0} (g : Ghosts P) (h : Ghosts S) (members : List Member) (a b : Moment P S) (d : Did g h members a b) → b.status.quit ≡ false → a.status.quit ≡ false
went_on g h members a b d goes = left_of_or a.status.quit d.effects.ends (sym d.quit ∙ goes)
  where
    left_of_or : (x y : Bool) → (x || y) ≡ false → x ≡ false
    left_of_or true y h = absurd (let wrong = h in cc)
    left_of_or false y h = refl

abbrev did_then : {P S : Type 0} (g : Ghosts P) (h : Ghosts S) (xs ys : List Member) (a b c : Moment P S) → Did g h xs a b → b.status.quit ≡ false → Did g h ys b c → Did g h (xs ++ ys) a c
did_then g h xs ys a b c first goes second = record {
  effects = and_then first.effects second.effects;
  turns = turns_then g h xs ys a.shell b.shell c.shell first.effects second.effects first.turns (goes_on g h xs a b first goes) second.turns;
  out = appends_then a.out b.out c.out first.effects.out second.effects.out first.out second.out;
  err = appends_then a.err b.err c.err first.effects.err second.effects.err first.err second.err;
  faults = omega (arith, first.faults, second.faults);
  quit = second.quit ∙ ap (λ q. q || second.effects.ends) (goes ∙ sym (went_on g h xs a b first goes));
}

-- ---- turns up to a fault

broken_after : {P S : Type 0} (g : Ghosts P) (h : Ghosts S) (fault : RunFault) (first whole : Effects) (old new : Shell P S) (out out' err err' : Option (List ℕ)) (next : List Member) (all : Effects) →
    Broken g h fault whole old new out out' err err' next all → Broken g h fault (and_then first whole) old new out out' err err' next (and_then first all)
broken_after g h fault first whole old new out out' err err' next all (not_begun same no_out no_err) = not_begun same no_out no_err
broken_after g h fault first whole old new out out' err err' next all (not_echoed member goes cause same part no_err) = not_echoed member goes cause same part no_err
broken_after g h fault first whole old new out out' err err' next all (not_told member own front rest goes cause turn is written lines) =
    subst (Broken g h fault (and_then first whole) old new out out' err err' (member ∷ [])) (assoc_then first whole own) (not_told member own front rest goes cause turn is written lines)

abbrev pub cut_whole : {P S : Type 0} (g : Ghosts P) (h : Ghosts S) (fault : RunFault) (members : List Member) (a b : Moment P S) → Did g h members a b → Cut g h fault members [] a b
cut_whole g h fault members a b d = record { mid = b; did = d; effects = d.effects; broken = not_begun refl refl refl }

cut_then : {P S : Type 0} (g : Ghosts P) (h : Ghosts S) (fault : RunFault) (xs ys next : List Member) (a b c : Moment P S) → Did g h xs a b → b.status.quit ≡ false → Cut g h fault ys next b c → Cut g h fault (xs ++ ys) next a c
cut_then g h fault xs ys next a b c first goes second = record {
  mid = second.mid;
  did = did_then g h xs ys a b second.mid first goes second.did;
  effects = and_then first.effects second.effects;
  broken = broken_after g h fault first.effects second.did.effects second.mid.shell c.shell second.mid.out c.out second.mid.err c.err next second.effects second.broken;
}

-- ---- parts of a run

pub passes_none : {P S W : Type 0} (g : Ghosts P) (h : Ghosts S) (due left : W → List Member) (a : Moment P S) → ((way : W) → due way ≡ left way) → Passes g h due left a a
passes_none g h due left a same = record { done = []; front = λ way. (due way, refl, λ goes. same way); did = did_none g h a }

pub passes_one : {P S : Type 0} (g : Ghosts P) (h : Ghosts S) (member : Member) (a b : Moment P S) → Did g h (member ∷ []) a b → Passes g h (λ (rest : List Member). member ∷ rest) (λ rest. rest) a b
passes_one g h member a b did = record { done = member ∷ []; front = λ rest. (rest, refl, λ goes. refl); did = did }

-- a turn was done, and a writer refused a part of what it tells
pub breaks_one : {P S : Type 0} (g : Ghosts P) (h : Ghosts S) (fault : RunFault) (member : Member) (a b : Moment P S) (own : Effects) (front rest : List ℕ) → fault ≡ causes.Write → Turn g h member a.shell b.shell own →
    own.out ≡ echo_of a.shell.settings member ++ (front ++ rest) → Appends a.out b.out (echo_of a.shell.settings member ++ front) → AppendsUpTo a.err b.err own.err → Breaks g h fault (λ (rest : List Member). member ∷ rest) a b
breaks_one g h fault member a b own front rest cause turn is written lines = record {
  done = [];
  next = member ∷ [];
  front = λ more. (more, refl);
  cut = record { mid = a; did = did_none g h a; effects = and_then idle own; broken = not_told member own front rest refl cause turn is written lines };
}

-- the echo of a unit was refused, so that it is not run
pub breaks_echo : {P S : Type 0} (g : Ghosts P) (h : Ghosts S) (fault : RunFault) (member : Member) (a : Moment P S) (out : Option (List ℕ)) → AppendsUpTo a.out out (echo_of a.shell.settings member) → fault ≡ causes.Write → Breaks g h fault (λ (rest : List Member). member ∷ rest) a (record a { out = out })
breaks_echo g h fault member a out part cause = record {
  done = [];
  next = member ∷ [];
  front = λ more. (more, refl);
  cut = record { mid = a; did = did_none g h a; effects = idle; broken = not_echoed member refl cause refl part refl };
}

-- where nothing more was done
abbrev pub breaks_after : {P S W : Type 0} (g : Ghosts P) (h : Ghosts S) (fault : RunFault) (due left : W → List Member) (a b : Moment P S) → Passes g h due left a b → Breaks g h fault due a b
breaks_after g h fault due left a b first = record { done = first.done; next = []; front = λ way. ((first.front way).0, (first.front way).1); cut = cut_whole g h fault first.done a b first.did }

pub breaks_none : {P S W : Type 0} (g : Ghosts P) (h : Ghosts S) (fault : RunFault) (due : W → List Member) (a : Moment P S) → Breaks g h fault due a a
breaks_none g h fault due a = breaks_after g h fault due due a a (passes_none g h due due a (λ way. refl))

pub passes_then : {P S W : Type 0} (g : Ghosts P) (h : Ghosts S) (due mid left : W → List Member) (a b c : Moment P S) → Passes g h due mid a b → b.status.quit ≡ false → Passes g h mid left b c → Passes g h due left a c
passes_then g h due mid left a b c first goes second = record {
  done = first.done ++ second.done;
  front = λ way. (
    (second.front way).0,
    (first.front way).1 ∙ ap (λ ms. first.done ++ ms) ((first.front way).2 goes ∙ (second.front way).1) ∙ sym (append_assoc first.done second.done (second.front way).0),
    (second.front way).2,
  );
  did = did_then g h first.done second.done a b c first.did goes second.did;
}

pub breaks_then : {P S W : Type 0} (g : Ghosts P) (h : Ghosts S) (fault : RunFault) (due mid : W → List Member) (a b c : Moment P S) → Passes g h due mid a b → b.status.quit ≡ false → Breaks g h fault mid b c → Breaks g h fault due a c
breaks_then g h fault due mid a b c first goes second = record {
  done = first.done ++ second.done;
  next = second.next;
  front = λ way. (
    (second.front way).0,
    (first.front way).1 ∙ ap (λ ms. first.done ++ ms) ((first.front way).2 goes ∙ (second.front way).1) ∙ sym (append_assoc first.done second.done (second.next ++ (second.front way).0)),
  );
  cut = cut_then g h fault first.done second.done second.next a b c first.did goes second.cut;
}

pub runs_then : {P S W T : Type 0} (g : Ghosts P) (h : Ghosts S) (r : Result T RunFault) (due mid left : W → List Member) (a b c : Moment P S) → Passes g h due mid a b → b.status.quit ≡ false → Runs g h r mid left b c → Runs g h r due left a c
runs_then g h (Ok x) due mid left a b c first goes second = passes_then g h due mid left a b c first goes second
runs_then g h (Err fault) due mid left a b c first goes second = (breaks_then g h fault due mid a b c first goes second.0, second.1)

-- ---- what is due, and what is left, said in another way

pub passes_as : {P S V W : Type 0} (g : Ghosts P) (h : Ghosts S) (due left : W → List Member) (due' left' : V → List Member) (way_of : V → W) (a b : Moment P S) → ((v : V) → due' v ≡ due (way_of v)) → ((v : V) → b.status.quit ≡ false → left (way_of v) ≡ left' v) →
    Passes g h due left a b → Passes g h due' left' a b
passes_as g h due left due' left' way_of a b same_due same_left it = record {
  done = it.done;
  front = λ v. ((it.front (way_of v)).0, same_due v ∙ (it.front (way_of v)).1, λ goes. (it.front (way_of v)).2 goes ∙ same_left v goes);
  did = it.did;
}

pub breaks_as : {P S V W : Type 0} (g : Ghosts P) (h : Ghosts S) (fault : RunFault) (due : W → List Member) (due' : V → List Member) (way_of : V → W) (a b : Moment P S) → ((v : V) → due' v ≡ due (way_of v)) → Breaks g h fault due a b → Breaks g h fault due' a b
breaks_as g h fault due due' way_of a b same_due it = record {
  done = it.done;
  next = it.next;
  front = λ v. ((it.front (way_of v)).0, same_due v ∙ (it.front (way_of v)).1);
  cut = it.cut;
}

pub runs_as : {P S V W T : Type 0} (g : Ghosts P) (h : Ghosts S) (r : Result T RunFault) (due left : W → List Member) (due' left' : V → List Member) (way_of : V → W) (a b : Moment P S) → ((v : V) → due' v ≡ due (way_of v)) → ((v : V) → b.status.quit ≡ false → left (way_of v) ≡ left' v) →
    Runs g h r due left a b → Runs g h r due' left' a b
runs_as g h (Ok x) due left due' left' way_of a b same_due same_left it = passes_as g h due left due' left' way_of a b same_due same_left it
runs_as g h (Err fault) due left due' left' way_of a b same_due same_left it = (breaks_as g h fault due due' way_of a b same_due it.0, it.1)

-- ---- one turn

-- the exit of a call that was cut short
pub runs_err : {P S W T : Type 0} (g : Ghosts P) (h : Ghosts S) (r : Result T RunFault) (fault : RunFault) (due left : W → List Member) (a b : Moment P S) → r ≡ Err fault → Runs g h {W = W} {T = T} (Err fault) due left a b → Runs g h r due left a b
runs_err {P} {S} {W} {T} g h r fault due left a b is runs = subst (λ (x : Result T RunFault). Runs g h x due left a b) (sym is) runs

-- want of memory, before anything was done
pub lacks_memory : {P S W : Type 0} (g : Ghosts P) (h : Ghosts S) (due left : W → List Member) (a : Moment P S) → Runs g h {W = W} {T = Unit {0}} (Err causes.Memory) due left a a
lacks_memory g h due left a = (breaks_none g h causes.Memory due a, inr refl)

-- A turn was done. Its echo was written, and what it tells after that, or a front of it.
pub runs_turn : {P S T : Type 0} (g : Ghosts P) (h : Ghosts S) (r : Result T RunFault) (member : Member) (a b : Moment P S) (told : Effects) (mid : Option (List ℕ)) (body : List ℕ) → Turn g h member a.shell b.shell told →
    told.out ≡ echo_of a.shell.settings member ++ body → Appends a.out mid (echo_of a.shell.settings member) → Sends r mid b.out body → Sends r a.err b.err told.err →
    IfErr r (λ fault. fault ≡ causes.Write) → OnOk r (b.status.faults ≡ min (a.status.faults + told.faults) (2 ^ 64 - 1)) → OnOk r (b.status.quit ≡ (a.status.quit || told.ends)) →
    Runs g h r (λ (rest : List Member). member ∷ rest) (λ rest. rest) a b
runs_turn g h (Ok x) member a b told mid body turn is echo out err cause faults quit =
    passes_one g h member a b (did_one g h member a b told turn (subst (Appends a.out b.out) (sym is) (appends_then a.out mid b.out (echo_of a.shell.settings member) body echo out)) err faults quit)
runs_turn g h (Err fault) member a b told mid body turn is echo (front, rest, split, written) err cause faults quit =
    (breaks_one g h fault member a b told front rest cause turn (is ∙ ap (λ xs. echo_of a.shell.settings member ++ xs) split) (appends_then a.out mid b.out (echo_of a.shell.settings member) front echo written) err, inl cause)

pub unit_echo : (settings : Settings) (kind : UnitKind) (line : ℕ) (text : List ℕ) → echo_of settings (member_as kind line text) ≡ echo_text settings.echo text
unit_echo settings kinds.Sql line text = refl
unit_echo settings kinds.Dot line text = refl

-- a unit's turn: its text is echoed before what it answers
pub unit_turned : {P S : Type 0} (g : Ghosts P) (h : Ghosts S) (kind : UnitKind) (line : ℕ) (text : List ℕ) (old new : Shell P S) (body : Answer) → (done : Body g h (member_as kind line text) old new body) →
    Turn g h (member_as kind line text) old new (effects_of (echoed old.settings text (outcome_of old.settings.bail line body)) (calls_in g h (member_as kind line text) old new body done))
unit_turned g h kinds.Sql line text old new body done = record { body = body; done = done; tells = refl; calls = refl }
unit_turned g h kinds.Dot line text old new body done = record { body = body; done = done; tells = refl; calls = refl }
