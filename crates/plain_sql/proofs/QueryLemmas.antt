-- What `sqlite` says of a query that is prepared and then run, where the disk is clean as it ends.
use Rattle.std.proofs.Common.{◌≡◌, ℕ, List, [], refl, subst, sym, ◌∙◌, arith, inl, Bool, MatchBool, false}
use Rattle.shell_io.specs.Outcomes.{Answer, Tells, blames, lacks_memory}
use Rattle.sqlite_trees.specs.View.{doubt}
use Rattle.sqlite.specs.Tree.{Trees}
use Rattle.sqlite_value.specs.Order.{Row}
use Rattle.sqlite.specs.State.{FailsToQuery}
use Rattle.sqlite.specs.Outline.{Outline}
use Rattle.sqlite.specs.Steps.{Outlines}
use Rattle.plain_sql.proofs.Common.{Ghosts, Held, state, State, HasCleanDisk, Survives, IsNotRun, IsUnchanged, Shown, understood, Error, EndsSo, is_memory_error, match_hint, TellsRefusal, WasClean, IfClean, Prepares, Answers, FailsToAnswer, unprepared, refused}

pub clean_before : {old new : State} {Commits : Trees → Type 0} → Survives old new Commits → HasCleanDisk new → HasCleanDisk old
clean_before {old} {new} survives clean = let c : doubt new.is_clean ≡ 0 = clean in let s = survives.clean in omega (arith, c, s)

pub was_clean : {old new : State} {Commits : Trees → Type 0} → Survives old new Commits → HasCleanDisk new → WasClean old new
was_clean survives clean = record { clean = clean_before survives clean; limit = survives.limit }

pub was_same : (s : State) → HasCleanDisk s → WasClean s s
was_same s clean = record { clean = clean; limit = refl }

pub was_then : {a b c : State} → WasClean a b → WasClean b c → WasClean a c
was_then one two = record { clean = one.clean; limit = two.limit ∙ one.limit }

pub if_clean : {P : Type 0} (g : Ghosts P) (old new : Held P) {Commits : Trees → Type 0} {Step : Type 0} → Survives (state g old) (state g new) Commits → (HasCleanDisk (state g new) → Step) → IfClean g old new Step
if_clean g old new survives step clean = (was_clean survives clean, step clean)

fails_unrun : (old new : State) (text : List ℕ) (e : Error) → IsNotRun old new text [] e → FailsToQuery text [] old new e
unfolding FailsToQuery
fails_unrun old new text e h = inl h

pub asked_unprepared : {P : Type 0} (g : Ghosts P) (text : List ℕ) (old new : Held P) (e : Error) {C : Trees → Type 0} → Survives (state g old) (state g new) C →
    (HasCleanDisk (state g new) → (params : Row) → IsNotRun (state g old) (state g new) text params e) → FailsToAnswer g text old new e
asked_unprepared g text old new e survives fails = unprepared (if_clean g old new survives (λ clean. fails_unrun (state g old) (state g new) text e (fails clean [])))

prepares : {P : Type 0} (g : Ghosts P) (text : List ℕ) (old mid : Held P) (s : Outline) {C : Trees → Type 0} → Survives (state g old) (state g mid) C →
    (HasCleanDisk (state g mid) → (s.text ≡ text) × IsUnchanged (state g old) (state g mid)) →
    (HasCleanDisk (state g mid) → Outlines (understood (state g old).now.schema text) s) → Prepares g text old mid s.columns
prepares g text old mid s survives same shape = record { outline = s; columns = refl; is = if_clean g old mid survives (λ clean. (shape clean, (same clean).1)) }

pub asked_refused : {P : Type 0} (g : Ghosts P) (text : List ℕ) (old mid new : Held P) (s : Outline) (e : Error) {C D : Trees → Type 0} → Survives (state g old) (state g mid) C →
    (HasCleanDisk (state g mid) → (s.text ≡ text) × IsUnchanged (state g old) (state g mid)) →
    (HasCleanDisk (state g mid) → Outlines (understood (state g old).now.schema text) s) →
    Survives (state g mid) (state g new) D → (HasCleanDisk (state g new) → FailsToQuery s.text [] (state g mid) (state g new) e) → FailsToAnswer g text old new e
asked_refused g text old mid new s e first same shape second fails =
    refused mid s.columns (prepares g text old mid s first same shape)
    (if_clean g mid new second (λ clean. subst (λ t. FailsToQuery t [] (state g mid) (state g new) e) (same (clean_before second clean)).0 (fails clean)))

pub asked_answered : {P : Type 0} (g : Ghosts P) (text : List ℕ) (old mid new : Held P) (s : Outline) (rows : List Row) {C D : Trees → Type 0} → Survives (state g old) (state g mid) C →
    (HasCleanDisk (state g mid) → (s.text ≡ text) × IsUnchanged (state g old) (state g mid)) →
    (HasCleanDisk (state g mid) → Outlines (understood (state g old).now.schema text) s) →
    Survives (state g mid) (state g new) D → (HasCleanDisk (state g new) → Shown s.text [] (state g mid) (state g new) rows) → Answers g text old new s.columns rows
asked_answered g text old mid new s rows first same shape second shown = record {
  prepared = mid;
  prepares = prepares g text old mid s first same shape;
  shows = if_clean g mid new second (λ clean. subst (λ t. Shown t [] (state g mid) (state g new) rows) (same (clean_before second clean)).0 (shown clean));
}

pub words_told : (seeks : Bool) (e : Error) (answer : Answer) (text : List ℕ) → is_memory_error e ≡ false → EndsSo (match_hint seeks) text → Tells (blames text) answer →
    TellsRefusal seeks e answer
words_told seeks e answer text other ends tells =
    subst (λ b. MatchBool b (answer ≡ lacks_memory) ((text : List ℕ) × EndsSo (match_hint seeks) text × Tells (blames text) answer)) (sym other) (text, ends, tells)
