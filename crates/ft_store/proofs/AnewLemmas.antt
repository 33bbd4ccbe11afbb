-- How tables are dropped and made anew, one step after the other.
use Rattle.std.proofs.Common.{Option, Some, None, Bool, true, false, not, ◌||◌, ◌≡◌, ◌≢◌, inl, inr, ℕ, ◌+◌, List, [], ◌∷◌, Ok, Err, refl, sym, ap, subst, ◌∙◌, IsTrue, MatchBool, if◌then◌else◌, map, arith, Result, MutBor}
use Rattle.ft_store.proofs.Common.{AllByRecursion, list_all, Schema, Table, Trees, Row, DropTable, without_table, Task, Outcome, sequence, Tally}
use Rattle.ft_store.proofs.Common.{Does, AtPlace, Drops, Leaves, Uncounts, UncountsIn, due, is_acted_on, understood, Database, State, Executes}
use Rattle.ft_store.proofs.Common.{ExecutesInside, mode_of, Error, SqliteFailure, runs_as, statement_of, Refers, is_among, has_parent, all_of, column}
use Rattle.ft_store.proofs.Common.{on_ok_weaker, Ghosts, Held, state}
use Rattle.sqlite.specs.declared.error.ErrorCode.TheVariants as code
use Rattle.sqlite_schema.specs.declared.schema.Among.{Among}
use Rattle.sqlite_catalog.specs.Change.{KeepsRows}
use Rattle.ft_store.specs.Blame.{IsBlamed}
use Rattle.ft_store.specs.Made.{first_tables, MakesNext}
use Rattle.ft_store.specs.Anew.{HasFirst, DropsLast, DropsNext, AddsNext, Fills}
use Rattle.ft_store.proofs.ChangeLemmas.{went, same_value}
use Rattle.ft_store.proofs.RefusedLemmas.{write_refused_as}
use Rattle.ft_store.specs.Calls.{IsStore, HasOwnRowids, IsPlainFault}
use Rattle.ft_store.proofs.BlameLemmas.{unless_shut}
use Rattle.ft_store.proofs.MakeLemmas.{creates, own, shows_then}
use Rattle.ft_store.specs.declared.fault.StoreFault.{StoreFault}
use Rattle.ft_store.specs.Inside.{MakesInside}
use Rattle.ft_store.proofs.InsideLemmas.{stays_then}

off : (X Y : Type 0) (b : Bool) → b ≡ false → MatchBool b X Y → Y
off X Y b is h = subst (λ c. MatchBool c X Y) is h

no_counter : (task : Task) (db : Trees) (out : Outcome Trees) → task.table.is_counted ≡ false → Uncounts task db out → out ≡ Ok db
no_counter task db out is h = subst (λ b. UncountsIn task db (if b then sequence task.schema else None) out) is h

-- tables without a foreign key
bare_refers : (among : Among) (s : Schema) (db : Trees) → AllByRecursion (λ t. t.references ≡ []) s.tables → Refers among s db
bare_refers among s db = go s.tables
  where
    go : (ts : List Table) → AllByRecursion (λ t. t.references ≡ []) ts
        → AllByRecursion (λ t. AllByRecursion (λ (row : Row). list_all (λ ref. not (is_among among ref) || has_parent s.tables db row ref) t.references ≡ true) (db t.tree)) ts
    go [] all = tt
    go (t ∷ ts) all = (all_of _ (λ row. rw all.0 refl) (db t.tree), go ts all.1)

module _ (limit : Option ℕ) (task : Task) (alone : is_acted_on task.schema task.keys task.table ≡ false) (uncounted : task.table.is_counted ≡ false) (bare : AllByRecursion (λ t. t.references ≡ []) task.schema.tables)
    (left_bare : AllByRecursion (λ t. t.references ≡ []) (without_table task.schema task.table.tree).tables) (old : State) (db : Trees) where
  -- what is left
  drops_to : (tally : Tally) (new : Database) → Drops task (mode_of old) db (Ok (tally, new)) → (new.schema ≡ without_table task.schema task.table.tree) × KeepsRows (without_table task.schema task.table.tree).tables db new.trees
  drops_to tally new h =
      let emptied = went h in
      let none : emptied.0 ≡ db = same_value (off _ _ _ alone emptied.1) in
      let uncounts = went emptied.2 in
      let still : uncounts.0 ≡ emptied.0 = same_value (no_counter task emptied.0 (Ok uncounts.0) uncounted uncounts.1) in
      let tested = went uncounts.2 in
      let left = went tested.2 in
      let is : new ≡ left.0 = ap (λ (p : Tally × Database). p.1) (same_value left.2) in
      subst (λ (d : Database). (d.schema ≡ without_table task.schema task.table.tree) × KeepsRows (without_table task.schema task.table.tree).tables db d.trees) (sym is)
      (left.1.0, subst (λ t. KeepsRows (without_table task.schema task.table.tree).tables t left.0.trees) (still ∙ none) left.1.1)

  -- it is never refused
  never_stops : (stop : Option Error) → ¬ Drops task (mode_of old) db (Err stop)
  never_stops stop (inl emptied) = (let e = off _ _ _ alone emptied.1 in cc)
  never_stops stop (inr (a, is, inl counted)) = (let e = no_counter task a (Err counted.0) uncounted counted.1 in cc)
  never_stops stop (inr (a, is, inr (b, still, inl tested))) = tested.1.0 (bare_refers (due (mode_of old)) task.schema b bare, bare_refers (due (mode_of old)) (without_table task.schema task.table.tree) b left_bare)
  never_stops stop (inr (a, is, inr (b, still, inr (c, held, inl (none, left, same))))) = go none left
    where
      go : (stop : Option Error) → Leaves (without_table task.schema task.table.tree) b (λ _. ⊥) (Err stop) → ⊥
      go None h = h
      go (Some e) h = h
  never_stops stop (inr (a, is, inr (b, still, inr (c, held, inr left)))) = (let e = left.2 in cc)

module _ (old new : State) (at : ℕ) (text : List ℕ) (it : DropsNext at text) where
  abbrev s : Schema
  s = first_tables (at + 1)

  abbrev task : Task
  task = record { limit = old.step_limit; keys = (mode_of old).keys; schema = s; table = it.table; params = [] }

  abbrev left : Schema
  left = without_table s it.table.tree

  left_bare : AllByRecursion (λ t. t.references ≡ []) left.tables
  left_bare = subst (λ (d : Schema). AllByRecursion (λ t. t.references ≡ []) d.tables) (sym it.next) it.left_bare

  on_table : (out : _) → old.now.schema ≡ s → (said : List ℕ) → Does old.step_limit (mode_of old) [] old.now said None (DropTable at) out → Drops task (mode_of old) old.now.trees out
  on_table out has said h =
      subst (λ o. AtPlace (λ t. Drops (record task { table = t }) (mode_of old) old.now.trees) o out) it.found
      (subst (λ (d : Schema). Does old.step_limit (mode_of old) [] (record old.now { schema = d }) said None (DropTable at) out) has h)

  pub drops : (count : ℕ) → HasFirst (at + 1) old.now → Executes text [] old new (Ok count) → DropsLast at old.now new.now
  drops count was h =
      let w = runs_as text [] old new s was.schema (DropTable at) it.command it.plain count h in
      let gone = drops_to old.step_limit task (it.alone (mode_of old).keys) it.uncounted it.bare left_bare old old.now.trees w.tally new.now (on_table (Ok (w.tally, new.now)) was.schema (statement_of text (understood s text)) w.changed) in
      (record { schema = gone.0 ∙ it.next; sound = w.sound }, subst (λ (d : Schema). AllByRecursion (λ t. new.now.trees t.tree ≡ old.now.trees t.tree) d.tables) it.next gone.1)

  pub drop_blamed : (IsTrue old.is_open → HasFirst (at + 1) old.now) → (e : Error) → e ≢ SqliteFailure code.OutOfMemory → ExecutesInside 0 text [] old new (Err e) → IsBlamed old new
  drop_blamed was e other ran = unless_shut old new (λ blamed. blamed) (λ is_open.
      let has = (was is_open).schema in
      elim (write_refused_as old new text [] has (DropTable at) it.command it.plain it.whole tt refl e other ran) [
        | inl blamed ↦ blamed
        | inr cant ↦ absurd (never_stops old.step_limit task (it.alone (mode_of old).keys) it.uncounted it.bare left_bare old old.now.trees cant.0 (on_table (Err cant.0) has (statement_of text (understood s text)) cant.2))
      ])

-- ---- how they are made anew

-- a table that is made where others have rows
pub adds_next : (old new : State) (at : ℕ) (text : List ℕ) (it : MakesNext at text) (count : ℕ) → HasFirst at old.now → Executes text [] old new (Ok count) → AddsNext at old.now new.now
adds_next old new at text it count was h =
    let made = creates old new text (first_tables at) it.table count it.makes was.schema h in
    (record { schema = made.schema ∙ it.next; sound = made.sound }, made.others, made.empty)

-- two steps of a transaction
module _ {S : Type 0} (g : Ghosts S) (a b c : MutBor (Held S)) (two : Result (Unit {0}) StoreFault) (P P2 : Database → Type 0) (Q Q2 : Database → Database → Type 0)
    (first : MakesInside g a b (Ok tt) P Q) (second : MakesInside g b c two P2 Q2) (link : (x y : Database) → Q x y → P2 y) where
  pub makes_then : (R : Database → Database → Type 0) → ((x y z : Database) → Q x y → Q2 y z → R x z) → MakesInside g a c two P R
  makes_then R merge = record {
    steps = λ clean inside was.
        let one = first.steps (omega (arith, second.stays.survives.clean, clean)) inside was in
        on_ok_weaker two (λ next. (merge _ _ _ one.0 next.0, shows_then (state g a.now) (state g b.now) (state g c.now) one.1 next.1)) (second.steps clean one.1.mode (λ is_open. link _ _ one.0));
    stays = stays_then g IsPlainFault a b c (Ok tt) two first.stays second.stays;
  }

-- tables that are added have no row
pub fills_4 : (x y : Database) → AddsNext 4 x y → Fills 4 5 x y
fills_4 x y p = (p.0, p.1, (p.2, tt))

pub fills_5 : (x y z : Database) → Fills 4 5 x y → AddsNext 5 y z → Fills 4 6 x z
fills_5 x y z p q = (q.0, (q.1.0 ∙ p.1.0, (q.1.1.0 ∙ p.1.1.0, (q.1.1.1.0 ∙ p.1.1.1.0, (q.1.1.1.1.0 ∙ p.1.1.1.1.0, tt)))), (q.1.1.1.1.1.0 ∙ p.2.0, (q.2, tt)))

pub fills_6 : (x y z : Database) → Fills 4 6 x y → AddsNext 6 y z → Fills 4 7 x z
fills_6 x y z p q = (q.0, (q.1.0 ∙ p.1.0, (q.1.1.0 ∙ p.1.1.0, (q.1.1.1.0 ∙ p.1.1.1.0, (q.1.1.1.1.0 ∙ p.1.1.1.1.0, tt)))), (q.1.1.1.1.1.0 ∙ p.2.0, (q.1.1.1.1.1.1.0 ∙ p.2.1.0, (q.2, tt))))

pub fills_7 : (x y z : Database) → Fills 4 7 x y → AddsNext 7 y z → Fills 4 8 x z
fills_7 x y z p q = (q.0, (q.1.0 ∙ p.1.0, (q.1.1.0 ∙ p.1.1.0, (q.1.1.1.0 ∙ p.1.1.1.0, (q.1.1.1.1.0 ∙ p.1.1.1.1.0, tt)))), (q.1.1.1.1.1.0 ∙ p.2.0, (q.1.1.1.1.1.1.0 ∙ p.2.1.0, (q.1.1.1.1.1.1.1.0 ∙ p.2.1.1.0, (q.2, tt)))))

-- a store stays one
pub first_of : (db : Database) → IsStore db → HasFirst 8 db
first_of db it = record { schema = it.schema; sound = it.sound }

pub store_index : (x y : Database) → IsStore x → Fills 4 8 x y → IsStore y
store_index x y was p = record {
  schema = p.0.schema;
  sound = p.0.sound;
  numbered = (subst HasOwnRowids (sym p.1.0) was.numbered.0, (subst HasOwnRowids (sym p.1.1.0) was.numbered.1.0, (subst HasOwnRowids (sym p.1.1.1.0) was.numbered.1.1.0, (subst HasOwnRowids (sym p.1.1.1.1.0) was.numbered.1.1.1.0, (own p.2.0, (own p.2.1.0, (own p.2.1.1.0, (own p.2.1.1.1.0, tt))))))));
  marked = ap (map (λ (r : Row). column r 2)) p.1.0 ∙ was.marked;
}

pub store_documents : (x y : Database) → IsStore x → Fills 3 8 x y → IsStore y
store_documents x y was p = record {
  schema = p.0.schema;
  sound = p.0.sound;
  numbered = (subst HasOwnRowids (sym p.1.0) was.numbered.0, (subst HasOwnRowids (sym p.1.1.0) was.numbered.1.0, (subst HasOwnRowids (sym p.1.1.1.0) was.numbered.1.1.0, (own p.2.0, (own p.2.1.0, (own p.2.1.1.0, (own p.2.1.1.1.0, (own p.2.1.1.1.1.0, tt))))))));
  marked = ap (map (λ (r : Row). column r 2)) p.1.0 ∙ was.marked;
}
