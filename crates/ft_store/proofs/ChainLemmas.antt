-- Reads one after another.
use Rattle.std.proofs.Common.{◌≡◌, false, Result, Ok, Err, sym, ap, ◌∙◌, subst, arith, IsTrue, IfOk, OnOk}
use Rattle.ft_store.proofs.Common.{State, HasCleanDisk, Survives, survives_then, Database, Trees, IsSound, StoreValue}
use Rattle.ft_store.specs.Tables.{store_schema}
use Rattle.ft_store.specs.Rows.{value_of}
use Rattle.ft_store.specs.Calls.{IsStore, IsStored, IsStoreIfOpen, IsMarked, HaveOwnRowids, Keeps}

pub kept_store : (old new : State) (C : _) → (HasCleanDisk new → Keeps old new) → Survives old new C → IsStoreIfOpen old → IsStoreIfOpen new
kept_store old new C kept s store clean is_open =
    let same = kept clean is_open in subst IsStore (sym same.0) (store (omega (arith, s.clean, clean)) same.2)

pub kept_then : (a b c : State) → Keeps a b → Keeps b c → Keeps a c
kept_then a b c one two is_open = let later = two is_open in let first = one later.2 in (later.0 ∙ first.0, later.1 ∙ first.1, first.2)

pub reads_then : (a b c : State) → (HasCleanDisk b → IsTrue b.is_open) → Survives a b (λ _. IsTrue a.is_open → ⊥) → Survives b c (λ _. IsTrue b.is_open → ⊥) → Survives a c (λ _. IsTrue a.is_open → ⊥)
reads_then a b c live one two = survives_then a b c _ _ _ (λ _ db none. none) (λ clean db none. absurd (none (live (omega (arith, two.clean, clean))))) one two

-- reads from `old` to `now` that were all answered
pub record Reading (old now : State) : Type 0 where
  pub mode : now.in_transaction ≡ false
  pub kept : HasCleanDisk now → Keeps old now
  pub live : HasCleanDisk now → IsTrue now.is_open
  pub survives : Survives old now (λ _. IsTrue old.is_open → ⊥)

pub reading_then : (a b c : State) → Reading a b → Reading b c → Reading a c
reading_then a b c one two = record {
  mode = two.mode;
  kept = λ clean. kept_then a b c (one.kept (omega (arith, two.survives.clean, clean))) (two.kept clean);
  live = two.live;
  survives = reads_then a b c one.live one.survives two.survives;
}

-- ---- a read that was answered, and then what is made of its rows

pub ok_too : {A E K : Type 0} (r : Result A E) → K → OnOk r K
ok_too (Ok a) k = k
ok_too (Err e) k = tt

pub both : {X E : Type 0} (r : Result X E) (P Q R : X → Type 0) → ((x : X) → P x → Q x → R x) → IfOk r P → IfOk r Q → IfOk r R
both (Ok x) P Q R f p q = f x p q
both (Err e) P Q R f p q = tt

-- ---- what a crash leaves of an open store

pub stored_trees : (s : State) (db : Trees) (v : StoreValue) → IsStore s.now → value_of s.now.trees ≡ v → s.now ≡ s.committed → db ≡ s.committed.trees → IsStored db v
stored_trees s db v store is settled left =
    let same : db ≡ s.now.trees = left ∙ ap (λ (d : Database). d.trees) (sym settled) in
    record {
      sound = subst (IsSound store_schema) (sym same) (subst (λ h. IsSound h s.now.trees) store.schema store.sound);
      numbered = subst (HaveOwnRowids store_schema.tables) (sym same) store.numbered;
      marked = subst IsMarked (sym same) store.marked;
      is = ap value_of same ∙ is;
    }
