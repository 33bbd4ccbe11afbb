-- What a start finds of a store that was left.
use Rattle.std.proofs.Common.{◌≡◌, ◌≢◌, ℤ, pos, List, [], ◌∷◌, map, length, inl, refl, sym, ap, subst, ◌∙◌, arith, rules}
use Rattle.sqlite_disk.specs.declared.Disk as disk
use Rattle.sqlite_store.specs.declared.store.FileStore.{FileStore}
use Rattle.sqlite_wal.specs.Recovery.{Image}
use Rattle.sqlite_trees.specs.Tree.{Trees}
use Rattle.sqlite_trees.specs.View.{doubt}
use Rattle.sqlite_trees.specs.Objects.{catalog_tree}
use Rattle.sqlite_catalog.specs.Listing.{Lists}
use Rattle.sqlite_catalog.proofs.ReadLemmas.{lists_once}
use Rattle.sqlite.specs.declared.types.Value.TheVariants as value
use Rattle.sqlite.specs.Effect.{Database}
use Rattle.sqlite.specs.Files.{HoldsDatabase, IsOpened, file_state, over_files}
use Rattle.sqlite.specs.Held.{Held}
use Rattle.sqlite.specs.Order.{Row, column}
use Rattle.sqlite.specs.Start.{FindsIn}
use Rattle.sqlite.specs.State.{HasCleanDisk}
use Rattle.ft_rows.specs.Store.{StoreValue}
use Rattle.ft_store.specs.declared.fault.StoreFault.{StoreFault}
use Rattle.ft_store.specs.declared.fault.StoreFault.TheVariants as fault
use Rattle.ft_store.specs.Kept.{StoreState, shows, value_in}
use Rattle.ft_opening.specs.Opened.{IsNotTakenFrom}
use Rattle.ft_store.specs.Rows.{value_of}
use Rattle.ft_store.specs.Tables.{store_schema}
use Rattle.ft_content.specs.Step.{Contents}
use Rattle.ft_calls.specs.Kept.{StoreHolds}
use Rattle.ft_calls.specs.Kept.{HoldsLeft, Name}
use Rattle.ft_files.specs.Opening.{IsStoreFrom}
use Rattle.ft_program.specs.Reopened.{FindsWhatIsLeft}

one : (n : ℤ) (rows : List Row) → map (λ (r : Row). column r 2) rows ≡ value.Int n ∷ [] → length rows ≡ 1
one n [] e = search rules
one n (r ∷ []) e = refl
one n (r ∷ s ∷ rows) e = search rules

same : (m n : ℤ) (rows : List Row) → map (λ (r : Row). column r 2) rows ≡ value.Int n ∷ [] → map (λ (r : Row). column r 2) rows ≡ value.Int m ∷ [] → n ≡ m
same m n rows e f = let both = sym e ∙ f in cc

module _ {D : Type 0} (g : disk.Ghosts D) (image : Image) (db : Trees) (contents : Contents) (names : List Name) (holds : HoldsDatabase image db) (left : HoldsLeft contents names db) where
  -- a connection that was opened over the image sees what was left, which is a store
  module _ (conn : Held (FileStore D g)) (clean : HasCleanDisk (file_state conn)) (opened : HasCleanDisk (file_state conn) → IsOpened conn) (found : HasCleanDisk (file_state conn) → FindsIn image (file_state conn)) where
    sees : (file_state conn).now.trees ≡ db
    sees = ap (λ (d : Database). d.trees) (opened clean).0.clean ∙ (found clean).holds db holds

    schema_is : conn.schema ≡ store_schema
    schema_is = lists_once _ _ _ ((opened clean).1 (opened clean).0.is_open).0.lists (subst (λ (t : Trees). Lists (t catalog_tree) store_schema) (sym sees) left.stored.sound.lists)

  value_left : (store : StoreState (FileStore D g)) → IsStoreFrom image store → HasCleanDisk (shows over_files store) → value_in over_files store ≡ left.left
  value_left store it clean =
      let o = it.opened in
      let c : doubt (shows over_files store).is_clean ≡ 0 = clean in
      let was : HasCleanDisk (file_state o.conn) = omega (arith, c, o.left.clean) in
      ap (λ (d : Database). value_of d.trees) (o.taken.held clean (o.taken.live clean) (schema_is o.conn was o.opened o.found)) ∙ ap value_of (sees o.conn was o.opened o.found) ∙ left.stored.is

  not_other : (cause : StoreFault) (it : IsNotTakenFrom g image cause) → HasCleanDisk (file_state it.after) → (cause ≢ fault.NotAStore) × ((n : ℤ) → cause ≢ fault.Version n)
  not_other cause it clean =
      let c : doubt (file_state it.after).is_clean ≡ 0 = clean in
      let was : HasCleanDisk (file_state it.conn) = omega (arith, c, it.left.clean) in
      let schema = schema_is it.conn was it.opened it.found in
      let marked : map (λ (r : Row). column r 2) ((file_state it.conn).now.trees 0) ≡ value.Int (pos 3) ∷ [] = subst (λ (t : Trees). map (λ (r : Row). column r 2) (t 0) ≡ value.Int (pos 3) ∷ []) (sym (sees it.conn was it.opened it.found)) left.stored.marked in (
        λ is. it.refused.unmarked clean (inl schema) is (one (pos 3) _ marked),
        λ n is. let found = it.refused.version clean n (inl schema) is in found.1.1 (same (pos 3) n _ found.0 marked),
      )

pub finds_left : {D : Type 0} (g : disk.Ghosts D) → FindsWhatIsLeft g
finds_left g image db contents names holds left = record {
  held = λ store it clean. subst (λ (v : StoreValue). StoreHolds v contents) (sym (value_left g image db contents names holds left store it clean)) left.held;
  noted = λ store it clean. ap (λ (v : StoreValue). v.noted) (value_left g image db contents names holds left store it clean) ∙ left.noted;
  taken = λ cause it clean. not_other g image db contents names holds left cause it clean;
}
