-- A table that is made anew with documents, and what a Rebuild is answered and leaves.
use Rattle.std.proofs.Common.{◌≡◌, map, ℕ, Bool, true, false, cond, not, List, [], ◌∷◌, Some, None, ℤ, refl, sym, ap, subst, ◌∙◌, All, is_some, option_map, int_cmp, int_eq, inr, Option, Ok, Err}
use Rattle.ft_index.proofs.Common.{same_int, eq_by_cmp_equiv, int_cmp_total, put, find, where_key, is_sorted, is_sorted-put}
use Rattle.ft_index.proofs.Common.{is_sorted-where_key, find-put, find-where_key, same_entries, All-nil, recursion_from_All, exact_signed, StoreValue}
use Rattle.ft_index.proofs.Common.{AreInOrder, Change, AddTable, applied, all_applied, Column}
use Rattle.ft_index.proofs.Common.{Content, Documents, IsContent, names_of, skipped_from, content_rows, index_rows, Filter, Delete, TableInfo}
use Rattle.ft_index.proofs.Common.{shown_info, TableState, Sound, Contents, with_documents, on_table, IsSoundNamed, Rewrite, AreOf, AreRight}
use Rattle.ft_index.proofs.Common.{HasContent, rewritten_docids, rewritten, rewritten_content, shown_rewrite, table_rows, table_index, IsOfDocids}
use Rattle.ft_index.proofs.Common.{Written, ReachesStep, AreHeld, KeepsOthers, StoreHolds, Stands, held_content, table_info, IsNamed, AllByRecursion}
use Rattle.ft_index.proofs.Common.{Fault, same_name, Rebuild, Done, Stale, Loose, Table, table_named, on_found, deserved, rebuilt, after}
use Rattle.ft_index.proofs.Common.{reply_to, info_named, with_sound, PlansFrom, state_of}
use Rattle.std.proofs.lemmas.Float.{T_from_true}
use Rattle.std.specs.List.{find as first_of}
use Rattle.ft_commands.specs.Command as plain
use Rattle.ft_documents.proofs.{added_rows, added_index, added_in_order, put_anew}
use Rattle.ft_content.specs.Laws.{content_with}
use Rattle.ft_index.specs.Written.{MakeTable}
use Rattle.ft_index.proofs.OpenedTables.{IsTold, told_here}
use Rattle.ft_index.proofs.DeleteWrites.{due, made, leaves, is_write}
use Rattle.ft_index.proofs.OneTable.{sound_held, sound_is, LeavesRest, leaves_rest, AreHeldIn, changes_one, keeps_changed, one_spares, none_named, keeps_same, IsOne}
use Rattle.ft_values.specs.declared.fault.Fault.TheVariants as faults
use Rattle.ft_content.specs.Step.{rebuild_fault}
use Rattle.ft_documents.specs.NewDocuments.{new_rewrite}
use Rattle.ft_index.specs.declared.row_state.RowState.TheVariants as states

-- ---- the tables that the store names stay

key_found : (id : ℤ) (name : List ℕ) (tables : List (ℤ × List ℕ)) → first_of (λ (n : ℤ × List ℕ). int_eq id n.0) tables ≡ Some (id, name) → find int_cmp id tables ≡ Some name
key_found id name [] is = absurd (let no = is in cc)
key_found id name (n ∷ ns) is = go (int_eq id n.0) is (key_found id name ns)
  where
    go : (b : Bool) → cond b (Some n) (first_of (λ (n : ℤ × List ℕ). int_eq id n.0) ns) ≡ Some (id, name) → (first_of (λ (n : ℤ × List ℕ). int_eq id n.0) ns ≡ Some (id, name) → find int_cmp id ns ≡ Some name) → cond b (Some n.1) (find int_cmp id ns) ≡ Some name
    go true is rest = ap (option_map (λ (n : ℤ × List ℕ). n.1)) is
    go false is rest = rest is

named_again : (id : ℤ) (name : List ℕ) (tables : List (ℤ × List ℕ)) → is_sorted int_cmp tables ≡ true → find int_cmp id tables ≡ Some name → put int_cmp id name (where_key int_cmp (λ k. not (int_eq id k)) tables) ≡ tables
named_again id name tables sorted found =
    same_entries int_cmp int_cmp_total exact_signed (put int_cmp id name others) tables (is_sorted-put int_cmp int_cmp_total id name others (is_sorted-where_key int_cmp p tables (T_from_true _ sorted))) (T_from_true _ sorted)
    (λ q. find-put int_cmp int_cmp_total q id name others ∙ ap (λ o. cond (int_eq q id) (Some name) o) (find-where_key int_cmp p q (λ x e. ap p (sym (exact_signed q x e))) tables) ∙ go q (int_eq q id) refl)
  where
    p : ℤ → Bool
    p k = not (int_eq id k)

    others : List (ℤ × List ℕ)
    others = where_key int_cmp p tables

    go : (q : ℤ) (b : Bool) → int_eq q id ≡ b → cond (int_eq q id) (Some name) (cond (not (int_eq id q)) (find int_cmp q tables) None) ≡ find int_cmp q tables
    go q true e = ap (λ b. cond b (Some name) (cond (not (int_eq id q)) (find int_cmp q tables) None)) e ∙ sym (ap (λ k. find int_cmp k tables) (same_int q id e) ∙ found)
    go q false e = ap (λ b. cond b (Some name) (cond (not (int_eq id q)) (find int_cmp q tables) None)) e ∙ ap (λ b. cond (not b) (find int_cmp q tables) None) ((eq_by_cmp_equiv int_cmp_total).symm id q ∙ e)

-- ---- what the store holds of it

bare_content : (name : List ℕ) (content : Content) → IsContent name content → IsContent name (content_with content.columns [])
bare_content name content is = record { columns = is.columns; documents = refl; rising = refl }

module _ (name : List ℕ) (columns : List Column) (id : ℤ) (store : StoreValue) (order : AreInOrder store) (named : IsNamed store id (id, name)) where
  abbrev first : StoreValue
  first = applied (AddTable id name (names_of columns) (skipped_from 0 columns)) store

  same_tables : first.tables ≡ store.tables
  same_tables = named_again id name store.tables order.tables (key_found id name store.tables named)

  -- what documents make of it that are put into it
  anew_right : (rewrites : List Rewrite) (changes : List Change) → IsContent name (content_with columns []) → AreOf (content_with columns []) rewrites → AreRight id columns rewrites changes → All (IsOfDocids id (rewritten_docids rewrites)) changes →
      LeavesRest id store (all_applied changes first) × (table_rows id (all_applied changes first) ≡ content_rows (rewritten_content rewrites (content_with columns []))) × (table_index id (all_applied changes first) ≡ index_rows (rewritten_content rewrites (content_with columns [])))
  anew_right rewrites changes is are right near =
      let has : HasContent name (content_with columns []) id first = record { order = added_in_order id name (names_of columns) (skipped_from 0 columns) store order; is_content = is; rows = added_rows id name columns store order; index = added_index id name columns store } in
      let done = right name (content_with columns []) first has refl are in
      let spares = one_spares id (AddTable id name (names_of columns) (skipped_from 0 columns)) store refl in
      let rest = leaves_rest id (rewritten_docids rewrites) changes first (recursion_from_All (IsOfDocids id (rewritten_docids rewrites)) changes near) in (
        record {
          others = record { rows = λ other apart. rest.others.rows other apart ∙ spares.rows other apart; index = λ other apart. rest.others.index other apart ∙ spares.index other apart };
          tables = rest.tables ∙ same_tables;
          noted = rest.noted;
        },
        done.0,
        done.1,
      )

-- the row change that makes a table as it is told
abbrev pub anew_change : TableInfo → Change
anew_change known = AddTable known.id known.name (names_of known.columns) (skipped_from 0 known.columns)

module _ (store : StoreValue) (tables : List TableInfo) (contents : Contents) (name : List ℕ) (known : TableInfo) (order : AreInOrder store) (held : AreHeld store tables contents) (t : IsTold store contents name known) where
  -- So a table that is told and is made anew with the documents of a content holds the content.
  pub anew_holds : (content : Content) (rewrites : List Rewrite) (changes : List Change) (change : TableState → TableState) → IsContent t.table.1.name content → (held_content t.table.1.held).columns ≡ content.columns → AreOf (content_with content.columns []) rewrites → rewritten rewrites [] ≡ content.documents → change t.table.1.held ≡ Sound content →
      AreRight known.id known.columns rewrites changes → All (IsOfDocids known.id (rewritten_docids rewrites)) changes → StoreHolds (all_applied (anew_change known ∷ changes) store) (on_table contents name change) × KeepsOthers store (all_applied (anew_change known ∷ changes) store)
  anew_holds content rewrites changes change is columns_are are made changed = subst Holds t.told (subst (λ cs. Holds (record (table_info t.table) { columns = cs })) (sym columns_are) here)
    where
      Holds : TableInfo → Type 0
      Holds k = AreRight k.id k.columns rewrites changes → All (IsOfDocids k.id (rewritten_docids rewrites)) changes → StoreHolds (all_applied (anew_change k ∷ changes) store) (on_table contents name change) × KeepsOthers store (all_applied (anew_change k ∷ changes) store)

      named : IsNamed store t.table.0 (t.table.0, t.table.1.name)
      named = subst (λ k. IsNamed store k (t.table.0, t.table.1.name)) (ap (λ (k : TableInfo). k.id) (sym t.told)) t.named

      here : Holds (record (table_info t.table) { columns = content.columns })
      here right near =
          let id = t.table.0 in
          let new = all_applied (AddTable id t.table.1.name (names_of content.columns) (skipped_from 0 content.columns) ∷ changes) store in
          let done = anew_right t.table.1.name content.columns id store order named rewrites changes (bare_content t.table.1.name content is) are right near in
          let same : rewritten_content rewrites (content_with content.columns []) ≡ content = λ i. record content { documents = made i } in
          let stands = subst (Stands t.table.1.name (table_rows id new) (table_index id new)) (sym changed) (is, done.1 ∙ ap content_rows same, done.2 ∙ ap index_rows same) in (
            subst (λ ts. AreHeldIn new ts (on_table contents name change)) (sym done.0.tables) (changes_one name t.table store new change store.tables contents done.0.others stands t.one held.held),
            keeps_changed id store new done.0 (ap is_some (key_found id t.table.1.name store.tables named)),
          )

-- ---- a Delete of all documents

none_stay : (documents : Documents) → made plain.All (record { columns = []; documents = documents }) ≡ []
none_stay [] = refl
none_stay (d ∷ ds) = none_stay ds

pub delete_reaches : {written : Written} (store : StoreValue) (tables : List TableInfo) (contents : Contents) (name : List ℕ) (changes : List Change) → MakeTable written changes → AreInOrder store → AreHeld store tables contents → IsSoundNamed tables name (shown_info written.table.now) →
    map shown_rewrite written.rewrites.items ≡ [] → ReachesStep contents (Delete name plain.All) store changes
delete_reaches {written} store tables contents name changes makes order held named none =
    let f : Filter = plain.All in
    let known = shown_info written.table.now in
    let t = told_here store tables contents name known order held named.0 in
    let sound = sound_held t.table.1.held (ap (λ (k : TableInfo). k.sound) t.told ∙ named.1) in
    let content = sound.0 in
    let stands = subst (Stands t.table.1.name (table_rows t.table.0 store) (table_index t.table.0 store)) sound.1 t.stands in
    let fits : AreOf (content_with content.columns []) [] = record { rising = refl; befores = All-nil _; afters = All-nil _ } in
    let done = anew_holds store tables contents name known order held t (content_with content.columns []) [] makes.rest (with_documents (made f)) (bare_content t.table.1.name content stands.0) (ap (λ (h : TableState). (held_content h).columns) sound.1) fits refl
    (ap (with_documents (made f)) sound.1 ∙ ap (λ ds. Sound (record content { documents = ds })) (none_stay content.documents))
    (subst (λ rs. AreRight known.id known.columns rs makes.rest) none makes.of_written.0) (subst (λ rs. All (IsOfDocids known.id (rewritten_docids rs)) makes.rest) none makes.of_written.1) in
    subst (ReachesStep contents (Delete name f) store) (sym makes.are) (
      (is_write f name).deserves contents ∙ sound_is contents name known (record { table = t.table; found = t.found; content = content; held = sound.1; told = t.told }) (due f),
      subst (StoreHolds (all_applied (anew_change known ∷ makes.rest) store)) (sym (leaves f name contents)) done.0,
      done.1,
    )

-- ==== what a Rebuild is answered, and what it leaves

-- ---- what it deserves, and what it leaves

rebuild_due : (contents : Contents) (name : List ℕ) (found : Option (ℤ × Table)) → table_named contents name ≡ found → deserved contents (Rebuild name) ≡ on_found found rebuild_fault
unfolding deserved
rebuild_due contents name found is = ap (λ f. on_found f rebuild_fault) is

-- no table has the name
pub plan_missing : (store : StoreValue) (tables : List TableInfo) (contents : Contents) (name : List ℕ) (fault : Fault) → AreHeld store tables contents → (fault ≡ faults.NoSuchTable) × (info_named tables name ≡ None) → PlansFrom contents (Rebuild name) store (Err fault)
plan_missing store tables contents name fault held missing =
    inr (rebuild_due contents name None (none_named contents name (ap (λ ts. info_named ts name) (sym held.told) ∙ missing.1)) ∙ ap Some (sym missing.0))

rebuild_after : (contents : Contents) (name : List ℕ) → after contents (Rebuild name) ≡ on_table contents name rebuilt
unfolding after
rebuild_after contents name = refl

-- rewrites make all documents that the rows of a table are of
abbrev pub IsAll : {store : StoreValue} {contents : Contents} {name : List ℕ} {known : TableInfo} → IsTold store contents name known → List Rewrite → Type 0
IsAll {store} t rewrites = (content : Content) → IsContent t.table.1.name content → table_rows t.table.0 store ≡ content_rows content → rewrites ≡ map new_rewrite content.documents

-- what was read of a table whose rows are put into it anew
pub record IsPutAnew (store : StoreValue) (contents : Contents) (name : List ℕ) (known : TableInfo) (rewrites : List Rewrite) : Type 0 where
  pub told : IsTold store contents name known
  pub stale : states.Stale ≡ state_of told.table.1.held
  pub all : IsAll told rewrites

-- ---- its plan, by how the rows of the table stand

module _ (store : StoreValue) (tables : List TableInfo) (contents : Contents) (name : List ℕ) (known : TableInfo) (order : AreInOrder store) (held : AreHeld store tables contents) (t : IsTold store contents name known) where
  due_at : (state : TableState) → t.table.1.held ≡ state → deserved contents (Rebuild name) ≡ rebuild_fault t.table.1.name state
  due_at state e = rebuild_due contents name (Some t.table) t.found ∙ ap (rebuild_fault t.table.1.name) e

  stands_at : (state : TableState) → t.table.1.held ≡ state → Stands t.table.1.name (table_rows t.table.0 store) (table_index t.table.0 store) state
  stands_at state e = subst (Stands t.table.1.name (table_rows t.table.0 store) (table_index t.table.0 store)) e t.stands

  -- rows that are right stay
  pub plan_right : states.Sound ≡ state_of t.table.1.held → PlansFrom contents (Rebuild name) store (Ok [])
  plan_right is = go t.table.1.held refl is
    where
      go : (state : TableState) → t.table.1.held ≡ state → states.Sound ≡ state_of state → PlansFrom contents (Rebuild name) store (Ok [])
      go (Sound content) e is = (
        due_at (Sound content) e,
        subst (StoreHolds store) (sym (rebuild_after contents name)) (changes_one name t.table store store rebuilt store.tables contents (record { rows = λ other apart. refl; index = λ other apart. refl })
            (subst (λ state. Stands t.table.1.name (table_rows t.table.0 store) (table_index t.table.0 store) (rebuilt state)) (sym e) (stands_at (Sound content) e)) t.one held.held),
        keeps_same store,
        tt,
      )
      go _ e is = absurd (let no = is in cc)

  pub stale_content : (rewrites : List Rewrite) → states.Stale ≡ state_of t.table.1.held → IsAll t rewrites → (content : Content) × (content.columns ≡ known.columns) × AreOf content rewrites
  stale_content rewrites is all = go t.table.1.held refl is
    where
      go : (state : TableState) → t.table.1.held ≡ state → states.Stale ≡ state_of state → (content : Content) × (content.columns ≡ known.columns) × AreOf content rewrites
      go (Stale content) e is =
          let stands = stands_at (Stale content) e in
          (content_with content.columns [], ap (λ (h : TableState). (held_content h).columns) (sym e) ∙ ap (λ (k : TableInfo). k.columns) t.told, subst (AreOf (content_with content.columns [])) (sym (all content stands.0 stands.1)) (put_anew t.table.1.name content stands.0).1)
      go _ e is = absurd (let no = is in cc)

  -- others are put into the table anew
  pub plan_stale : (rewrites : List Rewrite) (changes : List Change) → states.Stale ≡ state_of t.table.1.held → IsAll t rewrites →
      AreRight known.id known.columns rewrites changes → All (IsOfDocids known.id (rewritten_docids rewrites)) changes → PlansFrom contents (Rebuild name) store (Ok (anew_change known ∷ changes))
  plan_stale rewrites changes is all right near = go t.table.1.held refl is
    where
      go : (state : TableState) → t.table.1.held ≡ state → states.Stale ≡ state_of state → PlansFrom contents (Rebuild name) store (Ok (anew_change known ∷ changes))
      go (Stale content) e is =
          let stands = stands_at (Stale content) e in
          let put = put_anew t.table.1.name content stands.0 in
          let same = all content stands.0 stands.1 in
          let done = anew_holds store tables contents name known order held t content (map new_rewrite content.documents) changes rebuilt stands.0 (ap (λ (h : TableState). (held_content h).columns) e) put.1 put.0 (ap rebuilt e)
          (subst (λ rs. AreRight known.id known.columns rs changes) same right) (subst (λ rs. All (IsOfDocids known.id (rewritten_docids rs)) changes) same near) in (
            due_at (Stale content) e,
            subst (StoreHolds (all_applied (anew_change known ∷ changes) store)) (sym (rebuild_after contents name)) done.0,
            done.1,
            tt,
          )
      go _ e is = absurd (let no = is in cc)

  -- rows that are no content can't be
  pub plan_loose : states.Loose ≡ state_of t.table.1.held → PlansFrom contents (Rebuild name) store (Err faults.Corrupt)
  plan_loose is = go t.table.1.held refl is
    where
      go : (state : TableState) → t.table.1.held ≡ state → states.Loose ≡ state_of state → PlansFrom contents (Rebuild name) store (Err faults.Corrupt)
      go (Loose rows) e is = inr (due_at (Loose rows) e)
      go _ e is = absurd (let no = is in cc)

-- ---- the tables that are told after it

told_sound : (id : ℤ) (name : List ℕ) (held : TableState) → rebuild_fault name held ≡ None → record (table_info (id, record { name = name; held = held })) { sound = true } ≡ table_info (id, record { name = name; held = rebuilt held })
told_sound id name (Loose rows) fine = absurd (let no = fine in cc)
told_sound id name _ fine = refl

told_rebuilt : (name : List ℕ) (t : ℤ × Table) (contents : Contents) → AllByRecursion (IsOne name t) contents → rebuild_fault t.1.name t.1.held ≡ None → with_sound t.0 (map table_info contents) ≡ map table_info (on_table contents name rebuilt)
told_rebuilt name t [] one fine = refl
told_rebuilt name t (c ∷ cs) one fine = go (int_eq t.0 c.0) refl (told_rebuilt name t cs one.1 fine)
  where
    new : ℤ × Table
    new = (c.0, record { name = c.1.name; held = rebuilt c.1.held })

    go : (b : Bool) → int_eq t.0 c.0 ≡ b → with_sound t.0 (map table_info cs) ≡ map table_info (on_table cs name rebuilt) →
        cond (int_eq t.0 c.0) (record (table_info c) { sound = true }) (table_info c) ∷ with_sound t.0 (map table_info cs) ≡ table_info (cond (same_name c.1.name name) new c) ∷ map table_info (on_table cs name rebuilt)
    go true is rest =
        let fine_here : rebuild_fault c.1.name c.1.held ≡ None = ap (λ (x : ℤ × Table). rebuild_fault x.1.name x.1.held) (one.0.is is) ∙ fine in
        let first = ap (λ b. cond b (record (table_info c) { sound = true }) (table_info c)) is ∙ told_sound c.0 c.1.name c.1.held fine_here ∙ sym (ap (λ b. table_info (cond b new c)) (one.0.agrees ∙ is)) in
        λ i. first i ∷ rest i
    go false is rest =
        let first = ap (λ b. cond b (record (table_info c) { sound = true }) (table_info c)) is ∙ sym (ap (λ b. table_info (cond b new c)) (one.0.agrees ∙ is)) in
        λ i. first i ∷ rest i

pub told_after : (store : StoreValue) (tables : List TableInfo) (contents : Contents) (name : List ℕ) (known : TableInfo) (t : IsTold store contents name known) → tables ≡ map table_info contents → deserved contents (Rebuild name) ≡ None → with_sound known.id tables ≡ map table_info (after contents (Rebuild name))
told_after store tables contents name known t told fine =
    let fault = sym (rebuild_due contents name (Some t.table) t.found) ∙ fine in
    (λ i. with_sound (ap (λ (k : TableInfo). k.id) (sym t.told) i) (told i)) ∙ told_rebuilt name t.table contents t.one fault ∙ ap (map table_info) (sym (rebuild_after contents name))

pub rebuild_reply : (contents : Contents) (name : List ℕ) → reply_to contents (Rebuild name) ≡ Done
unfolding reply_to
rebuild_reply contents name = refl
