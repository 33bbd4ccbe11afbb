-- The one table of a name, as it is held and told, and what a change of its rows leaves of all tables.
use Rattle.std.proofs.Common.{◌≡◌, ℕ, Bool, true, false, cond, ◌&&◌, List, [], ◌∷◌, map, Some, ℤ, refl, sym, ap, subst, ◌∙◌, is_some, int_cmp, int_eq, is_lt, is_eq, Ok, inl, inr, Option, None, option_map, IsTrue, ◌+◌, not, pos, ◌<◌, ◌≤◌, arith, nat_lt, ltb-true, ltb-false, Ordering, Less, Equal, Greater, string_bytes}
use Rattle.ft_index.proofs.Common.{unwrap_or, AllZip, AllByRecursion, list_any, int_cmp_total, eq_by_cmp_equiv, tied_itself, nat_list_eq_equiv}
use Rattle.ft_index.proofs.Common.{below_all, is_sorted, find, or_parts, and_parts, StoreValue, same_name, repeats_name, TableState, Table, Contents}
use Rattle.ft_index.proofs.Common.{table_named, on_table, table_rows, table_index, Stands, HoldsTable, map-map, Fault, RustTableInfo, Content}
use Rattle.ft_index.proofs.Common.{TableInfo, shown_info, table_names, info_names, Sound, on_sound, on_found, made_columns, create_fault, deserved}
use Rattle.ft_index.proofs.Common.{Create, Optimize, Done, after, reply_to, step, step_by, table_info, is_sound, AreHeld, info_named, IsUnfit}
use Rattle.ft_index.proofs.Common.{AreInOrder, HasContent, ordering_reverse, put, by_order, where_key, and_from, exact_signed, AddTable, applied}
use Rattle.ft_index.proofs.Common.{Change, Column, IsContent, names_of, skipped_from, dropped, free_id_from, StoreHolds, DropTable, ClearIndex, Note}
use Rattle.ft_index.proofs.Common.{all_applied, Documents, content_rows, index_rows, with_documents, IsOfDocids, same_int, find-put, find-where_key}
use Rattle.ft_index.proofs.Common.{Cell, CellKey, ColumnKey, ListKey, cell_key_cmp, list_key_cmp, column_key_cmp, column_of, Spot, KeepsOthers}
use Rattle.ft_index.proofs.Common.{table_change}
use Rattle.ft_rows.specs.Store.{nothing_held}
use Rattle.std.specs.Str.{str_to_ascii_lowercase}
use Rattle.ft_content.specs.Views.{table_ids, info_ids}
use Rattle.ft_content.specs.Step.{on_held}
use Rattle.ft_values.specs.declared.fault.Fault.TheVariants as faults
use Rattle.std.specs.Cmp.{int_cmp_is}
use Rattle.std.proofs.lemmas.Int.{ints}
use Rattle.ft_documents.proofs.{added_rows, added_index, spares_others}
use Rattle.ft_content.specs.Laws.{content_with}
use Rattle.ft_documents.specs.RowLaws.{changed_table}
use Rattle.ft_calls.specs.Kept.{has_table_id}

-- what is known of two that stand in order, and of none
pub less : (o : Ordering) → is_lt o ≡ true → o ≡ Less
less Less h = refl
less _ h = absurd (let no = h in cc)

pub not_some : {A : Type 0} (o : Option A) → is_some o ≡ false → o ≡ None
not_some None h = refl
not_some (Some x) h = absurd (let no = h in cc)

-- among tables, the one with this name is this one, and no other has its id
pub record IsOne (name : List ℕ) (t x : ℤ × Table) : Type 0 where
  pub agrees : same_name x.1.name name ≡ int_eq t.0 x.0
  pub is : int_eq t.0 x.0 ≡ true → x ≡ t

abbrev texts_of : Contents → List (List ℕ)
texts_of contents = map (λ (t : ℤ × Table). t.1.name) contents

-- after a table of this name stand others
others_from : (name : List ℕ) (t : ℤ × Table) (xs : Contents) → same_name t.1.name name ≡ true → below_all int_cmp t.0 xs ≡ true → list_any (same_name t.1.name) (texts_of xs) ≡ false → AllByRecursion (IsOne name t) xs
others_from name t [] is below apart = tt
others_from name t (x ∷ xs) is below apart =
    let b = and_parts (is_lt (int_cmp t.0 x.0)) (below_all int_cmp t.0 xs) below in
    let a = or_parts (same_name t.1.name x.1.name) (list_any (same_name t.1.name) (texts_of xs)) apart in
    let other : int_eq t.0 x.0 ≡ false = ap is_eq (less _ b.0) in (
      record {
        agrees = no_name (same_name x.1.name name) refl a.0 ∙ sym other;
        is = λ same. absurd (let no = sym other ∙ same in cc);
      },
      others_from name t xs is b.1 a.1,
    )
  where
    no_name : (q : Bool) → same_name x.1.name name ≡ q → same_name t.1.name x.1.name ≡ false → q ≡ false
    no_name false e h = refl
    no_name true e h = absurd (let s : same_name t.1.name x.1.name ≡ true = nat_list_eq_equiv.congr (str_to_ascii_lowercase t.1.name) (str_to_ascii_lowercase name) (str_to_ascii_lowercase x.1.name) is ∙ nat_list_eq_equiv.symm (str_to_ascii_lowercase name) (str_to_ascii_lowercase x.1.name) ∙ e in let no = sym h ∙ s in cc)

found_below : (k : ℤ) (name : List ℕ) (t : ℤ × Table) (xs : Contents) → below_all int_cmp k xs ≡ true → table_named xs name ≡ Some t → is_lt (int_cmp k t.0) ≡ true
found_below k name t [] below found = absurd (let no = found in cc)
found_below k name t (x ∷ xs) below found = go (same_name x.1.name name) (and_parts (is_lt (int_cmp k x.0)) (below_all int_cmp k xs) below) (found_below k name t xs) found
  where
    go : (b : Bool) → (is_lt (int_cmp k x.0) ≡ true) × (below_all int_cmp k xs ≡ true) → (below_all int_cmp k xs ≡ true → table_named xs name ≡ Some t → is_lt (int_cmp k t.0) ≡ true) → cond b (Some x) (table_named xs name) ≡ Some t → is_lt (int_cmp k t.0) ≡ true
    go true parts rest found = subst (λ (y : ℤ × Table). is_lt (int_cmp k y.0) ≡ true) (ap (λ o. unwrap_or o x) found) parts.0
    go false parts rest found = rest parts.1 found

pub one_named : (name : List ℕ) (t : ℤ × Table) (xs : Contents) → is_sorted int_cmp xs ≡ true → repeats_name (texts_of xs) ≡ false → table_named xs name ≡ Some t → AllByRecursion (IsOne name t) xs
one_named name t [] sorted apart found = absurd (let no = found in cc)
one_named name t (x ∷ xs) sorted apart found =
    let s = and_parts (below_all int_cmp x.0 xs) (is_sorted int_cmp xs) sorted in
    let a = or_parts (list_any (same_name x.1.name) (texts_of xs)) (repeats_name (texts_of xs)) apart in
    go (same_name x.1.name name) refl s.0 a.0 (one_named name t xs s.1 a.1) found
  where
    go : (b : Bool) → same_name x.1.name name ≡ b → below_all int_cmp x.0 xs ≡ true → list_any (same_name x.1.name) (texts_of xs) ≡ false → (table_named xs name ≡ Some t → AllByRecursion (IsOne name t) xs) → cond b (Some x) (table_named xs name) ≡ Some t → AllByRecursion (IsOne name t) (x ∷ xs)
    go true is below apart rest found =
        let same : x ≡ t = ap (λ o. unwrap_or o x) found in (
          record {
            agrees = is ∙ sym (ap (λ (y : ℤ × Table). int_eq y.0 x.0) (sym same) ∙ ap is_eq (tied_itself int_cmp_total x.0));
            is = λ _. same;
          },
          subst (λ y. AllByRecursion (IsOne name y) xs) same (others_from name x xs is below apart),
        )
    go false is below apart rest found =
        let other : int_eq t.0 x.0 ≡ false = (eq_by_cmp_equiv int_cmp_total).symm t.0 x.0 ∙ ap is_eq (less _ (found_below x.0 name t xs below found)) in (
          record {
            agrees = is ∙ sym other;
            is = λ same. absurd (let no = sym other ∙ same in cc);
          },
          rest found,
        )

-- ids as the store has them
pub ids_sorted : (store : StoreValue) (tables : List (ℤ × List ℕ)) (contents : Contents) → AllZip (λ (named : ℤ × List ℕ) (table : ℤ × Table). HoldsTable named (table_rows named.0 store) (table_index named.0 store) table) tables contents → is_sorted int_cmp tables ≡ true → is_sorted int_cmp contents ≡ true
ids_sorted store [] [] h s = refl
ids_sorted store [] (x ∷ xs) h s = absurd h
ids_sorted store (n ∷ ns) [] h s = refl
ids_sorted store (n ∷ ns) (x ∷ xs) h s =
    let parts = and_parts (below_all int_cmp n.0 ns) (is_sorted int_cmp ns) s in
    λ i. (subst (λ k. below_all int_cmp k xs ≡ true) (sym (h.0.id)) (below_ids n.0 ns xs h.1 parts.0)) i && ids_sorted store ns xs h.1 parts.1 i
  where
    below_ids : (k : ℤ) (ns : List (ℤ × List ℕ)) (xs : Contents) → AllZip (λ (named : ℤ × List ℕ) (table : ℤ × Table). HoldsTable named (table_rows named.0 store) (table_index named.0 store) table) ns xs → below_all int_cmp k ns ≡ true → below_all int_cmp k xs ≡ true
    below_ids k [] [] h b = refl
    below_ids k [] (x ∷ xs) h b = absurd h
    below_ids k (n ∷ ns) [] h b = refl
    below_ids k (n ∷ ns) (x ∷ xs) h b =
        let parts = and_parts (is_lt (int_cmp k n.0)) (below_all int_cmp k ns) b in
        λ i. (subst (λ y. is_lt (int_cmp k y) ≡ true) (sym h.0.id) parts.0) i && below_ids k ns xs h.1 parts.1 i

-- rows of the tables but one are as they were
pub record SparesAllBut (id : ℤ) (old new : StoreValue) : Type 0 where
  pub rows : (other : ℤ) → int_eq id other ≡ false → table_rows other new ≡ table_rows other old
  pub index : (other : ℤ) → int_eq id other ≡ false → table_index other new ≡ table_index other old

abbrev pub AreHeldIn : StoreValue → List (ℤ × List ℕ) → Contents → Type 0
AreHeldIn store tables contents = AllZip (λ (named : ℤ × List ℕ) (table : ℤ × Table). HoldsTable named (table_rows named.0 store) (table_index named.0 store) table) tables contents

pub spared : (id : ℤ) (old new : StoreValue) (named : ℤ × List ℕ) (x : ℤ × Table) → SparesAllBut id old new → int_eq id x.0 ≡ false → HoldsTable named (table_rows named.0 old) (table_index named.0 old) x → HoldsTable named (table_rows named.0 new) (table_index named.0 new) x
spared id old new named x spares other h =
    let apart : int_eq id named.0 ≡ false = ap (int_eq id) (sym h.id) ∙ other in
    record {
      id = h.id;
      name = h.name;
      stands = subst (λ r. Stands named.1 r (table_index named.0 new) x.1.held) (sym (spares.rows named.0 apart)) (subst (λ r. Stands named.1 (table_rows named.0 old) r x.1.held) (sym (spares.index named.0 apart)) h.stands);
    }

-- Where the rows of one table change as its contents do, the store holds what comes of it.
pub changes_one : (name : List ℕ) (t : ℤ × Table) (old new : StoreValue) (change : TableState → TableState) (tables : List (ℤ × List ℕ)) (contents : Contents) →
    SparesAllBut t.0 old new → Stands t.1.name (table_rows t.0 new) (table_index t.0 new) (change t.1.held) → AllByRecursion (IsOne name t) contents → AreHeldIn old tables contents → AreHeldIn new tables (on_table contents name change)
changes_one name t old new change [] [] spares stands one h = tt
changes_one name t old new change (n ∷ ns) (x ∷ xs) spares stands one h = (
  subst (λ b. HoldsTable n (table_rows n.0 new) (table_index n.0 new) (cond b (x.0, record { name = x.1.name; held = change x.1.held }) x)) (sym one.0.agrees) (go (int_eq t.0 x.0) refl h.0),
  changes_one name t old new change ns xs spares stands one.1 h.1,
)
  where
    go : (b : Bool) → int_eq t.0 x.0 ≡ b → HoldsTable n (table_rows n.0 old) (table_index n.0 old) x → HoldsTable n (table_rows n.0 new) (table_index n.0 new) (cond b (x.0, record { name = x.1.name; held = change x.1.held }) x)
    go true e h =
        let same : x ≡ t = one.0.is e in
        let id : t.0 ≡ n.0 = ap (λ (y : ℤ × Table). y.0) (sym same) ∙ h.id in
        let named : t.1.name ≡ n.1 = ap (λ (y : ℤ × Table). y.1.name) (sym same) ∙ h.name in
        record {
          id = h.id;
          name = h.name;
          stands = subst (λ (y : ℤ × Table). Stands n.1 (table_rows n.0 new) (table_index n.0 new) (change y.1.held)) (sym same)
              (subst (λ k. Stands n.1 (table_rows k new) (table_index k new) (change t.1.held)) id (subst (λ m. Stands m (table_rows t.0 new) (table_index t.0 new) (change t.1.held)) named stands));
        }
    go false e h = spared t.0 old new n x spares e h
changes_one name t old new change _ _ spares stands one h = absurd h

-- a table of this name stands so in the store, which names it
pub held_named : (store : StoreValue) (name : List ℕ) (t : ℤ × Table) (tables : List (ℤ × List ℕ)) (contents : Contents) → AreHeldIn store tables contents → table_named contents name ≡ Some t →
    Stands t.1.name (table_rows t.0 store) (table_index t.0 store) t.1.held × (is_some (find int_cmp t.0 tables) ≡ true)
held_named store name t [] [] h found = absurd (let no = found in cc)
held_named store name t (n ∷ ns) (x ∷ xs) h found = go (same_name x.1.name name) found (held_named store name t ns xs h.1)
  where
    Is : ℤ × Table → Type 0
    Is y = Stands y.1.name (table_rows y.0 store) (table_index y.0 store) y.1.held × (is_some (cond (int_eq y.0 n.0) (Some n.1) (find int_cmp y.0 ns)) ≡ true)

    here : Is x
    here = (
      subst (λ m. Stands m (table_rows x.0 store) (table_index x.0 store) x.1.held) (sym h.0.name) (subst (λ k. Stands n.1 (table_rows k store) (table_index k store) x.1.held) (sym h.0.id) h.0.stands),
      ap (λ b. is_some (cond b (Some n.1) (find int_cmp x.0 ns))) (ap (int_eq x.0) (sym h.0.id) ∙ ap is_eq (tied_itself int_cmp_total x.0)),
    )

    go : (b : Bool) → cond b (Some x) (table_named xs name) ≡ Some t → (table_named xs name ≡ Some t → Stands t.1.name (table_rows t.0 store) (table_index t.0 store) t.1.held × (is_some (find int_cmp t.0 ns) ≡ true)) → Is t
    go true found rest = subst Is (ap (λ o. unwrap_or o x) found) here
    go false found rest = ((rest found).0, elim (int_eq t.0 n.0) as (λ b. is_some (cond b (Some n.1) (find int_cmp t.0 ns)) ≡ true) [ true ↦ refl | false ↦ (rest found).1 ])
held_named store name t _ _ h found = absurd h

-- ==== the tables that are told of contents, by their names

pub told_named : (contents : Contents) (name : List ℕ) → info_named (map table_info contents) name ≡ option_map table_info (table_named contents name)
told_named [] name = refl
told_named (t ∷ ts) name = elim (same_name t.1.name name) as (λ b. cond b (Some (table_info t)) (info_named (map table_info ts) name) ≡ option_map table_info (cond b (Some t) (table_named ts name))) [ true ↦ refl | false ↦ told_named ts name ]

pub same_names : (tables : List RustTableInfo) (contents : Contents) → map shown_info tables ≡ map table_info contents → table_names contents ≡ info_names tables
same_names tables contents told = sym (map-map (λ (k : TableInfo). k.name) table_info contents) ∙ ap (map (λ (k : TableInfo). k.name)) (sym told) ∙ map-map (λ (k : TableInfo). k.name) shown_info tables

pub same_ids : (tables : List RustTableInfo) (contents : Contents) → map shown_info tables ≡ map table_info contents → table_ids contents ≡ info_ids tables
same_ids tables contents told = sym (map-map (λ (k : TableInfo). k.id) table_info contents) ∙ ap (map (λ (k : TableInfo). k.id)) (sym told) ∙ map-map (λ (k : TableInfo). k.id) shown_info tables

pub is_named : (contents : Contents) (name : List ℕ) (known : Option TableInfo) → info_named (map table_info contents) name ≡ known → is_some (table_named contents name) ≡ is_some known
is_named contents name known h = sym (some_told (table_named contents name)) ∙ ap is_some (sym (told_named contents name) ∙ h)
  where
    some_told : (found : Option (ℤ × Table)) → is_some (option_map table_info found) ≡ is_some found
    some_told None = refl
    some_told (Some t) = refl

pub none_named : (contents : Contents) (name : List ℕ) → info_named (map table_info contents) name ≡ None → table_named contents name ≡ None
none_named contents name h = not_some (table_named contents name) (is_named contents name None h)

-- a table that is told is one of the contents
pub some_named : (contents : Contents) (name : List ℕ) (known : TableInfo) → info_named (map table_info contents) name ≡ Some known → (t : ℤ × Table) × (table_named contents name ≡ Some t) × (table_info t ≡ known)
some_named contents name known named = go (table_named contents name) refl (sym (told_named contents name) ∙ named)
  where
    go : (found : Option (ℤ × Table)) → table_named contents name ≡ found → option_map table_info found ≡ Some known → (t : ℤ × Table) × (table_named contents name ≡ Some t) × (table_info t ≡ known)
    go None is h = absurd (let no = h in cc)
    go (Some t) is h = let told : table_info t ≡ known = cc in (t, is, told)

-- a sound table is a content
pub record IsSoundTable (contents : Contents) (name : List ℕ) (known : TableInfo) : Type 0 where
  pub table : ℤ × Table
  pub found : table_named contents name ≡ Some table
  pub content : Content
  pub held : table.1.held ≡ Sound content
  pub told : table_info table ≡ known

pub sound_held : (held : TableState) → is_sound held ≡ true → (content : Content) × (held ≡ Sound content)
sound_held (Sound content) h = (content, refl)
sound_held _ h = absurd (let no = h in cc)

pub sound_table : (contents : Contents) (name : List ℕ) (known : TableInfo) → info_named (map table_info contents) name ≡ Some known → IsTrue known.sound → IsSoundTable contents name known
sound_table contents name known named sound =
    let it = some_named contents name known named in
    let held = sound_held it.0.1.held (ap (λ (k : TableInfo). k.sound) it.2 ∙ sound) in
    record { table = it.0; found = it.1; content = held.0; held = held.1; told = it.2 }

-- a table that can't be used, as the definitions test it
abbrev on_it : Option (ℤ × Table) → (List ℕ → Content → Option Fault) → Option Fault
on_it found test = on_found found (λ table held. on_held held (test table))

unsound_is : (t : ℤ × Table) (test : List ℕ → Content → Option Fault) (held : TableState) → t.1.held ≡ held → is_sound held ≡ false → on_held held (test t.1.name) ≡ Some faults.Unsound
unsound_is t test (Sound content) e h = absurd (let no = h in cc)
unsound_is t test _ e h = refl

pub unfit_is : (contents : Contents) (name : List ℕ) (fault : Fault) (test : List ℕ → Content → Option Fault) → IsUnfit (map table_info contents) name fault → on_sound contents name test ≡ Some fault
unfit_is contents name fault test (inl missing) = ap (λ found. on_it found test) (none_named contents name missing.1) ∙ ap Some (sym missing.0)
unfit_is contents name fault test (inr unsound) =
    let it = some_named contents name unsound.1.0 unsound.1.1 in
    ap (λ found. on_it found test) it.1 ∙ unsound_is it.0 test it.0.1.held refl (ap (λ (k : TableInfo). k.sound) it.2 ∙ unsound.1.2) ∙ ap Some (sym unsound.0)

-- the tests of a table that can be used are those of its content
pub sound_is : (contents : Contents) (name : List ℕ) (known : TableInfo) (h : IsSoundTable contents name known) (test : List ℕ → Content → Option Fault) → on_sound contents name test ≡ test h.table.1.name h.content
sound_is contents name known h test = ap (λ found. on_it found test) h.found ∙ ap (λ held. on_held held (test h.table.1.name)) h.held

-- ---- Create

-- the fault of a Create as its tests tell it
pub create_due : (contents : Contents) (table module_name : List ℕ) (options : List (List ℕ × List ℕ)) (columns names : List (List ℕ)) (if_new : Bool) (due : Option Fault) →
    names ≡ made_columns columns → due ≡ create_fault contents table module_name options names if_new → deserved contents (Create table module_name options columns if_new) ≡ due
unfolding deserved
create_due contents table module_name options columns names if_new due made is = sym (is ∙ ap (λ ns. create_fault contents table module_name options ns if_new) made)

-- ---- Optimize

pub optimize_fine : (contents : Contents) (tables : List TableInfo) (name : List ℕ) (known : TableInfo) → tables ≡ map table_info contents → info_named tables name ≡ Some known → IsTrue known.sound → deserved contents (Optimize name) ≡ None
unfolding deserved
optimize_fine contents tables name known told named sound =
    sound_is contents name known (sound_table contents name known (ap (λ ts. info_named ts name) (sym told) ∙ named) sound) (λ table content. None)

pub optimize_unfit : (contents : Contents) (tables : List TableInfo) (name : List ℕ) (fault : Fault) → tables ≡ map table_info contents → IsUnfit tables name fault → deserved contents (Optimize name) ≡ Some fault
unfolding deserved
optimize_unfit contents tables name fault told unfit = unfit_is contents name fault (λ table content. None) (subst (λ ts. IsUnfit ts name fault) told unfit)

pub optimize_keeps : (contents : Contents) (name : List ℕ) → deserved contents (Optimize name) ≡ None → step contents (Optimize name) ≡ (Ok Done, contents)
unfolding step reply_to after
optimize_keeps contents name fine = ap (λ due. step_by due contents (Optimize name)) fine

-- a sound table's rows are its content's, with exactly the index rows made from scratch
pub sound_rows : (store : StoreValue) (tables : List TableInfo) (contents : Contents) (name : List ℕ) (known : TableInfo) (t : IsSoundTable contents name known) → AreInOrder store → AreHeld store tables contents → HasContent t.table.1.name t.content t.table.0 store
sound_rows store tables contents name known t order held =
    let stands = subst (λ h. Stands t.table.1.name (table_rows t.table.0 store) (table_index t.table.0 store) h) t.held (held_named store name t.table store.tables contents held.held t.found).0 in
    record { order = order; is_content = stands.0; rows = stands.1; index = stands.2 }

-- ==== what the making and the removal of a table leave

-- ---- a table goes

-- a change of one table spares the others
pub one_spares : (id : ℤ) (change : Change) (store : StoreValue) → changed_table change ≡ Some id → SparesAllBut id store (applied change store)
one_spares id change store is = record { rows = λ other apart. (others other apart).0; index = λ other apart. (others other apart).1 }
  where
    others : (other : ℤ) → int_eq id other ≡ false → (table_rows other (applied change store) ≡ table_rows other store) × (table_index other (applied change store) ≡ table_index other store)
    others other apart = spares_others change other store (λ tab here. ap (λ o. int_eq other (unwrap_or o tab)) (sym here ∙ is) ∙ (eq_by_cmp_equiv int_cmp_total).symm other id ∙ apart)

pub drops_one : (name : List ℕ) (t : ℤ × Table) (old new : StoreValue) (tables : List (ℤ × List ℕ)) (contents : Contents) → SparesAllBut t.0 old new → AllByRecursion (IsOne name t) contents → AreHeldIn old tables contents →
    AreHeldIn new (where_key int_cmp (λ k. not (int_eq t.0 k)) tables) (dropped contents name)
drops_one name t old new [] [] spares one h = tt
drops_one name t old new (n ∷ ns) (x ∷ xs) spares one h = go (int_eq t.0 n.0) refl (drops_one name t old new ns xs spares one.1 h.1)
  where
    tables_after : Bool → List (ℤ × List ℕ)
    tables_after b = cond (not b) (n ∷ where_key int_cmp (λ k. not (int_eq t.0 k)) ns) (where_key int_cmp (λ k. not (int_eq t.0 k)) ns)

    contents_after : Bool → Contents
    contents_after b = cond (not b) (x ∷ dropped xs name) (dropped xs name)

    same_id : int_eq t.0 x.0 ≡ int_eq t.0 n.0
    same_id = ap (int_eq t.0) h.0.id

    go : (b : Bool) → int_eq t.0 n.0 ≡ b → AreHeldIn new (where_key int_cmp (λ k. not (int_eq t.0 k)) ns) (dropped xs name) → AreHeldIn new (tables_after (int_eq t.0 n.0)) (contents_after (same_name x.1.name name))
    go true is rest = subst (λ b. AreHeldIn new (tables_after b) (contents_after (same_name x.1.name name))) (sym is) (subst (λ b. AreHeldIn new (tables_after true) (contents_after b)) (sym (one.0.agrees ∙ same_id ∙ is)) rest)
    go false is rest = subst (λ b. AreHeldIn new (tables_after b) (contents_after (same_name x.1.name name))) (sym is) (subst (λ b. AreHeldIn new (tables_after false) (contents_after b)) (sym (one.0.agrees ∙ same_id ∙ is)) (spared t.0 old new n x spares (same_id ∙ is) h.0, rest))
drops_one name t old new _ _ spares one h = absurd h

-- ---- a table comes

free_from : (n : ℕ) (cs : Contents) → n ≤ free_id_from n cs
free_from n [] = omega arith
free_from n (c ∷ cs) = elim (int_eq c.0 (pos n)) as (λ b. n ≤ free_id_from (cond b (n + 1) n) cs) [ true ↦ (let h = free_from (n + 1) cs in omega (arith, h)) | false ↦ free_from n cs ]

free_stays : (n : ℕ) (cs : Contents) → below_all int_cmp (pos n) cs ≡ true → free_id_from n cs ≡ n
free_stays n [] h = refl
free_stays n (c ∷ cs) h =
    let parts = and_parts (is_lt (int_cmp (pos n) c.0)) (below_all int_cmp (pos n) cs) h in
    let other : int_eq c.0 (pos n) ≡ false = (eq_by_cmp_equiv int_cmp_total).symm c.0 (pos n) ∙ ap is_eq (less _ parts.0) in
    ap (λ b. free_id_from (cond b (n + 1) n) cs) other ∙ free_stays n cs parts.1

below_later : (a b : ℤ) (cs : Contents) → int_cmp a b ≡ Less → below_all int_cmp b cs ≡ true → below_all int_cmp a cs ≡ true
below_later a b [] h g = refl
below_later a b (c ∷ cs) h g =
    let parts = and_parts (is_lt (int_cmp b c.0)) (below_all int_cmp b cs) g in
    and_from (is_lt (int_cmp a c.0)) (below_all int_cmp a cs) (ap is_lt (int_cmp_total.trans a b c.0 h (less _ parts.0))) (below_later a b cs h parts.1)

-- The free id is no table's.
pub free_is_free : (n : ℕ) (cs : Contents) → is_sorted int_cmp cs ≡ true → AllByRecursion (λ (c : ℤ × Table). int_eq (pos (free_id_from n cs)) c.0 ≡ false) cs
free_is_free n [] h = tt
free_is_free n (c ∷ cs) h =
    let parts = and_parts (below_all int_cmp c.0 cs) (is_sorted int_cmp cs) h in
    go (int_cmp c.0 (pos n)) refl parts.0 (λ m. free_is_free m cs parts.1)
  where
    above : (m : ℕ) → n ≤ m → int_cmp c.0 (pos n) ≡ Less → (b : Bool) → nat_lt n m ≡ b → int_cmp c.0 (pos m) ≡ Less
    above m le is true e = int_cmp_total.trans c.0 (pos n) (pos m) is (sym (int_cmp_is (pos n) (pos m) Less (let h : n < m = ltb-true n m e in omega (arith, ints, h))))
    above m le is false e = ap (λ k. int_cmp c.0 (pos k)) (sym (let h : m ≤ n = ltb-false n m e in let same : n ≡ m = omega (arith, h, le) in same)) ∙ is

    apart_above : (m : ℕ) → n ≤ m → int_cmp c.0 (pos n) ≡ Less → int_eq (pos m) c.0 ≡ false
    apart_above m le is = (eq_by_cmp_equiv int_cmp_total).symm (pos m) c.0 ∙ ap is_eq (above m le is (nat_lt n m) refl)

    AreFree : Bool → Type 0
    AreFree b = AllByRecursion (λ (x : ℤ × Table). int_eq (pos (free_id_from (cond b (n + 1) n) cs)) x.0 ≡ false) (c ∷ cs)

    go : (o : Ordering) → int_cmp c.0 (pos n) ≡ o → below_all int_cmp c.0 cs ≡ true → ((m : ℕ) → AllByRecursion (λ (x : ℤ × Table). int_eq (pos (free_id_from m cs)) x.0 ≡ false) cs) → AreFree (int_eq c.0 (pos n))
    go Less is below rest = subst AreFree (sym (ap is_eq is)) (apart_above (free_id_from n cs) (free_from n cs) is, rest n)
    go Equal is below rest = subst AreFree (sym (ap is_eq is)) (
      (let le = free_from (n + 1) cs in
          let up : int_cmp (pos n) (pos (free_id_from (n + 1) cs)) ≡ Less = sym (int_cmp_is (pos n) (pos (free_id_from (n + 1) cs)) Less (omega (arith, ints, le))) in
          (eq_by_cmp_equiv int_cmp_total).symm (pos (free_id_from (n + 1) cs)) c.0 ∙ ap is_eq (ap (λ x. int_cmp x (pos (free_id_from (n + 1) cs))) (exact_signed c.0 (pos n) is) ∙ up)),
      rest (n + 1),
    )
    go Greater is below rest = subst AreFree (sym (ap is_eq is)) (
      (let before : int_cmp (pos n) c.0 ≡ Less = int_cmp_total.antisymm (pos n) c.0 ∙ ap ordering_reverse is in
          ap (λ m. int_eq (pos m) c.0) (free_stays n cs (below_later (pos n) c.0 cs before below)) ∙ ap is_eq before),
      rest n,
    )

abbrev pub AreNot : ℤ → List (ℤ × List ℕ) → Type 0
AreNot id tables = AllByRecursion (λ (n : ℤ × List ℕ). int_eq id n.0 ≡ false) tables

-- an id that no content has is no table's in the store
pub not_in_store : (id : ℤ) (store : StoreValue) (tables : List (ℤ × List ℕ)) (contents : Contents) → AllByRecursion (λ (c : ℤ × Table). int_eq id c.0 ≡ false) contents → AreHeldIn store tables contents → AreNot id tables
not_in_store id store [] [] free h = tt
not_in_store id store (n ∷ ns) (c ∷ cs) free h = (ap (int_eq id) (sym h.0.id) ∙ free.0, not_in_store id store ns cs free.1 h.1)
not_in_store id store _ _ free h = absurd h

none_without : (id : ℤ) (tables : List (ℤ × List ℕ)) → AreNot id tables → where_key int_cmp (λ k. not (int_eq id k)) tables ≡ tables
none_without id [] h = refl
none_without id (n ∷ ns) h = ap (λ b. cond (not b) (n ∷ where_key int_cmp (λ k. not (int_eq id k)) ns) (where_key int_cmp (λ k. not (int_eq id k)) ns)) h.0 ∙ ap (λ l. n ∷ l) (none_without id ns h.1)

all_spared : (id : ℤ) (old new : StoreValue) (tables : List (ℤ × List ℕ)) (contents : Contents) → SparesAllBut id old new → AreNot id tables → AreHeldIn old tables contents → AreHeldIn new tables contents
all_spared id old new [] [] spares free h = tt
all_spared id old new (n ∷ ns) (c ∷ cs) spares free h = (spared id old new n c spares (ap (int_eq id) h.0.id ∙ free.0) h.0, all_spared id old new ns cs spares free.1 h.1)
all_spared id old new _ _ spares free h = absurd h

-- A table under a free id joins the others.
pub joins : (id : ℤ) (name : List ℕ) (table : Table) (new : StoreValue) (tables : List (ℤ × List ℕ)) (contents : Contents) → HoldsTable (id, name) (table_rows id new) (table_index id new) (id, table) → AreNot id tables → AreHeldIn new tables contents →
    AreHeldIn new (put int_cmp id name tables) (put int_cmp id table contents)
joins id name table new [] [] own free h = (own, tt)
joins id name table new (n ∷ ns) (c ∷ cs) own free h =
    let rest = joins id name table new ns cs own free.1 h.1 in
    subst (λ k. AreHeldIn new (by_order (int_cmp id n.0) ((id, name) ∷ n ∷ ns) ((n.0, name) ∷ ns) (n ∷ put int_cmp id name ns)) (by_order (int_cmp id k) ((id, table) ∷ c ∷ cs) ((c.0, table) ∷ cs) (c ∷ put int_cmp id table cs))) (sym h.0.id)
    (go (int_cmp id n.0) refl rest)
  where
    go : (o : Ordering) → int_cmp id n.0 ≡ o → AreHeldIn new (put int_cmp id name ns) (put int_cmp id table cs) → AreHeldIn new (by_order o ((id, name) ∷ n ∷ ns) ((n.0, name) ∷ ns) (n ∷ put int_cmp id name ns)) (by_order o ((id, table) ∷ c ∷ cs) ((c.0, table) ∷ cs) (c ∷ put int_cmp id table cs))
    go Less is rest = (own, h)
    go Equal is rest = absurd (let no = sym free.0 ∙ ap is_eq is in cc)
    go Greater is rest = (h.0, rest)
joins id name table new _ _ own free h = absurd h

-- So the store holds a table that is made.
pub adds_one : (id : ℤ) (name : List ℕ) (columns : List Column) (old : StoreValue) (contents : Contents) → AreInOrder old → IsContent name (content_with columns []) → AllByRecursion (λ (c : ℤ × Table). int_eq id c.0 ≡ false) contents → AreHeldIn old old.tables contents →
    StoreHolds (applied (AddTable id name (names_of columns) (skipped_from 0 columns)) old) (put int_cmp id (record { name = name; held = Sound (content_with columns []) }) contents)
adds_one id name columns old contents order is free h =
    let new = applied (AddTable id name (names_of columns) (skipped_from 0 columns)) old in
    let apart = not_in_store id old old.tables contents free h in
    subst (λ tables. AreHeldIn new (put int_cmp id name tables) (put int_cmp id (record { name = name; held = Sound (content_with columns []) }) contents)) (sym (none_without id old.tables apart))
    (joins id name (record { name = name; held = Sound (content_with columns []) }) new old.tables contents
    (record { id = refl; name = refl; stands = (is, added_rows id name columns old order, added_index id name columns old) })
    apart (all_spared id old new old.tables contents (one_spares id (AddTable id name (names_of columns) (skipped_from 0 columns)) old refl) apart h))

-- ==== from the rows of one table to the contents of all

-- what changes of documents of one table leave alone
pub record LeavesRest (id : ℤ) (old new : StoreValue) : Type 0 where
  pub others : SparesAllBut id old new
  pub tables : new.tables ≡ old.tables
  pub noted : new.noted ≡ old.noted

one_leaves : (id : ℤ) (docids : List ℤ) (change : Change) (store : StoreValue) → IsOfDocids id docids change → (changed_table change ≡ Some id) × ((applied change store).tables ≡ store.tables) × ((applied change store).noted ≡ store.noted)
one_leaves id docids (AddTable tab name columns skipped) store h = absurd h
one_leaves id docids (DropTable tab) store h = absurd h
one_leaves id docids (ClearIndex tab) store h = absurd h
one_leaves id docids (Note name) store h = absurd h
one_leaves id docids _ store h = (ap Some h.0, refl, refl)

pub leaves_rest : (id : ℤ) (docids : List ℤ) (changes : List Change) (store : StoreValue) → AllByRecursion (IsOfDocids id docids) changes → LeavesRest id store (all_applied changes store)
leaves_rest id docids [] store near = record { others = record { rows = λ other apart. refl; index = λ other apart. refl }; tables = refl; noted = refl }
leaves_rest id docids (change ∷ changes) store near =
    let kept = one_leaves id docids change store near.0 in
    let one = one_spares id change store kept.0 in
    let rest = leaves_rest id docids changes (applied change store) near.1 in
    record {
      others = record {
        rows = λ other apart. rest.others.rows other apart ∙ one.rows other apart;
        index = λ other apart. rest.others.index other apart ∙ one.index other apart;
      };
      tables = rest.tables ∙ kept.1;
      noted = rest.noted ∙ kept.2;
    }

-- So where the rows of a sound table become those of other documents, the store holds the contents
-- with these documents.
pub lifts : (store new : StoreValue) (tables : List TableInfo) (contents : Contents) (name : List ℕ) (known : TableInfo) (t : IsSoundTable contents name known) (change : Content → Documents) →
    AreInOrder store → AreHeld store tables contents → LeavesRest t.table.0 store new →
    IsContent t.table.1.name (record t.content { documents = change t.content }) →
    table_rows t.table.0 new ≡ content_rows (record t.content { documents = change t.content }) → table_index t.table.0 new ≡ index_rows (record t.content { documents = change t.content }) →
    StoreHolds new (on_table contents name (with_documents change))
lifts store new tables contents name known t change order held leaves is rows index =
    let one = one_named name t.table contents (ids_sorted store store.tables contents held.held order.tables) held.named_once t.found in
    subst (λ ts. AreHeldIn new ts (on_table contents name (with_documents change))) (sym leaves.tables)
    (changes_one name t.table store new (with_documents change) store.tables contents leaves.others
    (subst (λ h. Stands t.table.1.name (table_rows t.table.0 new) (table_index t.table.0 new) (with_documents change h)) (sym t.held) (is, rows, index)) one held.held)

-- ==== what commands leave under ids that no table has

pub keeps_same : (store : StoreValue) → KeepsOthers store store
keeps_same store = record {
  noted = refl;
  rows = λ id none. ap (λ b. table_rows id (cond b nothing_held store)) (sym none);
  index = λ id none. ap (λ b. table_index id (cond b nothing_held store)) (sym none);
}

-- of each id, as it is of one and of all others
at_each_id : (P : ℤ → Type 0) (id : ℤ) → P id → ((other : ℤ) → int_eq id other ≡ false → P other) → (other : ℤ) → P other
at_each_id P id here there other = go (int_eq id other) refl
  where
    go : (b : Bool) → int_eq id other ≡ b → P other
    go true same = subst P (same_int id other same) here
    go false apart = there other apart

-- where the rows of all tables but one stay, and this one is named afterwards
keeps_spared : (id : ℤ) (old new : StoreValue) → SparesAllBut id old new → new.noted ≡ old.noted → has_table_id new id ≡ true → ((other : ℤ) → int_eq id other ≡ false → has_table_id new other ≡ has_table_id old other) → KeepsOthers old new
keeps_spared id old new spares noted named others = record {
  noted = noted;
  rows = at_each_id (λ k. has_table_id new k ≡ false → table_rows k new ≡ table_rows k (cond (has_table_id old k) nothing_held old)) id (λ none. absurd (let no = sym named ∙ none in cc))
      (λ other apart none. spares.rows other apart ∙ ap (λ b. table_rows other (cond b nothing_held old)) (sym none ∙ others other apart));
  index = at_each_id (λ k. has_table_id new k ≡ false → table_index k new ≡ table_index k (cond (has_table_id old k) nothing_held old)) id (λ none. absurd (let no = sym named ∙ none in cc))
      (λ other apart none. spares.index other apart ∙ ap (λ b. table_index other (cond b nothing_held old)) (sym none ∙ others other apart));
}

-- changes of documents of a table
pub keeps_changed : (id : ℤ) (old new : StoreValue) → LeavesRest id old new → has_table_id old id ≡ true → KeepsOthers old new
keeps_changed id old new leaves named =
    keeps_spared id old new leaves.others leaves.noted (ap (λ ts. is_some (find int_cmp id ts)) leaves.tables ∙ named) (λ other apart. ap (λ ts. is_some (find int_cmp other ts)) leaves.tables)

-- other tables are named as before, without this one and with it
named_without : (id other : ℤ) (tables : List (ℤ × List ℕ)) → int_eq id other ≡ false → find int_cmp other (where_key int_cmp (λ k. not (int_eq id k)) tables) ≡ find int_cmp other tables
named_without id other tables apart =
    find-where_key int_cmp (λ k. not (int_eq id k)) other (λ x e. ap (λ k. not (int_eq id k)) (sym (exact_signed other x e))) tables ∙ ap (λ b. cond (not b) (find int_cmp other tables) None) apart

-- a table that is made
keeps_added : (id : ℤ) (name : List ℕ) (columns : List (List ℕ)) (skipped : List ℤ) (store : StoreValue) → KeepsOthers store (applied (AddTable id name columns skipped) store)
keeps_added id name columns skipped store =
    keeps_spared id store (applied (AddTable id name columns skipped) store) (one_spares id (AddTable id name columns skipped) store refl) refl
    (ap is_some (put_found id) ∙ ap (λ b. is_some (cond b (Some name) (find int_cmp id others))) (ap is_eq (tied_itself int_cmp_total id)))
    (λ other apart. ap is_some (put_found other ∙ ap (λ b. cond b (Some name) (find int_cmp other others)) ((eq_by_cmp_equiv int_cmp_total).symm other id ∙ apart) ∙ named_without id other store.tables apart))
  where
    others : List (ℤ × List ℕ)
    others = where_key int_cmp (λ k. not (int_eq id k)) store.tables

    put_found : (q : ℤ) → find int_cmp q (put int_cmp id name others) ≡ cond (int_eq q id) (Some name) (find int_cmp q others)
    put_found q = find-put int_cmp int_cmp_total q id name others

pub makes_table : (made : RustTableInfo) (store : StoreValue) → KeepsOthers store (applied (table_change made) store)
makes_table made store = keeps_added made.id (string_bytes made.name) (names_of (map column_of made.columns.items)) (skipped_from 0 (map column_of made.columns.items)) store

none_twice : {K V : Type 0} (R : K → K → Ordering) (p : K → Bool) (rows : List (K × V)) → where_key R p (where_key R (λ k. not (p k)) rows) ≡ []
none_twice R p [] = refl
none_twice R p (row ∷ rows) = go (p row.0) refl (none_twice R p rows)
  where
    go : (b : Bool) → p row.0 ≡ b → where_key R p (where_key R (λ k. not (p k)) rows) ≡ [] → where_key R p (cond (not (p row.0)) (row ∷ where_key R (λ k. not (p k)) rows) (where_key R (λ k. not (p k)) rows)) ≡ []
    go true is rest = ap (λ b. where_key R p (cond (not b) (row ∷ where_key R (λ k. not (p k)) rows) (where_key R (λ k. not (p k)) rows))) is ∙ rest
    go false is rest =
        ap (λ b. where_key R p (cond (not b) (row ∷ where_key R (λ k. not (p k)) rows) (where_key R (λ k. not (p k)) rows))) is
        ∙ ap (λ b. cond b (row ∷ where_key R p (where_key R (λ k. not (p k)) rows)) (where_key R p (where_key R (λ k. not (p k)) rows))) is ∙ rest

-- a table that goes
pub keeps_dropped : (id : ℤ) (store : StoreValue) → has_table_id store id ≡ true → KeepsOthers store (applied (DropTable id) store)
keeps_dropped id store named = record {
  noted = refl;
  rows = at_each_id (λ k. has_table_id new k ≡ false → table_rows k new ≡ table_rows k (cond (has_table_id store k) nothing_held store)) id (λ none. rows_gone ∙ ap (λ b. table_rows id (cond b nothing_held store)) (sym named))
      (λ other apart none. spares.rows other apart ∙ ap (λ b. table_rows other (cond b nothing_held store)) (sym none ∙ names other apart));
  index = at_each_id (λ k. has_table_id new k ≡ false → table_index k new ≡ table_index k (cond (has_table_id store k) nothing_held store)) id (λ none. index_gone ∙ ap (λ b. table_index id (cond b nothing_held store)) (sym named))
      (λ other apart none. spares.index other apart ∙ ap (λ b. table_index other (cond b nothing_held store)) (sym none ∙ names other apart));
}
  where
    new : StoreValue
    new = applied (DropTable id) store

    spares : SparesAllBut id store new
    spares = one_spares id (DropTable id) store refl

    names : (other : ℤ) → int_eq id other ≡ false → has_table_id new other ≡ has_table_id store other
    names other apart = ap is_some (named_without id other store.tables apart)

    rows_gone : table_rows id new ≡ table_rows id nothing_held
    rows_gone = λ i. record {
      columns = map (λ (c : ColumnKey × List ℕ). (c.0.1, c.1)) (none_twice column_key_cmp (λ k. int_eq id k.0) store.columns i);
      skipped = map (λ (s : ColumnKey × Unit {0}). s.0.1) (none_twice column_key_cmp (λ k. int_eq id k.0) store.skipped i);
      cells = map (λ (c : CellKey × Cell). record { docid = c.0.1; column = c.0.2; value = c.1 }) (none_twice cell_key_cmp (λ k. int_eq id k.0) store.cells i);
    }

    index_gone : table_index id new ≡ table_index id nothing_held
    index_gone = λ i. record {
      lists = map (λ (l : ListKey × List Spot). ((l.0.1, l.0.2), l.1)) (none_twice list_key_cmp (λ k. int_eq id k.0) store.lists i);
      sizes = map (λ (z : CellKey × ℤ). record { docid = z.0.1; column = z.0.2; n = z.1 }) (none_twice cell_key_cmp (λ k. int_eq id k.0) store.sizes i);
    }
