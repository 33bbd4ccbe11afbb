-- The plans and answers of a Create, a Drop, and of commands that change no document.
use Rattle.std.proofs.Common.{◌≡◌, ℕ, true, false, cond, List, [], ◌∷◌, map, length, Some, None, Ok, Err, ℤ, pos, string_bytes, refl, sym, ap, subst, ◌∙◌, arith, lt-ltb, IsTrue, is_some, nat_lt, Ordering, Less, Equal, Greater, int_cmp, int_eq, is_lt, is_eq, Bool, not, ◌&&◌, Option, is_none, ◌⊎◌, inl, inr, Result}
use Rattle.ft_index.proofs.Common.{AllByRecursion, put, by_order, StoreValue, AreInOrder, AddTable, applied, Fault, RustTableInfo, IsContent}
use Rattle.ft_index.proofs.Common.{names_of, skipped_from, Command, Done, TableInfo, shown_info, option_of, texts_of, creation_of, Table, Contents}
use Rattle.ft_index.proofs.Common.{table_named, made_columns, deserved, free_id_from, made_column, new_table, after, reply_to, step, step_by}
use Rattle.ft_index.proofs.Common.{with_info, PlansTable, table_change, AreHeld, StoreHolds, table_info, DropTable, same_name, Drop, first_of}
use Rattle.ft_index.proofs.Common.{dropped, info_named, without_info, KeepsOthers, PlansFrom, Change, Check, Optimize, RustReply, answer_of}
use Rattle.ft_index.proofs.Common.{StaysNear, Answers, is_outside}
use Rattle.ft_commands.specs.declared.command.Creation.{Creation}
use Rattle.ft_content.specs.Step.{created}
use Rattle.ft_index.proofs.OneTable.{ids_sorted, free_is_free, adds_one, IsOne, one_named, held_named, one_spares, drops_one, none_named, some_named, keeps_dropped, keeps_same, makes_table}
use Rattle.ft_content.specs.Laws.{content_with}
use Rattle.ft_calls.proofs.{apart_after}
use Rattle.ft_content.proofs.{create_makes_content}
use Rattle.ft_values.specs.declared.fault.Fault.TheVariants as faults
use Rattle.ft_commands.specs.Command.{Reply}
use Rattle.ft_commands.specs.Views.{reply_of}

-- a table under a free id stands among those that are told as it stands among the contents
told_put : (id : ℤ) (table : Table) (contents : Contents) → AllByRecursion (λ (c : ℤ × Table). int_eq id c.0 ≡ false) contents → map table_info (put int_cmp id table contents) ≡ with_info (table_info (id, table)) (map table_info contents)
told_put id table [] free = refl
told_put id table (c ∷ cs) free = go (int_cmp id c.0) refl free.0 (told_put id table cs free.1)
  where
    go : (o : Ordering) → int_cmp id c.0 ≡ o → int_eq id c.0 ≡ false → map table_info (put int_cmp id table cs) ≡ with_info (table_info (id, table)) (map table_info cs) →
        map table_info (by_order (int_cmp id c.0) ((id, table) ∷ c ∷ cs) ((c.0, table) ∷ cs) (c ∷ put int_cmp id table cs)) ≡ cond (is_lt (int_cmp id c.0)) (table_info (id, table) ∷ table_info c ∷ map table_info cs) (table_info c ∷ with_info (table_info (id, table)) (map table_info cs))
    go Less is apart rest = ap (λ o. map table_info (by_order o ((id, table) ∷ c ∷ cs) ((c.0, table) ∷ cs) (c ∷ put int_cmp id table cs))) is ∙ sym (ap (λ o. cond (is_lt o) (table_info (id, table) ∷ table_info c ∷ map table_info cs) (table_info c ∷ with_info (table_info (id, table)) (map table_info cs))) is)
    go Equal is apart rest = absurd (let no = sym apart ∙ ap is_eq is in cc)
    go Greater is apart rest = ap (λ o. map table_info (by_order o ((id, table) ∷ c ∷ cs) ((c.0, table) ∷ cs) (c ∷ put int_cmp id table cs))) is ∙ ap (λ l. table_info c ∷ l) rest ∙ sym (ap (λ o. cond (is_lt o) (table_info (id, table) ∷ table_info c ∷ map table_info cs) (table_info c ∷ with_info (table_info (id, table)) (map table_info cs))) is)

some_columns : (names : List (List ℕ)) → nat_lt 0 (length (made_columns names)) ≡ true
some_columns [] = refl
some_columns (n ∷ ns) = lt-ltb 0 (length (n ∷ ns)) (omega arith)

-- the columns that a Create without a fault makes are those of a content
makes_content : (contents : Contents) (creation : Creation) → deserved contents (creation_of creation) ≡ None →
    IsContent (string_bytes creation.table) (content_with (map (made_column (map option_of creation.options.items)) (made_columns (texts_of creation.columns))) [])
unfolding deserved
makes_content contents creation fine =
    let names = texts_of creation.columns in
    create_makes_content contents (string_bytes creation.table) (string_bytes creation.module) (map option_of creation.options.items) (made_columns names) creation.if_new (some_columns names) fine

-- ---- what is held after a table was made

pub made_is_held : (contents : Contents) (creation : Creation) (made : RustTableInfo) (store : StoreValue) (tables : List TableInfo) →
    PlansTable contents creation (Ok (Some made)) → AreInOrder store → AreHeld store tables contents →
    AreHeld (applied (table_change made) store) (with_info (shown_info made) tables) (after contents (creation_of creation))
unfolding after
made_is_held contents creation made store tables makes order held =
    let m = makes.2 in
    let table = string_bytes creation.table in
    let options = map option_of creation.options.items in
    let names = texts_of creation.columns in
    let id = pos (free_id_from 1 contents) in
    let columns = map (made_column options) (made_columns names) in
    let new = new_table table options (made_columns names) in
    let free = free_is_free 1 contents (ids_sorted store store.tables contents held.held order.tables) in
    let joined : created contents table options (made_columns names) ≡ put int_cmp id new contents = ap (λ found. cond (is_some found) contents (put int_cmp id new contents)) makes.1 in
    let change : AddTable id table (names_of columns) (skipped_from 0 columns) ≡ table_change made = sym (λ i. AddTable (m.id i) (m.name i) (names_of (m.columns i)) (skipped_from 0 (m.columns i))) in
    let told : table_info (id, new) ≡ shown_info made = sym (λ i. record { id = m.id i; name = m.name i; columns = m.columns i; sound = m.sound i }) in
    record {
      named_once = apart_after contents (creation_of creation) held.named_once;
      held = subst (λ cs. StoreHolds (applied (table_change made) store) cs) (sym joined)
          (subst (λ ch. StoreHolds (applied ch store) (put int_cmp id new contents)) change (adds_one id table columns store contents order (makes_content contents creation makes.0) free held.held));
      told = ap (with_info (shown_info made)) held.told ∙ ap (λ k. with_info k (map table_info contents)) (sym told) ∙ sym (told_put id new contents free) ∙ ap (map table_info) (sym joined);
    }

pub create_reply : (contents : Contents) (creation : Creation) → reply_to contents (creation_of creation) ≡ Done
unfolding reply_to
create_reply contents creation = refl

pub refused_answers : (contents : Contents) (command : Command) (fault : Fault) → deserved contents command ≡ Some fault → step contents command ≡ (Err fault, contents)
unfolding step
refused_answers contents command fault due = ap (λ d. step_by d contents command) due

-- nothing is made where a table of the name may be there and is
pub nothing_made : (contents : Contents) (creation : Creation) → IsTrue (is_some (table_named contents (string_bytes creation.table))) → after contents (creation_of creation) ≡ contents
unfolding after
nothing_made contents creation there =
    let new = new_table (string_bytes creation.table) (map option_of creation.options.items) (made_columns (texts_of creation.columns)) in
    ap (λ b. cond b contents (put int_cmp (pos (free_id_from 1 contents)) new contents)) there

-- so it is answered that it is done
pub create_kept : (contents : Contents) (creation : Creation) → PlansTable contents creation (Ok None) → step contents (creation_of creation) ≡ (Ok Done, contents)
unfolding step reply_to
create_kept contents creation makes = ap (λ due. step_by due contents (creation_of creation)) makes.0 ∙ ap (λ cs. (Ok Done, cs)) (nothing_made contents creation makes.1)

-- ==== the plans of a Create and of a Drop

-- ---- Drop

pub drop_missing : (contents : Contents) (name : List ℕ) (if_there : Bool) → table_named contents name ≡ None → if_there ≡ false → deserved contents (Drop name if_there) ≡ Some faults.NoSuchTable
unfolding deserved
drop_missing contents name if_there none may = λ i. first_of ((is_none (none i) && not (may i), faults.NoSuchTable) ∷ [])

-- no table has the name
pub none_dropped : (contents : Contents) (name : List ℕ) → table_named contents name ≡ None → dropped contents name ≡ contents
none_dropped [] name none = refl
none_dropped (t ∷ ts) name none = go (same_name t.1.name name) refl (none_dropped ts name) none
  where
    go : (b : Bool) → same_name t.1.name name ≡ b → (table_named ts name ≡ None → dropped ts name ≡ ts) → cond b (Some t) (table_named ts name) ≡ None → cond (not (same_name t.1.name name)) (t ∷ dropped ts name) (dropped ts name) ≡ t ∷ ts
    go true is rest none = absurd (let no = none in cc)
    go false is rest none = ap (λ b. cond (not b) (t ∷ dropped ts name) (dropped ts name)) is ∙ ap (λ l. t ∷ l) (rest none)

spared_due : (found : Option (ℤ × Table)) → first_of ((is_none found && not true, faults.NoSuchTable) ∷ []) ≡ None
spared_due None = refl
spared_due (Some t) = refl

pub drop_spared : (store : StoreValue) (tables : List TableInfo) (contents : Contents) (name : List ℕ) (if_there : Bool) → if_there ≡ true → AreHeld store tables contents → info_named tables name ≡ None → PlansFrom contents (Drop name if_there) store (Ok [])
unfolding deserved after
drop_spared store tables contents name if_there may held none =
    let none_here : table_named contents name ≡ None = none_named contents name (ap (λ ts. info_named ts name) (sym held.told) ∙ none) in (
      ap (λ b. first_of ((is_none (table_named contents name) && not b, faults.NoSuchTable) ∷ [])) may ∙ spared_due (table_named contents name),
      subst (StoreHolds store) (sym (none_dropped contents name none_here)) held.held,
      keeps_same store,
      tt,
    )

pub drop_planned : (store : StoreValue) (tables : List TableInfo) (contents : Contents) (name : List ℕ) (if_there : Bool) (known : TableInfo) → AreInOrder store → AreHeld store tables contents → info_named tables name ≡ Some known →
    PlansFrom contents (Drop name if_there) store (Ok (DropTable known.id ∷ []))
unfolding deserved after
drop_planned store tables contents name if_there known order held named =
    let it = some_named contents name known (ap (λ ts. info_named ts name) (sym held.told) ∙ named) in
    let t = it.0 in
    let one = one_named name t contents (ids_sorted store store.tables contents held.held order.tables) held.named_once it.1 in
    let id : t.0 ≡ known.id = ap (λ (k : TableInfo). k.id) it.2 in (
      ap (λ f. first_of ((is_none f && not if_there, faults.NoSuchTable) ∷ [])) it.1,
      subst (λ k. StoreHolds (applied (DropTable k) store) (dropped contents name)) id (drops_one name t store (applied (DropTable t.0) store) store.tables contents (one_spares t.0 (DropTable t.0) store refl) one held.held),
      subst (λ k. KeepsOthers store (applied (DropTable k) store)) id (keeps_dropped t.0 store ((held_named store name t store.tables contents held.held it.1).1)),
      tt,
    )

-- ---- the tables that are told after a Drop

info_without : (name : List ℕ) (t : ℤ × Table) (contents : Contents) → AllByRecursion (IsOne name t) contents → without_info t.0 (map table_info contents) ≡ map table_info (dropped contents name)
info_without name t [] one = refl
info_without name t (c ∷ cs) one = go (int_eq t.0 c.0) refl (info_without name t cs one.1)
  where
    go : (b : Bool) → int_eq t.0 c.0 ≡ b → without_info t.0 (map table_info cs) ≡ map table_info (dropped cs name) →
        cond (not (int_eq t.0 c.0)) (table_info c ∷ without_info t.0 (map table_info cs)) (without_info t.0 (map table_info cs)) ≡ map table_info (cond (not (same_name c.1.name name)) (c ∷ dropped cs name) (dropped cs name))
    go true is rest = ap (λ b. cond (not b) (table_info c ∷ without_info t.0 (map table_info cs)) (without_info t.0 (map table_info cs))) is ∙ rest ∙ sym (ap (λ b. map table_info (cond (not b) (c ∷ dropped cs name) (dropped cs name))) (one.0.agrees ∙ is))
    go false is rest = ap (λ b. cond (not b) (table_info c ∷ without_info t.0 (map table_info cs)) (without_info t.0 (map table_info cs))) is ∙ ap (λ l. table_info c ∷ l) rest ∙ sym (ap (λ b. map table_info (cond (not b) (c ∷ dropped cs name) (dropped cs name))) (one.0.agrees ∙ is))

pub told_dropped : (store : StoreValue) (tables : List TableInfo) (contents : Contents) (name : List ℕ) (if_there : Bool) (known : TableInfo) → AreInOrder store → AreHeld store tables contents → info_named tables name ≡ Some known →
    without_info known.id tables ≡ map table_info (after contents (Drop name if_there))
unfolding after
told_dropped store tables contents name if_there known order held named =
    let it = some_named contents name known (ap (λ ts. info_named ts name) (sym held.told) ∙ named) in
    let one = one_named name it.0 contents (ids_sorted store store.tables contents held.held order.tables) held.named_once it.1 in
    (λ i. without_info (ap (λ (k : TableInfo). k.id) (sym it.2) i) (held.told i)) ∙ info_without name it.0 contents one

pub told_spared : (store : StoreValue) (tables : List TableInfo) (contents : Contents) (name : List ℕ) (if_there : Bool) → AreHeld store tables contents → info_named tables name ≡ None → tables ≡ map table_info (after contents (Drop name if_there))
unfolding after
told_spared store tables contents name if_there held none =
    held.told ∙ ap (map table_info) (sym (none_dropped contents name (none_named contents name (ap (λ ts. info_named ts name) (sym held.told) ∙ none))))

pub drop_done : (contents : Contents) (name : List ℕ) (if_there : Bool) → reply_to contents (Drop name if_there) ≡ Done
unfolding reply_to
drop_done contents name if_there = refl

-- ==== plans of commands that change no document

-- a command that leaves the contents, and names no row
pub plans_nothing : (contents : Contents) (command : Command) (store : StoreValue) (tables : List TableInfo) → AreHeld store tables contents → after contents command ≡ contents → StaysNear contents command [] → deserved contents command ≡ None → PlansFrom contents command store (Ok [])
plans_nothing contents command store tables held same near fine = (fine, subst (StoreHolds store) (sym same) held.held, keeps_same store, near)

-- ---- Create

module _ (contents : Contents) (creation : Creation) (store : StoreValue) (tables : List TableInfo) where
  pub create_refused : (fault : Fault) → PlansTable contents creation (Err fault) → PlansFrom contents (creation_of creation) store (Err fault)
  create_refused fault (inl memory) = inl (ap (λ f. is_outside (Err f)) memory)
  create_refused fault (inr due) = inr due

  pub create_nothing : AreHeld store tables contents → PlansTable contents creation (Ok None) → PlansFrom contents (creation_of creation) store (Ok [])
  create_nothing held makes = plans_nothing contents (creation_of creation) store tables held (nothing_made contents creation makes.1) tt makes.0

  pub create_makes : (made : RustTableInfo) → AreInOrder store → AreHeld store tables contents → PlansTable contents creation (Ok (Some made)) → PlansFrom contents (creation_of creation) store (Ok (table_change made ∷ []))
  create_makes made order held makes = (makes.0, (made_is_held contents creation made store tables makes order held).held, makes_table made store, tt)

-- ---- commands that were answered

-- what was done deserved no fault
answered_fine : (contents last : Contents) (command : Command) (reply : Reply) → Answers contents command (Ok reply) last → deserved contents command ≡ None
unfolding step
answered_fine contents last command reply (inl outside) = absurd (let no = outside.0 in cc)
answered_fine contents last command reply (inr stepped) = go (deserved contents command) stepped
  where
    go : (due : Option Fault) → step_by due contents command ≡ (Ok reply, last) → due ≡ None
    go None is = refl
    go (Some fault) is = absurd (let no = ap (λ (p : Result Reply Fault × Contents). p.0) is in cc)

-- and what was refused deserved it, but for a refusal from outside
answered_fault : (contents last : Contents) (command : Command) (fault : Fault) → Answers contents command (Err fault) last → IsTrue (is_outside (Err fault)) ⊎ (deserved contents command ≡ Some fault)
unfolding step
answered_fault contents last command fault (inl outside) = inl outside.0
answered_fault contents last command fault (inr stepped) = go (deserved contents command) stepped
  where
    go : (due : Option Fault) → step_by due contents command ≡ (Err fault, last) → IsTrue (is_outside (Err fault)) ⊎ (due ≡ Some fault)
    go None is = absurd (let no = ap (λ (p : Result Reply Fault × Contents). p.0) is in cc)
    go (Some other) is = let fails : Err other ≡ Err fault = ap (λ (p : Result Reply Fault × Contents). p.0) is in inr (let same : Some other ≡ Some fault = cc in same)

-- a plan of no row changes, or the fault
abbrev pub none_of : Result RustReply Fault → Result (List Change) Fault
none_of (Ok reply) = Ok []
none_of (Err fault) = Err fault

module _ (contents last : Contents) (name : List ℕ) (store : StoreValue) (tables : List TableInfo) (held : AreHeld store tables contents) where
  pub check_plans : (answer : Result RustReply Fault) → Answers contents (Check name) (answer_of answer) last → PlansFrom contents (Check name) store (none_of answer)
  unfolding after
  check_plans (Ok reply) answers = plans_nothing contents (Check name) store tables held refl refl (answered_fine contents last (Check name) (reply_of reply) answers)
  check_plans (Err fault) answers = answered_fault contents last (Check name) fault answers

  pub optimize_plans : (answer : Result RustReply Fault) → Answers contents (Optimize name) (answer_of answer) last → PlansFrom contents (Optimize name) store (none_of answer)
  unfolding after
  optimize_plans (Ok reply) answers = plans_nothing contents (Optimize name) store tables held refl refl (answered_fine contents last (Optimize name) (reply_of reply) answers)
  optimize_plans (Err fault) answers = answered_fault contents last (Optimize name) fault answers
