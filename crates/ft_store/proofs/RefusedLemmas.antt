-- A statement of a change is refused only by what lies outside the store; what the statements that take rows out leave room for.
use Rattle.std.proofs.Common.{◌≡◌, ◌≢◌, ◌∙◌, ◌∷◌, ◌||◌, ◌⊎◌, ℕ, zero, suc, ℤ, Bool, true, false, not, nat_lt, List, [], length, Option, Some, None, Ok, Err, inl, inr, refl, sym, ap, subst, arith, IsTrue, true≢false, append-nil, length-append, slice_get, ne_eqb, eq-eqb, IsSome, nat_eq, ◌&&◌, eqb-true, codes, int_eq, is_le}
use Rattle.ft_store.proofs.Common.{Row, Schema, Trees, Table, Term, IsAscending, with_tree, Delete, IsDatabase, is_query, understood, Task, Queried}
use Rattle.ft_store.proofs.Common.{Does, OnRows, AtPlace, due, State, HasCause, IsNotRun, ExecutesIn, ExecutesInside, EndsScope, Fails, text_of}
use Rattle.ft_store.proofs.Common.{mode_of, store_error, is_pragma, Error, SqliteFailure, IsPlain, command_of, StoreError, OutOfMemory, Io, Corrupt}
use Rattle.ft_store.proofs.Common.{Full, Broken, Unstorable, Datatype, NotNull, Check, PrimaryKey, Unique, ForeignKey, Enforced, Refers, Has}
use Rattle.ft_store.proofs.Common.{are_unique, Edit, edit_of, edited, IsRefused, Given, Refusal, Violates, Mismatch, NoRowid, BadReference, TooDeep}
use Rattle.ft_store.proofs.Common.{Writes, Leads, Turns, unique_kept, without_all_has, IsSound, all_of, Query, list_all, eqb-false, Int, everything}
use Rattle.ft_store.proofs.Common.{Eq, NoCase, op2, col, Text, holds, at_texts, then_term, last_term, all_both, Value, is_true, binary, Compare, Ge}
use Rattle.ft_store.proofs.Common.{Binary, without_case, Ghosts, state, eq_by_cmp, where_key, without_key, cell_key_cmp, list_key_cmp, column_key_cmp}
use Rattle.ft_store.proofs.Common.{name_cmp}
use Rattle.sqlite.specs.declared.error.ErrorCode.TheVariants as code
use Rattle.ft_store.proofs.StoreTables as tables
use Rattle.sqlite.specs.Command.{Command}
use Rattle.sqlite_schema.specs.declared.schema.Among.{Among}
use Rattle.sqlite_rules.specs.Edit.{without_all}
use Rattle.sqlite_rules.specs.Calls.{ids_of}
use Rattle.ft_store.specs.Tables.{store_schema}
use Rattle.ft_store.specs.Blame.{IsBlamed}
use Rattle.ft_store.specs.Calls.{IsStore}
use Rattle.ft_store.proofs.Texts.{table_query, no_limit, no_offset, is_param, compares, drop_column_text, drop_skip_text, drop_cell_text}
use Rattle.ft_store.proofs.Texts.{drop_list_text, drop_size_text, drop_note_text, IsDeletion}
use Rattle.sqlite.specs.Calls.{IsWrite}
use Rattle.ft_store.proofs.BlameLemmas.{fails_blamed, unless_shut}
use Rattle.ft_store.specs.Made.{is_whole, statement_of}
use Rattle.ft_store.proofs.AnswerLemmas.{is_statement, IsTyped, table_limited}
use Rattle.ft_store.specs.Puts.{IsGrown, AreGrown, KeepsRest, chosen_trees}
use Rattle.ft_store.proofs.ChangeLemmas.{Wrote, KeepsOthers, bare_table, deletes, no_overlay}
use Rattle.ft_store.proofs.StoreTables.{deleted, StoreTable, turned, turned_text, turned_case, then_tie}
use Rattle.ft_store.specs.Changes.{TakesRows}
use Rattle.ft_store.specs.Inside.{without_name, without_columns, without_skips, without_contents, without_lists, without_sizes}
use Rattle.ft_store.proofs.CantLemmas.{grown_filter, grown_same}

-- ---- any statement

-- where nothing is left to do, nothing is refused
pub never_leads : (n : ℕ) (db : Trees) (why : Option Refusal) → Leads store_schema Enforced n db [] (Err why) → ⊥
never_leads zero db why h = absurd (let e = h.1 in cc)
never_leads (suc n) db why h = absurd (omega (arith, ap length h.2, length-append h.0 (h.1 ∷ [])))

pub fails_unless : (old new : State) (e : Error) (TooBig Why : Type 0) → (IsBlamed old new → Why) → (TooBig → Why) → e ≢ SqliteFailure code.OutOfMemory → Fails old new TooBig e → Why
fails_unless old new e TooBig Why blamed big other h = go h.0 h.1 h.2
  where
    go : (cause : StoreError) → e ≡ store_error cause → HasCause old new TooBig cause → Why
    go OutOfMemory is cause = absurd (other is)
    go Io is cause = blamed (inl cause)
    go Corrupt is cause = blamed (inl cause)
    go Full is cause = blamed (inl cause)
    go Broken is cause = blamed (inr (inl cause))
    go Unstorable is cause = big cause

-- a statement on an open store is refused only by what lies outside it
abbrev pub RunOnlyBlamed : State → State → List ℕ → Row → Type 0
RunOnlyBlamed old new sql params = (IsTrue old.is_open → IsStore old.now) → (e : Error) × (e ≢ SqliteFailure code.OutOfMemory) × ExecutesInside 0 sql params old new (Err e) → IsBlamed old new

-- the command can't be done on the rows that are there, which is told by this error, or a row is
-- too big
abbrev pub CantDo : Error → State → Row → Command → Type 0
CantDo e s params command = (text : List ℕ) × (stop : Option Error) × ((stop ≡ None) ⊎ (stop ≡ Some e)) × Does s.step_limit (mode_of s) params s.now text None command (Err stop)

-- so it is with the text of the statement
abbrev pub CantDoAs : Error → State → Row → Command → List ℕ → Type 0
CantDoAs e s params command text = (stop : Option Error) × ((stop ≡ None) ⊎ (stop ≡ Some e)) × Does s.step_limit (mode_of s) params s.now text None command (Err stop)

-- why a statement that writes is refused
module _ {schema : Schema} (old new : State) (sql : List ℕ) (params : Row) (has : old.now.schema ≡ schema) (command : Command) (is : command_of (understood schema sql) ≡ command) (plain : IsPlain (understood schema sql))
    (whole : is_whole sql (length params) (understood schema sql) ≡ true) (writes : IsWrite command) (quiet : (is_query command || (is_pragma command || false)) ≡ false) where
  is_other : (k : Command) → command ≡ k → (IsWrite k → ⊥) → ⊥
  is_other k same not = not (subst IsWrite same writes)

  pub write_refused_as : (e : Error) → e ≢ SqliteFailure code.OutOfMemory → ExecutesInside 0 sql params old new (Err e) → IsBlamed old new ⊎ CantDoAs e old params command (statement_of sql (understood schema sql))
  unfolding ExecutesIn IsNotRun EndsScope
  write_refused_as e other (inr ((c, it, escapes), error, same)) =
      let here : understood schema sql ≡ Ok c = sym (ap (λ s. understood s sql) has) ∙ it.is in
      let k : command ≡ c.command = sym is ∙ ap command_of here in
      absurd (elim escapes [
        | inl (inl a) ↦ is_other _ (k ∙ a) (λ w. w)
        | inl (inr a) ↦ is_other _ (k ∙ a) (λ w. w)
        | inr (name, inl a, held) ↦ is_other _ (k ∙ a) (λ w. w)
        | inr (name, inr a, held) ↦ is_other _ (k ∙ a) (λ w. w)
      ])
  write_refused_as e other (inl (inl (inl none), kept)) = absurd (is_statement old sql params has plain whole e none.0)
  write_refused_as e other (inl (inl (inr fails), kept)) = inl (fails_blamed old new e other fails)
  write_refused_as e other (inl (inr (c, it, alone), kept)) =
      let here : understood schema sql ≡ Ok c = sym (ap (λ s. understood s sql) has) ∙ it.is in
      let same : c.command ≡ command = ap command_of (sym here) ∙ is in
      let bare = subst IsPlain here plain in
      let text : text_of sql c ≡ statement_of sql (understood schema sql) = ap (statement_of sql) (sym here) in
      let cant : (stop : Option Error) → ((stop ≡ None) ⊎ (stop ≡ Some e)) → Does old.step_limit (mode_of old) params old.now (text_of sql c) None command (Err stop) → IsBlamed old new ⊎ CantDoAs e old params command (statement_of sql (understood schema sql)) =
      λ stop told does. inr (stop, told, subst (λ t. Does old.step_limit (mode_of old) params old.now t None command (Err stop)) text does) in
      elim (rw (same, bare.0, bare.1, append-nil params, quiet) at alone) [
        | inl (inl misplaced, kept) ↦ absurd (elim misplaced [
          | inl a ↦ elim a.1 [ inl b ↦ is_other _ b.0 (λ w. w) | inr b ↦ elim b.0 [ inl k ↦ is_other _ k (λ w. w) | inr k ↦ is_other _ k (λ w. w) ] ]
          | inr a ↦ elim a.2 [ inl k ↦ is_other _ k (λ w. w) | inr k ↦ is_other _ k (λ w. w) ]
        ])
        | inl (inr does, kept) ↦ cant (Some e) (inr refl) does.1
        | inr fails ↦ fails_unless old new e _ _ (λ b. inl b) (cant None (inl refl)) other fails
      ]

  pub write_refused : (e : Error) → e ≢ SqliteFailure code.OutOfMemory → ExecutesInside 0 sql params old new (Err e) → IsBlamed old new ⊎ CantDo e old params command
  write_refused e other ran = elim (write_refused_as e other ran) [ inl blamed ↦ inl blamed | inr cant ↦ inr (_, cant.0, cant.1, cant.2) ]

-- ---- DELETE

pub apart : IsAscending (λ (a b : Table). a.tree ≡ b.tree → ⊥) store_schema.tables
apart = ((λ e. omega (arith, e), (λ e. omega (arith, e), (λ e. omega (arith, e), (λ e. omega (arith, e), (λ e. omega (arith, e), (λ e. omega (arith, e), (λ e. omega (arith, e), tt))))))), ((λ e. omega (arith, e), (λ e. omega (arith, e), (λ e. omega (arith, e), (λ e. omega (arith, e), (λ e. omega (arith, e), (λ e. omega (arith, e), tt)))))), ((λ e. omega (arith, e), (λ e. omega (arith, e), (λ e. omega (arith, e), (λ e. omega (arith, e), (λ e. omega (arith, e), tt))))), ((λ e. omega (arith, e), (λ e. omega (arith, e), (λ e. omega (arith, e), (λ e. omega (arith, e), tt)))), ((λ e. omega (arith, e), (λ e. omega (arith, e), (λ e. omega (arith, e), tt))), ((λ e. omega (arith, e), (λ e. omega (arith, e), tt)), ((λ e. omega (arith, e), tt), (tt, tt))))))))

pub refers : (among : Among) (db : Trees) → Refers among store_schema db
refers among db = (all_of _ (λ r. refl) (db 0), (all_of _ (λ r. refl) (db 1), (all_of _ (λ r. refl) (db 3), (all_of _ (λ r. refl) (db 5), (all_of _ (λ r. refl) (db 7), (all_of _ (λ r. refl) (db 9), (all_of _ (λ r. refl) (db 11), (all_of _ (λ r. refl) (db 13), tt))))))))

module _ (db : Trees) (sound : IsSound store_schema db) (table : Table) (listed : Has store_schema.tables table) (unique : (new : Trees) → are_unique store_schema.indexes new table [] ≡ true) (ids : List ℤ) where
  abbrev gone : Edit
  gone = edit_of db table ids Given 0 []

  here : (rows : List Row) → with_tree db table.tree rows table.tree ≡ rows
  here rows = rw (eq-eqb table.tree table.tree refl) refl

  delete_turns : Turns store_schema db (with_tree db table.tree (edited db gone)) table (without_all (db table.tree) ids) (db table.tree) []
  delete_turns = record {
    apart = apart;
    listed = listed;
    others = λ t known other. rw (ne_eqb t.tree table.tree other) refl;
    from = λ r h. inr (subst (λ l. Has l r) (here _) h);
    stays = λ r h. subst (λ l. Has l r) (sym (here _)) h;
    added = λ r h. absurd h;
    was = λ r h. without_all_has ids (db table.tree) r h;
    split = λ r h. inr h;
  }

  or_true : (b : Bool) → (not b || true) ≡ true
  or_true true = refl
  or_true false = refl

  never_refused : (why : Refusal) → ¬ IsRefused store_schema Enforced db gone why
  never_refused (Violates Datatype) h = true≢false h
  never_refused (Violates NotNull) h = true≢false h
  never_refused (Violates Check) h = true≢false h
  never_refused (Violates PrimaryKey) h = true≢false h
  never_refused (Violates Unique) h = h (unique_kept store_schema db (with_tree db table.tree (edited db gone)) table _ _ [] delete_turns (unique (with_tree db table.tree (edited db gone))) (sound.obeys.rules Unique))
  never_refused (Violates ForeignKey) h = h
  never_refused Mismatch h = true≢false h
  never_refused NoRowid h = true≢false h
  never_refused BadReference h = true≢false (sym (or_true (nat_lt 0 (length ids))) ∙ h)
  never_refused TooDeep h = h

  never_fails : (why : Option Refusal) → ¬ Writes store_schema Enforced db gone (Err why)
  never_fails why (inl refused) = never_refused refused.0 refused.1
  never_fails why (inr (inl big)) = big.1
  never_fails why (inr (inr went)) = never_leads went.2.0 went.0 why went.2.1

-- a DELETE of an open store's rows is refused only by what lies outside it
module _ (old new : State) (sql : List ℕ) (params : Row) (at : ℕ) (table : Table) (terms : List Term) where
  abbrev the_query : Query
  the_query = table_query table.tree terms (0 ∷ []) []

  queried : IsTyped the_query params → (trees : Trees) (stop : Option Error) → Queried old.step_limit (record { schema = store_schema; trees = trees }) (record { lets = []; body = the_query }) params (Err stop) → IsSome old.step_limit
  queried typed trees None h = absurd h
  queried typed trees (Some e) h = table_limited table.tree terms (0 ∷ []) [] no_limit no_offset params typed old.step_limit (record { schema = store_schema; trees = trees }) e refl h

  delete_limited : (e : Error) → old.now.schema ≡ store_schema → IsDatabase old.now → slice_get store_schema.tables at ≡ Some table → Has store_schema.tables table → ((new : Trees) → are_unique store_schema.indexes new table [] ≡ true) → IsTyped the_query params
      → CantDo e old params (Delete at (record { lets = []; body = the_query })) → IsSome old.step_limit
  delete_limited e has kept found listed unique typed (text, stop, told, does) =
      let db = old.now.trees in
      let command = Delete at (record { lets = []; body = the_query }) in
      let sound : IsSound store_schema db = subst (λ c. IsSound c db) has kept in
      let task : Task = record { limit = old.step_limit; keys = (mode_of old).keys; schema = store_schema; table = table; params = params } in
      let begun = subst (λ c. Does old.step_limit (mode_of old) params (record old.now { schema = c }) text None command (Err stop)) has does in
      let on : OnRows task (mode_of old) None command db (Err stop) = subst (λ o. AtPlace (λ t. OnRows (record task { table = t }) (mode_of old) None command db) o (Err stop)) found begun in
      elim on [
        | inl writes ↦ elim writes.1 [
          | inl asked ↦ queried typed db asked.0 asked.1
          | inr asked ↦ absurd (elim asked.2 [
            | inl wrote ↦ never_fails db sound table listed unique (ids_of asked.0) wrote.1.0 wrote.1.1
            | inr wrote ↦ (let e = wrote.2 in cc)
          ])
        ]
        | inr wrote ↦ absurd (elim wrote.2 [
          | inl tested ↦ tested.1.0 (refers (due (mode_of old)) wrote.0.trees)
          | inr tested ↦ elim tested.2 [
            | inl shown ↦ (let e = shown.1 in cc)
            | inr shown ↦ (let e = shown.2 in cc)
          ]
        ])
      ]

  -- the tables of a store, whatever `meta` has
  pub delete_blamed_in : command_of (understood store_schema sql) ≡ Delete at (record { lets = []; body = the_query }) → IsPlain (understood store_schema sql) → is_whole sql (length params) (understood store_schema sql) ≡ true
      → slice_get store_schema.tables at ≡ Some table → Has store_schema.tables table → ((new : Trees) → are_unique store_schema.indexes new table [] ≡ true) → IsTyped the_query params
      → (IsTrue old.is_open → (old.now.schema ≡ store_schema) × IsDatabase old.now) → (e : Error) → e ≢ SqliteFailure code.OutOfMemory → ExecutesInside 0 sql params old new (Err e) → IsBlamed old new
  delete_blamed_in is plain whole found listed unique typed store e other ran = unless_shut old new (λ blamed. blamed) (λ is_open.
      let kept = store is_open in
      elim (write_refused old new sql params kept.0 (Delete at (record { lets = []; body = the_query })) is plain whole tt refl e other ran)
      [ inl blamed ↦ blamed | inr cant ↦ inr (inr (delete_limited e kept.0 kept.1 found listed unique typed cant)) ])

  pub delete_blamed : command_of (understood store_schema sql) ≡ Delete at (record { lets = []; body = the_query }) → IsPlain (understood store_schema sql) → is_whole sql (length params) (understood store_schema sql) ≡ true
      → slice_get store_schema.tables at ≡ Some table → Has store_schema.tables table → ((new : Trees) → are_unique store_schema.indexes new table [] ≡ true) → IsTyped the_query params → RunOnlyBlamed old new sql params
  delete_blamed is plain whole found listed unique typed store (e, other, ran) =
      delete_blamed_in is plain whole found listed unique typed (λ is_open. let kept = store is_open in (kept.schema, kept.sound)) e other ran

-- ---- how tables grow

pub wrote_grown : (tree count : ℕ) (old new : State) (rows : List Row) → Wrote tree old new rows → IsGrown count (old.now.trees tree) rows → AreGrown count old.now.trees new.now.trees
wrote_grown tree count old new rows wrote grown =
    let o = wrote.others in (go 3 o.1.1.0, (go 5 o.1.1.1.0, (go 7 o.1.1.1.1.0, (go 9 o.1.1.1.1.1.0, (go 11 o.1.1.1.1.1.1.0, (go 13 o.1.1.1.1.1.1.1.0, tt))))))
  where
    go : (t : ℕ) → (t ≢ tree → new.now.trees t ≡ old.now.trees t) → IsGrown count (old.now.trees t) (new.now.trees t)
    go t other = by (nat_eq t tree) refl
      where
        by : (b : Bool) → nat_eq t tree ≡ b → IsGrown count (old.now.trees t) (new.now.trees t)
        by true e = subst (λ n. IsGrown count (old.now.trees n) (new.now.trees n)) (sym (eqb-true t tree e)) (subst (IsGrown count (old.now.trees tree)) (sym wrote.written) grown)
        by false e = grown_same count _ _ (other (eqb-false t tree e))

-- the other tables keep their rows
pub rest_of : (tree : ℕ) (old new : Trees) → KeepsOthers tree old new → KeepsRest tree old new
rest_of tree old new o = (o.1.1.0, (o.1.1.1.0, (o.1.1.1.1.0, (o.1.1.1.1.1.0, (o.1.1.1.1.1.1.0, (o.1.1.1.1.1.1.1.0, tt))))))

pub rest_then : (tree : ℕ) (a b c : Trees) → KeepsRest tree a b → KeepsRest tree b c → KeepsRest tree a c
rest_then tree a b c = all_both (λ t. t ≢ tree → b t ≡ a t) (λ t. t ≢ tree → c t ≡ b t) (λ t. t ≢ tree → c t ≡ a t) (λ t one two other. two other ∙ one other) chosen_trees

-- ---- the deletions

module _ {S : Type 0} (g : Ghosts S) {K X : Type 0} {P : Row → Type 0} (t : StoreTable K X P) (terms : List Term) (text : List ℕ) (params : Row) (p : K → Bool) (means : IsDeletion t.at t.table.tree terms text (length params)) where
  takes : IsTyped (table_query t.table.tree terms (0 ∷ []) []) params → ((r : Row) → P r → list_all (holds (params ∷ r ∷ [])) terms ≡ p (t.entry r).0)
      → TakesRows g text params t.table.tree (λ v. t.with_rows (where_key t.cmp (λ k. not (p k)) (t.rows v)) v)
  takes typed tests = record {
    done = λ old new count kept ran.
        let from = state g old in
        let to = state g new in
        let own = t.own from.now.trees kept.numbered in
        let wrote = deletes from to text params t.at (bare_table t.table) terms count kept.schema means.is means.plain t.found (no_overlay from.now.trees t.table.tree) own ran.0 in (
          deleted from to kept ran.1 t params terms p tests wrote,
          wrote_grown t.table.tree 0 from to _ wrote (grown_filter (λ r. not (list_all (holds (params ∷ r ∷ [])) terms)) (from.now.trees t.table.tree) own.1),
          rest_of t.table.tree from.now.trees to.now.trees wrote.others,
        );
    refused = λ old new. delete_blamed (state g old) (state g new) text params t.at (bare_table t.table) terms means.is means.plain means.whole t.found t.listed t.unique typed;
  }

reaches : (v : Value) (s t : List ℕ) → v ≡ Text s → is_true (binary (Compare Ge Binary) v (Text t)) ≡ is_le (name_cmp t s)
reaches v s t is = ap (λ w. is_true (binary (Compare Ge Binary) w (Text t))) is ∙ at_texts false Ge s t

module _ {S : Type 0} (g : Ghosts S) where
  pub drop_name : (tab : ℤ) → TakesRows g (codes "DELETE FROM tab WHERE id = ?1") (Int tab ∷ []) 1 (without_name tab)
  unfolding understood everything
  drop_name tab = takes g tables.names (is_param 0 0 ∷ []) _ (Int tab ∷ []) (λ k. int_eq tab k) (record { is = refl; plain = (refl, refl); whole = refl }) (λ db has no. true≢false (rw has at no)) (λ r h. last_term (turned _ _ _ _ h.id refl))

  pub drop_columns : (tab : ℤ) → TakesRows g (codes "DELETE FROM col WHERE tab = ?1") (Int tab ∷ []) 3 (without_columns tab)
  unfolding understood everything
  drop_columns tab = takes g tables.columns (is_param 1 0 ∷ []) _ (Int tab ∷ []) (λ k. int_eq tab k.0) (record { is = refl; plain = (refl, refl); whole = refl }) (λ db has no. true≢false (rw has at no)) (λ r h. last_term (turned _ _ _ _ h.tab refl))

  pub drop_skips : (tab : ℤ) → TakesRows g (codes "DELETE FROM skip WHERE tab = ?1") (Int tab ∷ []) 13 (without_skips tab)
  unfolding understood everything
  drop_skips tab = takes g tables.skipped (is_param 1 0 ∷ []) _ (Int tab ∷ []) (λ k. int_eq tab k.0) (record { is = refl; plain = (refl, refl); whole = refl }) (λ db has no. true≢false (rw has at no)) (λ r h. last_term (turned _ _ _ _ h.tab refl))

  pub drop_contents : (tab : ℤ) → TakesRows g (codes "DELETE FROM cell WHERE tab = ?1") (Int tab ∷ []) 5 (without_contents tab)
  unfolding understood everything
  drop_contents tab = takes g tables.cells (is_param 1 0 ∷ []) _ (Int tab ∷ []) (λ k. int_eq tab k.0) (record { is = refl; plain = (refl, refl); whole = refl }) (λ db has no. true≢false (rw has at no)) (λ r h. last_term (turned _ _ _ _ h.tab refl))

  pub drop_lists : (tab : ℤ) → TakesRows g (codes "DELETE FROM posting WHERE tab = ?1") (Int tab ∷ []) 7 (without_lists tab)
  unfolding understood everything
  drop_lists tab = takes g tables.lists (is_param 1 0 ∷ []) _ (Int tab ∷ []) (λ k. int_eq tab k.0) (record { is = refl; plain = (refl, refl); whole = refl }) (λ db has no. true≢false (rw has at no)) (λ r h. last_term (turned _ _ _ _ h.tab refl))

  pub drop_sizes : (tab : ℤ) → TakesRows g (codes "DELETE FROM sizes WHERE tab = ?1") (Int tab ∷ []) 9 (without_sizes tab)
  unfolding understood everything
  drop_sizes tab = takes g tables.sizes (is_param 1 0 ∷ []) _ (Int tab ∷ []) (λ k. int_eq tab k.0) (record { is = refl; plain = (refl, refl); whole = refl }) (λ db has no. true≢false (rw has at no)) (λ r h. last_term (turned _ _ _ _ h.tab refl))

  pub drop_column : (tab : ℤ) (at : ℤ) → TakesRows g drop_column_text (Int tab ∷ Int at ∷ []) 3 (λ v. record v { columns = without_key column_key_cmp (tab, at) v.columns })
  unfolding understood everything
  drop_column tab at = takes g tables.columns (is_param 1 0 ∷ is_param 2 1 ∷ []) _ (Int tab ∷ Int at ∷ []) (λ k. eq_by_cmp column_key_cmp (tab, at) k) (record { is = refl; plain = (refl, refl); whole = refl }) (λ db has no. true≢false (rw has at no)) (λ r h. then_tie _ _ (turned _ _ _ _ h.tab refl) (last_term (turned _ _ _ _ h.at refl)))

  pub drop_skip : (tab : ℤ) (at : ℤ) → TakesRows g drop_skip_text (Int tab ∷ Int at ∷ []) 13 (λ v. record v { skipped = without_key column_key_cmp (tab, at) v.skipped })
  unfolding understood everything
  drop_skip tab at = takes g tables.skipped (is_param 1 0 ∷ is_param 2 1 ∷ []) _ (Int tab ∷ Int at ∷ []) (λ k. eq_by_cmp column_key_cmp (tab, at) k) (record { is = refl; plain = (refl, refl); whole = refl }) (λ db has no. true≢false (rw has at no)) (λ r h. then_tie _ _ (turned _ _ _ _ h.tab refl) (last_term (turned _ _ _ _ h.at refl)))

  pub drop_cells : (tab : ℤ) (docid : ℤ) → TakesRows g (codes "DELETE FROM cell WHERE tab = ?1 AND docid = ?2") (Int tab ∷ Int docid ∷ []) 5 (λ v. record v { cells = where_key cell_key_cmp (λ k. not (int_eq tab k.0 && int_eq docid k.1)) v.cells })
  unfolding understood everything
  drop_cells tab docid = takes g tables.cells (is_param 1 0 ∷ is_param 2 1 ∷ []) _ (Int tab ∷ Int docid ∷ []) (λ k. int_eq tab k.0 && int_eq docid k.1) (record { is = refl; plain = (refl, refl); whole = refl }) (λ db has no. true≢false (rw has at no)) (λ r h. then_term (turned _ _ _ _ h.tab refl) (last_term (turned _ _ _ _ h.docid refl)))

  pub drop_cell : (tab : ℤ) (docid : ℤ) (at : ℤ) → TakesRows g drop_cell_text (Int tab ∷ Int docid ∷ Int at ∷ []) 5 (λ v. record v { cells = without_key cell_key_cmp (tab, docid, at) v.cells })
  unfolding understood everything
  drop_cell tab docid at = takes g tables.cells (is_param 1 0 ∷ is_param 2 1 ∷ is_param 3 2 ∷ []) _ (Int tab ∷ Int docid ∷ Int at ∷ []) (λ k. eq_by_cmp cell_key_cmp (tab, docid, at) k) (record { is = refl; plain = (refl, refl); whole = refl }) (λ db has no. true≢false (rw has at no)) (λ r h. then_tie _ _ (turned _ _ _ _ h.tab refl) (then_tie _ _ (turned _ _ _ _ h.docid refl) (last_term (turned _ _ _ _ h.at refl))))

  pub drop_size : (tab : ℤ) (docid : ℤ) (at : ℤ) → TakesRows g drop_size_text (Int tab ∷ Int docid ∷ Int at ∷ []) 9 (λ v. record v { sizes = without_key cell_key_cmp (tab, docid, at) v.sizes })
  unfolding understood everything
  drop_size tab docid at = takes g tables.sizes (is_param 1 0 ∷ is_param 2 1 ∷ is_param 3 2 ∷ []) _ (Int tab ∷ Int docid ∷ Int at ∷ []) (λ k. eq_by_cmp cell_key_cmp (tab, docid, at) k) (record { is = refl; plain = (refl, refl); whole = refl }) (λ db has no. true≢false (rw has at no)) (λ r h. then_tie _ _ (turned _ _ _ _ h.tab refl) (then_tie _ _ (turned _ _ _ _ h.docid refl) (last_term (turned _ _ _ _ h.at refl))))

  pub drop_list : (tab : ℤ) (term : List ℕ) (docid : ℤ) → TakesRows g drop_list_text (Int tab ∷ Text term ∷ Int docid ∷ []) 7 (λ v. record v { lists = without_key list_key_cmp (tab, term, docid) v.lists })
  unfolding understood everything
  drop_list tab term docid = takes g tables.lists (is_param 1 0 ∷ is_param 2 1 ∷ is_param 3 2 ∷ []) _ (Int tab ∷ Text term ∷ Int docid ∷ []) (λ k. eq_by_cmp list_key_cmp (tab, term, docid) k) (record { is = refl; plain = (refl, refl); whole = refl }) (λ db has no. true≢false (rw has at no)) (λ r h. then_tie _ _ (turned _ _ _ _ h.tab refl) (then_tie _ _ (turned_text _ _ _ _ h.term refl) (last_term (turned _ _ _ _ h.docid refl))))

  pub drop_lists_from : (tab : ℤ) (from : List ℕ) → TakesRows g (codes "DELETE FROM posting WHERE tab = ?1 AND term >= ?2") (Int tab ∷ Text from ∷ []) 7 (λ v. record v { lists = where_key list_key_cmp (λ k. not (int_eq tab k.0 && is_le (name_cmp from k.1))) v.lists })
  unfolding understood everything
  drop_lists_from tab from = takes g tables.lists (is_param 1 0 ∷ compares Ge 2 1 ∷ []) _ (Int tab ∷ Text from ∷ []) (λ k. int_eq tab k.0 && is_le (name_cmp from k.1)) (record { is = refl; plain = (refl, refl); whole = refl }) (λ db has no. true≢false (rw has at no)) (λ r h. then_term (turned _ _ _ _ h.tab refl) (last_term (reaches _ _ _ h.term)))

  pub drop_note : (name : List ℕ) → TakesRows g drop_note_text (Text name ∷ []) 11 (λ v. record v { noted = without_key name_cmp (without_case name) v.noted })
  unfolding understood everything
  drop_note name = takes g tables.noted (op2 (Compare Eq NoCase) (col 1 1) (col 0 0) ∷ []) _ (Text name ∷ []) (λ k. eq_by_cmp name_cmp (without_case name) k) (record { is = refl; plain = (refl, refl); whole = refl }) (λ db has no. true≢false (rw has at no)) (λ r h. last_term (turned_case _ _ _ _ h.name refl))
