-- by the table, the tests, and what the rows make where docids are read
use Rattle.std.proofs.Common.{rules, ℕ, true, false, zip, ◌≡◌, inl, inr, List, [], Bor, String, Option, None, Some, map, option_map, string_bytes, Err, Ok, Result, Vec, Global, refl, sym, ap, subst, ◌∙◌, arith, to_z-of_z, to_z, of_z, w64, FitsSigned}
use Rattle.ft_index.proofs.Common.{unwrap_or, HasCleanDisk, Ghosts, fault_of_read, AreInOrder, StoreState, shows, value_in, Fault, Value}
use Rattle.ft_index.proofs.Common.{RustTableInfo, Content, repeats_name, inserted_rows, listed_columns, TableInfo, bare_content, cells_of, column_of}
use Rattle.ft_index.proofs.Common.{insertion_of, texts_of, shown_info, IsSoundNamed, IsUnfit, Written, HasAll, WritesDocuments}
use Rattle.ft_index.proofs.Common.{PlansTo, WritesIn, Looks}
use Rattle.ft_documents.specs.declared.rewrite.Rewrite.{Rewrite}
use Rattle.ft_values.specs.declared.fault.Fault.TheVariants as faults
use Rattle.ft_commands.specs.Command as plain
use Rattle.ft_commands.specs.declared.command.Insertion.{Insertion}
use Rattle.ft_content.specs.Views.{last_docid}
use Rattle.ft_documents.specs.Inserted.{AreKnown, MakesDocuments}
use Rattle.ft_documents.proofs.{insert_deserves, known_from, last_read}
use Rattle.ft_index.proofs.InsertWrites.{due, made, news, is_write, tested_writes, tests_are, rows_are, writes}
use Rattle.ft_index.proofs.Doing.{rows_first, rows_then, outside_of, rows_in, err_of, over_sound}
use Rattle.ft_index.proofs.Writing.{plans_unfit, plans_failed, writes_do}
use Rattle.ft_index.proofs.NoStore.{rows_other}
use Rattle.ft_index.proofs.written.insert_written.Goals as goal
use Rattle.ft_index.proofs.written.insert_written.Goals.{After-made_documents}

-- the columns that are listed
listed_are : (o : Option (Bor (List (String Global)))) (q : Option (Vec (String Global) Global)) → option_map (λ (r : Bor (List (String Global))). r.now) o ≡ option_map (λ (v : Vec (String Global) Global). v.items) q →
    option_map (λ (r : Bor (List (String Global))). map string_bytes r.now) o ≡ option_map texts_of q
listed_are None None same = refl
listed_are None (Some v) same = absurd (let no = same in cc)
listed_are (Some r) None same = absurd (let no = same in cc)
listed_are (Some r) (Some v) same = ap (option_map (map string_bytes)) same

-- whether one is listed twice
twice_is : (o : Option (Bor (List (String Global)))) (none : Bor (List (String Global))) → none.now ≡ [] → repeats_name (unwrap_or (option_map (λ (x : Bor (List (String Global))). map string_bytes x.now) o) []) ≡ repeats_name (map string_bytes (unwrap_or o none).now)
twice_is None none is = sym (ap (λ ns. repeats_name (map string_bytes ns)) is)
twice_is (Some x) none is = refl

pub returns-then-repeats_name-clause-told : goal.returns-then-repeats_name-clause-told
returns-then-repeats_name-clause-told g c =
    let w = c.args.insertion.now in
    subst (λ (command : plain.Command). PlansTo g.S.Store (map shown_info c.args.tables.now) c.args.store.now c.args.store.now command (Err faults.DuplicateColumn)) (λ i. plain.Insert (string_bytes w.table) (listed_are c.as_deref-listed.result c.args.insertion.now.columns c.as_deref-listed.ensures.value i) (map cells_of w.rows.items))
    (λ up contents held.
    let columns = option_map (λ n. map string_bytes n.now) c.as_deref-listed.result in
    inr (insert_deserves contents (string_bytes w.table) columns (map cells_of w.rows.items) true (twice_is c.as_deref-listed.result _ refl ∙ sym (c.repeats_name.ensures ∙ ap (λ (r : Bor (List (String Global))). repeats_name (map string_bytes r.now)) c.unwrap_or.ensures) ∙ c.if-repeats_name.true)))

pub returns-in_err-table-clause-told : goal.returns-in_err-table-clause-told
returns-in_err-table-clause-told g c =
    subst (λ (command : plain.Command). WritesIn g.S.Store (map shown_info c.args.tables.now) c.args.store.now c.args.store.now command c.from_residual.result) (λ i. plain.Insert (c.as_str.ensures.value i) (listed_are c.as_deref-listed.result c.args.insertion.now.columns c.as_deref-listed.ensures.value i) (map cells_of (c.args.insertion.now.rows.items)))
    (
    let columns = option_map (λ n. map string_bytes n.now) c.as_deref-listed.result in
    let rows = map cells_of c.args.insertion.now.rows.items in
    let tables = map shown_info c.args.tables.now in
    let fault : Fault = c.in_err-table.field-0.0 in
    let is : c.from_residual.result ≡ Err fault = search rules in
    let unfit : IsUnfit tables c.as_str.result.now fault = c.in_err-table.ensures in
    let apart = twice_is c.as_deref-listed.result _ refl ∙ sym (c.repeats_name.ensures ∙ ap (λ (r : Bor (List (String Global))). repeats_name (map string_bytes r.now)) c.unwrap_or.ensures) ∙ c.if-repeats_name.false in
    let command = plain.Insert c.as_str.result.now columns rows in
    subst (λ (r : Result Written Fault). WritesIn g.S.Store tables c.args.store.now c.args.store.now command r) (sym is)
    (plans_unfit g.S.Store command c.as_str.result.now (λ table content. due columns rows content) (made columns rows) (news columns rows) (is_write columns rows c.as_str.result.now apart) c.args.store.now c.args.store.now tables fault unfit))

-- a fault of the table, or one from outside
fails : {S : Type 0} (g : Ghosts S) (w : Insertion) (listed : Option (Bor (List (String Global)))) (none : Bor (List (String Global))) (rows : List (Vec Value Global)) (info : RustTableInfo) (tables : List TableInfo) (old new : StoreState S) → AreInOrder (value_in g old) →
    option_map (λ (r : Bor (List (String Global))). r.now) listed ≡ option_map (λ (v : Vec (String Global) Global). v.items) w.columns → rows ≡ w.rows.items → none.now ≡ [] → repeats_name (map string_bytes (unwrap_or listed none).now) ≡ false →
    (text : List ℕ) → text ≡ string_bytes w.table → IsSoundNamed tables text (shown_info info) → (fault : Fault) (found : Result Written Fault) → found ≡ Err fault →
    ((content : Content) → HasAll g info.id (string_bytes info.name) (map column_of info.columns.items) old new content → WritesDocuments content (due (option_map (λ (r : Bor (List (String Global))). map string_bytes r.now) listed) (map cells_of rows) content) (made (option_map (λ (r : Bor (List (String Global))). map string_bytes r.now) listed) (map cells_of rows) content) (news (option_map (λ (r : Bor (List (String Global))). map string_bytes r.now) listed) (map cells_of rows) content) (Err fault)) →
    WritesIn g tables old new (insertion_of w) found
fails g w listed none rows info tables old new order same are is_none apart text is named fault found failed writes =
    let columns = option_map (λ (r : Bor (List (String Global))). map string_bytes r.now) listed in
    let cells = map cells_of rows in
    let name = string_bytes w.table in
    subst (λ (x : plain.Command). WritesIn g tables old new x found) (λ i. plain.Insert name (listed_are listed w.columns same i) (map cells_of (are i)))
    (plans_failed g (plain.Insert name columns cells) name (λ table content. due columns cells content) (made columns cells) (news columns cells) (is_write columns cells name (twice_is listed none is_none ∙ apart)) old new tables (shown_info info) order (subst (λ n. IsSoundNamed tables n (shown_info info)) is named) fault found failed writes)

pub returns-in_err-names-clause-told : goal.returns-in_err-names-clause-told
returns-in_err-names-clause-told g c = fails g.S.Store c.args.insertion.now c.as_deref-listed.result _ c.args.insertion.now.rows.items c.in_ok-table.table.now (map shown_info c.args.tables.now) c.args.store.now c.args.store.now c.is_in_order.ensures.order c.as_deref-listed.ensures.value refl refl (sym (c.repeats_name.ensures ∙ ap (λ (r : Bor (List (String Global))). repeats_name (map string_bytes r.now)) c.unwrap_or.ensures) ∙ c.if-repeats_name.false) _ c.as_str.ensures.value c.in_ok-table.ensures faults.Memory c.from_residual-in_err-names.result (search rules) (λ content has.
    inl (inr refl))

pub returns-in-Some-clause-told : goal.returns-in-Some-clause-told
returns-in-Some-clause-told g c = fails g.S.Store c.args.insertion.now c.as_deref-listed.result _ c.as_slice-rows.result.now c.in_ok-table.table.now (map shown_info c.args.tables.now) c.args.store.now c.args.store.now c.is_in_order.ensures.order c.as_deref-listed.ensures.value c.as_slice-rows.ensures.value refl (sym (c.repeats_name.ensures ∙ ap (λ (r : Bor (List (String Global))). repeats_name (map string_bytes r.now)) c.unwrap_or.ensures) ∙ c.if-repeats_name.false) _ c.as_str.ensures.value c.in_ok-table.ensures c.in-Some.fault (Err c.in-Some.fault) refl (λ content has.
    let columns = option_map (λ n. map string_bytes n.now) c.as_deref-listed.result in
    let rows = map cells_of c.as_slice-rows.result.now in
    let names = map (λ n. n.now) c.as_slice-names.result.now in
    let cols = c.as_slice-columns.result.now in
    let columns_are : content.columns ≡ map column_of cols = has.columns_are ∙ ap (map column_of) (sym c.as_slice-columns.ensures.value) in
    let those : names ≡ listed_columns (bare_content cols) columns = search rules in
    inr (tested_writes columns rows content c.in-Some.fault (tests_are columns rows content cols names (Some c.in-Some.fault) columns_are those (search rules))))

pub returns-in_err-last-clause-told : goal.returns-in_err-last-clause-told
returns-in_err-last-clause-told g c = fails g.S.Store c.args.insertion.now c.as_deref-listed.result _ c.as_slice-rows.result.now c.in_ok-table.table.now (map shown_info c.args.tables.now) c.args.store.now c.last_docid.new.self c.is_in_order.ensures.order c.as_deref-listed.ensures.value c.as_slice-rows.ensures.value refl (sym (c.repeats_name.ensures ∙ ap (λ (r : Bor (List (String Global))). repeats_name (map string_bytes r.now)) c.unwrap_or.ensures) ∙ c.if-repeats_name.false) _ c.as_str.ensures.value c.in_ok-table.ensures (fault_of_read c.in_err-last.field-0.0) c.from_residual-in_err-last.result (search rules) (λ content has.
    inl (outside_of c.in_err-last.field-0.0))

pub returns-in_err-stored-clause-told : goal.returns-in_err-stored-clause-told
returns-in_err-stored-clause-told g c = fails g.S.Store c.args.insertion.now c.as_deref-listed.result _ c.as_slice-rows.result.now c.in_ok-table.table.now (map shown_info c.args.tables.now) c.args.store.now c.stored_docids.new.store c.is_in_order.ensures.order c.as_deref-listed.ensures.value c.as_slice-rows.ensures.value refl (sym (c.repeats_name.ensures ∙ ap (λ (r : Bor (List (String Global))). repeats_name (map string_bytes r.now)) c.unwrap_or.ensures) ∙ c.if-repeats_name.false) _ c.as_str.ensures.value c.in_ok-table.ensures c.in_err-stored.field-0.0 c.from_residual-in_err-stored.result (search rules) (λ content has.
    inl c.in_err-stored.ensures.looks.cause)

-- the last docid and the docids that are given, as they are read
known_in : (g : _) (c : After-made_documents g) (content : Content) → HasAll g.S.Store c.in_ok-table.table.now.id (string_bytes c.in_ok-table.table.now.name) (map column_of c.in_ok-table.table.now.columns.items) c.args.store.now c.stored_docids.new.store content →
    (last_docid content.documents ≡ c.in_ok-last.last) × AreKnown content.documents (map (zip (map (λ n. n.now) c.as_slice-names.result.now)) (map cells_of c.as_slice-rows.result.now)) c.as_slice.result.now
known_in g c content has =
    let info : RustTableInfo = c.in_ok-table.table.now in
    let names = map (λ n. n.now) c.as_slice-names.result.now in
    let tab = to_z w64 (of_z w64 info.id) in
    let fits : FitsSigned w64 info.id = search rules in
    let old = c.args.store.now in
    let mid = c.last_docid.new.self in
    let new = c.stored_docids.new.store in
    let one : Looks g.S.Store old mid = record { kept = c.in_ok-last.ensures.read.kept; survives = c.in_ok-last.ensures.read.survives } in
    let two = c.in_ok-stored.ensures.looks.only in
    let rows = rows_in g.S.Store tab info.id (to_z-of_z fits) old new (string_bytes info.name) content has.has has.clean has.is_open in
    let first = rows_first g.S.Store old mid new one two tab content rows in
    let stored = c.in_ok-stored.ensures.found content (rows_then g.S.Store old mid new one two tab content rows) in (
      last_read tab (value_in g.S.Store old) first.name content first.is_content first.rows ∙ sym (c.in_ok-last.ensures.last first.clean),
      subst (AreKnown content.documents (map (zip names) (map cells_of c.as_slice-rows.result.now))) (sym (c.as_slice.ensures.value ∙ stored)) (known_from content.documents names cells_of c.as_slice-rows.result.now),
    )

-- what the rows make is what the command writes
written_in : (g : _) (c : After-made_documents g) (content : Content) → HasAll g.S.Store c.in_ok-table.table.now.id (string_bytes c.in_ok-table.table.now.name) (map column_of c.in_ok-table.table.now.columns.items) c.args.store.now c.stored_docids.new.store content → (result : Result (Vec Rewrite Global) Fault) →
    MakesDocuments content.documents (inserted_rows (map column_of c.as_slice-columns.result.now) (map (zip (map (λ n. n.now) c.as_slice-names.result.now)) (map cells_of c.as_slice-rows.result.now)) content.documents) result →
    WritesDocuments content (due (option_map (λ n. map string_bytes n.now) c.as_deref-listed.result) (map cells_of c.as_slice-rows.result.now) content) (made (option_map (λ n. map string_bytes n.now) c.as_deref-listed.result) (map cells_of c.as_slice-rows.result.now) content) (news (option_map (λ n. map string_bytes n.now) c.as_deref-listed.result) (map cells_of c.as_slice-rows.result.now) content) result
written_in g c content has result made_of =
    let columns = option_map (λ n. map string_bytes n.now) c.as_deref-listed.result in
    let rows = map cells_of c.as_slice-rows.result.now in
    let names = map (λ n. n.now) c.as_slice-names.result.now in
    let cols = c.as_slice-columns.result.now in
    let columns_are : content.columns ≡ map column_of cols = has.columns_are ∙ ap (map column_of) (sym c.as_slice-columns.ensures.value) in
    let those : names ≡ listed_columns (bare_content cols) columns = search rules in
    let tested = tests_are columns rows content cols names None columns_are those (search rules) in
    writes columns rows (string_bytes c.in_ok-table.table.now.name) content result has.has.is_content tested (rows_are columns rows content cols names result columns_are those made_of)

pub returns-in_err-rewrites-clause-told : goal.returns-in_err-rewrites-clause-told
returns-in_err-rewrites-clause-told g c = fails g.S.Store c.args.insertion.now c.as_deref-listed.result _ c.as_slice-rows.result.now c.in_ok-table.table.now (map shown_info c.args.tables.now) c.args.store.now c.stored_docids.new.store c.is_in_order.ensures.order c.as_deref-listed.ensures.value c.as_slice-rows.ensures.value refl (sym (c.repeats_name.ensures ∙ ap (λ (r : Bor (List (String Global))). repeats_name (map string_bytes r.now)) c.unwrap_or.ensures) ∙ c.if-repeats_name.false) _ c.as_str.ensures.value c.in_ok-table.ensures c.in_err-rewrites.field-0.0 c.from_residual-in_err-rewrites.result (search rules) (λ content has.
    let at = (goal.at.returns-in_err-rewrites-clause-told g c).After-made_documents in
    let known = known_in g at content has in
    written_in g at content has (Err c.in_err-rewrites.field-0.0) (c.in_err-rewrites.ensures content.documents has.has.is_content.rising known.0 known.1))

pub returns-in_err-stored-clause-looks : goal.returns-in_err-stored-clause-looks
returns-in_err-stored-clause-looks g c = record { only = search rules; live = search rules }

pub returns-in_err-rewrites-clause-looks : goal.returns-in_err-rewrites-clause-looks
returns-in_err-rewrites-clause-looks g c = record { only = search rules; live = search rules }

pub returns-clause-told : goal.returns-clause-told
returns-clause-told g c =
    let w = c.args.insertion.now in
    let columns = option_map (λ n. map string_bytes n.now) c.as_deref-listed.result in
    let rows = map cells_of c.as_slice-rows.result.now in
    let name = string_bytes w.table in
    let tables = map shown_info c.args.tables.now in
    let info : RustTableInfo = c.in_ok-table.table.now in
    let named : IsSoundNamed tables name (shown_info info) = subst (λ n. IsSoundNamed tables n (shown_info info)) c.as_str.ensures.value c.in_ok-table.ensures in
    let apart = twice_is c.as_deref-listed.result _ refl ∙ sym (c.repeats_name.ensures ∙ ap (λ (r : Bor (List (String Global))). repeats_name (map string_bytes r.now)) c.unwrap_or.ensures) ∙ c.if-repeats_name.false in
    let command = plain.Insert name columns rows in
    let rewrites = c.in_ok-rewrites.rewrites in
    let written : Written = record { table = c.in_ok-table.table; rewrites = rewrites } in
    subst (λ (x : plain.Command). WritesIn g.S.Store tables c.args.store.now c.stored_docids.new.store x (Ok written)) (λ i. plain.Insert name (listed_are c.as_deref-listed.result w.columns c.as_deref-listed.ensures.value i) (map cells_of (c.as_slice-rows.ensures.value i)))
    (writes_do g.S.Store command name (λ table content. due columns rows content) (made columns rows) (news columns rows) (is_write columns rows name apart) c.args.store.now c.stored_docids.new.store tables written c.is_in_order.ensures.order named (λ content has.
    let at = (goal.at.returns-clause-told g c).After-made_documents in
    let known = known_in g at content has in
    written_in g at content has (Ok rewrites) (c.in_ok-rewrites.ensures content.documents has.has.is_content.rising known.0 known.1)))

pub returns-clause-looks : goal.returns-clause-looks
returns-clause-looks g c = record { only = search rules; live = search rules }

pub returns-in_err-rewrites-clause-refused : goal.returns-in_err-rewrites-clause-refused
returns-in_err-rewrites-clause-refused g c = λ contents held clean told.
    let info : RustTableInfo = c.in_ok-table.table.now in
    let over = over_sound (value_in g.S.Store c.args.store.now) (map shown_info c.args.tables.now) contents c.as_str.result.now (shown_info info) c.is_in_order.ensures.order held c.in_ok-table.ensures in
    let middle : HasCleanDisk (shows g.S.Store c.last_docid.new.self) = omega (arith, c.in_ok-stored.ensures.looks.only.survives.clean, clean) in
    let has : HasAll g.S.Store info.id (string_bytes info.name) (map column_of info.columns.items) c.args.store.now c.stored_docids.new.store over.content = record { clean = clean; is_open = c.in_ok-stored.ensures.looks.live clean (c.in_ok-last.ensures.read.live middle); has = over.has; columns_are = over.columns_are } in
    let known = known_in g (goal.at.returns-in_err-rewrites-clause-refused g c).After-made_documents over.content has in
    let store = err_of c.from_residual-in_err-rewrites.result c.in_err-rewrites.field-0.0 (search rules) told in
    elim (c.in_err-rewrites.ensures over.content.documents over.has.is_content.rising known.0 known.1) [
      | inl memory ↦ absurd (let no = sym memory ∙ store in cc)
      | inr failed ↦ absurd (rows_other _ _ _ (failed ∙ ap Err store))
    ]
