-- by the table, the tests, the documents that are chosen, and where one may go
use Rattle.std.proofs.Common.{rules, ℕ, String, Bool, false, ◌≡◌, ◌≢◌, inl, inr, ℤ, List, map, string_bytes, Ok, Err, Some, None, Result, Vec, Global, refl, sym, ap, subst, ◌∙◌, to_z-of_z, to_z, of_z, w64, FitsSigned, slice_get, IfOk, IfSome}
use Rattle.ft_index.proofs.Common.{map-map, YieldsList-from_map, YieldsList-from_slice, items_from_collect, Ghosts, tree_of, AreInOrder, StoreState}
use Rattle.ft_index.proofs.Common.{value_in, Cell, Value, Fault, RustTableInfo, Column, Content, Documents, repeats_name, chosen, update_tests}
use Rattle.ft_index.proofs.Common.{query_fault, moves_fault, docids_named, has_docid, TableInfo, bare_content, column_of, set_of, filter_of}
use Rattle.ft_index.proofs.Common.{modification_of, shown_info, Document, IsSoundNamed, IsUnfit, shown_document, shown_rewrite, Written, HasAll}
use Rattle.ft_index.proofs.Common.{WritesDocuments, PlansTo, WritesIn}
use Rattle.std.specs.declared.alloc.AllocError.{AllocError}
use Rattle.ft_values.specs.declared.fault.Fault.TheVariants as faults
use Rattle.ft_commands.specs.declared.command.Modification.{Modification}
use Rattle.ft_commands.specs.Command as plain
use Rattle.ft_content.proofs.{update_keeps_content}
use Rattle.ft_documents.specs.Gathered.{has_given}
use Rattle.ft_documents.specs.Updated.{changing, MayMove}
use Rattle.ft_index.proofs.Doing.{looks_then, rows_first, rows_then, index_first, rows_in, index_in, err_of, over_sound, has_at}
use Rattle.ft_index.proofs.Writing.{plans_unfit, plans_failed, writes_do}
use Rattle.ft_index.proofs.SelectAnswers.{reads_passed}
use Rattle.ft_index.proofs.UpdateWrites.{due, made, touches, is_write, repeats_due, tested_due, text_due, moves_due, leads}
use Rattle.ft_index.proofs.NoStore.{moved_other}
use Rattle.ft_index.proofs.written.update_written.Goals as goal
use Rattle.ft_index.proofs.written.update_written.Goals.{After-moves_fault}

pub returns-then-repeats_set-clause-told : goal.returns-then-repeats_set-clause-told
returns-then-repeats_set-clause-told g c =
    subst (λ (command : plain.Command). PlansTo g.S.Store (map shown_info c.args.tables.now) c.args.store.now c.args.store.now command (Err faults.DuplicateColumn)) (λ i. plain.Update (string_bytes c.args.modification.now.table) (map set_of (c.as_slice-sets.ensures.value i)) (filter_of c.args.modification.now.filter))
    (λ up contents held.
    let sets = map set_of c.as_slice-sets.result.now in
    let f = filter_of c.args.modification.now.filter in
    inr (repeats_due sets f (string_bytes c.args.modification.now.table) contents (sym c.repeats_set.ensures ∙ c.if-repeats_set.true)))

pub returns-in_err-table-clause-told : goal.returns-in_err-table-clause-told
returns-in_err-table-clause-told g c =
    subst (λ (command : plain.Command). WritesIn g.S.Store (map shown_info c.args.tables.now) c.args.store.now c.args.store.now command c.from_residual.result) (λ i. plain.Update (c.as_str.ensures.value i) (map set_of (c.as_slice-sets.ensures.value i)) (filter_of c.args.modification.now.filter))
    (
    let sets = map set_of c.as_slice-sets.result.now in
    let f = filter_of c.args.modification.now.filter in
    let tables = map shown_info c.args.tables.now in
    let fault : Fault = c.in_err-table.field-0.0 in
    let is : c.from_residual.result ≡ Err fault = search rules in
    let unfit : IsUnfit tables c.as_str.result.now fault = c.in_err-table.ensures in
    let apart = sym c.repeats_set.ensures ∙ c.if-repeats_set.false in
    let command = plain.Update c.as_str.result.now sets f in
    subst (λ (r : Result Written Fault). WritesIn g.S.Store tables c.args.store.now c.args.store.now command r) (sym is)
    (plans_unfit g.S.Store command c.as_str.result.now (due sets f) (made sets f) (touches sets f) (is_write sets f c.as_str.result.now apart) c.args.store.now c.args.store.now tables fault unfit))

-- a fault of the table, or one from outside
fails : {S : Type 0} (g : Ghosts S) (w : Modification) (sets : List (String Global × Value)) (info : RustTableInfo) (tables : List TableInfo) (old new : StoreState S) → AreInOrder (value_in g old) → sets ≡ w.sets.items → repeats_name (map (λ (s : List ℕ × Cell). s.0) (map set_of sets)) ≡ false →
    (text : List ℕ) → text ≡ string_bytes w.table → IsSoundNamed tables text (shown_info info) → (fault : Fault) (found : Result Written Fault) → found ≡ Err fault →
    ((content : Content) → HasAll g info.id (string_bytes info.name) (map column_of info.columns.items) old new content → WritesDocuments content (due (map set_of sets) (filter_of w.filter) (string_bytes info.name) content) (made (map set_of sets) (filter_of w.filter) content) (touches (map set_of sets) (filter_of w.filter) content) (Err fault)) →
    WritesIn g tables old new (modification_of w) found
fails g w sets info tables old new order same apart text is named fault found failed writes =
    let shown = map set_of sets in
    let f = filter_of w.filter in
    let name = string_bytes w.table in
    subst (λ (x : plain.Command). WritesIn g tables old new x found) (λ i. plain.Update name (map set_of (same i)) f)
    (plans_failed g (plain.Update name shown f) name (due shown f) (made shown f) (touches shown f) (is_write shown f name apart) old new tables (shown_info info) order (subst (λ n. IsSoundNamed tables n (shown_info info)) is named) fault found failed writes)

pub returns-in-Some-clause-told : goal.returns-in-Some-clause-told
returns-in-Some-clause-told g c = fails g.S.Store c.args.modification.now c.as_slice-sets.result.now c.in_ok-table.table.now (map shown_info c.args.tables.now) c.args.store.now c.args.store.now c.is_in_order.ensures.order c.as_slice-sets.ensures.value (sym c.repeats_set.ensures ∙ c.if-repeats_set.false) _ c.as_str.ensures.value c.in_ok-table.ensures c.in-Some.fault (Err c.in-Some.fault) refl (λ content has.
    let sets = map set_of c.as_slice-sets.result.now in
    let f = filter_of c.args.modification.now.filter in
    let cols = c.as_slice-columns.result.now in
    let columns_are : content.columns ≡ map column_of cols = has.columns_are ∙ ap (map column_of) (sym c.as_slice-columns.ensures.value) in
    let table = c.as_str-2.result.now in
    let tested : update_tests table (bare_content cols) sets f ≡ Some c.in-Some.fault = search rules in
    inr (subst (λ n. due sets f n content ≡ Some c.in-Some.fault) c.as_str-2.ensures.value (tested_due sets f content cols columns_are table c.in-Some.fault tested)))

pub returns-in_err-query-clause-told : goal.returns-in_err-query-clause-told
returns-in_err-query-clause-told g c = fails g.S.Store c.args.modification.now c.as_slice-sets.result.now c.in_ok-table.table.now (map shown_info c.args.tables.now) c.args.store.now c.args.store.now c.is_in_order.ensures.order c.as_slice-sets.ensures.value (sym c.repeats_set.ensures ∙ c.if-repeats_set.false) _ c.as_str.ensures.value c.in_ok-table.ensures c.in_err-query.field-0.0 c.from_residual-in_err-query.result (search rules) (λ content has.
    let sets = map set_of c.as_slice-sets.result.now in
    let f = filter_of c.args.modification.now.filter in
    let fault : Fault = c.in_err-query.field-0.0 in
    let cols = c.as_slice-columns.result.now in
    let columns_are : content.columns ≡ map column_of cols = has.columns_are ∙ ap (map column_of) (sym c.as_slice-columns.ensures.value) in
    let table = c.as_str-2.result.now in
    let tested : update_tests table (bare_content cols) sets f ≡ None = search rules in
    let refused : fault ≢ faults.Memory → query_fault (bare_content cols) f ≡ Some fault = search rules in
    subst (λ n. WritesDocuments content (due sets f n content) (made sets f content) (touches sets f content) (Err fault)) c.as_str-2.ensures.value (text_due sets f content cols columns_are table fault tested refused))

pub returns-in_err-documents-clause-told : goal.returns-in_err-documents-clause-told
returns-in_err-documents-clause-told g c = fails g.S.Store c.args.modification.now c.as_slice-sets.result.now c.in_ok-table.table.now (map shown_info c.args.tables.now) c.args.store.now c.chosen_documents.new.store c.is_in_order.ensures.order c.as_slice-sets.ensures.value (sym c.repeats_set.ensures ∙ c.if-repeats_set.false) _ c.as_str.ensures.value c.in_ok-table.ensures c.in_err-documents.field-0.0 c.from_residual-in_err-documents.result (search rules) (λ content has.
    inl c.in_err-documents.ensures.looks.cause)

pub returns-in_err-docids-clause-told : goal.returns-in_err-docids-clause-told
returns-in_err-docids-clause-told g c = fails g.S.Store c.args.modification.now c.as_slice-sets.result.now c.in_ok-table.table.now (map shown_info c.args.tables.now) c.args.store.now c.chosen_documents.new.store c.is_in_order.ensures.order c.as_slice-sets.ensures.value (sym c.repeats_set.ensures ∙ c.if-repeats_set.false) _ c.as_str.ensures.value c.in_ok-table.ensures faults.Memory c.from_residual-in_err-docids.result (search rules) (λ content has.
    inl (inr refl))

pub returns-in_err-is_taken-clause-told : goal.returns-in_err-is_taken-clause-told
returns-in_err-is_taken-clause-told g c = fails g.S.Store c.args.modification.now c.as_slice-sets.result.now c.in_ok-table.table.now (map shown_info c.args.tables.now) c.args.store.now c.has_document.new.store c.is_in_order.ensures.order c.as_slice-sets.ensures.value (sym c.repeats_set.ensures ∙ c.if-repeats_set.false) _ c.as_str.ensures.value c.in_ok-table.ensures c.in_err-is_taken.field-0.0 c.from_residual-in_err-is_taken.result (search rules) (λ content has.
    inl c.in_err-is_taken.ensures.looks.cause)

pub returns-in_err-is_taken-clause-looks : goal.returns-in_err-is_taken-clause-looks
returns-in_err-is_taken-clause-looks g c = record { only = looks_then g.S.Store c.args.store.now c.chosen_documents.new.store c.has_document.new.store c.in_ok-documents.ensures.looks.only c.has_document.ensures.looks.only c.in_ok-documents.ensures.looks.live; live = search rules }

-- the documents that are chosen, and what their moves deserve
moves_in : (g : _) (c : After-moves_fault g) (content : Content) → HasAll g.S.Store c.in_ok-table.table.now.id (string_bytes c.in_ok-table.table.now.name) (map column_of c.in_ok-table.table.now.columns.items) c.args.store.now c.has_document.new.store content →
    (map shown_document c.in_ok-documents.documents.items ≡ chosen content (filter_of c.args.modification.now.filter))
    × (moves_fault content.documents (chosen content (filter_of c.args.modification.now.filter)) (docids_named (map set_of c.as_slice-sets.result.now)) ≡ c.moves_fault.result)
    × (due (map set_of c.as_slice-sets.result.now) (filter_of c.args.modification.now.filter) (string_bytes c.in_ok-table.table.now.name) content ≡ c.moves_fault.result)
moves_in g c content has =
    let sets = map set_of c.as_slice-sets.result.now in
    let f = filter_of c.args.modification.now.filter in
    let info : RustTableInfo = c.in_ok-table.table.now in
    let cols = c.as_slice-columns.result.now in
    let columns_are : content.columns ≡ map column_of cols = has.columns_are ∙ ap (map column_of) (sym c.as_slice-columns.ensures.value) in
    let table = c.as_str-2.result.now in
    let tested : update_tests table (bare_content cols) sets f ≡ None = search rules in
    let fine : query_fault (bare_content cols) f ≡ None = search rules in
    let fits : FitsSigned w64 info.id = search rules in
    let same = to_z-of_z fits in
    let tab = to_z w64 (of_z w64 info.id) in
    let old = c.args.store.now in
    let mid = c.chosen_documents.new.store in
    let new = c.has_document.new.store in
    let rows = rows_in g.S.Store tab info.id same old new (string_bytes info.name) content has.has has.clean has.is_open in
    let index = index_in g.S.Store tab info.id same old new (string_bytes info.name) content has.has has.clean has.is_open in
    let one = c.in_ok-documents.ensures.looks.only in
    let two = c.has_document.ensures.looks.only in
    let documents = c.in_ok-documents.documents.items in
    let found = c.in_ok-documents.ensures.told content (rows_first g.S.Store old mid new one two tab content rows) (index_first g.S.Store old mid new one two tab content index) (reads_passed tree_of cols content f c.as_ref.result c.in_ok-query.query c.as_ref.ensures.value columns_are (search rules)) in
    let given : slice_get (docids_named sets) 0 ≡ c.set_docid-given.result = sym c.set_docid-given.ensures in
    let taken = c.in_ok-is_taken.ensures.found content (rows_then g.S.Store old mid new one two tab content rows) in
    let ok : c.collect.result ≡ Ok c.in_ok-docids.docids = search rules in
    let numbers : c.in_ok-docids.docids.items ≡ map (λ (d : Document). d.docid) c.deref.result.now =
    subst (λ (r : Result (Vec ℤ Global) AllocError). IfOk r (λ (v : Vec ℤ Global). v.items ≡ map (λ (d : Document). d.docid) c.deref.result.now)) ok
    (items_from_collect c.collect.result c.collect.ensures.ran (YieldsList-from_map _ (λ (d : Document). d.docid) (YieldsList-from_slice c.deref.result.now cc) c.map.ensures.closure (λ x r q k. search rules))) in
    let listed = map-map (λ (d : ℤ × List Cell). d.0) shown_document documents ∙ sym (c.as_slice.ensures.value ∙ numbers ∙ ap (map (λ (d : Document). d.docid)) c.deref.ensures.value) in
    let known = subst (λ (b : Bool). IfSome c.set_docid-given.result (λ docid. has_docid content.documents docid ≡ b)) (sym taken) (elim c.set_docid-given.result as (λ given. IfSome given (λ docid. has_docid content.documents docid ≡ has_given content.documents given)) [ None ↦ tt | Some docid ↦ refl ]) in
    let moved : moves_fault content.documents (chosen content f) (docids_named sets) ≡ c.moves_fault.result =
    ap (λ ds. moves_fault content.documents ds (docids_named sets)) (sym found) ∙ sym (c.moves_fault.ensures content.documents (map shown_document documents) (docids_named sets) listed given known) in (
      found,
      moved,
      subst (λ n. due sets f n content ≡ c.moves_fault.result) c.as_str-2.ensures.value (moves_due sets f content cols columns_are table tested fine ∙ moved),
    )

pub returns-in-Some-moves_fault-clause-told : goal.returns-in-Some-moves_fault-clause-told
returns-in-Some-moves_fault-clause-told g c = fails g.S.Store c.args.modification.now c.as_slice-sets.result.now c.in_ok-table.table.now (map shown_info c.args.tables.now) c.args.store.now c.has_document.new.store c.is_in_order.ensures.order c.as_slice-sets.ensures.value (sym c.repeats_set.ensures ∙ c.if-repeats_set.false) _ c.as_str.ensures.value c.in_ok-table.ensures c.in-Some-moves_fault.fault (Err c.in-Some-moves_fault.fault) refl (λ content has.
    inr ((moves_in g (goal.at.returns-in-Some-moves_fault-clause-told g c).After-moves_fault content has).2 ∙ c.in-Some-moves_fault.is))

pub returns-in-Some-moves_fault-clause-looks : goal.returns-in-Some-moves_fault-clause-looks
returns-in-Some-moves_fault-clause-looks g c = record { only = looks_then g.S.Store c.args.store.now c.chosen_documents.new.store c.has_document.new.store c.in_ok-documents.ensures.looks.only c.has_document.ensures.looks.only c.in_ok-documents.ensures.looks.live; live = search rules }

pub returns-in_err-rewrites-clause-told : goal.returns-in_err-rewrites-clause-told
returns-in_err-rewrites-clause-told g c = fails g.S.Store c.args.modification.now c.as_slice-sets.result.now c.in_ok-table.table.now (map shown_info c.args.tables.now) c.args.store.now c.has_document.new.store c.is_in_order.ensures.order c.as_slice-sets.ensures.value (sym c.repeats_set.ensures ∙ c.if-repeats_set.false) _ c.as_str.ensures.value c.in_ok-table.ensures faults.Memory c.from_residual-in_err-rewrites.result (search rules) (λ content has.
    inl (inr refl))

pub returns-in_err-rewrites-clause-looks : goal.returns-in_err-rewrites-clause-looks
returns-in_err-rewrites-clause-looks g c = record { only = looks_then g.S.Store c.args.store.now c.chosen_documents.new.store c.has_document.new.store c.in_ok-documents.ensures.looks.only c.has_document.ensures.looks.only c.in_ok-documents.ensures.looks.live; live = search rules }

pub returns-clause-told : goal.returns-clause-told
returns-clause-told g c =
    let modification = c.args.modification.now in
    let sets = map set_of c.as_slice-sets.result.now in
    let f = filter_of modification.filter in
    let name = string_bytes modification.table in
    let tables = map shown_info c.args.tables.now in
    let info : RustTableInfo = c.in_ok-table.table.now in
    let named : IsSoundNamed tables name (shown_info info) = subst (λ n. IsSoundNamed tables n (shown_info info)) c.as_str.ensures.value c.in_ok-table.ensures in
    let apart = sym c.repeats_set.ensures ∙ c.if-repeats_set.false in
    let written : Written = record { table = c.in_ok-table.table; rewrites = c.in_ok-rewrites.rewrites } in
    subst (λ (x : plain.Command). WritesIn g.S.Store tables c.args.store.now c.has_document.new.store x (Ok written)) (λ i. plain.Update name (map set_of (c.as_slice-sets.ensures.value i)) f)
    (writes_do g.S.Store (plain.Update name sets f) name (due sets f) (made sets f) (touches sets f) (is_write sets f name apart) c.args.store.now c.has_document.new.store tables written c.is_in_order.ensures.order named (λ content has.
    let m = moves_in g (goal.at.returns-clause-told g c).After-moves_fault content has in
    let stays = m.1 ∙ c.in_default-moves_fault.is in
    let none = m.2 ∙ c.in_default-moves_fault.is in
    let rewrites = map shown_rewrite c.in_ok-rewrites.rewrites.items in
    let moves = subst (λ o. MayMove o (map (changing sets content.columns) (chosen content f)) rewrites) c.set_docid-given.ensures
    (subst (λ (ds : Documents). MayMove c.set_docid-given.result (map (changing sets content.columns) ds) rewrites) m.0
    (subst (λ (cs : List Column). MayMove c.set_docid-given.result (map (changing sets cs) (map shown_document c.in_ok-documents.documents.items)) rewrites) (sym (has.columns_are ∙ ap (map column_of) (sym c.as_slice-columns.ensures.value))) c.in_ok-rewrites.ensures)) in
    (none, leads sets f (string_bytes info.name) content (docids_named sets) (chosen content f) rewrites (λ i. chosen content f) has.has.is_content stays (update_keeps_content (string_bytes info.name) content sets f has.has.is_content none) moves)))

pub returns-clause-looks : goal.returns-clause-looks
returns-clause-looks g c = record { only = looks_then g.S.Store c.args.store.now c.chosen_documents.new.store c.has_document.new.store c.in_ok-documents.ensures.looks.only c.has_document.ensures.looks.only c.in_ok-documents.ensures.looks.live; live = search rules }

pub returns-in_err-documents-clause-refused : goal.returns-in_err-documents-clause-refused
returns-in_err-documents-clause-refused g c = λ contents held clean told.
    let info : RustTableInfo = c.in_ok-table.table.now in
    let over = over_sound (value_in g.S.Store c.args.store.now) (map shown_info c.args.tables.now) contents c.as_str.result.now (shown_info info) c.is_in_order.ensures.order held c.in_ok-table.ensures in
    let fits : FitsSigned w64 info.id = search rules in
    let cols = c.as_slice-columns.result.now in
    let reads = reads_passed tree_of cols over.content (filter_of c.args.modification.now.filter) c.as_ref.result c.in_ok-query.query c.as_ref.ensures.value (over.columns_are ∙ ap (map column_of) (sym c.as_slice-columns.ensures.value)) (search rules) in
    c.chosen_documents.ensures.refused (string_bytes info.name) over.content (has_at refl (sym (to_z-of_z fits)) over.has) reads clean (search rules)

pub returns-in-Some-moves_fault-clause-refused : goal.returns-in-Some-moves_fault-clause-refused
returns-in-Some-moves_fault-clause-refused g c = λ contents held clean told.
    absurd (moved_other c.as_slice.result.now c.set_docid-given.result c.in_ok-is_taken.is_taken c.moves_fault.result c.moves_fault.ensures (c.in-Some-moves_fault.is ∙ ap Some (err_of _ c.in-Some-moves_fault.fault refl told)))
