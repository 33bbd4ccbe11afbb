-- by the table, the tests, and the documents that are chosen
use Rattle.std.proofs.Common.{rules, ℕ, List, ◌≡◌, ◌≢◌, inl, inr, map, string_bytes, Err, Some, None, Result, refl, sym, ap, subst, ◌∙◌, to_z-of_z, to_z, of_z, w64, FitsSigned}
use Rattle.ft_index.proofs.Common.{tree_of, Fault, RustTableInfo, delete_tests, query_fault, TableInfo, bare_content, column_of, filter_of}
use Rattle.ft_index.proofs.Common.{deletion_of, shown_info, IsSoundNamed, IsUnfit, removal, Written, HasAll, WritesDocuments, WritesIn, LeadsTo}
use Rattle.ft_index.proofs.Common.{Ghosts, AreInOrder, StoreState, value_in, Content}
use Rattle.ft_values.specs.declared.fault.Fault.TheVariants as faults
use Rattle.ft_index.proofs.DeleteWrites.{due, made, gone, is_write, leads, tested_due, text_due, none_due}
use Rattle.ft_index.proofs.Writing.{plans_unfit, plans_failed, writes_do}
use Rattle.ft_index.proofs.SelectAnswers.{reads_passed}
use Rattle.ft_commands.specs.declared.command.Deletion.{Deletion}
use Rattle.ft_index.proofs.Doing.{rows_in, index_in, over_sound, has_at}
use Rattle.ft_index.proofs.written.delete_written.Goals as goal

pub returns-in_err-table-clause-told : goal.returns-in_err-table-clause-told
returns-in_err-table-clause-told g c =
    let deletion = c.args.deletion.now in
    let f = filter_of deletion.filter in
    let name = string_bytes deletion.table in
    let tables = map shown_info c.args.tables.now in
    let fault : Fault = c.in_err-table.field-0.0 in
    let is : c.from_residual.result ≡ Err fault = search rules in
    let unfit : IsUnfit tables name fault = subst (λ n. IsUnfit tables n fault) c.as_str.ensures.value c.in_err-table.ensures in
    subst (λ (r : Result Written Fault). WritesIn g.S.Store tables c.args.store.now c.args.store.now (deletion_of deletion) r) (sym is)
    (plans_unfit g.S.Store (deletion_of deletion) name (due f) (made f) (gone f) (is_write f name) c.args.store.now c.args.store.now tables fault unfit)

-- a fault of the table, or one from outside
fails : {S : Type 0} (g : Ghosts S) (w : Deletion) (info : RustTableInfo) (tables : List TableInfo) (old new : StoreState S) → AreInOrder (value_in g old) → (text : List ℕ) → text ≡ string_bytes w.table → IsSoundNamed tables text (shown_info info) → (fault : Fault) (found : Result Written Fault) → found ≡ Err fault →
    ((content : Content) → HasAll g info.id (string_bytes info.name) (map column_of info.columns.items) old new content → WritesDocuments content (due (filter_of w.filter) (string_bytes info.name) content) (made (filter_of w.filter) content) (gone (filter_of w.filter) content) (Err fault)) → WritesIn g tables old new (deletion_of w) found
fails g w info tables old new order text is named fault found failed writes =
    let f = filter_of w.filter in
    let name = string_bytes w.table in
    plans_failed g (deletion_of w) name (due f) (made f) (gone f) (is_write f name) old new tables (shown_info info) order (subst (λ n. IsSoundNamed tables n (shown_info info)) is named) fault found failed writes

pub returns-in-Some-clause-told : goal.returns-in-Some-clause-told
returns-in-Some-clause-told g c = fails g.S.Store c.args.deletion.now c.in_ok-table.table.now (map shown_info c.args.tables.now) c.args.store.now c.args.store.now c.is_in_order.ensures.order _ c.as_str.ensures.value c.in_ok-table.ensures c.in-Some.fault (Err c.in-Some.fault) refl (λ content has.
    let f = filter_of c.args.deletion.now.filter in
    let cols = c.as_slice-columns.result.now in
    let columns_are : content.columns ≡ map column_of cols = has.columns_are ∙ ap (map column_of) (sym c.as_slice-columns.ensures.value) in
    let tested : delete_tests c.as_str-2.result.now (bare_content cols) f ≡ Some c.in-Some.fault = search rules in
    inr (subst (λ n. due f n content ≡ Some c.in-Some.fault) c.as_str-2.ensures.value (tested_due f content cols columns_are c.as_str-2.result.now c.in-Some.fault tested)))

pub returns-in_err-query-clause-told : goal.returns-in_err-query-clause-told
returns-in_err-query-clause-told g c = fails g.S.Store c.args.deletion.now c.in_ok-table.table.now (map shown_info c.args.tables.now) c.args.store.now c.args.store.now c.is_in_order.ensures.order _ c.as_str.ensures.value c.in_ok-table.ensures c.in_err-query.field-0.0 c.from_residual-in_err-query.result (search rules) (λ content has.
    let f = filter_of c.args.deletion.now.filter in
    let fault : Fault = c.in_err-query.field-0.0 in
    let cols = c.as_slice-columns.result.now in
    let columns_are : content.columns ≡ map column_of cols = has.columns_are ∙ ap (map column_of) (sym c.as_slice-columns.ensures.value) in
    let tested : delete_tests c.as_str-2.result.now (bare_content cols) f ≡ None = search rules in
    let refused : fault ≢ faults.Memory → query_fault (bare_content cols) f ≡ Some fault = search rules in
    subst (λ n. WritesDocuments content (due f n content) (made f content) (gone f content) (Err fault)) c.as_str-2.ensures.value (text_due f content cols columns_are c.as_str-2.result.now fault tested refused))

pub returns-in_err-documents-clause-told : goal.returns-in_err-documents-clause-told
returns-in_err-documents-clause-told g c = fails g.S.Store c.args.deletion.now c.in_ok-table.table.now (map shown_info c.args.tables.now) c.args.store.now c.chosen_documents.new.store c.is_in_order.ensures.order _ c.as_str.ensures.value c.in_ok-table.ensures c.in_err-documents.field-0.0 c.from_residual-in_err-documents.result (search rules) (λ content has.
    inl c.in_err-documents.ensures.looks.cause)

pub returns-in_err-rewrites-clause-told : goal.returns-in_err-rewrites-clause-told
returns-in_err-rewrites-clause-told g c = fails g.S.Store c.args.deletion.now c.in_ok-table.table.now (map shown_info c.args.tables.now) c.args.store.now c.chosen_documents.new.store c.is_in_order.ensures.order _ c.as_str.ensures.value c.in_ok-table.ensures faults.Memory c.from_residual-in_err-rewrites.result (search rules) (λ content has.
    inl (inr refl))

pub returns-clause-told : goal.returns-clause-told
returns-clause-told g c =
    let deletion = c.args.deletion.now in
    let f = filter_of deletion.filter in
    let name = string_bytes deletion.table in
    let info : RustTableInfo = c.in_ok-table.table.now in
    let named : IsSoundNamed (map shown_info c.args.tables.now) name (shown_info info) = subst (λ n. IsSoundNamed (map shown_info c.args.tables.now) n (shown_info info)) c.as_str.ensures.value c.in_ok-table.ensures in
    writes_do g.S.Store (deletion_of deletion) name (due f) (made f) (gone f) (is_write f name) c.args.store.now c.chosen_documents.new.store (map shown_info c.args.tables.now) (record { table = c.in_ok-table.table; rewrites = c.in_ok-rewrites.rewrites }) c.is_in_order.ensures.order named (λ content has.
    let cols = c.as_slice-columns.result.now in
    let columns_are : content.columns ≡ map column_of cols = has.columns_are ∙ ap (map column_of) (sym c.as_slice-columns.ensures.value) in
    let tested : delete_tests c.as_str-2.result.now (bare_content cols) f ≡ None = search rules in
    let fine : query_fault (bare_content cols) f ≡ None = search rules in
    let fits : FitsSigned w64 info.id = search rules in
    let tab = to_z w64 (of_z w64 info.id) in
    let rows = rows_in g.S.Store tab info.id (to_z-of_z fits) c.args.store.now c.chosen_documents.new.store (string_bytes info.name) content has.has has.clean has.is_open in
    let index = index_in g.S.Store tab info.id (to_z-of_z fits) c.args.store.now c.chosen_documents.new.store (string_bytes info.name) content has.has has.clean has.is_open in
    let found = c.in_ok-documents.ensures.told content rows index (reads_passed tree_of cols content f c.as_ref.result c.in_ok-query.query c.as_ref.ensures.value columns_are (search rules)) in (
      subst (λ n. due f n content ≡ None) c.as_str-2.ensures.value (none_due f content cols columns_are c.as_str-2.result.now tested fine),
      subst (LeadsTo content (made f content) (gone f content)) (sym (c.in_ok-rewrites.ensures ∙ ap (map removal) found)) (leads f (string_bytes info.name) content has.has.is_content),
    ))

pub returns-in_err-documents-clause-refused : goal.returns-in_err-documents-clause-refused
returns-in_err-documents-clause-refused g c = λ contents held clean told.
    let info : RustTableInfo = c.in_ok-table.table.now in
    let over = over_sound (value_in g.S.Store c.args.store.now) (map shown_info c.args.tables.now) contents c.as_str.result.now (shown_info info) c.is_in_order.ensures.order held c.in_ok-table.ensures in
    let fits : FitsSigned w64 info.id = search rules in
    let cols = c.as_slice-columns.result.now in
    let reads = reads_passed tree_of cols over.content (filter_of c.args.deletion.now.filter) c.as_ref.result c.in_ok-query.query c.as_ref.ensures.value (over.columns_are ∙ ap (map column_of) (sym c.as_slice-columns.ensures.value)) (search rules) in
    c.chosen_documents.ensures.refused (string_bytes info.name) over.content (has_at refl (sym (to_z-of_z fits)) over.has) reads clean (search rules)
