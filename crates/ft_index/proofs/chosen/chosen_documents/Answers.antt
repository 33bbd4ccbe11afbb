-- by the kind of the filter
use Rattle.std.proofs.Common.{rules, ℕ, ◌*◌, length, ◌≡◌, ◌∙◌, ◌∷◌, ◌++◌, [], ℤ, false, None, Ok, Result, Vec, Global, Option, map, option_map, string_bytes, Bor, refl, sym, ap, subst, to_z-of_z, to_z, of_z, w64, FitsSigned, IfOk, int_cmp}
use Rattle.ft_index.proofs.Common.{find, Value, Document, shown_document, document_if, YieldsList-from_map, YieldsList-from_slice, items_from_collect}
use Rattle.ft_index.proofs.Common.{IfOk-weaker, map-map, Hit, Tree, tree_of, plain_hit, Match, chosen, cells_of, filter_of, HasRows, Looks, IsIndexed}
use Rattle.ft_index.proofs.Common.{ReadsFilterAs, document_at, chosen_hits, as_wanted, more_rows, AreThere}
use Rattle.std.specs.declared.alloc.AllocError.{AllocError}
use Rattle.ft_commands.specs.declared.command.Filter.{Filter}
use Rattle.ft_documents.proofs.{chosen_all, chosen_one, of_hits}
use Rattle.ft_index.proofs.Doing.{rows_then, index_first, on_ok_from, then_blamed, has_at, index_in, hits_there}
use Rattle.ft_index.proofs.SelectAnswers.{one_rows}
use Rattle.ft_index.proofs.chosen.chosen_documents.Goals as goal
use Rattle.ft_index.proofs.chosen.chosen_documents.Goals.{in-Some+in_ok-push-in-Docid, in_default}

pub returns-in-All-clause-told : goal.returns-in-All-clause-told
returns-in-All-clause-told g c =
    IfOk-weaker c.all_documents.result _ _ (λ found read content rows indexed reads.
    read content (subst (λ (k : ℤ). HasRows g.S.Store k c.args.store.now c.all_documents.new.store content) (sym (to_z-of_z c.ranges.tab)) rows)
    ∙ sym (ap (λ (f : Filter). chosen content (filter_of f)) c.in-All.is ∙ chosen_all content)) c.all_documents.ensures.told

pub returns-after-branch-2-clause-told : goal.returns-after-branch-2-clause-told
returns-after-branch-2-clause-told g c = λ content rows indexed reads.
    let docid : ℤ = c.in-Docid.docid in
    let read = c.in_ok-cells-in-Docid.field-0 in
    let fits : FitsSigned w64 docid = search rules in
    let back : to_z w64 (of_z w64 docid) ≡ docid = to_z-of_z fits in
    let here = subst (λ (k : ℤ). HasRows g.S.Store k c.args.store.now c.document.new.store content) (sym (to_z-of_z c.ranges.tab)) rows in
    let found : option_map cells_of read ≡ find int_cmp docid content.documents = c.in_ok-cells-in-Docid.ensures.told content here ∙ ap (λ (k : ℤ). find int_cmp k content.documents) back in
    let shown : map shown_document c.match-branch-2.documents.items ≡ document_if docid (option_map cells_of read) =
    elim c.match-branch-2.branch [
      | in-Some+in_ok-push-in-Docid w ↦
          ap (λ (v : Vec Document Global). map shown_document v.items) w.documents-is ∙ ap (map shown_document) (w.in_ok-push-in-Docid.ensures.items ∙ ap (λ l. l ++ record { docid = to_z w64 (of_z w64 docid); cells = w.in-Some.cells } ∷ []) c.new-documents.ensures.items)
          ∙ (λ i. (back i, cells_of w.in-Some.cells) ∷ [])
          ∙ sym (ap (λ (o : Option (Vec Value Global)). document_if docid (option_map cells_of o)) w.in-Some.is)
      | in_default w ↦
          ap (λ (v : Vec Document Global). map shown_document v.items) w.documents-is ∙ ap (map shown_document) c.new-documents.ensures.items
          ∙ sym (ap (λ (o : Option (Vec Value Global)). document_if docid (option_map cells_of o)) (let none : read ≡ None = search rules in none))
    ] in
    shown ∙ ap (document_if docid) found ∙ sym (ap (λ (f : Filter). chosen content (filter_of f)) c.in-Docid.is ∙ chosen_one rows.name content docid rows.is_content)

pub returns-in_ok-docids-in-Match-clause-told : goal.returns-in_ok-docids-in-Match-clause-told
returns-in_ok-docids-in-Match-clause-told g c =
    IfOk-weaker c.documents_under.result _ _ (λ found read content rows indexed reads.
    let first = c.args.store.now in
    let middle = c.matched.new.store in
    let last = c.documents_under.new.store in
    let one : Looks g.S.Store first middle = c.matched.ensures.looks.only in
    let two = c.documents_under.ensures.looks.only in
    let t = sym (to_z-of_z c.ranges.tab) in
    let tab : ℤ = to_z w64 (of_z w64 c.args.tab) in
    let name = string_bytes c.in-Match.name in
    let text = string_bytes c.in-Match.query in
    let here = subst (λ (k : ℤ). HasRows g.S.Store k first last content) t rows in
    let at = subst (λ (k : ℤ). IsIndexed g.S.Store k first last content) t indexed in
    let query : Option Tree = option_map {T = Bor _} (λ q. tree_of q.now) c.args.query in
    let as_read = subst (λ (f : Filter). ReadsFilterAs content (filter_of f) query) c.in-Match.is reads in
    let hits : map plain_hit c.in_ok-hits-in-Match.hits.items ≡ map (as_wanted false) (chosen_hits content (Match name text)) =
    c.in_ok-hits-in-Match.ensures.told content name text as_read (index_first g.S.Store first middle last one two tab content at) in
    let ok : c.collect.result ≡ Ok c.in_ok-docids-in-Match.docids = search rules in
    let numbers : c.in_ok-docids-in-Match.docids.items ≡ map (λ (h : Hit). h.docid) c.deref.result.now =
    subst (λ (r : Result (Vec ℤ Global) AllocError). IfOk r (λ (v : Vec ℤ Global). v.items ≡ map (λ (h : Hit). h.docid) c.deref.result.now)) ok
    (items_from_collect c.collect.result c.collect.ensures.ran (YieldsList-from_map _ (λ (h : Hit). h.docid) (YieldsList-from_slice c.deref.result.now cc) c.map.ensures.closure (λ x r q k. search rules))) in
    read content (rows_then g.S.Store first middle last one two tab content here)
    ∙ ap (map (document_at content)) (c.as_slice.ensures.value ∙ numbers ∙ ap (map (λ (h : Hit). h.docid)) c.deref.ensures.value)
    ∙ map-map (document_at content) (λ (h : Hit). h.docid) c.in_ok-hits-in-Match.hits.items
    ∙ of_hits (λ (h : Hit). h.docid) plain_hit (λ h. refl) rows.name content (Match name text) false c.in_ok-hits-in-Match.hits.items rows.is_content hits
    ∙ sym (ap (λ (f : Filter). chosen content (filter_of f)) c.in-Match.is)) c.documents_under.ensures.told

pub returns-in_ok-docids-in-Match-clause-looks : goal.returns-in_ok-docids-in-Match-clause-looks
returns-in_ok-docids-in-Match-clause-looks g c = record { only = search rules; live = search rules; cause = search rules }

pub returns-in-All-clause-counted : goal.returns-in-All-clause-counted
returns-in-All-clause-counted g c = on_ok_from c.all_documents.result _ _ (λ found counted content rows plainly.
    counted content (subst (λ (k : ℤ). HasRows g.S.Store k c.args.store.now c.all_documents.new.store content) (sym (to_z-of_z c.ranges.tab)) rows)
    ∙ ap (λ ds. more_rows (length content.columns * length ds) c.args.store.now) (sym (ap (λ (f : Filter). chosen content (filter_of f)) c.in-All.is ∙ chosen_all content))) c.all_documents.ensures.counted

pub returns-after-branch-2-clause-counted : goal.returns-after-branch-2-clause-counted
returns-after-branch-2-clause-counted g c content rows plainly =
    let docid : ℤ = c.in-Docid.docid in
    let read = c.in_ok-cells-in-Docid.field-0 in
    let fits : FitsSigned w64 docid = search rules in
    let here = subst (λ (k : ℤ). HasRows g.S.Store k c.args.store.now c.document.new.store content) (sym (to_z-of_z c.ranges.tab)) rows in
    let found : option_map cells_of read ≡ find int_cmp docid content.documents = c.in_ok-cells-in-Docid.ensures.told content here ∙ ap (λ (k : ℤ). find int_cmp k content.documents) (to_z-of_z fits) in
    c.in_ok-cells-in-Docid.ensures.counted
    ∙ ap (λ (n : ℕ). more_rows n c.args.store.now) (one_rows rows.name content docid read rows.is_content found)
    ∙ ap (λ (f : Filter). more_rows (length content.columns * length (chosen content (filter_of f))) c.args.store.now) (sym c.in-Docid.is)

pub returns-in_err-cells-in-Docid-clause-refused : goal.returns-in_err-cells-in-Docid-clause-refused
returns-in_err-cells-in-Docid-clause-refused g c = λ name content has reads clean told. c.document.ensures.refused clean (search rules)

pub returns-in_ok-docids-in-Match-clause-refused : goal.returns-in_ok-docids-in-Match-clause-refused
returns-in_ok-docids-in-Match-clause-refused g c = λ name content has reads clean told.
    let first = c.args.store.now in
    let middle = c.matched.new.store in
    let last = c.documents_under.new.store in
    let one = c.matched.ensures.looks in
    let tab : ℤ = to_z w64 (of_z w64 c.args.tab) in
    let t : tab ≡ c.args.tab = to_z-of_z c.ranges.tab in
    let table = string_bytes c.in-Match.name in
    let text = string_bytes c.in-Match.query in
    let query : Option Tree = option_map {T = Bor _} (λ q. tree_of q.now) c.args.query in
    let as_read = subst (λ (f : Filter). ReadsFilterAs content (filter_of f) query) c.in-Match.is reads in
    then_blamed g.S.Store first middle last one.only c.in_ok-hits-in-Match.ensures.looks.live c.documents_under.ensures.looks.only.survives clean (λ middle_clean is_open same.
    let hits = c.in_ok-hits-in-Match.ensures.told content table text as_read (index_in g.S.Store tab c.args.tab t first middle name content has middle_clean is_open) in
    let ok : c.collect.result ≡ Ok c.in_ok-docids-in-Match.docids = search rules in
    let numbers : c.in_ok-docids-in-Match.docids.items ≡ map (λ (h : Hit). h.docid) c.deref.result.now =
    subst (λ (r : Result (Vec ℤ Global) AllocError). IfOk r (λ (v : Vec ℤ Global). v.items ≡ map (λ (h : Hit). h.docid) c.deref.result.now)) ok
    (items_from_collect c.collect.result c.collect.ensures.ran (YieldsList-from_map _ (λ (h : Hit). h.docid) (YieldsList-from_slice c.deref.result.now cc) c.map.ensures.closure (λ x r q k. search rules))) in
    let docids = c.as_slice.ensures.value ∙ numbers ∙ ap (map (λ (h : Hit). h.docid)) c.deref.ensures.value in
    c.documents_under.ensures.refused name content (has_at (sym same) (sym t) has) (subst (AreThere content) (sym docids) (hits_there name content has.is_content (Match table text) false None 0 c.in_ok-hits-in-Match.hits.items hits)) clean told)
