-- a document more
use Rattle.std.proofs.Common.{◌≡◌, ℤ, None, option_map, refl, List, [], ◌∷◌, ◌++◌, pos, get_or, Some, map, take, sym, ap, subst, ◌∙◌, to_z, of_z, w64, to_z-of_z, FitsSigned, rules, int_cmp}
use Rattle.ft_index.proofs.Common.{unwrap_or, find, take_more, take_all, map-append, Cell, cells_of, HasRows, shown_document, document_at}
use Rattle.ft_index.proofs.Doing.{looks_then, rows_first, rows_then, then_blamed, has_at, rows_in, none_there}
use Rattle.ft_index.proofs.chosen.documents_under.Goals as goal

pub loop-docid-preserved : goal.loop-docid-preserved
loop-docid-preserved g c =
    let so_far = c.loop-docid.invariant in
    let read = c.in_ok-document.ensures in
    let first = c.args.store.now in
    let middle = c.loop-docid.store in
    let last = c.document.new.store in
    record {
      looks = looks_then g.S.Store first middle last so_far.looks read.looks.only so_far.live;
      live = λ clean _. read.looks.live clean;
      found = λ content rows.
          let tab : ℤ = to_z w64 (of_z w64 c.args.tab) in
          let docid : ℤ = get_or c.args.docids.now c.loop-docid.docid-index (pos 0) in
          let fits : FitsSigned w64 docid = search rules in
          let back : to_z w64 (of_z w64 docid) ≡ docid = to_z-of_z fits in
          let before = so_far.found content (rows_first g.S.Store first middle last so_far.looks read.looks.only tab content rows) in
          let here : find int_cmp docid content.documents ≡ Some (cells_of c.in_ok-cells.cells) =
          ap (λ (k : ℤ). find int_cmp k content.documents) (sym back) ∙ sym (read.told content (rows_then g.S.Store first middle last so_far.looks read.looks.only tab content rows)) ∙ ap (option_map cells_of) (let some : c.in_ok-document.field-0 ≡ Some c.in_ok-cells.cells = search rules in some) in
          let f : ℤ → ℤ × List Cell = document_at content in
          let more = take_more c.args.docids.now c.loop-docid.docid-index (pos 0) c.loop-docid-test.true in
          ap (map shown_document) c.in_ok-push.ensures.items ∙ map-append shown_document c.loop-docid.documents.items (record { docid = to_z w64 (of_z w64 docid); cells = c.in_ok-cells.cells } ∷ [])
          ∙ (λ i. before i ++ (back i, unwrap_or (sym here i) []) ∷ [])
          ∙ sym (ap (map f) more ∙ map-append f (take c.loop-docid.docid-index c.args.docids.now) (docid ∷ []));
    }

pub returns-clause-told : goal.returns-clause-told
returns-clause-told g c = λ content rows.
    let f : ℤ → ℤ × List Cell = document_at content in
    c.loop-docid.invariant.found content (subst (λ (k : ℤ). HasRows g.S.Store k c.args.store.now c.loop-docid.store content) (sym (to_z-of_z c.ranges.tab)) rows)
    ∙ ap (map f) (take_all c.loop-docid.docid-index c.args.docids.now c.loop-docid-test.false)

pub returns-in_err-document-clause-looks : goal.returns-in_err-document-clause-looks
returns-in_err-document-clause-looks g c = record { only = looks_then g.S.Store c.args.store.now c.loop-docid.store c.document.new.store c.loop-docid.invariant.looks c.in_err-document.ensures.looks.only c.loop-docid.invariant.live; live = search rules; cause = search rules }

pub returns-in_err-cells-clause-looks : goal.returns-in_err-cells-clause-looks
returns-in_err-cells-clause-looks g c = record { only = looks_then g.S.Store c.args.store.now c.loop-docid.store c.document.new.store c.loop-docid.invariant.looks c.in_ok-document.ensures.looks.only c.loop-docid.invariant.live; live = search rules; cause = search rules }

pub returns-in_err-push-clause-looks : goal.returns-in_err-push-clause-looks
returns-in_err-push-clause-looks g c = record { only = looks_then g.S.Store c.args.store.now c.loop-docid.store c.document.new.store c.loop-docid.invariant.looks c.in_ok-document.ensures.looks.only c.loop-docid.invariant.live; live = search rules; cause = search rules }

pub returns-in_err-document-clause-refused : goal.returns-in_err-document-clause-refused
returns-in_err-document-clause-refused g c = λ name content has there clean told.
    let so_far = c.loop-docid.invariant in
    then_blamed g.S.Store c.args.store.now c.loop-docid.store c.document.new.store so_far.looks so_far.live c.in_err-document.ensures.looks.only.survives clean (λ middle is_open same. c.document.ensures.refused clean (search rules))

-- a document that is there is found
pub returns-in_err-cells-clause-refused : goal.returns-in_err-cells-clause-refused
returns-in_err-cells-clause-refused g c = λ name content has there clean told.
    let so_far = c.loop-docid.invariant in
    let read = c.in_ok-document.ensures in
    let docid : ℤ = get_or c.args.docids.now c.loop-docid.docid-index (pos 0) in
    let fits : FitsSigned w64 docid = search rules in
    let none : c.in_ok-document.field-0 ≡ None = search rules in
    then_blamed g.S.Store c.args.store.now c.loop-docid.store c.document.new.store so_far.looks so_far.live read.looks.only.survives clean (λ middle is_open same.
    let rows = rows_in g.S.Store _ c.args.tab (to_z-of_z c.ranges.tab) c.loop-docid.store c.document.new.store name content (has_at (sym same) refl has) clean (read.looks.live clean) in
    absurd (none_there content docid (there c.loop-docid.docid-index (pos 0) c.loop-docid-test.true)
    (ap (λ (k : ℤ). find int_cmp k content.documents) (sym (to_z-of_z fits)) ∙ sym (read.told content rows) ∙ ap (option_map cells_of) none)))
