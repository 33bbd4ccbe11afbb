-- a row more
use Rattle.std.proofs.Common.{rules, ◌++◌, [], ◌∷◌, ℤ, Bool, map, zip, take, Vec, Global, sym, ap, subst, ◌∙◌, to_z-of_z, to_z, of_z, w64, slice_get}
use Rattle.ft_index.proofs.Common.{take_more, take_all, map-append, Value, shown_value, docids_named, cells_of, HasRows, has_given}
use Rattle.ft_index.proofs.Doing.{looks_then, rows_first, rows_then, then_blamed}
use Rattle.ft_index.proofs.written.stored_docids.Goals as goal

pub loop-row-preserved : goal.loop-row-preserved
loop-row-preserved g c =
    let so_far = c.loop-row.invariant in
    let first = c.args.store.now in
    let middle = c.loop-row.store in
    let last = c.has_document.new.store in
    let read = c.in_ok-has_document.ensures in
    let tab : ℤ = to_z w64 (of_z w64 c.args.tab) in
    record {
      looks = looks_then g.S.Store first middle last so_far.looks read.looks.only so_far.live;
      live = search rules;
      found = λ content rows.
          let before = so_far.found content (rows_first g.S.Store first middle last so_far.looks read.looks.only tab content rows) in
          let here = read.found content (rows_then g.S.Store first middle last so_far.looks read.looks.only tab content rows) in
          let names = map (λ n. n.now) c.args.names.now in
          let test : Vec Value Global → Bool = λ row. has_given content.documents (slice_get (docids_named (zip names (cells_of row))) 0) in
          let given = here ∙ ap (has_given content.documents) (c.row_docid-given.ensures ∙ ap (λ l. slice_get (docids_named (zip names (map shown_value l))) 0) c.as_slice.ensures.value) in
          let more = take_more c.args.rows.now c.loop-row.row-index c.row-item.result c.loop-row-test.true ∙ ap (λ row. take c.loop-row.row-index c.args.rows.now ++ row ∷ []) (sym c.row-item.is) in
          c.in_ok-push.ensures.items ∙ (λ i. before i ++ given i ∷ []) ∙ sym (ap (map test) more ∙ map-append test (take c.loop-row.row-index c.args.rows.now) (c.row-item.result ∷ []));
    }

pub returns-clause-found : goal.returns-clause-found
returns-clause-found g c content rows =
    let names = map (λ n. n.now) c.args.names.now in
    let test : Vec Value Global → Bool = λ row. has_given content.documents (slice_get (docids_named (zip names (cells_of row))) 0) in
    c.loop-row.invariant.found content (subst (λ (k : ℤ). HasRows g.S.Store k c.args.store.now c.loop-row.store content) (sym (to_z-of_z c.ranges.tab)) rows)
    ∙ ap (map test) (take_all c.loop-row.row-index c.args.rows.now c.loop-row-test.false)

pub returns-in_err-has_document-clause-refused : goal.returns-in_err-has_document-clause-refused
returns-in_err-has_document-clause-refused g c = λ clean told.
    let so_far = c.loop-row.invariant in
    then_blamed g.S.Store c.args.store.now c.loop-row.store c.has_document.new.store so_far.looks so_far.live c.has_document.ensures.looks.only.survives clean (λ middle is_open same. c.has_document.ensures.refused clean (search rules))
