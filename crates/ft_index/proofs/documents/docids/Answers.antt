-- the docids of the content, by the limits
use Rattle.std.proofs.Common.{rules, ℕ, ℤ, true, false, cond, List, map, length, ap, sym, ◌∙◌, to_z-of_z, ◌≡◌}
use Rattle.ft_index.proofs.Common.{length-map, Cell, value_in, more_rows, shows, cut}
use Rattle.ft_store.specs.Docids.{docids_in}
use Rattle.ft_content.proofs.{cut_of_map}
use Rattle.ft_documents.proofs.{docids_read}
use Rattle.ft_calls.specs.RowsRead.{are_short}
use Rattle.ft_index.proofs.SelectAnswers.{cut_is}
use Rattle.ft_index.proofs.Doing.{store_blamed}
use Rattle.ft_index.proofs.documents.docids.Goals as goal

pub returns-in-Some-clause-told : goal.returns-in-Some-clause-told
returns-in-Some-clause-told g c = λ content rows.
    let store = value_in g.S.Store c.args.store.now in
    (simp (to_z-of_z, c.ranges.tab) at c.in_ok-docids.ensures.rows) rows.clean
    ∙ cut_is c.in-Some.most c.args.limit c.in-Some.first c.args.offset (docids_in c.args.tab store.cells) c.in-Some.ensures.same.0 c.in-Some.ensures.same.1
    ∙ ap (cut c.args.limit c.args.offset) (docids_read c.args.tab store rows.name content rows.is_content rows.rows)

pub returns-in-Some-clause-counted : goal.returns-in-Some-clause-counted
returns-in-Some-clause-counted g c content rows =
    let store = value_in g.S.Store c.args.store.now in
    let limit = c.args.limit in
    let offset = c.args.offset in
    let found = c.in_ok-docids.field-0 in
    let short : are_short limit offset ≡ true = search rules in
    let docid : ℤ × List Cell → ℤ = λ d. d.0 in
    let read : found.items ≡ cut limit offset (map docid content.documents) =
    (simp (to_z-of_z, c.ranges.tab) at c.in_ok-docids.ensures.rows) rows.clean
    ∙ cut_is c.in-Some.most limit c.in-Some.first offset (docids_in c.args.tab store.cells) c.in-Some.ensures.same.0 c.in-Some.ensures.same.1
    ∙ ap (cut limit offset) (docids_read c.args.tab store rows.name content rows.is_content rows.rows) in
    let many : length found.items ≡ length (cut limit offset content.documents) = ap length (read ∙ cut_of_map docid limit offset content.documents) ∙ length-map (cut limit offset content.documents) docid in
    c.in_ok-docids.ensures.read.counted
    ∙ ap (λ (n : ℕ). more_rows n c.args.store.now) (found.ok.0 ∙ many ∙ sym (ap (λ b. cond b (length (cut limit offset content.documents)) (length content.documents)) short))

pub returns-clause-told : goal.returns-clause-told
returns-clause-told g c = λ content rows.
    let store = value_in g.S.Store c.args.store.now in
    let same : c.in_ok-to_vec.field-0.items ≡ c.cut.result.now = search rules in
    same ∙ c.cut.ensures
    ∙ ap (cut c.args.limit c.args.offset) (c.as_slice.ensures.value ∙ (simp (to_z-of_z, c.ranges.tab) at c.in_ok-all.ensures.rows) rows.clean ∙ docids_read c.args.tab store rows.name content rows.is_content rows.rows)

pub returns-clause-counted : goal.returns-clause-counted
returns-clause-counted g c content rows =
    let store = value_in g.S.Store c.args.store.now in
    let limit = c.args.limit in
    let offset = c.args.offset in
    let long : are_short limit offset ≡ false = search rules in
    let docid : ℤ × List Cell → ℤ = λ d. d.0 in
    let read : c.in_ok-all.all.items ≡ map docid content.documents = (simp (to_z-of_z, c.ranges.tab) at c.in_ok-all.ensures.rows) rows.clean ∙ docids_read c.args.tab store rows.name content rows.is_content rows.rows in
    c.in_ok-all.ensures.read.counted
    ∙ ap (λ (n : ℕ). more_rows n c.args.store.now) (c.in_ok-all.all.ok.0 ∙ ap length read ∙ length-map content.documents docid
    ∙ sym (ap (λ b. cond b (length (cut limit offset content.documents)) (length content.documents)) long))

pub returns-in_err-docids-clause-refused : goal.returns-in_err-docids-clause-refused
returns-in_err-docids-clause-refused g c = store_blamed (shows g.S.Store c.args.store.now) (shows g.S.Store c.docids.new.self) c.in_err-docids.field-0.0 c.docids.result c.from_residual.result (search rules) (search rules) (search rules) c.docids.ensures.refused

pub returns-in_err-all-clause-refused : goal.returns-in_err-all-clause-refused
returns-in_err-all-clause-refused g c = store_blamed (shows g.S.Store c.args.store.now) (shows g.S.Store c.docids-2.new.self) c.in_err-all.field-0.0 c.docids-2.result c.from_residual-in_err-all.result (search rules) (search rules) (search rules) c.docids-2.ensures.refused
