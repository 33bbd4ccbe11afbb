-- by the cells of the docid
use Rattle.std.proofs.Common.{rules, sym, ap, ◌∙◌, to_z-of_z, w64, FitsSigned}
use Rattle.ft_index.proofs.Common.{value_in, shows, has_given}
use Rattle.ft_documents.proofs.{there_read}
use Rattle.ft_index.proofs.Doing.{store_blamed}
use Rattle.ft_index.proofs.documents.has_document.Goals as goal

pub returns-in_ok-has_document-in-Some-clause-found : goal.returns-in_ok-has_document-in-Some-clause-found
returns-in_ok-has_document-in-Some-clause-found g c content rows =
    let store = value_in g.S.Store c.args.store.now in
    let fits : FitsSigned w64 c.in-Some.docid = search rules in
    (simp (to_z-of_z, c.ranges.tab, fits) at c.in_ok-has_document-in-Some.ensures.there) rows.clean
    ∙ there_read c.args.tab c.in-Some.docid store rows.name content rows.is_content rows.rows
    ∙ sym (ap (has_given content.documents) c.in-Some.is)

pub returns-in_err-has_document-in-Some-clause-refused : goal.returns-in_err-has_document-in-Some-clause-refused
returns-in_err-has_document-in-Some-clause-refused g c = store_blamed (shows g.S.Store c.args.store.now) (shows g.S.Store c.has_document.new.self) c.in_err-has_document-in-Some.field-0.0 c.has_document.result c.from_residual.result (search rules) (search rules) (search rules) c.has_document.ensures.refused
