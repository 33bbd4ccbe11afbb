use Rattle.std.proofs.Common.{sym, ap, ◌∙◌, Bor}
use Rattle.ft_query.proofs.Common.{QueryTerm, plain_term, lists_kept, listed_for}
use Rattle.ft_query.proofs.Loading.{same_at}
use Rattle.ft_query.proofs.walk.load.held.Goals as goal

pub returns-then-are_alike : goal.returns-then-are_alike
returns-then-are_alike c = λ documents at.
    let list : Bor QueryTerm → _ = λ t. listed_for documents (plain_term t.now) in
    ap lists_kept c.index-cursors-i.is
    ∙ same_at lists_kept list c.args.cursors.now c.args.terms.now c.loop-i.i c.index-cursors-i.result c.index-terms-i.result at c.loop-i-test.true
    ∙ ap list (sym c.index-terms-i.is)
    ∙ c.are_alike.ensures c.if-are_alike.true documents
