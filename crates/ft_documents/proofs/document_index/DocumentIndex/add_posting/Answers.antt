use Rattle.std.proofs.Common.{◌++◌, ◌∷◌, [], refl, ap, subst, ◌∙◌, cond, Some, String, rules, IsSome, Global, string_eq}
use Rattle.ft_documents.proofs.Common.{lookup}
use Rattle.ft_documents.proofs.TermOrder.{held, posting_joins}
use Rattle.ft_documents.proofs.document_index.DocumentIndex.add_posting.Goals as goal

pub returns-in-Some : goal.returns-in-Some
returns-in-Some c =
    let postings = c.push.new.self in
    let written = c.get_mut.follows.holds postings in
    let lists = posting_joins c.args.term c.args.posting postings c.args.self.now.terms.entries _ (written.3 (subst IsSome c.in-Some.ensures.value refl)).0 c.get_mut.ensures.unique written.4
    (c.in_ok-push.ensures.items ∙ ap (λ o. held o ++ c.args.posting ∷ []) c.in-Some.ensures.value) in
    record { lists = lists; sizes = search rules }

pub returns : goal.returns
returns c =
    let postings = c.in_ok-postings.postings in
    let joins = λ (q : String Global). c.in_ok-insert.ensures.updates.0 q ∙ ap (λ m. cond (string_eq c.args.term q) (Some postings) (lookup (string_eq q) m.entries)) c.get_mut.follows.holds-at-none in
    let lists = posting_joins c.args.term c.args.posting postings c.args.self.now.terms.entries _ joins c.get_mut.ensures.unique c.in_ok-insert.ensures.unique
    (c.in_ok-postings.ensures.items ∙ ap (λ ps. ps ++ c.args.posting ∷ []) (ap held c.in_default.ensures.value)) in
    record { lists = lists; sizes = search rules }
