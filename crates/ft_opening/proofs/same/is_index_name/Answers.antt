use Rattle.std.proofs.Common.{Some, ap, ◌∙◌, codes, bytes_eq}
use Rattle.ft_opening.proofs.Common.{Decides-eqb, strip_prefix_is, strip_suffix_is}
use Rattle.ft_opening.proofs.SameLemmas.{between}
use Rattle.ft_opening.proofs.same.is_index_name.Goals as goal

pub returns-in-Some-strip_suffix : goal.returns-in-Some-strip_suffix
returns-in-Some-strip_suffix c =
    let rest = c.in-Some.rest in let inner = c.in-Some-strip_suffix.inner in
    between c.args.name.now (codes "sqlite_autoindex_") rest.now inner.now (codes "_1") c.args.table.now _ (strip_prefix_is Decides-eqb c.args.name.now (codes "sqlite_autoindex_") (Some rest) c.in-Some.ensures.cases)
    (strip_suffix_is Decides-eqb rest.now (codes "_1") (Some inner) c.in-Some-strip_suffix.ensures.cases) (c.eq.ensures ∙ ap (λ l. bytes_eq inner.now l) c.as_bytes.ensures.value)
