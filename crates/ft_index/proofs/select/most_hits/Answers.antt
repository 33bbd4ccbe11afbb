-- the sum of both, where it has 64 bits
use Rattle.std.proofs.Common.{rules, ◌≡◌, Option, Some, ℕ, subst, sym}
use Rattle.ft_index.proofs.Common.{PlainHit, cut}
use Rattle.ft_index.proofs.SelectAnswers.{enough_taken}
use Rattle.ft_index.proofs.select.most_hits.Goals as goal

pub returns-clause-enough : goal.returns-clause-enough
returns-clause-enough c hits =
    let is : c.args.limit ≡ Some c.in_ok-limit.field-0 = search rules in
    subst (λ (l : Option ℕ). cut {A = PlainHit} l c.args.offset (cut c.checked_add.result 0 hits) ≡ cut l c.args.offset hits) (sym is)
    (enough_taken c.in_ok-limit.field-0 c.args.offset c.checked_add.result hits c.checked_add.ensures)
