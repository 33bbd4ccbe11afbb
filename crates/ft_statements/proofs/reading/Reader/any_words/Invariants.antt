-- the words so far, and what is read of the others
use Rattle.std.proofs.Common.{◌≡◌, ◌≤◌, take, drop}
use Rattle.ft_statements.proofs.Common.{balanced_at, mark_of, plain}
use Rattle.ft_statements.proofs.FormLaw.{all_onto}
use Rattle.ft_statements.proofs.reading.Reader.any_words.Given as goal

pub record Kept (is_same is_bound : Type 0) : Type 0 where
  pub same : is_same
  pub bound : is_bound

abbrev pub invariant-loop-i : goal.invariant-loop-i
invariant-loop-i l = Kept
    (all_onto (plain (take l.i l.words)) (balanced_at mark_of (plain (drop l.i l.words)) l.depth) ≡ balanced_at mark_of (plain l.initial.words) 0)
    (l.depth ≤ l.i)
