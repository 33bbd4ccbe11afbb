use Rattle.std.proofs.Common.{arith}
use Rattle.ft_match.proofs.Common.{IsCharBoundary-start}
use Rattle.ft_match.proofs.text.Tokenizer.new.Goals as goal

pub invariant_of-result : goal.invariant_of-result
invariant_of-result c = (IsCharBoundary-start c.args.text.now c.utf8.text, omega arith)
