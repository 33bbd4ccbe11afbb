use Rattle.std.proofs.Common.{rules, suc}
use Rattle.ft_opening.proofs.Common.{Or}
use Rattle.ft_opening.proofs.SameLemmas.{two, not_two}
use Rattle.ft_opening.proofs.same.is_cell_test.Goals as goal

pub returns-then-is_null_test : goal.returns-then-is_null_test
returns-then-is_null_test c = let it = c.in-Some-Binary-Or-default-default in λ depth. two Or c.args.nodes.now (suc (suc depth)) c.args.at it.a it.b _ _ _ (search rules) ((c.is_null_test.ensures depth).0 (search rules)) (c.is_null_test-then-is_null_test.ensures depth)

pub returns-else-is_null_test : goal.returns-else-is_null_test
returns-else-is_null_test c = let it = c.in-Some-Binary-Or-default-default in λ depth. not_two Or c.args.nodes.now (suc (suc depth)) c.args.at it.a it.b _ _ _ (search rules) (search rules) (c.is_null_test.ensures depth)
