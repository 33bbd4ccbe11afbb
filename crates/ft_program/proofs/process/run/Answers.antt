use Rattle.std.proofs.Common.{map}
use Rattle.ft_program.proofs.StatusLemmas.{of_start}
use Rattle.ft_program.proofs.process.run.Goals as goal

pub returns : goal.returns
returns c = of_start _ _ _ _ (map (λ word. word.now) c.as_slice.result.now) _ _ _ _ c.start.ensures.runs
