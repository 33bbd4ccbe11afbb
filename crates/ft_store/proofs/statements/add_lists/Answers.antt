use Rattle.ft_store.proofs.Common.{IfOk-weaker, bound}
use Rattle.ft_store.proofs.AddedLemmas.{adds_grown, adds_why}
use Rattle.ft_store.proofs.GroupLemmas.{adds_eight}
use Rattle.ft_store.proofs.statements.add_lists.Goals as goal

pub returns-clause-done : goal.returns-clause-done
returns-clause-done g c = record {
  steps = λ entries eight is clean inside kept. IfOk-weaker c.add.result _ _ (λ added. adds_eight _ _ entries (bound c.args.values.now) added eight is inside kept) (c.add.ensures.done.steps clean inside);
  stays = c.add.ensures.done.stays;
}

pub returns-clause-grown : goal.returns-clause-grown
returns-clause-grown g c = λ entries eight is clean inside kept. IfOk-weaker c.add.result _ _ (λ added. adds_grown _ _ entries (bound c.args.values.now) added eight is kept) (c.add.ensures.done.steps clean inside)

pub returns-clause-refused : goal.returns-clause-refused
returns-clause-refused g c = λ entries eight is clean inside kept no. adds_why _ _ entries (bound c.args.values.now) eight is kept (c.add.ensures.refused clean inside no)
