-- where the close is refused the store gives its files back
use Rattle.ft_files.proofs.hosted.close_one.Goals as goal

pub returns-in-Err : goal.returns-in-Err
returns-in-Err g c = record {
  last = c.in-Err.store;
  are = c.close.ensures;
  closed = c.in-Err.ensures.err.0;
  cause = λ clean. (c.in-Err.field-0-0, c.in-Err.ensures.err.1 clean);
}
