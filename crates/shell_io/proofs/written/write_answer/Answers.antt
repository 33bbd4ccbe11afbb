-- the fault line
use Rattle.std.proofs.Common.{◌++◌, sym, subst}
use Rattle.shell_io.specs.Outcomes.{fault_lines}
use Rattle.shell_io.specs.OutputViews.{answer_as}
use Rattle.shell_io.specs.Writing.{Sends}
use Rattle.shell_io.proofs.written.write_answer.Goals as goal

pub returns-in_ok-map_err-in-Err-clause-err : goal.returns-in_ok-map_err-in-Err-clause-err
returns-in_ok-map_err-in-Err-clause-err g c =
    subst (λ answer. Sends c.write_complaint.result (g.E.Write.contents c.args.err.now) (g.E.Write.contents c.write_complaint.new.to) ((answer_as answer).warnings ++ fault_lines c.args.line (answer_as answer).fault)) (sym c.in-Err.is) c.write_complaint.ensures
