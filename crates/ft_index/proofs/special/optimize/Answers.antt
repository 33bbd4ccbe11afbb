-- by the tests of the table
use Rattle.std.proofs.Common.{rules, ◌≡◌, inr, map, Err, Result, sym, subst}
use Rattle.ft_index.proofs.Common.{Fault, Reply, shown_info, answer_of, Answers}
use Rattle.ft_commands.specs.Command as plain
use Rattle.ft_index.proofs.OneTable.{optimize_fine, optimize_unfit, optimize_keeps}
use Rattle.ft_index.proofs.TablePlans.{refused_answers}
use Rattle.ft_index.proofs.special.optimize.Goals as goal

pub returns-in_err-sound_table-clause-answers : goal.returns-in_err-sound_table-clause-answers
returns-in_err-sound_table-clause-answers c = λ contents told.
    let fault : Fault = c.in_err-sound_table.field-0.0 in
    let is : c.from_residual.result ≡ Err fault = search rules in
    let command = plain.Optimize c.args.table.now in
    subst (λ (r : Result Reply Fault). Answers contents command (answer_of r) contents) (sym is)
    (inr (refused_answers contents command fault (optimize_unfit contents (map shown_info c.args.tables.now) c.args.table.now fault told c.in_err-sound_table.ensures)))

pub returns-clause-answers : goal.returns-clause-answers
returns-clause-answers c = λ contents told.
    let known = c.in_ok-sound_table in
    inr (optimize_keeps contents c.args.table.now (optimize_fine contents (map shown_info c.args.tables.now) c.args.table.now (shown_info known.field-0.now) told known.ensures.0 known.ensures.1))
