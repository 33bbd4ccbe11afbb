use Rattle.std.proofs.Common.{ap, ◌∙◌}
use Rattle.std.specs.Str.Lines.{strip_carriage_return}
use Rattle.shell_text.specs.Splitting.{role_as}
use Rattle.shell_text.proofs.Splitters.{command_taken}
use Rattle.shell_text.proofs.units.Splitter.line.Goals as goal

pub returns-in_ok-add_command-in-Ok-true-default : goal.returns-in_ok-add_command-in-Ok-true-default
returns-in_ok-add_command-in-Ok-true-default c =
    let role = c.in-Ok-true-default.ensures.ok in
    command_taken c.args.line.now c.without_return.result.now c.args.self.now c.add_command.new.self tt
    (role.0 ∙ ap role_as c.in-Ok-true-default.field-0-0-test) (c.without_return.ensures ∙ ap strip_carriage_return role.1) c.in_ok-add_command-in-Ok-true-default.ensures.ok
