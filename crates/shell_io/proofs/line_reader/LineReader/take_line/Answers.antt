-- the line is taken, or refused
use Rattle.std.proofs.Common.{rules, ◌≡◌, ◌≢◌, ◌++◌, [], sym, ◌∙◌, Ok, Err}
use Rattle.shell_text.specs.declared.units.SplitFault.TheVariants as fault
use Rattle.shell_text.specs.Splitting.{TakesLine}
use Rattle.shell_io.specs.LinesRead.{LinesRead, members_left, refused_as}
use Rattle.shell_io.proofs.LineReaderLemmas.{taken_line, refused_line}
use Rattle.shell_io.proofs.line_reader.LineReader.take_line.Goals as goal
use Rattle.shell_io.proofs.line_reader.LineReader.take_line.Goals.{in-Ok, in-Err}

pub returns-clause-left : goal.returns-clause-left
returns-clause-left c way =
    let given : LinesRead = record c.args.self.now { line = c.args.line.now } in
    let none : c.args.self.now.splitting.waiting ≡ [] = search rules in
    let alone : c.self.inside.line.items ≡ [] = search rules in
    elim c.match-line.branch [
      | in-Ok w ↦
          let takes : TakesLine c.args.line.now c.args.self.now.splitting c.line.new.self (Ok w.in-Ok.field-0) = search rules in
          taken_line given c.line.new.self w.in-Ok.field-0 way c.requires.whole none takes
          ∙ (λ i. refused_as (sym w.refused-is i) ++ members_left (record { splitting = c.line.new.self; line = sym alone i }) way)
      | in-Err w ↦
          let takes : TakesLine c.args.line.now c.args.self.now.splitting c.line.new.self (Err w.in-Err.fault) = search rules in
          let other : w.in-Err.fault ≢ fault.Memory = search rules in
          let same : c.self.inside.number ≡ c.args.self.now.splitting.reading.line = search rules in
          refused_line given c.line.new.self w.in-Err.fault c.self.inside.number way c.requires.whole none same other takes
          ∙ (λ i. refused_as (sym w.refused-is i) ++ members_left (record { splitting = c.line.new.self; line = sym alone i }) way)
    ]
