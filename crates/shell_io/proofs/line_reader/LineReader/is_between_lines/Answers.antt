-- a line that isn't empty ends with the input
use Rattle.std.proofs.Common.{rules, ◌<◌, length}
use Rattle.shell_io.specs.LinesRead.{HasNoEnd}
use Rattle.shell_io.proofs.LineReaderLemmas.{ended_line}
use Rattle.shell_io.proofs.line_reader.LineReader.is_between_lines.Goals as goal

pub returns-clause-within : goal.returns-clause-within
returns-clause-within c =
    let plain : HasNoEnd c.args.self.now.line = search rules in
    λ some.
    let more : 0 < length c.args.self.now.line = search rules in
    ended_line c.args.self.now plain more
