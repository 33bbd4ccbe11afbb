-- a full stop is one byte
use Rattle.std.proofs.Common.{rules, ◌<◌, length, get_or}
use Rattle.std.proofs.lemmas.Str.{IsCharBoundary-after_ascii}
use Rattle.ft_shell.proofs.dot_turn.after_stop.Goals as goal

pub range_from-requires : goal.range_from-requires
range_from-requires c =
    let within : 0 < length c.args.text.now = search rules in
    let ascii : get_or c.args.text.now 0 0 < 128 = search rules in
    λ _. IsCharBoundary-after_ascii c.args.text.now 0 c.utf8.text within ascii
