-- those so far
use Rattle.std.proofs.Common.{◌≡◌, map}
use Rattle.ft_statements.proofs.Common.{option_of, texts_of, settings_in, columns_in, argument_as}
use Rattle.ft_statements.proofs.create.sorted.Given as goal

abbrev pub invariant-loop-argument : goal.invariant-loop-argument
invariant-loop-argument l =
    (map option_of l.options.items ≡ settings_in (map argument_as l.yielded))
    × (texts_of l.columns ≡ columns_in (map argument_as l.yielded))
