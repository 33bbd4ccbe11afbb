use Rattle.std.proofs.Common.{◌≡◌, ◌++◌, drop, string_bytes}
use Rattle.ft_query.proofs.Common.{offsets_text}
use Rattle.ft_query.proofs.OffsetTexts.{texts_after}
use Rattle.ft_query.proofs.walk.offsets_text.Given as goal

abbrev pub invariant-loop-offset : goal.invariant-loop-offset
invariant-loop-offset l = string_bytes l.text ++ texts_after (drop l.offset-index l.rest) ≡ offsets_text l.offsets
