use Rattle.shell_text.proofs.units.hand_out.Goals as goal

pub range_from-requires : goal.range_from-requires
range_from-requires c = λ _. c.requires c.in-Some.word c.in-Some.is
