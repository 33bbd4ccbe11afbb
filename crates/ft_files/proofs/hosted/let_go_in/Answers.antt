use Rattle.std.proofs.Common.{◌∙◌, ap}
use Rattle.sqlite.specs.Files.{image_of}
use Rattle.ft_files.proofs.hosted.let_go_in.Goals as goal

pub returns-clause-held : goal.returns-clause-held
returns-clause-held g c = λ t. (c.close_one.result, c.close_one.ensures, c.close.ensures.held t ∙ ap (image_of g.D.Disk) c.left_files.ensures)
