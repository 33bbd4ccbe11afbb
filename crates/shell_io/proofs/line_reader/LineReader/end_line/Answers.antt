-- what was kept of the line is taken with what ends it
use Rattle.std.proofs.Common.{◌≡◌, ◌∷◌, [], ◌∙◌, ap, sym}
use Rattle.std.specs.Vec.{vec_items}
use Rattle.std.proofs.lemmas.Result.{IfOk-weaker}
use Rattle.shell_io.specs.LinesRead.{LinesRead, behind, members_left}
use Rattle.shell_io.proofs.line_reader.LineReader.end_line.Goals as goal

pub returns-clause-left : goal.returns-clause-left
returns-clause-left c =
    let line : c.as_slice.result.now ≡ c.self-2.inside.line.items = c.as_slice.ensures.value ∙ ap vec_items c.replace-line.ensures.value in
    IfOk-weaker c.take_line-2.result _ _
    (λ refused left way.
    let rest = behind (10 ∷ []) way in
    c.in_ok-keep.ensures.left rest ∙ ap (λ (a : LinesRead). members_left a rest) (sym c.self-2.view_is)
    ∙ ap (λ l. members_left (record { splitting = c.self-2.inside.splitter; line = l }) rest) (sym line) ∙ left way)
    c.take_line-2.ensures.left
