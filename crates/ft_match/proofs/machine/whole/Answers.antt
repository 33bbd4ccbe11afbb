use Rattle.std.proofs.Common.{◌≡◌, ap, ◌∙◌, option_map}
use Rattle.std.proofs.lemmas.Result.{IfOk-weaker}
use Rattle.ft_match.proofs.Common.{tree_of, join, both, either, without}
use Rattle.ft_match.proofs.machine.whole.Goals as goal

pub returns : goal.returns
returns c =
    let w = c.args.waiting in
    let right : tree_of c.in_ok-right.right ≡ join without (option_map tree_of w.not_left) (tree_of c.args.operand) = c.in_ok-right.ensures in
    let more : tree_of c.in_ok-both.both ≡ join both (option_map tree_of w.and_left) (tree_of c.in_ok-right.right) = c.in_ok-both.ensures in
    IfOk-weaker c.joined-3.result (λ q. tree_of q ≡ join either (option_map tree_of w.or_left) (tree_of c.in_ok-both.both)) _
    (λ q e. e ∙ ap (join either (option_map tree_of w.or_left)) (more ∙ ap (join both (option_map tree_of w.and_left)) right)) c.joined-3.ensures
