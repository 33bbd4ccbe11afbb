-- one text after the other
use Rattle.std.proofs.Common.{rules, ◌≡◌, ◌++◌, ◌∷◌, [], codes, subst}
use Rattle.std.specs.Fmt.{signed_decimal}
use Rattle.std.specs.Io.KnownBytes.{Appends}
use Rattle.shell_io.specs.Writing.{AppendsUpTo}
use Rattle.shell_io.proofs.{sends_err, sends_then, up_to_more, up_to_then}
use Rattle.ft_program.proofs.start.send_version.Goals as goal

pub returns-in_err-send : goal.returns-in_err-send
returns-in_err-send g c =
    let a = g.W.Write.contents c.args.to.now in
    let b = g.W.Write.contents c.send.new.to in
    sends_err _ c.from_residual.result a b _ c.from_residual.ensures.1 (up_to_more a b (codes "Error: full-text store of version ") (signed_decimal c.args.number ++ 10 ∷ []) c.in_err-send.ensures)

pub returns-in_err-send-2 : goal.returns-in_err-send-2
returns-in_err-send-2 g c =
    let a = g.W.Write.contents c.args.to.now in
    let b = g.W.Write.contents c.send.new.to in
    let d = g.W.Write.contents c.send-2.new.to in
    let is : c.format.result.now ≡ signed_decimal c.args.number = search (rules, c.format.ensures.text) in
    let front : AppendsUpTo b d (signed_decimal c.args.number) = subst (AppendsUpTo b d) is c.in_err-send-2.ensures in
    sends_err _ c.from_residual-in_err-send-2.result a d _ c.from_residual-in_err-send-2.ensures.1
    (up_to_then a b d (codes "Error: full-text store of version ") _ c.in_ok-send.ensures (up_to_more b d (signed_decimal c.args.number) (10 ∷ []) front))

pub returns : goal.returns
returns g c =
    let a = g.W.Write.contents c.args.to.now in
    let b = g.W.Write.contents c.send.new.to in
    let d = g.W.Write.contents c.send-2.new.to in
    let e = g.W.Write.contents c.send-3.new.to in
    let number = signed_decimal c.args.number in
    let is : c.format.result.now ≡ number = search (rules, c.format.ensures.text) in
    let second : Appends b d number = subst (Appends b d) is c.in_ok-send-2.ensures in
    sends_then c.send-3.result a b e (codes "Error: full-text store of version ") (number ++ 10 ∷ []) c.in_ok-send.ensures
    (sends_then c.send-3.result b d e number (10 ∷ []) second c.send-3.ensures)
