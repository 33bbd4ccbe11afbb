-- one text after the other
use Rattle.std.proofs.Common.{◌++◌, ◌∷◌, [], List, ℕ, codes, decimal, subst}
use Rattle.std.specs.Io.KnownBytes.{Appends}
use Rattle.shell_io.specs.Texts.{text_as}
use Rattle.shell_io.specs.Writing.{AppendsUpTo, Sends}
use Rattle.shell_io.proofs.WriteLemmas.{line_split, sends_err, sends_then, up_to_more}
use Rattle.shell_io.proofs.written.write_fault.Goals as goal

pub returns-in_err-write_parts : goal.returns-in_err-write_parts
returns-in_err-write_parts g c =
    let a = g.W.Write.contents c.args.to.now in
    let b = g.W.Write.contents c.write_parts.new.to in
    let rest = text_as c.args.text.now ++ 10 ∷ [] in
    let number = decimal c.args.line in
    let front : AppendsUpTo a b (codes "Error: near line " ++ (number ++ codes ": ")) = subst (λ (n : List ℕ). AppendsUpTo a b (codes "Error: near line " ++ (n ++ codes ": "))) c.format-number.ensures.text c.in_err-write_parts.ensures in
    sends_err _ c.from_residual.result a b _ c.from_residual.ensures.1
    (subst (AppendsUpTo a b) (line_split number rest) (up_to_more a b (codes "Error: near line " ++ (number ++ codes ": ")) rest front))

pub returns : goal.returns
returns g c =
    let a = g.W.Write.contents c.args.to.now in
    let b = g.W.Write.contents c.write_parts.new.to in
    let d = g.W.Write.contents c.write_text.new.to in
    let rest = text_as c.args.text.now ++ 10 ∷ [] in
    let number = decimal c.args.line in
    let front : Appends a b (codes "Error: near line " ++ (number ++ codes ": ")) = subst (λ (n : List ℕ). Appends a b (codes "Error: near line " ++ (n ++ codes ": "))) c.format-number.ensures.text c.in_ok-write_parts.ensures in
    subst (Sends c.write_text.result a d) (line_split number rest) (sends_then c.write_text.result a b d (codes "Error: near line " ++ (number ++ codes ": ")) rest front c.write_text.ensures)
