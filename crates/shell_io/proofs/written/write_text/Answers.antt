-- the number
use Rattle.std.proofs.Common.{rules, ◌≡◌, ◌++◌, ◌∷◌, [], ℕ, List, codes, sym, subst}
use Rattle.std.specs.Fmt.{signed_decimal}
use Rattle.shell_io.specs.Texts.{text_as}
use Rattle.shell_io.specs.Writing.{Sends}
use Rattle.shell_io.proofs.written.write_text.Goals as goal

pub returns-in-DocidTaken : goal.returns-in-DocidTaken
returns-in-DocidTaken g c =
    let r = c.write_parts-in-DocidTaken.result in
    let a = g.W.Write.contents c.args.to.now in
    let b = g.W.Write.contents c.write_parts-in-DocidTaken.new.to in
    let is : c.format-docid.result.now ≡ signed_decimal c.in-DocidTaken.docid = search (rules, c.format-docid.ensures.text) in
    subst (λ text. Sends r a b (text_as text ++ 10 ∷ [])) (sym c.in-DocidTaken.is)
    (subst (λ (n : List ℕ). Sends r a b (codes "docid already exists: " ++ (n ++ 10 ∷ []))) is c.write_parts-in-DocidTaken.ensures)
