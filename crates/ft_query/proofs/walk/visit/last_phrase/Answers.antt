use Rattle.std.proofs.Common.{◌≡◌, List, [], ◌∷◌, length, refl, sym, ap, ◌∙◌, arith}
use Rattle.ft_query.proofs.Common.{Link, Phrase, last_phrase}
use Rattle.ft_query.proofs.Passes.{last_push}
use Rattle.ft_query.proofs.walk.visit.last_phrase.Goals as goal

last_none : (first : Phrase) (links : List Link) → length links ≡ 0 → last_phrase first links ≡ first
last_none first [] none = refl
last_none first (link ∷ links) none = absurd (omega arith)

pub returns-in-Some : goal.returns-in-Some
returns-in-Some c =
    sym (ap (last_phrase c.args.first.now) c.in-Some.ensures.cases.0 ∙ last_push c.args.first.now c.in-Some.field-0-1.now c.in-Some.link.now)

pub returns-in-None : goal.returns-in-None
returns-in-None c = sym (last_none c.args.first.now c.args.links.now c.in-None.ensures.cases)
