-- the command is simple, so its matches and its errors are known
use Rattle.std.proofs.Common.{◌≡◌, ◌∙◌, true, refl, ap, subst, sym, map, string_bytes, inl, inr}
use Rattle.clap.specs.Words.{App, IsAmong, fault_of, is_simple, is_simple_and_free, kind_of, matches_of}
use Rattle.clap.proofs.OnLiterals.{clap_on_literals}
use Rattle.ft_line.specs.Line.{ft4sh}
use Rattle.ft_line.proofs.line.matches_in.Goals as goal

simple : is_simple ft4sh ≡ true
unfolding clap_on_literals
simple = refl

free : is_simple_and_free ft4sh ≡ true
unfolding clap_on_literals
free = refl

pub returns-in-Ok-clause-ok : goal.returns-in-Ok-clause-ok
returns-in-Ok-clause-ok c =
    let is = c.in_ok-command.ensures in
    let words = map string_bytes c.args.words.now in (
      sym (ap (λ (a : App). fault_of a words) is) ∙ c.in-Ok.ensures.kinds (ap is_simple_and_free is ∙ free),
      (c.in-Ok.ensures.matches (ap is_simple is ∙ simple)).0 ∙ ap (λ (a : App). matches_of a words) is,
    )

pub returns-in_default : goal.returns-in_default
returns-in_default c =
    let is = c.in_ok-command.ensures in
    let words = map string_bytes c.args.words.now in
    record {
      ok = tt;
      err = elim (c.in-Err.ensures.kinds (ap is_simple_and_free is ∙ free)) [
        | inl memory ↦ absurd (c.in_default.not-OutOfMemory (c.kind.ensures ∙ memory))
        | inr among ↦ subst (λ (a : App). IsAmong (kind_of c.in-Err.error) (fault_of a words)) is among
      ];
    }
