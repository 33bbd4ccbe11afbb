-- the values under their names
use Rattle.std.proofs.Common.{ℕ, List, ◌&&◌, ap, sym, ◌∙◌, rules, tests, Bor}
use Rattle.ft_content.proofs.Common.{list_any, YieldsList-from_slice, YieldsList-from_zip, Cell, shown_value, is_docid, is_text}
use Rattle.ft_content.proofs.Lists.{any_shown}
use Rattle.ft_content.proofs.GivenLemmas.{given, zip_of_maps}
use Rattle.ft_content.proofs.insert.gives_text.Goals as goal

pub returns : goal.returns
returns c =
    any_shown (λ v. is_docid v.0 && is_text v.1) given c.any.new.self _ _ c.any.ensures.ran (YieldsList-from_zip (YieldsList-from_slice c.args.names.now cc) (YieldsList-from_slice c.args.row.now cc)) (λ x b q k. search (rules, tests))
    ∙ ap (list_any (λ (v : List ℕ × Cell). is_docid v.0 && is_text v.1)) (sym (zip_of_maps (λ (n : Bor (List ℕ)). n.now) shown_value c.args.names.now c.args.row.now))
