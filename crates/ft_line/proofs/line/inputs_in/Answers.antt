-- the texts that were found
use Rattle.std.proofs.Common.{◌∙◌, [], map, option_map, sym, ap, codes, string_bytes}
use Rattle.std.proofs.lemmas.Result.{IfOk-weaker}
use Rattle.std.specs.Prelude.{unwrap_or}
use Rattle.clap.specs.Matches.{found_of}
use Rattle.clap.proofs.WalkLemmas.{raw_values-rows}
use Rattle.ft_line.proofs.line.inputs_in.Goals as goal

pub returns-in-Some : goal.returns-in-Some
returns-in-Some c =
    let found = sym (ap (option_map (λ s. map (λ v. v.now) s.now)) c.in-Some.is) ∙ c.get_raw.ensures ∙ raw_values-rows (found_of c.args.matches.now) (codes "SQL") in
    IfOk-weaker c.copied.result _ _ (λ inputs is. is ∙ ap (λ o. unwrap_or o []) found) c.copied.ensures

pub returns-in-None : goal.returns-in-None
returns-in-None c =
    let found = sym (ap (option_map (λ s. map (λ v. v.now) s.now)) c.in-None.is) ∙ c.get_raw.ensures ∙ raw_values-rows (found_of c.args.matches.now) (codes "SQL") in
    ap (map string_bytes) c.new.ensures.items ∙ ap (λ o. unwrap_or o []) found
