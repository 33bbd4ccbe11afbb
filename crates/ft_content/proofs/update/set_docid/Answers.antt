-- the first docid that a value gives
use Rattle.std.proofs.Common.{String, map, ap, sym, ◌∙◌, rules, tests, slice_get}
use Rattle.ft_content.proofs.Common.{YieldsList-from_slice, YieldsList-from_filter_map, Global, Value, set_of}
use Rattle.ft_content.proofs.GivenLemmas.{docid_given, docids_are, filter_map_of_map, first_item}
use Rattle.ft_content.proofs.update.set_docid.Goals as goal

pub returns : goal.returns
returns c =
    first_item c.next.result c.next.new.self c.next.ensures.steps (YieldsList-from_filter_map _ (λ (s : String Global × Value). docid_given (set_of s)) (YieldsList-from_slice c.args.sets.now cc) c.filter_map.ensures.closure (λ x r q k. search (rules, tests)))
    ∙ ap (λ ds. slice_get ds 0) (sym (filter_map_of_map docid_given set_of c.args.sets.now) ∙ sym (docids_are (map set_of c.args.sets.now)))
