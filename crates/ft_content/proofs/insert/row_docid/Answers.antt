-- the first docid that a value gives
use Rattle.std.proofs.Common.{ℕ, List, map, ap, sym, ◌∙◌, rules, tests, slice_get, zip, Bor}
use Rattle.ft_content.proofs.Common.{filter_map, YieldsList-from_slice, YieldsList-from_zip, YieldsList-from_filter_map, Value, shown_value}
use Rattle.ft_content.proofs.GivenLemmas.{docid_given, docids_are, filter_map_of_map, first_item, given, zip_of_maps}
use Rattle.ft_content.proofs.insert.row_docid.Goals as goal

pub returns : goal.returns
returns c =
    first_item c.next.result c.next.new.self c.next.ensures.steps (YieldsList-from_filter_map _ (λ (p : Bor (List ℕ) × Value). docid_given (given p)) (YieldsList-from_zip (YieldsList-from_slice c.args.names.now cc) (YieldsList-from_slice c.args.row.now cc)) c.filter_map.ensures.closure (λ x r q k. search (rules, tests)))
    ∙ ap (λ ds. slice_get ds 0) (sym (filter_map_of_map docid_given given (zip c.args.names.now c.args.row.now)) ∙ ap (filter_map docid_given) (sym (zip_of_maps (λ (n : Bor (List ℕ)). n.now) shown_value c.args.names.now c.args.row.now))
    ∙ sym (docids_are (zip (map (λ (n : Bor (List ℕ)). n.now) c.args.names.now) (map shown_value c.args.row.now))))
