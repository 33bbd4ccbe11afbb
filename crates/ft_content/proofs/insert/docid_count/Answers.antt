-- the values that give a docid
use Rattle.std.proofs.Common.{ℕ, List, map, length, ap, sym, ◌∙◌, rules, tests, zip, Bor}
use Rattle.ft_content.proofs.Common.{filter_map, YieldsList-from_slice, YieldsList-from_zip, YieldsList-from_filter_map, count_from_yields_List, Value, Cell, shown_value}
use Rattle.ft_content.proofs.GivenLemmas.{zip_of_maps, filter_map_of_map, docid_given, docids_are}
use Rattle.ft_content.proofs.insert.docid_count.Goals as goal

pub returns : goal.returns
returns c =
    let shown : Bor (List ℕ) × Value → List ℕ × Cell = λ (p : Bor (List ℕ) × Value). (p.0.now, shown_value p.1) in
    count_from_yields_List _ _ c.count.ensures.ran (YieldsList-from_filter_map _ (λ (p : Bor (List ℕ) × Value). docid_given (shown p)) (YieldsList-from_zip (YieldsList-from_slice c.args.names.now cc) (YieldsList-from_slice c.args.row.now cc)) c.filter_map.ensures.closure (λ x r q k. search (rules, tests)))
    ∙ ap length (sym (filter_map_of_map docid_given shown (zip c.args.names.now c.args.row.now)) ∙ ap (filter_map docid_given) (sym (zip_of_maps (λ (n : Bor (List ℕ)). n.now) shown_value c.args.names.now c.args.row.now))
    ∙ sym (docids_are (zip (map (λ (n : Bor (List ℕ)). n.now) c.args.names.now) (map shown_value c.args.row.now))))
