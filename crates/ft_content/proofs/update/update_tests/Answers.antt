-- the values under their names
use Rattle.std.proofs.Common.{◌≡◌, not, ◌&&◌, ◌||◌, String, map, length, ap, sym, ◌∙◌, rules, tests}
use Rattle.ft_content.proofs.Common.{list_any, list_all, YieldsList-from_slice, YieldsList-from_filter_map, count_from_yields_List, Global, Value, is_docid, is_too_long, has_nul, has_column, is_text, is_null, docids_named, names_unknown, bare_content, filter_of, set_of}
use Rattle.ft_content.proofs.Lists.{any_shown, all_shown}
use Rattle.ft_content.proofs.GivenLemmas.{filter_map_of_map, docid_given, docids_are}
use Rattle.ft_content.proofs.update.update_tests.Goals.{After-all, Joined-not-all, then-not-all, else-not-all, After-any, After-count-docids, After-any-else-docids-gt1, After-any-else-any-2}
use Rattle.ft_content.proofs.update.update_tests.Goals as goal

known : (c : After-all) → c.all.result ≡ list_all (λ s. has_column (bare_content c.args.columns.now) s.0) (map set_of c.args.sets.now)
known c = all_shown (λ s. has_column (bare_content c.args.columns.now) s.0) set_of _ _ _ c.all.ensures.ran (YieldsList-from_slice c.args.sets.now cc) (λ x b q k. search (rules, tests))

unknown : (c : Joined-not-all) → c.if-not-all.value ≡ (not (list_all (λ s. has_column (bare_content c.args.columns.now) s.0) (map set_of c.args.sets.now)) || names_unknown c.args.table.now (bare_content c.args.columns.now) (filter_of c.args.filter.now))
unknown c =
    let all = known (goal.at.Joined-not-all c).After-all in
    elim c.if-not-all.branch as (λ _. c.if-not-all.value ≡ (not (list_all (λ s. has_column (bare_content c.args.columns.now) s.0) (map set_of c.args.sets.now)) || names_unknown c.args.table.now (bare_content c.args.columns.now) (filter_of c.args.filter.now)))
    [ then-not-all w ↦ search rules | else-not-all w ↦ search rules ]

other : (c : After-any) → c.any.result ≡ list_any (λ s. is_docid s.0 && (is_text s.1 || is_null s.1)) (map set_of c.args.sets.now)
other c = any_shown (λ s. is_docid s.0 && (is_text s.1 || is_null s.1)) set_of _ _ _ c.any.ensures.ran (YieldsList-from_slice c.args.sets.now cc) (λ x b q k. search (rules, tests))

counted : (c : After-count-docids) → c.count-docids.result ≡ length (docids_named (map set_of c.args.sets.now))
counted c =
    count_from_yields_List _ _ c.count-docids.ensures.ran (YieldsList-from_filter_map _ (λ (s : String Global × Value). docid_given (set_of s)) (YieldsList-from_slice c.args.sets.now cc) c.filter_map.ensures.closure (λ x r q k. search (rules, tests)))
    ∙ ap length (sym (filter_map_of_map docid_given set_of c.args.sets.now) ∙ sym (docids_are (map set_of c.args.sets.now)))

long : (c : After-any-else-docids-gt1) → c.any-else-docids-gt1.result ≡ list_any (λ s. is_too_long s.1) (map set_of c.args.sets.now)
long c = any_shown (λ s. is_too_long s.1) set_of _ _ _ c.any-else-docids-gt1.ensures.ran (YieldsList-from_slice c.args.sets.now cc) (λ x b q k. search (rules, tests))

nul : (c : After-any-else-any-2) → c.any-else-any-2.result ≡ list_any (λ s. has_nul s.1) (map set_of c.args.sets.now)
nul c = any_shown (λ s. has_nul s.1) set_of _ _ _ c.any-else-any-2.ensures.ran (YieldsList-from_slice c.args.sets.now cc) (λ x b q k. search (rules, tests))

pub returns-then-names_unknown : goal.returns-then-names_unknown
returns-then-names_unknown c =
    let a = unknown (goal.at.returns-then-names_unknown c).Joined-not-all in search rules

pub returns-then-any : goal.returns-then-any
returns-then-any c =
    let a = unknown (goal.at.returns-then-any c).Joined-not-all in let b = other (goal.at.returns-then-any c).After-any in search rules

pub returns-then-docids-gt1 : goal.returns-then-docids-gt1
returns-then-docids-gt1 c =
    let a = unknown (goal.at.returns-then-docids-gt1 c).Joined-not-all in let b = other (goal.at.returns-then-docids-gt1 c).After-any in
    let d = counted (goal.at.returns-then-docids-gt1 c).After-count-docids in search rules

pub returns-then-any-2 : goal.returns-then-any-2
returns-then-any-2 c =
    let a = unknown (goal.at.returns-then-any-2 c).Joined-not-all in let b = other (goal.at.returns-then-any-2 c).After-any in
    let d = counted (goal.at.returns-then-any-2 c).After-count-docids in let e = long (goal.at.returns-then-any-2 c).After-any-else-docids-gt1 in search rules

pub returns-then-any-3 : goal.returns-then-any-3
returns-then-any-3 c =
    let a = unknown (goal.at.returns-then-any-3 c).Joined-not-all in let b = other (goal.at.returns-then-any-3 c).After-any in
    let d = counted (goal.at.returns-then-any-3 c).After-count-docids in let e = long (goal.at.returns-then-any-3 c).After-any-else-docids-gt1 in
    let f = nul (goal.at.returns-then-any-3 c).After-any-else-any-2 in search rules

pub returns-else-any-3 : goal.returns-else-any-3
returns-else-any-3 c =
    let a = unknown (goal.at.returns-else-any-3 c).Joined-not-all in let b = other (goal.at.returns-else-any-3 c).After-any in
    let d = counted (goal.at.returns-else-any-3 c).After-count-docids in let e = long (goal.at.returns-else-any-3 c).After-any-else-docids-gt1 in
    let f = nul (goal.at.returns-else-any-3 c).After-any-else-any-2 in search rules
