-- the items as the definitions see them
use Rattle.std.proofs.Common.{◌≡◌, Bool, map, ◌||◌, ap, ◌∙◌, rules, tests}
use Rattle.ft_content.proofs.Common.{list_any, YieldsList-from_slice, item_unknown, items_in, is_offsets, names_unknown, bare_content, filter_of, item_of, items_of}
use Rattle.ft_content.proofs.Lists.{any_shown}
use Rattle.ft_content.proofs.select.select_tests.Goals.{Joined-items, in-Count, in-List, After-any-is_unknown, Joined-is_unknown, then-is_unknown, else-is_unknown, After-any_offsets, else-any_offsets-via-then-any_offsets+else-not-matches, else-any_offsets-via-else-any_offsets, in-Match, in_default}
use Rattle.ft_commands.specs.Command as plain
use Rattle.ft_content.proofs.select.select_tests.Goals as goal

listed : (c : Joined-items) → map item_of c.match-items.listed.now ≡ items_in (items_of c.args.items.now)
listed c = elim c.match-items.branch as (λ _. map item_of c.match-items.listed.now ≡ items_in (items_of c.args.items.now)) [ in-Count w ↦ search rules | in-List w ↦ search rules ]

unknown : (c : After-any-is_unknown) → c.any-is_unknown.result ≡ list_any (item_unknown c.args.table.now (bare_content c.args.columns.now)) (items_in (items_of c.args.items.now))
unknown c =
    let test : plain.Item → Bool = item_unknown c.args.table.now (bare_content c.args.columns.now) in
    any_shown test item_of _ _ _ c.any-is_unknown.ensures.ran (YieldsList-from_slice c.match-items.listed.now cc) (λ x b q k. search (rules, tests)) ∙ ap (list_any test) (listed (goal.at.After-any-is_unknown c).Joined-items)

either : (c : Joined-is_unknown) → c.if-is_unknown.value ≡ (list_any (item_unknown c.args.table.now (bare_content c.args.columns.now)) (items_in (items_of c.args.items.now)) || names_unknown c.args.table.now (bare_content c.args.columns.now) (filter_of c.args.filter.now))
either c =
    let first = unknown (goal.at.Joined-is_unknown c).After-any-is_unknown in
    elim c.if-is_unknown.branch as (λ _. c.if-is_unknown.value ≡ (list_any (item_unknown c.args.table.now (bare_content c.args.columns.now)) (items_in (items_of c.args.items.now)) || names_unknown c.args.table.now (bare_content c.args.columns.now) (filter_of c.args.filter.now)))
    [ then-is_unknown w ↦ search rules | else-is_unknown w ↦ search rules ]

offsets : (c : After-any_offsets) → c.any_offsets.result ≡ list_any is_offsets (items_in (items_of c.args.items.now))
offsets c = c.any_offsets.ensures ∙ ap (list_any is_offsets) (listed (goal.at.After-any_offsets c).Joined-items)

pub returns-then-names_unknown : goal.returns-then-names_unknown
returns-then-names_unknown c = let a = either (goal.at.returns-then-names_unknown c).Joined-is_unknown in search rules

pub returns-then-not-matches : goal.returns-then-not-matches
returns-then-not-matches c =
    let a = either (goal.at.returns-then-not-matches c).Joined-is_unknown in
    let b = offsets (goal.at.returns-then-not-matches c).After-any_offsets in
    elim c.match-matches.branch [ in-Match w ↦ search rules | in_default w ↦ search rules ]

pub returns-else-any_offsets : goal.returns-else-any_offsets
returns-else-any_offsets c =
    let a = either (goal.at.returns-else-any_offsets c).Joined-is_unknown in
    let b = offsets (goal.at.returns-else-any_offsets c).After-any_offsets in
    elim c.else-any_offsets.branch [
      | else-any_offsets-via-then-any_offsets+else-not-matches w ↦ elim w.match-matches.branch [ in-Match v ↦ search rules | in_default v ↦ search rules ]
      | else-any_offsets-via-else-any_offsets w ↦ search rules
    ]
