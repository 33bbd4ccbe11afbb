use Rattle.std.proofs.Common.{◌≡◌, ◌≢◌, List, [], ◌++◌, ◌∙◌, map, ap₂, rules, IsUtf8}
use Rattle.ft_store.proofs.Common.{column, bytes, ListKey, shown_entry, entries_with, entries_of_list}
use Rattle.ft_values.specs.declared.rows.Spot.{Spot}
use Rattle.ft_store.specs.Found.{found_spots, found_places}
use Rattle.ft_store.proofs.EntryLemmas.{all_more, others_more, other_last, entries_more}
use Rattle.ft_store.proofs.lists.EntriesOfGathered.add.Goals as goal

-- an entry of such a list can be told
abbrev IsTold : ListKey × List Spot → Type 0
IsTold l = (l.1 ≢ []) × IsUtf8 l.0.1

pub returns-then-not-whole-clause-added : goal.returns-then-not-whole-clause-added
returns-then-not-whole-clause-added c = λ rows h tab. others_more IsTold (found_places tab) c.args.row.now rows (rw c.if-not-whole.true at (h tab))

pub returns-in_default-clause-added : goal.returns-in_default-clause-added
returns-in_default-clause-added c = λ rows h tab.
    let none : (found_spots c.args.row.now).1 ≡ [] = search rules in
    other_last IsTold (found_places tab) c.args.row.now rows (λ told. told.0 none)

pub returns-in_default-2-clause-added : goal.returns-in_default-2-clause-added
returns-in_default-2-clause-added c = λ rows h tab.
    let no_text : ¬ (IsUtf8 (bytes (column c.args.row.now 2))) = search rules in
    other_last IsTold (found_places tab) c.args.row.now rows (λ told. no_text told.1)

pub returns-clause-added : goal.returns-clause-added
returns-clause-added c = λ rows h tab.
    let row = c.args.row.now in
    let before = rw c.if-not-whole.false at (h tab) in
    let found = rw c.in-Some.is at c.in_ok-list.ensures.found.found in
    let term = rw c.in-Some-2.is at c.in_ok-term.ensures.found.found in
    let old = map shown_entry c.args.self.now.entries.items in (
      entries_more (found_places tab) row entries_of_list rows old _ (c.in_ok-push_entries.ensures ∙ ap₂ (λ t l. old ++ entries_with t l) term.0 found.0) before.0,
      all_more IsTold (found_places tab) row rows before.1 (found.1, term.1),
    )
