-- all documents by their docids
use Rattle.std.proofs.Common.{rules, ◌≡◌, ℤ, List, pos, length, to_z, w64, sym, ap, subst, ◌∙◌, to_z-of_z}
use Rattle.ft_index.proofs.Common.{length-map, Cell, chosen, filter_of, more_rows, HasRows, count_asked}
use Rattle.ft_commands.specs.declared.command.Filter.{Filter}
use Rattle.ft_documents.proofs.{chosen_all}
use Rattle.ft_index.proofs.select.chosen_count.Goals as goal

pub returns-in_ok-docids-in-All-clause-told : goal.returns-in_ok-docids-in-All-clause-told
returns-in_ok-docids-in-All-clause-told g c = λ content held reads.
    let here = subst (λ (k : ℤ). HasRows g.S.Store k c.args.store.now c.docids.new.store content) (sym (to_z-of_z c.ranges.tab)) held.rows in
    let count : to_z w64 c.len-in-All.result ≡ pos (length c.in_ok-docids-in-All.field-0.items) = search rules in
    count
    ∙ ap pos (ap length (c.in_ok-docids-in-All.ensures.told content here) ∙ length-map content.documents (λ (d : ℤ × List Cell). d.0)
    ∙ ap length (sym (ap (λ (f : Filter). chosen content (filter_of f)) c.in-All.is ∙ chosen_all content)))

pub returns-in_ok-docids-in-All-clause-counted : goal.returns-in_ok-docids-in-All-clause-counted
returns-in_ok-docids-in-All-clause-counted g c content held reads =
    let here = subst (λ (k : ℤ). HasRows g.S.Store k c.args.store.now c.docids.new.store content) (sym (to_z-of_z c.ranges.tab)) held.rows in
    c.in_ok-docids-in-All.ensures.counted content here
    ∙ ap (λ (f : Filter). more_rows (count_asked content (filter_of f)) c.args.store.now) (sym c.in-All.is)
