use Rattle.std.proofs.Common.{◌≡◌, [], sym, ap, ◌∙◌, arith, rules}
use Rattle.ft_store.specs.Range.{after_last}
use Rattle.ft_store.proofs.RangeLemmas.{after_last-end, none_of}
use Rattle.ft_store.proofs.lists.after_last.Goals as goal
use Rattle.ft_store.proofs.lists.after_last.Goals.{in-Some+in_ok-push, in_default}

pub returns : goal.returns
returns c =
    let copied : c.in_ok-end.end.items ≡ c.args.bytes.now = search rules in
    elim c.match-pop.branch [
      | in-Some+in_ok-push w ↦ ap (λ v. v.items) w.end-is ∙ w.in_ok-push.ensures.items ∙ sym (after_last-end c.pop.new.self.items w.in-Some.last) ∙ ap after_last (sym w.in-Some.ensures.items ∙ copied)
      | in_default w ↦
          let none : c.in_ok-end.end.items ≡ [] = none_of c.in_ok-end.end.items (omega (arith, w.in_default.ensures.cases)) in
          let gone : c.pop.new.self.items ≡ [] = none_of c.pop.new.self.items (omega (arith, w.in_default.ensures.cases)) in
          ap (λ v. v.items) w.end-is ∙ gone ∙ ap after_last (sym none ∙ copied)
    ]
