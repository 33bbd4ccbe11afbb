-- by the groups
use Rattle.std.proofs.Common.{rules, ◌≡◌, ◌++◌, Err, Ok, List, map, sym, ap, subst, ◌∙◌, flat_map, vec_items}
use Rattle.ft_index.proofs.Common.{Change, changes_in, column_of, MakesRows, first_parts, MakesWritten, BlamesMade}
use Rattle.std.specs.Vec.Iter.{into_iter_items}
use Rattle.ft_values.specs.declared.fault.Fault.TheVariants as faults
use Rattle.ft_index.proofs.GroupLemmas.{parts_of, parts_behind, of_groups, own_groups, makes_nothing}
use Rattle.ft_index.proofs.Doing.{made_blamed}
use Rattle.ft_index.proofs.written.Written.make.Goals as goal

pub returns-in_err-groups : goal.returns-in_err-groups
returns-in_err-groups g c =
    let refused : c.from_residual.result ≡ Err faults.Memory = search rules in
    subst (MakesWritten g.S.Store (changes_in (first_parts c.args.first)) c.args.self c.args.store.now c.args.store.now) (sym refused) (makes_nothing c.args.self g.S.Store (changes_in (first_parts c.args.first)) c.args.store.now)

pub returns-in_err-change_parts : goal.returns-in_err-change_parts
returns-in_err-change_parts g c =
    let table = c.args.self.table.now in
    let groups = into_iter_items c.into_iter.result in
    let parts = parts_of table.id (map column_of table.columns.items) groups in
    let makes : MakesRows g.S.Store c.args.store.now c.change_parts.new.self (changes_in (first_parts c.args.first ++ parts)) c.from_residual-in_err-change_parts.result = search rules in
    record {
      changes = changes_in parts;
      of_written = of_groups c.args.self groups (ap (flat_map vec_items) c.into_iter.ensures.rest ∙ c.in_ok-groups.ensures.whole);
      own = own_groups c.args.self groups (ap (flat_map vec_items) c.into_iter.ensures.rest ∙ c.in_ok-groups.ensures.whole);
      makes = subst (λ (cs : List Change). MakesRows g.S.Store c.args.store.now c.change_parts.new.self cs c.from_residual-in_err-change_parts.result) (parts_behind c.args.first parts) makes;
      refused = subst (BlamesMade g.S.Store c.args.store.now c.change_parts.new.self c.from_residual-in_err-change_parts.result) (parts_behind c.args.first parts)
          (made_blamed g.S.Store c.args.store.now c.change_parts.new.self (changes_in (first_parts c.args.first ++ parts)) c.in_err-change_parts.field-0.0 c.change_parts.result c.from_residual-in_err-change_parts.result (search rules) (search rules) (search rules) (search rules));
    }

pub returns : goal.returns
returns g c =
    let table = c.args.self.table.now in
    let groups = into_iter_items c.into_iter.result in
    let parts = parts_of table.id (map column_of table.columns.items) groups in
    let makes : MakesRows g.S.Store c.args.store.now c.change_parts.new.self (changes_in (first_parts c.args.first ++ parts)) (Ok (tt {0})) = search rules in
    record {
      changes = changes_in parts;
      of_written = of_groups c.args.self groups (ap (flat_map vec_items) c.into_iter.ensures.rest ∙ c.in_ok-groups.ensures.whole);
      own = own_groups c.args.self groups (ap (flat_map vec_items) c.into_iter.ensures.rest ∙ c.in_ok-groups.ensures.whole);
      makes = subst (λ (cs : List Change). MakesRows g.S.Store c.args.store.now c.change_parts.new.self cs (Ok (tt {0}))) (parts_behind c.args.first parts) makes;
      refused = λ clean told. absurd (let no = told in cc);
    }
