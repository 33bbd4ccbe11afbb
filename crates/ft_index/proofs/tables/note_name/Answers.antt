-- the store is asked, and then one row is changed
use Rattle.std.proofs.Common.{◌≡◌, ◌∷◌, [], Err, inr, refl, List, map, rules, subst, inl}
use Rattle.ft_index.proofs.Common.{Change, Note, shown_change, fault_of_read, MakesRows, Database, shows, CantPutAll}
use Rattle.ft_values.specs.declared.fault.Fault.TheVariants as faults
use Rattle.ft_index.proofs.Doing.{makes_nothing, makes_then, outside_of, unasked, is_refused, clean_before, note_can}
use Rattle.ft_store.specs.declared.fault.StoreFault.TheVariants as causes
use Rattle.ft_store.proofs.{blamed_then}
use Rattle.ft_index.proofs.tables.note_name.Goals as goal

pub returns-in_err-from_str-clause-makes : goal.returns-in_err-from_str-clause-makes
returns-in_err-from_str-clause-makes g c =
    let is : c.from_residual.result ≡ Err faults.Memory = search rules in
    unasked g.S.Store c.args.store.now (Note c.args.name.now ∷ []) c.from_residual.result faults.Memory is (inr refl)

pub returns-in_err-changes-clause-makes : goal.returns-in_err-changes-clause-makes
returns-in_err-changes-clause-makes g c =
    let is : c.from_residual-in_err-changes.result ≡ Err faults.Memory = search rules in
    unasked g.S.Store c.args.store.now (Note c.args.name.now ∷ []) c.from_residual-in_err-changes.result faults.Memory is (inr refl)

pub returns-in_err-ping-clause-makes : goal.returns-in_err-ping-clause-makes
returns-in_err-ping-clause-makes g c =
    let e = c.in_err-ping.field-0.0 in
    let is : c.from_residual-in_err-ping.result ≡ Err (fault_of_read e) = search rules in
    makes_nothing g.S.Store c.args.store.now c.ping.new.self _ c.ping.ensures (Note c.args.name.now ∷ []) c.from_residual-in_err-ping.result (fault_of_read e) is (outside_of e)

pub returns-clause-makes : goal.returns-clause-makes
returns-clause-makes g c =
    let same : map shown_change c.as_slice.result.now ≡ Note c.args.name.now ∷ [] = search rules in
    makes_then g.S.Store c.args.store.now c.ping.new.self _ c.ping.ensures c.in_ok-ping.ensures.live c.change_rows.new.store (Note c.args.name.now ∷ []) c.change_rows.result
    (subst (λ (cs : List Change). MakesRows g.S.Store c.ping.new.self c.change_rows.new.store cs c.change_rows.result) same c.change_rows.ensures.makes)

pub returns-in_err-ping-clause-refused : goal.returns-in_err-ping-clause-refused
returns-in_err-ping-clause-refused g c = λ clean told.
    let e = c.in_err-ping.field-0.0 in
    let is : c.from_residual-in_err-ping.result ≡ Err (fault_of_read e) = search rules in
    let why = is_refused e c.from_residual-in_err-ping.result is (search rules) told in
    let refused : c.ping.result ≡ Err causes.Refused = search rules in
    inl (c.ping.ensures.refused clean refused)

pub returns-clause-refused : goal.returns-clause-refused
returns-clause-refused g c = λ clean told.
    let old = shows g.S.Store c.args.store.now in
    let mid = shows g.S.Store c.ping.new.self in
    let new = shows g.S.Store c.change_rows.new.store in
    let same : map shown_change c.as_slice.result.now ≡ Note c.args.name.now ∷ [] = search rules in
    let mid_clean = clean_before mid new c.change_rows.ensures.makes.crash clean in
    let as_before = (c.ping.ensures.kept mid_clean (c.in_ok-ping.ensures.live mid_clean)).0 in
    elim (c.change_rows.ensures.refused (note_can c.args.name.now c.as_slice.result.now same) clean told) [
      | inl blamed ↦ inl (blamed_then old mid new _ _ mid_clean c.ping.ensures.survives c.change_rows.ensures.makes.crash blamed)
      | inr cant ↦ inr (subst (λ (d : Database). CantPutAll d.trees (Note c.args.name.now ∷ [])) as_before (subst (CantPutAll mid.now.trees) same cant))
    ]
