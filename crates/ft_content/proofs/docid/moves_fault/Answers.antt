-- by the docid that is set
use Rattle.std.proofs.Common.{to_z, of_z, ◌≡◌, ◌<◌, ◌≤◌, Bool, not, ◌&&◌, cond, List, [], ◌∷◌, length, get_or, ℤ, pos, Option, Some, None, subst, sym, ap, ◌∙◌, rules, arith, IfSome, slice_get}
use Rattle.ft_content.proofs.Common.{w64, int_eq, Documents, has_docid, move_fault, moves_fault, docids_of}
use Rattle.ft_content.proofs.LastLemmas.{moves_by_first}
use Rattle.ft_content.proofs.docid.moves_fault.Goals.{Joined-not-is_taken, then-not-is_taken, else-not-is_taken}
use Rattle.ft_values.specs.declared.fault.Fault.TheVariants as faults
use Rattle.ft_content.proofs.docid.moves_fault.Goals as goal

-- one document moves where another has that docid
one : (documents picked : Documents) (chosen : List ℤ) (docid : ℤ) → docids_of picked ≡ chosen → 1 ≤ length chosen → length chosen < 2 →
    move_fault documents picked docid ≡ cond (has_docid documents docid && not (int_eq (get_or chosen 0 (pos 0)) docid)) (Some (faults.DocidTaken docid)) None
one documents picked [] docid same some few = absurd (omega arith)
one documents picked (d ∷ e ∷ chosen) docid same some few = absurd (omega arith)
one documents [] (only ∷ []) docid same some few = absurd (let no = same in cc)
one documents (d ∷ []) (only ∷ []) docid same some few =
    let is : d.0 ≡ only = cc in ap (λ (k : ℤ). cond (has_docid documents docid && not (int_eq k docid)) (Some (faults.DocidTaken docid)) None) is
one documents (d ∷ e ∷ picked) (only ∷ []) docid same some few = absurd (let no = same in cc)

moved : (c : Joined-not-is_taken) (documents picked : Documents) (docids : List ℤ) → docids_of picked ≡ c.args.chosen.now → slice_get docids 0 ≡ c.args.given
    → IfSome c.args.given (λ docid. has_docid documents docid ≡ c.args.is_taken)
    → moves_fault documents picked docids ≡ cond (not c.if-not-is_taken.value) (Some (faults.DocidTaken c.in_ok-docid.docid)) None
moved c documents picked docids same first taken =
    let only = get_or c.args.chosen.now 0 (pos 0) in
    let there : has_docid documents c.in_ok-docid.docid ≡ c.args.is_taken = subst (λ (o : Option ℤ). IfSome o (λ docid. has_docid documents docid ≡ c.args.is_taken)) c.in_ok-docid.was taken in
    let by : (c.args.is_taken && not (int_eq only c.in_ok-docid.docid)) ≡ not c.if-not-is_taken.value =
    elim c.if-not-is_taken.branch as (λ _. (c.args.is_taken && not (int_eq (get_or c.args.chosen.now 0 (pos 0)) c.in_ok-docid.docid)) ≡ not c.if-not-is_taken.value) [ then-not-is_taken w ↦ search rules | else-not-is_taken w ↦ search rules ] in
    moves_by_first documents picked docids c.in_ok-docid.docid (first ∙ c.in_ok-docid.was) ∙ one documents picked c.args.chosen.now c.in_ok-docid.docid same c.in-len1.len_at_least c.in-len1.len_below
    ∙ ap (λ (b : Bool). cond b (Some (faults.DocidTaken c.in_ok-docid.docid)) None) (ap (λ b. b && not (int_eq only c.in_ok-docid.docid)) there ∙ by)

pub returns-in-len1 : goal.returns-in-len1
returns-in-len1 c = λ documents picked docids same first taken.
    sym (moved (goal.at.returns-in-len1 c).Joined-not-is_taken documents picked docids same first taken ∙ ap (λ (b : Bool). cond (not b) (Some (faults.DocidTaken c.in_ok-docid.docid)) None) c.if-only-docid.true)

pub returns-in_default : goal.returns-in_default
returns-in_default c = λ documents picked docids same first taken.
    let back : to_z w64 (of_z w64 c.in_ok-docid.docid) ≡ c.in_ok-docid.docid = search rules in
    sym (moved (goal.at.returns-in_default c).Joined-not-is_taken documents picked docids same first taken ∙ ap (λ (b : Bool). cond (not b) (Some (faults.DocidTaken c.in_ok-docid.docid)) None) c.if-only-docid.false ∙ ap (λ (d : ℤ). Some (faults.DocidTaken d)) (sym back))
