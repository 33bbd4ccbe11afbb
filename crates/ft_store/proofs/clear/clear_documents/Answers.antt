use Rattle.std.proofs.Common.{sym, subst, to_z-of_z}
use Rattle.ft_store.proofs.Common.{Database, state, without_index}
use Rattle.ft_store.specs.Inside.{without_contents}
use Rattle.ft_store.specs.Anew.{AreFree, AreNotes}
use Rattle.ft_store.proofs.InsideLemmas.{only}
use Rattle.ft_store.proofs.ClearLemmas.{looked_then}
use Rattle.ft_store.proofs.clear.clear_documents.Goals as goal

pub returns-in-Some : goal.returns-in-Some
returns-in-Some g c =
    let mid = (state g.S.Store c.notes_beside.new.tx.conn.now).now.trees in
    looked_then g.S.Store _ _ _ _ c.empty_documents.result (λ v. without_contents c.args.tab (without_index c.args.tab v)) (AreFree 0 c.args.tab mid × AreNotes mid c.as_slice.result.now) c.notes_beside.ensures.done.stays
    (λ clean inside store.
    let seen = (simp (to_z-of_z, c.ranges.tab) at c.in_ok-notes.ensures.done.steps) clean inside store in
    let both = rw c.in-Some.is at seen.2 in
    let free = subst (λ (d : Database). AreFree 0 c.args.tab d.trees) (sym seen.0.now) both.0 in
    let notes : AreNotes mid c.as_slice.result.now = rw c.as_slice.ensures.value (subst (λ (d : Database). AreNotes d.trees c.in-Some.notes.items) (sym seen.0.now) both.1) in (seen.0, (free, notes)))
    c.empty_documents.ensures.done.stays (λ seen. (simp (to_z-of_z, c.ranges.tab) at c.empty_documents.ensures.done.steps) seen.0 seen.1) (λ seen. (simp (to_z-of_z, c.ranges.tab) at c.empty_documents.ensures.grown) seen.0 seen.1) (λ seen. (simp (to_z-of_z, c.ranges.tab) at c.empty_documents.ensures.refused) seen.0 seen.1)

pub returns-in-None : goal.returns-in-None
returns-in-None g c =
    let deleted = simp (to_z-of_z, c.ranges.tab) at c.delete_documents.ensures in
    looked_then g.S.Store _ _ _ _ c.delete_documents.result (λ v. without_contents c.args.tab (without_index c.args.tab v)) (Unit {0}) c.notes_beside.ensures.done.stays (λ clean inside store. (let seen = (simp (to_z-of_z, c.ranges.tab) at c.in_ok-notes.ensures.done.steps) clean inside store in (seen.0, tt)))
    deleted.done.stays (λ _. deleted.done.steps) (λ _. deleted.grown) (λ _. only g.S.Store _ _ _ _ deleted)
