use Rattle.std.proofs.Common.{refl, to_z-of_z}
use Rattle.ft_store.proofs.Common.{PutEntries}
use Rattle.ft_store.proofs.MadeLemmas.{one_made}
use Rattle.ft_store.proofs.PutLemmas.{packed_back}
use Rattle.ft_store.proofs.write.put_entries.Goals as goal

pub returns : goal.returns
returns g c =
    let can = c.can_pack.ensures.can c.if-not-can_pack.false in
    one_made g.S.Store _ _ _ (PutEntries c.args.tab c.args.term.now c.args.docid c.args.spots.now) _ refl can
    (rw (packed_back c.args.spots.now can) at (simp (to_z-of_z, c.ranges.tab, c.ranges.docid) at (rw (c.as_slice.ensures.value, c.in_ok-list.ensures) at c.put_list.ensures)))
