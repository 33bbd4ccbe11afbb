-- what is found is taken or not, and its rowids are apart since it comes from files
use Rattle.std.proofs.Common.{inr, sym, subst}
use Rattle.ft_opening.proofs.Common.{IfOk-weaker, IfErr-weaker, Database, AreFoundIn}
use Rattle.sqlite_wal.specs.Files.{image_at}
use Rattle.ft_opening.proofs.FoundLemmas.{found_numbered}
use Rattle.ft_opening.proofs.stores.open_from.Goals as goal

pub taken-requires-clause-known : goal.taken-requires-clause-known
taken-requires-clause-known g c clean is_open =
    let given = c.in_ok-conn.ensures in
    let opened = given.opened clean in
    let live = opened.1 is_open in
    found_numbered _ _ _ (subst (λ (d : Database). AreFoundIn (image_at g.B.Start) d.trees) (sym opened.0.clean) (given.found clean).reads) live.0

pub returns-clause-opened : goal.returns-clause-opened
returns-clause-opened g c =
    let new = c.in_ok-conn.ensures.fresh in
    IfOk-weaker c.taken.result _ _ (λ store taken. record { conn = c.in_ok-conn.conn; fresh = new; opened = c.in_ok-conn.ensures.opened; found = c.in_ok-conn.ensures.found; taken = taken.0; left = taken.1 })
    c.taken.ensures.taken

pub returns-clause-refused : goal.returns-clause-refused
returns-clause-refused g c =
    let new = c.in_ok-conn.ensures.fresh in
    IfErr-weaker c.taken.result _ _ (λ cause left. inr (record { conn = c.in_ok-conn.conn; fresh = new; opened = c.in_ok-conn.ensures.opened; found = c.in_ok-conn.ensures.found; after = left.new; refused = left.refused; left = left.left }))
    c.taken.ensures.refused
