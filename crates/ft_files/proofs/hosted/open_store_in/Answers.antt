use Rattle.std.proofs.Common.{inl, refl, sym, subst}
use Rattle.sqlite.specs.Effect.{Database}
use Rattle.sqlite.specs.Files.{AreFoundIn}
use Rattle.ft_opening.proofs.{found_numbered}
use Rattle.ft_files.proofs.HostLemmas.{refuses_store, takes_no_store, takes_store}
use Rattle.ft_files.proofs.hosted.open_store_in.Goals as goal

pub returns-then-not-make_beside : goal.returns-then-not-make_beside
returns-then-not-make_beside g c = refuses_store g.D.Disk g.H.Databases.tells c.args.name.now (g.H.Databases.holds c.args.host.now) (g.H.Databases.holds c.make_beside.new.self) (g.H.Databases.holds c.make_beside.new.self) c.store_fault.result
    c.store_fault.ensures c.make_beside.ensures.stay (λ t. inl refl) (λ t other apart. refl)

-- the rowids of what is found in files are apart
pub adopt_opened-requires-clause-known : goal.adopt_opened-requires-clause-known
adopt_opened-requires-clause-known g c clean is_open =
    let found = c.in-Ok.ensures.opened in
    let opened = found.2.opened clean in
    found_numbered found.0 _ _ (subst (λ (d : Database). AreFoundIn found.0 d.trees) (sym opened.0.clean) (found.2.found clean).reads) (opened.1 is_open).0

pub returns-in-Ok-adopt_opened : goal.returns-in-Ok-adopt_opened
returns-in-Ok-adopt_opened g c =
    let found = c.in-Ok.ensures.opened in
    let taken = c.in-Ok-adopt_opened.ensures.taken in
    takes_store g.D.Disk g.H.Databases.tells c.args.name.now (g.H.Databases.holds c.args.host.now) (g.H.Databases.holds c.make_beside.new.self) (g.H.Databases.holds c.open_plain_in.new.host) c.in-Ok.conn c.in-Ok-adopt_opened.store
    c.make_beside.ensures.stay found.0 found.1 found.2 taken.0 taken.1 taken.2 c.in-Ok.ensures.others

pub returns-in-Err-adopt_opened : goal.returns-in-Err-adopt_opened
returns-in-Err-adopt_opened g c =
    let found = c.in-Ok.ensures.opened in
    let refused = c.in-Err-adopt_opened.ensures.refused in
    takes_no_store g.D.Disk g.H.Databases.tells c.args.name.now (g.H.Databases.holds c.args.host.now) (g.H.Databases.holds c.make_beside.new.self) (g.H.Databases.holds c.open_plain_in.new.host) (g.H.Databases.holds c.let_go_in.new.host) c.in-Ok.conn
    c.in-Err-adopt_opened.fault.connection c.in-Err-adopt_opened.fault.cause c.store_fault-in-Err-adopt_opened.result c.store_fault-in-Err-adopt_opened.ensures c.make_beside.ensures.stay found.0 found.1 found.2 refused.0 refused.1
    c.let_go_in.ensures.held c.in-Ok.ensures.others c.let_go_in.ensures.others

pub returns-in-Err : goal.returns-in-Err
returns-in-Err g c = refuses_store g.D.Disk g.H.Databases.tells c.args.name.now (g.H.Databases.holds c.args.host.now) (g.H.Databases.holds c.make_beside.new.self) (g.H.Databases.holds c.open_plain_in.new.host) c.store_fault-in-Err.result
    c.store_fault-in-Err.ensures c.make_beside.ensures.stay c.in-Err.ensures.refused.1 c.in-Err.ensures.others
