use Rattle.std.specs.Prelude.{Ok}
use Rattle.ft_files.specs.Hosts.{OpensPlainIn}
use Rattle.ft_files.proofs.HostLemmas.{opens_plain, refuses_plain}
use Rattle.ft_files.proofs.hosted.open_plain_in.Goals as goal

pub returns-in-Ok : goal.returns-in-Ok
returns-in-Ok g c =
    let it : OpensPlainIn g.D.Disk g.H.Databases.tells c.args.name.now (g.H.Databases.holds c.args.host.now) (g.H.Databases.holds c.open.new.self) (Ok c.in-Ok.conn) =
    opens_plain g.D.Disk g.H.Databases.tells c.args.name.now (g.H.Databases.holds c.args.host.now) (g.H.Databases.holds c.open.new.self) c.in-Some.field-0.files c.in-Ok.conn
    c.in-Some.ensures.held c.in-Ok.ensures.fresh c.in-Ok.ensures.opened c.in-Ok.ensures.found c.open.ensures.others
    in
    rw c.set_clock.ensures it

pub returns-in-Err : goal.returns-in-Err
returns-in-Err g c =
    refuses_plain g.D.Disk g.H.Databases.tells c.args.name.now (g.H.Databases.holds c.args.host.now) (g.H.Databases.holds c.open.new.self) (g.H.Databases.holds c.close.new.self) c.in-Some.field-0.files c.into_files.result c.in-Err.rest
    c.in-Some.ensures.held c.in-Err.ensures.unharmed c.into_files.ensures c.close.ensures.held c.open.ensures.others c.close.ensures.others
