use Rattle.ft_files.proofs.HostLemmas.{both_open, names_refuse, store_refuses}
use Rattle.ft_files.proofs.hosted.open_both_in.Goals as goal

pub returns-then-not-is_free-2 : goal.returns-then-not-is_free-2
returns-then-not-is_free-2 g c = names_refuse g.D.Disk g.H.Databases.tells c.args.path.now c.args.beside.now c.requires.apart (g.H.Databases.holds c.args.host.now) (g.H.Databases.holds c.is_free.new.self) (g.H.Databases.holds c.is_free-2.new.self)
    c.store_fault.result c.store_fault.ensures c.is_free.ensures.stay c.is_free-2.ensures.stay

pub returns-in-Ok : goal.returns-in-Ok
returns-in-Ok g c = both_open g.D.Disk g.H.Databases.tells c.args.path.now c.args.beside.now c.requires.apart (g.H.Databases.holds c.args.host.now) (g.H.Databases.holds c.is_free.new.self) (g.H.Databases.holds c.is_free-2.new.self)
    (g.H.Databases.holds c.open_plain_in.new.host) (g.H.Databases.holds c.open_store_in.new.host) c.in_ok-plain.plain c.in-Ok.store c.is_free.ensures.stay c.is_free-2.ensures.stay c.in_ok-plain.ensures c.in-Ok.ensures

pub returns-in-Err : goal.returns-in-Err
returns-in-Err g c = store_refuses g.D.Disk g.H.Databases.tells c.args.path.now c.args.beside.now c.requires.apart (g.H.Databases.holds c.args.host.now) (g.H.Databases.holds c.is_free.new.self) (g.H.Databases.holds c.is_free-2.new.self)
    (g.H.Databases.holds c.open_plain_in.new.host) (g.H.Databases.holds c.open_store_in.new.host) (g.H.Databases.holds c.let_go_in.new.host) c.in_ok-plain.plain c.in-Err.fault c.is_free.ensures.stay c.is_free-2.ensures.stay c.in_ok-plain.ensures c.in-Err.ensures
    c.let_go_in.ensures.held c.let_go_in.ensures.others
