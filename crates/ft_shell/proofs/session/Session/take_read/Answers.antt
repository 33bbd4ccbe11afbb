-- a piece, or the end
use Rattle.std.proofs.Common.{rules, ◌≡◌, ◌≢◌, length, min}
use Rattle.ft_shell.proofs.PieceLemmas.{takes_none, takes_some}
use Rattle.ft_shell.proofs.session.Session.take_read.Goals as goal

pub returns-then-is_empty-clause-takes : goal.returns-then-is_empty-clause-takes
returns-then-is_empty-clause-takes g c =
    let none : length c.args.read.now ≡ 0 = search rules in
    takes_none g.P.Store g.S.Store c.finish.result c.args.room c.args.read.now _ _ _ _ none c.finish.ensures.runs

pub returns-clause-takes : goal.returns-clause-takes
returns-clause-takes g c =
    let some : length c.args.read.now ≢ 0 = search rules in
    let size : c.min.result ≡ min (length c.args.read.now) c.args.room = search rules in
    takes_some g.P.Store g.S.Store c.take.result c.args.room c.min.result c.args.read.now _ _ _ _ some size c.take.ensures.runs
