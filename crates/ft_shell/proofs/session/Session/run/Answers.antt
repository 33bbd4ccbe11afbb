-- its turns keep what the store holds
use Rattle.std.proofs.Common.{rules, ap, subst₂}
use Rattle.shell_io.specs.Sources.{Files}
use Rattle.ft_shell.proofs.Common.{shell_with, Console, RanAndKept}
use Rattle.ft_shell.proofs.PromiseLemmas.{ran_and_kept}
use Rattle.ft_shell.proofs.HoldsLemmas.{run_holds}
use Rattle.ft_shell.proofs.session.Session.run.Goals as goal

pub returns-clause-ran : goal.returns-clause-ran
returns-clause-ran g c =
    let old : Console g.row.P.Denot g.row.S.Denot = record { shell = shell_with c.args.self.now (g.F.Source.holds c.args.source.now); input = g.R.Read.remaining c.args.reader.now; out = g.O.Write.contents c.new.result.out.now; err = g.E.Write.contents c.new.result.err.now } in
    let new : Console g.row.P.Denot g.row.S.Denot = record { shell = shell_with c.run_pieces.new.self (g.F.Source.holds c.run_pieces.new.source); input = g.R.Read.remaining c.run_pieces.new.reader; out = g.O.Write.contents c.run_pieces.new.outputs.out.now; err = g.E.Write.contents c.run_pieces.new.outputs.err.now } in
    subst₂ (λ (a b : Console g.row.P.Denot g.row.S.Denot). RanAndKept g.P.Store g.S.Store c.run_pieces.result a b) (search rules) (search rules)
    (ran_and_kept g.P.Store g.S.Store c.run_pieces.result old new c.run_pieces.ensures.runs c.is_settled.ensures c.kept_by_runs.ensures)

pub returns-clause-source : goal.returns-clause-source
returns-clause-source g c =
    let old : Console g.row.P.Denot g.row.S.Denot = record { shell = shell_with c.args.self.now (g.F.Source.holds c.args.source.now); input = g.R.Read.remaining c.args.reader.now; out = g.O.Write.contents c.new.result.out.now; err = g.E.Write.contents c.new.result.err.now } in
    let new : Console g.row.P.Denot g.row.S.Denot = record { shell = shell_with c.run_pieces.new.self (g.F.Source.holds c.run_pieces.new.source); input = g.R.Read.remaining c.run_pieces.new.reader; out = g.O.Write.contents c.run_pieces.new.outputs.out.now; err = g.E.Write.contents c.run_pieces.new.outputs.err.now } in
    let ran : RanAndKept g.P.Store g.S.Store c.run_pieces.result old new = ran_and_kept g.P.Store g.S.Store c.run_pieces.result old new c.run_pieces.ensures.runs c.is_settled.ensures c.kept_by_runs.ensures in
    λ name. ap (λ (files : Files). files name) (run_holds g.P.Store g.S.Store c.run_pieces.result old new ran)
