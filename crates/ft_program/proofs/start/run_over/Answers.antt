-- the inputs are run over both, or the store isn't read
use Rattle.std.proofs.Common.{inl, inr, refl, ap, ◌∙◌}
use Rattle.ft_program.specs.Closed.{AreHeldIn}
use Rattle.ft_program.proofs.InputLemmas.{runs_over}
use Rattle.ft_program.proofs.start.run_over.Goals as goal

pub returns-in-Err-clause-runs : goal.returns-in-Err-clause-runs
returns-in-Err-clause-runs g c = inl (record { told = record { out = refl; err = c.tell.ensures.line; ends = c.tell.ensures.status }; same = refl; looked = c.in-Err.ensures.refused })

pub returns-clause-runs : goal.returns-clause-runs
returns-clause-runs g c =
    inr (runs_over g.P.Store g.S.Store (λ parts. AreHeldIn g.P.Store g.S.Store parts c.into_parts-plain.result.0 c.into_store.result) c.args.work.settings c.args.plain c.args.store c.in-Ok.full_text _ c.run_all-ended.result _ _ c.new-session.result
    (record { parts = c.run_all-ended.new.session; on = record { out = g.O.Write.contents c.run_all-ended.new.outputs.out.now; err = g.E.Write.contents c.run_all-ended.new.outputs.err.now } })
    c.status_of-status.result c.in-Ok.ensures.opened c.is_settled.ensures c.new-session.ensures c.run_all-ended.ensures.runs
    (record { plain_is = c.into_parts-plain.ensures.plain; store_is = c.into_store.ensures ∙ ap (λ k. k.store) c.into_parts-plain.ensures.full_text }) refl c.status_of-status.ensures)
