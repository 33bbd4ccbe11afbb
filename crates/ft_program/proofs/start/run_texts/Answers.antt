-- one text after the other
use Rattle.std.proofs.Common.{rules, ◌≡◌, ◌+◌, ◌-◌, ◌^◌, min, map, drop, Some, Err, true, false, string_bytes, refl, subst}
use Rattle.ft_program.specs.Inputs.{Stage}
use Rattle.ft_program.proofs.InputLemmas.{SoFar, so_far_none, so_far_more, ends_by_fault, ends_by_quit, ends_at_end, next_text, no_text}
use Rattle.ft_program.proofs.start.run_texts.Goals as goal

pub loop-text-init : goal.loop-text-init
loop-text-init g c = (so_far_none g.P.Store g.S.Store _ _, (refl, refl))

pub returns-in_err-status-clause-runs : goal.returns-in_err-status-clause-runs
returns-in_err-status-clause-runs g c =
    let is : c.from_residual.result ≡ Err c.in_err-status.field-0.0 = search (rules, c.from_residual.ensures) in
    let texts = c.args.inputs.now in
    let i = c.loop-text.text-index in
    let bytes = c.as_bytes-bytes.result.now in
    let inputs = map Some (map string_bytes texts) in
    let left = map Some (map string_bytes (drop (i + 1) texts)) in
    let old : Stage g.row.P.Denot g.row.S.Denot = record { parts = c.args.session.now; on = record { out = g.O.Write.contents c.args.outputs.now.out.now; err = g.E.Write.contents c.args.outputs.now.err.now } } in
    let mid : Stage g.row.P.Denot g.row.S.Denot = record { parts = c.loop-text.session; on = record { out = g.O.Write.contents c.loop-text.outputs.out.now; err = g.E.Write.contents c.loop-text.outputs.err.now } } in
    let new : Stage g.row.P.Denot g.row.S.Denot = record { parts = c.run.new.self; on = record { out = g.O.Write.contents c.run.new.out; err = g.E.Write.contents c.run.new.err } } in
    let far = subst (λ rest. SoFar g.P.Store g.S.Store inputs rest old mid c.loop-text.faults) (next_text texts i c.text-item.result bytes c.loop-text-test.true c.text-item.is c.as_bytes-bytes.ensures.value) c.loop-text.invariant.0 in
    let ran = c.in_err-status.ensures.ran in
    ends_by_fault g.P.Store g.S.Store inputs left (Some bytes) old mid new c.loop-text.faults c.in_err-status.field-0.0 ran.0 c.from_residual.result is far (Some c.run.new.reader.now, ran.1)

pub returns-then-status-clause-runs : goal.returns-then-status-clause-runs
returns-then-status-clause-runs g c =
    let quits : c.in_ok-status.status.quit ≡ true = search rules in
    let sum : c.saturating_add-faults.result ≡ min (c.loop-text.faults + c.in_ok-status.status.faults) (2 ^ 64 - 1) = search (rules, c.saturating_add-faults.ensures) in
    let texts = c.args.inputs.now in
    let i = c.loop-text.text-index in
    let bytes = c.as_bytes-bytes.result.now in
    let inputs = map Some (map string_bytes texts) in
    let left = map Some (map string_bytes (drop (i + 1) texts)) in
    let old : Stage g.row.P.Denot g.row.S.Denot = record { parts = c.args.session.now; on = record { out = g.O.Write.contents c.args.outputs.now.out.now; err = g.E.Write.contents c.args.outputs.now.err.now } } in
    let mid : Stage g.row.P.Denot g.row.S.Denot = record { parts = c.loop-text.session; on = record { out = g.O.Write.contents c.loop-text.outputs.out.now; err = g.E.Write.contents c.loop-text.outputs.err.now } } in
    let new : Stage g.row.P.Denot g.row.S.Denot = record { parts = c.run.new.self; on = record { out = g.O.Write.contents c.run.new.out; err = g.E.Write.contents c.run.new.err } } in
    let far = subst (λ rest. SoFar g.P.Store g.S.Store inputs rest old mid c.loop-text.faults) (next_text texts i c.text-item.result bytes c.loop-text-test.true c.text-item.is c.as_bytes-bytes.ensures.value) c.loop-text.invariant.0 in
    let ran = c.in_ok-status.ensures.ran in
    ends_by_quit g.P.Store g.S.Store inputs left (Some bytes) old mid new c.loop-text.faults c.saturating_add-faults.result c.in_ok-status.status ran.0 far (Some c.run.new.reader.now, ran.1) quits sum

pub loop-text-preserved : goal.loop-text-preserved
loop-text-preserved g c =
    let goes : c.in_ok-status.status.quit ≡ false = search rules in
    let sum : c.saturating_add-faults.result ≡ min (c.loop-text.faults + c.in_ok-status.status.faults) (2 ^ 64 - 1) = search (rules, c.saturating_add-faults.ensures) in
    let texts = c.args.inputs.now in
    let i = c.loop-text.text-index in
    let bytes = c.as_bytes-bytes.result.now in
    let inputs = map Some (map string_bytes texts) in
    let left = map Some (map string_bytes (drop (i + 1) texts)) in
    let old : Stage g.row.P.Denot g.row.S.Denot = record { parts = c.args.session.now; on = record { out = g.O.Write.contents c.args.outputs.now.out.now; err = g.E.Write.contents c.args.outputs.now.err.now } } in
    let mid : Stage g.row.P.Denot g.row.S.Denot = record { parts = c.loop-text.session; on = record { out = g.O.Write.contents c.loop-text.outputs.out.now; err = g.E.Write.contents c.loop-text.outputs.err.now } } in
    let new : Stage g.row.P.Denot g.row.S.Denot = record { parts = c.run.new.self; on = record { out = g.O.Write.contents c.run.new.out; err = g.E.Write.contents c.run.new.err } } in
    let far = subst (λ rest. SoFar g.P.Store g.S.Store inputs rest old mid c.loop-text.faults) (next_text texts i c.text-item.result bytes c.loop-text-test.true c.text-item.is c.as_bytes-bytes.ensures.value) c.loop-text.invariant.0 in
    let ran = c.in_ok-status.ensures.ran in
    (so_far_more g.P.Store g.S.Store inputs left (Some bytes) old mid new c.loop-text.faults c.saturating_add-faults.result c.in_ok-status.status ran.0 far (Some c.run.new.reader.now, ran.1) goes sum, c.loop-text.invariant.1)

pub returns-clause-runs : goal.returns-clause-runs
returns-clause-runs g c =
    let texts = c.args.inputs.now in
    let inputs = map Some (map string_bytes texts) in
    let old : Stage g.row.P.Denot g.row.S.Denot = record { parts = c.args.session.now; on = record { out = g.O.Write.contents c.args.outputs.now.out.now; err = g.E.Write.contents c.args.outputs.now.err.now } } in
    let new : Stage g.row.P.Denot g.row.S.Denot = record { parts = c.loop-text.session; on = record { out = g.O.Write.contents c.loop-text.outputs.out.now; err = g.E.Write.contents c.loop-text.outputs.err.now } } in
    ends_at_end g.P.Store g.S.Store inputs old new c.loop-text.faults (subst (λ rest. SoFar g.P.Store g.S.Store inputs rest old new c.loop-text.faults) (no_text texts c.loop-text.text-index c.loop-text-test.false) c.loop-text.invariant.0)
