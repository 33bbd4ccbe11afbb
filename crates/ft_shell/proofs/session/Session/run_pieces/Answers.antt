-- piece by piece, up to the end of the input
use Rattle.std.proofs.Common.{rules, ◌≡◌, ◌==◌, ◌<◌, ◌^◌, Err, length, ap, refl, arith}
use Rattle.shell_io.specs.LinesRead.{LinesRead}
use Rattle.shell_io.proofs.{same_then}
use Rattle.ft_shell.proofs.Common.{list_any}
use Rattle.ft_shell.proofs.PieceLemmas.{chunk_kept, has_read, interrupted_taking}
use Rattle.ft_shell.proofs.RunLemmas.{completes, ends_err, so_far_kept, so_far_more, so_far_none, some_or_none, stops_at_flush, stops_first, stops_in_piece, stops_too_much, stops_unflushed, stops_unread}
use Rattle.shell_io.specs.declared.run.RunFault.TheVariants as causes
use Rattle.ft_shell.proofs.session.Session.run_pieces.Goals as goal

pub returns-in_err-lines-clause-runs : goal.returns-in_err-lines-clause-runs
returns-in_err-lines-clause-runs g c =
    let is : c.from_residual.result ≡ Err causes.Memory = search (rules, c.from_residual.ensures) in
    ends_err g.P.Store g.S.Store c.from_residual.result causes.Memory _ _ is (stops_first g.P.Store g.S.Store _ _ _ _)

pub returns-in_err-chunk-clause-runs : goal.returns-in_err-chunk-clause-runs
returns-in_err-chunk-clause-runs g c =
    let is : c.from_residual-in_err-chunk.result ≡ Err causes.Memory = search (rules, c.from_residual-in_err-chunk.ensures) in
    ends_err g.P.Store g.S.Store c.from_residual-in_err-chunk.result causes.Memory _ _ is (stops_first g.P.Store g.S.Store _ _ _ _)

pub loop-total-init : goal.loop-total-init
loop-total-init g c = record {
  run = so_far_none g.P.Store g.S.Store (2 ^ 30) _ _ _ c.blocks_read_whole.ensures c.in_ok-lines.ensures;
  size = omega (arith, c.in_ok-chunk.chunk.ok.0, c.in_ok-chunk.ensures.len);
  waits = ap (λ (f : LinesRead). f.splitting.waiting) c.in_ok-lines.ensures;
  within = ap (λ (f : LinesRead). list_any (λ b. b == 10) f.line) c.in_ok-lines.ensures;
  goes = refl;
  writers = (refl, refl);
}

pub returns-in_err-flush-clause-runs : goal.returns-in_err-flush-clause-runs
returns-in_err-flush-clause-runs g c =
    let is : c.from_residual-in_err-flush.result ≡ Err c.in_err-flush.field-0.0 = search (rules, c.from_residual-in_err-flush.ensures) in
    let cause : c.in_err-flush.field-0.0 ≡ causes.Write = c.in_err-flush.ensures.fault in
    ends_err g.P.Store g.S.Store c.from_residual-in_err-flush.result c.in_err-flush.field-0.0 _ _ is
    (stops_unflushed g.P.Store g.S.Store c.in_err-flush.field-0.0 (2 ^ 30) c.loop-total.total _ _ _ _ _ _ _ _ refl c.loop-total.invariant.run c.flush.ensures.bytes cause)

pub returns-in_err-bytes-clause-runs : goal.returns-in_err-bytes-clause-runs
returns-in_err-bytes-clause-runs g c =
    let is : c.from_residual-in_err-bytes.result ≡ Err c.in_err-bytes.field-0.0 = search (rules, c.from_residual-in_err-bytes.ensures) in
    ends_err g.P.Store g.S.Store c.from_residual-in_err-bytes.result c.in_err-bytes.field-0.0 _ _ is
    (stops_unread g.P.Store g.S.Store c.in_err-bytes.field-0.0 (2 ^ 30) c.loop-total.total _ _ _ _ _ _ _ _ refl (so_far_kept g.P.Store g.S.Store (2 ^ 30) c.loop-total.total _ _ _ _ _ _ c.loop-total.invariant.run c.flush.ensures.bytes) c.loop-total.invariant.goes c.loop-total.invariant.waits c.loop-total.invariant.within c.loop-total-test.true
    c.in_err-bytes.ensures.kept c.in_err-bytes.ensures.fault)

pub returns-in_err-take_read-clause-runs : goal.returns-in_err-take_read-clause-runs
returns-in_err-take_read-clause-runs g c =
    let is : c.from_residual-in_err-take_read.result ≡ Err c.in_err-take_read.field-0.0 = search (rules, c.from_residual-in_err-take_read.ensures) in
    ends_err g.P.Store g.S.Store c.from_residual-in_err-take_read.result c.in_err-take_read.field-0.0 _ _ is
    (stops_in_piece g.P.Store g.S.Store c.in_err-take_read.field-0.0 (2 ^ 30) c.loop-total.total _ _ _ _ _ _ _ _ _ _ refl (so_far_kept g.P.Store g.S.Store (2 ^ 30) c.loop-total.total _ _ _ _ _ _ c.loop-total.invariant.run c.flush.ensures.bytes) c.loop-total.invariant.goes c.loop-total-test.true refl
    (interrupted_taking g.P.Store g.S.Store {T = Unit {0}} c.in_err-take_read.field-0.0 _ c.in_ok-bytes.bytes.now _ _ _ _ _ _ c.in_ok-bytes.ensures.bytes (λ none. c.in_ok-bytes.ensures.end none (omega (arith, c.loop-total.invariant.size, c.loop-total.chunk.ok.0, c.as_mut_slice.ensures.len))) c.in_err-take_read.ensures.takes))

pub returns-in_err-flush-2-clause-runs : goal.returns-in_err-flush-2-clause-runs
returns-in_err-flush-2-clause-runs g c =
    let is : c.from_residual-in_err-flush-2.result ≡ Err c.in_err-flush-2.field-0.0 = search (rules, c.from_residual-in_err-flush-2.ensures) in
    let cause : c.in_err-flush-2.field-0.0 ≡ causes.Write = c.in_err-flush-2.ensures.fault in
    ends_err g.P.Store g.S.Store c.from_residual-in_err-flush-2.result c.in_err-flush-2.field-0.0 _ _ is
    (stops_at_flush g.P.Store g.S.Store c.in_err-flush-2.field-0.0 (2 ^ 30) c.loop-total.total _ _ _ _ _ _ _ _ _ _ _ _ _ refl (so_far_kept g.P.Store g.S.Store (2 ^ 30) c.loop-total.total _ _ _ _ _ _ c.loop-total.invariant.run c.flush.ensures.bytes) c.loop-total.invariant.goes c.loop-total-test.true refl
    (has_read g.P.Store g.S.Store tt _ _ c.in_ok-bytes.bytes.now _ _ _ _ _ _ c.in_ok-bytes.ensures.bytes refl (λ none. c.in_ok-bytes.ensures.end none (omega (arith, c.loop-total.invariant.size, c.loop-total.chunk.ok.0, c.as_mut_slice.ensures.len))) c.in_ok-take_read.ensures.takes)
    (some_or_none _) c.flush-then-is_over.ensures.bytes cause)

pub returns-then-is_over-clause-runs : goal.returns-then-is_over-clause-runs
returns-then-is_over-clause-runs g c =
    completes g.P.Store g.S.Store (2 ^ 30) c.loop-total.total _ _ _ _ _ _ _ _ _ _ _ _ _ refl (so_far_kept g.P.Store g.S.Store (2 ^ 30) c.loop-total.total _ _ _ _ _ _ c.loop-total.invariant.run c.flush.ensures.bytes) c.loop-total.invariant.goes c.loop-total-test.true refl
    (has_read g.P.Store g.S.Store tt _ _ c.in_ok-bytes.bytes.now _ _ _ _ _ _ c.in_ok-bytes.ensures.bytes refl (λ none. c.in_ok-bytes.ensures.end none (omega (arith, c.loop-total.invariant.size, c.loop-total.chunk.ok.0, c.as_mut_slice.ensures.len))) c.in_ok-take_read.ensures.takes)
    (c.is_over.ensures.over c.if-is_over.true) c.flush-then-is_over.ensures.bytes c.is_over.ensures.fits

pub loop-total-preserved : goal.loop-total-preserved
loop-total-preserved g c =
    let goes = c.is_over.ensures.goes c.if-is_over.false in
    record {
      run = so_far_more g.P.Store g.S.Store (2 ^ 30) c.loop-total.total _ _ _ _ _ _ _ _ _ _ (so_far_kept g.P.Store g.S.Store (2 ^ 30) c.loop-total.total _ _ _ _ _ _ c.loop-total.invariant.run c.flush.ensures.bytes) c.loop-total.invariant.goes c.loop-total-test.true refl
          (has_read g.P.Store g.S.Store tt _ _ c.in_ok-bytes.bytes.now _ _ _ _ _ _ c.in_ok-bytes.ensures.bytes refl (λ none. c.in_ok-bytes.ensures.end none (omega (arith, c.loop-total.invariant.size, c.loop-total.chunk.ok.0, c.as_mut_slice.ensures.len))) c.in_ok-take_read.ensures.takes) goes.0;
      size =
          let full : length c.loop-total.chunk.items ≡ c.loop-total.chunk.len = omega (arith, c.loop-total.chunk.ok.0) in
          let some : 0 < c.loop-total.chunk.len = omega (arith, full, c.loop-total.invariant.size) in
          chunk_kept c.loop-total.chunk.len _ c.loop-total.chunk.items full some;
      waits = c.in_ok-take_read.ensures.waiting goes.0 goes.1;
      within = c.in_ok-take_read.ensures.line goes.0 goes.1;
      goes = goes.1;
      writers = same_then c.args.outputs.now c.loop-total.outputs c.take_read.new.outputs c.loop-total.invariant.writers c.in_ok-take_read.ensures.writers;
    }

pub returns-clause-runs : goal.returns-clause-runs
returns-clause-runs g c = ends_err g.P.Store g.S.Store _ causes.TooMuch _ _ refl (stops_too_much g.P.Store g.S.Store (2 ^ 30) c.loop-total.total _ _ _ _ _ _ _ refl c.loop-total.invariant.run c.loop-total.invariant.goes c.loop-total.invariant.waits c.loop-total.invariant.within c.loop-total-test.false)
