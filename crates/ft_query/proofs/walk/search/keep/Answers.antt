use Rattle.std.proofs.Common.{rules, refl, ap₂, map}
use Rattle.ft_query.proofs.Sweeps.{sweep_next, both_lists, as_left, swept_all}
use Rattle.ft_query.proofs.walk.search.keep.Goals as goal

pub loop-cursor-preserved : goal.loop-cursor-preserved
loop-cursor-preserved c =
    sweep_next both_lists as_left c.loop-cursor.cursors (map both_lists c.args.cursors.now) c.loop-cursor.cursor-index c.cursor-item.result c.keep.new.self
    c.loop-cursor.invariant (search rules) (ap₂ (λ a b. (a, b)) c.keep.ensures.left c.keep.ensures.kept)

pub returns : goal.returns
returns c =
    swept_all (λ p. p.1) (λ p. p.0) as_left (λ _. refl) c.loop-cursor.cursors c.args.cursors.now c.loop-cursor.cursor-index c.loop-cursor.invariant
    c.loop-cursor-test.false
