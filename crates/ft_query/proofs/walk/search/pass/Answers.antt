use Rattle.std.proofs.Common.{ℕ, ◌+◌, arith, ◌≡◌, ◌∙◌, rules, map, subst, to_z-of_z}
use Rattle.std.proofs.Math.Seq.{map-set_same}
use Rattle.ft_query.proofs.Common.{Steps, TakesSteps, lists_left, lists_kept, passed}
use Rattle.ft_query.proofs.Sweeps.{sweep_next, sweep_end}
use Rattle.ft_query.proofs.walk.search.pass.Goals as goal

takes_then : (m n : ℕ) (a b c : Steps) → TakesSteps m a b → TakesSteps n b c → TakesSteps (m + n) a c
takes_then m n a b c one two = record { taken = omega arith; at_least = omega arith; at_most = omega arith }

pub loop-cursor-preserved : goal.loop-cursor-preserved
loop-cursor-preserved c = record {
  left =
      sweep_next lists_left _ c.loop-cursor.cursors (map lists_left c.args.cursors.now) c.loop-cursor.cursor-index c.cursor-item.result c.pass.new.self
      c.loop-cursor.invariant.left (search rules) c.pass.ensures.goes.left;
  kept =
      map-set_same lists_kept c.loop-cursor.cursors c.loop-cursor.cursor-index c.pass.new.self c.cursor-item.result c.pass.ensures.goes.kept
      ∙ c.loop-cursor.invariant.kept;
  steps = takes_then _ _ _ _ _ c.loop-cursor.invariant.steps c.pass.ensures.step;
}

pub returns-clause-go : goal.returns-clause-go
returns-clause-go c =
    let all =
    sweep_end lists_left _ c.loop-cursor.cursors c.args.cursors.now c.loop-cursor.cursor-index c.loop-cursor.invariant.left c.loop-cursor-test.false in
    record {
      left = subst (λ docid. map lists_left c.loop-cursor.cursors ≡ map (passed docid) (map lists_left c.args.cursors.now)) (to_z-of_z c.ranges.docid) all;
      kept = c.loop-cursor.invariant.kept;
    }
