-- one word more, or the end of them
use Rattle.std.proofs.Common.{sym, ap, ◌∙◌, ◌+◌, arith, take, drop}
use Rattle.ft_statements.proofs.Common.{balanced_at, mark_of, plain}
use Rattle.ft_statements.proofs.FormLaw.{all_onto}
use Rattle.ft_statements.proofs.ReadingLemmas.{words_more, words_stop, words_open, words_all}
use Rattle.ft_statements.proofs.reading.Reader.any_words.Goals as goal

pub returns-then-ends_words : goal.returns-then-ends_words
returns-then-ends_words c = record {
  found = sym c.loop-i.invariant.same ∙ words_stop c.args.self.now.left.now c.loop-i.i c.loop-i.depth _ c.loop-i-test.true (sym c.ends_words.ensures ∙ c.if-ends_words.true);
  none = λ e. cc;
}

pub loop-i-preserved : goal.loop-i-preserved
loop-i-preserved c = record {
  same =
      ap (λ depth. all_onto (plain (take (c.loop-i.i + 1) c.args.self.now.left.now)) (balanced_at mark_of (plain (drop (c.loop-i.i + 1) c.args.self.now.left.now)) depth)) c.depth_after-depth.ensures.groups
      ∙ words_more c.args.self.now.left.now c.loop-i.i c.loop-i.depth _ c.loop-i-test.true (sym c.ends_words.ensures ∙ c.if-ends_words.false)
      ∙ c.loop-i.invariant.same;
  bound = omega (arith, c.depth_after-depth.ensures.most, c.loop-i.invariant.bound);
}

pub returns-then-depth-gt0 : goal.returns-then-depth-gt0
returns-then-depth-gt0 c = record {
  found = tt;
  none = λ e. sym c.loop-i.invariant.same ∙ words_open c.args.self.now.left.now c.loop-i.i c.loop-i.depth (omega (arith, c.loop-i-test.false)) (omega (arith, c.if-depth-gt0.true));
}

pub returns : goal.returns
returns c = record {
  found = sym c.loop-i.invariant.same ∙ words_all c.args.self.now.left.now c.loop-i.i c.loop-i.depth (omega (arith, c.loop-i-test.false)) (omega (arith, c.if-depth-gt0.false));
  none = λ e. cc;
}
