-- one part more, or the end of them
use Rattle.std.proofs.Common.{map, length, sym, ap, ◌∙◌, ◌+◌, arith, Err}
use Rattle.ft_statements.proofs.Common.{rest_of}
use Rattle.ft_statements.proofs.ReadingLemmas.{at_most, list_goes, list_stops, list_fails, list_spent, one_more, fault_goes}
use Rattle.ft_statements.proofs.reading.Reader.list.Goals as goal

pub returns-in_err-read : goal.returns-in_err-read
returns-in_err-read g c = fault_goes _ _ _ _ _ _ c.from_residual.ensures.0 c.from_residual.ensures.1 (λ is.
    at_most g.T.Spelled.form c.args.self.now.left.now ∙ sym c.loop-i.invariant
    ∙ list_fails g.T.Spelled.form (length c.args.self.now.left.now + 1) c.loop-i.i (map g.T.Spelled.shown c.loop-i.found.items) (rest_of c.loop-i.self) c.loop-i-test.true (c.in_err-read.ensures.none (ap Err is)))

pub returns-then-not-takes : goal.returns-then-not-takes
returns-then-not-takes g c = record {
  found =
      at_most g.T.Spelled.form c.args.self.now.left.now ∙ sym c.loop-i.invariant
      ∙ list_stops g.T.Spelled.form (length c.args.self.now.left.now + 1) c.loop-i.i (map g.T.Spelled.shown c.loop-i.found.items)
      (rest_of c.loop-i.self) (rest_of c.read.new.words) (rest_of c.takes.new.self) (g.T.Spelled.shown c.in_ok-read.field-0) (map g.T.Spelled.shown c.push.new.self.items)
      c.loop-i-test.true c.in_ok-read.ensures.found (sym c.takes.ensures.stands ∙ c.if-not-takes.true)
      (one_more g.T.Spelled.shown c.loop-i.found.items c.push.new.self.items c.in_ok-read.field-0 c.in_ok-push.ensures.items)
      (c.takes.ensures.stays c.if-not-takes.true);
  none = λ e. cc;
}

pub loop-i-preserved : goal.loop-i-preserved
loop-i-preserved g c =
    list_goes g.T.Spelled.form (length c.args.self.now.left.now + 1) c.loop-i.i (map g.T.Spelled.shown c.loop-i.found.items)
    (rest_of c.loop-i.self) (rest_of c.read.new.words) (rest_of c.takes.new.self) (g.T.Spelled.shown c.in_ok-read.field-0) (map g.T.Spelled.shown c.push.new.self.items)
    c.loop-i-test.true c.in_ok-read.ensures.found (sym c.takes.ensures.stands ∙ c.if-not-takes.false) (c.takes.ensures.passed c.if-not-takes.false)
    (one_more g.T.Spelled.shown c.loop-i.found.items c.push.new.self.items c.in_ok-read.field-0 c.in_ok-push.ensures.items)
    ∙ c.loop-i.invariant

pub returns : goal.returns
returns g c = record {
  found = tt;
  none = λ e.
      at_most g.T.Spelled.form c.args.self.now.left.now ∙ sym c.loop-i.invariant
      ∙ list_spent g.T.Spelled.form (length c.args.self.now.left.now + 1) c.loop-i.i (map g.T.Spelled.shown c.loop-i.found.items) (rest_of c.loop-i.self) (omega (arith, c.loop-i-test.false));
}
