-- each term is one more call, and has one more cursor
use Rattle.std.proofs.Common.{◌≡◌, List, length, subst, sym, ap, ◌∙◌, rules, arith, Bor}
use Rattle.ft_query.proofs.Common.{common_steps, QueryTerm, Cursor, place_count, plain_term, lists_kept, places_left, listed_for, AllAnswer, NoCall, OneMore, AreCursorsOf}
use Rattle.ft_query.proofs.Loading.{cursors_on, cursors_all, places_on}
use Rattle.ft_query.proofs.Reaching.{no_call, reaches_on}
use Rattle.ft_query.proofs.walk.load.load_terms.Given.{Over}
use Rattle.ft_query.proofs.walk.load.load_terms.Goals.{In_ok-push}
use Rattle.ft_query.proofs.walk.load.load_terms.Goals as goal

pub loop-term-init : goal.loop-term-init
loop-term-init g c = record {
  lists = search rules;
  number = search rules;
  asked = NoCall _ _ (search rules);
  clean = search rules;
  becomes = no_call _ _ _;
  failed = search rules;
  given = grind (arith, common_steps);
}

-- the new cursor stands before its term's list
abbrev IsNext : (g : Over) → In_ok-push g → Type 0
IsNext g c = lists_kept c.in_ok-cursor.cursor ≡ listed_for (g.L.Lists.documents c.ask.new.lists) (plain_term c.term-item.result.now)

before : (g : Over) (c : In_ok-push g) → g.L.Lists.is_clean c.ask.new.lists
    → AreCursorsOf (g.L.Lists.documents c.ask.new.lists) c.args.terms.now c.loop-term.cursors.items
before g c clean = search rules

next : (g : Over) (c : In_ok-push g) → g.L.Lists.is_clean c.ask.new.lists → IsNext g c
next g c clean = search (rules, before g c clean)

pub loop-term-preserved : goal.loop-term-preserved
loop-term-preserved g c = record {
  lists = λ clean.
      let documents = g.L.Lists.documents c.ask.new.lists in
      let many : length c.loop-term.cursors.items ≡ c.loop-term.term-index = omega (arith, c.loop-term.invariant.number, c.loop-term.cursors.ok.0) in
      subst (λ (cursors : List Cursor). AreCursorsOf documents c.args.terms.now cursors) (sym c.in_ok-push.ensures.items)
      (cursors_on documents c.args.terms.now c.loop-term.cursors.items c.loop-term.term-index c.in_ok-cursor.cursor c.term-item.result
      (before g c clean) many c.loop-term-test.true
      (next g c clean ∙ ap (λ (t : Bor QueryTerm). listed_for documents (plain_term t.now)) c.term-item.is));
  number = grind (arith, common_steps);
  asked = OneMore _ _ _ _ _ c.loop-term.invariant.asked c.in_ok-answer.ensures.becomes (grind (arith, common_steps));
  clean = grind (arith, common_steps);
  becomes = reaches_on _ _ _ _ _ c.loop-term.invariant.becomes c.in_ok-answer.ensures.asks.becomes;
  failed = grind (arith, common_steps);
  given = λ clean few.
      let same = ap place_count (next g c clean ∙ sym (c.in_ok-answer.ensures.list clean)) in
      let all = ap places_left c.in_ok-push.ensures.items ∙ places_on c.loop-term.cursors.items c.in_ok-cursor.cursor in
      omega (arith, c.loop-term.invariant.given (c.in_ok-answer.ensures.asks.clean clean).0 few, c.in_ok-answer.ensures.given, same, all);
}

pub returns-clause-loads : goal.returns-clause-loads
returns-clause-loads g c = record {
  lists = λ clean.
      cursors_all (g.L.Lists.documents c.loop-term.lists) c.args.terms.now c.loop-term.cursors.items (c.loop-term.invariant.lists clean)
      (omega (arith, c.loop-term.invariant.number, c.loop-term.cursors.ok.0, c.loop-term-test.false, c.loop-term.auto.term-index-end));
  number = grind (arith, common_steps);
  asked = subst (λ n. AllAnswer g.L.Lists.becomes n c.args.lists.now c.loop-term.lists) (grind (arith, common_steps)) c.loop-term.invariant.asked;
  given = c.loop-term.invariant.given;
}

pub returns-in_err-cursor-clause-asks : goal.returns-in_err-cursor-clause-asks
returns-in_err-cursor-clause-asks g c = record {
  clean = grind (arith, common_steps);
  failed = grind (arith, common_steps);
  becomes = reaches_on _ _ _ _ _ (reaches_on _ _ _ _ _ c.loop-term.invariant.becomes c.in_ok-answer.ensures.asks.becomes) (no_call _ _ _);
}

pub returns-in_err-push-clause-asks : goal.returns-in_err-push-clause-asks
returns-in_err-push-clause-asks g c = record {
  clean = grind (arith, common_steps);
  failed = grind (arith, common_steps);
  becomes = reaches_on _ _ _ _ _ (reaches_on _ _ _ _ _ c.loop-term.invariant.becomes c.in_ok-answer.ensures.asks.becomes) (no_call _ _ _);
}
