-- by whether offsets are wanted
use Rattle.std.proofs.Common.{sym, subst, rules}
use Rattle.ft_documents.proofs.Common.{IfOk-weaker, TellsHit}
use Rattle.ft_documents.proofs.MatchedLemmas.{told_whole, told_bare}
use Rattle.ft_documents.proofs.hits.next_hit.Goals as goal

pub returns-then-wants_offsets : goal.returns-then-wants_offsets
returns-then-wants_offsets c = record {
  told = IfOk-weaker c.next.result _ _ (λ hit walked documents stands.
      subst (λ b. TellsHit b c.args.walk.now c.next.new.self hit documents) (sym c.if-wants_offsets.true) (told_whole c.args.walk.now c.next.new.self hit documents (walked documents stands))) c.next.ensures.walked;
  passes = c.next.ensures.passes;
  query = c.next.ensures.query;
}

pub returns : goal.returns
returns c = record {
  told = λ documents stands. subst (λ b. TellsHit b c.args.walk.now c.next_docid.new.self c.map.result documents) (sym c.if-wants_offsets.false)
      (told_bare c.args.walk.now c.next_docid.new.self c.in_ok-next_docid.field-0 c.map.result documents (search rules) (c.in_ok-next_docid.ensures.walked documents stands));
  passes = search rules;
  query = search rules;
}
