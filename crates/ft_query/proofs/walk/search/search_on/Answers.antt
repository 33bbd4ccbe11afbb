use Rattle.std.proofs.Common.{◌≡◌, ◌∙◌, ◌<◌, List, rules, arith, map, length, sum_by, sym, ap, refl, to_z, of_z, w64, Some, None, Option, Vec, Global, option_map}
use Rattle.ft_query.proofs.Common.{Offset, Document, StandsBefore, walk_at, lists_left, least_from}
use Rattle.ft_query.proofs.Considering.{Adds, nothing_left, went_on, went_then, fewer_left}
use Rattle.ft_query.proofs.walk.search.search_on.Goals.{After-pass}
use Rattle.ft_query.proofs.walk.search.search_on.Goals as goal

-- this is the least docid left
one : (c : After-pass) → least_from None (map lists_left c.loop-docid.cursors) ≡ Some (to_z w64 (of_z w64 c.in-Some.docid))
one c = search rules

fewer : (c : After-pass) → sum_by length (map lists_left c.pass.new.cursors) < sum_by length (map lists_left c.loop-docid.cursors)
fewer c = fewer_left _ c.loop-docid.cursors c.pass.new.cursors (one c) c.pass.ensures.go.left

-- what the document adds, where this is answered for it
adds : (c : After-pass) (answer : Option (Vec Offset Global)) → c.in_ok-offsets.offsets ≡ answer → (documents : List Document)
    → StandsBefore (walk_at c.args.query.now c.loop-docid.cursors c.loop-docid.steps.taken) documents
    → Adds c.args.wanted (walk_at c.args.query.now c.loop-docid.cursors c.loop-docid.steps.taken)
    (walk_at c.args.query.now c.pass.new.cursors c.pass.new.steps.taken) (to_z w64 (of_z w64 c.in-Some.docid))
    (option_map (λ o. o.items) answer) documents
adds c answer is documents stands =
    went_on c.args.wanted c.args.query.now c.loop-docid.cursors c.pass.new.cursors c.loop-docid.steps c.least.new.steps c.visit.new.steps
    c.pass.new.steps _ _ documents stands (one c)
    (λ postings ordered places. sym (ap (option_map (λ (o : Vec Offset Global). o.items)) is)
    ∙ c.in_ok-offsets.ensures.offsets postings ordered places)
    c.pass.ensures.go.left (c.loop-docid.invariant.number ∙ c.requires) c.least.ensures.steps.at_least c.least.ensures.steps.at_most
    c.in_ok-offsets.ensures.steps c.in_ok-offsets.ensures.nodes c.pass.ensures.steps

pub loop-docid-smaller : goal.loop-docid-smaller
loop-docid-smaller c = fewer (goal.at.loop-docid-smaller c).After-pass

pub loop-docid-preserved : goal.loop-docid-preserved
loop-docid-preserved c =
    let here = (goal.at.loop-docid-preserved c).After-pass in
    let so_far = c.loop-docid.invariant in
    record {
      kept = c.pass.ensures.go.kept ∙ so_far.kept;
      number = c.pass.auto.cursors ∙ so_far.number;
      rise = omega (arith, so_far.rise, c.least.ensures.steps.at_least, c.in_ok-offsets.ensures.steps.at_least, c.pass.ensures.steps.at_least);
      fewer = omega (arith, fewer here, so_far.fewer);
      went = λ documents stands.
          let first = so_far.went documents stands in
          went_then c.args.query.now (map lists_left c.args.cursors.now) (map lists_left c.loop-docid.cursors) (map lists_left c.pass.new.cursors)
          c.args.steps.now.taken c.loop-docid.steps.taken c.pass.new.steps.taken _ documents first
          (adds here None c.in_default-offsets.is first.rest first.stands).went;
    }

pub returns-clause-finds : goal.returns-clause-finds
returns-clause-finds c = record {
  passes = tt;
  finds = λ documents stands.
      let first = c.loop-docid.invariant.went documents stands in
      let last =
      nothing_left c.args.wanted c.args.query.now (map lists_left c.loop-docid.cursors) c.loop-docid.steps.taken c.least.new.steps.taken first.rest
      first.stands (sym c.least.ensures.docid ∙ c.in_default.is) (c.least.ensures.steps.none c.in_default.is) in
      record {
        offsets = last.offsets;
        went =
            went_then c.args.query.now (map lists_left c.args.cursors.now) (map lists_left c.loop-docid.cursors) (map lists_left c.loop-docid.cursors)
            c.args.steps.now.taken c.loop-docid.steps.taken c.least.new.steps.taken _ documents first last.went;
        told = tt;
        ended = λ _. last.ended refl;
      };
}

pub returns-in-Some-offsets-clause-finds : goal.returns-in-Some-offsets-clause-finds
returns-in-Some-offsets-clause-finds c =
    let here = (goal.at.returns-in-Some-offsets-clause-finds c).After-pass in
    let all : sum_by length (map lists_left c.pass.new.cursors) < sum_by length (map lists_left c.args.cursors.now) =
    omega (arith, fewer here, c.loop-docid.invariant.fewer) in
    record {
      passes = all;
      finds = λ documents stands.
          let first = c.loop-docid.invariant.went documents stands in
          let added = adds here (Some c.in-Some-offsets.offsets) c.in-Some-offsets.is first.rest first.stands in
          record {
            offsets = added.offsets;
            went =
                went_then c.args.query.now (map lists_left c.args.cursors.now) (map lists_left c.loop-docid.cursors)
                (map lists_left c.pass.new.cursors)
                c.args.steps.now.taken c.loop-docid.steps.taken c.pass.new.steps.taken _ documents first added.went;
            told = added.told;
            ended = λ never. cc;
          };
    }
