-- one place after another is that of the posting
use Rattle.std.proofs.Common.{◌≡◌, ◌+◌, ◌≤◌, true, false, true≢false, [], sym, ap, subst, ◌∙◌, drop, map, length, ◌≢◌, Some, List, ℕ, ◌==◌, IsTrue, ◌↔◌}
use Rattle.ft_rows.proofs.Common.{drop_all, Spot, origin, unpacked, spot_of, read_after, BeginsWithSpot}
use Rattle.ft_rows.proofs.ReadLemmas.{no_spots}
use Rattle.ft_rows.proofs.ExactLemmas.{Reads, begun, goes_on, another, nothing, ends, unpacked-reads, spot_at, left_are, never_first, same_spot, other_spot, is_nil, some_at, some_told, told_some}
use Rattle.ft_rows.proofs.packed.is_list_of.Goals.{At-loop-at}
use Rattle.ft_rows.proofs.packed.is_list_of.Goals as goal

refused : (bytes : List ℕ) (all : List Spot) → all ≢ [] → read_after true origin bytes ≢ Some all → IsTrue false ↔ (unpacked bytes ≡ Some all)
refused bytes all some wrong = (λ h. absurd (true≢false (sym h)), λ h. absurd (wrong ((unpacked-reads bytes all some).0 h)))

pub loop-at-init : goal.loop-at-init
loop-at-init c = begun c.args.bytes.now (map spot_of c.args.postings.now)

pub returns-in_default : goal.returns-in_default
returns-in_default c =
    let ps = c.args.postings.now in
    let at = c.loop-at.at in
    let reads = subst (Reads c.args.bytes.now (map spot_of ps) (at == 0) c.loop-at.last c.loop-at.left.now) (left_are ps at c.loop-at-test.true) c.loop-at.invariant in
    refused c.args.bytes.now (map spot_of ps) (some_at ps at c.loop-at-test.true)
    (another c.args.bytes.now (map spot_of ps) (at == 0) c.loop-at.last c.loop-at.left.now (spot_at ps at) (map spot_of (drop (at + 1) ps)) reads c.in-Some.spot c.in-Some.rest.now c.in-Some.ensures.found
    (other_spot c.in-Some.spot (spot_at ps at) (sym c.eq.ensures ∙ c.if-eq.false)))

pub returns-in_default-2 : goal.returns-in_default-2
returns-in_default-2 c =
    let ps = c.args.postings.now in
    let at = c.loop-at.at in
    let reads = subst (Reads c.args.bytes.now (map spot_of ps) (at == 0) c.loop-at.last c.loop-at.left.now) (left_are ps at c.loop-at-test.true) c.loop-at.invariant in
    refused c.args.bytes.now (map spot_of ps) (some_at ps at c.loop-at-test.true)
    (nothing c.args.bytes.now (map spot_of ps) (at == 0) c.loop-at.last c.loop-at.left.now (spot_at ps at) (map spot_of (drop (at + 1) ps)) reads (rw c.in_default.is at c.first_spot.ensures.none))

pub loop-at-preserved : goal.loop-at-preserved
loop-at-preserved c =
    let ps = c.args.postings.now in
    let at = c.loop-at.at in
    let s = spot_at ps at in
    let rest = c.in-Some.rest.now in
    let more = map spot_of (drop (at + 1) ps) in
    let reads = subst (Reads c.args.bytes.now (map spot_of ps) (at == 0) c.loop-at.last c.loop-at.left.now) (left_are ps at c.loop-at-test.true) c.loop-at.invariant in
    let begins = subst (λ x. BeginsWithSpot (at == 0) c.loop-at.last c.loop-at.left.now x rest) (same_spot c.in-Some.spot s (sym c.eq.ensures ∙ c.if-eq.true)) c.in-Some.ensures.found in
    subst (λ b. Reads c.args.bytes.now (map spot_of ps) b s rest more) (sym (never_first at)) (goes_on c.args.bytes.now (map spot_of ps) (at == 0) c.loop-at.last c.loop-at.left.now s more reads rest begins)

-- where all places are read, nothing is left
at_end : (c : At-loop-at) → length c.args.postings.now ≤ c.loop-at.at → (read_after true origin c.args.bytes.now ≡ Some (map spot_of c.args.postings.now)) ↔ (c.loop-at.left.now ≡ [])
at_end c past =
    let ps = c.args.postings.now in
    ends c.args.bytes.now (map spot_of ps) (c.loop-at.at == 0) c.loop-at.last c.loop-at.left.now
    (subst (Reads c.args.bytes.now (map spot_of ps) (c.loop-at.at == 0) c.loop-at.last c.loop-at.left.now) (ap (map spot_of) (drop_all c.loop-at.at ps past)) c.loop-at.invariant)

pub returns-then-is_empty : goal.returns-then-is_empty
returns-then-is_empty c =
    let ps = c.args.postings.now in
    let all = map spot_of ps in
    let done = at_end (goal.at.returns-then-is_empty c).At-loop-at c.loop-at-test.false in
    let nil = is_nil c.loop-at.left.now (sym c.is_empty.ensures ∙ c.if-is_empty.true) in (
      λ some. (unpacked-reads c.args.bytes.now all (some_told ps _ c.is_empty-then-is_empty.ensures some)).1 (done.1 nil),
      λ is. told_some ps _ c.is_empty-then-is_empty.ensures (λ none. no_spots c.args.bytes.now (is ∙ ap Some none)),
    )

pub returns-else-is_empty : goal.returns-else-is_empty
returns-else-is_empty c =
    let all = map spot_of c.args.postings.now in
    let done = at_end (goal.at.returns-else-is_empty c).At-loop-at c.loop-at-test.false in (
      λ empty. absurd (true≢false (sym empty ∙ c.if-is_empty.false)),
      λ is. c.is_empty.ensures ∙ ap (λ l. length l == 0) (done.0 ((unpacked-reads c.args.bytes.now all (λ none. no_spots c.args.bytes.now (is ∙ ap Some none))).0 is)),
    )
