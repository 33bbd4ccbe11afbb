use Rattle.std.proofs.Common.{◌≡◌, ℕ, ◌+◌, ◌*◌, ◌≤◌, List, [], ◌∷◌, ◌++◌, map, drop, reverse, length, refl, sym, ap, ◌∙◌, append-nil, append_assoc, rules, arith, flat_map, length-append, length-drop}
use Rattle.ft_query.proofs.Common.{nil_from_length, length-map, drop-map, drop-append-le, Link, Phrase, Steps, LentPlaces, Occurrences, PlainLink, plain_term, plain_phrase, plain_link, chain, TakesAtMost, terms_in, near_those, head_of, last_phrase, starts_of, linked, linked_cost, total, plain_lists, plain_starts, nat_tests}
use Rattle.ft_query.proofs.Passes.{last_push, linked_push, lists_front, lists_back}
use Rattle.ft_query.proofs.walk.visit.linked.Invariants.{IsBack}
use Rattle.ft_query.proofs.walk.visit.linked.Goals.{After-len, After-split_at, After-len-size, After-split_at-in-Some}
use Rattle.ft_query.proofs.walk.visit.linked.Goals as goal

-- ---- the terms of some links

count_of : List Link → ℕ
count_of links = length (flat_map (λ l. l.to.terms) (map plain_link links))

count_push : (links : List Link) (link : Link) → count_of (links ++ link ∷ []) ≡ count_of links + length link.to.terms.items
unfolding count_of
count_push [] link = length-append (map plain_term link.to.terms.items) [] ∙ omega (arith, length-map link.to.terms.items plain_term)
count_push (l ∷ links) link = search (rules, count_push links link, length-append (map plain_term l.to.terms.items))

chain_count : (first : Phrase) (links : List Link)
    → length (terms_in (chain (plain_phrase first) (map plain_link links))) ≡ length first.terms.items + count_of links
unfolding count_of
chain_count first links = search (rules, length-append (map plain_term first.terms.items), length-map first.terms.items plain_term)

count_more : (link : Link) (links : List Link) → count_of (link ∷ links) ≡ length link.to.terms.items + count_of links
unfolding count_of
count_more link links = chain_count link.to links

-- its terms are among those of the chain
last_short : (first : Phrase) (links : List Link) → length (last_phrase first links).terms.items ≤ length first.terms.items + count_of links
last_short first [] = omega arith
last_short first (l ∷ links) = search (rules, last_short l.to links, count_more l links)

-- ---- one phrase more

cost_more : (phrase : Phrase) (link : PlainLink) (links : List PlainLink) (own behind : List LentPlaces) → length own ≡ length phrase.terms.items
    → linked_cost (plain_phrase phrase) (link ∷ links) (plain_lists (own ++ behind))
    ≡ 2 * total (plain_lists own) + linked_cost link.to links (plain_lists behind) + length (head_of (linked link.to links (plain_lists behind)))
    + 3 * length (starts_of (plain_phrase phrase) (plain_lists own))
cost_more phrase link links own behind fills =
    search (rules, length-map, lists_front own behind (length phrase.terms.items) fills, lists_back own behind (length phrase.terms.items) fills)

-- the steps from the last phrase on are among those for the whole chain
part_cost : (first : Phrase) (left done : List Link) (front behind : List LentPlaces)
    → length front + length (last_phrase first left).terms.items ≡ length first.terms.items + count_of left
    → linked_cost (plain_phrase (last_phrase first left)) (map plain_link done) (plain_lists behind)
    ≤ linked_cost (plain_phrase first) (map plain_link (left ++ done)) (plain_lists (front ++ behind))
unfolding count_of
part_cost first [] done front behind each = search (rules, each, nil_from_length front (omega (arith, each)))
part_cost first (link ∷ left) done front behind each =
    let terms = first.terms.items in
    let n = length terms in
    let sum = count_more link left in
    let enough : n ≤ length front = omega (arith, last_short link.to left, sum, each) in
    let is : drop (length (map plain_term terms)) (plain_lists (front ++ behind)) ≡ plain_lists (drop n front ++ behind) =
    simp (length-map, drop-map, drop-append-le n front behind enough) in
    let same = ap (linked_cost (plain_phrase link.to) (map plain_link (left ++ done))) is in
    omega (arith, part_cost link.to left done (drop n front) behind (omega (arith, length-drop n front, sum, each, enough)), same)

-- ---- one turn

-- the lists that are left are those of the phrases before this link
enough : {first : Phrase} {links : List Link} (before : List Link) (link : Link) {lists front : List LentPlaces} {next : Occurrences} {rest : List Occurrences}
    {begun steps : Steps} → IsBack first links (before ++ link ∷ []) lists front next rest begun steps
    → length front ≡ length first.terms.items + count_of before
enough {first} {links} before link {lists} {front} at = grind (arith, nat_tests, chain_count, count_push, last_push)

-- the steps of one turn, with those before it, are among those for the whole chain
turn_cost : {first : Phrase} {links : List Link} (before : List Link) (link : Link) {lists : List LentPlaces} (own front : List LentPlaces) {next : Occurrences}
    {rest : List Occurrences} {begun steps : Steps} → IsBack first links (before ++ link ∷ []) lists (front ++ own) next rest begun steps
    → length own ≡ length (last_phrase first before).terms.items
    → steps.taken + 2 * total (plain_lists own) + length next.items + 3 * length (starts_of (plain_phrase (last_phrase first before)) (plain_lists own))
    ≤ begun.taken + linked_cost (plain_phrase first) (map plain_link links) (plain_lists lists)
turn_cost {first} {links} before link {lists} own front {next} {rest} {begun} {steps} at fills =
    let p = plain_phrase (last_phrase first before) in
    let last = last_push first before link in
    let done = map plain_link at.done in
    let back = plain_lists at.behind in
    let so_far = ap (λ l. linked_cost (plain_phrase l) done back) last in
    let near = ap length at.found.first ∙ ap (λ l. length (head_of (linked (plain_phrase l) done back))) last in
    let inner = part_cost first before (link ∷ at.done) front (own ++ at.behind) (omega (arith, enough before link at, length-append front own, fills)) in
    let whole : linked_cost (plain_phrase first) (map plain_link (before ++ link ∷ at.done)) (plain_lists (front ++ (own ++ at.behind)))
    ≡ linked_cost (plain_phrase first) (map plain_link links) (plain_lists lists) =
    rw (← at.all, ← at.split) (simp append_assoc) in
    omega (arith, cost_more (last_phrase first before) (plain_link link) done own at.behind fills, so_far, near, inner, whole, at.taken.at_most)

-- one link less is left
turned : {first : Phrase} {links : List Link} (before : List Link) (link : Link) {lists : List LentPlaces} (own front : List LentPlaces) {next : Occurrences}
    {rest : List Occurrences} {begun steps : Steps} → IsBack first links (before ++ link ∷ []) lists (front ++ own) next rest begun steps
    → length own ≡ length (last_phrase first before).terms.items
    → (starts kept : Occurrences) (more : List Occurrences) (mid after : Steps)
    → starts.items ≡ starts_of (plain_phrase (last_phrase first before)) (plain_lists own)
    → kept.items
    ≡ near_those link.most (length link.to.terms.items) next.items (length (last_phrase first before).terms.items) starts.items
    → more ≡ rest ++ next ∷ []
    → TakesAtMost (2 * total (plain_lists own)) steps mid → TakesAtMost (length next.items + 3 * length starts.items) mid after
    → IsBack first links before lists front kept more begun after
turned {first} {links} before link {lists} own front {next} {rest} {begun} {steps} at fills starts kept more mid after is_starts is_kept is_more one two =
    let phrase = last_phrase first before in
    let p = plain_phrase phrase in
    let last = last_push first before link in
    let done = map plain_link at.done in
    let back = plain_lists at.behind in
    let behind = linked (plain_phrase link.to) done back in
    let cost = cost_more phrase (plain_link link) done own at.behind fills in
    let so_far = ap (λ l. linked_cost (plain_phrase l) done back) last in
    let near : next.items ≡ head_of behind = at.found.first ∙ ap (λ l. head_of (linked (plain_phrase l) done back)) last in
    let later : plain_starts rest ≡ reverse (drop 1 behind) = at.found.rest ∙ ap (λ l. reverse (drop 1 (linked (plain_phrase l) done back))) last in
    let n = length phrase.terms.items in
    let kept_back = lists_back own at.behind n fills in
    record {
      done = link ∷ at.done;
      behind = own ++ at.behind;
      all = sym (append_assoc before (link ∷ []) at.done) ∙ at.all;
      split = sym (append_assoc front own at.behind) ∙ at.split;
      each = omega (arith, enough before link at, length-append front own, fills, chain_count first before);
      found = record {
        first = simp (is_kept, near, is_starts, length-map, lists_front own at.behind n fills, kept_back);
        rest = simp (is_more, length-map, kept_back) (linked_push (plain_phrase link.to) done back rest next near later);
      };
      taken = record {
        at_least = omega (arith, at.taken.at_least, one.at_least, two.at_least);
        at_most = omega (arith, cost, so_far, ap length near, ap length is_starts, at.taken.at_most, one.at_most, two.at_most);
      };
    }

moved : {first : Phrase} {links left more : List Link} {lists front both : List LentPlaces} {next : Occurrences} {rest : List Occurrences} {begun steps : Steps}
    → left ≡ more → front ≡ both → IsBack first links left lists front next rest begun steps → IsBack first links more lists both next rest begun steps
moved {first} {links} {left} {more} {lists} {front} {both} {next} {rest} {begun} {steps} is same at = search rules

-- ---- answers

-- the phrase that is taken first, its size, and that of the one that is taken in a turn
last_is : (c : After-len) → c.last_phrase-last.result.now ≡ last_phrase c.args.near.now.first c.args.near.now.links.items
last_is c = c.last_phrase-last.ensures ∙ ap (last_phrase c.args.near.now.first) c.as_slice-left.ensures.value

last_size : (c : After-len) → c.len.result ≡ length (last_phrase c.args.near.now.first c.args.near.now.links.items).terms.items
last_size c = search (rules, last_is c)

phrase_size : (c : After-len-size) → c.len-size.result ≡ length (last_phrase c.args.near.now.first c.in-Some.before.now).terms.items
phrase_size c = search rules

pub overflow_sub-lists : goal.overflow_sub-lists
overflow_sub-lists c =
    search (rules, last_size c, last_short c.args.near.now.first c.args.near.now.links.items, (chain_count c.args.near.now.first c.args.near.now.links.items), c.requires)

pub starts_of-requires : goal.starts_of-requires
starts_of-requires c = grind (arith, nat_tests, overflow_sub-lists)

begun_each : (c : After-split_at)
    → length c.split_at.result.0.now + length (last_phrase c.args.near.now.first c.args.near.now.links.items).terms.items ≡ length c.args.lists.now
begun_each c = grind (arith, nat_tests, last_size, overflow_sub-lists)

pub returns-in_err-next-clause-steps : goal.returns-in_err-next-clause-steps
returns-in_err-next-clause-steps c =
    let first = c.args.near.now.first in
    let links = c.args.near.now.links.items in
    let front = c.split_at.result.0.now in
    let own = c.split_at.result.1.now in
    let each = begun_each (goal.at.returns-in_err-next-clause-steps c).After-split_at in
    let whole : linked_cost (plain_phrase first) (map plain_link (links ++ [])) (plain_lists (front ++ own))
    ≡ linked_cost (plain_phrase first) (map plain_link links) (plain_lists c.args.lists.now) =
    simp (append-nil, ← c.split_at.ensures.by_index.0) in
    record {
      at_least = c.in_err-next.ensures.steps.at_least;
      at_most = omega (arith, part_cost first links [] front own (each ∙ c.requires ∙ chain_count first links), whole, c.in_err-next.ensures.steps.at_most);
    }

pub loop-link-init : goal.loop-link-init
loop-link-init c =
    let here = (goal.at.loop-link-init c).After-split_at in
    let links = c.args.near.now.links.items in
    let own = c.split_at.result.1.now in
    let at : IsBack c.args.near.now.first links links c.args.lists.now c.split_at.result.0.now c.in_ok-next.next c.new-rest.result.items c.args.steps.now
    c.starts_of.new.steps = record {
      done = [];
      behind = own;
      all = append-nil links;
      split = sym c.split_at.ensures.by_index.0;
      each = begun_each here ∙ c.requires;
      found = record {
        first = c.in_ok-next.ensures.starts ∙ ap (λ p. starts_of (plain_phrase p) (plain_lists own)) (last_is (goal.at.After-split_at here).After-len);
        rest = ap plain_starts c.new-rest.ensures.items;
      };
      taken = c.in_ok-next.ensures.steps;
    } in
    moved (sym c.as_slice-left.ensures.value) refl at

pub overflow_sub-front : goal.overflow_sub-front
overflow_sub-front c =
    let left = enough _ _ (moved c.in-Some.ensures.cases.0 refl c.loop-link.invariant) in
    omega (arith, phrase_size c, last_short c.args.near.now.first c.in-Some.before.now, left)

turn : (c : After-split_at-in-Some)
    → IsBack c.args.near.now.first c.args.near.now.links.items (c.in-Some.before.now ++ c.in-Some.link.now ∷ []) c.args.lists.now
    (c.split_at-in-Some.result.0.now ++ c.split_at-in-Some.result.1.now) c.loop-link.next c.loop-link.rest.items c.args.steps.now
    c.loop-link.steps
turn c = moved c.in-Some.ensures.cases.0 c.split_at-in-Some.ensures.by_index.0 c.loop-link.invariant

fills : (c : After-split_at-in-Some)
    → length c.split_at-in-Some.result.1.now ≡ length (last_phrase c.args.near.now.first c.in-Some.before.now).terms.items
fills c = grind (arith, nat_tests, phrase_size, overflow_sub-front)

cost : (c : After-split_at-in-Some)
    → c.loop-link.steps.taken + 2 * total (plain_lists c.split_at-in-Some.result.1.now) + length c.loop-link.next.items
    + 3 * length (starts_of (plain_phrase c.last_phrase-phrase.result.now) (plain_lists c.split_at-in-Some.result.1.now))
    ≤ c.args.steps.now.taken + linked_cost (plain_phrase c.args.near.now.first) (map plain_link c.args.near.now.links.items)
    (plain_lists c.args.lists.now)
cost c = rw c.last_phrase-phrase.ensures (turn_cost _ _ _ _ (turn c) (fills c))

pub starts_of-requires-in-Some : goal.starts_of-requires-in-Some
starts_of-requires-in-Some c = grind (arith, nat_tests, overflow_sub-front)

pub returns-in_err-starts-clause-steps : goal.returns-in_err-starts-clause-steps
returns-in_err-starts-clause-steps c = search (rules, cost)

pub returns-in_err-kept-clause-steps : goal.returns-in_err-kept-clause-steps
returns-in_err-kept-clause-steps c =
    let all = cost (goal.at.returns-in_err-kept-clause-steps c).After-split_at-in-Some in
    record {
      at_least = omega (arith, c.loop-link.invariant.taken.at_least, c.in_ok-starts.ensures.steps.at_least, c.in_err-kept.ensures.steps.at_least);
      at_most = omega (arith, all, ap length c.in_ok-starts.ensures.starts, c.in_ok-starts.ensures.steps.at_most, c.in_err-kept.ensures.steps.at_most);
    }

pub returns-in_err-push-clause-steps : goal.returns-in_err-push-clause-steps
returns-in_err-push-clause-steps c =
    let all = cost (goal.at.returns-in_err-push-clause-steps c).After-split_at-in-Some in
    record {
      at_least = omega (arith, c.loop-link.invariant.taken.at_least, c.in_ok-starts.ensures.steps.at_least, c.in_ok-kept.ensures.steps.at_least);
      at_most = omega (arith, all, ap length c.in_ok-starts.ensures.starts, c.in_ok-starts.ensures.steps.at_most, c.in_ok-kept.ensures.steps.at_most);
    }

pub loop-link-preserved : goal.loop-link-preserved
loop-link-preserved c =
    let here = (goal.at.loop-link-preserved c).After-split_at-in-Some in
    let size = phrase_size (goal.at.loop-link-preserved c).After-len-size in
    let link = c.in-Some.link.now in
    let own = c.split_at-in-Some.result.1.now in
    let of_link : c.len-k.result ≡ length link.to.terms.items = search rules in
    turned c.in-Some.before.now link own c.split_at-in-Some.result.0.now (turn here) (fills here) c.in_ok-starts.starts c.in_ok-kept.kept
    c.push.new.self.items c.starts_of-in-Some.new.steps c.near_those.new.steps
    (c.in_ok-starts.ensures.starts ∙ ap (λ p. starts_of (plain_phrase p) (plain_lists own)) c.last_phrase-phrase.ensures)
    (simp (← size, ← of_link) (rw (c.deref.ensures.value, c.deref-in-Some.ensures.value) at c.in_ok-kept.ensures.starts)) c.in_ok-push.ensures.items c.in_ok-starts.ensures.steps
    (rw (c.deref.ensures.value, c.deref-in-Some.ensures.value) at c.in_ok-kept.ensures.steps)
