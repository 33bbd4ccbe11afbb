use Rattle.std.proofs.Common.{◌≡◌, ◌++◌, ◌+◌, ◌*◌, List, drop, map, length, ap, ◌∙◌, rules, arith}
use Rattle.ft_query.proofs.Common.{common_steps, length-map, Chain, Place, LentPlaces, Occurrences, Steps, chain_tree, plain_phrase, plain_link, node_count, linked, linked_cost, link_cost, visit_cost, marks_of, numbered_offsets, if_wanted, plain_lists, plain_starts, total, TakesAtMost, TakesOf}
use Rattle.ft_query.proofs.Passes.{chain_marks_count, numbered_marks, Parted, parted, chain_marks, chain_cost, linked_length, starts_forward, starts_many}
use Rattle.ft_query.proofs.walk.visit.visit_chain.Goals as goal

-- the steps back to the first phrase, for its marks, and for those of the others
bounded : {near : Chain} {lists own behind : List LentPlaces} {starts : List Place} {all : List Occurrences} {begun back mid new : Steps}
    → Parted near lists own behind starts all → length own ≡ length near.first.terms.items
    → TakesAtMost (linked_cost (plain_phrase near.first) (map plain_link near.links.items) (plain_lists lists)) begun back
    → TakesAtMost (total (plain_lists own) + length own * length starts) back mid
    → TakesAtMost (link_cost (length near.first.terms.items) starts (map plain_link near.links.items) (plain_lists behind) (plain_starts all)) mid new
    → TakesOf (visit_cost (chain_tree near) (plain_lists lists)) (node_count (chain_tree near)) begun new
bounded {starts = starts} p fills one two three =
    record {
      at_least = omega (arith, one.at_least, two.at_least, three.at_least);
      at_most = omega (arith, chain_cost p, ap (λ n. n * length starts) fills, one.at_most, two.at_most, three.at_most);
    }

pub mark_links-requires-clause-all : goal.mark_links-requires-clause-all
mark_links-requires-clause-all c =
    let links = c.args.near.now.links.items in
    let lists = plain_lists c.args.lists.now in
    let later = drop 1 (linked (plain_phrase c.args.near.now.first) (map plain_link links) lists) in
    ap length (c.deref-in-Offsets-3.ensures.value ∙ c.reverse.ensures.items)
    ∙ starts_many _ later (starts_forward c.in_ok-starts.all.items later c.in_ok-starts.ensures.starts.rest)
    ∙ linked_length (plain_phrase c.args.near.now.first) (map plain_link links) lists
    ∙ length-map links plain_link

pub returns-clause-evaluates : goal.returns-clause-evaluates
returns-clause-evaluates c =
    let old = c.args.found.now.offsets.items in
    let n = c.args.found.now.next in
    let p = parted c.args.near.now c.args.lists.now c.in_ok-starts.starts c.in_ok-starts.all.items c.deref-in-Offsets-3.result.now c.len-size.result
    (search rules) c.split_at.ensures.front c.split_at.ensures.back (c.deref-in-Offsets-3.ensures.value ∙ c.reverse.ensures.items) c.in_ok-starts.ensures.starts in
    let told = ap (λ wanted. length (if_wanted wanted (marks_of (chain_tree c.args.near.now) (plain_lists c.args.lists.now)))) c.in-Offsets.is in
    let count = chain_marks_count (plain_phrase c.args.near.now.first) (map plain_link c.args.near.now.links.items) c.args.lists.now
    c.requires.each in
    let phrase = c.in_ok-mark_phrase-in-Offsets.ensures.marks in
    let links = c.in_ok-mark_links-in-Offsets.ensures.marks in
    record {
      accepted = grind (arith, common_steps);
      wanted = search rules;
      offsets =
          simp (links.offsets, phrase.offsets, phrase.next, c.in-Offsets.is, c.deref-in-Offsets.ensures.value, c.deref-in-Offsets-2.ensures.value)
          (numbered_marks old n c.split_at.result.0.now _ _ ∙ ap (λ ms. old ++ numbered_offsets n ms) (chain_marks p));
      next = omega (arith, told, count, links.next, phrase.next, c.split_at.ensures.front_len, c.split_at.ensures.back_len);
      room = grind (arith, common_steps);
    }

pub returns-in_err-mark_links-in-Offsets-clause-steps : goal.returns-in_err-mark_links-in-Offsets-clause-steps
returns-in_err-mark_links-in-Offsets-clause-steps c =
    let size : c.len-size.result ≡ length c.args.near.now.first.terms.items = search rules in
    bounded (parted c.args.near.now c.args.lists.now c.in_ok-starts.starts c.in_ok-starts.all.items c.deref-in-Offsets-3.result.now c.len-size.result
    size c.split_at.ensures.front c.split_at.ensures.back (c.deref-in-Offsets-3.ensures.value ∙ c.reverse.ensures.items) c.in_ok-starts.ensures.starts)
    (c.split_at.ensures.front_len ∙ size) c.in_ok-starts.ensures.steps (rw c.deref-in-Offsets.ensures.value at c.in_ok-mark_phrase-in-Offsets.ensures.steps)
    (rw c.deref-in-Offsets-2.ensures.value at c.in_err-mark_links-in-Offsets.ensures.steps)

pub returns-clause-steps : goal.returns-clause-steps
returns-clause-steps c =
    let size : c.len-size.result ≡ length c.args.near.now.first.terms.items = search rules in
    bounded (parted c.args.near.now c.args.lists.now c.in_ok-starts.starts c.in_ok-starts.all.items c.deref-in-Offsets-3.result.now c.len-size.result
    size c.split_at.ensures.front c.split_at.ensures.back (c.deref-in-Offsets-3.ensures.value ∙ c.reverse.ensures.items) c.in_ok-starts.ensures.starts)
    (c.split_at.ensures.front_len ∙ size) c.in_ok-starts.ensures.steps (rw c.deref-in-Offsets.ensures.value at c.in_ok-mark_phrase-in-Offsets.ensures.steps)
    (rw c.deref-in-Offsets-2.ensures.value at c.in_ok-mark_links-in-Offsets.ensures.steps)
