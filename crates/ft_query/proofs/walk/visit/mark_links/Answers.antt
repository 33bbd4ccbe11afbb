use Rattle.std.proofs.Common.{◌≡◌, ℕ, ◌+◌, ◌-◌, ◌*◌, ◌≤◌, Option, Some, None, List, ◌∷◌, ◌++◌, map, take, drop, length, unwrap_or, refl, sym, ap, ◌∙◌, append-nil, rules, arith, flat_map, option_map, drop-drop, length-append, length-take-le, length-drop}
use Rattle.ft_query.proofs.Common.{take-map, drop-map, drop_all, length-map, Link, Place, Steps, LentPlaces, Occurrences, Found, plain_term, plain_link, TakesAtMost, near_those, link_marks, link_cost, numbered_offsets, marks_from, total, plain_lists, plain_starts, nat_tests, common_steps}
use Rattle.ft_query.proofs.Passes.{count_more, numbered_marks, link_marks_one}
use Rattle.ft_query.proofs.walk.visit.mark_links.Invariants.{AreMarked}
use Rattle.ft_query.proofs.walk.visit.mark_links.Goals.{After-len-size, After-near_those}
use Rattle.ft_query.proofs.walk.visit.mark_links.Goals as goal

-- ---- one link

-- the steps for the marks of one link, and those for the links after it
cost_one : (k : ℕ) (starts : List Place) (link : Link) (links : List Link) (lists own behind : List LentPlaces) (others : Occurrences) (all : List Occurrences) (size : ℕ)
    (next : List Place) → size ≡ length link.to.terms.items → own ≡ take size lists → behind ≡ drop size lists
    → next ≡ near_those link.most k starts size others.items
    → length starts + 3 * length others.items + total (plain_lists own) + size * length next
    + link_cost size next (map plain_link links) (plain_lists behind) (plain_starts all)
    ≡ link_cost k starts (map plain_link (link ∷ links)) (plain_lists lists) (plain_starts (others ∷ all))
cost_one k starts link links lists own behind others all size next is_size is_own is_behind is_next = search (rules, take-map, drop-map, length-map)

terms_one : (link : Link) (links : List Link)
    → length (flat_map (λ l. l.to.terms) (map plain_link (link ∷ links)))
    ≡ length link.to.terms.items + length (flat_map (λ l. l.to.terms) (map plain_link links))
terms_one link links = search (rules, length-append (map plain_term link.to.terms.items), length-map link.to.terms.items plain_term)

-- one link more
marked_on : {marks : List (List Place)} {count cost at k : ℕ} {starts : List Place} {link : Link} {links : List Link} {lists : List LentPlaces} {others : Occurrences}
    {all : List Occurrences} {old mid : Found} {begun steps : Steps}
    → AreMarked marks count cost at k starts (link ∷ links) lists (others ∷ all) old mid begun steps
    → (own behind : List LentPlaces) (size : ℕ) (next : List Place) (new : Found) (between after : Steps)
    → size ≡ length link.to.terms.items → own ≡ take size lists → behind ≡ drop size lists
    → next ≡ near_those link.most k starts size others.items
    → new.wanted ≡ mid.wanted → new.offsets.items ≡ mid.offsets.items ++ numbered_offsets mid.next (marks_from 0 (plain_lists own) next)
    → new.next ≡ mid.next + length own
    → TakesAtMost (length starts + 3 * length others.items) steps between
    → TakesAtMost (total (plain_lists own) + length own * length next) between after
    → AreMarked marks count cost (at + size) size next links behind all old new begun after
marked_on {marks} {count} {cost} {at} {k} {starts} {link} {links} {lists} {others} {all} {old} {mid} {begun} {steps} so_far own behind size next new between
    after is_size is_own is_behind is_next wanted offsets number one two =
    let more = link_marks size next (map plain_link links) (plain_lists behind) (plain_starts all) in
    let sum = terms_one link links in
    let enough : size ≤ length lists = omega (arith, is_size, sum, so_far.each) in
    let short : length own ≡ size = ap length is_own ∙ length-take-le size lists enough in
    let long = ap length is_behind ∙ length-drop size lists in
    let marked = link_marks_one k starts link links lists own behind others all size next is_size is_own is_behind is_next in
    let costs = cost_one k starts link links lists own behind others all size next is_size is_own is_behind is_next in
    let own_too = ap (λ n. n * length next) short in
    record {
      wanted = wanted ∙ so_far.wanted;
      next = omega (arith, number, so_far.next, short);
      left = omega (arith, so_far.left, long, enough);
      each = omega (arith, sum, so_far.each, is_size, long);
      offsets =
          ap (λ os. os ++ numbered_offsets new.next more) offsets
          ∙ ap (λ n. mid.offsets.items ++ numbered_offsets mid.next (marks_from 0 (plain_lists own) next) ++ numbered_offsets n more) number
          ∙ numbered_marks mid.offsets.items mid.next own next more
          ∙ ap (λ ms. mid.offsets.items ++ numbered_offsets mid.next ms) marked
          ∙ so_far.offsets;
      taken = record {
        at_least = omega (arith, so_far.taken.at_least, one.at_least, two.at_least);
        at_most = omega (arith, so_far.taken.at_most, one.at_most, two.at_most, own_too, costs);
      };
    }

moved : {marks : List (List Place)} {count cost at k : ℕ} {starts now : List Place} {links more : List Link} {lists : List LentPlaces} {all rest : List Occurrences}
    {old new : Found} {begun steps : Steps} → now ≡ starts → links ≡ more → all ≡ rest
    → AreMarked marks count cost at k starts links lists all old new begun steps
    → AreMarked marks count cost at k now more lists rest old new begun steps
moved {marks} {count} {cost} {at} {k} {starts} {now} {links} {more} {lists} {all} {rest} {old} {new} {begun} {steps} is_starts is_links is_all so_far =
    search rules

-- ---- answers

-- the occurrences of the phrase before, which are kept or passed in
held : (o : Option LentPlaces) (p : Option (List Place)) (s : LentPlaces) → option_map (λ l. l.now) o ≡ p → (unwrap_or o s).now ≡ unwrap_or p s.now
held None p s is = ap (λ q. unwrap_or q s.now) is
held (Some x) p s is = ap (λ q. unwrap_or q s.now) is

enough : (c : After-len-size) → c.loop-i.at + c.len-size.result ≤ length c.args.lists.now
enough c =
    let size : c.len-size.result ≡ length c.link-item.result.to.terms.items = search rules in
    let links_are = c.deref-link-items.ensures.value in
    let more = count_more c.args.near.now.links.items c.loop-i.i c.link-item.result (rw links_are at c.loop-i-test.true) in
    omega (arith, size, ap (λ l. length l.to.terms.items) (rw links_are at c.link-item.is), more, c.loop-i.invariant.each, c.loop-i.invariant.left)

pub slice_bounds-own-end : goal.slice_bounds-own-end
slice_bounds-own-end c = omega (arith, enough c)

pub mark_phrase-requires : goal.mark_phrase-requires
mark_phrase-requires c =
    let before = enough (goal.at.mark_phrase-requires c).After-len-size in
    let same : c.loop-i.at + c.len-size.result - c.loop-i.at ≡ c.len-size.result = omega arith in
    let few = length-take-le c.len-size.result (drop c.loop-i.at c.args.lists.now) (omega (arith, before, length-drop c.loop-i.at c.args.lists.now)) in
    omega (arith, before, few, ap (λ n. length (take n (drop c.loop-i.at c.args.lists.now))) same, c.loop-i.invariant.next, c.requires.lists.fits)

-- what is marked so far, with the next link
here : (c : After-near_those)
    → AreMarked (link_marks (length c.args.near.now.first.terms.items) c.args.starts.now (map plain_link c.args.near.now.links.items)
    (plain_lists c.args.lists.now)
    (plain_starts c.args.all.now)) (length c.args.lists.now)
    (link_cost (length c.args.near.now.first.terms.items) c.args.starts.now (map plain_link c.args.near.now.links.items)
    (plain_lists c.args.lists.now) (plain_starts c.args.all.now))
    c.loop-i.at c.loop-i.k c.unwrap_or-starts.result.now (c.link-item.result ∷ drop (c.loop-i.i + 1) c.args.near.now.links.items)
    (drop c.loop-i.at c.args.lists.now) (c.index-all-i.result ∷ drop (c.loop-i.i + 1) c.args.all.now) c.args.found.now c.loop-i.found c.args.steps.now
    c.loop-i.steps
here c = grind (arith, nat_tests, common_steps)

pub returns-in_err-mark_phrase-clause-steps : goal.returns-in_err-mark_phrase-clause-steps
returns-in_err-mark_phrase-clause-steps c =
    let at = c.loop-i.at in
    let lists = c.args.lists.now in
    let size : c.len-size.result ≡ length c.link-item.result.to.terms.items = search rules in
    let same : at + c.len-size.result - at ≡ c.len-size.result = omega arith in
    let own = ap (λ n. take n (drop at lists)) same in
    let before = enough (goal.at.returns-in_err-mark_phrase-clause-steps c).After-len-size in
    let few = ap length own ∙ length-take-le c.len-size.result (drop at lists) (omega (arith, before, length-drop at lists)) in
    let costs =
    cost_one c.loop-i.k c.unwrap_or-starts.result.now c.link-item.result (drop (c.loop-i.i + 1) c.args.near.now.links.items) (drop at lists)
    (take (at + c.len-size.result - at) (drop at lists)) (drop c.len-size.result (drop at lists)) c.index-all-i.result
    (drop (c.loop-i.i + 1) c.args.all.now) c.len-size.result c.in_ok-next.next.items size own refl (rw c.deref.ensures.value at c.in_ok-next.ensures.starts) in
    let so_far = (here (goal.at.returns-in_err-mark_phrase-clause-steps c).After-near_those).taken in
    record {
      at_least = omega (arith, so_far.at_least, c.in_ok-next.ensures.steps.at_least, c.in_err-mark_phrase.ensures.steps.at_least);
      at_most = omega (
        arith,
        so_far.at_most,
        costs,
        ap (λ n. n * length c.in_ok-next.next.items) few,
        ap length c.deref.ensures.value,
        c.in_ok-next.ensures.steps.at_most,
        rw c.deref-in-loop-i.ensures.value at c.in_err-mark_phrase.ensures.steps.at_most,
      );
    }

pub loop-i-preserved : goal.loop-i-preserved
loop-i-preserved c =
    let at = c.loop-i.at in
    let lists = c.args.lists.now in
    let size : c.len-size.result ≡ length c.link-item.result.to.terms.items = search rules in
    let same : at + c.len-size.result - at ≡ c.len-size.result = omega arith in
    marked_on (here (goal.at.loop-i-preserved c).After-near_those) (take (at + c.len-size.result - at) (drop at lists))
    (drop (at + c.len-size.result) lists)
    c.len-size.result c.in_ok-next.next.items c.mark_phrase.new.found c.near_those.new.steps c.mark_phrase.new.steps size
    (ap (λ n. take n (drop at lists)) same) (sym (drop-drop c.len-size.result at lists)) (rw c.deref.ensures.value at c.in_ok-next.ensures.starts) c.in_ok-mark_phrase.ensures.marks.wanted
    (rw c.deref-in-loop-i.ensures.value at c.in_ok-mark_phrase.ensures.marks.offsets) c.in_ok-mark_phrase.ensures.marks.next
    (rw c.deref.ensures.value at c.in_ok-next.ensures.steps) (rw c.deref-in-loop-i.ensures.value at c.in_ok-mark_phrase.ensures.steps)

pub returns-clause-marks : goal.returns-clause-marks
returns-clause-marks c =
    let none = drop_all c.loop-i.i c.args.near.now.links.items (rw c.deref-link-items.ensures.value at c.loop-i-test.false) in
    let at = moved refl none refl c.loop-i.invariant in
    record {
      wanted = at.wanted;
      offsets = sym (append-nil c.loop-i.found.offsets.items) ∙ at.offsets;
      next = omega (arith, at.next, at.left, at.each);
    }
