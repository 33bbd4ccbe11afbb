-- The evaluation of a query from its first operand on, one joint after the other.
use Rattle.std.proofs.Common.{◌≡◌, ℕ, ◌+◌, ◌-◌, ◌≤◌, ◌<◌, ◌^◌, Bool, List, [], ◌∷◌, ◌++◌, length, take, drop, refl, sym, ap, ◌∙◌, subst, append-nil, append_assoc, arith, Ok, length-append, length-take-le, take-append-drop, rules}
use Rattle.ft_query.proofs.Common.{nil_from_length, take-append-le, drop-append-le, Place, Offset, Steps, LentPlaces, By, Joint, Found, Wanted, Docids, Offsets, Tree, phrase, chain, both, either, without, tree_of, terms_in, node_count, width, more_steps, TakesAtMost, joined_sides, joined_answer, joined_marks, whole, is_accepted, marks_of, numbered_offsets, if_wanted, plain_lists, visit_cost, own_lists, lists_after, HaveLists, Evaluates, Joins, nat_tests}
use Rattle.ft_query.proofs.Passes.{numbered_more, lists_front, lists_back}
use Rattle.ft_query.proofs.Spines.{joined_terms, part_terms, right_width, whole_last}
use Rattle.ft_match.specs.declared.query.By.TheVariants as by

-- ---- a left side and a right one

joined_accepts : (p : Tree) (b : By) (q : Tree) (ls : List (List Place))
    → is_accepted (joined_sides p b q) ls ≡ joined_answer b (is_accepted p (take (length (terms_in p)) ls)) (is_accepted q (drop (length (terms_in p)) ls))
joined_accepts p by.And q ls = refl
joined_accepts p by.Or q ls = refl
joined_accepts p by.Not q ls = refl

joined_marked : (p : Tree) (b : By) (q : Tree) (ls : List (List Place))
    → marks_of p (take (length (terms_in p)) ls) ++ joined_marks b (marks_of q (drop (length (terms_in p)) ls)) ≡ marks_of (joined_sides p b q) ls
joined_marked p by.And q ls = refl
joined_marked p by.Or q ls = refl
joined_marked p by.Not q ls = append-nil (marks_of p (take (length (terms_in p)) ls))

joined_cost : (p : Tree) (b : By) (q : Tree) (ls : List (List Place))
    → visit_cost (joined_sides p b q) ls ≡ 1 + (visit_cost p (take (length (terms_in p)) ls) + visit_cost q (drop (length (terms_in p)) ls))
joined_cost p by.And q ls = refl
joined_cost p by.Or q ls = refl
joined_cost p by.Not q ls = refl

told : (wanted : Wanted) (old : List Offset) (n : ℕ) (ms more : List (List Place))
    → old ++ numbered_offsets n (if_wanted wanted ms) ++ numbered_offsets (n + length (if_wanted wanted ms)) (if_wanted wanted more)
    ≡ old ++ numbered_offsets n (if_wanted wanted (ms ++ more))
told Docids old n ms more = append-nil (old ++ [])
told Offsets old n ms more = numbered_more old n ms more

told_count : (wanted : Wanted) (ms more : List (List Place))
    → length (if_wanted wanted ms) + length (if_wanted wanted more) ≡ length (if_wanted wanted (ms ++ more))
told_count Docids ms more = refl
told_count Offsets ms more = sym (length-append ms more)

joined_evaluates : (b : By) (p q : Tree) (front own : List LentPlaces) (left all : Bool) (old mid new : Found) → length front ≡ length (terms_in p)
    → Evaluates (Ok left) old mid p front → Joins b left (Ok all) mid new q own → Evaluates (Ok all) old new (joined_sides p b q) (front ++ own)
joined_evaluates b p q front own left all old mid new same one two =
    search (rules, length-append, joined_marked, lists_front, lists_back, joined_accepts, told, told_count)

-- ---- the steps

cost_front : (p : Tree) (front own : List LentPlaces) → length front ≡ length (terms_in p) → (b : By) (q : Tree)
    → visit_cost (joined_sides p b q) (plain_lists (front ++ own)) ≡ 1 + (visit_cost p (plain_lists front) + visit_cost q (plain_lists own))
cost_front p front own same b q = grind (arith, nat_tests, joined_cost, lists_front, lists_back)

-- each node is a step
pub nodes_cost : (t : Tree) (ls : List (List Place)) → node_count t ≤ visit_cost t ls
nodes_cost (phrase p) ls = omega arith
nodes_cost (chain p links) ls = omega arith
nodes_cost (both p q) ls = grind (arith, nodes_cost p (take (length (terms_in p)) ls), nodes_cost q (drop (length (terms_in p)) ls))
nodes_cost (either p q) ls = grind (arith, nodes_cost p (take (length (terms_in p)) ls), nodes_cost q (drop (length (terms_in p)) ls))
nodes_cost (without p q) ls = grind (arith, nodes_cost p (take (length (terms_in p)) ls), nodes_cost q (drop (length (terms_in p)) ls))

joined_nodes : (p : Tree) (b : By) (q : Tree) → node_count (joined_sides p b q) ≡ 1 + (node_count p + node_count q)
joined_nodes p by.And q = refl
joined_nodes p by.Or q = refl
joined_nodes p by.Not q = refl

takes_then : (m n : ℕ) (a b c : Steps) → TakesAtMost m a b → TakesAtMost n b c → TakesAtMost (m + n) a c
takes_then m n a b c one two = record { at_least = omega arith; at_most = omega arith }

-- ---- a part and what is joined to it

-- a part's steps are among those of the whole
part_cost : (js : List Joint) (p : Tree) (front rest : List LentPlaces) → length front ≡ length (terms_in p)
    → length (front ++ rest) ≡ length (terms_in (whole js p))
    → visit_cost p (plain_lists front) ≤ visit_cost (whole js p) (plain_lists (front ++ rest))
part_cost [] p front rest same all = grind (arith, nat_tests, length-append, nil_from_length, append-nil)
part_cost (j ∷ js) p front rest same all =
    let q = tree_of j.right.now in
    let w = whole js p in
    let k = length (terms_in w) - length front in
    let near = take k rest in
    let far = drop k rest in
    let more = part_terms js p in
    let sum = ap length (joined_terms w j.by q) ∙ length-append (terms_in w) (terms_in q) in
    let short : length near ≡ k = length-take-le k rest (omega (arith, more, sum, length-append front rest, same, all)) in
    let first : length (front ++ near) ≡ length (terms_in w) = length-append front near ∙ omega (arith, short, more, same) in
    let inner = part_cost js p front near same first in
    let cost = cost_front w (front ++ near) far first j.by q in
    let parts : front ++ near ++ far ≡ front ++ rest = append_assoc front near far ∙ ap (λ l. front ++ l) (take-append-drop k rest) in
    subst (λ l. visit_cost p (plain_lists front) ≤ visit_cost (joined_sides w j.by q) (plain_lists l)) parts (omega (arith, inner, cost))

-- A part with its joints is the query, and its lists are the front. It is evaluated, and whether it
-- accepts is told.
pub record Climbs (query : Tree) (lists rest : List LentPlaces) (joints : List Joint) (accepted : Bool) (old now : Found) (begun steps : Steps) : Type 0 where
  pub part : Tree
  pub front : List LentPlaces
  pub all : whole joints part ≡ query
  pub each : length front ≡ length (terms_in part)
  pub split : front ++ rest ≡ lists
  pub evaluates : Evaluates (Ok accepted) old now part front
  pub taken : TakesAtMost (visit_cost part (plain_lists front)) begun steps
  pub nodes : more_steps (node_count part) begun ≤ steps.taken

-- what a first operand takes where no memory is left
first_failed : {query : Tree} {lists : List LentPlaces} {begun steps : Steps} (leaf : Tree) (own rest : List LentPlaces) (joints : List Joint)
    → whole joints leaf ≡ query → own ++ rest ≡ lists → length own ≡ length (terms_in leaf) → length lists ≡ length (terms_in query)
    → TakesAtMost (visit_cost leaf (plain_lists own)) begun steps → TakesAtMost (visit_cost query (plain_lists lists)) begun steps
first_failed {query} {lists} {begun} {steps} leaf own rest joints all split each same taken =
    let cost = part_cost joints leaf own rest each (ap length split ∙ same ∙ ap (λ t. length (terms_in t)) (sym all)) in
    let whole_cost = ap (λ t. visit_cost t (plain_lists (own ++ rest))) all ∙ ap (λ l. visit_cost query (plain_lists l)) split in
    record { at_least = taken.at_least; at_most = omega (arith, taken.at_most, cost, whole_cost) }

-- what the next right side needs: it has its lists, and is less wide than the query
record Fits (query right : Tree) (rest : List LentPlaces) (mid : Found) : Type 0 where
  pub lists : length (terms_in right) ≤ length rest
  pub numbers : mid.next + length rest < 2 ^ 64
  pub less : width right < width query

climbs_fit : {query : Tree} {lists rest : List LentPlaces} (js : List Joint) (j : Joint) {left : Bool} {old mid : Found} {begun steps : Steps}
    → Climbs query lists rest (js ++ j ∷ []) left old mid begun steps → length lists ≡ length (terms_in query) → old.next + length lists < 2 ^ 64
    → Fits query (tree_of j.right.now) rest mid
climbs_fit {query} {lists} {rest} js j {left} {old} {mid} {begun} {steps} at same fits =
    search (rules, tree_of j.right.now, part_terms, whole_last, joined_terms, length-append, right_width)

-- a right side more
climbs_on : {query : Tree} {lists rest own behind : List LentPlaces} {js : List Joint}
    (j : Joint) {left all : Bool} {old mid new : Found} {begun steps after : Steps}
    → Climbs query lists rest (js ++ j ∷ []) left old mid begun steps → own ++ behind ≡ rest → length own ≡ length (terms_in (tree_of j.right.now))
    → Joins j.by left (Ok all) mid new (tree_of j.right.now) own → TakesAtMost (1 + visit_cost (tree_of j.right.now) (plain_lists own)) steps after
    → more_steps (1 + node_count (tree_of j.right.now)) steps ≤ after.taken → Climbs query lists behind js all old new begun after
climbs_on {query} {lists} {rest} {own} {behind} {js} j {left} {all} {old} {mid} {new} {begun} {steps} {after} at parts count joins taken nodes =
    let p = at.part in
    let q = tree_of j.right.now in
    let same : visit_cost p (plain_lists at.front) + (1 + visit_cost q (plain_lists own))
    ≡ visit_cost (joined_sides p j.by q) (plain_lists (at.front ++ own)) = omega (arith, cost_front p at.front own at.each j.by q) in
    record {
      part = joined_sides p j.by q;
      front = at.front ++ own;
      all = sym (whole_last js j p) ∙ at.all;
      each = omega (arith, ap length (joined_terms p j.by q) ∙ length-append (terms_in p) (terms_in q), length-append at.front own, at.each, count);
      split = append_assoc at.front own behind ∙ ap (λ l. at.front ++ l) parts ∙ at.split;
      evaluates = joined_evaluates j.by p q at.front own left all old mid new at.each at.evaluates joins;
      taken = subst (λ n. TakesAtMost n begun after) same (takes_then _ _ begun steps after at.taken taken);
      nodes = omega (arith, joined_nodes p j.by q, at.nodes, nodes);
    }

-- what is taken where a right side finds no memory
climb_failed : {query : Tree} {lists rest : List LentPlaces} (own behind : List LentPlaces) (js : List Joint)
    (j : Joint) {left : Bool} {old mid : Found} {begun steps after : Steps}
    → Climbs query lists rest (js ++ j ∷ []) left old mid begun steps → own ++ behind ≡ rest → length own ≡ length (terms_in (tree_of j.right.now))
    → length lists ≡ length (terms_in query)
    → TakesAtMost (1 + visit_cost (tree_of j.right.now) (plain_lists own)) steps after
    → TakesAtMost (visit_cost query (plain_lists lists)) begun after
climb_failed {query} {lists} {rest} own behind js j {left} {old} {mid} {begun} {steps} {after} at parts count same taken =
    let p = at.part in
    let q = tree_of j.right.now in
    let sum = ap length (joined_terms p j.by q) ∙ length-append (terms_in p) (terms_in q) in
    let each : length (at.front ++ own) ≡ length (terms_in (joined_sides p j.by q)) = omega (arith, sum, length-append at.front own, at.each, count) in
    let split = append_assoc at.front own behind ∙ ap (λ l. at.front ++ l) parts ∙ at.split in
    let is = sym (whole_last js j p) ∙ at.all in
    let more = part_cost js (joined_sides p j.by q) (at.front ++ own) behind each (ap length split ∙ same ∙ ap (λ t. length (terms_in t)) (sym is)) in
    let all_cost = ap (λ t. visit_cost t (plain_lists (at.front ++ own ++ behind))) is ∙ ap (λ l. visit_cost query (plain_lists l)) split in
    let both_taken = takes_then _ _ begun steps after at.taken taken in
    record { at_least = both_taken.at_least; at_most = omega (arith, both_taken.at_most, cost_front p at.front own at.each j.by q, more, all_cost) }

-- ---- the same, where the lists of other parts come after the query's

-- Lists are left for the joints, and after them those that come after the query's.
pub record Climbing (query : Tree) (lists left : List LentPlaces) (joints : List Joint) (accepted : Bool) (old now : Found) (begun steps : Steps) : Type 0 where
  pub rest : List LentPlaces
  pub stands : left ≡ rest ++ lists_after query lists
  pub climbs : Climbs query (own_lists query lists) rest joints accepted old now begun steps

pub with_joints : {query : Tree} {lists left : List LentPlaces} {js ks : List Joint} {accepted : Bool} {old now : Found} {begun steps : Steps}
    → js ≡ ks → Climbing query lists left js accepted old now begun steps → Climbing query lists left ks accepted old now begun steps
with_joints {query} {lists} {left} {js} {ks} {accepted} {old} {now} {begun} {steps} is at = grind arith

-- the lists of a part are the first of those that are the query's
record IsFront (leaf query : Tree) (lists : List LentPlaces) : Type 0 where
  own : own_lists leaf lists ≡ own_lists leaf (own_lists query lists)
  after : lists_after leaf lists ≡ lists_after leaf (own_lists query lists) ++ lists_after query lists
  each : length (own_lists leaf (own_lists query lists)) ≡ length (terms_in leaf)
  all : length (own_lists query lists) ≡ length (terms_in query)

front_is : (joints : List Joint) (leaf query : Tree) (lists : List LentPlaces) → whole joints leaf ≡ query → length (terms_in query) ≤ length lists
    → IsFront leaf query lists
front_is joints leaf query lists all enough =
    let k = length (terms_in leaf) in
    let own = own_lists query lists in
    let long = length-take-le (length (terms_in query)) lists enough in
    let parts = take-append-drop (length (terms_in query)) lists in
    let short : k ≤ length own = omega (arith, part_terms joints leaf, ap (λ t. length (terms_in t)) all, long) in
    record {
      own = ap (take k) (sym parts) ∙ take-append-le k own (lists_after query lists) short;
      after = ap (drop k) (sym parts) ∙ drop-append-le k own (lists_after query lists) short;
      each = length-take-le k own short;
      all = long;
    }

pub leaf_fits : {query : Tree} {lists : List LentPlaces} {found : Found} (joints : List Joint) (leaf : Tree) → whole joints leaf ≡ query
    → HaveLists found (terms_in query) lists → HaveLists found (terms_in leaf) lists
leaf_fits {query} {lists} {found} joints leaf all have = search (rules, part_terms joints leaf, ap, have.each)

-- the first operand
pub climb_begun : {query : Tree} {lists left : List LentPlaces} {accepted : Bool} {old now : Found} {begun steps : Steps} (joints : List Joint) (leaf : Tree)
    → whole joints leaf ≡ query → length (terms_in query) ≤ length lists
    → Evaluates (Ok accepted) old now leaf (own_lists leaf lists) → left ≡ lists_after leaf lists
    → TakesAtMost (visit_cost leaf (plain_lists (own_lists leaf lists))) begun steps → more_steps (node_count leaf) begun ≤ steps.taken
    → Climbing query lists left joints accepted old now begun steps
climb_begun {query} {lists} {left} {accepted} {old} {now} {begun} {steps} joints leaf all enough evaluates left_is taken nodes =
    let k = length (terms_in leaf) in
    let own = own_lists query lists in
    let front = front_is joints leaf query lists all enough in
    record {
      rest = drop k own;
      stands = left_is ∙ front.after;
      climbs = record {
        part = leaf;
        front = take k own;
        all = all;
        each = front.each;
        split = take-append-drop k own;
        evaluates = subst (λ l. Evaluates (Ok accepted) old now leaf l) front.own evaluates;
        taken = subst (λ l. TakesAtMost (visit_cost leaf (plain_lists l)) begun steps) front.own taken;
        nodes = nodes;
      };
    }

pub begun_failed : {query : Tree} {begun steps : Steps} (lists : List LentPlaces) (joints : List Joint) (leaf : Tree)
    → whole joints leaf ≡ query → length (terms_in query) ≤ length lists
    → TakesAtMost (visit_cost leaf (plain_lists (own_lists leaf lists))) begun steps
    → TakesAtMost (visit_cost query (plain_lists (own_lists query lists))) begun steps
begun_failed {query} {begun} {steps} lists joints leaf all enough taken =
    let k = length (terms_in leaf) in
    let own = own_lists query lists in
    let front = front_is joints leaf query lists all enough in
    first_failed leaf (take k own) (drop k own) joints all (take-append-drop k own) front.each front.all
    (subst (λ l. TakesAtMost (visit_cost leaf (plain_lists l)) begun steps) front.own taken)

-- what the next right side needs
pub record FitsNext (query right : Tree) (left : List LentPlaces) (mid : Found) : Type 0 where
  pub have : HaveLists mid (terms_in right) left
  pub less : width right < width query

pub climbing_fits : {query : Tree} {lists left : List LentPlaces} (js : List Joint) (j : Joint) {accepted : Bool} {old mid : Found} {begun steps : Steps}
    → Climbing query lists left (js ++ j ∷ []) accepted old mid begun steps → HaveLists old (terms_in query) lists
    → FitsNext query (tree_of j.right.now) left mid
climbing_fits {query} {lists} {left} js j {accepted} {old} {mid} {begun} {steps} at have =
    let after = lists_after query lists in
    let long = length-take-le (length (terms_in query)) lists have.each in
    let parts = ap length (sym (take-append-drop (length (terms_in query)) lists)) ∙ length-append (own_lists query lists) after in
    let fit = climbs_fit js j at.climbs long (omega (arith, have.fits, long, have.each)) in
    let is = ap length at.stands ∙ length-append at.rest after in
    record {
      have = record {
        each = omega (arith, fit.lists, is);
        fits = omega (arith, have.fits, parts, is, sym (ap length at.climbs.split) ∙ length-append at.climbs.front at.rest, at.climbs.evaluates.room);
      };
      less = fit.less;
    }

-- the lists of the next right side are the first of those that are left
record IsNext (right : Tree) (left rest after : List LentPlaces) : Type 0 where
  own : own_lists right left ≡ own_lists right rest
  behind : lists_after right left ≡ lists_after right rest ++ after
  each : length (own_lists right rest) ≡ length (terms_in right)

next_is : (right : Tree) (left rest after : List LentPlaces) → left ≡ rest ++ after → length (terms_in right) ≤ length rest → IsNext right left rest after
next_is right left rest after is short =
    let m = length (terms_in right) in
    record {
      own = ap (take m) is ∙ take-append-le m rest after short;
      behind = ap (drop m) is ∙ drop-append-le m rest after short;
      each = length-take-le m rest short;
    }

pub climbing_on : {query : Tree} {lists left behind : List LentPlaces} (js : List Joint) (j : Joint)
    {accepted all : Bool} {old mid new : Found} {begun steps after : Steps}
    → Climbing query lists left (js ++ j ∷ []) accepted old mid begun steps → HaveLists old (terms_in query) lists
    → Joins j.by accepted (Ok all) mid new (tree_of j.right.now) (own_lists (tree_of j.right.now) left)
    → behind ≡ lists_after (tree_of j.right.now) left
    → TakesAtMost (1 + visit_cost (tree_of j.right.now) (plain_lists (own_lists (tree_of j.right.now) left))) steps after
    → more_steps (1 + node_count (tree_of j.right.now)) steps ≤ after.taken
    → Climbing query lists behind js all old new begun after
climbing_on {query} {lists} {left} {behind} js j {accepted} {all} {old} {mid} {new} {begun} {steps} {after} at have joins behind_is taken nodes =
    let q = tree_of j.right.now in
    let m = length (terms_in q) in
    let long = length-take-le (length (terms_in query)) lists have.each in
    let fit = climbs_fit js j at.climbs long (omega (arith, have.fits, long, have.each)) in
    let next = next_is q left at.rest (lists_after query lists) at.stands fit.lists in
    record {
      rest = drop m at.rest;
      stands = behind_is ∙ next.behind;
      climbs =
          climbs_on j at.climbs (take-append-drop m at.rest) next.each (subst (λ l. Joins j.by accepted (Ok all) mid new q l) next.own joins)
          (subst (λ l. TakesAtMost (1 + visit_cost q (plain_lists l)) steps after) next.own taken) nodes;
    }

pub climbing_failed : {query : Tree} {lists left : List LentPlaces} (js : List Joint) (j : Joint) {accepted : Bool} {old mid : Found} {begun steps after : Steps}
    → Climbing query lists left (js ++ j ∷ []) accepted old mid begun steps → HaveLists old (terms_in query) lists
    → TakesAtMost (1 + visit_cost (tree_of j.right.now) (plain_lists (own_lists (tree_of j.right.now) left))) steps after
    → TakesAtMost (visit_cost query (plain_lists (own_lists query lists))) begun after
climbing_failed {query} {lists} {left} js j {accepted} {old} {mid} {begun} {steps} {after} at have taken =
    let q = tree_of j.right.now in
    let m = length (terms_in q) in
    let long = length-take-le (length (terms_in query)) lists have.each in
    let fit = climbs_fit js j at.climbs long (omega (arith, have.fits, long, have.each)) in
    let next = next_is q left at.rest (lists_after query lists) at.stands fit.lists in
    climb_failed (take m at.rest) (drop m at.rest) js j at.climbs (take-append-drop m at.rest) next.each long
    (subst (λ l. TakesAtMost (1 + visit_cost q (plain_lists l)) steps after) next.own taken)

-- the whole query
pub record IsClimbed (query : Tree) (lists left : List LentPlaces) (accepted : Bool) (old now : Found) (begun steps : Steps) : Type 0 where
  pub evaluates : Evaluates (Ok accepted) old now query (own_lists query lists)
  pub left_is : left ≡ lists_after query lists
  pub taken : TakesAtMost (visit_cost query (plain_lists (own_lists query lists))) begun steps
  pub nodes : more_steps (node_count query) begun ≤ steps.taken

pub climbed : {query : Tree} {lists left : List LentPlaces} {accepted : Bool} {old now : Found} {begun steps : Steps}
    → Climbing query lists left [] accepted old now begun steps → length (terms_in query) ≤ length lists
    → IsClimbed query lists left accepted old now begun steps
climbed {query} {lists} {left} {accepted} {old} {now} {begun} {steps} at enough =
    let split = sym (ap length at.climbs.split) ∙ length-append at.climbs.front at.rest in
    let terms = ap (λ t. length (terms_in t)) at.climbs.all in
    let none = nil_from_length at.rest (omega (arith, split, length-take-le (length (terms_in query)) lists enough, terms, at.climbs.each)) in
    let front : at.climbs.front ≡ own_lists query lists =
    sym (append-nil at.climbs.front) ∙ ap (λ l. at.climbs.front ++ l) (sym none) ∙ at.climbs.split in
    let is = at.climbs.all in
    record {
      evaluates =
          subst (λ t. Evaluates (Ok accepted) old now t (own_lists query lists)) is
          (subst (λ l. Evaluates (Ok accepted) old now at.climbs.part l) front at.climbs.evaluates);
      left_is = at.stands ∙ ap (λ l. l ++ lists_after query lists) none;
      taken =
          subst (λ t. TakesAtMost (visit_cost t (plain_lists (own_lists query lists))) begun steps) is
          (subst (λ l. TakesAtMost (visit_cost at.climbs.part (plain_lists l)) begun steps) front at.climbs.taken);
      nodes = subst (λ t. more_steps (node_count t) begun ≤ steps.taken) is at.climbs.nodes;
    }

-- ---- the joints that wait, behind those of the parts around

pub record ClimbingOver (query : Tree) (lists left : List LentPlaces) (around joints : List Joint)
    (accepted : Bool) (old now : Found) (begun steps : Steps) : Type 0 where
  pub own : List Joint
  pub behind : joints ≡ around ++ own
  pub climbs : Climbing query lists left own accepted old now begun steps

-- the last one is the part's own
record IsOwn (around own joints : List Joint) (j : Joint) : Type 0 where
  rest : List Joint
  own_is : own ≡ rest ++ j ∷ []
  behind : joints ≡ around ++ rest

own_last : (around own joints : List Joint) (j : Joint) → around ++ own ≡ joints ++ j ∷ [] → length around < length (joints ++ j ∷ [])
    → IsOwn around own joints j
own_last [] own joints j same more = record { rest = joints; own_is = same; behind = refl }
own_last (i ∷ around) own [] j same more = absurd (omega arith)
own_last (i ∷ around) own (k ∷ joints) j same more =
    let is = own_last around own joints j (cc same) (omega arith) in
    record { rest = is.rest; own_is = is.own_is; behind = cc (same, is.behind) }

pub record ClimbingNext (query : Tree) (lists left : List LentPlaces) (around joints : List Joint) (j : Joint)
    (accepted : Bool) (old now : Found) (begun steps : Steps) : Type 0 where
  pub rest : List Joint
  pub behind : joints ≡ around ++ rest
  pub climbs : Climbing query lists left (rest ++ j ∷ []) accepted old now begun steps

pub next_joint : {query : Tree} {lists left : List LentPlaces} {around all joints : List Joint} {j : Joint}
    {accepted : Bool} {old now : Found} {begun steps : Steps}
    → ClimbingOver query lists left around all accepted old now begun steps → all ≡ joints ++ j ∷ [] → length around < length all
    → ClimbingNext query lists left around joints j accepted old now begun steps
next_joint {query} {lists} {left} {around} {all} {joints} {j} {accepted} {old} {now} {begun} {steps} at last more =
    let is = own_last around at.own joints j (sym at.behind ∙ last) (omega (arith, more, ap length last)) in
    record { rest = is.rest; behind = is.behind; climbs = with_joints is.own_is at.climbs }

pub no_joint : {query : Tree} {lists left : List LentPlaces} {around all : List Joint} {accepted : Bool} {old now : Found} {begun steps : Steps}
    → ClimbingOver query lists left around all accepted old now begun steps → length all ≤ length around
    → (all ≡ around) × Climbing query lists left [] accepted old now begun steps
no_joint {query} {lists} {left} {around} {all} {accepted} {old} {now} {begun} {steps} at few =
    let none = nil_from_length at.own (omega (arith, ap length at.behind ∙ length-append around at.own, few)) in
    (at.behind ∙ ap (λ l. around ++ l) none ∙ append-nil around, with_joints none at.climbs)
