-- one name more
use Rattle.std.proofs.Common.{◌≡◌, true, cond, List, ◌∷◌, [], ◌++◌, ℕ, not, string_bytes, sym, ap, ◌∙◌}
use Rattle.std.specs.BTreeSet.{contains_text}
use Rattle.std.specs.Str.{bytes_eq, str_to_ascii_lowercase}
use Rattle.std.proofs.lemmas.Map.Text.{btree_set_updates_text}
use Rattle.ft_content.proofs.Common.{list_any, list_any-append, same_name, HasLowercase}
use Rattle.ft_content.proofs.SmallLemmas.{or_added, small_again, small_more}
use Rattle.ft_content.proofs.names.repeats_in_set.Goals.{In_ok-insert}
use Rattle.ft_content.proofs.names.repeats_in_set.Goals as goal

-- the name in small letters is new where the set didn't have it
told : (g : _) (c : In_ok-insert g) (names : List (List ℕ)) → HasLowercase c.loop-one.small names → c.in_ok-insert.field-0 ≡ not (list_any (λ n. same_name n c.name.result.now) names)
told g c names are =
    let bytes = string_bytes c.in_ok-to_ascii_lowercase.field-0 in
    c.in_ok-insert.ensures.added
    ∙ ap not (are.has bytes ∙ ap (λ bs. list_any (λ n. bytes_eq (str_to_ascii_lowercase n) bs) names) c.in_ok-to_ascii_lowercase.ensures.ok)

added : (g : _) (c : In_ok-insert g) (names : List (List ℕ)) → HasLowercase c.loop-one.small names → HasLowercase c.insert.new.self (names ++ c.name.result.now ∷ [])
added g c names are =
    let bytes = string_bytes c.in_ok-to_ascii_lowercase.field-0 in
    let small = str_to_ascii_lowercase c.name.result.now in
    let old = c.loop-one.small in
    record {
      has = λ bs.
          btree_set_updates_text bytes old c.insert.new.self true c.in_ok-insert.ensures.updates bs
          ∙ ap (λ b. cond (bytes_eq b bs) true (contains_text old bs)) c.in_ok-to_ascii_lowercase.ensures.ok
          ∙ ap (λ b. cond (bytes_eq small bs) true b) (are.has bs)
          ∙ or_added (bytes_eq small bs) (list_any (λ n. bytes_eq (str_to_ascii_lowercase n) bs) names)
          ∙ sym (list_any-append (λ n. bytes_eq (str_to_ascii_lowercase n) bs) names (c.name.result.now ∷ []));
    }

pub returns-then-not-branch : goal.returns-then-not-branch
returns-then-not-branch g c =
    small_again g.T.Named.name_of c.loop-one.small c.args.named.now c.loop-one.one-index c.one-item.result c.name.result.now c.in_ok-insert.field-0
    c.loop-one-test.true c.one-item.is c.name.ensures c.loop-one.invariant.0 (told g (goal.at.returns-then-not-branch g c).In_ok-insert) c.if-not-branch.true

pub loop-one-preserved : goal.loop-one-preserved
loop-one-preserved g c =
    let here = (goal.at.loop-one-preserved g c).In_ok-insert in
    small_more g.T.Named.name_of c.loop-one.small c.insert.new.self c.args.named.now c.loop-one.one-index c.one-item.result c.name.result.now c.in_ok-insert.field-0
    c.loop-one-test.true c.one-item.is c.name.ensures c.loop-one.invariant.0 (told g here) c.if-not-branch.false (added g here) c.loop-one.invariant.1
