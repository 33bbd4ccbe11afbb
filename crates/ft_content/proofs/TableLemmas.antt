-- Tables that are there, by their names and ids.
use Rattle.std.proofs.Common.{◌≡◌, ◌≤◌, ℕ, ◌+◌, ◌&&◌, ◌||◌, Bool, true, false, cond, List, [], ◌∷◌, length, Some, ℤ, pos, is_some, string_bytes, refl, sym, ap, subst, ◌∙◌, arith, ◌<ℤ◌}
use Rattle.std.proofs.lemmas.Int.{ints}
use Rattle.ft_values.specs.declared.table.TableInfo.{TableInfo}
use Rattle.ft_content.proofs.Common.{list_any, Ordering, Less, Equal, Greater, int_cmp, int_eq, is_eq, is_lt, MatchOrdering, int_cmp_is, int_cmp_total, int_ranks, below_all, is_sorted, and_parts, false_from_ne_true, Decides-int_eq, same_name, Contents, Table, table_named, free_id_from, table_names, table_ids, info_names, info_ids}
use Rattle.ft_content.proofs.Lists.{length_of_map}

named : (contents : Contents) (name : List ℕ) → is_some (table_named contents name) ≡ list_any (λ n. same_name n name) (table_names contents)
named [] name = refl
named (t ∷ ts) name = elim (same_name t.1.name name) as (λ b. is_some (cond b (Some t) (table_named ts name)) ≡ (b || list_any (λ n. same_name n name) (table_names ts))) [ true ↦ refl | false ↦ named ts name ]

-- a table is there by its name
pub is_named : (contents : Contents) (name : List ℕ) (tables : List TableInfo) → table_names contents ≡ info_names tables → is_some (table_named contents name) ≡ list_any (λ n. same_name n name) (info_names tables)
is_named contents name tables same = named contents name ∙ ap (list_any (λ n. same_name n name)) same

pub as_many : (contents : Contents) (tables : List TableInfo) → table_names contents ≡ info_names tables → length contents ≡ length tables
as_many contents tables same = sym (length_of_map (λ (t : ℤ × Table). t.1.name) contents) ∙ ap length same ∙ length_of_map (λ (t : TableInfo). string_bytes t.name) tables

-- the least id from n on that is none of these, which rise
abbrev pub free_from : ℕ → List ℤ → ℕ
free_from n [] = n
free_from n (id ∷ ids) = free_from (cond (int_eq id (pos n)) (n + 1) n) ids

free_is : (n : ℕ) (contents : Contents) → free_id_from n contents ≡ free_from n (table_ids contents)
free_is n [] = refl
free_is n (t ∷ ts) = free_is (cond (int_eq t.0 (pos n)) (n + 1) n) ts

pub free_among : (contents : Contents) (tables : List TableInfo) → table_ids contents ≡ info_ids tables → free_id_from 1 contents ≡ free_from 1 (info_ids tables)
free_among contents tables same = free_is 1 contents ∙ ap (free_from 1) same

-- ---- the least free id is free

more : (b : Bool) (n : ℕ) → n ≤ cond b (n + 1) n
more true n = omega arith
more false n = omega arith

free_above : (n : ℕ) (ts : Contents) → n ≤ free_id_from n ts
free_above n [] = omega arith
free_above n (t ∷ ts) = omega (arith, free_above (cond (int_eq t.0 (pos n)) (n + 1) n) ts, more (int_eq t.0 (pos n)) n)

less_means : (a b : ℤ) → int_cmp a b ≡ Less → a <ℤ b
less_means a b e = subst (λ o. MatchOrdering o (a <ℤ b) (a ≡ b) (b <ℤ a)) e (int_ranks a b)

pub greater_means : (a b : ℤ) → int_cmp a b ≡ Greater → b <ℤ a
greater_means a b e = subst (λ o. MatchOrdering o (a <ℤ b) (a ≡ b) (b <ℤ a)) e (int_ranks a b)

pub less_is : (o : Ordering) → is_lt o ≡ true → o ≡ Less
less_is Less h = refl
less_is Equal h = absurd (let no = h in cc)
less_is Greater h = absurd (let no = h in cc)

other_ids : (a b : ℤ) → (a ≡ b → ⊥) → int_eq a b ≡ false
other_ids a b ne = false_from_ne_true (int_eq a b) (λ t. ne ((Decides-int_eq a b).0 t))

-- below ids that are all greater the number stays
free_stays : (n : ℕ) (ts : Contents) → below_all int_cmp (pos n) ts ≡ true → free_id_from n ts ≡ n
free_stays n [] h = refl
free_stays n (t ∷ ts) h =
    let parts = and_parts (is_lt (int_cmp (pos n) t.0)) (below_all int_cmp (pos n) ts) h in
    let above : pos n <ℤ t.0 = less_means (pos n) t.0 (less_is (int_cmp (pos n) t.0) parts.0) in
    ap (λ b. free_id_from (cond b (n + 1) n) ts) (other_ids t.0 (pos n) (λ same. omega (arith, ints))) ∙ free_stays n ts parts.1

below_lower : (x y : ℤ) (ts : Contents) → int_cmp y x ≡ Less → below_all int_cmp x ts ≡ true → below_all int_cmp y ts ≡ true
below_lower x y [] less h = refl
below_lower x y (t ∷ ts) less h =
    let parts = and_parts (is_lt (int_cmp x t.0)) (below_all int_cmp x ts) h in
    (λ i. is_lt (int_cmp_total.trans y x t.0 less (less_is (int_cmp x t.0) parts.0) i) && below_lower x y ts less parts.1 i)

free_apart : (n : ℕ) (t : ℤ × Table) (ts : Contents) → below_all int_cmp t.0 ts ≡ true → pos (free_id_from (cond (int_eq t.0 (pos n)) (n + 1) n) ts) ≡ t.0 → ⊥
free_apart n t ts below same = by_order_of (int_cmp t.0 (pos n)) refl
  where
    by_order_of : (o : Ordering) → int_cmp t.0 (pos n) ≡ o → ⊥
    by_order_of Less e =
        let lower : t.0 <ℤ pos n = less_means t.0 (pos n) e in
        omega (arith, ints, free_above (cond (int_eq t.0 (pos n)) (n + 1) n) ts, more (int_eq t.0 (pos n)) n)
    by_order_of Equal e =
        let tied : int_eq t.0 (pos n) ≡ true = ap is_eq e in
        let is : t.0 ≡ pos n = (Decides-int_eq t.0 (pos n)).0 tied in
        let next : n + 1 ≤ free_id_from (cond (int_eq t.0 (pos n)) (n + 1) n) ts = subst (λ b. n + 1 ≤ free_id_from (cond b (n + 1) n) ts) (sym tied) (free_above (n + 1) ts) in
        omega (arith, ints)
    by_order_of Greater e =
        let above : pos n <ℤ t.0 = greater_means t.0 (pos n) e in
        let stays : free_id_from (cond (int_eq t.0 (pos n)) (n + 1) n) ts ≡ n =
        ap (λ b. free_id_from (cond b (n + 1) n) ts) (other_ids t.0 (pos n) (λ same. omega (arith, ints))) ∙ free_stays n ts (below_lower t.0 (pos n) ts (sym (int_cmp_is (pos n) t.0 Less above)) below) in
        omega (arith, ints)

free_of : (n : ℕ) (ts : Contents) → is_sorted int_cmp ts ≡ true → list_any (int_eq (pos (free_id_from n ts))) (table_ids ts) ≡ false
free_of n [] h = refl
free_of n (t ∷ ts) h =
    let parts = and_parts (below_all int_cmp t.0 ts) (is_sorted int_cmp ts) h in
    let id : ℤ = pos (free_id_from (cond (int_eq t.0 (pos n)) (n + 1) n) ts) in
    (λ i. other_ids id t.0 (free_apart n t ts parts.0) i || free_of (cond (int_eq t.0 (pos n)) (n + 1) n) ts parts.1 i)

pub free_among_ids : (contents : Contents) (tables : List TableInfo) → table_ids contents ≡ info_ids tables → is_sorted int_cmp contents ≡ true →
    list_any (int_eq (pos (free_id_from 1 contents))) (info_ids tables) ≡ false
free_among_ids contents tables same h = ap (list_any (int_eq (pos (free_id_from 1 contents)))) (sym same) ∙ free_of 1 contents h
