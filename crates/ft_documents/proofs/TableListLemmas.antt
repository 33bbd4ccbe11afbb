-- A table in its place in a list of tables.
use Rattle.std.proofs.Common.{◌≡◌, ◌≤◌, ◌+◌, ℕ, zero, suc, List, [], ◌∷◌, map, length, cond, true, false, not, ltb, unwrap_or, Some, None, ℤ, refl, ap, ◌∙◌, arith, int_lt, int_cmp, is_lt, Less, Equal, Greater, insert, remove}
use Rattle.ft_values.specs.declared.table.TableInfo.{TableInfo as RustTableInfo}
use Rattle.ft_content.specs.Views.{TableInfo}
use Rattle.ft_documents.proofs.Common.{position_or_len, nat_tests, map-append, take-map, drop-map, shown_info, with_info}

pub less_is : (a b : ℤ) → is_lt (int_cmp a b) ≡ int_lt a b
less_is a b = elim (int_lt a b) as (λ l. is_lt (cond l Less (cond (int_lt b a) Greater Equal)) ≡ l) [ true ↦ refl | false ↦ elim (int_lt b a) as (λ g. is_lt (cond g Greater Equal) ≡ false) [ true ↦ refl | false ↦ refl ] ]

-- before how many tables of a greater id it stands
pub told_there : (table : TableInfo) (ts : List RustTableInfo) → with_info table (map shown_info ts) ≡ insert (map shown_info ts) (position_or_len (λ (t : RustTableInfo). int_lt table.id t.id) ts) table
told_there table [] = refl
told_there table (t ∷ ts) =
    let n = position_or_len (λ (t : RustTableInfo). int_lt table.id t.id) ts in
    let more : suc n ≡ 1 + n = omega arith in
    ap (λ b. cond b (table ∷ shown_info t ∷ map shown_info ts) (shown_info t ∷ with_info table (map shown_info ts))) (less_is table.id t.id)
    ∙ elim (int_lt table.id t.id) as (λ b. cond b (table ∷ shown_info t ∷ map shown_info ts) (shown_info t ∷ with_info table (map shown_info ts)) ≡ insert (shown_info t ∷ map shown_info ts) (cond (not b) (1 + n) 0) table) [
      | true ↦ refl
      | false ↦ ap (λ l. shown_info t ∷ l) (told_there table ts) ∙ ap (λ k. insert (shown_info t ∷ map shown_info ts) k table) more
    ]

-- what `position` answers, or the end
pub place_or_end : (n long : ℕ) → n ≤ long → unwrap_or (cond (ltb n long) (Some n) None) long ≡ n
place_or_end n long within = grind (arith, nat_tests)

pub info_insert : (ts : List RustTableInfo) (n : ℕ) (t : RustTableInfo) → map shown_info (insert ts n t) ≡ insert (map shown_info ts) n (shown_info t)
info_insert ts n t = simp (map-append, take-map, drop-map)

-- what was put in at a place can be taken out there
pub taken_out : (ts : List RustTableInfo) (n : ℕ) (t : RustTableInfo) → n ≤ length ts → remove (insert ts n t) n ≡ ts
taken_out ts zero t h = refl
taken_out [] (suc n) t h = absurd (omega (arith, h))
taken_out (x ∷ xs) (suc n) t h = ap (λ l. x ∷ l) (taken_out xs n t (omega (arith, h)))
