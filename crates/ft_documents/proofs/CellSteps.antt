-- The cells of a document under their columns.
use Rattle.std.proofs.Common.{◌≡◌, ℕ, zero, suc, ◌+◌, ◌^◌, ◌<◌, ◌≤◌, Bool, true, false, cond, not, List, [], ◌∷◌, ◌++◌, map, length, get_or, Some, None, ℤ, pos, refl, sym, ap, ◌∙◌, arith, to_z, w64, Option, Bor, rules, IfSome, MatchOption, filter, slice_get, HoldsAt, Less, Greater, int_cmp, is_eq}
use Rattle.ft_documents.proofs.Common.{enumerate_from, option_eq, length-map, get_or-map, map-append, int_cmp_is, int_cmp_total, tied_itself, find, ints, slice_get_past, slice_get_read, Value, Cell, shown_value, Change, PutCell, same_cell, was_there, numbered_cells, put_cells}
use Rattle.ft_documents.proofs.Steps.{kept_last}
use Rattle.ft_values.specs.declared.rows.Value.TheVariants as value
use Rattle.ft_values.specs.contracts.rows.ValuePartialEq.TheImpl as TheImpl

-- elements under their numbers, from one on
abbrev pub numbered_from : {X : Type 0} → ℕ → List X → List (ℤ × X)
numbered_from {X} k xs = map (λ (c : ℕ × X). (pos c.0, c.1)) (enumerate_from k xs)

pub pos_less : (a b : ℕ) → a < b → int_cmp (pos a) (pos b) ≡ Less
pos_less a b h = sym (int_cmp_is (pos a) (pos b) Less (omega (arith, ints)))

pub pos_greater : (a b : ℕ) → b < a → int_cmp (pos a) (pos b) ≡ Greater
pos_greater a b h = sym (int_cmp_is (pos a) (pos b) Greater (omega (arith, ints)))

-- what is found under a number is the element there
pub found_from : {X : Type 0} (k : ℕ) (xs : List X) (i : ℕ) → find int_cmp (pos (k + i)) (numbered_from k xs) ≡ slice_get xs i
found_from k [] i = refl
found_from k (x ∷ xs) zero =
    let here : k + 0 ≡ k = omega arith in
    ap (λ n. find int_cmp (pos n) (numbered_from k (x ∷ xs))) here ∙ ap (λ o. cond (is_eq o) (Some x) (find int_cmp (pos k) (numbered_from (k + 1) xs))) (tied_itself int_cmp_total (pos k))
found_from k (x ∷ xs) (suc i) =
    let above : k < k + suc i = omega arith in
    let same : k + suc i ≡ (k + 1) + i = omega arith in
    ap (λ o. cond (is_eq o) (Some x) (find int_cmp (pos (k + suc i)) (numbered_from (k + 1) xs))) (pos_greater (k + suc i) k above)
    ∙ ap (λ n. find int_cmp (pos n) (numbered_from (k + 1) xs)) same ∙ found_from (k + 1) xs i

at_start : (i : ℕ) → i ≡ 0 + i
at_start i = omega arith

-- the derived `==` of values is that of what they hold
same_value : (a b : Value) → (TheImpl.ghosts).eq a b ≡ same_cell (shown_value a) (shown_value b)
same_value value.Null value.Null = refl
same_value value.Null (value.Int n) = refl
same_value value.Null (value.Text t) = refl
same_value (value.Int m) value.Null = refl
same_value (value.Int m) (value.Int n) = refl
same_value (value.Int m) (value.Text t) = refl
same_value (value.Text s) value.Null = refl
same_value (value.Text s) (value.Int n) = refl
same_value (value.Text s) (value.Text t) = refl

-- a cell at its place: whether it is new or differs, and its change
abbrev pub placed_cell : ℕ × Value → ℕ × Cell
placed_cell p = (p.0, shown_value p.1)

abbrev pub is_put : List Cell → ℕ × Cell → Bool
is_put before c = not (was_there same_cell (slice_get before c.0) c.1)

abbrev pub put_at : ℤ → ℤ → ℕ × Cell → Change
put_at tab docid c = PutCell tab docid (to_z w64 c.0) c.1

-- what is found at a place tells whether a value is put
pub tells_put : (before : List Value) (place : ℕ) (v : Bor Value) (o : Option (Bor Value)) → MatchOption o (length before ≤ place) (λ x. (place < length before) × HoldsAt (λ y. x.now ≡ y) before place) → IfSome o (λ x. x.now ≡ get_or before place x.now) →
    not (option_eq (λ x y. (TheImpl.ghosts).eq x.now y.now) o (Some v)) ≡ is_put (map shown_value before) (place, shown_value v.now)
tells_put before place v None past at = ap (λ o. not (was_there same_cell o (shown_value v.now))) (sym (slice_get_past (map shown_value before) place (rw (length-map before shown_value) past)))
tells_put before place v (Some x) within at =
    ap not (same_value x.now v.now) ∙ ap (λ o. not (was_there same_cell o (shown_value v.now))) (sym (slice_get_read (map shown_value before) _ place (shown_value x.now) refl (rw (length-map before shown_value) within.0) (ap shown_value at ∙ sym (get_or-map shown_value before place x.now (shown_value x.now) within.0))))

-- a value more
pub one_more_put : (tab docid : ℤ) (before : List Cell) (place : ℕ) (value : Value) (yielded : List (ℕ × Value)) (b : Bool) (old new first : List Change) → is_put before (place, shown_value value) ≡ b → new ≡ cond b (old ++ put_at tab docid (place, shown_value value) ∷ []) old
    → old ≡ first ++ map (put_at tab docid) (filter (is_put before) (map placed_cell yielded)) → new ≡ first ++ map (put_at tab docid) (filter (is_put before) (map placed_cell (yielded ++ (place, value) ∷ [])))
one_more_put tab docid before place value yielded b old new first is grown so_far =
    kept_last (is_put before) (put_at tab docid) (place, shown_value value) (map placed_cell yielded) old new first (grown ∙ ap (λ b. cond b (old ++ put_at tab docid (place, shown_value value) ∷ []) old) (sym is)) so_far
    ∙ ap (λ cs. first ++ map (put_at tab docid) (filter (is_put before) cs)) (sym (map-append placed_cell yielded ((place, value) ∷ [])))

kept_both : {X Y Z : Type 0} (b : Bool) (f : X → Z) (g : Y → Z) (x : X) (y : Y) (xs : List X) (ys : List Y) → f x ≡ g y → map f xs ≡ map g ys → map f (cond b (x ∷ xs) xs) ≡ map g (cond b (y ∷ ys) ys)
kept_both true f g x y xs ys first rest = λ i. first i ∷ rest i
kept_both false f g x y xs ys first rest = rest

-- the changes of all cells of a document
puts_from : (tab docid : ℤ) (before : List Cell) (k : ℕ) (xs : List Value) → k + length xs < 2 ^ 63 →
    map (put_at tab docid) (filter (is_put before) (map placed_cell (enumerate_from k xs)))
    ≡ map (λ (c : ℤ × Cell). PutCell tab docid c.0 c.1) (filter (λ (c : ℤ × Cell). not (was_there same_cell (find int_cmp c.0 (numbered_cells before)) c.1)) (numbered_from k (map shown_value xs)))
puts_from tab docid before k [] few = refl
puts_from tab docid before k (x ∷ xs) few =
    let more : (k + 1) + length xs < 2 ^ 63 = omega arith in
    let rest = puts_from tab docid before (k + 1) xs more in
    let put : ℤ × Cell → Change = λ c. PutCell tab docid c.0 c.1 in
    let left = filter (λ (c : ℤ × Cell). not (was_there same_cell (find int_cmp c.0 (numbered_cells before)) c.1)) (numbered_from (k + 1) (map shown_value xs)) in
    let here : find int_cmp (pos k) (numbered_cells before) ≡ slice_get before k = ap (λ n. find int_cmp (pos n) (numbered_cells before)) (at_start k) ∙ found_from 0 before k in
    let within : k < 2 ^ 63 = omega arith in
    let place : to_z w64 k ≡ pos k = search rules in
    let cell = shown_value x in
    kept_both (is_put before (k, cell)) (put_at tab docid) put (k, cell) (pos k, cell) _ _ (ap (λ n. PutCell tab docid n cell) place) rest
    ∙ ap (λ o. map put (cond (not (was_there same_cell o cell)) ((pos k, cell) ∷ left) left)) (sym here)

pub all_puts : (tab docid : ℤ) (before : List Cell) (xs : List Value) → length xs < 2 ^ 63 → map (put_at tab docid) (filter (is_put before) (map placed_cell (enumerate_from 0 xs))) ≡ put_cells tab docid before (map shown_value xs)
all_puts tab docid before xs few = puts_from tab docid before 0 xs (let e : 0 + length xs ≡ length xs = omega arith in rw e few)
