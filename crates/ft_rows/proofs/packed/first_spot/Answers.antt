use Rattle.std.proofs.Common.{List, ℕ, ◌≡◌, ◌∷◌, [], arith, refl, ◌<◌}
use Rattle.ft_rows.proofs.ReadLemmas.{Begins, begins, one_more, ends_number, no_spot, no_place, a_place}
use Rattle.ft_rows.proofs.packed.first_spot.Goals as goal

-- three numbers of a byte each
three_bytes : (bytes rest : List ℕ) (c p l z : ℕ) → bytes ≡ c ∷ p ∷ l ∷ z ∷ rest → c < 128 → p < 128 → l < 128 → Begins bytes (c ∷ p ∷ l ∷ []) (z ∷ rest)
three_bytes bytes rest c p l z is low_c low_p low_l =
    one_more (one_more (one_more (begins bytes) (ends_number bytes (p ∷ l ∷ z ∷ rest) c is low_c)) (ends_number _ (l ∷ z ∷ rest) p refl low_p)) (ends_number _ (z ∷ rest) l refl low_l)

pub returns-in_err-spot-clause-none : goal.returns-in_err-spot-clause-none
returns-in_err-spot-clause-none c =
    let n = c.in-Some.ensures in
    let three = three_bytes c.args.bytes.now c.in-Some.rest.now c.in-Some.column c.in-Some.pos c.in-Some.place c.in-Some.size n.0 n.1 n.2 n.3 in
    rw c.from_residual.ensures (λ some. no_place c.args.is_first c.args.last.now (one_more three (ends_number _ _ c.in-Some.size refl n.4)) c.in_err-spot.ensures.none)

pub returns-in-Some-clause-found : goal.returns-in-Some-clause-found
returns-in-Some-clause-found c =
    let n = c.in-Some.ensures in
    let three = three_bytes c.args.bytes.now c.in-Some.rest.now c.in-Some.column c.in-Some.pos c.in-Some.place c.in-Some.size n.0 n.1 n.2 n.3 in
    a_place c.args.is_first c.args.last.now c.in_ok-spot.spot three (ends_number _ _ c.in-Some.size refl n.4) c.in_ok-spot.ensures.found

pub returns-in_err-column-clause-none : goal.returns-in_err-column-clause-none
returns-in_err-column-clause-none c = rw c.from_residual-in_err-column.ensures (no_spot c.args.is_first c.args.last.now (omega arith) (begins c.args.bytes.now) c.in_err-column.ensures.none)

pub returns-in_err-pos-clause-none : goal.returns-in_err-pos-clause-none
returns-in_err-pos-clause-none c =
    let one = one_more (begins c.args.bytes.now) c.in_ok-column.ensures.found in
    rw c.from_residual-in_err-pos.ensures (no_spot c.args.is_first c.args.last.now (omega arith) one c.in_err-pos.ensures.none)

pub returns-in_err-place-clause-none : goal.returns-in_err-place-clause-none
returns-in_err-place-clause-none c =
    let two = one_more (one_more (begins c.args.bytes.now) c.in_ok-column.ensures.found) c.in_ok-pos.ensures.found in
    rw c.from_residual-in_err-place.ensures (no_spot c.args.is_first c.args.last.now (omega arith) two c.in_err-place.ensures.none)

pub returns-in_err-size-clause-none : goal.returns-in_err-size-clause-none
returns-in_err-size-clause-none c =
    let three = one_more (one_more (one_more (begins c.args.bytes.now) c.in_ok-column.ensures.found) c.in_ok-pos.ensures.found) c.in_ok-place.ensures.found in
    rw c.from_residual-in_err-size.ensures (no_spot c.args.is_first c.args.last.now (omega arith) three c.in_err-size.ensures.none)

pub returns-in_err-spot-2-clause-none : goal.returns-in_err-spot-2-clause-none
returns-in_err-spot-2-clause-none c =
    let three = one_more (one_more (one_more (begins c.args.bytes.now) c.in_ok-column.ensures.found) c.in_ok-pos.ensures.found) c.in_ok-place.ensures.found in
    rw c.from_residual-in_err-spot-2.ensures (λ some. no_place c.args.is_first c.args.last.now (one_more three c.in_ok-size.ensures.found) c.in_err-spot-2.ensures.none)

pub returns-clause-found : goal.returns-clause-found
returns-clause-found c =
    let three = one_more (one_more (one_more (begins c.args.bytes.now) c.in_ok-column.ensures.found) c.in_ok-pos.ensures.found) c.in_ok-place.ensures.found in
    a_place c.args.is_first c.args.last.now c.in_ok-spot-2.spot three c.in_ok-size.ensures.found c.in_ok-spot-2.ensures.found
