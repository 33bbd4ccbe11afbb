-- Loops whose pieces so far, and those of what is left, are all pieces.
use Rattle.std.proofs.Common.{◌≡◌, ℕ, ◌+◌, ◌<◌, Bool, true, false, cond, List, [], ◌∷◌, ◌++◌, map, length, take, drop, get_or, sym, ap, ◌∙◌, append_assoc, append-nil, filter, flat_map}
use Rattle.ft_values.specs.declared.rows.RowChange.{RowChange}
use Rattle.ft_documents.proofs.Common.{at_drop_more, take_more, map-append, length-map, get_or-map, filter-append, flat_map-append, shown_change}

-- a piece more
pub piece_more : {X : Type 0} (old new piece rest all : List X) → new ≡ old ++ piece → old ++ (piece ++ rest) ≡ all → new ++ rest ≡ all
piece_more old new piece rest all grown so_far = ap (λ xs. xs ++ rest) grown ∙ append_assoc old piece rest ∙ so_far

-- an element more, that may have no piece
pub kept_more : {X Y : Type 0} (p : X → Bool) (f : X → Y) (x : X) (xs : List X) (old new all : List Y) → new ≡ cond (p x) (old ++ f x ∷ []) old → old ++ map f (filter p (x ∷ xs)) ≡ all → new ++ map f (filter p xs) ≡ all
kept_more {X} {Y} p f x xs old new all =
    elim (p x) as (λ b. new ≡ cond b (old ++ f x ∷ []) old → old ++ map f (cond b (x ∷ filter p xs) (filter p xs)) ≡ all → new ++ map f (filter p xs) ≡ all) [
      | true ↦ λ grown so_far. piece_more old new (f x ∷ []) (map f (filter p xs)) all grown so_far
      | false ↦ λ same so_far. ap (λ ys. ys ++ map f (filter p xs)) same ∙ so_far
    ]

-- an element more after those before, that may have no piece
pub kept_last : {X Y : Type 0} (p : X → Bool) (f : X → Y) (x : X) (xs : List X) (old new first : List Y) → new ≡ cond (p x) (old ++ f x ∷ []) old → old ≡ first ++ map f (filter p xs) → new ≡ first ++ map f (filter p (xs ++ x ∷ []))
kept_last {X} {Y} p f x xs old new first grown so_far =
    elim (p x) as (λ b. new ≡ cond b (old ++ f x ∷ []) old → new ≡ first ++ (map f (filter p xs) ++ map f (cond b (x ∷ []) []))) [
      | true ↦ λ more. more ∙ ap (λ ys. ys ++ f x ∷ []) so_far ∙ append_assoc first (map f (filter p xs)) (f x ∷ [])
      | false ↦ λ same. same ∙ so_far ∙ ap (λ ys. first ++ ys) (sym (append-nil (map f (filter p xs))))
    ] grown
    ∙ ap (λ ys. first ++ ys) (sym (ap (map f) (filter-append p xs (x ∷ [])) ∙ map-append f (filter p xs) (filter p (x ∷ []))))

-- the piece of an element more
pub piece_last : {X Y : Type 0} (f : X → List Y) (xs : List X) (x : X) (old new first : List Y) → new ≡ old ++ f x → old ≡ first ++ flat_map f xs → new ≡ first ++ flat_map f (xs ++ x ∷ [])
piece_last f xs x old new first grown so_far = simp (grown, so_far, flat_map-append, append-nil, append_assoc)

-- the piece of a row more of those that are taken
pub one_more_list : {X Y Z : Type 0} (found : X → Y) (rows : List X) (i : ℕ) (row : X) → i < length rows → row ≡ get_or rows i row →
    (f : Y → List Z) (old new : List Z) → new ≡ old ++ f (found row) → old ≡ flat_map f (map found (take i rows)) → new ≡ flat_map f (map found (take (i + 1) rows))
one_more_list found rows i row inside is f old new added before =
    piece_last f (map found (take i rows)) (found row) old new [] added before
    ∙ ap (flat_map f) (sym (map-append found (take i rows) (row ∷ [])) ∙ ap (map found) (ap (λ r. take i rows ++ r ∷ []) is ∙ sym (take_more rows i row inside)))

-- nothing is left
pub all_taken : {X : Type 0} (made rest all : List X) → rest ≡ [] → made ++ rest ≡ all → made ≡ all
all_taken made rest all none so_far = sym (append-nil made) ∙ ap (λ xs. made ++ xs) (sym none) ∙ so_far

-- the first of what is left of a list
pub taken_more : {X Y : Type 0} (F : List X → Y) (xs : List X) (i : ℕ) (x : X) → i < length xs → x ≡ get_or xs i x → F (drop i xs) ≡ F (x ∷ drop (i + 1) xs)
taken_more F xs i x within is = at_drop_more F xs i x within ∙ ap (λ y. F (y ∷ drop (i + 1) xs)) (sym is)

-- a change more
pub change_more : (old new : List RowChange) (change : RowChange) → new ≡ old ++ change ∷ [] → map shown_change new ≡ map shown_change old ++ shown_change change ∷ []
change_more old new change grown = ap (map shown_change) grown ∙ map-append shown_change old (change ∷ [])

pub mapped_more : {X Y Z : Type 0} (F : List Y → Z) (f : X → Y) (xs : List X) (i : ℕ) (x : X) → i < length xs → x ≡ get_or xs i x → F (drop i (map f xs)) ≡ F (f x ∷ drop (i + 1) (map f xs))
mapped_more F f xs i x within is = taken_more F (map f xs) i (f x) (rw (length-map xs f) within) (ap f is ∙ sym (get_or-map f xs i x (f x) within))

-- six pieces
pub six_pieces : {X : Type 0} (m0 m1 m2 m3 m4 m5 m6 a b c d e f : List X) → m0 ≡ [] → m1 ≡ m0 ++ a → m2 ≡ m1 ++ b → m3 ≡ m2 ++ c → m4 ≡ m3 ++ d → m5 ≡ m4 ++ e → m6 ≡ m5 ++ f → m6 ≡ a ++ (b ++ ((c ++ d) ++ (e ++ f)))
six_pieces m0 m1 m2 m3 m4 m5 m6 a b c d e f h0 h1 h2 h3 h4 h5 h6 = simp (h6, h5, h4, h3, h2, h1, h0, append_assoc)
