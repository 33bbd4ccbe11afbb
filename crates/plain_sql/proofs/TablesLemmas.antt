-- Names that are tried one after the other.
use Rattle.std.proofs.Common.{◌≡◌, ◌+◌, ◌<◌, ℕ, List, [], ◌∷◌, ◌++◌, map, length, take, drop, get_or, true, false, Some, Result, Ok, Err, refl, sym, ap, ◌∙◌, subst, inl, inr, string_bytes, String, Global, OnErr}
use Rattle.plain_sql.proofs.Common.{take_more, drop_more, take-append-drop, map-append, Ghosts, Held, Finds, StopsTrying, Tries}

pub finds_cannot : {P : Type 0} (g : Ghosts P) (xs : List (List ℕ)) (name : List ℕ) (old mid new : Held P) (found : List (List ℕ)) → Finds g xs old mid found → Tries g name (Some false) mid new → Finds g (xs ++ name ∷ []) old new found
finds_cannot g [] name old mid new found first tries = (new, [], (refl, refl), inr (subst (λ h. Tries g name (Some false) h new) first.0 tries, first.1))
finds_cannot g (x ∷ xs) name old mid new found first tries = (first.0, first.1, finds_cannot g xs name first.0 mid new first.1 first.2 tries, first.3)

pub finds_can : {P : Type 0} (g : Ghosts P) (xs : List (List ℕ)) (name : List ℕ) (old mid new : Held P) (found : List (List ℕ)) → Finds g xs old mid found → Tries g name (Some true) mid new → Finds g (xs ++ name ∷ []) old new (found ++ name ∷ [])
finds_can g [] name old mid new found first tries = (new, [], (refl, refl), inl (subst (λ h. Tries g name (Some true) h new) first.0 tries, ap (λ f. f ++ name ∷ []) first.1))
finds_can g (x ∷ xs) name old mid new found first tries = (
  first.0,
  first.1 ++ name ∷ [],
  finds_can g xs name first.0 mid new first.1 first.2 tries,
  elim first.3 [
    | inl can ↦ inl (can.0, ap (λ f. f ++ name ∷ []) can.1)
    | inr cannot ↦ inr (cannot.0, ap (λ f. f ++ name ∷ []) cannot.1)
  ],
)

-- some were tried, and memory was wanting among the others
pub stops_after : {P : Type 0} (g : Ghosts P) (xs others : List (List ℕ)) (old mid new : Held P) (found : List (List ℕ)) → Finds g xs old mid found → StopsTrying g others mid new → StopsTrying g (xs ++ others) old new
stops_after g [] others old mid new found first stops = subst (λ h. StopsTrying g others h new) first.0 stops
stops_after g (x ∷ xs) others old mid new found first stops =
    let later = stops_after g xs others first.0 mid new first.1 first.2 stops in
    elim first.3 [
      | inl can ↦ inr (inr (first.0, true, can.0, later))
      | inr cannot ↦ inr (inr (first.0, false, cannot.0, later))
    ]

-- memory was wanting before another name was tried
pub stops_now : {P : Type 0} (g : Ghosts P) (names : List (List ℕ)) (at : Held P) → StopsTrying g names at at
stops_now g [] at = refl
stops_now g (name ∷ names) at = inl refl

-- ---- the names of a loop

pub names_split : (names : List (String Global)) (i : ℕ) (d : String Global) (name : List ℕ) → i < length names → name ≡ string_bytes (get_or names i d) →
    map string_bytes (take i names) ++ name ∷ map string_bytes (drop (i + 1) names) ≡ map string_bytes names
names_split names i d name within is =
    ap (λ n. map string_bytes (take i names) ++ n ∷ map string_bytes (drop (i + 1) names)) is
    ∙ sym (map-append string_bytes (take i names) (get_or names i d ∷ drop (i + 1) names))
    ∙ ap (λ later. map string_bytes (take i names ++ later)) (sym (drop_more names i d within))
    ∙ ap (map string_bytes) (take-append-drop i names)

pub names_more : (names : List (String Global)) (i : ℕ) (d : String Global) (name : List ℕ) → i < length names → name ≡ string_bytes (get_or names i d) →
    map string_bytes (take i names) ++ name ∷ [] ≡ map string_bytes (take (i + 1) names)
names_more names i d name within is =
    ap (λ n. map string_bytes (take i names) ++ n ∷ []) is
    ∙ sym (map-append string_bytes (take i names) (get_or names i d ∷ []))
    ∙ ap (map string_bytes) (sym (take_more names i d within))

pub on_err : {T E X : Type 0} (r : Result T E) → X → OnErr r X
on_err (Ok value) x = tt
on_err (Err e) x = x
