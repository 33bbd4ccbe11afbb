-- Names in small letters, one after the other.
use Rattle.std.proofs.Common.{◌≡◌, ℕ, ◌+◌, ◌<◌, ◌||◌, Bool, true, false, cond, not, List, [], ◌∷◌, ◌++◌, map, length, take, drop, get_or, refl, sym, ap, ◌∙◌, subst, String}
use Rattle.std.specs.BTreeSet.{BTreeSet}
use Rattle.ft_content.proofs.Common.{list_any, map-append, take_more, take-append-drop, list_any-append, same_name, repeats_name, HasLowercase}

or_true : (a : Bool) → (a || true) ≡ true
or_true true = refl
or_true false = refl

-- the name that was added, and the others
pub or_added : (b a : Bool) → cond b true a ≡ (a || (b || false))
or_added true a = sym (or_true a)
or_added false true = refl
or_added false false = refl

four : (a b c d : Bool) → ((a || (c || false)) || (b || d)) ≡ ((a || b) || (c || d))
four true b c d = refl
four false true true d = refl
four false true false d = refl
four false false true d = refl
four false false false d = refl

-- a name repeats among these where it did before the last, or that one stands among the others
repeats_last : (xs : List (List ℕ)) (x : List ℕ) → repeats_name (xs ++ x ∷ []) ≡ (repeats_name xs || list_any (λ n. same_name n x) xs)
repeats_last [] x = refl
repeats_last (y ∷ xs) x =
    ap (λ b. b || repeats_name (xs ++ x ∷ [])) (list_any-append (same_name y) xs (x ∷ []))
    ∙ ap (λ b. (list_any (same_name y) xs || (same_name y x || false)) || b) (repeats_last xs x)
    ∙ four (list_any (same_name y) xs) (repeats_name xs) (same_name y x) (list_any (λ n. same_name n x) xs)

repeats_front : (xs ys : List (List ℕ)) → repeats_name xs ≡ true → repeats_name (xs ++ ys) ≡ true
repeats_front [] ys h = absurd (let no = h in cc)
repeats_front (x ∷ xs) ys h =
    ap (λ b. b || repeats_name (xs ++ ys)) (list_any-append (same_name x) xs ys)
    ∙ by (list_any (same_name x) xs) (list_any (same_name x) ys) (repeats_name xs) (repeats_name (xs ++ ys)) h (repeats_front xs ys)
  where
    by : (a b c d : Bool) → (a || c) ≡ true → (c ≡ true → d ≡ true) → ((a || b) || d) ≡ true
    by true b c d either later = refl
    by false b c d either later = ap (λ r. b || r) (later either) ∙ or_true b

-- things that have names
module _ {X : Type 0} (name_of : X → List ℕ) where
  -- the names up to a place, and the one that stands there
  names_more : (xs : List X) (i : ℕ) (x : X) (name : List ℕ) → i < length xs → x ≡ get_or xs i x → name ≡ name_of x
      → map name_of (take (i + 1) xs) ≡ map name_of (take i xs) ++ name ∷ []
  names_more xs i x name h e n =
      ap (map name_of) (take_more xs i x h) ∙ map-append name_of (take i xs) (get_or xs i x ∷ [])
      ∙ ap (λ m. map name_of (take i xs) ++ m ∷ []) (ap name_of (sym e) ∙ sym n)

  -- a name that isn't new among those before it
  pub small_again : {Y : Type 0} (small : BTreeSet (String Y)) (xs : List X) (i : ℕ) (x : X) (name : List ℕ) (is_new : Bool) → i < length xs
      → x ≡ get_or xs i x → name ≡ name_of x → HasLowercase small (map name_of (take i xs))
      → ((names : List (List ℕ)) → HasLowercase small names → is_new ≡ not (list_any (λ n. same_name n name) names)) → is_new ≡ false
      → true ≡ repeats_name (map name_of xs)
  small_again small xs i x name is_new h e n are told is =
      let before = map name_of (take i xs) in
      let stands : list_any (λ n. same_name n name) before ≡ true = there (list_any (λ n. same_name n name) before) (sym (told before are) ∙ is) in
      let twice = repeats_last before name ∙ ap (λ b. repeats_name before || b) stands ∙ or_true (repeats_name before) in
      let front = ap repeats_name (names_more xs i x name h e n) ∙ twice in
      let whole = sym (map-append name_of (take (i + 1) xs) (drop (i + 1) xs)) ∙ ap (map name_of) (take-append-drop (i + 1) xs) in
      sym (repeats_front (map name_of (take (i + 1) xs)) (map name_of (drop (i + 1) xs)) front) ∙ ap repeats_name whole
    where
      there : (b : Bool) → not b ≡ false → b ≡ true
      there true e = refl
      there false e = absurd (let no = e in cc)

  -- one that is new
  pub small_more : {Y : Type 0} (small new : BTreeSet (String Y)) (xs : List X) (i : ℕ) (x : X) (name : List ℕ) (is_new : Bool) → i < length xs
      → x ≡ get_or xs i x → name ≡ name_of x → HasLowercase small (map name_of (take i xs))
      → ((names : List (List ℕ)) → HasLowercase small names → is_new ≡ not (list_any (λ n. same_name n name) names)) → is_new ≡ true
      → ((names : List (List ℕ)) → HasLowercase small names → HasLowercase new (names ++ name ∷ [])) → repeats_name (map name_of (take i xs)) ≡ false
      → HasLowercase new (map name_of (take (i + 1) xs)) × (repeats_name (map name_of (take (i + 1) xs)) ≡ false)
  small_more small new xs i x name is_new h e n are told is added once =
      let before = map name_of (take i xs) in
      let more = names_more xs i x name h e n in
      let stands : list_any (λ n. same_name n name) before ≡ false = gone (list_any (λ n. same_name n name) before) (sym (told before are) ∙ is) in (
        subst (λ names. HasLowercase new names) (sym more) (added before are),
        ap repeats_name more ∙ repeats_last before name ∙ ap (λ b. repeats_name before || b) stands ∙ ap (λ b. b || false) once,
      )
    where
      gone : (b : Bool) → not b ≡ true → b ≡ false
      gone true e = absurd (let no = e in cc)
      gone false e = refl
