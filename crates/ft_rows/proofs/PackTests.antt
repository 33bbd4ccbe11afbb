-- The places that can be packed, tested one after another.
use Rattle.std.proofs.Common.{◌≡◌, Bool, true, false, ◌&&◌, List, [], ◌∷◌, refl, sym, ap, ◌∙◌}
use Rattle.ft_rows.proofs.Common.{and_parts, and_from, Spot, CanPack, is_spot, is_after, rise_after, origin, passes}

abbrev pub tests : Bool → Spot → List Spot → Bool
tests first last [] = true
tests first last (s ∷ ss) = passes first last s && tests false s ss

later : (last : Spot) (ss : List Spot) → tests false last ss ≡ rise_after last ss
later last [] = refl
later last (s ∷ ss) = ap (λ b. is_spot s && is_after last s && b) (later s ss)

pub passes_can : (s : Spot) (ss : List Spot) → tests true origin (s ∷ ss) ≡ true → CanPack (s ∷ ss)
passes_can s ss h =
    let parts = and_parts (passes true origin s) (tests false s ss) h in
    and_from (is_spot s) (rise_after s ss) (and_parts (is_spot s) true parts.0).0 (sym (later s ss) ∙ parts.1)

pub can_passes : (ss : List Spot) → CanPack ss → tests true origin ss ≡ true
can_passes [] can = refl
can_passes (s ∷ ss) can =
    let parts = and_parts (is_spot s) (rise_after s ss) can in
    and_from (passes true origin s) (tests false s ss) (and_from (is_spot s) true parts.0 refl) (later s ss ∙ parts.1)

pub can_is_some : (ss : List Spot) → CanPack ss → ss ≡ [] → ⊥
can_is_some [] can e = let no = can in cc
can_is_some (s ∷ ss) can e = let no = e in cc

-- one that fails refuses all
pub fails_all : (first : Bool) (last : Spot) (spots front : List Spot) (s : Spot) (ss : List Spot) → tests true origin spots ≡ tests first last front → front ≡ s ∷ ss → passes first last s ≡ false → CanPack spots → false ≡ true
fails_all first last spots front s ss so_far is fails can = sym (so_far ∙ ap (tests first last) is ∙ ap (λ b. b && tests false s ss) fails) ∙ can_passes spots can

pub all_pass : (first : Bool) (last : Spot) (spots front : List Spot) → tests true origin spots ≡ tests first last front → front ≡ [] → (spots ≡ [] → ⊥) → CanPack spots
all_pass first last [] front so_far none some = absurd (some refl)
all_pass first last (s ∷ ss) front so_far none some = passes_can s ss (so_far ∙ ap (tests first last) none)
