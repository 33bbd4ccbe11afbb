-- Turns one after the other.
use Rattle.std.proofs.Common.{◌≡◌, true, false, List, [], ◌∷◌, ◌++◌, refl, sym, ap, subst, ◌∙◌, append_assoc, append-nil, add_assoc, add-zero, zero-add, MatchBool, Bool}
use Rattle.shell_text.specs.Units.{Member}
use Rattle.ft_shell.proofs.Common.{Ghosts, Shell, Effects, idle, and_then, Turn, Turns}

pub assoc_then : (a b c : Effects) → and_then (and_then a b) c ≡ and_then a (and_then b c)
assoc_then a b c = λ i. record { out = append_assoc a.out b.out c.out i; err = append_assoc a.err b.err c.err i; faults = add_assoc a.faults b.faults c.faults i; ends = c.ends; calls = append_assoc a.calls b.calls c.calls i }

pub idle_then : (t : Effects) → and_then idle t ≡ t
idle_then t = ap (λ n. record t { faults = n }) (zero-add t.faults)

pub then_idle : (t : Effects) → t.ends ≡ false → and_then t idle ≡ t
then_idle t goes = λ i. record { out = append-nil t.out i; err = append-nil t.err i; faults = add-zero t.faults i; ends = sym goes i; calls = append-nil t.calls i }

-- one turn
pub turns_one : {P S : Type 0} (g : Ghosts P) (h : Ghosts S) (member : Member) (a b : Shell P S) (told : Effects) → Turn g h member a b told → Turns g h (member ∷ []) a b told
turns_one g h member a b told turn = (b, told, turn, go told.ends refl)
  where
    go : (ends : Bool) → told.ends ≡ ends → MatchBool ends ((b ≡ b) × (told ≡ told)) ((rest : Effects) × Turns g h [] b b rest × (told ≡ and_then told rest))
    go true is = (refl, refl)
    go false is = (idle, (refl, refl), sym (then_idle told is))

-- turns that don't end the session, and then those that follow
pub turns_then : {P S : Type 0} (g : Ghosts P) (h : Ghosts S) (members others : List Member) (a b c : Shell P S) (first rest : Effects) → Turns g h members a b first → first.ends ≡ false → Turns g h others b c rest → Turns g h (members ++ others) a c (and_then first rest)
turns_then g h [] others a b c first rest (same, none) goes later =
    subst (λ s. Turns g h others s c (and_then first rest)) same (subst (λ t. Turns g h others b c t) (sym (ap (λ t. and_then t rest) none ∙ idle_then rest)) later)
turns_then g h (member ∷ members) others a b c first rest (mid, told, turn, more) goes later = (mid, told, turn, go (λ after turns ends. turns_then g h members others mid b c after rest turns ends later) told.ends refl more)
  where
    go : ((after : Effects) → Turns g h members mid b after → after.ends ≡ false → Turns g h (members ++ others) mid c (and_then after rest)) → (ends : Bool) → told.ends ≡ ends → MatchBool ends ((b ≡ mid) × (first ≡ told)) ((after : Effects) × Turns g h members mid b after × (first ≡ and_then told after)) →
        MatchBool ends ((c ≡ mid) × (and_then first rest ≡ told)) ((after : Effects) × Turns g h (members ++ others) mid c after × (and_then first rest ≡ and_then told after))
    go joined true is (same, all) = absurd (let wrong : true ≡ false = sym is ∙ ap (λ (t : Effects). t.ends) (sym all) ∙ goes in cc)
    go joined false is (after, turns, all) =
        (and_then after rest, joined after turns (ap (λ (t : Effects). t.ends) (sym all) ∙ goes), ap (λ t. and_then t rest) all ∙ assoc_then told after rest)

-- what follows turns that end the session is not run
pub turns_ended : {P S : Type 0} (g : Ghosts P) (h : Ghosts S) (members others : List Member) (a b : Shell P S) (told : Effects) → Turns g h members a b told → told.ends ≡ true → Turns g h (members ++ others) a b told
turns_ended g h [] others a b told (same, none) ends = absurd (let wrong : false ≡ true = ap (λ (t : Effects). t.ends) (sym none) ∙ ends in cc)
turns_ended g h (member ∷ members) others a b told (mid, first, turn, more) ends = (mid, first, turn, go (λ after turns stops. turns_ended g h members others mid b after turns stops) first.ends refl more)
  where
    go : ((after : Effects) → Turns g h members mid b after → after.ends ≡ true → Turns g h (members ++ others) mid b after) → (stops : Bool) → first.ends ≡ stops → MatchBool stops ((b ≡ mid) × (told ≡ first)) ((after : Effects) × Turns g h members mid b after × (told ≡ and_then first after)) →
        MatchBool stops ((b ≡ mid) × (told ≡ first)) ((after : Effects) × Turns g h (members ++ others) mid b after × (told ≡ and_then first after))
    go joined true is it = it
    go joined false is (after, turns, all) = (after, joined after turns (ap (λ (t : Effects). t.ends) (sym all) ∙ ends), all)
