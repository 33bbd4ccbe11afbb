-- What writers hold.
use Rattle.std.proofs.Common.{◌≡◌, ◌<◌, ◌+◌, ℕ, List, [], ◌∷◌, ◌++◌, take, drop, get_or, length, codes, Option, Some, None, Result, Ok, Err, ap, sym, ◌∙◌, append_assoc, append-nil, Bor}
use Rattle.std.specs.List.{flat_map}
use Rattle.std.proofs.lemmas.List.{take-append-drop, take_more, drop_more}
use Rattle.std.proofs.lemmas.Grind.{flat_map-append}
use Rattle.std.specs.Prelude.{IsErrAnd}
use Rattle.std.specs.Io.KnownBytes.{Appends, Keeps}
use Rattle.shell_text.specs.Print.{AppendsFront}
use Rattle.shell_io.specs.declared.run.Outputs.{Outputs}
use Rattle.shell_io.specs.Writing.{AppendsUpTo, SameWriters, Sends}

pub appends_then : (a b c : Option (List ℕ)) (x y : List ℕ) → Appends a b x → Appends b c y → Appends a c (x ++ y)
appends_then None b c x y h k = tt
appends_then (Some p) None c x y h k = absurd h
appends_then (Some p) (Some q) None x y h k = absurd k
appends_then (Some p) (Some q) (Some r) x y h k = k ∙ ap (λ z. z ++ y) h ∙ append_assoc p x y

pub appends_same : (a : Option (List ℕ)) → Appends a a []
appends_same None = tt
appends_same (Some p) = sym (append-nil p)

pub appends_kept : (a b c : Option (List ℕ)) (x : List ℕ) → Appends a b x → Keeps b c → Appends a c x
appends_kept None b c x h k = tt
appends_kept (Some p) None c x h k = absurd h
appends_kept (Some p) (Some q) None x h k = absurd k
appends_kept (Some p) (Some q) (Some r) x h k = k ∙ h

-- ---- a front of a text

pub up_to_part : (a b : Option (List ℕ)) (x : List ℕ) → AppendsFront a b x → AppendsUpTo a b x
up_to_part a b x (k, within, h) = (take k x, drop k x, sym (take-append-drop k x), h)

-- a front of the first of two texts
pub up_to_more : (a b : Option (List ℕ)) (x y : List ℕ) → AppendsUpTo a b x → AppendsUpTo a b (x ++ y)
up_to_more a b x y (front, rest, whole, h) = (front, rest ++ y, ap (λ t. t ++ y) whole ∙ append_assoc front rest y, h)

-- one text, and then a front of another
pub up_to_then : (a b c : Option (List ℕ)) (x y : List ℕ) → Appends a b x → AppendsUpTo b c y → AppendsUpTo a c (x ++ y)
up_to_then a b c x y first (front, rest, whole, h) = (x ++ front, rest, ap (λ t. x ++ t) whole ∙ sym (append_assoc x front rest), appends_then a b c x front first h)

pub sends_then : {T E : Type 0} (r : Result T E) (a b c : Option (List ℕ)) (x y : List ℕ) → Appends a b x → Sends r b c y → Sends r a c (x ++ y)
sends_then (Ok t) a b c x y first then = appends_then a b c x y first then
sends_then (Err e) a b c x y first then = up_to_then a b c x y first then

-- the writer refused
pub sends_err : {T E : Type 0} (Q : E → Type 0) (r : Result T E) (a b : Option (List ℕ)) (x : List ℕ) → IsErrAnd r Q → AppendsUpTo a b x → Sends r a b x
sends_err Q (Ok t) a b x is front = absurd is
sends_err Q (Err e) a b x is front = front

-- ---- the writers that a run is lent

pub same_then : {O E : Type 0} (a b c : Outputs O E) → SameWriters a b → SameWriters b c → SameWriters a c
same_then a b c h k = (k.0 ∙ h.0, k.1 ∙ h.1)

-- ---- parts, one after the other

abbrev text_in : Bor (List ℕ) → List ℕ
text_in part = part.now

pub parts_more : (parts : List (Bor (List ℕ))) (i : ℕ) (d : Bor (List ℕ)) (x : List ℕ) → i < length parts → x ≡ (get_or parts i d).now → flat_map text_in (take (i + 1) parts) ≡ flat_map text_in (take i parts) ++ x
parts_more parts i d x within is =
    ap (flat_map text_in) (take_more parts i d within) ∙ flat_map-append text_in (take i parts) (get_or parts i d ∷ [])
    ∙ ap (λ y. flat_map text_in (take i parts) ++ y) (append-nil (get_or parts i d).now ∙ sym is)

pub parts_split : (parts : List (Bor (List ℕ))) (i : ℕ) (d : Bor (List ℕ)) (x : List ℕ) → i < length parts → x ≡ (get_or parts i d).now →
    flat_map text_in (take i parts) ++ (x ++ flat_map text_in (drop (i + 1) parts)) ≡ flat_map text_in parts
parts_split parts i d x within is =
    ap (λ y. flat_map text_in (take i parts) ++ (y ++ flat_map text_in (drop (i + 1) parts))) is
    ∙ ap (λ later. flat_map text_in (take i parts) ++ flat_map text_in later) (sym (drop_more parts i d within))
    ∙ sym (flat_map-append text_in (take i parts) (drop i parts)) ∙ ap (flat_map text_in) (take-append-drop i parts)

-- the front of a fault line, and its text
pub line_split : (number rest : List ℕ) → (codes "Error: near line " ++ (number ++ codes ": ")) ++ rest ≡ codes "Error: near line " ++ (number ++ (codes ": " ++ rest))
line_split number rest = ap (λ t. codes "Error: near line " ++ t) (append_assoc number (codes ": ") rest)
