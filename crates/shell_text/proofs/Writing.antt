-- Bytes that go out in several writes.
use Rattle.std.proofs.Common.{◌≡◌, sym, ap, ◌∙◌, ℕ, ◌+◌, ◌-◌, arith, List, ◌++◌, length, take, drop, Option, Some, None}
use Rattle.std.specs.Io.KnownBytes.{Appends, Keeps}
use Rattle.std.proofs.Math.Seq.{take-add}
use Rattle.std.proofs.lemmas.List.{append_assoc, length-drop, take_all}

pub appends_more : (a b c : Option (List ℕ)) (n m : ℕ) (text : List ℕ) → Appends a b (take n text) → Appends b c (take m (drop n text)) → Appends a c (take (n + m) text)
appends_more None b c n m text h k = tt
appends_more (Some x) None c n m text h k = absurd h
appends_more (Some x) (Some y) None n m text h k = absurd k
appends_more (Some x) (Some y) (Some z) n m text h k =
    k ∙ ap (λ t. t ++ take m (drop n text)) h ∙ append_assoc x (take n text) (take m (drop n text)) ∙ ap (λ t. x ++ t) (sym (take-add n m text))

pub appends_keeps : (a b c : Option (List ℕ)) (text : List ℕ) → Appends a b text → Keeps b c → Appends a c text
appends_keeps None b c text h k = tt
appends_keeps (Some x) None c text h k = absurd h
appends_keeps (Some x) (Some y) None text h k = absurd k
appends_keeps (Some x) (Some y) (Some z) text h k = k ∙ h

-- what a writer is given is the rest of the text
pub rest_of : (n : ℕ) (text : List ℕ) → take (length text - n) (drop n text) ≡ drop n text
rest_of n text = take_all (length text - n) (drop n text) (omega (arith, length-drop n text))
