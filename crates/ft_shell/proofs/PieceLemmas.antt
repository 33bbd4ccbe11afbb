-- Pieces of an input that are read.
use Rattle.std.proofs.Common.{◌≡◌, ◌≢◌, ◌⊎◌, ℕ, ◌-◌, ◌<◌, min, List, [], ◌++◌, length, take, drop, Option, Result, Ok, Err, refl, sym, ap, ◌∙◌, arith, length-append, inl, inr}
use Rattle.shell_io.specs.declared.run.RunFault.{RunFault}
use Rattle.shell_io.specs.LinesRead.{LinesRead, Way, at_end, behind, members_left}
use Rattle.ft_shell.proofs.Common.{Consumes, IsAtEnd, length-drop, length-take-le, take_all, Ghosts, Moment, Runs, TakesRead}
use Rattle.ft_shell.proofs.RanLemmas.{runs_as}
use Rattle.ft_shell.proofs.RunLemmas.{HasRead, Interrupted, nil_of, some_or_none}

-- as many bytes as there is room for
front_within : (room k : ℕ) (bytes : List ℕ) → k ≡ min (length bytes) room → take room bytes ≡ take k bytes
front_within room k bytes is = go (some_or_none (length bytes - room))
  where
    go : (length bytes - room ≡ 0) ⊎ (0 < length bytes - room) → take room bytes ≡ take k bytes
    go (inl all) = take_all room bytes (omega (arith, all)) ∙ sym (take_all k bytes (omega (arith, is, all)))
    go (inr part) = ap (λ m. take m bytes) (let same : room ≡ k = omega (arith, is, part) in same)

-- a chunk whose front was written over is as long as before
pub chunk_kept : (size : ℕ) (given items : List ℕ) → length items ≡ size → 0 < size → 0 < length (take size (given ++ drop (length given) items))
chunk_kept size given items full some =
    let whole = length-take-le size (given ++ drop (length given) items) (omega (arith, full, length-append given (drop (length given) items), length-drop (length given) items)) in
    omega (arith, whole, some)

module _ {P S : Type 0} (g : Ghosts P) (h : Ghosts S) where
  -- what was read is taken
  pub takes_some : {T : Type 0} (r : Result T RunFault) (room k : ℕ) (bytes : List ℕ) (fed left : LinesRead) (a b : Moment P S) → length bytes ≢ 0 → k ≡ min (length bytes) room →
      Runs g h r (λ (way : Way). members_left fed (behind (take k bytes) way)) (members_left left) a b → TakesRead g h r room bytes fed left a b
  takes_some r room k bytes fed left a b some size runs = record {
    goes = λ _. runs_as g h r _ _ _ _ (λ (way : Way). way) a b (λ way. ap (λ xs. members_left fed (behind xs way)) (front_within room k bytes size)) (λ way goes. refl) runs;
    ends = λ none. absurd (some none);
  }

  -- nothing was read, so that what is left is done
  pub takes_none : {T : Type 0} (r : Result T RunFault) (room : ℕ) (bytes : List ℕ) (fed left : LinesRead) (a b : Moment P S) → length bytes ≡ 0 → Runs g h r (λ (_ : Unit {0}). members_left fed at_end) (λ _. []) a b → TakesRead g h r room bytes fed left a b
  takes_none r room bytes fed left a b none runs = record { goes = λ some. absurd (omega (arith, some, none)); ends = λ _. runs }

  -- a piece was taken
  pub has_read : {T : Type 0} (x : T) (room n : ℕ) (bytes : List ℕ) (before after : Option (List ℕ)) (fed left : LinesRead) (a b : Moment P S) → Consumes before after bytes → n ≡ length bytes → (bytes ≡ [] → IsAtEnd after) →
      TakesRead g h (Ok x) room bytes fed left a b → HasRead g h room n before after fed left a b
  has_read x room n bytes before after fed left a b consumed is at_end takes = record {
    bytes = bytes;
    consumed = consumed;
    size = sym is;
    goes = λ some. takes.goes (omega (arith, some, is));
    ends = λ none. let no_bytes : length bytes ≡ 0 = omega (arith, none, is) in (at_end (nil_of bytes no_bytes), takes.ends no_bytes);
  }

  -- what is done with a piece was cut short, or what is done at the end
  pub interrupted_taking : {T : Type 0} (fault : RunFault) (room : ℕ) (bytes : List ℕ) (before after : Option (List ℕ)) (fed left : LinesRead) (a b : Moment P S) → Consumes before after bytes → (bytes ≡ [] → IsAtEnd after) →
      TakesRead g h {T = T} (Err fault) room bytes fed left a b → Interrupted g h fault room before after fed a b
  interrupted_taking fault room bytes before after fed left a b consumed at_end takes = go (some_or_none (length bytes))
    where
      go : (length bytes ≡ 0) ⊎ (0 < length bytes) → Interrupted g h fault room before after fed a b
      go (inl none) = let broken = takes.ends none in record { bytes = bytes; consumed = consumed; cause = broken.1; breaks = inr (nil_of bytes none, at_end (nil_of bytes none), broken.0) }
      go (inr some) = let broken = takes.goes some in record { bytes = bytes; consumed = consumed; cause = broken.1; breaks = inl broken.0 }
