-- A reader's bytes up to one past the most.
use Rattle.std.proofs.Common.{◌≡◌, ◌≤◌, ◌^◌, ◌∙◌, ℕ, List, [], ◌++◌, ◌+◌, take, length, Option, Some, None, ap, subst, arith}
use Rattle.std.specs.Prelude.{IfSome, option_map}
use Rattle.std.proofs.lemmas.List.{length-take, take_all}
use Rattle.std.specs.declared.io.traits.Take.{Take}
use Rattle.std.specs.Io.Take.{take_inner, take_limit, take_remaining}
use Rattle.ft_files.specs.Reading.{AreAll}

-- where at most the most came, all came
pub all_read : (known : Option (List ℕ)) (bytes : List ℕ) → length bytes ≤ 2 ^ 26 → IfSome (option_map (take (2 ^ 26 + 1)) known) (λ xs. bytes ≡ xs) → AreAll known bytes
all_read None bytes few is = (few, tt)
all_read (Some all) bytes few is =
    let count : length bytes ≡ _ = ap length is ∙ length-take (2 ^ 26 + 1) all in
    (few, is ∙ take_all (2 ^ 26 + 1) all (omega (arith, count, few)))

-- as the reader that stops after the most tells it
pub all_taken : {R : Type 0} (remaining : R → Option (List ℕ)) (taken : Take R) (reader : R) (before bytes : List ℕ) → take_limit taken ≡ 2 ^ 26 + 1 → take_inner taken ≡ reader → before ≡ [] →
    IfSome (take_remaining remaining taken) (λ xs. bytes ≡ before ++ xs) → length bytes ≤ 2 ^ 26 → AreAll (remaining reader) bytes
all_taken remaining taken reader before bytes limit inner none is few =
    all_read (remaining reader) bytes few
    (subst (λ b. IfSome (option_map (take (2 ^ 26 + 1)) (remaining reader)) (λ xs. bytes ≡ b ++ xs)) none
    (subst (λ r. IfSome (option_map (take (2 ^ 26 + 1)) (remaining r)) (λ xs. bytes ≡ before ++ xs)) inner
    (subst (λ k. IfSome (option_map (take k) (remaining (take_inner taken))) (λ xs. bytes ≡ before ++ xs)) limit is)))
