-- Parts of imports.
use Rattle.std.proofs.Common.{◌≡◌, ◌≤◌, ◌+◌, ◌-◌, ℕ, zero, suc, List, [], ◌∷◌, map, length, get_or, take, drop, Option, None, Result, Err, refl, sym, ap, subst, ◌∙◌, arith, min, String, Vec, Global, unwrap_or}
use Rattle.ft_commands.specs.Command.{Import}
use Rattle.shell_io.specs.Records.{kept, records_in}
use Rattle.shell_io.specs.Outcomes.{Answer, blames}
use Rattle.plain_sql.proofs.Common.{drop-map, length-map, take_all, enumerate_from, Ghosts, Held, state, ImportFault, Refused, Memory, IfClean, HasColumns, Stays, CommitsNothing, import_steps, Declines, Uncounted, fault_words, IntoTable, uncounted, declined, no_memory, texts_of}
use Rattle.plain_sql.proofs.PlainImportLemmas.{all_kept, stays_all_kept}
use Rattle.plain_sql.proofs.QueryLemmas.{was_same, was_then}

-- ---- records and their numbers

pub records_numbered : (from : ℕ) (found : List (List (List ℕ))) → records_in (enumerate_from from found) ≡ found
records_numbered from [] = refl
records_numbered from (record_at ∷ found) = ap (λ rest. record_at ∷ rest) (records_numbered (from + 1) found)

abbrev no_record : List (List (List ℕ))
no_record = []

abbrev nothing : List (ℕ × List (List ℕ))
nothing = []

from_kept : (n from k : ℕ) (found : List (List (List ℕ))) → k ≡ min n (length found) → drop n (enumerate_from from found) ≡ enumerate_from (from + k) (drop k found)
from_kept zero from k found is =
    let none : k ≡ 0 = omega (arith, is) in
    let same : from ≡ from + 0 = omega arith in
    subst (λ j. enumerate_from from found ≡ enumerate_from (from + j) (drop j found)) (sym none) (ap (λ f. enumerate_from f found) same)
from_kept (suc n) from k [] is =
    let none : k ≡ 0 = omega (arith, is) in
    subst (λ j. nothing ≡ enumerate_from (from + j) (drop j no_record)) (sym none) refl
from_kept (suc n) from zero (x ∷ found) is = absurd (omega (arith, is))
from_kept (suc n) from (suc k) (x ∷ found) is =
    let same : from + 1 + k ≡ from + suc k = omega arith in
    from_kept n (from + 1) k found (omega (arith, is)) ∙ ap (λ f. enumerate_from f (drop k found)) same

-- the records that are left, each with its number
pub left_numbered : (skip : Option ℕ) (k : ℕ) (found : List (List (List ℕ))) → k ≡ min (unwrap_or skip 0) (length found) → enumerate_from (k + 1) (drop k found) ≡ kept skip found
left_numbered skip k found is =
    let same : k + 1 ≡ 1 + k = omega arith in
    ap (λ f. enumerate_from f (drop k found)) same ∙ sym (from_kept (unwrap_or skip 0) 1 k found is)

-- ---- into a plain table

module _ {P : Type 0} (g : Ghosts P) where
  pub counted_kept : (a b c : Held P) {X : Type 0} → IfClean g a b (Stays (state g a) (state g b) × X) → IfClean g b c (CommitsNothing (state g b) (state g c)) → IfClean g a c (CommitsNothing (state g a) (state g c))
  counted_kept a b c first second clean =
      let later = second clean in
      let before = first later.0.clean in
      (was_then before.0 later.0, stays_all_kept (state g a) (state g b) (state g c) before.1.0 later.1)

  pub nothing_done : (a : Held P) → IfClean g a a (CommitsNothing (state g a) (state g a))
  nothing_done a clean = (was_same (state g a) clean, all_kept (state g a))

  module _ (what : Import) (rows : List (ℕ × List (List ℕ))) where
    pub count_refused : {T : Type 0} (fault : ImportFault) (old new : Held P) (answer : Answer) → IfClean g old new (CommitsNothing (state g old) (state g new))
        → (◌≡◌ {A = Result T ImportFault} (Err fault) (Err Refused) → Uncounted g what.table old new) → answer ≡ blames (fault_words fault) → IntoTable g what rows old new answer
    count_refused Refused old new answer keeps why is = uncounted (why refl) (keeps, is)
    count_refused Memory old new answer keeps why is = no_memory (keeps, is)

    pub import_refused : {T : Type 0} (fault : ImportFault) (n : ℕ) (old counted new : Held P) (answer : Answer)
        → IfClean g old counted (Stays (state g old) (state g counted) × HasColumns (state g old).now.schema what.table n) → IfClean g counted new (CommitsNothing (state g counted) (state g new))
        → (◌≡◌ {A = Result T ImportFault} (Err fault) (Err Refused) → Declines g (import_steps None what.table n (records_in rows)) counted new) → answer ≡ blames (fault_words fault) → IntoTable g what rows old new answer
    import_refused Refused n old counted new answer count keeps why is = declined n counted count (why refl) (counted_kept old counted new count keeps, is)
    import_refused Memory n old counted new answer count keeps why is = no_memory (counted_kept old counted new count keeps, is)

-- ---- the steps of an import, said in other words

pub same_steps : (names : Option (List (List ℕ))) (table_a table_b : List ℕ) (n m : ℕ) (found : List (List (List ℕ))) (from : ℕ) → table_a ≡ table_b → n ≡ m →
    import_steps names table_a n found ≡ import_steps names table_b m (records_in (enumerate_from from found))
same_steps names table_a table_b n m found from tables counts = λ j. import_steps names (tables j) (counts j) (sym (records_numbered from found) j)

-- ---- rows of a file

pub split_rows : (first : ℕ) (records : List (Vec (String Global) Global)) (d : Vec (String Global) Global) (row : List (List ℕ)) → 1 ≤ length records → row ≡ texts_of (get_or records 0 d) →
    enumerate_from first (map texts_of records) ≡ (first, row) ∷ enumerate_from (first + 1) (map texts_of (take (length records - 1) (drop 1 records)))
split_rows first [] d row h is = absurd (omega (arith, h))
split_rows first (record_at ∷ records) d row h is =
    let whole : take (suc (length records) - 1) records ≡ records = take_all (suc (length records) - 1) records (omega arith) in
    λ j. (first, sym is j) ∷ enumerate_from (first + 1) (map texts_of (sym whole j))

pub left_rows : (skip : Option ℕ) (k : ℕ) (records left : List (Vec (String Global) Global)) → k ≡ min (unwrap_or skip 0) (length records) → left ≡ drop k records →
    enumerate_from (k + 1) (map texts_of left) ≡ kept skip (map texts_of records)
left_rows skip k records left is rest =
    let count : k ≡ min (unwrap_or skip 0) (length (map texts_of records)) = omega (arith, is, length-map records texts_of) in
    ap (λ rs. enumerate_from (k + 1) (map texts_of rs)) rest ∙ ap (enumerate_from (k + 1)) (sym (drop-map texts_of k records)) ∙ left_numbered skip k (map texts_of records) count
