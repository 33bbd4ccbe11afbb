-- Records and their columns.
use Rattle.std.proofs.Common.{◌≡◌, ℕ, zero, suc, ◌+◌, ◌<◌, List, [], ◌∷◌, ◌++◌, map, length, take, get_or, replicate, refl, sym, ap, ◌∙◌, arith, String, Vec, Global, length-append}
use Rattle.std.specs.Prelude.{Option, Some, None, slice_get}
use Rattle.std.specs.List.{enumerate_from}
use Rattle.std.proofs.lemmas.List.{append-nil, take_more, map-append, length-map, length-replicate, length-take-le}
use Rattle.std.proofs.lemmas.Grind.{flat_map-append}
use Rattle.shell_io.specs.Records.{warning, warnings}
use Rattle.ft_commands.specs.Views.{texts_of}

-- ---- fields

-- a field of a row that none stands after is the field, or none
filled : {A : Type 0} (fields : List A) (n at : ℕ) → get_or (map Some fields ++ replicate n None) at None ≡ slice_get fields at
filled [] zero at = refl
filled [] (suc n) zero = refl
filled [] (suc n) (suc at) = filled [] n at
filled (field ∷ fields) n zero = refl
filled (field ∷ fields) n (suc at) = filled fields n at

-- one column more
pub field_more : {A : Type 0} (fields : List A) (n at : ℕ) (given : Option A) → at < n → given ≡ slice_get fields at →
    take at (map Some fields ++ replicate n None) ++ given ∷ [] ≡ take (at + 1) (map Some fields ++ replicate n None)
field_more {A} fields n at given within is =
    let all : List (Option A) = map Some fields ++ replicate n None in
    let size : at < length all = omega (arith, within, length-append (map Some fields) (replicate n None), length-replicate {A = Option A} n None) in
    ap (λ field. take at all ++ field ∷ []) (is ∙ sym (filled fields n at)) ∙ sym (take_more all at None size)

-- ---- warnings

pub enumerate_more : {A : Type 0} (from : ℕ) (xs : List A) (y : A) → enumerate_from from (xs ++ y ∷ []) ≡ enumerate_from from xs ++ (from + length xs, y) ∷ []
enumerate_more from [] y = ap (λ n. (n, y) ∷ []) (let same : from ≡ from + 0 = omega arith in same)
enumerate_more from (x ∷ xs) y = ap (λ rest. (from, x) ∷ rest) (enumerate_more (from + 1) xs y ∙ ap (λ n. enumerate_from (from + 1) xs ++ (n, y) ∷ []) (let same : from + 1 + length xs ≡ from + suc (length xs) = omega arith in same))

pub warnings_more : (file : List ℕ) (n from : ℕ) (records : List (Vec (String Global) Global)) (i : ℕ) (d : Vec (String Global) Global) → i < length records →
    warnings file n (enumerate_from from (map texts_of (take (i + 1) records))) ≡ warnings file n (enumerate_from from (map texts_of (take i records))) ++ warning file n (from + i, texts_of (get_or records i d))
warnings_more file n from records i d h =
    let record_at = get_or records i d in
    let before = map texts_of (take i records) in
    ap (λ rs. warnings file n (enumerate_from from rs)) (ap (map texts_of) (take_more records i d h) ∙ map-append texts_of (take i records) (record_at ∷ []))
    ∙ ap (warnings file n) (enumerate_more from before (texts_of record_at))
    ∙ flat_map-append (warning file n) (enumerate_from from before) ((from + length before, texts_of record_at) ∷ [])
    ∙ ap (λ last. warnings file n (enumerate_from from before) ++ last) (append-nil (warning file n (from + length before, texts_of record_at)))
    ∙ ap (λ k. warnings file n (enumerate_from from before) ++ warning file n (from + k, texts_of record_at)) (length-map (take i records) texts_of ∙ length-take-le i records (omega (arith, h)))
