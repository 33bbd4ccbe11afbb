-- Words read one after the other.
use Rattle.std.proofs.Common.{◌≡◌, ℕ, zero, suc, ◌+◌, ◌-◌, ◌<◌, ◌≤◌, Bool, true, false, cond, ◌&&◌, ◌==◌, List, [], ◌∷◌, ◌++◌, length, map, drop, take, get_or, Some, None, refl, sym, ap, ◌∙◌, arith, codes, Result, Ok, Err}
use Rattle.std.specs.Result.{IsErr, IsErrAnd}
use Rattle.ft_statements.proofs.Common.{drop_more, take_more, drop_all, take_all, map-append, length-drop, length-map, begins, ends_part, Token, spells, ◌>>=◌, FrontRead, onto_read, list_at, balanced_at, depth_after, read, spelled, mark_of, seen, plain, rest_of, Advances}
use Rattle.ft_commands.specs.declared.fault.StatementFault.{StatementFault}
use Rattle.ft_commands.specs.declared.fault.StatementFault.TheVariants.{Syntax}
use Rattle.ft_statements.specs.declared.reading.Reader.{Reader}
use Rattle.ft_statements.specs.declared.words.Token.{Token as RustToken}
use Rattle.ft_statements.proofs.FormLaw.{all_onto, onto_all, all_there, some_inj, goes}

-- ---- lists

abbrev pub is_comma : Token → Bool
is_comma t = spells (codes ",") t

-- there are as many words as tokens
pub at_most : {A : Type 0} (form : List Token → FrontRead Token A) (ps : List RustToken) → list_at is_comma form (length (plain ps) + 1) (plain ps) ≡ list_at is_comma form (length ps + 1) (plain ps)
at_most form ps = ap (λ n. list_at is_comma form (n + 1) (plain ps)) (length-map ps seen)

-- what is read after a part
abbrev behind : {A : Type 0} → (List Token → FrontRead Token (List A)) → A × List Token → FrontRead Token (List A)
behind more r = cond (begins is_comma r.1) (onto_read r.0 (more (drop 1 r.1))) (Some (r.0 ∷ [], r.1))

-- after a comma, the list goes on
pub list_goes : {A : Type 0} (form : List Token → FrontRead Token A) (n i : ℕ) (found : List A) (ts us rest : List Token) (x : A) (all : List A) → i < n → form ts ≡ Some (x, us) → begins is_comma us ≡ true →
    read (spelled (codes ",")) us ≡ Some (tt, rest) → all ≡ found ++ x ∷ [] → all_onto all (list_at is_comma form (n - (i + 1)) rest) ≡ all_onto found (list_at is_comma form (n - i) ts)
list_goes form n i found ts [] rest x all h is there passed are = cc
list_goes form n i found ts (t ∷ us) rest x all h is there passed are =
    let more = list_at is_comma form (n - (i + 1)) in
    let one : suc (n - (i + 1)) ≡ n - i = omega (arith, h) in
    let same : us ≡ rest = ap (λ r. r.1) (some_inj (sym (ap (λ b. cond b (Some tt) None >>= λ x. Some (x, us)) there) ∙ passed)) in
    ap (λ xs. all_onto xs (more rest)) are ∙ onto_all found x [] (more rest)
    ∙ ap (λ ws. all_onto found (onto_read x (more ws))) (sym same)
    ∙ ap (λ b. all_onto found (cond b (onto_read x (more us)) (Some (x ∷ [], t ∷ us)))) (sym there)
    ∙ ap (λ o. all_onto found (o >>= behind more)) (sym is)
    ∙ ap (λ m. all_onto found (list_at is_comma form m ts)) one

-- where none stands, it ends
pub list_stops : {A : Type 0} (form : List Token → FrontRead Token A) (n i : ℕ) (found : List A) (ts us rest : List Token) (x : A) (all : List A) → i < n → form ts ≡ Some (x, us) → begins is_comma us ≡ false →
    all ≡ found ++ x ∷ [] → rest ≡ us → all_onto found (list_at is_comma form (n - i) ts) ≡ Some (all, rest)
list_stops form n i found ts us rest x all h is there are left =
    let more = list_at is_comma form (n - (i + 1)) in
    let one : n - i ≡ suc (n - (i + 1)) = omega (arith, h) in
    ap (λ m. all_onto found (list_at is_comma form m ts)) one
    ∙ ap (λ o. all_onto found (o >>= behind more)) is
    ∙ ap (λ b. all_onto found (cond b (onto_read x (more (drop 1 us))) (Some (x ∷ [], us)))) there
    ∙ sym (onto_all found x [] (Some ([], us))) ∙ all_there (found ++ x ∷ []) us ∙ (λ j. Some (sym are j, sym left j))

onto_none : {A : Type 0} (found : List A) → all_onto found (let none : FrontRead Token (List A) = None in none) ≡ None
onto_none [] = refl
onto_none (x ∷ xs) = ap (onto_read x) (onto_none xs)

-- where a part is none, the list is none
pub list_fails : {A : Type 0} (form : List Token → FrontRead Token A) (n i : ℕ) (found : List A) (ts : List Token) → i < n → form ts ≡ None → all_onto found (list_at is_comma form (n - i) ts) ≡ None
list_fails form n i found ts h none =
    let more = list_at is_comma form (n - (i + 1)) in
    let one : n - i ≡ suc (n - (i + 1)) = omega (arith, h) in
    ap (λ m. all_onto found (list_at is_comma form m ts)) one ∙ ap (λ o. all_onto found (o >>= behind more)) none ∙ onto_none found

pub list_spent : {A : Type 0} (form : List Token → FrontRead Token A) (n i : ℕ) (found : List A) (ts : List Token) → n ≤ i → all_onto found (list_at is_comma form (n - i) ts) ≡ None
list_spent form n i found ts h = let none : n - i ≡ 0 = omega (arith, h) in ap (λ m. all_onto found (list_at is_comma form m ts)) none ∙ onto_none found

-- one more is found
pub one_more : {A B : Type 0} (shown : A → B) (found more : List A) (x : A) → more ≡ found ++ x ∷ [] → map shown more ≡ map shown found ++ shown x ∷ []
one_more shown found more x is = ap (map shown) is ∙ map-append shown found (x ∷ [])

-- ---- any words

-- one more of them
pub words_more : (ps : List RustToken) (i depth : ℕ) (d : RustToken) → i < length ps → (depth == 0 && ends_part (mark_of (seen (get_or ps i d)))) ≡ false →
    all_onto (plain (take (i + 1) ps)) (balanced_at mark_of (plain (drop (i + 1) ps)) (depth_after (mark_of (seen (get_or ps i d))) depth)) ≡ all_onto (plain (take i ps)) (balanced_at mark_of (plain (drop i ps)) depth)
words_more ps i depth d h other =
    let t = seen (get_or ps i d) in
    let more = balanced_at mark_of (plain (drop (i + 1) ps)) in
    ap (λ us. all_onto us (more (depth_after (mark_of t) depth))) (ap plain (take_more ps i d h) ∙ map-append seen (take i ps) (get_or ps i d ∷ []))
    ∙ onto_all (plain (take i ps)) t [] (more (depth_after (mark_of t) depth))
    ∙ ap (all_onto (plain (take i ps))) (sym (goes mark_of t (plain (drop (i + 1) ps)) depth (mark_of t) refl other))
    ∙ ap (λ qs. all_onto (plain (take i ps)) (balanced_at mark_of (plain qs) depth)) (sym (drop_more ps i d h))

-- the one that stands there ends them
pub words_stop : (ps : List RustToken) (i depth : ℕ) (d : RustToken) → i < length ps → (depth == 0 && ends_part (mark_of (seen (get_or ps i d)))) ≡ true →
    all_onto (plain (take i ps)) (balanced_at mark_of (plain (drop i ps)) depth) ≡ Some (plain (take i ps), plain (take (length ps - i) (drop i ps)))
words_stop ps i depth d h out =
    let t = seen (get_or ps i d) in
    let more = plain (drop (i + 1) ps) in
    ap (λ qs. all_onto (plain (take i ps)) (balanced_at mark_of (plain qs) depth)) (drop_more ps i d h)
    ∙ ap (λ b. all_onto (plain (take i ps)) (cond b (Some ([], t ∷ more)) (onto_read t (balanced_at mark_of more (depth_after (mark_of t) depth))))) out
    ∙ all_there (plain (take i ps)) (t ∷ more)
    ∙ ap (λ qs. Some (plain (take i ps), plain qs)) (sym (drop_more ps i d h) ∙ sym (take_all (length ps - i) (drop i ps) (omega (arith, length-drop i ps))))

-- no word is left
pub words_open : (ps : List RustToken) (i depth : ℕ) → length ps ≤ i → 0 < depth → all_onto (plain (take i ps)) (balanced_at mark_of (plain (drop i ps)) depth) ≡ None
words_open ps i zero h some = absurd (omega (arith, some))
words_open ps i (suc depth) h some = ap (λ qs. all_onto (plain (take i ps)) (balanced_at mark_of (plain qs) (suc depth))) (drop_all i ps h) ∙ onto_none (plain (take i ps))

pub words_all : (ps : List RustToken) (i depth : ℕ) → length ps ≤ i → depth ≡ 0 → all_onto (plain (take i ps)) (balanced_at mark_of (plain (drop i ps)) depth) ≡ Some (plain ps, [])
words_all ps i depth h none =
    (λ j. all_onto (plain (take_all i ps h j)) (balanced_at mark_of (plain (drop_all i ps h j)) (none j))) ∙ all_there (plain ps) []

-- ---- faults

-- a fault goes on as it is
pub fault_goes : {A B : Type 0} (shown : A → B) (form : List Token → FrontRead Token B) (before after : Reader) (result : Result A StatementFault) (fault : StatementFault) →
    IsErr result → IsErrAnd result (λ other. other ≡ fault) → (fault ≡ Syntax → form (rest_of before) ≡ None) → Advances shown form before after result
fault_goes shown form before after (Ok x) fault is same none = absurd same
fault_goes shown form before after (Err other) fault is same none = record { found = tt; none = λ e. let is_syntax : other ≡ Syntax = cc in none (sym same ∙ is_syntax) }
