-- What is read by a form is what has it, for all forms.
use Rattle.std.proofs.Common.{◌≡◌, inl, inr, ℕ, zero, suc, ◌+◌, ◌-◌, ◌≤◌, ◌<◌, Bool, true, false, cond, ◌&&◌, ◌==◌, List, [], ◌∷◌, ◌++◌, length, drop, Option, Some, None, refl, sym, ap, ◌∙◌, subst, arith, append_assoc, length-append}
use Rattle.std.proofs.Math.Dec.{eqb-suc-zero}
use Rattle.std.specs.Option.{option_or}
use Rattle.ft_statements.proofs.Common.{Mark, Opens, Closes, Parts, Other, Form, means, one, ends, ◌&◌, ◌·◌, such, when, first, list, balanced, begins, Separated, last_part, then_comma, IsBalanced, no_word, any_part, group, ends_part, Stops, Has, FrontRead, ◌>>=◌, onto_read, list_at, depth_after, balanced_at, read, found}
use Rattle.ft_statements.specs.Forms.{any_word}

-- ---- steps one after the other

pub goes_on : {A B : Type 0} {o : Option A} {x : A} {r : Option B} (f : A → Option B) → o ≡ Some x → f x ≡ r → (o >>= f) ≡ r
goes_on f found later = ap (λ p. p >>= f) found ∙ later

pub some_inj : {A : Type 0} {x y : A} → Some x ≡ Some y → x ≡ y
some_inj e = cc

pub finally : {A : Type 0} (P : A → Type 0) {x y : A} → P x → Some x ≡ Some y → P y
finally P d e = subst P (some_inj e) d

pub bound : {A B P : Type 0} (o : Option A) (f : A → Option B) {y : B} → (o >>= f) ≡ Some y → ((x : A) → o ≡ Some x → f x ≡ Some y → P) → P
bound None f e go = cc
bound (Some x) f e go = go x refl e

pub none_or : {A : Type 0} (o : Option A) → ((x : A) → ¬ (o ≡ Some x)) → o ≡ None
none_or None never = refl
none_or (Some x) never = absurd (never x refl)

pub from_onto : {W A : Type 0} (P : List A → List W → Type 0) (x : A) (later : FrontRead W (List A)) {xs : List A} {rest : List W} → onto_read x later ≡ Some (xs, rest) →
    ((ys : List A) → later ≡ Some (ys, rest) → P (x ∷ ys) rest) → P xs rest
from_onto P x None e go = cc
from_onto P x (Some (ys, left)) {xs} {rest} e go =
    subst (λ zs. P zs rest) (ap (λ r. r.0) (some_inj e)) (go ys (ap (λ r. Some (ys, r.1)) (some_inj e)))

-- ---- the law

pub record IsRead {W A : Type 0} (form : Form W A) : Type 0 where
  pub sound : (ts : List W) (x : A) (rest : List W) → read form ts ≡ Some (x, rest) → Has form ts x rest
  pub complete : (ts : List W) (x : A) (rest : List W) → Has form ts x rest → read form ts ≡ Some (x, rest)
  pub within : (ts : List W) (x : A) (rest : List W) → Has form ts x rest → length rest ≤ length ts

means_read : {W A : Type 0} (x : A) → IsRead {W = W} (means x)
means_read x = record {
  sound = λ ts y rest e. finally (λ r. (x ≡ r.0) × (ts ≡ r.1)) (refl, refl) e;
  complete = λ ts y rest has. λ j. Some (has.0 j, has.1 j);
  within = λ ts y rest has. omega (arith, ap length has.1);
}

one_read : {W A : Type 0} (f : W → Option A) → IsRead (one f)
one_read {W} {A} f = record { sound = sound; complete = complete; within = λ ts y rest has. omega (arith, ap length has.1) } where
  sound : (ts : List W) (x : A) (rest : List W) → read (one f) ts ≡ Some (x, rest) → (t : W) × (ts ≡ t ∷ rest) × (f t ≡ Some x)
  sound [] x rest e = cc
  sound (t ∷ ts) x rest e = bound (f t) _ e λ y is e1. finally (λ r. (u : W) × (t ∷ ts ≡ u ∷ r.1) × (f u ≡ Some r.0)) (t, refl, is) e1

  complete : (ts : List W) (x : A) (rest : List W) → (t : W) × (ts ≡ t ∷ rest) × (f t ≡ Some x) → read (one f) ts ≡ Some (x, rest)
  complete ts x rest has = ap (read (one f)) has.1 ∙ goes_on _ has.2 refl

ends_read : {W : Type 0} → IsRead {W = W} ends
ends_read {W} = record {
  sound = sound;
  complete = λ ts x rest has. ap (read ends) has.0 ∙ ap (λ us. Some (tt, us)) (sym has.1);
  within = λ ts x rest has. omega (arith, ap length has.1);
} where
  sound : (ts : List W) (x : Unit {0}) (rest : List W) → read ends ts ≡ Some (x, rest) → (ts ≡ []) × (rest ≡ [])
  sound [] x rest e = (refl, sym (ap (λ r. r.1) (some_inj e)))
  sound (t ∷ ts) x rest e = cc

apply_read : {W A B : Type 0} (p : Form W (A → B)) (q : Form W A) → IsRead p → IsRead q → IsRead (p & q)
apply_read p q by_p by_q = record {
  sound = λ ts y rest e. bound (read p ts) _ e λ r is e1. bound (read q r.1) _ e1 λ s is' e2.
      finally (λ z. Has (p & q) ts z.0 z.1) (r.0, s.0, r.1, by_p.sound ts r.0 r.1 is, by_q.sound r.1 s.0 s.1 is', refl) e2;
  complete = λ ts y rest has. goes_on _ (by_p.complete ts has.0 has.2 has.3) (goes_on _ (by_q.complete has.2 has.1 rest has.4) (ap (λ z. Some (z, rest)) has.5));
  within = λ ts y rest has. omega (arith, by_p.within ts has.0 has.2 has.3, by_q.within has.2 has.1 rest has.4);
}

skip_read : {W A B : Type 0} (p : Form W A) (q : Form W B) → IsRead p → IsRead q → IsRead (p · q)
skip_read p q by_p by_q = record {
  sound = λ ts y rest e. bound (read p ts) _ e λ r is e1. bound (read q r.1) _ e1 λ s is' e2.
      finally (λ z. Has (p · q) ts z.0 z.1) (s.0, r.1, by_p.sound ts r.0 r.1 is, by_q.sound r.1 s.0 s.1 is') e2;
  complete = λ ts x rest has. goes_on _ (by_p.complete ts x has.1 has.2) (goes_on _ (by_q.complete has.1 has.0 rest has.3) refl);
  within = λ ts x rest has. omega (arith, by_p.within ts x has.1 has.2, by_q.within has.1 has.0 rest has.3);
}

such_read : {W A : Type 0} (p : Form W (Option A)) → IsRead p → IsRead (such p)
such_read p by_p = record {
  sound = λ ts y rest e. bound (read p ts) _ e λ r is e1. bound r.0 _ e1 λ x found e2.
      finally (λ z. Has p ts (Some z.0) z.1) (by_p.sound ts (Some x) r.1 (is ∙ ap (λ o. Some (o, r.1)) found)) e2;
  complete = λ ts x rest has. goes_on _ (by_p.complete ts (Some x) rest has) refl;
  within = λ ts x rest has. by_p.within ts (Some x) rest has;
}

when_read : {W A : Type 0} (test : W → Bool) (p q : Form W A) → IsRead p → IsRead q → IsRead (when test p q)
when_read {W} {A} test p q by_p by_q = record { sound = sound; complete = complete; within = within } where
  sound : (ts : List W) (x : A) (rest : List W) → cond (begins test ts) (read p ts) (read q ts) ≡ Some (x, rest) → Has (when test p q) ts x rest
  sound ts x rest e = by_test (begins test ts) refl e where
    by_test : (b : Bool) → begins test ts ≡ b → cond b (read p ts) (read q ts) ≡ Some (x, rest) → Has (when test p q) ts x rest
    by_test true is e1 = inl (is, by_p.sound ts x rest e1)
    by_test false is e1 = inr (is, by_q.sound ts x rest e1)

  complete : (ts : List W) (x : A) (rest : List W) → Has (when test p q) ts x rest → cond (begins test ts) (read p ts) (read q ts) ≡ Some (x, rest)
  complete ts x rest (inl has) = ap (λ b. cond b (read p ts) (read q ts)) has.0 ∙ by_p.complete ts x rest has.1
  complete ts x rest (inr has) = ap (λ b. cond b (read p ts) (read q ts)) has.0 ∙ by_q.complete ts x rest has.1

  within : (ts : List W) (x : A) (rest : List W) → Has (when test p q) ts x rest → length rest ≤ length ts
  within ts x rest (inl has) = by_p.within ts x rest has.1
  within ts x rest (inr has) = by_q.within ts x rest has.1

first_read : {W A : Type 0} (p q : Form W A) → IsRead p → IsRead q → IsRead (first p q)
first_read {W} {A} p q by_p by_q = record { sound = sound; complete = complete; within = within } where
  sound : (ts : List W) (x : A) (rest : List W) → option_or (read p ts) (read q ts) ≡ Some (x, rest) → Has (first p q) ts x rest
  sound ts x rest e = by_case (read p ts) refl e where
    by_case : (o : FrontRead W A) → read p ts ≡ o → option_or o (read q ts) ≡ Some (x, rest) → Has (first p q) ts x rest
    by_case (Some r) is e1 = inl (by_p.sound ts x rest (is ∙ e1))
    by_case None is e1 = inr ((λ y left has. let found = by_p.complete ts y left has in cc), by_q.sound ts x rest e1)

  complete : (ts : List W) (x : A) (rest : List W) → Has (first p q) ts x rest → option_or (read p ts) (read q ts) ≡ Some (x, rest)
  complete ts x rest (inl has) = ap (λ o. option_or o (read q ts)) (by_p.complete ts x rest has)
  complete ts x rest (inr has) =
      ap (λ o. option_or o (read q ts)) (none_or (read p ts) λ r is. has.0 r.0 r.1 (by_p.sound ts r.0 r.1 is)) ∙ by_q.complete ts x rest has.1

  within : (ts : List W) (x : A) (rest : List W) → Has (first p q) ts x rest → length rest ≤ length ts
  within ts x rest (inl has) = by_p.within ts x rest has
  within ts x rest (inr has) = by_q.within ts x rest has.1

-- ---- lists

list_read : {W A : Type 0} (comma : W → Bool) (p : Form W A) → IsRead p → IsRead (list comma p)
list_read {W} {A} comma p by_p = record { sound = λ ts xs rest e. sound (length ts + 1) ts xs rest e; complete = λ ts xs rest has. complete (length ts + 1) has (omega arith); within = λ ts xs rest has. within has } where
  sound : (n : ℕ) (ts : List W) (xs : List A) (rest : List W) → list_at comma (read p) n ts ≡ Some (xs, rest) → Separated comma (Has p) ts xs rest
  sound zero ts xs rest e = cc
  sound (suc n) ts xs rest e = bound (read p ts) _ e λ r is e1. behind (λ us ys left found. sound n us ys left found) r.0 r.1 (by_p.sound ts r.0 r.1 is) (begins comma r.1) refl e1 where
    behind : ((us : List W) (ys : List A) (left : List W) → list_at comma (read p) n us ≡ Some (ys, left) → Separated comma (Has p) us ys left) → (x : A) (us : List W) → Has p ts x us →
        (b : Bool) → begins comma us ≡ b → cond b (onto_read x (list_at comma (read p) n (drop 1 us))) (Some (x ∷ [], us)) ≡ Some (xs, rest) → Separated comma (Has p) ts xs rest
    behind later x us has false other e1 = finally (λ r. Separated comma (Has p) ts r.0 r.1) (last_part has other) e1
    behind later x [] has true is e1 = cc
    behind later x (t ∷ us) has true is e1 = from_onto (Separated comma (Has p) ts) x _ e1 λ ys found. then_comma has is (later us ys rest found)

  complete : (n : ℕ) {ts : List W} {xs : List A} {rest : List W} → Separated comma (Has p) ts xs rest → length ts < n → list_at comma (read p) n ts ≡ Some (xs, rest)
  complete zero d h = absurd (omega (arith, h))
  complete (suc n) (last_part {ts} {rest} {x} has other) h = goes_on _ (by_p.complete ts x rest has) (ap (λ b. cond b (onto_read x (list_at comma (read p) n (drop 1 rest))) (Some (x ∷ [], rest))) other)
  complete (suc n) (then_comma {ts} {us} {rest} {t} {x} {xs} has is more) h =
      goes_on _ (by_p.complete ts x (t ∷ us) has)
      (ap (λ b. cond b (onto_read x (list_at comma (read p) n us)) (Some (x ∷ [], t ∷ us))) is ∙ ap (onto_read x) (complete n more (omega (arith, h, by_p.within ts x (t ∷ us) has))))

  within : {ts : List W} {xs : List A} {rest : List W} → Separated comma (Has p) ts xs rest → length rest ≤ length ts
  within (last_part {ts} {rest} {x} has other) = by_p.within ts x rest has
  within (then_comma {ts} {us} {rest} {t} {x} has is more) = omega (arith, by_p.within ts x (t ∷ us) has, within more)

-- ---- balanced words

-- words that go on to where so many open groups are closed
data Closing {W : Type 0} (mark : W → Mark) : ℕ → List W → Type 0 where
  all_closed : {us : List W} → IsBalanced mark false us → Closing mark zero us
  one_closed : {d : ℕ} {us us' : List W} {t : W} → IsBalanced mark true us → mark t ≡ Closes → Closing mark d us' → Closing mark (suc d) (us ++ t ∷ us')

closing_other : {W : Type 0} {mark : W → Mark} {d : ℕ} {us : List W} {t : W} → mark t ≡ Other → Closing mark d us → Closing mark d (t ∷ us)
closing_other is (all_closed b) = all_closed (any_word is b)
closing_other is (one_closed b closes more) = one_closed (any_word is b) closes more

closing_group : {W : Type 0} {mark : W → Mark} {d : ℕ} {us vs : List W} {t r : W} → mark t ≡ Opens → IsBalanced mark true us → mark r ≡ Closes → Closing mark d vs → Closing mark d (t ∷ us ++ r ∷ vs)
closing_group {r = r} is b closed (all_closed c) = all_closed (group is b r closed c)
closing_group {mark = mark} {us = us} {t = t} {r = r} is b closed (one_closed {d} {us = ws} {us' = xs} {t = u} c closes more) =
    subst (Closing mark (suc d)) (ap (λ ys. t ∷ ys) (append_assoc us (r ∷ ws) (u ∷ xs))) (one_closed (group is b r closed c) closes more)

opened : {W : Type 0} {mark : W → Mark} {d : ℕ} {us : List W} {t : W} → mark t ≡ Opens → Closing mark (suc d) us → Closing mark d (t ∷ us)
opened is (one_closed b closes more) = closing_group is b closes more

parted : {W : Type 0} {mark : W → Mark} {d : ℕ} {us : List W} {t : W} → mark t ≡ Parts → Closing mark (suc d) us → Closing mark (suc d) (t ∷ us)
parted is (one_closed b closes more) = one_closed (any_part is b) closes more

-- words up to where they stop
record Front {W : Type 0} (mark : W → Mark) (d : ℕ) (ts us rest : List W) : Type 0 where
  are : ts ≡ us ++ rest
  closing : Closing mark d us
  stops : Stops mark rest

front_on : {W : Type 0} {mark : W → Mark} {d e : ℕ} {t : W} {ts us rest : List W} → Front mark e ts us rest → (Closing mark e us → Closing mark d (t ∷ us)) → Front mark d (t ∷ ts) (t ∷ us) rest
front_on {t = t} f more = record { are = ap (λ ws. t ∷ ws) f.are; closing = more f.closing; stops = f.stops }

above : (d : ℕ) (b : Bool) → (suc d == 0 && b) ≡ false
above d b = ap (λ x. x && b) (eqb-suc-zero d)

no_end : (b : Bool) → (b && false) ≡ false
no_end true = refl
no_end false = refl

-- a word that doesn't end them goes on
closing_on : {W : Type 0} {mark : W → Mark} {us : List W} {t : W} (m : Mark) (d : ℕ) → mark t ≡ m → (d == 0 && ends_part m) ≡ false → Closing mark (depth_after m d) us → Closing mark d (t ∷ us)
closing_on Opens d is goes c = opened is c
closing_on Closes zero is goes c = cc
closing_on {mark = mark} {us = us} Closes (suc d) is goes c = let one : suc d - 1 ≡ d = omega arith in one_closed no_word is (subst (λ e. Closing mark e us) one c)
closing_on Parts zero is goes c = cc
closing_on Parts (suc d) is goes c = parted is c
closing_on Other d is goes c = closing_other is c

balanced_sound : {W : Type 0} (mark : W → Mark) (ts : List W) (d : ℕ) (us rest : List W) → balanced_at mark ts d ≡ Some (us, rest) → Front mark d ts us rest
balanced_sound mark [] zero us rest e = finally (λ r. Front mark zero [] r.0 r.1) (record { are = refl; closing = all_closed no_word; stops = tt }) e
balanced_sound mark [] (suc d) us rest e = cc
balanced_sound {W} mark (t ∷ ts) d us rest e = by_test (balanced_sound mark ts) d (d == 0 && ends_part (mark t)) refl e where
  by_test : ((d : ℕ) (us rest : List W) → balanced_at mark ts d ≡ Some (us, rest) → Front mark d ts us rest) → (d : ℕ) (b : Bool) → (d == 0 && ends_part (mark t)) ≡ b →
      cond b (Some ([], t ∷ ts)) (onto_read t (balanced_at mark ts (depth_after (mark t) d))) ≡ Some (us, rest) → Front mark d (t ∷ ts) us rest
  by_test on d false goes e = from_onto (Front mark d (t ∷ ts)) t _ e λ vs read. front_on (on (depth_after (mark t) d) vs rest read) (closing_on (mark t) d refl goes)
  by_test on zero true stops e = finally (λ r. Front mark zero (t ∷ ts) r.0 r.1) (record { are = refl; closing = all_closed no_word; stops = stops }) e
  by_test on (suc d) true stops e = let no = above d (ends_part (mark t)) in cc

-- words put before what is read after them
abbrev pub all_onto : {W A : Type 0} → List A → FrontRead W (List A) → FrontRead W (List A)
all_onto [] later = later
all_onto (u ∷ us) later = onto_read u (all_onto us later)

pub onto_all : {W A : Type 0} (us : List A) (t : A) (vs : List A) (later : FrontRead W (List A)) → all_onto (us ++ t ∷ vs) later ≡ all_onto us (onto_read t (all_onto vs later))
onto_all [] t vs later = refl
onto_all (u ∷ us) t vs later = ap (onto_read u) (onto_all us t vs later)

-- where words that part may stand, a group is open
abbrev Deep : Bool → ℕ → Type 0
Deep true zero = ⊥
Deep true (suc d) = Unit
Deep false d = Unit

-- such a word is read, and then what is after it
pub goes : {W : Type 0} (mark : W → Mark) (t : W) (ts : List W) (d : ℕ) (m : Mark) → mark t ≡ m → (d == 0 && ends_part m) ≡ false →
    balanced_at mark (t ∷ ts) d ≡ onto_read t (balanced_at mark ts (depth_after m d))
goes mark t ts d m is other =
    ap (λ m. cond (d == 0 && ends_part m) (Some ([], t ∷ ts)) (onto_read t (balanced_at mark ts (depth_after m d)))) is
    ∙ ap (λ b. cond b (Some ([], t ∷ ts)) (onto_read t (balanced_at mark ts (depth_after m d)))) other

balanced_through : {W : Type 0} {mark : W → Mark} {inside : Bool} {us : List W} → IsBalanced mark inside us → (d : ℕ) → Deep inside d → (rest : List W) →
    balanced_at mark (us ++ rest) d ≡ all_onto us (balanced_at mark rest d)
balanced_through no_word d deep rest = refl
balanced_through {mark = mark} (any_word {inside} {t} {ts} is b) d deep rest =
    goes mark t (ts ++ rest) d Other is (no_end (d == 0)) ∙ ap (onto_read t) (balanced_through b d deep rest)
balanced_through (any_part {t} {ts} is b) zero deep rest = absurd deep
balanced_through {mark = mark} (any_part {t} {ts} is b) (suc d) deep rest =
    goes mark t (ts ++ rest) (suc d) Parts is (above d true) ∙ ap (onto_read t) (balanced_through b (suc d) tt rest)
balanced_through {mark = mark} (group {inside} {left} {us} {ts} is b right closes more) d deep rest =
    let one : suc d - 1 ≡ d = omega arith in
    goes mark left ((us ++ right ∷ ts) ++ rest) d Opens is (no_end (d == 0))
    ∙ ap (λ ws. onto_read left (balanced_at mark ws (suc d))) (append_assoc us (right ∷ ts) rest)
    ∙ ap (onto_read left) (balanced_through b (suc d) tt (right ∷ ts ++ rest))
    ∙ ap (λ o. onto_read left (all_onto us o)) (goes mark right (ts ++ rest) (suc d) Closes closes (above d true))
    ∙ ap (λ o. onto_read left (all_onto us (onto_read right o))) (ap (balanced_at mark (ts ++ rest)) one ∙ balanced_through more d deep rest)
    ∙ ap (onto_read left) (sym (onto_all us right ts (balanced_at mark rest d)))

stopped : {W : Type 0} (mark : W → Mark) (rest : List W) → Stops mark rest → balanced_at mark rest zero ≡ Some ([], rest)
stopped mark [] stops = refl
stopped mark (t ∷ ts) stops = ap (λ b. cond b (Some ([], t ∷ ts)) (onto_read t (balanced_at mark ts (depth_after (mark t) zero)))) stops

pub all_there : {W A : Type 0} (us : List A) (rest : List W) → all_onto us (Some ([], rest)) ≡ Some (us, rest)
all_there [] rest = refl
all_there (u ∷ us) rest = ap (onto_read u) (all_there us rest)

balanced_read : {W : Type 0} (mark : W → Mark) → IsRead (balanced mark)
balanced_read {W} mark = record { sound = sound; complete = complete; within = λ ts us rest has. omega (arith, ap length has.0, length-append us rest) } where
  closed : {us : List W} → Closing mark zero us → IsBalanced mark false us
  closed (all_closed b) = b

  sound : (ts us rest : List W) → balanced_at mark ts zero ≡ Some (us, rest) → (ts ≡ us ++ rest) × IsBalanced mark false us × Stops mark rest
  sound ts us rest e = let f = balanced_sound mark ts zero us rest e in (f.are, closed f.closing, f.stops)

  complete : (ts us rest : List W) → (ts ≡ us ++ rest) × IsBalanced mark false us × Stops mark rest → balanced_at mark ts zero ≡ Some (us, rest)
  complete ts us rest has = ap (λ ws. balanced_at mark ws zero) has.0 ∙ balanced_through has.1 zero tt rest ∙ ap (all_onto us) (stopped mark rest has.2) ∙ all_there us rest

-- ---- any form

pub law : {W A : Type 0} (form : Form W A) → IsRead form
law (means x) = means_read x
law (one f) = one_read f
law ends = ends_read
law (p & q) = apply_read p q (law p) (law q)
law (p · q) = skip_read p q (law p) (law q)
law (such p) = such_read p (law p)
law (when test p q) = when_read test p q (law p) (law q)
law (first p q) = first_read p q (law p) (law q)
law (list comma p) = list_read comma p (law p)
law (balanced mark) = balanced_read mark

-- ---- all of the words

-- words that go on to the end of all
abbrev to_end : {W A : Type 0} → Form W A → Type 0
to_end {W} {A} form = (ts : List W) (x : A) (rest : List W) → Has form ts x rest → rest ≡ []

pub found_sound : {W A : Type 0} (form : Form W A) → to_end form → (ts : List W) (x : A) → found (read form ts) ≡ Some x → Has form ts x []
found_sound form ended ts x e = bound (read form ts) _ e λ r is e1.
    let has = (law form).sound ts r.0 r.1 is in
    finally (λ y. Has form ts y []) (subst (Has form ts r.0) (ended ts r.0 r.1 has) has) e1

pub found_complete : {W A : Type 0} (form : Form W A) (ts : List W) (x : A) (rest : List W) → Has form ts x rest → found (read form ts) ≡ Some x
found_complete form ts x rest has = ap found ((law form).complete ts x rest has)
