use Rattle.std.proofs.Common.{◌≡◌, [], ◌∷◌, codes, refl, arith, true≢false}
use Rattle.ft_store.proofs.Common.{understood, everything}
use Rattle.ft_store.proofs.Texts.{rising}
use Rattle.ft_store.proofs.clear.probe_text.Goals as goal

pub returns-in-0 : goal.returns-in-0
unfolding understood everything
returns-in-0 c = rw c.in-0.is (λ below n. record { show = 1 ∷ []; order = rising (1 ∷ 2 ∷ 3 ∷ []); names = codes "tab" ∷ []; is = refl; plain = (refl, refl); unlisted = refl; whole = refl; typed = λ db has no. true≢false (rw has at no) })

pub returns-in-1 : goal.returns-in-1
unfolding understood everything
returns-in-1 c = rw c.in-1.is (λ below n. record { show = 1 ∷ []; order = rising (1 ∷ 2 ∷ 3 ∷ []); names = codes "tab" ∷ []; is = refl; plain = (refl, refl); unlisted = refl; whole = refl; typed = λ db has no. true≢false (rw has at no) })

pub returns-in-2 : goal.returns-in-2
unfolding understood everything
returns-in-2 c = rw c.in-2.is (λ below n. record { show = 1 ∷ []; order = rising (1 ∷ 2 ∷ 3 ∷ []); names = codes "tab" ∷ []; is = refl; plain = (refl, refl); unlisted = refl; whole = refl; typed = λ db has no. true≢false (rw has at no) })

pub returns-in-3 : goal.returns-in-3
unfolding understood everything
returns-in-3 c = rw c.in-3.is (λ below n. record { show = 1 ∷ []; order = rising (1 ∷ 2 ∷ 3 ∷ []); names = codes "tab" ∷ []; is = refl; plain = (refl, refl); unlisted = refl; whole = refl; typed = λ db has no. true≢false (rw has at no) })

pub returns-in-4 : goal.returns-in-4
unfolding understood everything
returns-in-4 c = rw c.in-4.is (λ below n. record { show = 1 ∷ []; order = rising (1 ∷ 2 ∷ 3 ∷ []); names = codes "tab" ∷ []; is = refl; plain = (refl, refl); unlisted = refl; whole = refl; typed = λ db has no. true≢false (rw has at no) })

pub returns-in-5 : goal.returns-in-5
unfolding understood everything
returns-in-5 c = rw c.in-5.is (λ below n. record { show = 1 ∷ []; order = rising (1 ∷ 2 ∷ 3 ∷ []); names = codes "tab" ∷ []; is = refl; plain = (refl, refl); unlisted = refl; whole = refl; typed = λ db has no. true≢false (rw has at no) })

pub returns-in-6 : goal.returns-in-6
unfolding understood everything
returns-in-6 c = rw c.in-6.is (λ below n. record { show = 1 ∷ []; order = rising (1 ∷ 2 ∷ []); names = codes "tab" ∷ []; is = refl; plain = (refl, refl); unlisted = refl; whole = refl; typed = λ db has no. true≢false (rw has at no) })

pub returns-in_default : goal.returns-in_default
unfolding understood everything
returns-in_default c = λ below.
    let is : c.args.at ≡ 7 = omega (arith, c.in_default, below) in
    rw is (λ n. record { show = 0 ∷ []; order = rising (0 ∷ []); names = codes "rowid" ∷ []; is = refl; plain = (refl, refl); unlisted = refl; whole = refl; typed = λ db has no. true≢false (rw has at no) })
