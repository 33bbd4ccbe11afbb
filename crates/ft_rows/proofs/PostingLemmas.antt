-- Postings one after another, as lists.
use Rattle.std.proofs.Common.{◌≡◌, ℕ, ℤ, ◌+◌, Bool, true, false, cond, Some, List, [], ◌∷◌, map, refl, sym, ap, subst, ◌∙◌, suc, arith, take, drop, slice_get}
use Rattle.std.specs.Ordering.{int_eq}
use Rattle.std.proofs.lemmas.List.Sums.{prefix_len-le-length}
use Rattle.ft_values.specs.declared.rows.Spot.{Spot}
use Rattle.ft_rows.proofs.Common.{prefix_len, Decides-int_eq, Posting, spot_of, joined_posting, lists_of_postings, AreFirstList}

pub itself : (n : ℤ) → int_eq n n ≡ true
itself n = (Decides-int_eq n n).1 refl

pub docids_same : (m n : ℤ) → int_eq m n ≡ true → m ≡ n
docids_same m n h = (Decides-int_eq m n).0 h

pub turned_round : (m n : ℤ) → int_eq m n ≡ int_eq n m
turned_round m n = go (int_eq m n) (int_eq n m) refl refl
  where
    go : (b c : Bool) → int_eq m n ≡ b → int_eq n m ≡ c → b ≡ c
    go true true h j = refl
    go false false h j = refl
    go true false h j = sym (itself n) ∙ ap (λ x. int_eq n x) (sym (docids_same m n h)) ∙ j
    go false true h j = sym h ∙ ap (int_eq m) (docids_same n m j) ∙ itself m

-- ---- the first list

-- how many of the first postings are in the document of this one
abbrev pub run_with : Posting → List Posting → ℕ
run_with first ps = prefix_len (λ p. int_eq p.docid first.docid) ps

-- the list before others of another document
apart : (p q : Posting) (ls : List (ℤ × List Spot)) → int_eq p.docid q.docid ≡ false → joined_posting p (joined_posting q ls) ≡ (p.docid, p.spot ∷ []) ∷ joined_posting q ls
apart p q [] h = ap (λ b. cond b ((p.docid, p.spot ∷ q.spot ∷ []) ∷ []) ((p.docid, p.spot ∷ []) ∷ (q.docid, q.spot ∷ []) ∷ [])) h
apart p q (l ∷ ls) h = elim (int_eq q.docid l.0) as (λ b.
    joined_posting p (cond b ((q.docid, q.spot ∷ l.1) ∷ ls) ((q.docid, q.spot ∷ []) ∷ l ∷ ls))
    ≡ (p.docid, p.spot ∷ []) ∷ cond b ((q.docid, q.spot ∷ l.1) ∷ ls) ((q.docid, q.spot ∷ []) ∷ l ∷ ls)) [
      | true ↦ ap (λ b. cond b ((p.docid, p.spot ∷ q.spot ∷ l.1) ∷ ls) ((p.docid, p.spot ∷ []) ∷ (q.docid, q.spot ∷ l.1) ∷ ls)) h
      | false ↦ ap (λ b. cond b ((p.docid, p.spot ∷ q.spot ∷ []) ∷ l ∷ ls) ((p.docid, p.spot ∷ []) ∷ (q.docid, q.spot ∷ []) ∷ l ∷ ls)) h
    ]

-- a posting before one of its document, or of another
step : (p q : Posting) (qs : List Posting) (b : Bool) → int_eq q.docid p.docid ≡ b → joined_posting q (lists_of_postings qs) ≡ (q.docid, q.spot ∷ map spot_of (take (run_with q qs) qs)) ∷ lists_of_postings (drop (run_with q qs) qs) →
    joined_posting p (lists_of_postings (q ∷ qs)) ≡ (p.docid, p.spot ∷ map spot_of (take (cond b (1 + run_with p qs) 0) (q ∷ qs))) ∷ lists_of_postings (drop (cond b (1 + run_with p qs) 0) (q ∷ qs))
step p q qs true e rest =
    let same = docids_same q.docid p.docid e in
    let more : suc (run_with p qs) ≡ 1 + run_with p qs = omega arith in
    ap (joined_posting p) (rest ∙ ap (λ d. (d, q.spot ∷ map spot_of (take (prefix_len (λ (r : Posting). int_eq r.docid d) qs) qs)) ∷ lists_of_postings (drop (prefix_len (λ (r : Posting). int_eq r.docid d) qs) qs)) same)
    ∙ ap (λ b. cond b ((p.docid, p.spot ∷ q.spot ∷ map spot_of (take (run_with p qs) qs)) ∷ lists_of_postings (drop (run_with p qs) qs)) ((p.docid, p.spot ∷ []) ∷ (p.docid, q.spot ∷ map spot_of (take (run_with p qs) qs)) ∷ lists_of_postings (drop (run_with p qs) qs)))
    (itself p.docid)
    ∙ ap (λ n. (p.docid, p.spot ∷ map spot_of (take n (q ∷ qs))) ∷ lists_of_postings (drop n (q ∷ qs))) more
step p q qs false e rest = apart p q (lists_of_postings qs) (turned_round p.docid q.docid ∙ e)

-- a posting before those of its document, and the rest
runs : (p : Posting) (ps : List Posting) → joined_posting p (lists_of_postings ps) ≡ (p.docid, p.spot ∷ map spot_of (take (run_with p ps) ps)) ∷ lists_of_postings (drop (run_with p ps) ps)
runs p [] = refl
runs p (q ∷ qs) = step p q qs (int_eq q.docid p.docid) refl (runs q qs)

are_first : (p : Posting) (ps : List Posting) (b : Bool) → int_eq p.docid p.docid ≡ b → AreFirstList (p ∷ ps) (cond b (1 + run_with p ps) 0)
are_first p ps true is =
    let within = prefix_len-le-length (λ (q : Posting). int_eq q.docid p.docid) ps in
    let more : suc (run_with p ps) ≡ 1 + run_with p ps = omega arith in
    (omega arith, omega (arith, within), runs p ps ∙ ap (λ n. (p.docid, map spot_of (take n (p ∷ ps))) ∷ lists_of_postings (drop n (p ∷ ps))) more)
are_first p ps false is = absurd (let no = sym (itself p.docid) ∙ is in cc)

pub first_run : (ps : List Posting) (p : Posting) (n : ℕ) → slice_get ps 0 ≡ Some p → n ≡ run_with p ps → AreFirstList ps n
first_run [] p n is count = absurd (let no = is in cc)
first_run (q ∷ qs) p n is count =
    let same : q ≡ p = (let e = is in cc) in
    subst (AreFirstList (q ∷ qs)) (ap (λ (r : Posting). run_with r (q ∷ qs)) same ∙ sym count) (are_first q qs (int_eq q.docid q.docid) refl)
