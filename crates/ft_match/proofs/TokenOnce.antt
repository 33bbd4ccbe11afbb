-- A text has one list of tokens.
use Rattle.std.proofs.Common.{◌≡◌, ℕ, zero, suc, ◌+◌, ◌<◌, ◌≤◌, ◌||◌, true, false, List, [], ◌∷◌, length, refl, sym, ap, ◌∙◌, subst, arith, All, AllPairs}
use Rattle.ft_match.proofs.Common.{list_any, nat_tests, All-nil, All-cons, All-head, All-tail, All-weaker, recursion_from_All, PlainToken, AreTokens, covers, small_range}
use Rattle.ft_match.proofs.TokenLaw.{From, none_covers}

pub pairs_head : {X : Type 0} (R : X → X → Type 0) (x : X) (xs : List X) → AllPairs R (x ∷ xs) → All (R x) xs
pairs_head R x xs pairs k d inside = pairs zero (suc k) d (omega arith) (omega arith)

pub pairs_tail : {X : Type 0} (R : X → X → Type 0) (x : X) (xs : List X) → AllPairs R (x ∷ xs) → AllPairs R xs
pairs_tail R x xs pairs i j d before inside = pairs (suc i) (suc j) d (omega arith) (omega arith)

-- the tokens after the first
from_tail : {text : List ℕ} {count start : ℕ} (t : PlainToken) (ts : List PlainToken) → From text count start (t ∷ ts)
    → From text (count + 1) (t.start + t.size + 1) ts
from_tail {text} {count} {start} t ts all =
    let after : All (λ u. t.start + t.size < u.start) ts = pairs_head (λ a b. a.start + a.size < b.start) t ts all.apart in
    let begun : start ≤ t.start = All-head (λ u. start ≤ u.start) t ts all.later in
    record {
      filled = All-tail (λ u. 0 < u.size) t ts all.filled;
      within = All-tail (λ u. u.start + u.size ≤ length text) t ts all.within;
      later = All-weaker (λ u. t.start + t.size < u.start) (λ u. t.start + t.size + 1 ≤ u.start) (λ u (h : t.start + t.size < u.start). omega arith) ts after;
      apart = pairs_tail (λ a b. a.start + a.size < b.start) t ts all.apart;
      eligible = λ place from inside.
          let no : covers place t ≡ false = grind (arith, nat_tests) in
          all.eligible place (omega arith) inside ∙ ap (λ b. b || list_any (covers place) ts) no;
      positions = let e = all.positions in cc;
      terms = All-tail (λ u. u.term ≡ small_range text u.start (u.start + u.size)) t ts all.terms;
    }

-- the first token begins no later than that of another list
first_start : {text : List ℕ} {count start : ℕ} (a : PlainToken) (xs ys : List PlainToken) → From text count start (a ∷ xs) → From text count start ys
    → All (λ u. a.start < u.start) ys → ⊥
first_start {text} {count} {start} a xs ys one other late =
    let begun : start ≤ a.start = All-head (λ u. start ≤ u.start) a xs one.later in
    let some : 0 < a.size = All-head (λ u. 0 < u.size) a xs one.filled in
    let inside : a.start + a.size ≤ length text = All-head (λ u. u.start + u.size ≤ length text) a xs one.within in
    let here : a.start < length text = omega arith in
    let covered : covers a.start a ≡ true = grind (arith, nat_tests) in
    let in_other = other.eligible a.start begun here ∙ none_covers a.start ys (recursion_from_All (λ u. a.start < u.start) ys late) in
    let clash : true ≡ false = sym (one.eligible a.start begun here ∙ ap (λ b. b || list_any (covers a.start) xs) covered) ∙ in_other in
    cc

-- the first token ends no earlier than that of another list, where they begin at one place
first_end : {text : List ℕ} {count start : ℕ} (a b : PlainToken) (xs ys : List PlainToken) → From text count start (a ∷ xs) → From text count start (b ∷ ys)
    → a.start ≡ b.start → a.start + a.size < b.start + b.size → ⊥
first_end {text} {count} {start} a b xs ys one other same less =
    let begun : start ≤ a.start = All-head (λ u. start ≤ u.start) a xs one.later in
    let inside : b.start + b.size ≤ length text = All-head (λ u. u.start + u.size ≤ length text) b ys other.within in
    let after : All (λ u. a.start + a.size < u.start) xs = pairs_head (λ u v. u.start + u.size < v.start) a xs one.apart in
    let place : ℕ = a.start + a.size in
    let here : place < length text = omega arith in
    let not_a : covers place a ≡ false = grind (arith, nat_tests) in
    let by_b : covers place b ≡ true = grind (arith, nat_tests) in
    let in_one =
    one.eligible place (omega arith) here ∙ ap (λ v. v || list_any (covers place) xs) not_a
    ∙ none_covers place xs (recursion_from_All (λ u. place < u.start) xs after) in
    let clash : true ≡ false = sym (other.eligible place (omega arith) here ∙ ap (λ v. v || list_any (covers place) ys) by_b) ∙ in_one in
    cc

not_before : (m n : ℕ) → (m < n → ⊥) → (n < m → ⊥) → m ≡ n
not_before m n no_less no_more = grind arith

-- the starts of a list of tokens that begins with t
starts_after : {text : List ℕ} {count start : ℕ} (place : ℕ) (t : PlainToken) (ts : List PlainToken) → From text count start (t ∷ ts) → place < t.start
    → All (λ u. place < u.start) (t ∷ ts)
starts_after place t ts all h =
    All-cons (λ u. place < u.start) t ts h (All-weaker (λ u. t.start + t.size < u.start) (λ u. place < u.start)
    (λ u (after : t.start + t.size < u.start). omega arith) ts (pairs_head (λ u v. u.start + u.size < v.start) t ts all.apart))

-- tokens at one place, with one position, are one
same_token : (text : List ℕ) (a b : PlainToken) → a.start ≡ b.start → a.size ≡ b.size → a.pos ≡ b.pos → a.term ≡ small_range text a.start (a.start + a.size)
    → b.term ≡ small_range text b.start (b.start + b.size) → a ≡ b
same_token text a b starts sizes positions term other = grind arith

same_from : (text : List ℕ) (count start : ℕ) (xs ys : List PlainToken) → From text count start xs → From text count start ys → xs ≡ ys
same_from text count start [] [] one other = refl
same_from text count start [] (b ∷ ys) one other = absurd (first_start b ys [] other one (All-nil (λ u. b.start < u.start)))
same_from text count start (a ∷ xs) [] one other = absurd (first_start a xs [] one other (All-nil (λ u. a.start < u.start)))
same_from text count start (a ∷ xs) (b ∷ ys) one other =
    let starts : a.start ≡ b.start =
    not_before a.start b.start (λ less. first_start a xs (b ∷ ys) one other (starts_after a.start b ys other less))
    (λ less. first_start b ys (a ∷ xs) other one (starts_after b.start a xs one less)) in
    let ends : a.start + a.size ≡ b.start + b.size =
    not_before (a.start + a.size) (b.start + b.size) (first_end a b xs ys one other starts) (first_end b a ys xs other one (sym starts)) in
    let sizes : a.size ≡ b.size = omega arith in
    let positions : a.pos ≡ b.pos = let p = one.positions in let q = other.positions in cc in
    let first : a ≡ b = same_token text a b starts sizes positions
    (All-head (λ u. u.term ≡ small_range text u.start (u.start + u.size)) a xs one.terms)
    (All-head (λ u. u.term ≡ small_range text u.start (u.start + u.size)) b ys other.terms) in
    let rest =
    same_from text (count + 1) (b.start + b.size + 1) xs ys (subst (λ (n : ℕ). From text (count + 1) (n + 1) xs) ends (from_tail a xs one))
    (from_tail b ys other) in
    cc

from_tokens : {text : List ℕ} {tokens : List PlainToken} → AreTokens text tokens → From text 0 0 tokens
from_tokens {text} {tokens} all = record {
  filled = all.filled;
  within = all.within;
  later = λ k d inside. omega arith;
  apart = all.apart;
  eligible = λ place from inside. all.eligible place inside;
  positions = all.positions;
  terms = all.terms;
}

-- a text has one list of tokens
pub same_tokens : (text : List ℕ) (xs ys : List PlainToken) → AreTokens text xs → AreTokens text ys → xs ≡ ys
same_tokens text xs ys one other = same_from text 0 0 xs ys (from_tokens one) (from_tokens other)
