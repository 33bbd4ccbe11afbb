-- The computed tokens are the tokens of the text.
use Rattle.std.proofs.Common.{◌≡◌, ℕ, ◌+◌, ◌-◌, ◌<◌, ◌≤◌, ◌||◌, Bool, true, false, List, [], ◌∷◌, ◌++◌, length, map, drop, get_or, refl, sym, ap, ◌∙◌, subst, arith, ⊎_elim, append-nil, All, AllPairs}
use Rattle.ft_match.proofs.Common.{list_any, range_with_len, AllByRecursion, nat_tests, All-nil, All-cons, All-weaker, recursion_from_All, AllPairs-cons, order, PlainToken, AreTokens, is_eligible, covers, small_range, token_of, tokens_from, tokens_of}
use Rattle.ft_match.proofs.TokenSteps.{scan_at, rest_at, step_eligible, step_other, small_range_empty, length-small_range}

-- these are the tokens of the text from start on, of which the first has the position count
pub record From (text : List ℕ) (count start : ℕ) (tokens : List PlainToken) : Type 0 where
  pub filled : All (λ t. 0 < t.size) tokens
  pub within : All (λ t. t.start + t.size ≤ length text) tokens
  pub later : All (λ t. start ≤ t.start) tokens
  pub apart : AllPairs (λ a b. a.start + a.size < b.start) tokens
  pub eligible : (place : ℕ) → start ≤ place → place < length text → is_eligible (get_or text place 0) ≡ list_any (covers place) tokens
  pub positions : map (λ t. t.pos) tokens ≡ range_with_len count (length tokens)
  pub terms : All (λ t. t.term ≡ small_range text t.start (t.start + t.size)) tokens

from_none : (text : List ℕ) (count start : ℕ) → length text ≤ start → From text count start []
from_none text count start past = record {
  filled = All-nil _;
  within = All-nil _;
  later = All-nil _;
  apart = λ i j d lt inside. absurd (omega arith);
  eligible = λ place from inside. absurd (omega arith);
  positions = refl;
  terms = All-nil _;
}

-- no token covers a place before all of them
pub none_covers : (place : ℕ) (tokens : List PlainToken) → AllByRecursion (λ t. place < t.start) tokens → list_any (covers place) tokens ≡ false
none_covers place [] before = refl
none_covers place (t ∷ ts) before = grind (arith, none_covers place ts before.1)

-- tokens that start late start later than less
starts_from : {a b : ℕ} (tokens : List PlainToken) → b ≤ a → All (λ t. a ≤ t.start) tokens → All (λ t. b ≤ t.start) tokens
starts_from {a} {b} tokens h all = All-weaker (λ t. a ≤ t.start) (λ t. b ≤ t.start) (λ t (late : a ≤ t.start). omega arith) tokens all

starts_past : {a b : ℕ} (tokens : List PlainToken) → b < a → All (λ t. a ≤ t.start) tokens → All (λ t. b < t.start) tokens
starts_past {a} {b} tokens h all = All-weaker (λ t. a ≤ t.start) (λ t. b < t.start) (λ t (late : a ≤ t.start). omega arith) tokens all

-- before the tokens stands a byte that is not eligible
from_skip : {text : List ℕ} {count start : ℕ} {tokens : List PlainToken} → From text count (start + 1) tokens
    → (start < length text → is_eligible (get_or text start 0) ≡ false) → From text count start tokens
from_skip {text} {count} {start} {tokens} rest other = record {
  filled = rest.filled;
  within = rest.within;
  later = starts_from tokens (omega arith) rest.later;
  apart = rest.apart;
  eligible = λ place from inside. ⊎_elim
      (λ (after : start < place). rest.eligible place (omega arith) inside)
      (λ (here : place ≤ start).
      let same : place ≡ start = omega arith in
      ap (λ i. is_eligible (get_or text i 0)) same ∙ other (omega arith)
      ∙ sym (none_covers place tokens (recursion_from_All _ tokens (starts_past tokens (omega arith) rest.later))))
      (order start place);
  positions = rest.positions;
  terms = rest.terms;
}

abbrev one_token : List ℕ → ℕ → ℕ → ℕ → PlainToken
one_token text count start size = record { term = small_range text start (start + size); pos = count; start = start; size = size }

-- a run, which goes up to a byte that is not eligible or to the end, and the tokens after that byte
from_put : {text : List ℕ} {count start size : ℕ} {tokens : List PlainToken} → 0 < size → start + size ≤ length text →
    ((q : ℕ) → start ≤ q → q < start + size → is_eligible (get_or text q 0) ≡ true) →
    (start + size < length text → is_eligible (get_or text (start + size) 0) ≡ false) →
    From text (count + 1) (start + size + 1) tokens → From text count start (one_token text count start size ∷ tokens)
from_put {text} {count} {start} {size} {tokens} some inside run other rest = record {
  filled = All-cons (λ t. 0 < t.size) (one_token text count start size) tokens some rest.filled;
  within = All-cons (λ t. t.start + t.size ≤ length text) (one_token text count start size) tokens inside rest.within;
  later = All-cons (λ t. start ≤ t.start) (one_token text count start size) tokens (omega arith) (starts_from tokens (omega arith) rest.later);
  apart = AllPairs-cons (λ a b. a.start + a.size < b.start) (one_token text count start size) tokens (starts_past tokens (omega arith) rest.later) rest.apart;
  eligible = λ place from here. ⊎_elim
      (λ (in_run : place < start + size).
      let eligible : covers place (one_token text count start size) ≡ true = grind (arith, nat_tests) in
      run place from in_run ∙ sym (ap (λ b. b || list_any (covers place) tokens) eligible))
      (λ (past : start + size ≤ place).
      let no : covers place (one_token text count start size) ≡ false = grind (arith, nat_tests) in
      (from_skip rest other).eligible place past here ∙ sym (ap (λ b. b || list_any (covers place) tokens) no))
      (order place (start + size));
  positions = ap (λ ps. count ∷ ps) rest.positions;
  terms = All-cons (λ t. t.term ≡ small_range text t.start (t.start + t.size)) (one_token text count start size) tokens refl rest.terms;
}

token_of_filled : (count start : ℕ) (run : List ℕ) → 0 < length run
    → token_of count start run ≡ record { term = run; pos = count; start = start; size = length run } ∷ []
token_of_filled count start [] some = absurd (omega arith)
token_of_filled count start (b ∷ bs) some = refl

-- the run's token is the one that from_put adds
token_of_run : (text : List ℕ) (count start place : ℕ) → start < place → place ≤ length text
    → token_of count start (small_range text start place) ≡ one_token text count start (place - start) ∷ []
token_of_run text count start place begun inside =
    let long = length-small_range text start place (omega arith) inside in
    let there : place ≡ start + (place - start) = omega arith in
    token_of_filled count start (small_range text start place) (omega (arith, long))
    ∙ ap (λ (n : ℕ). record { term = small_range text start place; pos = count; start = start; size = n } ∷ []) long
    ∙ ap (λ (n : ℕ). record { term = small_range text start n; pos = count; start = start; size = place - start } ∷ []) there

-- a run that ends at place, where no eligible byte follows, and the tokens after it
from_ended : (text : List ℕ) (count start place : ℕ) (tokens : List PlainToken) → start ≤ place → place ≤ length text →
    ((q : ℕ) → start ≤ q → q < place → is_eligible (get_or text q 0) ≡ true) →
    (place < length text → is_eligible (get_or text place 0) ≡ false) →
    From text (count + length (token_of count start (small_range text start place))) (place + 1) tokens → From text count start
    (token_of count start (small_range text start place) ++ tokens)
from_ended text count start place tokens begun inside run other rest = ⊎_elim
    (λ (filled : start < place).
    let one = token_of_run text count start place filled inside in
    let there : place ≡ start + (place - start) = omega arith in
    let after : From text (count + 1) (place + 1) tokens = subst (λ ts. From text (count + length ts) (place + 1) tokens) one rest in
    subst (λ ts. From text count start (ts ++ tokens)) (sym one)
    (from_put {size = place - start} (omega arith) (omega arith) (λ q from before. run q from (omega arith))
    (subst (λ (p : ℕ). p < length text → is_eligible (get_or text p 0) ≡ false) there other)
    (subst (λ (p : ℕ). From text (count + 1) (p + 1) tokens) there after)))
    (λ (empty : place ≤ start).
    let same : place ≡ start = omega arith in
    let none : token_of count start (small_range text start place) ≡ [] =
    ap (λ (p : ℕ). token_of count start (small_range text start p)) same ∙ ap (token_of count start) (small_range_empty text start) in
    let after : From text (count + 0) (place + 1) tokens = subst (λ ts. From text (count + length ts) (place + 1) tokens) none rest in
    let same_count : count + 0 ≡ count = omega arith in
    subst (λ ts. From text count start (ts ++ tokens)) (sym none)
    (from_skip (subst (λ (p : ℕ). From text count (p + 1) tokens) same (subst (λ (n : ℕ). From text n (place + 1) tokens) same_count after))
    (subst (λ (p : ℕ). p < length text → is_eligible (get_or text p 0) ≡ false) same other)))
    (order start place)

-- what is left after the byte at place, which is first in what is left
tail_at : (text bs : List ℕ) (b place : ℕ) → place < length text → drop place text ≡ b ∷ bs → drop (place + 1) text ≡ bs
tail_at text bs b place h is = let first = sym (rest_at text place h) ∙ is in cc

-- a run grows by an eligible byte
below_more_from : (text : List ℕ) (start place : ℕ) → ((q : ℕ) → start ≤ q → q < place → is_eligible (get_or text q 0) ≡ true)
    → is_eligible (get_or text place 0) ≡ true → (q : ℕ) → start ≤ q → q < place + 1 → is_eligible (get_or text q 0) ≡ true
below_more_from text start place run eligible q from before = grind arith

-- the same of the tokens of what is left at place, by the kind of the byte there
from_byte : (text bs : List ℕ) (b count start place : ℕ) (kind : Bool) → start ≤ place → place < length text → drop place text ≡ b ∷ bs
    → is_eligible (get_or text place 0) ≡ kind →
    ((q : ℕ) → start ≤ q → q < place → is_eligible (get_or text q 0) ≡ true) →
    (kind ≡ true → From text count start (tokens_from (scan_at text count start (place + 1)) bs)) →
    ((next : ℕ) → From text next (place + 1) (tokens_from (scan_at text next (place + 1) (place + 1)) bs)) →
    From text count start (tokens_from (scan_at text count start place) (b ∷ bs))
from_byte text bs b count start place true begun h is kind run more after =
    grind (arith, nat_tests, step_eligible text count start place begun h kind, tail_at text bs b place h is)
from_byte text bs b count start place false begun h is kind run more after =
    grind (arith, nat_tests, step_other text count start place begun h kind, tail_at text bs b place h is, from_ended text count start place)

-- Before place, count tokens ended and a run began at start, all of eligible bytes. The rest is
-- what is left.
from_rest : (text rest : List ℕ) (count start place : ℕ) → start ≤ place → place + length rest ≡ length text → drop place text ≡ rest →
    ((q : ℕ) → start ≤ q → q < place → is_eligible (get_or text q 0) ≡ true) →
    From text count start (tokens_from (scan_at text count start place) rest)
from_rest text [] count start place begun long is run =
    grind (arith, nat_tests, append-nil (token_of count start (small_range text start place)), from_ended text count start place, from_none text)
from_rest text (b ∷ bs) count start place begun long is run =
    let h : place < length text = omega arith in
    let tail = tail_at text bs b place h is in
    let left : place + 1 + length bs ≡ length text = omega arith in
    from_byte text bs b count start place (is_eligible (get_or text place 0)) begun h is refl run
    (λ eligible. from_rest text bs count start (place + 1) (omega arith) left tail (below_more_from text start place run eligible))
    (λ next. from_rest text bs next (place + 1) (place + 1) (omega arith) left tail (λ q from before. absurd (omega arith)))

-- the computed tokens are the tokens of the text
pub computed_tokens : (text : List ℕ) → AreTokens text (tokens_of text)
computed_tokens text =
    let all = from_rest text text 0 0 0 (omega arith) (omega arith) refl (λ q from before. absurd (omega arith)) in
    record {
      filled = all.filled;
      within = all.within;
      apart = all.apart;
      eligible = λ place inside. all.eligible place (omega arith) inside;
      positions = all.positions;
      terms = all.terms;
    }
