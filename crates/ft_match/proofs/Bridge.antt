-- The postings of a document whose columns have tokens.
use Rattle.std.proofs.Common.{◌≡◌, ℕ, zero, suc, ◌+◌, ◌<◌, ◌≤◌, ◌==◌, ◌&&◌, ◌||◌, Bool, true, false, List, [], ◌∷◌, length, map, refl, sym, ap, ◌∙◌, subst, arith, option_and_then, slice_get, ◌++◌, inr, All, AllPairs, flat_map}
use Rattle.std.specs.Option.{option_map_or}
use Rattle.std.proofs.Math.Bool.{or-false}
use Rattle.ft_match.proofs.Common.{list_any, range_with_len, AllByRecursion, nat_tests, recursion_from_All, list_any-append, PlainToken, tokens_of, PlainTerm, Posting, posting, postings_of, fits, takes, token_fits, enumerate_from, All-nil, All-weaker, All-append, All-from_recursion, AllPairs-cons, IsBefore}
use Rattle.ft_match.proofs.TokenLaw.{computed_tokens}
use Rattle.ft_match.proofs.TokenOnce.{pairs_head, pairs_tail}

-- positions and places rise
abbrev Rises : PlainToken → PlainToken → Type 0
Rises a b = (a.pos < b.pos) × (a.start < b.start)

-- positions from n on
pub late : (ts : List PlainToken) (n : ℕ) → map (λ t. t.pos) ts ≡ range_with_len n (length ts) → AllByRecursion (λ t. n ≤ t.pos) ts
late [] n numbered = tt
late (t ∷ ts) n numbered =
    let first : t.pos ≡ n = cc in
    let rest : map (λ u. u.pos) ts ≡ range_with_len (n + 1) (length ts) = cc in (
      omega arith,
      recursion_from_All (λ u. n ≤ u.pos) ts (All-weaker (λ u. n + 1 ≤ u.pos) (λ u. n ≤ u.pos) (λ u (h : n + 1 ≤ u.pos). omega arith) ts
          (All-from_recursion (λ u. n + 1 ≤ u.pos) ts (late ts (n + 1) rest))),
    )

both_rise : (t : PlainToken) (ts : List PlainToken) (n : ℕ) → t.pos ≡ n → AllByRecursion (λ u. n + 1 ≤ u.pos) ts
    → AllByRecursion (λ u. t.start + t.size < u.start) ts → AllByRecursion (Rises t) ts
both_rise t [] n first later apart = tt
both_rise t (u ∷ us) n first later apart = grind (arith, both_rise t us n first later.1 apart.1)

tokens_rise : (ts : List PlainToken) (n : ℕ) → map (λ t. t.pos) ts ≡ range_with_len n (length ts) → AllPairs (λ a b. a.start + a.size < b.start) ts
    → AllPairs Rises ts
tokens_rise [] n numbered apart = λ i j d before inside. absurd (omega arith)
tokens_rise (t ∷ ts) n numbered apart =
    let first : t.pos ≡ n = cc in
    let rest : map (λ u. u.pos) ts ≡ range_with_len (n + 1) (length ts) = cc in
    AllPairs-cons Rises t ts
    (All-from_recursion (Rises t) ts (both_rise t ts n first (late ts (n + 1) rest)
    (recursion_from_All (λ u. t.start + t.size < u.start) ts (pairs_head (λ a b. a.start + a.size < b.start) t ts apart))))
    (tokens_rise ts (n + 1) rest (pairs_tail (λ a b. a.start + a.size < b.start) t ts apart))

-- the postings of the columns from c on
abbrev pub from_column : ℕ → List (List PlainToken) → List Posting
from_column c columns = flat_map (λ e. map (posting e.0) e.1) (enumerate_from c columns)

-- of one column
one_column : (c : ℕ) (ts : List PlainToken) → AllByRecursion (λ p. p.place.column ≡ c) (map (posting c) ts)
one_column c [] = tt
one_column c (t ∷ ts) = (refl, one_column c ts)

one_rises : (c : ℕ) (t : PlainToken) (ts : List PlainToken) → AllByRecursion (Rises t) ts → AllByRecursion (IsBefore (posting c t)) (map (posting c) ts)
one_rises c t [] rise = tt
one_rises c t (u ∷ us) rise = (inr (refl, rise.0.0, rise.0.1), one_rises c t us rise.1)

column_rises : (c : ℕ) (ts : List PlainToken) → AllPairs Rises ts → AllPairs IsBefore (map (posting c) ts)
column_rises c [] rise = λ i j d before inside. absurd (omega arith)
column_rises c (t ∷ ts) rise = AllPairs-cons IsBefore (posting c t) (map (posting c) ts)
    (All-from_recursion (IsBefore (posting c t)) (map (posting c) ts) (one_rises c t ts (recursion_from_All (Rises t) ts (pairs_head Rises t ts rise))))
    (column_rises c ts (pairs_tail Rises t ts rise))

pub later_columns : (c : ℕ) (columns : List (List PlainToken)) → All (λ p. c ≤ p.place.column) (from_column c columns)
later_columns c [] = All-nil (λ p. c ≤ p.place.column)
later_columns c (ts ∷ columns) = All-append (λ p. c ≤ p.place.column) (map (posting c) ts) (from_column (c + 1) columns)
    (All-weaker (λ p. p.place.column ≡ c) (λ p. c ≤ p.place.column) (λ p (h : p.place.column ≡ c). omega arith) (map (posting c) ts)
    (All-from_recursion (λ p. p.place.column ≡ c) (map (posting c) ts) (one_column c ts)))
    (All-weaker (λ p. c + 1 ≤ p.place.column) (λ p. c ≤ p.place.column) (λ p (h : c + 1 ≤ p.place.column). omega arith) (from_column (c + 1) columns)
    (later_columns (c + 1) columns))

pub pairs_append : {X : Type 0} (R : X → X → Type 0) (xs ys : List X) → AllPairs R xs → AllPairs R ys → AllByRecursion (λ x. All (R x) ys) xs
    → AllPairs R (xs ++ ys)
pairs_append R [] ys first second across = second
pairs_append R (x ∷ xs) ys first second across =
    AllPairs-cons R x (xs ++ ys) (All-append (R x) xs ys (pairs_head R x xs first) across.0) (pairs_append R xs ys (pairs_tail R x xs first) second across.1)

-- a column comes before those after it
across_columns : (c : ℕ) (ts : List PlainToken) (ps : List Posting) → All (λ p. c + 1 ≤ p.place.column) ps
    → AllByRecursion (λ p. All (IsBefore p) ps) (map (posting c) ts)
across_columns c [] ps after = tt
across_columns c (t ∷ ts) ps after = grind (arith, across_columns c ts ps after)

columns_rise : (c : ℕ) (columns : List (List PlainToken)) → AllByRecursion (AllPairs Rises) columns → AllPairs IsBefore (from_column c columns)
columns_rise c [] rise = λ i j d before inside. absurd (omega arith)
columns_rise c (ts ∷ columns) rise =
    pairs_append IsBefore (map (posting c) ts) (from_column (c + 1) columns) (column_rises c ts rise.0) (columns_rise (c + 1) columns rise.1)
    (across_columns c ts (from_column (c + 1) columns) (later_columns (c + 1) columns))

each_rises : (texts : List (List ℕ)) → AllByRecursion (AllPairs Rises) (map tokens_of texts)
each_rises [] = tt
each_rises (text ∷ texts) = let all = computed_tokens text in (tokens_rise (tokens_of text) 0 all.positions all.apart, each_rises texts)

-- the postings of texts are in order
pub postings_rise : (texts : List (List ℕ)) → AllPairs IsBefore (postings_of (map tokens_of texts))
postings_rise texts = columns_rise 0 (map tokens_of texts) (each_rises texts)

-- ---- a term takes a token exactly where the token of that number fits it

module _ (t : PlainTerm) (column pos : ℕ) where
  takes_one : Posting → Bool
  takes_one p = p.place.column == column && p.place.pos == pos && fits t p.term p.place.pos

  -- columns after the one asked for
  none_after : (ps : List Posting) → AllByRecursion (λ p. column + 1 ≤ p.place.column) ps → list_any takes_one ps ≡ false
  unfolding takes_one
  none_after [] after = refl
  none_after (p ∷ ps) after = grind (arith, none_after ps after.1)

  -- a column before it
  none_before : (c : ℕ) (ts : List PlainToken) → c < column → list_any takes_one (map (posting c) ts) ≡ false
  unfolding takes_one
  none_before c [] before = refl
  none_before c (u ∷ us) before = grind (arith, none_before c us before)

  -- tokens after the one asked for
  none_later : (us : List PlainToken) → AllByRecursion (λ u. pos + 1 ≤ u.pos) us → list_any takes_one (map (posting column) us) ≡ false
  unfolding takes_one
  none_later [] later = refl
  none_later (u ∷ us) later = grind (arith, none_later us later.1)

  -- the column asked for, from its token n on
  in_column : (ts : List PlainToken) (n j : ℕ) → map (λ u. u.pos) ts ≡ range_with_len n (length ts) → pos ≡ n + j
      → list_any takes_one (map (posting column) ts) ≡ option_map_or (λ u. fits t u.term u.pos) (slice_get ts j) false
  unfolding takes_one
  in_column [] n j numbered at = refl
  in_column (u ∷ us) n zero numbered at =
      let first : u.pos ≡ n = cc in
      let rest : map (λ v. v.pos) us ≡ range_with_len (n + 1) (length us) = cc in
      let here : (column == column) ≡ true = grind (arith, nat_tests) in
      let there : (u.pos == pos) ≡ true = grind (arith, nat_tests) in
      let same : n + 1 ≡ pos + 1 = omega arith in
      rw (here, there, none_later us (subst (λ (m : ℕ). AllByRecursion (λ v. m ≤ v.pos) us) same (late us (n + 1) rest)))
      (or-false (fits t u.term u.pos))
  in_column (u ∷ us) n (suc j) numbered at = grind (arith, in_column us (n + 1) j (cc) (omega arith))

  Numbered : List (List PlainToken) → Type 0
  Numbered columns = AllByRecursion (λ ts. map (λ u. u.pos) ts ≡ range_with_len 0 (length ts)) columns

  -- the columns from c on
  in_columns : (columns : List (List PlainToken)) (c k : ℕ) → Numbered columns → column ≡ c + k
      → list_any takes_one (from_column c columns)
      ≡ option_map_or (λ u. fits t u.term u.pos) (option_and_then (λ ts. slice_get ts pos) (slice_get columns k)) false
  unfolding Numbered
  in_columns [] c k numbered at = refl
  in_columns (ts ∷ columns) c zero numbered at =
      let same : column ≡ c = omega arith in
      list_any-append takes_one (map (posting c) ts) (from_column (c + 1) columns)
      ∙ ap (λ b. list_any takes_one (map (posting c) ts) || b)
      (none_after (from_column (c + 1) columns) (subst (λ (m : ℕ). AllByRecursion (λ p. m + 1 ≤ p.place.column) (from_column (c + 1) columns)) (sym same)
      (recursion_from_All (λ p. c + 1 ≤ p.place.column) (from_column (c + 1) columns) (later_columns (c + 1) columns))))
      ∙ or-false (list_any takes_one (map (posting c) ts))
      ∙ ap (λ (m : ℕ). list_any takes_one (map (posting m) ts)) (sym same)
      ∙ in_column ts 0 pos numbered.0 (omega arith)
  in_columns (ts ∷ columns) c (suc k) numbered at =
      grind (arith, nat_tests, in_columns columns (c + 1) k numbered.1 (omega arith), list_any-append, takes_one, none_before)

  numbered_texts : (texts : List (List ℕ)) → Numbered (map tokens_of texts)
  unfolding Numbered
  numbered_texts [] = tt
  numbered_texts (text ∷ texts) = ((computed_tokens text).positions, numbered_texts texts)

  -- what a term takes in the postings of texts is what the texts' tokens say
  pub takes_token : (texts : List (List ℕ)) → takes (postings_of (map tokens_of texts)) t column pos ≡ token_fits (map tokens_of texts) t column pos
  unfolding takes_one
  takes_token texts = in_columns (map tokens_of texts) 0 column (numbered_texts texts) (omega arith)
