-- How the tokens of what is left of a text change by one byte.
use Rattle.std.proofs.Common.{◌≡◌, ℕ, ◌+◌, ◌-◌, ◌<◌, ◌≤◌, true, false, List, [], ◌∷◌, ◌++◌, length, drop, get_or, refl, sym, ap, ◌∙◌, arith, add-one, drop-cons, length-drop, append-nil, get_or-drop, length-take-le}
use Rattle.std.specs.Char.{to_ascii_lowercase}
use Rattle.ft_match.proofs.Common.{nat_tests, order, map-append, length-map, take_more, drop_all, Scan, is_eligible, small_range, token_of, tokens_from, ended, tokens_left}

-- what is left has the byte at place first
pub rest_at : (text : List ℕ) (place : ℕ) → place < length text → drop place text ≡ get_or text place 0 ∷ drop (place + 1) text
rest_at text place h = rw (add-one, drop-cons text place 0)

-- a run grows by the byte at its end
pub small_range_more : (text : List ℕ) (start place : ℕ) → start ≤ place → place < length text
    → small_range text start (place + 1) ≡ small_range text start place ++ to_ascii_lowercase (get_or text place 0) ∷ []
small_range_more text start place begun h =
    grind (arith, nat_tests, length-drop start text, take_more (drop start text) (place - start) 0 (omega (arith, length-drop start text)), map-append, get_or-drop)

pub length-small_range : (text : List ℕ) (start place : ℕ) → start ≤ place → place ≤ length text → length (small_range text start place) ≡ place - start
length-small_range text start place begun h = grind (arith, nat_tests, length-drop, length-map, length-take-le)

pub small_range_empty : (text : List ℕ) (place : ℕ) → small_range text place place ≡ []
small_range_empty text place = grind arith

-- one byte, of either kind
more_of_run : (s : Scan) (b : ℕ) (bs : List ℕ) → is_eligible b ≡ true
    → tokens_from s (b ∷ bs) ≡ tokens_from (record s { run = s.run ++ to_ascii_lowercase b ∷ [] }) bs
more_of_run s b bs e = grind arith

end_of_run : (s : Scan) (b : ℕ) (bs : List ℕ) → is_eligible b ≡ false
    → tokens_from s (b ∷ bs) ≡ ended s ++ tokens_from (record { count = s.count + length (ended s); start = s.start + length s.run + 1; run = [] }) bs
end_of_run s b bs e = grind arith

-- with the run that began at start and goes to before place, and count tokens before it
abbrev pub scan_at : List ℕ → ℕ → ℕ → ℕ → Scan
scan_at text count start place = record { count = count; start = start; run = small_range text start place }

pub step_eligible : (text : List ℕ) (count start place : ℕ) → start ≤ place → place < length text → is_eligible (get_or text place 0) ≡ true →
    tokens_from (scan_at text count start place) (drop place text) ≡ tokens_from (scan_at text count start (place + 1)) (drop (place + 1) text)
step_eligible text count start place begun h eligible = grind (arith, nat_tests, rest_at, small_range_more, more_of_run)

pub step_other : (text : List ℕ) (count start place : ℕ) → start ≤ place → place < length text → is_eligible (get_or text place 0) ≡ false →
    tokens_from (scan_at text count start place) (drop place text)
    ≡ token_of count start (small_range text start place) ++ tokens_from
    (scan_at text (count + length (token_of count start (small_range text start place))) (place + 1) (place + 1)) (drop (place + 1) text)
step_other text count start place begun h other = grind (arith, nat_tests, length-small_range, rest_at, end_of_run, small_range_empty)

-- a byte that is not eligible is ASCII
pub ascii : (b : ℕ) → is_eligible b ≡ false → b < 128
ascii b other = grind (arith, nat_tests)

-- with no run, what is left at place
from_here : (text : List ℕ) (count place : ℕ) → tokens_from (scan_at text count place place) (drop place text) ≡ tokens_left text count place
from_here text count place = ap (λ run. tokens_from (record { count = count; start = place; run = run }) (drop place text)) (small_range_empty text place)

-- before the next token stands a byte that is not eligible
pub left_past : (text : List ℕ) (count place : ℕ) → place < length text → is_eligible (get_or text place 0) ≡ false
    → tokens_left text count place ≡ tokens_left text count (place + 1)
left_past text count place inside other = grind (arith, nat_tests, from_here, step_other, small_range_empty)

-- a token began at start, and goes on up to place at least
pub record HasRun (text : List ℕ) (start place : ℕ) : Type 0 where
  pub begun : start ≤ place
  pub inside : place ≤ length text
  pub left : (count : ℕ) → tokens_left text count start ≡ tokens_from (scan_at text count start place) (drop place text)

pub run_begins : {text : List ℕ} {start : ℕ} → start ≤ length text → HasRun text start start
run_begins {text} {start} inside = record { begun = omega arith; inside = inside; left = λ count. sym (from_here text count start) }

pub run_goes_on : {text : List ℕ} {start place : ℕ} → HasRun text start place → place < length text → is_eligible (get_or text place 0) ≡ true
    → HasRun text start (place + 1)
run_goes_on {text} {start} {place} run inside eligible = record {
  begun = omega (arith, run.begun);
  inside = omega (arith, inside);
  left = λ count. run.left count ∙ step_eligible text count start place run.begun inside eligible;
}

one_token : (count start : ℕ) (run : List ℕ) → 0 < length run → length (token_of count start run) ≡ 1
one_token count start [] some = absurd (omega arith)
one_token count start (b ∷ bs) some = refl

-- it ends before a byte that is not eligible, or with the text
pub run_ends : {text : List ℕ} {start place : ℕ} → HasRun text start place → start < place → (place < length text → is_eligible (get_or text place 0) ≡ false)
    → (count : ℕ) →
    tokens_left text count start ≡ token_of count start (small_range text start place) ++ tokens_left text (count + 1) place
run_ends {text} {start} {place} run some other count =
    grind (arith, nat_tests, length-small_range, step_other, one_token, from_here, left_past, drop_all, append-nil, order)

-- nothing is left at the end
pub left_none : (text : List ℕ) (count place : ℕ) → length text ≤ place → tokens_left text count place ≡ []
left_none text count place past = ap (tokens_from (record { count = count; start = place; run = [] })) (drop_all place text past)
