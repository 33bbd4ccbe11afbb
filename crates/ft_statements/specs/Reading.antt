-- Steps. Words read by their form, from the front. That what is read is what has the form is a law.
use Rattle.std.specs.Prelude.{ℕ, zero, suc, ◌+◌, ◌-◌, Bool, ◌==◌, ◌&&◌, List, [], ◌∷◌, length, drop, Option, Some, None, option_map, if◌then◌else◌}
use Rattle.std.specs.Option.{option_or, option_and_then}
use Rattle.ft_statements.specs.Forms.{Mark, Opens, Closes, Form, means, one, ends, ◌&◌, ◌·◌, such, when, first, list, balanced, begins, ends_part}

-- what the front of the words means, and the words after it
abbrev pub FrontRead : Type 0 → Type 0 → Type 0
FrontRead W A = Option (A × List W)

infixl 10 ◌>>=◌
abbrev pub ◌>>=◌ : {A B : Type 0} → Option A → (A → Option B) → Option B
o >>= f = option_and_then f o

-- one is put before what is read after it
abbrev pub onto_read : {W A : Type 0} → A → FrontRead W (List A) → FrontRead W (List A)
onto_read x later = option_map (λ r. (x ∷ r.0, r.1)) later

-- at most so many parts, and after each one more of them where a comma stands
abbrev pub list_at : {W A : Type 0} → (W → Bool) → (List W → FrontRead W A) → ℕ → List W → FrontRead W (List A)
list_at comma part zero ts = None
list_at comma part (suc n) ts = part ts >>= λ r. if begins comma r.1 then onto_read r.0 (list_at comma part n (drop 1 r.1)) else Some (r.0 ∷ [], r.1)

-- how many groups are open after a word
abbrev pub depth_after : Mark → ℕ → ℕ
depth_after Opens depth = suc depth
depth_after Closes depth = depth - 1
depth_after _ depth = depth

-- words up to one that ends them, where so many groups are open before the first
abbrev pub balanced_at : {W : Type 0} → (W → Mark) → List W → ℕ → FrontRead W (List W)
balanced_at mark [] zero = Some ([], [])
balanced_at mark [] (suc depth) = None
balanced_at mark (t ∷ ts) depth =
    if depth == 0 && ends_part (mark t) then Some ([], t ∷ ts) else onto_read t (balanced_at mark ts (depth_after (mark t) depth))

abbrev pub read : {W A : Type 0} → Form W A → List W → FrontRead W A
read (means x) ts = Some (x, ts)
read (one f) [] = None
read (one f) (t ∷ ts) = f t >>= λ x. Some (x, ts)
read ends [] = Some (tt, [])
read ends (t ∷ ts) = None
read (p & q) ts = read p ts >>= λ r. read q r.1 >>= λ s. Some (r.0 s.0, s.1)
read (p · q) ts = read p ts >>= λ r. read q r.1 >>= λ s. Some (r.0, s.1)
read (such p) ts = read p ts >>= λ r. r.0 >>= λ x. Some (x, r.1)
read (when test p q) ts = if begins test ts then read p ts else read q ts
read (first p q) ts = option_or (read p ts) (read q ts)
read (list comma p) ts = list_at comma (read p) (length ts + 1) ts
read (balanced mark) ts = balanced_at mark ts zero

-- what was read, whatever is left
abbrev pub found : {W A : Type 0} → FrontRead W A → Option A
found read = read >>= λ r. Some r.0
