-- Lines of an input that is read piece by piece.
use Rattle.std.proofs.Common.{◌≡◌, ◌≢◌, ℕ, zero, suc, ◌-◌, ◌<◌, min, take, drop, append_assoc, Bool, true, false, cond, ◌||◌, ◌&&◌, ◌==◌, List, [], ◌∷◌, ◌++◌, length, Ok, Err, refl, sym, ap, ◌∙◌, arith, append-nil, length-append, lt-ltb, not}
use Rattle.std.specs.Prelude.{slice_index}
use Rattle.std.proofs.lemmas.Bool.{eqb-true, false_from_ne_true}
use Rattle.std.proofs.lemmas.List.{length-take-le, take-append-drop, take_all}
use Rattle.std.proofs.lemmas.List.Folds.{list_any-append}
use Rattle.std.specs.List.{list_any}
use Rattle.std.specs.Str.{is_utf8}
use Rattle.shell_text.specs.declared.units.SplitFault.{SplitFault}
use Rattle.shell_text.specs.declared.units.SplitFault.TheVariants as fault
use Rattle.shell_text.specs.Units.{Member, Fault, Reading, Role, Refused, Command, Joins, is_idle, lines_of, onto_line, most_bytes, role_of, size_with, member_of, after_role, after_line, units_in, without_block}
use Rattle.shell_text.specs.Splitting.{Splitting, TakesLine, given_by, without_ended}
use Rattle.shell_text.specs.Words.{next_is, first_byte, pieces_from}
use Rattle.shell_io.specs.LinesRead.{EndsWith, LinesRead, HasNoEnd, Way, at_end, behind, end_line, members_left}

-- lines with a text before the first of them
abbrev fronted : Bool → List ℕ → List (List ℕ) → List (List ℕ)
fronted ends [] lines = lines
fronted ends (b ∷ bs) lines = onto_line ends b (fronted ends bs lines)

neither : (x y : Bool) → (x || y) ≡ false → (x ≡ false) × (y ≡ false)
neither true y h = absurd (let wrong = h in cc)
neither false y h = (refl, h)

lines_fronted : (ends : Bool) (line rest : List ℕ) → HasNoEnd line → lines_of ends (line ++ rest) ≡ fronted ends line (lines_of ends rest)
lines_fronted ends [] rest h = refl
lines_fronted ends (b ∷ bs) rest h =
    let parts = neither (b == 10) (list_any (λ b. b == 10) bs) h in
    ap (λ t. cond t ([] ∷ lines_of ends (bs ++ rest)) (onto_line ends b (lines_of ends (bs ++ rest)))) parts.0 ∙ ap (onto_line ends b) (lines_fronted ends bs rest parts.1)

fronted_some : (ends : Bool) (line l : List ℕ) (ls : List (List ℕ)) → fronted ends line (l ∷ ls) ≡ (line ++ l) ∷ ls
fronted_some ends [] l ls = refl
fronted_some ends (b ∷ bs) l ls = ap (onto_line ends b) (fronted_some ends bs l ls)

fronted_last : (b : ℕ) (bs : List ℕ) → fronted true (b ∷ bs) [] ≡ (b ∷ bs) ∷ []
fronted_last b [] = refl
fronted_last b (c ∷ cs) = ap (onto_line true b) (fronted_last c cs)

fronted_none : (line : List ℕ) → fronted false line [] ≡ []
fronted_none [] = refl
fronted_none (b ∷ bs) = ap (onto_line false b) (fronted_none bs)

-- a line feed ends the line
pub ended : (ends : Bool) (line rest : List ℕ) → HasNoEnd line → lines_of ends (line ++ 10 ∷ rest) ≡ line ∷ lines_of ends rest
ended ends line rest h = lines_fronted ends line (10 ∷ rest) h ∙ fronted_some ends line [] (lines_of ends rest) ∙ ap (λ l. l ∷ lines_of ends rest) (append-nil line)

-- ---- the members of a line, by its role

abbrev given_role : Bool → Role → Reading → List ℕ → List (List ℕ) → List Member
given_role ends role r line lines = (member_of role r line ++ units_in (after_role role r line)) ++ given_by ends (without_ended (after_role role r line)) lines

refused_given : (ends : Bool) (why : SplitFault) (r : Reading) (line : List ℕ) (lines : List (List ℕ)) → role_of r line ≡ Refused why → given_by ends r (line ∷ lines) ≡ Fault r.line why ∷ given_by ends (without_block r) lines
unfolding pieces_from
refused_given ends why r line lines is = ap (λ role. given_role ends role r line lines) is

-- ---- a line that is too long stays so without a byte

long_role : (r : Reading) (line : List ℕ) → 1000000 < length line → role_of r line ≡ Refused fault.TooLong
long_role r line h = ap (λ (b : Bool). cond b (Refused fault.TooLong) (later_role r line)) (lt-ltb most_bytes (size_with r line) (omega (arith, h)))
  where
    later_role : Reading → List ℕ → Role
    later_role r line = cond (not (is_utf8 line)) (Refused fault.NotUtf8) (cond (list_any (λ b. b == 0) line) (Refused fault.HasNul) (cond (is_idle r && next_is (λ b. b == 0x2E) (first_byte line)) Command Joins))

-- what is given where a text that is too long stands before lines
abbrev given_long : Bool → Reading → List (List ℕ) → List Member
given_long true r [] = Fault r.line fault.TooLong ∷ given_by true (without_block r) []
given_long false r [] = []
given_long ends r (l ∷ ls) = Fault r.line fault.TooLong ∷ given_by ends (without_block r) ls

long_given : (ends : Bool) (r : Reading) (line : List ℕ) (lines : List (List ℕ)) → 1000000 < length line → given_by ends r (fronted ends line lines) ≡ given_long ends r lines
long_given ends r [] lines long = absurd (omega (arith, long))
long_given true r (b ∷ bs) [] long = ap (given_by true r) (fronted_last b bs) ∙ refused_given true fault.TooLong r (b ∷ bs) [] (long_role r (b ∷ bs) long)
long_given false r (b ∷ bs) [] long = ap (given_by false r) (fronted_none (b ∷ bs))
long_given ends r (b ∷ bs) (l ∷ ls) long =
    ap (given_by ends r) (fronted_some ends (b ∷ bs) l ls)
    ∙ refused_given ends fault.TooLong r ((b ∷ bs) ++ l) ls (long_role r ((b ∷ bs) ++ l) (omega (arith, long, length-append (b ∷ bs) l)))

pub dropped_byte : (ends : Bool) (r : Reading) (line : List ℕ) (b : ℕ) (rest : List ℕ) → HasNoEnd line → (b == 10) ≡ false → 1000000 < length line → given_by ends r (lines_of ends (line ++ b ∷ rest)) ≡ given_by ends r (lines_of ends (line ++ rest))
dropped_byte ends r line b rest h other long =
    ap (given_by ends r) (lines_fronted ends line (b ∷ rest) h) ∙ long_given ends r line (lines_of ends (b ∷ rest)) long
    ∙ ap (given_long ends r) (ap (λ t. cond t ([] ∷ lines_of ends rest) (onto_line ends b (lines_of ends rest))) other) ∙ same ends (lines_of ends rest)
    ∙ sym (ap (given_by ends r) (lines_fronted ends line rest h) ∙ long_given ends r line (lines_of ends rest) long)
  where
    same : (ends : Bool) (ls : List (List ℕ)) → given_long ends r (onto_line ends b ls) ≡ given_long ends r ls
    same true [] = refl
    same false [] = refl
    same ends (l ∷ ls) = refl

-- and without many of them
pub dropped_bytes : (ends : Bool) (r : Reading) (line bytes rest : List ℕ) → HasNoEnd line → HasNoEnd bytes → 1000000 < length line → given_by ends r (lines_of ends (line ++ (bytes ++ rest))) ≡ given_by ends r (lines_of ends (line ++ rest))
dropped_bytes ends r line [] rest h plain long = refl
dropped_bytes ends r line (b ∷ bs) rest h plain long =
    let parts = neither (b == 10) (list_any (λ b. b == 10) bs) plain in
    dropped_byte ends r line b (bs ++ rest) h parts.0 long ∙ dropped_bytes ends r line bs rest h parts.1 long

plain_append : (xs ys : List ℕ) → HasNoEnd xs → HasNoEnd ys → HasNoEnd (xs ++ ys)
plain_append xs ys first second = list_any-append (λ b. b == 10) xs ys ∙ ap (λ t. t || list_any (λ b. b == 10) ys) first ∙ second

plain_parts : (xs ys : List ℕ) → HasNoEnd (xs ++ ys) → HasNoEnd xs × HasNoEnd ys
plain_parts xs ys plain = neither (list_any (λ b. b == 10) xs) (list_any (λ b. b == 10) ys) (sym (list_any-append (λ b. b == 10) xs ys) ∙ plain)

pub plain_kept : (line bytes : List ℕ) (n : ℕ) → HasNoEnd line → HasNoEnd bytes → HasNoEnd (line ++ take n bytes)
plain_kept line bytes n first plain = plain_append line (take n bytes) first (plain_parts (take n bytes) (drop n bytes) (ap (list_any (λ b. b == 10)) (take-append-drop n bytes) ∙ plain)).0

-- of more bytes of a line as many are kept as there is room for
pub kept_front : (ends : Bool) (r : Reading) (line bytes rest : List ℕ) (n : ℕ) → HasNoEnd line → HasNoEnd bytes → n ≡ min (length bytes) (1000001 - length line) → given_by ends r (lines_of ends (line ++ (bytes ++ rest))) ≡ given_by ends r (lines_of ends ((line ++ take n bytes) ++ rest))
kept_front ends r line bytes rest n h plain size = go (length bytes - n) refl
  where
    split : take n bytes ++ drop n bytes ≡ bytes
    split = take-append-drop n bytes

    go : (more : ℕ) → more ≡ length bytes - n → given_by ends r (lines_of ends (line ++ (bytes ++ rest))) ≡ given_by ends r (lines_of ends ((line ++ take n bytes) ++ rest))
    go zero all = ap (λ xs. given_by ends r (lines_of ends xs)) (sym (append_assoc line bytes rest) ∙ ap (λ xs. (line ++ xs) ++ rest) (sym (take_all n bytes (omega (arith, all)))))
    go (suc m) part =
        let front = plain_parts (take n bytes) (drop n bytes) (ap (list_any (λ b. b == 10)) split ∙ plain) in
        ap (λ xs. given_by ends r (lines_of ends xs)) (ap (λ xs. line ++ (xs ++ rest)) (sym split) ∙ ap (λ xs. line ++ xs) (append_assoc (take n bytes) (drop n bytes) rest) ∙ sym (append_assoc line (take n bytes) (drop n bytes ++ rest)))
        ∙ dropped_bytes ends r (line ++ take n bytes) (drop n bytes) rest (plain_append line (take n bytes) h front.0) front.1 (omega (arith, size, part, length-append line (take n bytes), length-take-le n bytes))

pub kept_left : (a : LinesRead) (bytes : List ℕ) (way : Way) (n : ℕ) → HasNoEnd a.line → HasNoEnd bytes → n ≡ min (length bytes) (1000001 - length a.line) → members_left a (behind bytes way) ≡ members_left (record a { line = a.line ++ take n bytes }) way
kept_left a bytes way n h plain size = ap (λ ms. a.splitting.waiting ++ ms) (kept_front way.ends a.splitting.reading a.line bytes way.rest n h plain size)

-- ---- the first line feed

-- the bytes before a place and after it, where no line feed stands before it
pub line_before : (bytes : List ℕ) (end : ℕ) → end < length bytes → ((k : ℕ) → k < end → ¬ ((slice_index bytes k == 10) ≡ true)) → (slice_index bytes end == 10) ≡ true → HasNoEnd (take end bytes) × (bytes ≡ take end bytes ++ 10 ∷ drop (suc end) bytes)
line_before [] end within before is = absurd (omega (arith, within))
line_before (b ∷ bs) zero within before is = (refl, ap (λ c. c ∷ bs) (eqb-true b 10 is))
line_before (b ∷ bs) (suc end) within before is =
    let later = line_before bs end (omega (arith, within)) (λ k low. before (suc k) (omega (arith, low))) is in
    (ap (λ t. t || list_any (λ b. b == 10) (take end bs)) (false_from_ne_true (b == 10) (before 0 (omega arith))) ∙ later.0, ap (λ xs. b ∷ xs) later.1)

-- there is none
pub no_line : (bytes : List ℕ) → ((k : ℕ) → k < length bytes → ¬ ((slice_index bytes k == 10) ≡ true)) → HasNoEnd bytes
no_line [] nowhere = refl
no_line (b ∷ bs) nowhere = ap (λ t. t || list_any (λ b. b == 10) bs) (false_from_ne_true (b == 10) (nowhere 0 (omega arith))) ∙ no_line bs (λ k within. nowhere (suc k) (omega (arith, within)))

-- ---- a line that ends

pub taken_line : (a : LinesRead) (new : Splitting) (u : Unit {0}) (way : Way) → HasNoEnd a.line → a.splitting.waiting ≡ [] → TakesLine a.line a.splitting new (Ok u) →
    members_left a (behind (10 ∷ []) way) ≡ members_left (record { splitting = new; line = [] }) way
taken_line a new u way plain none takes =
    let r = a.splitting.reading in
    let lines = lines_of way.ends way.rest in
    let next = without_ended (after_line r a.line) in
    ap (λ w. w ++ given_by way.ends r (lines_of way.ends (a.line ++ 10 ∷ way.rest))) none ∙ ap (given_by way.ends r) (ended way.ends a.line way.rest plain)
    ∙ sym ((λ i. takes.2 i ++ given_by way.ends (takes.1 i) lines) ∙ ap (λ w. ((w ++ member_of (role_of r a.line) r a.line) ++ units_in (after_line r a.line)) ++ given_by way.ends next lines) none)

abbrev Refuses : List ℕ → Splitting → Splitting → SplitFault → Type 0
Refuses line old new why = (role_of old.reading line ≡ Refused why) × (new ≡ record old { reading = after_line old.reading line })

refuses : (line : List ℕ) (old new : Splitting) (why : SplitFault) → why ≢ fault.Memory → TakesLine line old new (Err why) → Refuses line old new why
refuses line old new fault.TooLong other takes = takes
refuses line old new fault.NotUtf8 other takes = takes
refuses line old new fault.HasNul other takes = takes
refuses line old new (fault.Incomplete n) other takes = takes
refuses line old new fault.Memory other takes = absurd (other refl)

pub refused_line : (a : LinesRead) (new : Splitting) (why : SplitFault) (number : ℕ) (way : Way) → HasNoEnd a.line → a.splitting.waiting ≡ [] → number ≡ a.splitting.reading.line → why ≢ fault.Memory → TakesLine a.line a.splitting new (Err why) →
    members_left a (behind (10 ∷ []) way) ≡ Fault number why ∷ members_left (record { splitting = new; line = [] }) way
refused_line a new why number way plain none same other takes =
    let r = a.splitting.reading in
    let ends = way.ends in
    let lines = lines_of ends way.rest in
    let is = refuses a.line a.splitting new why other takes in
    ap (λ w. w ++ given_by ends r (lines_of ends (a.line ++ 10 ∷ way.rest))) none ∙ ap (given_by ends r) (ended ends a.line way.rest plain)
    ∙ refused_given ends why r a.line lines is.0
    ∙ (λ i. Fault (sym same i) why ∷ given_by ends (after_role (sym is.0 i) r a.line) lines)
    ∙ sym (ap (λ (s : Splitting). Fault number why ∷ (s.waiting ++ given_by ends s.reading lines)) is.1 ∙ ap (λ w. Fault number why ∷ (w ++ given_by ends (after_line r a.line) lines)) none)

-- ---- the end of the input

-- what follows the last line feed is a line, as if a line feed ended it
pub ended_line : (a : LinesRead) → HasNoEnd a.line → 0 < length a.line → members_left a at_end ≡ members_left a (behind (10 ∷ []) at_end)
ended_line a plain some = ap (λ lines. a.splitting.waiting ++ given_by true a.splitting.reading lines) (go a.line plain some)
  where
    go : (line : List ℕ) → HasNoEnd line → 0 < length line → lines_of true (line ++ []) ≡ lines_of true (line ++ 10 ∷ [])
    go [] plain some = absurd (omega (arith, some))
    go (b ∷ bs) plain some = lines_fronted true (b ∷ bs) [] plain ∙ fronted_last b bs ∙ sym (ended true (b ∷ bs) [] plain)

-- nothing is left of the lines that ended, where no unit waits
pub none_left : (a : LinesRead) → a.splitting.waiting ≡ [] → HasNoEnd a.line → members_left a (record { rest = []; ends = false }) ≡ []
none_left a none plain = λ i. none i ++ given_by false a.splitting.reading ((lines_fronted false a.line [] plain ∙ fronted_none a.line) i)

-- a refusal at the end
pub ends_refused : (why : SplitFault) (left : List Member) → why ≢ fault.Memory → EndsWith (Err why) left → left ≡ Fault (end_line why) why ∷ []
ends_refused fault.TooLong left other is = is
ends_refused fault.NotUtf8 left other is = is
ends_refused fault.HasNul left other is = is
ends_refused (fault.Incomplete n) left other is = is
ends_refused fault.Memory left other is = absurd (other refl)
