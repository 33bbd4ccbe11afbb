-- A text that isn't empty begins with a piece of some form, or with a byte that is a symbol.
use Rattle.std.proofs.Common.{◌≡◌, ◌≢◌, refl, sym, ap, subst, ◌∙◌, ℕ, Bool, true, false, List, [], ◌∷◌, ◌++◌, append-nil}
use Rattle.std.specs.Prelude.{◌==◌, ◌&&◌}
use Rattle.std.specs.Char.{is_ascii_digit}
use Rattle.std.proofs.lemmas.Bool.{eqb-true, eqb-false}
use Rattle.std.proofs.lemmas.List.{append_assoc}
use Rattle.std.proofs.lemmas.List.Elements.{All-nil, All-cons}
use Rattle.shell_text.specs.Words.{PieceKind, Closed, Open, begun, is_space, begins_word, goes_on_word, next_is, first_byte}
use Rattle.shell_text.specs.WordForms.{Lacks, IsRun, IsMark, apostrophe, quotation_mark, backquote, IsInMarks, nothing, other_byte, doubled_mark, IsForm, white_space, line_comment, block_comment, open_comment, marked, open_mark, bracketed, open_bracket, bare_word, number}
use Rattle.shell_text.specs.declared.words.SqlKind.{SqlKind}
use Rattle.shell_text.specs.declared.words.SqlKind.TheVariants as kinds
use Rattle.shell_text.specs.declared.words.Ended.TheVariants.{Word, Gap}
use Rattle.shell_text.specs.declared.words.Turn.TheVariants.{Ends}
use Rattle.shell_text.proofs.FormRuns.{passed}

-- ---- up to the next byte of a kind

-- a part stands after some bytes that lack it, or nowhere
pub data UpTo (part text : List ℕ) : Type 0 where
  there : (inside behind : List ℕ) → text ≡ inside ++ (part ++ behind) → Lacks part inside → UpTo part text
  nowhere : Lacks part text → UpTo part text

lacks_none : (b : ℕ) (part : List ℕ) → Lacks (b ∷ part) []
lacks_none b part [] behind = λ e. cc
lacks_none b part (c ∷ before) behind = λ e. cc

-- one more byte before them, with which the part doesn't begin
lacks_more : (b : ℕ) (part bytes : List ℕ) → ((behind : List ℕ) → b ∷ bytes ≢ part ++ behind) → Lacks part bytes → Lacks part (b ∷ bytes)
lacks_more b part bytes here later [] behind = here behind
lacks_more b part bytes here later (c ∷ before) behind = λ e. later before behind (let tails : bytes ≡ before ++ (part ++ behind) = cc in tails)

pub up_to_byte : (mark : ℕ) (text : List ℕ) → UpTo (mark ∷ []) text
up_to_byte mark [] = nowhere (lacks_none mark [])
up_to_byte mark (b ∷ text) = at_byte (b == mark) refl (up_to_byte mark text)
  where
    other : (b == mark) ≡ false → (bytes behind : List ℕ) → b ∷ bytes ≢ mark ∷ behind
    other e bytes behind same = eqb-false b mark e (let heads : b ≡ mark = cc in heads)

    at_byte : (c : Bool) → (b == mark) ≡ c → UpTo (mark ∷ []) text → UpTo (mark ∷ []) (b ∷ text)
    at_byte true e more = there [] text (ap (λ c. c ∷ text) (eqb-true b mark e)) (lacks_none mark [])
    at_byte false e (there inside behind is lacks) = there (b ∷ inside) behind (ap (λ bs. b ∷ bs) is) (lacks_more b (mark ∷ []) inside (other e inside) lacks)
    at_byte false e (nowhere lacks) = nowhere (lacks_more b (mark ∷ []) text (other e text) lacks)

abbrev comment_end : List ℕ
comment_end = 0x2A ∷ 0x2F ∷ []

-- whether a text begins with a star and a slash
abbrev closes : ℕ → List ℕ → Bool
closes b text = (b == 0x2A) && next_is (λ c. c == 0x2F) (first_byte text)

closes_not : (b : ℕ) (text behind : List ℕ) → closes b text ≡ false → b ∷ text ≢ comment_end ++ behind
closes_not b text behind apart e =
    let first : b ≡ 0x2A = cc in
    let rest : text ≡ 0x2F ∷ behind = cc in
    let clash : true ≡ false = sym (ap (λ c. closes c text) first ∙ ap (closes 0x2A) rest) ∙ apart in
    cc

-- bytes before which nothing closes don't begin with what closes either, cut off where it may be
closes_front : (b : ℕ) (inside rest : List ℕ) → closes b (inside ++ (0x2A ∷ rest)) ≡ false → closes b inside ≡ false
closes_front b [] rest apart = and_nothing (b == 0x2A)
  where
    and_nothing : (c : Bool) → (c && false) ≡ false
    and_nothing true = refl
    and_nothing false = refl
closes_front b (c ∷ inside) rest apart = apart

data ClosesHere (b : ℕ) (text : List ℕ) : Type 0 where
  closing : (behind : List ℕ) → b ∷ text ≡ comment_end ++ behind → ClosesHere b text

closes_here : (b : ℕ) (text : List ℕ) → closes b text ≡ true → ClosesHere b text
closes_here b text h = by_star (b == 0x2A) refl text h
  where
    by_star : (s : Bool) → (b == 0x2A) ≡ s → (bytes : List ℕ) → (s && next_is (λ c. c == 0x2F) (first_byte bytes)) ≡ true → ClosesHere b bytes
    by_star true e [] yes_so = cc
    by_star true e (c ∷ bytes) is = closing bytes (ap (λ d. d ∷ c ∷ bytes) (eqb-true b 0x2A e) ∙ ap (λ d. 0x2A ∷ d ∷ bytes) (eqb-true c 0x2F is))
    by_star false e bytes is = cc

pub up_to_end : (text : List ℕ) → UpTo comment_end text
up_to_end [] = nowhere (lacks_none 0x2A (0x2F ∷ []))
up_to_end (b ∷ text) = at_byte (closes b text) refl (up_to_end text)
  where
    found : ClosesHere b text → UpTo comment_end (b ∷ text)
    found (closing behind e) = there [] behind e (lacks_none 0x2A (0x2F ∷ []))

    at_byte : (c : Bool) → closes b text ≡ c → UpTo comment_end text → UpTo comment_end (b ∷ text)
    at_byte true e more = found (closes_here b text e)
    at_byte false e (there inside behind is lacks) =
        let here : closes b inside ≡ false = closes_front b inside (0x2F ∷ behind) (ap (closes b) (sym is) ∙ e) in
        there (b ∷ inside) behind (ap (λ bs. b ∷ bs) is) (lacks_more b comment_end inside (λ rest. closes_not b inside rest here) lacks)
    at_byte false e (nowhere lacks) = nowhere (lacks_more b comment_end text (λ rest. closes_not b text rest e) lacks)

-- ---- up to a closing mark

pub data ToMark (mark : ℕ) (text : List ℕ) : Type 0 where
  closed_at : (inside behind : List ℕ) → text ≡ inside ++ (mark ∷ behind) → IsInMarks mark inside
      → next_is (λ b. b == mark) (first_byte behind) ≡ false → ToMark mark text
  not_closed : IsInMarks mark text → ToMark mark text

pub to_mark : (mark : ℕ) (text : List ℕ) → ToMark mark text
to_mark mark [] = not_closed nothing
to_mark mark (b ∷ []) = at_last (b == mark) refl
  where
    at_last : (c : Bool) → (b == mark) ≡ c → ToMark mark (b ∷ [])
    at_last true e = closed_at [] [] (ap (λ c. c ∷ []) (eqb-true b mark e)) nothing refl
    at_last false e = not_closed (other_byte (eqb-false b mark e) nothing)
to_mark mark (b ∷ d ∷ text) = at_byte (b == mark) refl (d == mark) refl (to_mark mark (d ∷ text)) (to_mark mark text)
  where
    more_by_one : b ≢ mark → ToMark mark (d ∷ text) → ToMark mark (b ∷ d ∷ text)
    more_by_one other (closed_at inside behind is m alone) = closed_at (b ∷ inside) behind (ap (λ bs. b ∷ bs) is) (other_byte other m) alone
    more_by_one other (not_closed m) = not_closed (other_byte other m)

    two : b ≡ mark → d ≡ mark → b ∷ d ∷ text ≡ mark ∷ mark ∷ text
    two e f = ap (λ c. c ∷ d ∷ text) e ∙ ap (λ c. mark ∷ c ∷ text) f

    more_by_two : b ≡ mark → d ≡ mark → ToMark mark text → ToMark mark (b ∷ d ∷ text)
    more_by_two e f (closed_at inside behind is m alone) =
        closed_at (mark ∷ mark ∷ inside) behind (two e f ∙ ap (λ bs. mark ∷ mark ∷ bs) is) (doubled_mark m) alone
    more_by_two e f (not_closed m) = subst (ToMark mark) (sym (two e f)) (not_closed (doubled_mark m))

    at_byte : (c : Bool) → (b == mark) ≡ c → (k : Bool) → (d == mark) ≡ k → ToMark mark (d ∷ text) → ToMark mark text → ToMark mark (b ∷ d ∷ text)
    at_byte true e true f one more = more_by_two (eqb-true b mark e) (eqb-true d mark f) more
    at_byte true e false f one more = closed_at [] (d ∷ text) (ap (λ c. c ∷ d ∷ text) (eqb-true b mark e)) nothing f
    at_byte false e k f one more = more_by_one (eqb-false b mark e) one

-- ---- a run

pub data Runs (p : ℕ → Bool) (text : List ℕ) : Type 0 where
  run_to : (bytes behind : List ℕ) → text ≡ bytes ++ behind → IsRun p bytes behind → Runs p text

pub runs : (p : ℕ → Bool) (text : List ℕ) → Runs p text
runs p [] = run_to [] [] refl (record { run = All-nil (λ b. p b ≡ true); ends = refl })
runs p (b ∷ text) = at_byte (p b) refl (runs p text)
  where
    at_byte : (c : Bool) → p b ≡ c → Runs p text → Runs p (b ∷ text)
    at_byte true e (run_to bytes behind is r) =
        run_to (b ∷ bytes) behind (ap (λ bs. b ∷ bs) is) (record { run = All-cons (λ c. p c ≡ true) b bytes e r.run; ends = r.ends })
    at_byte false e more = run_to [] (b ∷ text) refl (record { run = All-nil (λ c. p c ≡ true); ends = e })

-- ---- the first piece

-- a text begins with a byte of a form, and maybe more; or a symbol begins
pub data Begins (b : ℕ) (text : List ℕ) : Type 0 where
  with_form : (kind : PieceKind) (more behind : List ℕ) → text ≡ more ++ behind → IsForm kind (b ∷ more) behind → Begins b text
  with_symbol : begun b (first_byte text) ≡ Ends (Word kinds.Symbol) → Begins b text

-- a text after which nothing stands
alone : (text : List ℕ) → text ≡ text ++ []
alone text = sym (append-nil text)

-- what is said of a byte is said of one that is equal
said_of : {b k : ℕ} {text : List ℕ} → b ≡ k → Begins k text → Begins b text
said_of {text = text} e h = subst (λ c. Begins c text) (sym e) h

line_begins : (text : List ℕ) → Begins 0x2D (0x2D ∷ text)
line_begins text = by_end (up_to_byte 0x0A text)
  where
    by_end : UpTo (0x0A ∷ []) text → Begins 0x2D (0x2D ∷ text)
    by_end (there inside behind is lacks) = with_form (Closed Gap) (0x2D ∷ inside) (0x0A ∷ behind) (ap (λ bs. 0x2D ∷ bs) is) (line_comment lacks refl)
    by_end (nowhere lacks) = with_form (Closed Gap) (0x2D ∷ text) [] (alone (0x2D ∷ text)) (line_comment lacks refl)

block_begins : (text : List ℕ) → Begins 0x2F (0x2A ∷ text)
block_begins text = by_end (up_to_end text)
  where
    by_end : UpTo comment_end text → Begins 0x2F (0x2A ∷ text)
    by_end (there inside behind is lacks) =
        let same = is ∙ sym (append_assoc inside comment_end behind) in
        with_form (Closed Gap) (0x2A ∷ (inside ++ comment_end)) behind (ap (λ bs. 0x2A ∷ bs) same) (block_comment lacks)
    by_end (nowhere lacks) = with_form Open (0x2A ∷ text) [] (alone (0x2A ∷ text)) (open_comment lacks)

mark_begins : {mark : ℕ} {kind : SqlKind} (text : List ℕ) → IsMark mark kind → Begins mark text
mark_begins {mark} {kind} text is = by_end (to_mark mark text)
  where
    by_end : ToMark mark text → Begins mark text
    by_end (closed_at inside behind there_is m single) =
        with_form (Closed (Word kind)) (inside ++ mark ∷ []) behind (there_is ∙ sym (append_assoc inside (mark ∷ []) behind)) (marked is m single)
    by_end (not_closed m) = with_form Open text [] (alone text) (open_mark is m)

bracket_begins : (text : List ℕ) → Begins 0x5B text
bracket_begins text = by_end (up_to_byte 0x5D text)
  where
    by_end : UpTo (0x5D ∷ []) text → Begins 0x5B text
    by_end (there inside behind is lacks) =
        with_form (Closed (Word kinds.Quoted)) (inside ++ 0x5D ∷ []) behind (is ∙ sym (append_assoc inside (0x5D ∷ []) behind)) (bracketed lacks)
    by_end (nowhere lacks) = with_form Open text [] (alone text) (open_bracket lacks)

word_begins : (b : ℕ) (text : List ℕ) → begins_word b ≡ true → Begins b text
word_begins b text h = by_run (runs goes_on_word text)
  where
    by_run : Runs goes_on_word text → Begins b text
    by_run (run_to bytes behind is r) = with_form (Closed (Word kinds.Word)) bytes behind is (bare_word h r)

number_begins : (b : ℕ) (text : List ℕ) → is_ascii_digit b ≡ true → Begins b text
number_begins b text h = by_run (runs is_ascii_digit text)
  where
    by_run : Runs is_ascii_digit text → Begins b text
    by_run (run_to bytes behind is r) = with_form (Closed (Word kinds.Number)) bytes behind is (number h r)

-- two bytes of a kind
pair_begins : (k d b : ℕ) (text : List ℕ) → ((more : List ℕ) → Begins k (d ∷ more))
    → ((b == k) && next_is (λ c. c == d) (first_byte text)) ≡ true → Begins b text
pair_begins k d b text found h = by_first (b == k) refl text h
  where
    by_first : (s : Bool) → (b == k) ≡ s → (bytes : List ℕ) → (s && next_is (λ c. c == d) (first_byte bytes)) ≡ true → Begins b bytes
    by_first true e [] is = cc
    by_first true e (c ∷ bytes) is = said_of (eqb-true b k e) (subst (λ x. Begins k (x ∷ bytes)) (sym (eqb-true c d is)) (found bytes))
    by_first false e bytes is = cc

pub by_test : {X : Type 0} (c : Bool) → (c ≡ true → X) → (c ≡ false → X) → X
by_test true found more = found refl
by_test false found more = more refl

-- the tests of `begun`, one after another: what passes one has its form, and what passes none is a
-- symbol
pub first_piece : (b : ℕ) (text : List ℕ) → Begins b text
unfolding begun
first_piece b text =
    by_test (is_space b) (λ e. with_form (Closed Gap) [] text refl (white_space e)) λ space.
    by_test ((b == 0x2D) && next_is (λ c. c == 0x2D) (first_byte text)) (λ e. pair_begins 0x2D 0x2D b text line_begins e) λ line.
    by_test ((b == 0x2F) && next_is (λ c. c == 0x2A) (first_byte text)) (λ e. pair_begins 0x2F 0x2A b text block_begins e) λ block.
    by_test (b == 0x27) (λ e. said_of (eqb-true b 0x27 e) (mark_begins text apostrophe)) λ single.
    by_test (b == 0x22) (λ e. said_of (eqb-true b 0x22 e) (mark_begins text quotation_mark)) λ double.
    by_test (b == 0x60) (λ e. said_of (eqb-true b 0x60 e) (mark_begins text backquote)) λ back.
    by_test (b == 0x5B) (λ e. said_of (eqb-true b 0x5B e) (bracket_begins text)) λ bracket.
    by_test (begins_word b) (word_begins b text) λ word.
    by_test (is_ascii_digit b) (number_begins b text) λ digit.
    with_symbol (passed _ _ space ∙ passed _ _ line ∙ passed _ _ block ∙ passed _ _ single ∙ passed _ _ double ∙ passed _ _ back
    ∙ passed _ _ bracket ∙ passed _ _ word ∙ passed _ _ digit)
