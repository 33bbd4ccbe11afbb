-- Each form of a piece is read as that piece.
use Rattle.std.proofs.Common.{◌≡◌, ◌≢◌, refl, sym, ap, subst, ◌∙◌, ℕ, arith, Bool, true, false, cond, List, [], ◌∷◌, ◌++◌, Option, Some, codes}
use Rattle.std.specs.Prelude.{◌==◌, if◌then◌else◌}
use Rattle.std.specs.Char.{is_ascii_digit}
use Rattle.std.specs.List.{AllByRecursion, list_any}
use Rattle.std.proofs.lemmas.Bool.{eqb-true, eq-eqb, ne_eqb, false_from_ne_true, or_parts}
use Rattle.std.proofs.lemmas.Bool.Decides.{nat_tests}
use Rattle.std.proofs.lemmas.List.{append_assoc}
use Rattle.std.proofs.lemmas.List.Elements.{recursion_from_All}
use Rattle.shell_text.specs.Words.{Piece, PieceKind, Open, begun, turn, is_space, begins_word, goes_on_word, ends_line, in_marks, in_number, in_word, next_is, first_byte, onto_piece, pieces_from}
use Rattle.shell_text.specs.WordForms.{Lacks, IsMark, apostrophe, quotation_mark, backquote, IsInMarks, nothing, other_byte, doubled_mark, IsForm, white_space, line_comment, block_comment, open_comment, marked, open_mark, bracketed, open_bracket, bare_word, number}
use Rattle.shell_text.specs.Lexed.{onto}
use Rattle.shell_text.specs.declared.words.SqlKind.{SqlKind}
use Rattle.shell_text.specs.declared.words.SqlKind.TheVariants as kinds
use Rattle.shell_text.specs.declared.words.Place.{Place}
use Rattle.shell_text.specs.declared.words.Place.TheVariants.{Between, InWord, InNumber, InText, TextMark, InDouble, DoubleMark, InBackquotes, BackquoteMark, InBrackets, LineComment, CommentMark, BlockComment, Star}
use Rattle.shell_text.specs.declared.words.Ended.{Ended}
use Rattle.shell_text.specs.declared.words.Ended.TheVariants.{Word, Gap}
use Rattle.shell_text.specs.declared.words.Turn.TheVariants.{Goes, Ends}
use Rattle.shell_text.proofs.Lexing.{closed, onto-closed, onto-none, pieces_by, none_left}

pub taken : {A : Type 0} {c : Bool} (x y : A) → c ≡ true → (if c then x else y) ≡ x
taken x y e = ap (λ c. if c then x else y) e

pub passed : {A : Type 0} {c : Bool} (x y : A) → c ≡ false → (if c then x else y) ≡ y
passed x y e = ap (λ c. if c then x else y) e

-- ---- one byte

goes : (at : Place) (b : ℕ) (rest : List ℕ) (to : Place)
    → turn at b (first_byte rest) ≡ Goes to → pieces_from at (b ∷ rest) ≡ onto_piece b (pieces_from to rest)
goes at b rest to e = pieces_by at b rest (Goes to) e

ends : (at : Place) (b : ℕ) (rest : List ℕ) (what : Ended)
    → turn at b (first_byte rest) ≡ Ends what → pieces_from at (b ∷ rest) ≡ closed what (b ∷ []) ∷ pieces_from Between rest
ends at b rest what e = pieces_by at b rest (Ends what) e

pub between : (b : ℕ) (next : Option ℕ) → turn Between b next ≡ begun b next
unfolding turn
between b next = refl

-- a byte that passes where another doesn't is not that one
differs : (p : ℕ → Bool) (b k : ℕ) → p b ≡ true → p k ≡ false → (b == k) ≡ false
differs p b k here there = false_from_ne_true (b == k) (λ e. let clash : true ≡ false = sym here ∙ ap p (eqb-true b k e) ∙ there in cc)

-- ---- what is begun

begun_space : (b : ℕ) (next : Option ℕ) → is_space b ≡ true → begun b next ≡ Ends Gap
unfolding begun
begun_space b next h = taken _ _ h

-- the bytes at which white space, a comment, or what goes up to a mark or a bracket begins
abbrev others : List ℕ
others = 0x09 ∷ 0x0A ∷ 0x0C ∷ 0x0D ∷ 0x20 ∷ 0x2D ∷ 0x2F ∷ 0x27 ∷ 0x22 ∷ 0x60 ∷ 0x5B ∷ []

none_of : (p : ℕ → Bool) (b : ℕ) (ks : List ℕ) → p b ≡ true → list_any p ks ≡ false → AllByRecursion (λ k. (b == k) ≡ false) ks
none_of p b [] h none = tt
none_of p b (k ∷ ks) h none = let parts = or_parts (p k) (list_any p ks) none in (differs p b k h parts.0, none_of p b ks h parts.1)

begun_past : (p : ℕ → Bool) (b : ℕ) (next : Option ℕ) → p b ≡ true → list_any p others ≡ false
    → begun b next ≡ (if begins_word b then in_word next else if is_ascii_digit b then in_number next else Ends (Word kinds.Symbol))
unfolding begun
begun_past p b next h none =
    let n = none_of p b others h none in
    let m = n.1.1.1.1.1 in
    simp (n.0, n.1.0, n.1.1.0, n.1.1.1.0, n.1.1.1.1.0, m.0, m.1.0, m.1.1.0, m.1.1.1.0, m.1.1.1.1.0, m.1.1.1.1.1.0)

begun_word : (b : ℕ) (next : Option ℕ) → begins_word b ≡ true → begun b next ≡ in_word next
begun_word b next h = begun_past begins_word b next h refl ∙ taken _ _ h

no_word : (b : ℕ) → is_ascii_digit b ≡ true → begins_word b ≡ false
no_word b h = grind (arith, nat_tests)

begun_number : (b : ℕ) (next : Option ℕ) → is_ascii_digit b ≡ true → begun b next ≡ in_number next
begun_number b next h = begun_past is_ascii_digit b next h refl ∙ passed _ _ (no_word b h) ∙ taken _ _ h

-- ---- what lacks a part

pub lacks_first : (mark b : ℕ) (bytes : List ℕ) → Lacks (mark ∷ []) (b ∷ bytes) → b ≢ mark
lacks_first mark b bytes lacks e = lacks [] bytes (ap (λ c. c ∷ bytes) e)

pub lacks_tail : (part : List ℕ) (b : ℕ) (bytes : List ℕ) → Lacks part (b ∷ bytes) → Lacks part bytes
lacks_tail part b bytes lacks = λ before behind e. lacks (b ∷ before) behind (ap (λ bs. b ∷ bs) e)

-- ---- comments

line_on : (b : ℕ) (bytes behind : List ℕ) → Lacks (codes "\n") bytes → ends_line (first_byte behind) ≡ true
    → pieces_from LineComment (b ∷ (bytes ++ behind)) ≡ closed Gap (b ∷ bytes) ∷ pieces_from Between behind
unfolding turn
line_on b [] behind lacks stop = ends LineComment b behind Gap (taken _ _ stop)
line_on b (c ∷ bytes) behind lacks stop =
    goes LineComment b (c ∷ (bytes ++ behind)) LineComment (passed _ _ (ne_eqb c 0x0A (lacks_first 0x0A c bytes lacks)))
    ∙ ap (onto_piece b) (line_on c bytes behind (lacks_tail (codes "\n") c bytes lacks) stop)

-- inside a comment, after a star or not
abbrev in_block : Bool → Place
in_block true = Star
in_block false = BlockComment

abbrev comment_end : List ℕ
comment_end = 0x2A ∷ 0x2F ∷ []

abbrev behind_star : Bool → List ℕ → List ℕ
behind_star star bytes = cond star (0x2A ∷ bytes) bytes

to_block : (star : Bool) → (if star then Goes Star else Goes BlockComment) ≡ Goes (in_block star)
to_block true = refl
to_block false = refl

block_turn : (star : Bool) (b : ℕ) (bytes : List ℕ) (next : Option ℕ) → Lacks comment_end (behind_star star (b ∷ bytes))
    → turn (in_block star) b next ≡ Goes (in_block (b == 0x2A))
unfolding turn
block_turn true b bytes next lacks = passed _ _ (ne_eqb b 0x2F (λ e. lacks [] bytes (ap (λ c. 0x2A ∷ c ∷ bytes) e))) ∙ to_block (b == 0x2A)
block_turn false b bytes next lacks = to_block (b == 0x2A)

lacks_on : (star : Bool) (b : ℕ) (bytes : List ℕ) → Lacks comment_end (behind_star star (b ∷ bytes)) → Lacks comment_end (behind_star (b == 0x2A) bytes)
lacks_on star b bytes lacks = by_byte (b == 0x2A) refl (first star lacks)
  where
    first : (s : Bool) → Lacks comment_end (behind_star s (b ∷ bytes)) → Lacks comment_end (b ∷ bytes)
    first true h = lacks_tail comment_end 0x2A (b ∷ bytes) h
    first false h = h

    by_byte : (s : Bool) → (b == 0x2A) ≡ s → Lacks comment_end (b ∷ bytes) → Lacks comment_end (behind_star s bytes)
    by_byte true e h = subst (λ c. Lacks comment_end (c ∷ bytes)) (eqb-true b 0x2A e) h
    by_byte false e h = lacks_tail comment_end b bytes h

block_on : (bytes rest : List ℕ) (star : Bool) → Lacks comment_end (behind_star star bytes)
    → (s : Bool) × (pieces_from (in_block star) (bytes ++ rest) ≡ onto bytes (pieces_from (in_block s) rest))
block_on [] rest star lacks = (star, refl)
block_on (b ∷ bytes) rest star lacks =
    let more = block_on bytes rest (b == 0x2A) (lacks_on star b bytes lacks) in
    let here = block_turn star b bytes (first_byte (bytes ++ rest)) lacks in
    (more.0, goes (in_block star) b (bytes ++ rest) (in_block (b == 0x2A)) here ∙ ap (onto_piece b) more.1)

star_turn : (s : Bool) (next : Option ℕ) → turn (in_block s) 0x2A next ≡ Goes Star
unfolding turn
star_turn true next = refl
star_turn false next = refl

slash_turn : (next : Option ℕ) → turn Star 0x2F next ≡ Ends Gap
unfolding turn
slash_turn next = refl

block_ends : (s : Bool) (behind : List ℕ) → pieces_from (in_block s) (0x2A ∷ 0x2F ∷ behind) ≡ closed Gap comment_end ∷ pieces_from Between behind
block_ends s behind =
    goes (in_block s) 0x2A (0x2F ∷ behind) Star (star_turn s (Some 0x2F))
    ∙ ap (onto_piece 0x2A) (ends Star 0x2F behind Gap (slash_turn (first_byte behind)))

-- the two bytes that begin it
block_begins : (rest : List ℕ) → pieces_from Between (0x2F ∷ 0x2A ∷ rest) ≡ onto_piece 0x2F (onto_piece 0x2A (pieces_from BlockComment rest))
unfolding turn begun
block_begins rest = goes Between 0x2F (0x2A ∷ rest) CommentMark refl ∙ ap (onto_piece 0x2F) (goes CommentMark 0x2A rest BlockComment refl)

onto-closed_end : (front : List ℕ) (what : Ended) (last : List ℕ) (ps : List Piece) → onto front (closed what last ∷ ps) ≡ closed what (front ++ last) ∷ ps
onto-closed_end [] what last ps = refl
onto-closed_end (c ∷ front) what last ps = ap (onto_piece c) (onto-closed_end front what last ps)

-- ---- marks

-- the places inside two marks
record MarkPlaces (mark : ℕ) (kind : SqlKind) : Type 0 where
  inside : Place
  doubled : Place
  begins : (next : Option ℕ) → turn Between mark next ≡ Goes inside
  inside_turn : (b : ℕ) (next : Option ℕ) → turn inside b next ≡ in_marks inside doubled kind mark b next
  doubled_turn : (b : ℕ) (next : Option ℕ) → turn doubled b next ≡ Goes inside

places : {mark : ℕ} {kind : SqlKind} → IsMark mark kind → MarkPlaces mark kind
unfolding turn begun
places apostrophe = record { inside = InText; doubled = TextMark; begins = λ next. refl; inside_turn = λ b next. refl; doubled_turn = λ b next. refl }
places quotation_mark = record { inside = InDouble; doubled = DoubleMark; begins = λ next. refl; inside_turn = λ b next. refl; doubled_turn = λ b next. refl }
places backquote = record { inside = InBackquotes; doubled = BackquoteMark; begins = λ next. refl; inside_turn = λ b next. refl; doubled_turn = λ b next. refl }

marked_on : {mark : ℕ} {kind : SqlKind} {bytes : List ℕ} (p : MarkPlaces mark kind) → IsInMarks mark bytes → (rest : List ℕ)
    → pieces_from p.inside (bytes ++ rest) ≡ onto bytes (pieces_from p.inside rest)
marked_on p nothing rest = refl
marked_on {mark} {kind} p (other_byte {b} {bytes} other m) rest =
    goes p.inside b (bytes ++ rest) p.inside (p.inside_turn b (first_byte (bytes ++ rest)) ∙ passed _ _ (ne_eqb b mark other))
    ∙ ap (onto_piece b) (marked_on p m rest)
marked_on {mark} {kind} p (doubled_mark {bytes} m) rest =
    let same : (mark == mark) ≡ true = eq-eqb mark mark refl in
    let second = goes p.doubled mark (bytes ++ rest) p.inside (p.doubled_turn mark (first_byte (bytes ++ rest))) in
    goes p.inside mark (mark ∷ (bytes ++ rest)) p.doubled (p.inside_turn mark (Some mark) ∙ taken _ _ same ∙ taken _ _ same)
    ∙ ap (onto_piece mark) (second ∙ ap (onto_piece mark) (marked_on p m rest))

mark_ends : {mark : ℕ} {kind : SqlKind} (p : MarkPlaces mark kind) (behind : List ℕ) → next_is (λ b. b == mark) (first_byte behind) ≡ false
    → pieces_from p.inside (mark ∷ behind) ≡ closed (Word kind) (mark ∷ []) ∷ pieces_from Between behind
mark_ends {mark} {kind} p behind alone =
    ends p.inside mark behind (Word kind) (p.inside_turn mark (first_byte behind) ∙ taken _ _ (eq-eqb mark mark refl) ∙ passed _ _ alone)

-- ---- brackets

bracket_on : (bytes rest : List ℕ) → Lacks (0x5D ∷ []) bytes → pieces_from InBrackets (bytes ++ rest) ≡ onto bytes (pieces_from InBrackets rest)
unfolding turn
bracket_on [] rest lacks = refl
bracket_on (b ∷ bytes) rest lacks =
    goes InBrackets b (bytes ++ rest) InBrackets (passed _ _ (ne_eqb b 0x5D (lacks_first 0x5D b bytes lacks)))
    ∙ ap (onto_piece b) (bracket_on bytes rest (lacks_tail (0x5D ∷ []) b bytes lacks))

bracket_ends : (behind : List ℕ) → pieces_from InBrackets (0x5D ∷ behind) ≡ closed (Word kinds.Quoted) (0x5D ∷ []) ∷ pieces_from Between behind
unfolding turn
bracket_ends behind = ends InBrackets 0x5D behind (Word kinds.Quoted) refl

bracket_begins : (rest : List ℕ) → pieces_from Between (0x5B ∷ rest) ≡ onto_piece 0x5B (pieces_from InBrackets rest)
unfolding turn begun
bracket_begins rest = goes Between 0x5B rest InBrackets refl

-- ---- runs

run_on : (p : ℕ → Bool) (at : Place) (kind : SqlKind) → ((b : ℕ) (next : Option ℕ) → turn at b next ≡ (if next_is p next then Goes at else Ends (Word kind)))
    → (b : ℕ) (bytes behind : List ℕ) → AllByRecursion (λ c. p c ≡ true) bytes → next_is p (first_byte behind) ≡ false
    → pieces_from at (b ∷ (bytes ++ behind)) ≡ closed (Word kind) (b ∷ bytes) ∷ pieces_from Between behind
run_on p at kind by b [] behind run stop = ends at b behind (Word kind) (by b (first_byte behind) ∙ passed _ _ stop)
run_on p at kind by b (c ∷ bytes) behind run stop =
    goes at b (c ∷ (bytes ++ behind)) at (by b (Some c) ∙ taken _ _ run.0) ∙ ap (onto_piece b) (run_on p at kind by c bytes behind run.1 stop)

-- a byte does the same at two places
same_pieces : (at to : Place) (b : ℕ) (rest : List ℕ)
    → turn at b (first_byte rest) ≡ turn to b (first_byte rest) → pieces_from at (b ∷ rest) ≡ pieces_from to (b ∷ rest)
same_pieces at to b rest e = pieces_by at b rest (turn to b (first_byte rest)) e ∙ sym (pieces_by to b rest (turn to b (first_byte rest)) refl)

in_word_turn : (b : ℕ) (next : Option ℕ) → turn InWord b next ≡ (if next_is goes_on_word next then Goes InWord else Ends (Word kinds.Word))
unfolding turn
in_word_turn b next = refl

in_number_turn : (b : ℕ) (next : Option ℕ) → turn InNumber b next ≡ (if next_is is_ascii_digit next then Goes InNumber else Ends (Word kinds.Number))
unfolding turn
in_number_turn b next = refl

-- ---- each form

abbrev pub IsRead : PieceKind → List ℕ → List ℕ → Type 0
IsRead kind bytes behind = pieces_from Between (bytes ++ behind) ≡ record { kind = kind; text = bytes } ∷ pieces_from Between behind

-- bytes that are open at the text's end
open_end : (b : ℕ) (bytes : List ℕ) (at : Place) → onto (b ∷ bytes) (pieces_from at []) ≡ record { kind = Open; text = b ∷ bytes } ∷ pieces_from Between []
open_end b bytes at =
    ap (onto (b ∷ bytes)) (none_left at) ∙ onto-none b bytes
    ∙ ap (λ ps. record { kind = Open; text = b ∷ bytes } ∷ ps) (sym (none_left Between))

line_begins : (rest : List ℕ) → pieces_from Between (0x2D ∷ 0x2D ∷ rest) ≡ onto_piece 0x2D (pieces_from LineComment (0x2D ∷ rest))
unfolding turn begun
line_begins rest = goes Between 0x2D (0x2D ∷ rest) LineComment refl

pub form_read : {kind : PieceKind} {bytes behind : List ℕ} → IsForm kind bytes behind → IsRead kind bytes behind
form_read (white_space {b} {behind} h) = ends Between b behind Gap (between b (first_byte behind) ∙ begun_space b (first_byte behind) h)
form_read (line_comment {inside} {behind} lacks stop) = line_begins (inside ++ behind) ∙ ap (onto_piece 0x2D) (line_on 0x2D inside behind lacks stop)
form_read (block_comment {inside} {behind} lacks) =
    let more = block_on inside (0x2A ∷ 0x2F ∷ behind) false lacks in
    block_begins ((inside ++ comment_end) ++ behind)
    ∙ ap (λ bs. onto_piece 0x2F (onto_piece 0x2A (pieces_from BlockComment bs))) (append_assoc inside comment_end behind)
    ∙ ap (λ ps. onto_piece 0x2F (onto_piece 0x2A ps))
    (more.1 ∙ ap (onto inside) (block_ends more.0 behind) ∙ onto-closed_end inside Gap comment_end (pieces_from Between behind))
form_read (open_comment {inside} lacks) =
    let more = block_on inside [] false lacks in
    block_begins (inside ++ []) ∙ ap (λ ps. onto_piece 0x2F (onto_piece 0x2A ps)) more.1 ∙ open_end 0x2F (0x2A ∷ inside) (in_block more.0)
form_read (marked {mark} {kind} {inside} {behind} is m alone) =
    let p = places is in
    goes Between mark ((inside ++ mark ∷ []) ++ behind) p.inside (p.begins (first_byte ((inside ++ mark ∷ []) ++ behind)))
    ∙ ap (onto_piece mark)
    (ap (pieces_from p.inside) (append_assoc inside (mark ∷ []) behind) ∙ marked_on p m (mark ∷ behind) ∙ ap (onto inside) (mark_ends p behind alone)
    ∙ onto-closed inside mark (Word kind) (pieces_from Between behind))
form_read (open_mark {mark} {kind} {inside} is m) =
    let p = places is in
    goes Between mark (inside ++ []) p.inside (p.begins (first_byte (inside ++ []))) ∙ ap (onto_piece mark) (marked_on p m []) ∙ open_end mark inside p.inside
form_read (bracketed {inside} {behind} lacks) =
    bracket_begins ((inside ++ 0x5D ∷ []) ++ behind)
    ∙ ap (onto_piece 0x5B)
    (ap (pieces_from InBrackets) (append_assoc inside (0x5D ∷ []) behind) ∙ bracket_on inside (0x5D ∷ behind) lacks ∙ ap (onto inside) (bracket_ends behind)
    ∙ onto-closed inside 0x5D (Word kinds.Quoted) (pieces_from Between behind))
form_read (open_bracket {inside} lacks) = bracket_begins (inside ++ []) ∙ ap (onto_piece 0x5B) (bracket_on inside [] lacks) ∙ open_end 0x5B inside InBrackets
form_read (bare_word {b} {more} {behind} first run) =
    let next = first_byte (more ++ behind) in
    same_pieces Between InWord b (more ++ behind) (between b next ∙ begun_word b next first ∙ sym (in_word_turn b next))
    ∙ run_on goes_on_word InWord kinds.Word in_word_turn b more behind (recursion_from_All (λ c. goes_on_word c ≡ true) more run.run) run.ends
form_read (number {b} {more} {behind} first run) =
    let next = first_byte (more ++ behind) in
    same_pieces Between InNumber b (more ++ behind) (between b next ∙ begun_number b next first ∙ sym (in_number_turn b next))
    ∙ run_on is_ascii_digit InNumber kinds.Number in_number_turn b more behind (recursion_from_All (λ c. is_ascii_digit c ≡ true) more run.run) run.ends
