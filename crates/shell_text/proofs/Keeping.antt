-- What a splitter keeps, byte by byte and at the end of a line.
use Rattle.std.proofs.Common.{◌≡◌, ◌≢◌, refl, sym, ap, subst, ◌∙◌, ℕ, ◌+◌, ◌≤◌, arith, Bool, true, false, List, [], ◌∷◌, ◌++◌, length, drop, Option, Some, None, length-append, zero-add, ◌⊎◌, inl, inr}
use Rattle.std.specs.Prelude.{if◌then◌else◌, unwrap_or, is_none, is_some, ◌&&◌, IsCharBoundary}
use Rattle.std.specs.List.{list_any, list_all, prefix_len}
use Rattle.std.specs.Str.{IsUtf8}
use Rattle.std.proofs.lemmas.List.{append_assoc, append-nil, take-append-drop}
use Rattle.shell_text.specs.Words.{Piece, PieceKind, Closed, Open, turn, first_byte, is_gap, is_open, is_word, pieces_from, pieces_of, text_of}
use Rattle.shell_text.specs.Units.{Sql, Fault, ended_unit, ended_units, ends_statement, from_first_word, gaps_before, last_member, line_behind, unit_line, numbered, at_semicolons, tail_of, unit_of}
use Rattle.shell_text.specs.Lexed.{IsFront, KeepsPending, HasRead, first_word, handed, is_between, is_semicolon, last_of, onto}
use Rattle.shell_text.specs.declared.units.SplitFault.TheVariants as fault
use Rattle.shell_text.specs.declared.words.SqlKind.{SqlKind}
use Rattle.shell_text.specs.declared.words.SqlKind.TheVariants as kinds
use Rattle.shell_text.specs.declared.words.Place.{Place}
use Rattle.shell_text.specs.declared.words.Place.TheVariants.{Between, InWord, InNumber, InText, TextMark, InDouble, DoubleMark, InBackquotes, BackquoteMark, InBrackets, LineComment, CommentMark, BlockComment, Star}
use Rattle.shell_text.specs.declared.words.Ended.{Ended}
use Rattle.shell_text.specs.declared.words.Ended.TheVariants.{Word, Gap}
use Rattle.shell_text.specs.declared.words.Turn.TheVariants.{Goes, Ends}
use Rattle.shell_text.specs.declared.units.Spot.{Spot}
use Rattle.shell_text.specs.declared.units.Pending.{Pending}
use Rattle.shell_text.proofs.Restart.{no_symbol, text_of-pieces}
use Rattle.shell_text.proofs.Boundaries.{cut_at}
use Rattle.shell_text.proofs.Lexing.{any-more, any-or, closed, onto-closed, pieces_by, reads_ends, reads_goes, reads_on, text_of-append, text_of-more}
use Rattle.shell_text.proofs.WordLoop.{any_last, between_pieces, inside_piece, read_length}
use Rattle.shell_text.proofs.Scanning.{ended_by, ended_first, first_part, first_word-append, from_first, is_first, line_behind-append, one_part, or_else, tail_first}

-- ---- one byte

abbrev pub byte_line : Pending → ℕ → ℕ
byte_line p b = line_behind p.line (b ∷ [])

line_on : {before rest : List ℕ} {p : Pending} (b : ℕ) → KeepsPending before rest p → byte_line p b ≡ line_behind p.first (before ++ b ∷ [])
line_on {before} {rest} {p} b k = ap (λ n. line_behind n (b ∷ [])) k.line ∙ line_behind-append p.first before (b ∷ [])

-- a byte leads on
pub keeps_goes : {before rest : List ℕ} {b : ℕ} {p : Pending} (to : Place) → KeepsPending before (b ∷ rest) p → turn p.place b (first_byte rest) ≡ Goes to
    → KeepsPending (before ++ b ∷ []) rest (record p { line = byte_line p b; place = to })
keeps_goes {before} {rest} {b} {p} to k e = record {
  front = k.front ++ b ∷ [];
  done = k.done;
  reads = reads_goes to k.reads e;
  ends = k.ends;
  piece_at = k.piece_at;
  piece_line = k.piece_line;
  word = k.word;
  line = line_on b k;
}

-- the pending text after the end of a piece
abbrev pub behind_piece : Pending → ℕ → ℕ → Option Spot → Pending
behind_piece p b at word = record { first = p.first; line = byte_line p b; place = Between; piece = record { at = at; line = byte_line p b }; word = word }

whole_piece : {before rest front : List ℕ} {b : ℕ} {place : Place} {done : List Piece} (what : Ended) → HasRead before (b ∷ rest) place front done
    → text_of (done ++ closed what (front ++ b ∷ []) ∷ []) ≡ before ++ b ∷ []
whole_piece {before} {rest} {front} {b} {place} {done} what r =
    text_of-more done (closed what (front ++ b ∷ [])) ∙ sym (append_assoc (text_of done) front (b ∷ [])) ∙ ap (λ t. t ++ b ∷ []) (sym r.text)

keeps_ends : {before rest : List ℕ} {b : ℕ} {p : Pending} (what : Ended) (at : ℕ) (word : Option Spot) (k : KeepsPending before (b ∷ rest) p) → turn p.place b (first_byte rest) ≡ Ends what
    → at ≡ length before + 1 → ends_statement (closed what (k.front ++ b ∷ [])) ≡ false → word ≡ first_word 0 p.first (k.done ++ closed what (k.front ++ b ∷ []) ∷ [])
    → KeepsPending (before ++ b ∷ []) rest (behind_piece p b at word)
keeps_ends {before} {rest} {b} {p} what at word k e here plain found =
    let q = closed what (k.front ++ b ∷ []) in
    let all = whole_piece what k.reads in
    record {
      front = [];
      done = k.done ++ q ∷ [];
      reads = reads_ends what k.reads e;
      ends = any-more ends_statement k.done q plain k.ends;
      piece_at = here ∙ sym (length-append before (b ∷ [])) ∙ sym (ap length all);
      piece_line = line_on b k ∙ ap (line_behind p.first) (sym all);
      word = found;
      line = line_on b k;
    }

-- a gap ends
pub keeps_gap : {before rest : List ℕ} {b : ℕ} {p : Pending} (at : ℕ) → KeepsPending before (b ∷ rest) p → turn p.place b (first_byte rest) ≡ Ends Gap → at ≡ length before + 1
    → KeepsPending (before ++ b ∷ []) rest (behind_piece p b at p.word)
keeps_gap {before} {rest} {b} {p} at k e here =
    keeps_ends Gap at p.word k e here refl
    (k.word ∙ sym (first_word-append k.done (closed Gap (k.front ++ b ∷ []) ∷ []) 0 p.first ∙ or_none (first_word 0 p.first k.done)))
  where
    or_none : (o : Option Spot) → or_else o None ≡ o
    or_none None = refl
    or_none (Some w) = refl

some_or : (o : Option Spot) (w : Spot) → or_else o (Some w) ≡ Some (unwrap_or o w)
some_or None w = refl
some_or (Some v) w = refl

abbrev spot : ℕ → ℕ → Option Spot
spot at line = Some (record { at = at; line = line })

same_spot : (at line : ℕ) (n : ℕ) (text : List ℕ) → line ≡ line_behind n text → spot (0 + at) (numbered (line_behind n text)) ≡ spot at line
same_spot at line n text e = ap (λ a. spot a (numbered (line_behind n text))) (zero-add at) ∙ ap (spot at) (twice n text ∙ sym e)
  where
    twice : (n : ℕ) (text : List ℕ) → numbered (line_behind n text) ≡ line_behind n text
    twice n text = omega arith

-- where the first word begins, where the piece at hand is no gap
pub word_with : {before rest : List ℕ} {p : Pending} (k : KeepsPending before rest p) (q : Piece) → is_gap q ≡ false → Some (unwrap_or p.word p.piece) ≡ first_word 0 p.first (k.done ++ q ∷ [])
word_with {before} {rest} {p} k q plain =
    sym (some_or p.word p.piece) ∙ ap (λ o. or_else o (Some p.piece)) k.word
    ∙ ap (λ a. or_else (first_word 0 p.first k.done) (spot a p.piece.line)) k.piece_at
    ∙ ap (or_else (first_word 0 p.first k.done)) (sym (same_spot (length (text_of k.done)) p.piece.line p.first (text_of k.done) k.piece_line))
    ∙ ap (λ gap. or_else (first_word 0 p.first k.done) (if gap then None else spot (0 + length (text_of k.done)) (numbered (line_behind p.first (text_of k.done))))) (sym plain)
    ∙ sym (first_word-append k.done (q ∷ []) 0 p.first)

-- inside a piece no symbol ends
symbol_place : (place : Place) (b : ℕ) (next : Option ℕ) → turn place b next ≡ Ends (Word kinds.Symbol) → place ≡ Between
symbol_place Between b next e = refl
symbol_place InWord b next e = absurd (no_symbol InWord b next (Word kinds.Symbol) tt e refl)
symbol_place InNumber b next e = absurd (no_symbol InNumber b next (Word kinds.Symbol) tt e refl)
symbol_place InText b next e = absurd (no_symbol InText b next (Word kinds.Symbol) tt e refl)
symbol_place TextMark b next e = absurd (no_symbol TextMark b next (Word kinds.Symbol) tt e refl)
symbol_place InDouble b next e = absurd (no_symbol InDouble b next (Word kinds.Symbol) tt e refl)
symbol_place DoubleMark b next e = absurd (no_symbol DoubleMark b next (Word kinds.Symbol) tt e refl)
symbol_place InBackquotes b next e = absurd (no_symbol InBackquotes b next (Word kinds.Symbol) tt e refl)
symbol_place BackquoteMark b next e = absurd (no_symbol BackquoteMark b next (Word kinds.Symbol) tt e refl)
symbol_place InBrackets b next e = absurd (no_symbol InBrackets b next (Word kinds.Symbol) tt e refl)
symbol_place LineComment b next e = absurd (no_symbol LineComment b next (Word kinds.Symbol) tt e refl)
symbol_place CommentMark b next e = absurd (no_symbol CommentMark b next (Word kinds.Symbol) tt e refl)
symbol_place BlockComment b next e = absurd (no_symbol BlockComment b next (Word kinds.Symbol) tt e refl)
symbol_place Star b next e = absurd (no_symbol Star b next (Word kinds.Symbol) tt e refl)

symbol_front : {before rest front : List ℕ} {b : ℕ} {place : Place} {done : List Piece} → HasRead before (b ∷ rest) place front done → turn place b (first_byte rest) ≡ Ends (Word kinds.Symbol) → front ≡ []
symbol_front {before} {rest} {front} {b} {place} r e = subst (λ at. IsFront at front) (symbol_place place b (first_byte rest) e) r.begins

semicolon_piece : {before rest front : List ℕ} {b : ℕ} {place : Place} {done : List Piece} (kind : SqlKind) → HasRead before (b ∷ rest) place front done → turn place b (first_byte rest) ≡ Ends (Word kind)
    → ends_statement (closed (Word kind) (front ++ b ∷ [])) ≡ is_semicolon kind b
semicolon_piece kinds.Word r e = refl
semicolon_piece kinds.Quoted r e = refl
semicolon_piece kinds.Text r e = refl
semicolon_piece kinds.Number r e = refl
semicolon_piece {b = b} kinds.Symbol r e = ap (λ f. ends_statement (closed (Word kinds.Symbol) (f ++ b ∷ []))) (symbol_front r e)

-- a word ends, and no statement
pub keeps_word : {before rest : List ℕ} {b : ℕ} {p : Pending} (kind : SqlKind) (at : ℕ) → KeepsPending before (b ∷ rest) p → turn p.place b (first_byte rest) ≡ Ends (Word kind) → at ≡ length before + 1
    → is_semicolon kind b ≡ false → KeepsPending (before ++ b ∷ []) rest (behind_piece p b at (Some (unwrap_or p.word p.piece)))
keeps_word {before} {rest} {b} {p} kind at k e here other =
    keeps_ends (Word kind) at (Some (unwrap_or p.word p.piece)) k e here (semicolon_piece kind k.reads e ∙ other) (word_with k (closed (Word kind) (k.front ++ b ∷ [])) refl)

-- a statement ends
pub record EndsStatement (before rest : List ℕ) (b : ℕ) (p : Pending) : Type 0 where
  pub units : ended_units p.first (at_semicolons (pieces_of (before ++ b ∷ rest))) ≡ handed p.word (before ++ b ∷ []) ++ ended_units (byte_line p b) (at_semicolons (pieces_of rest))
  pub tail : tail_of p.first (at_semicolons (pieces_of (before ++ b ∷ rest))) ≡ tail_of (byte_line p b) (at_semicolons (pieces_of rest))

pub keeps_semicolon : {before rest : List ℕ} {b : ℕ} {p : Pending} (kind : SqlKind) → KeepsPending before (b ∷ rest) p → turn p.place b (first_byte rest) ≡ Ends (Word kind) → is_semicolon kind b ≡ true
    → EndsStatement before rest b p
keeps_semicolon {before} {rest} {b} {p} kind k e ends =
    let q = closed (Word kind) (k.front ++ b ∷ []) in
    let part = k.done ++ q ∷ [] in
    let is : ends_statement q ≡ true = semicolon_piece kind k.reads e ∙ ends in
    let all : text_of part ≡ before ++ b ∷ [] = whole_piece (Word kind) k.reads in
    let pieces : pieces_of (before ++ b ∷ rest) ≡ k.done ++ q ∷ pieces_of rest =
    ap (λ r. pieces_of (before ++ r)) (sym (append-nil (b ∷ rest))) ∙ k.reads.pieces [] refl ∙ ap (λ r. k.done ++ onto k.front (pieces_from p.place r)) (append-nil (b ∷ rest))
    ∙ ap (λ ps. k.done ++ onto k.front ps) (pieces_by p.place b rest (Ends (Word kind)) e) ∙ ap (λ ps. k.done ++ ps) (onto-closed k.front b (Word kind) (pieces_of rest)) in
    let parts : at_semicolons (pieces_of (before ++ b ∷ rest)) ≡ part ∷ at_semicolons (pieces_of rest) = ap at_semicolons pieces ∙ first_part k.done q (pieces_of rest) k.ends is in
    let line : line_behind p.first (text_of part) ≡ byte_line p b = ap (line_behind p.first) all ∙ sym (line_on b k) in
    record {
      units = ap (ended_units p.first) parts ∙ ended_first p.first part (pieces_of rest)
          ∙ ap (λ n. ended_unit p.first part ++ ended_units n (at_semicolons (pieces_of rest))) line
          ∙ ap (λ us. us ++ ended_units (byte_line p b) (at_semicolons (pieces_of rest))) (ended_by p.first k.done q p.word k.reads.whole is (sym k.word) ∙ ap (handed p.word) all);
      tail = ap (tail_of p.first) parts ∙ tail_first p.first part (pieces_of rest) ∙ ap (λ n. tail_of n (at_semicolons (pieces_of rest))) line;
    }

-- ---- at the end of a line

-- what is known of the pieces of a pending text
pub record AtEnd (text : List ℕ) (p : Pending) : Type 0 where
  pub one : at_semicolons (pieces_of text) ≡ pieces_of text ∷ []
  pub idle : list_all is_gap (pieces_of text) ≡ is_between p.place && is_none p.word
  pub last : last_member (p.first, pieces_of text) ≡ last_of p text

all_more : (ps : List Piece) (q : Piece) → is_gap q ≡ false → list_all is_gap (ps ++ q ∷ []) ≡ false
all_more [] q h = ap (λ g. g && true) h
all_more (p ∷ ps) q h = ap (λ g. is_gap p && g) (all_more ps q h) ∙ and_false (is_gap p)
  where
    and_false : (b : Bool) → b && false ≡ false
    and_false true = refl
    and_false false = refl

-- closed pieces are gaps where no word is among them
gaps_if : (kind : PieceKind) (text : List ℕ) (done : List Piece) (at n : ℕ) → is_open (record { kind = kind; text = text }) ≡ false
    → list_all is_gap done ≡ is_none (first_word (at + length text) (line_behind n text) done)
    → list_all is_gap (record { kind = kind; text = text } ∷ done) ≡ is_none (first_word at n (record { kind = kind; text = text } ∷ done))
gaps_if (Closed (Word kind)) text done at n o e = refl
gaps_if (Closed Gap) text done at n o e = e
gaps_if Open text done at n o e = cc

all_gaps : (done : List Piece) (at n : ℕ) → list_any is_open done ≡ false → list_all is_gap done ≡ is_none (first_word at n done)
all_gaps [] at n h = refl
all_gaps (q ∷ done) at n h =
    let k = any-or (is_open q) (list_any is_open done) h in
    gaps_if q.kind q.text done at n k.0 (all_gaps done (at + length q.text) (line_behind n q.text) k.1)

words_if : (kind : PieceKind) (text : List ℕ) (done : List Piece) (at n : ℕ) → is_open (record { kind = kind; text = text }) ≡ false
    → list_any is_word done ≡ is_some (first_word (at + length text) (line_behind n text) done)
    → list_any is_word (record { kind = kind; text = text } ∷ done) ≡ is_some (first_word at n (record { kind = kind; text = text } ∷ done))
words_if (Closed (Word kind)) text done at n o e = refl
words_if (Closed Gap) text done at n o e = e
words_if Open text done at n o e = cc

any_words : (done : List Piece) (at n : ℕ) → list_any is_open done ≡ false → list_any is_word done ≡ is_some (first_word at n done)
any_words [] at n h = refl
any_words (q ∷ done) at n h =
    let k = any-or (is_open q) (list_any is_open done) h in
    words_if q.kind q.text done at n k.0 (any_words done (at + length q.text) (line_behind n q.text) k.1)

-- the last statement, where all pieces are closed
closed_last : (n : ℕ) (done : List Piece) (word : Option Spot) → list_any is_open done ≡ false → first_word 0 n done ≡ word → last_member (n, done) ≡ handed word (text_of done)
closed_last n done None o f =
    ap (λ b. if b then Fault (unit_line n done) (fault.Incomplete (unit_line n done)) ∷ [] else (if list_any is_word done then unit_of n done ∷ [] else [])) o
    ∙ ap (λ b. if b then unit_of n done ∷ [] else []) (any_words done 0 n o ∙ ap is_some f)
closed_last n done (Some w) o f =
    let is = is_first done 0 n w f in
    ap (λ b. if b then Fault (unit_line n done) (fault.Incomplete (unit_line n done)) ∷ [] else (if list_any is_word done then unit_of n done ∷ [] else [])) o
    ∙ ap (λ b. if b then unit_of n done ∷ [] else []) (any_words done 0 n o ∙ ap is_some f)
    ∙ ap (λ l. Sql l (text_of (from_first_word done)) ∷ []) (sym is.line)
    ∙ ap (λ t. Sql w.line t ∷ []) (from_first done ∙ ap (λ k. drop k (text_of done)) (sym (is.place ∙ zero-add (length (text_of (gaps_before done))))))

abbrev open_piece : List ℕ → Piece
open_piece text = record { kind = Open; text = text }

open_last : {text rest : List ℕ} {p : Pending} (k : KeepsPending text rest p) → last_member (p.first, k.done ++ open_piece k.front ∷ []) ≡ (let line = (unwrap_or p.word p.piece).line in Fault line (fault.Incomplete line) ∷ [])
open_last {text} {rest} {p} k =
    let ps = k.done ++ open_piece k.front ∷ [] in
    let w = unwrap_or p.word p.piece in
    let is = is_first ps 0 p.first w (sym (word_with k (open_piece k.front) refl)) in
    ap (λ b. if b then Fault (unit_line p.first ps) (fault.Incomplete (unit_line p.first ps)) ∷ [] else (if list_any is_word ps then unit_of p.first ps ∷ [] else [])) (any_last k.done (open_piece k.front) refl)
    ∙ ap (λ l. Fault l (fault.Incomplete l) ∷ []) (sym is.line)

at_end_between : {text : List ℕ} {p : Pending} → KeepsPending text [] p → p.place ≡ Between → AtEnd text p
at_end_between {text} {p} k e =
    let pieces : pieces_of text ≡ k.done = between_pieces (subst (λ at. HasRead text [] at k.front k.done) e k.reads) in
    let whole : text_of k.done ≡ text = ap text_of (sym pieces) ∙ text_of-pieces text Between in
    record {
      one = ap at_semicolons pieces ∙ one_part k.done k.ends ∙ ap (λ ps. ps ∷ []) (sym pieces);
      idle = ap (list_all is_gap) pieces ∙ all_gaps k.done 0 p.first k.reads.whole ∙ ap is_none (sym k.word) ∙ sym (ap (λ at. is_between at && is_none p.word) e);
      last = ap (λ ps. last_member (p.first, ps)) pieces ∙ closed_last p.first k.done p.word k.reads.whole (sym k.word) ∙ ap (handed p.word) whole
          ∙ sym (ap (λ at. last_of (record p { place = at }) text) e);
    }

not_between : (place : Place) → place ≢ Between → is_between place ≡ false
not_between Between h = absurd (h refl)
not_between InWord h = refl
not_between InNumber h = refl
not_between InText h = refl
not_between TextMark h = refl
not_between InDouble h = refl
not_between DoubleMark h = refl
not_between InBackquotes h = refl
not_between BackquoteMark h = refl
not_between InBrackets h = refl
not_between LineComment h = refl
not_between CommentMark h = refl
not_between BlockComment h = refl
not_between Star h = refl

at_end_inside : {text : List ℕ} {p : Pending} → KeepsPending text [] p → p.place ≢ Between → AtEnd text p
at_end_inside {text} {p} k h =
    let pieces : pieces_of text ≡ k.done ++ open_piece k.front ∷ [] = inside_piece h k.reads in
    let outside = not_between p.place h in
    record {
      one = ap at_semicolons pieces ∙ one_part (k.done ++ open_piece k.front ∷ []) (any-more ends_statement k.done (open_piece k.front) refl k.ends) ∙ ap (λ ps. ps ∷ []) (sym pieces);
      idle = ap (list_all is_gap) pieces ∙ all_more k.done (open_piece k.front) refl ∙ sym (ap (λ b. b && is_none p.word) outside);
      last = ap (λ ps. last_member (p.first, ps)) pieces ∙ open_last k
          ∙ sym (ap (λ b. if b then handed p.word text else (let line = (unwrap_or p.word p.piece).line in Fault line (fault.Incomplete line) ∷ [])) outside);
    }

is_place : (place : Place) → (place ≡ Between) ⊎ (place ≢ Between)
is_place Between = inl refl
is_place InWord = inr (λ e. cc)
is_place InNumber = inr (λ e. cc)
is_place InText = inr (λ e. cc)
is_place TextMark = inr (λ e. cc)
is_place InDouble = inr (λ e. cc)
is_place DoubleMark = inr (λ e. cc)
is_place InBackquotes = inr (λ e. cc)
is_place BackquoteMark = inr (λ e. cc)
is_place InBrackets = inr (λ e. cc)
is_place LineComment = inr (λ e. cc)
is_place CommentMark = inr (λ e. cc)
is_place BlockComment = inr (λ e. cc)
is_place Star = inr (λ e. cc)

pub at_end : {text : List ℕ} {p : Pending} → KeepsPending text [] p → AtEnd text p
at_end {text} {p} k = elim (is_place p.place) [ inl e ↦ at_end_between k e | inr h ↦ at_end_inside k h ]

-- the next line follows
pub keeps_on : {before : List ℕ} {p : Pending} (line : List ℕ) → KeepsPending before [] p → KeepsPending before (0x0A ∷ line) p
keeps_on line k = record { front = k.front; done = k.done; reads = reads_on line k.reads; ends = k.ends; piece_at = k.piece_at; piece_line = k.piece_line; word = k.word; line = k.line }

-- ---- where the first word may be cut off

split_gaps : (done : List Piece) → gaps_before done ++ from_first_word done ≡ done
split_gaps done = take-append-drop (prefix_len is_gap done) done

pub word_within : {before rest : List ℕ} {p : Pending} (w : Spot) → KeepsPending before rest p → p.word ≡ Some w → w.at ≤ length before
word_within {before} {rest} {p} w k e =
    let is = is_first k.done 0 p.first w (sym k.word ∙ e) in
    let parts : text_of k.done ≡ text_of (gaps_before k.done) ++ text_of (from_first_word k.done) = ap text_of (sym (split_gaps k.done)) ∙ text_of-append (gaps_before k.done) (from_first_word k.done) in
    let place = is.place in
    omega (arith, read_length k.reads, ap length parts, length-append (text_of (gaps_before k.done)) (text_of (from_first_word k.done)))

pub word_boundary : {before rest : List ℕ} {p : Pending} (w : Spot) → KeepsPending before rest p → p.word ≡ Some w → IsUtf8 (before ++ rest) → IsCharBoundary (before ++ rest) w.at
word_boundary {before} {rest} {p} w k e utf8 =
    let is = is_first k.done 0 p.first w (sym k.word ∙ e) in
    let later = onto k.front (pieces_from p.place rest) in
    let pieces : pieces_of (before ++ rest) ≡ gaps_before k.done ++ (from_first_word k.done ++ later) =
    ap (λ r. pieces_of (before ++ r)) (sym (append-nil rest)) ∙ k.reads.pieces [] refl ∙ ap (λ r. k.done ++ onto k.front (pieces_from p.place r)) (append-nil rest)
    ∙ ap (λ ps. ps ++ later) (sym (split_gaps k.done)) ∙ append_assoc (gaps_before k.done) (from_first_word k.done) later in
    subst (IsCharBoundary (before ++ rest)) (sym (is.place ∙ zero-add (length (text_of (gaps_before k.done))))) (cut_at (before ++ rest) (gaps_before k.done) (from_first_word k.done ++ later) utf8 pieces)
