-- A text may be read anew after each semicolon that ends a statement.
use Rattle.std.proofs.Common.{◌≡◌, refl, sym, ap, subst, ◌∙◌, ℕ, Bool, true, false, List, [], ◌∷◌, ◌++◌, Option, Some, None}
use Rattle.std.specs.Prelude.{◌==◌, ◌&&◌, if◌then◌else◌}
use Rattle.std.specs.List.{onto_first}
use Rattle.std.proofs.lemmas.Bool.{eqb-true}
use Rattle.shell_text.specs.Words.{Piece, Closed, begun, turn, in_word, in_number, in_marks, first_byte, is_symbol_kind, next_is, onto_piece, pieces_from, place_after, text_of, with_byte}
use Rattle.shell_text.specs.declared.words.Place.{Place}
use Rattle.shell_text.specs.declared.words.Place.TheVariants.{Between, InWord, InNumber, InText, TextMark, InDouble, DoubleMark, InBackquotes, BackquoteMark, InBrackets, LineComment, CommentMark, BlockComment, Star}
use Rattle.shell_text.specs.declared.words.Ended.{Ended}
use Rattle.shell_text.specs.declared.words.Ended.TheVariants.{Word, Gap}
use Rattle.shell_text.specs.declared.words.Turn.{Turn}
use Rattle.shell_text.specs.declared.words.Turn.TheVariants.{Goes, Ends}
use Rattle.shell_text.specs.Units.{ends_statement, at_semicolons}
use Rattle.shell_text.specs.declared.words.SqlKind.{SqlKind}
use Rattle.shell_text.specs.declared.words.SqlKind.TheVariants as kinds

-- ---- places

-- something is begun there
abbrev pub IsInside : Place → Type 0
IsInside Between = ⊥
IsInside _ = Unit {0}

-- ---- turns

-- a turn that goes on comes to where something is begun
Leads : Turn → Type 0
Leads (Goes to) = IsInside to
Leads (Ends kind) = Unit {0}

leads_to : (to : Place) → IsInside to → Leads (Goes to)
unfolding Leads
leads_to to h = h

leads_end : (kind : Ended) → Leads (Ends kind)
unfolding Leads
leads_end kind = tt

to_inside : (to : Place) → Leads (Goes to) → IsInside to
unfolding Leads
to_inside to h = h

-- a turn that ends no symbol
Bars : Turn → Type 0
Bars (Goes to) = Unit {0}
Bars (Ends kind) = is_symbol_kind (Closed kind) ≡ false

bars_to : (to : Place) → Bars (Goes to)
unfolding Bars
bars_to to = tt

bars_end : (kind : Ended) → is_symbol_kind (Closed kind) ≡ false → Bars (Ends kind)
unfolding Bars
bars_end kind h = h

barred : (kind : Ended) → Bars (Ends kind) → is_symbol_kind (Closed kind) ≡ false
unfolding Bars
barred kind h = h

either : (P : Turn → Type 0) (c : Bool) (x y : Turn) → P x → P y → P (if c then x else y)
either P true x y px py = px
either P false x y px py = py

leads_word : (next : Option ℕ) → Leads (in_word next)
leads_word next = either Leads _ _ _ (leads_to InWord tt) (leads_end (Word kinds.Word))

leads_number : (next : Option ℕ) → Leads (in_number next)
leads_number next = either Leads _ _ _ (leads_to InNumber tt) (leads_end (Word kinds.Number))

leads_marks : (inside doubled : Place) (kind : SqlKind) (mark b : ℕ) (next : Option ℕ) → IsInside inside → IsInside doubled → Leads (in_marks inside doubled kind mark b next)
leads_marks inside doubled kind mark b next h k =
    either Leads _ _ _ (either Leads _ _ _ (leads_to doubled k) (leads_end (Word kind))) (leads_to inside h)

leads_begun : (b : ℕ) (next : Option ℕ) → Leads (begun b next)
unfolding begun
leads_begun b next =
    either Leads _ _ _ (leads_end Gap)
    (either Leads _ _ _ (leads_to LineComment tt)
    (either Leads _ _ _ (leads_to CommentMark tt)
    (either Leads _ _ _ (leads_to InText tt)
    (either Leads _ _ _ (leads_to InDouble tt)
    (either Leads _ _ _ (leads_to InBackquotes tt)
    (either Leads _ _ _ (leads_to InBrackets tt)
    (either Leads _ _ _ (leads_word next)
    (either Leads _ _ _ (leads_number next) (leads_end (Word kinds.Symbol))))))))))

leads : (at : Place) (b : ℕ) (next : Option ℕ) → Leads (turn at b next)
unfolding turn
leads Between b next = leads_begun b next
leads InWord b next = leads_word next
leads InNumber b next = leads_number next
leads InText b next = leads_marks InText TextMark kinds.Text 0x27 b next tt tt
leads TextMark b next = leads_to InText tt
leads InDouble b next = leads_marks InDouble DoubleMark kinds.Quoted 0x22 b next tt tt
leads DoubleMark b next = leads_to InDouble tt
leads InBackquotes b next = leads_marks InBackquotes BackquoteMark kinds.Quoted 0x60 b next tt tt
leads BackquoteMark b next = leads_to InBackquotes tt
leads InBrackets b next = either Leads _ _ _ (leads_end (Word kinds.Quoted)) (leads_to InBrackets tt)
leads LineComment b next = either Leads _ _ _ (leads_end Gap) (leads_to LineComment tt)
leads CommentMark b next = leads_to BlockComment tt
leads BlockComment b next = either Leads _ _ _ (leads_to Star tt) (leads_to BlockComment tt)
leads Star b next = either Leads _ _ _ (leads_end Gap) (either Leads _ _ _ (leads_to Star tt) (leads_to BlockComment tt))

-- a turn that goes on is inside something
pub goes_inside : (at to : Place) (b : ℕ) (next : Option ℕ) → turn at b next ≡ Goes to → IsInside to
goes_inside at to b next e = to_inside to (subst Leads e (leads at b next))

bars_marks : (inside doubled : Place) (kind : SqlKind) (mark b : ℕ) (next : Option ℕ) → is_symbol_kind (Closed (Word kind)) ≡ false → Bars (in_marks inside doubled kind mark b next)
bars_marks inside doubled kind mark b next h = either Bars _ _ _ (either Bars _ _ _ (bars_to doubled) (bars_end (Word kind) h)) (bars_to inside)

-- inside something no symbol ends
bars : (at : Place) (b : ℕ) (next : Option ℕ) → IsInside at → Bars (turn at b next)
unfolding turn
bars Between b next h = absurd h
bars InWord b next h = either Bars _ _ _ (bars_to InWord) (bars_end (Word kinds.Word) refl)
bars InNumber b next h = either Bars _ _ _ (bars_to InNumber) (bars_end (Word kinds.Number) refl)
bars InText b next h = bars_marks InText TextMark kinds.Text 0x27 b next refl
bars TextMark b next h = bars_to InText
bars InDouble b next h = bars_marks InDouble DoubleMark kinds.Quoted 0x22 b next refl
bars DoubleMark b next h = bars_to InDouble
bars InBackquotes b next h = bars_marks InBackquotes BackquoteMark kinds.Quoted 0x60 b next refl
bars BackquoteMark b next h = bars_to InBackquotes
bars InBrackets b next h = either Bars _ _ _ (bars_end (Word kinds.Quoted) refl) (bars_to InBrackets)
bars LineComment b next h = either Bars _ _ _ (bars_end Gap refl) (bars_to LineComment)
bars CommentMark b next h = bars_to BlockComment
bars BlockComment b next h = either Bars _ _ _ (bars_to Star) (bars_to BlockComment)
bars Star b next h = either Bars _ _ _ (bars_end Gap refl) (either Bars _ _ _ (bars_to Star) (bars_to BlockComment))

-- ---- the first piece

-- the first of the pieces is no symbol
abbrev pub BeginsPlain : List Piece → Type 0
BeginsPlain [] = Unit {0}
BeginsPlain (p ∷ ps) = is_symbol_kind p.kind ≡ false

plain_onto : (b : ℕ) (ps : List Piece) → BeginsPlain ps → BeginsPlain (onto_piece b ps)
plain_onto b [] h = refl
plain_onto b (p ∷ ps) h = h

plain_after : (t : Turn) (rest : List ℕ) → ((at : Place) → IsInside at → BeginsPlain (pieces_from at rest)) → (b : ℕ) → Bars t → Leads t → BeginsPlain (with_byte t b (pieces_from (place_after t) rest))
plain_after (Goes to) rest h b bar lead = plain_onto b (pieces_from to rest) (h to (to_inside to lead))
plain_after (Ends kind) rest h b bar lead = barred kind bar

-- from inside something the first piece is no symbol
begins_plain : (text : List ℕ) (at : Place) → IsInside at → BeginsPlain (pieces_from at text)
unfolding pieces_from
begins_plain [] at h = tt
begins_plain (b ∷ rest) at h =
    plain_after (turn at b (first_byte rest)) rest (λ to k. begins_plain rest to k) b (bars at b (first_byte rest) h) (leads at b (first_byte rest))

-- ---- parts

-- the byte goes onto the first part
abbrev pub onto_part : ℕ → List (List Piece) → List (List Piece)
onto_part b [] = []
onto_part b (part ∷ parts) = onto_piece b part ∷ parts

ends_by_symbol : (p : Piece) → is_symbol_kind p.kind ≡ false → ends_statement p ≡ false
ends_by_symbol p h = ap (λ symbol. symbol && next_is (λ b. b == 0x3B) (first_byte p.text)) h

-- the parts of pieces that begin with one that ends no statement
pub kept_part : (p : Piece) (ps : List Piece) → ends_statement p ≡ false → at_semicolons (p ∷ ps) ≡ onto_first p (at_semicolons ps)
kept_part p ps h = ap (λ ends. if ends then (p ∷ []) ∷ at_semicolons ps else onto_first p (at_semicolons ps)) h

pub ended_part : (p : Piece) (ps : List Piece) → ends_statement p ≡ true → at_semicolons (p ∷ ps) ≡ (p ∷ []) ∷ at_semicolons ps
ended_part p ps h = ap (λ ends. if ends then (p ∷ []) ∷ at_semicolons ps else onto_first p (at_semicolons ps)) h

onto_part-first : (b : ℕ) (p : Piece) (parts : List (List Piece)) → onto_first (record p { text = b ∷ p.text }) parts ≡ onto_part b (onto_first p parts)
onto_part-first b p [] = refl
onto_part-first b p (part ∷ parts) = refl

parts_of-onto : (b : ℕ) (ps : List Piece) → BeginsPlain ps → at_semicolons (onto_piece b ps) ≡ onto_part b (at_semicolons ps)
parts_of-onto b [] h = refl
parts_of-onto b (p ∷ ps) h =
    kept_part (record p { text = b ∷ p.text }) ps (ends_by_symbol (record p { text = b ∷ p.text }) h)
    ∙ onto_part-first b p (at_semicolons ps) ∙ sym (ap (onto_part b) (kept_part p ps (ends_by_symbol p h)))

-- ---- cuts

-- a text from a place is one part; or some statements end in it, and what follows the last of them
-- is read anew, whatever comes after it
pub data Cuts (at : Place) (text : List ℕ) : Type 0 where
  uncut : at_semicolons (pieces_from at text) ≡ pieces_from at text ∷ [] → Cuts at text
  cut : (first : List Piece) (ended : List (List Piece)) (tail : List ℕ)
      → at_semicolons (pieces_from at text) ≡ (first ∷ ended) ++ pieces_from Between tail ∷ []
      → at_semicolons (pieces_from Between tail) ≡ pieces_from Between tail ∷ []
      → ((more : List ℕ) → at_semicolons (pieces_from at (text ++ more)) ≡ (first ∷ ended) ++ at_semicolons (pieces_from Between (tail ++ more)))
      → Cuts at text

both : (x y : Bool) → (x && y) ≡ true → (x ≡ true) × (y ≡ true)
both true y h = (refl, h)
both false y h = cc

-- inside something no symbol ends
pub no_symbol : (at : Place) (b : ℕ) (next : Option ℕ) (kind : Ended) → IsInside at → turn at b next ≡ Ends kind → is_symbol_kind (Closed kind) ≡ true → ⊥
no_symbol at b next kind h e symbol = let no : is_symbol_kind (Closed kind) ≡ false = barred kind (subst Bars e (bars at b next h)) in cc

begun-semicolon : (next : Option ℕ) → begun 0x3B next ≡ Ends (Word kinds.Symbol)
unfolding begun
begun-semicolon next = refl

-- a semicolon that is a symbol is one whatever byte follows it
semicolon : (at : Place) (b : ℕ) (next other : Option ℕ) (kind : Ended) → turn at b next ≡ Ends kind
    → is_symbol_kind (Closed kind) ≡ true → b ≡ 0x3B → turn at b other ≡ Ends kind
unfolding turn
semicolon Between b next other kind e symbol q =
    ap (λ c. begun c other) q ∙ begun-semicolon other ∙ sym (begun-semicolon next) ∙ sym (ap (λ c. begun c next) q) ∙ e
semicolon InWord b next other kind e symbol q = absurd (no_symbol InWord b next kind tt e symbol)
semicolon InNumber b next other kind e symbol q = absurd (no_symbol InNumber b next kind tt e symbol)
semicolon InText b next other kind e symbol q = absurd (no_symbol InText b next kind tt e symbol)
semicolon TextMark b next other kind e symbol q = absurd (no_symbol TextMark b next kind tt e symbol)
semicolon InDouble b next other kind e symbol q = absurd (no_symbol InDouble b next kind tt e symbol)
semicolon DoubleMark b next other kind e symbol q = absurd (no_symbol DoubleMark b next kind tt e symbol)
semicolon InBackquotes b next other kind e symbol q = absurd (no_symbol InBackquotes b next kind tt e symbol)
semicolon BackquoteMark b next other kind e symbol q = absurd (no_symbol BackquoteMark b next kind tt e symbol)
semicolon InBrackets b next other kind e symbol q = absurd (no_symbol InBrackets b next kind tt e symbol)
semicolon LineComment b next other kind e symbol q = absurd (no_symbol LineComment b next kind tt e symbol)
semicolon CommentMark b next other kind e symbol q = absurd (no_symbol CommentMark b next kind tt e symbol)
semicolon BlockComment b next other kind e symbol q = absurd (no_symbol BlockComment b next kind tt e symbol)
semicolon Star b next other kind e symbol q = absurd (no_symbol Star b next kind tt e symbol)

abbrev pub byte_piece : Ended → ℕ → Piece
byte_piece kind b = record { kind = Closed kind; text = b ∷ [] }

same_end : (at : Place) (b : ℕ) (next other : Option ℕ) (kind : Ended) → turn at b next ≡ Ends kind
    → ends_statement (byte_piece kind b) ≡ true → turn at b other ≡ Ends kind
same_end at b next other kind e ends =
    let parts = both (is_symbol_kind (Closed kind)) (b == 0x3B) ends in semicolon at b next other kind e parts.0 (eqb-true b 0x3B parts.1)

opens : (at : Place) (b : ℕ) (rest : List ℕ) (t : Turn) → turn at b (first_byte rest) ≡ t → pieces_from at (b ∷ rest) ≡ with_byte t b (pieces_from (place_after t) rest)
unfolding pieces_from
opens at b rest t e = ap (λ u. with_byte u b (pieces_from (place_after u) rest)) e

-- the byte's turn is the same whatever stands after the rest
abbrev pub IsSame : Place → ℕ → List ℕ → Turn → Type 0
IsSame at b rest t = (more : List ℕ) → turn at b (first_byte (rest ++ more)) ≡ t

goes_uncut : (at : Place) (b : ℕ) (rest : List ℕ) (to : Place) → turn at b (first_byte rest) ≡ Goes to → IsInside to
    → at_semicolons (pieces_from to rest) ≡ pieces_from to rest ∷ [] → Cuts at (b ∷ rest)
goes_uncut at b rest to e inside h =
    uncut (ap at_semicolons (opens at b rest (Goes to) e) ∙ parts_of-onto b (pieces_from to rest) (begins_plain rest to inside) ∙ ap (onto_part b) h
    ∙ sym (ap (λ ps. ps ∷ []) (opens at b rest (Goes to) e)))

goes_on : (at : Place) (b : ℕ) (rest : List ℕ) (to : Place) → turn at b (first_byte rest) ≡ Goes to → IsSame at b rest (Goes to) → IsInside to → Cuts to rest → Cuts at (b ∷ rest)
goes_on at b rest to e same inside (uncut h) = goes_uncut at b rest to e inside h
goes_on at b rest to e same inside (cut first ended tail h u g) =
    cut (onto_piece b first) ended tail
    (ap at_semicolons (opens at b rest (Goes to) e) ∙ parts_of-onto b (pieces_from to rest) (begins_plain rest to inside) ∙ ap (onto_part b) h)
    u
    (λ more. ap at_semicolons (opens at b (rest ++ more) (Goes to) (same more))
    ∙ parts_of-onto b (pieces_from to (rest ++ more)) (begins_plain (rest ++ more) to inside) ∙ ap (onto_part b) (g more))

ends_uncut : (at : Place) (b : ℕ) (rest : List ℕ) (kind : Ended) → turn at b (first_byte rest) ≡ Ends kind → ends_statement (byte_piece kind b) ≡ false
    → at_semicolons (pieces_from Between rest) ≡ pieces_from Between rest ∷ [] → Cuts at (b ∷ rest)
ends_uncut at b rest kind e q h =
    uncut (ap at_semicolons (opens at b rest (Ends kind) e) ∙ kept_part (byte_piece kind b) (pieces_from Between rest) q ∙ ap (onto_first (byte_piece kind b)) h
    ∙ sym (ap (λ ps. ps ∷ []) (opens at b rest (Ends kind) e)))

ends_there : (at : Place) (b : ℕ) (rest : List ℕ) (kind : Ended) → turn at b (first_byte rest) ≡ Ends kind → IsSame at b rest (Ends kind) → ends_statement (byte_piece kind b) ≡ true → Cuts Between rest → Cuts at (b ∷ rest)
ends_there at b rest kind e same q (uncut h) =
    cut (byte_piece kind b ∷ []) [] rest
    (ap at_semicolons (opens at b rest (Ends kind) e) ∙ ended_part (byte_piece kind b) (pieces_from Between rest) q ∙ ap (λ x. (byte_piece kind b ∷ []) ∷ x) h)
    h
    (λ more. ap at_semicolons (opens at b (rest ++ more) (Ends kind) (same more)) ∙ ended_part (byte_piece kind b) (pieces_from Between (rest ++ more)) q)
ends_there at b rest kind e same q (cut first ended tail h u g) =
    cut (byte_piece kind b ∷ []) (first ∷ ended) tail
    (ap at_semicolons (opens at b rest (Ends kind) e) ∙ ended_part (byte_piece kind b) (pieces_from Between rest) q ∙ ap (λ x. (byte_piece kind b ∷ []) ∷ x) h)
    u
    (λ more. ap at_semicolons (opens at b (rest ++ more) (Ends kind) (same more)) ∙ ended_part (byte_piece kind b) (pieces_from Between (rest ++ more)) q
    ∙ ap (λ x. (byte_piece kind b ∷ []) ∷ x) (g more))

ends_other : (at : Place) (b : ℕ) (rest : List ℕ) (kind : Ended) → turn at b (first_byte rest) ≡ Ends kind → IsSame at b rest (Ends kind) → ends_statement (byte_piece kind b) ≡ false → Cuts Between rest → Cuts at (b ∷ rest)
ends_other at b rest kind e same q (uncut h) = ends_uncut at b rest kind e q h
ends_other at b rest kind e same q (cut first ended tail h u g) =
    cut (byte_piece kind b ∷ first) ended tail
    (ap at_semicolons (opens at b rest (Ends kind) e) ∙ kept_part (byte_piece kind b) (pieces_from Between rest) q ∙ ap (onto_first (byte_piece kind b)) h)
    u
    (λ more. ap at_semicolons (opens at b (rest ++ more) (Ends kind) (same more)) ∙ kept_part (byte_piece kind b) (pieces_from Between (rest ++ more)) q
    ∙ ap (onto_first (byte_piece kind b)) (g more))

ends_by : (at : Place) (b : ℕ) (rest : List ℕ) (kind : Ended) → turn at b (first_byte rest) ≡ Ends kind → IsSame at b rest (Ends kind) → (ends : Bool) → ends_statement (byte_piece kind b) ≡ ends → Cuts Between rest → Cuts at (b ∷ rest)
ends_by at b rest kind e same true q c = ends_there at b rest kind e same q c
ends_by at b rest kind e same false q c = ends_other at b rest kind e same q c

none_from : (at : Place) → at_semicolons (pieces_from at []) ≡ pieces_from at [] ∷ []
unfolding pieces_from
none_from at = refl

last_by : (at : Place) (b : ℕ) (kind : Ended) → turn at b None ≡ Ends kind → (ends : Bool) → ends_statement (byte_piece kind b) ≡ ends → Cuts at (b ∷ [])
last_by at b kind e true q = ends_there at b [] kind e (λ more. same_end at b None (first_byte more) kind e q) q (uncut (none_from Between))
last_by at b kind e false q = ends_uncut at b [] kind e q (none_from Between)

last_turn : (at : Place) (b : ℕ) (t : Turn) → turn at b None ≡ t → Leads t → Cuts at (b ∷ [])
last_turn at b (Goes to) e lead = goes_uncut at b [] to e (to_inside to lead) (none_from to)
last_turn at b (Ends kind) e lead = last_by at b kind e (ends_statement (byte_piece kind b)) refl

next_turn : (at : Place) (b c : ℕ) (rest : List ℕ) (t : Turn) → turn at b (Some c) ≡ t → Leads t → ((to : Place) → Cuts to (c ∷ rest)) → Cuts at (b ∷ c ∷ rest)
next_turn at b c rest (Goes to) e lead h = goes_on at b (c ∷ rest) to e (λ more. e) (to_inside to lead) (h to)
next_turn at b c rest (Ends kind) e lead h = ends_by at b (c ∷ rest) kind e (λ more. e) (ends_statement (byte_piece kind b)) refl (h Between)

pub cuts : (text : List ℕ) (at : Place) → Cuts at text
cuts [] at = uncut (none_from at)
cuts (b ∷ []) at = last_turn at b (turn at b None) refl (leads at b None)
cuts (b ∷ c ∷ rest) at = next_turn at b c rest (turn at b (Some c)) refl (leads at b (Some c)) (λ to. cuts (c ∷ rest) to)

-- ---- texts

text_with : (t : Turn) (b : ℕ) (ps : List Piece) → text_of (with_byte t b ps) ≡ b ∷ text_of ps
text_with (Goes to) b [] = refl
text_with (Goes to) b (p ∷ ps) = refl
text_with (Ends kind) b ps = refl

-- the pieces are the text, in order
pub text_of-pieces : (text : List ℕ) (at : Place) → text_of (pieces_from at text) ≡ text
unfolding pieces_from
text_of-pieces [] at = refl
text_of-pieces (b ∷ rest) at =
    text_with (turn at b (first_byte rest)) b (pieces_from (place_after (turn at b (first_byte rest))) rest)
    ∙ ap (λ cs. b ∷ cs) (text_of-pieces rest (place_after (turn at b (first_byte rest))))
