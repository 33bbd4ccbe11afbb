-- Steps. How one document is evaluated: by passes over the lists of places of the query's terms, each from front to back (own choices).
use Rattle.std.specs.Prelude.{ℕ, ℤ, ◌+◌, ◌*◌, ◌==◌, ◌&&◌, ◌||◌, Bool, true, false, not, nat_lt, if◌then◌else◌, List, [], ◌∷◌}
use Rattle.std.specs.Prelude.{◌++◌, length, take, drop, map, filter, Option, Vec}
use Rattle.std.specs.Borrow.{Bor}
use Rattle.std.specs.declared.alloc.Global.{Global}
use Rattle.std.specs.Ordering.{ordering_then, nat_cmp, match_ordering, is_lt}
use Rattle.std.specs.declared.cmp.Ordering.{Ordering}
use Rattle.ft_match.specs.declared.hit.Offset.{Offset}
use Rattle.ft_match.specs.declared.query.Link.{Link}
use Rattle.ft_match.specs.declared.query.Phrase.{Phrase}
use Rattle.ft_query.specs.declared.walk.cursor.Cursor.{Cursor}
use Rattle.ft_query.specs.declared.walk.visit.Wanted.{Wanted}
use Rattle.ft_query.specs.declared.walk.visit.Wanted.TheVariants.{Docids, Offsets}
use Rattle.ft_match.specs.Documents.{Place, Posting, is_filled}
use Rattle.ft_match.specs.Trees.{PlainTerm, PlainPhrase, PlainLink, Tree, phrase, chain, both, either, without}
use Rattle.ft_match.specs.Occurs.{is_listed, is_within, are_near}
use Rattle.ft_query.specs.Work.{terms_in}
use Rattle.ft_query.specs.Cursors.{lists_left, places_at}

-- places that are referred to, and a phrase's occurrences, each by the place of its first token
abbrev pub LentPlaces : Type 0
LentPlaces = Bor (List Place)

abbrev pub Occurrences : Type 0
Occurrences = Vec Place Global

-- ---- passes over places

-- by column, then by position, where a is moved by i and b by j
abbrev pub place_order : ℕ → Place → ℕ → Place → Ordering
place_order i a j b = ordering_then (nat_cmp a.column b.column) (nat_cmp (a.pos + i) (b.pos + j))

-- whether a place moved by i is one of those moved by j, and which of them are after it
abbrev pub seek : ℕ → Place → ℕ → List Place → Bool × List Place
seek i x j [] = (false, [])
seek i x j (y ∷ ys) = match_ordering (place_order j y i x) (seek i x j ys) (true, ys) (false, y ∷ ys)

-- the places that, moved by i, are among those moved by j
abbrev pub among : ℕ → ℕ → List Place → List Place → List Place
among i j [] ys = []
among i j (x ∷ xs) ys = let found = seek i x j ys in if found.0 then x ∷ among i j xs found.1 else among i j xs found.1

-- an occurrence of k terms that ends too far before this place to be near it
abbrev pub is_behind : ℕ → ℕ → Place → Place → Bool
is_behind most k a b = nat_lt a.column b.column || a.column == b.column && nat_lt (a.pos + k + most) b.pos

-- what is left of them from the first on that isn't
abbrev pub skip_behind : ℕ → ℕ → List Place → Place → List Place
skip_behind most k [] b = []
skip_behind most k (a ∷ more) b = if is_behind most k a b then skip_behind most k more b else a ∷ more

-- One of the first two is near this occurrence of m terms. Where they rise and none before them is near, no later one need be looked at:
-- only one can be barred for ending at the same token.
abbrev pub begin_near : ℕ → ℕ → List Place → ℕ → Place → Bool
begin_near most k [] m b = false
begin_near most k (a ∷ []) m b = are_near most k a m b
begin_near most k (a ∷ c ∷ more) m b = are_near most k a m b || are_near most k c m b

-- the occurrences of m terms that are near one of k terms
abbrev pub near_those : ℕ → ℕ → List Place → ℕ → List Place → List Place
near_those most k near m [] = []
near_those most k near m (b ∷ bs) =
    let rest = skip_behind most k near b in
    if begin_near most k rest m b then b ∷ near_those most k rest m bs
    else near_those most k rest m bs

-- ---- phrases

-- a place of a phrase's first term where the phrase may begin
abbrev pub may_begin : Option ℕ → Bool → Place → Bool
may_begin only first at = is_within only at.column && (not first || at.pos == 0)

-- of these places the ones that the terms from index i on follow; a first term follows nothing
abbrev pub followed : ℕ → List PlainTerm → List (List Place) → List Place → List Place
followed i [] lists starts = starts
followed i (t ∷ ts) [] starts = starts
followed i (t ∷ ts) (l ∷ ls) starts = followed (i + 1) ts ls (if t.first then [] else among i 0 starts l)

-- the places of the first term where the phrase may begin, as far as the other terms follow
abbrev pub starts_from : Option ℕ → List PlainTerm → List (List Place) → List Place
starts_from only [] lists = []
starts_from only (t ∷ ts) [] = []
starts_from only (t ∷ ts) (l ∷ ls) = followed 1 ts ls (filter (may_begin only t.first) l)

-- a phrase's occurrences, from the lists of its terms
abbrev pub starts_of : PlainPhrase → List (List Place) → List Place
starts_of p lists = starts_from p.filter p.terms lists

-- for each term, from the one of index i on, the places of its list in these occurrences
abbrev pub marks_from : ℕ → List (List Place) → List Place → List (List Place)
marks_from i [] starts = []
marks_from i (l ∷ ls) starts = among 0 i l starts ∷ marks_from (i + 1) ls starts

-- ---- chains

-- the last phrase of a chain
abbrev pub last_phrase : Phrase → List Link → Phrase
last_phrase first [] = first
last_phrase first (link ∷ links) = last_phrase link.to links

-- the first phrase's
abbrev pub head_of : List (List Place) → List Place
head_of [] = []
head_of (s ∷ ss) = s

-- for each phrase of a chain, its occurrences that are near one of the next phrase's here
abbrev pub linked : PlainPhrase → List PlainLink → List (List Place) → List (List Place)
linked p [] lists = starts_of p lists ∷ []
linked p (link ∷ links) lists =
    let more = linked link.to links (drop (length p.terms) lists) in
    near_those link.most (length link.to.terms) (head_of more) (length p.terms) (starts_of p (take (length p.terms) lists)) ∷ more

-- the marks of the phrases of these links, whose occurrences also have to be near one of the k terms before them
abbrev pub link_marks : ℕ → List Place → List PlainLink → List (List Place) → List (List Place) → List (List Place)
link_marks k starts [] lists all = []
link_marks k starts (link ∷ links) lists all =
    let next = near_those link.most k starts (length link.to.terms) (head_of all) in
    marks_from 0 (take (length link.to.terms) lists) next
    ++ link_marks (length link.to.terms) next links (drop (length link.to.terms) lists) (drop 1 all)

-- ---- queries

-- from the lists of its terms in a document, whether a query accepts the document
abbrev pub is_accepted : Tree → List (List Place) → Bool
is_accepted (phrase p) lists = is_filled (starts_of p lists)
is_accepted (chain p links) lists = is_filled (head_of (linked p links lists))
is_accepted (both p q) lists = is_accepted p (take (length (terms_in p)) lists) && is_accepted q (drop (length (terms_in p)) lists)
is_accepted (either p q) lists = is_accepted p (take (length (terms_in p)) lists) || is_accepted q (drop (length (terms_in p)) lists)
is_accepted (without p q) lists = is_accepted p (take (length (terms_in p)) lists) && not (is_accepted q (drop (length (terms_in p)) lists))

-- and for each term the places that it takes in the occurrences that count
abbrev pub marks_of : Tree → List (List Place) → List (List Place)
marks_of (phrase p) lists = marks_from 0 lists (starts_of p lists)
marks_of (chain p links) lists =
    let all = linked p links lists in
    marks_from 0 (take (length p.terms) lists) (head_of all)
    ++ link_marks (length p.terms) (head_of all) links (drop (length p.terms) lists) (drop 1 all)
marks_of (both p q) lists = marks_of p (take (length (terms_in p)) lists) ++ marks_of q (drop (length (terms_in p)) lists)
marks_of (either p q) lists = marks_of p (take (length (terms_in p)) lists) ++ marks_of q (drop (length (terms_in p)) lists)
marks_of (without p q) lists = marks_of p (take (length (terms_in p)) lists)

-- offsets, or marks, as far as they are wanted
abbrev pub if_wanted : {X : Type 0} → Wanted → List X → List X
if_wanted Docids xs = []
if_wanted Offsets xs = xs

abbrev pub offset_at : ℕ → Place → Offset
offset_at n at = record { column = at.column; term = n; place = at.start; size = at.size }

-- the offsets of marks, term by term, whose terms have the numbers from n on
abbrev pub numbered_offsets : ℕ → List (List Place) → List Offset
numbered_offsets n [] = []
numbered_offsets n (m ∷ ms) = map (offset_at n) m ++ numbered_offsets (n + 1) ms

-- the occurrences of each of some phrases
abbrev pub plain_starts : List Occurrences → List (List Place)
plain_starts all = map (λ s. s.items) all

-- by column, then by place, then by term number
abbrev pub precedes : Offset → Offset → Bool
precedes a b = is_lt (ordering_then (ordering_then (nat_cmp a.column b.column) (nat_cmp a.place b.place)) (nat_cmp a.term b.term))

-- the lists behind these references
abbrev pub plain_lists : List LentPlaces → List (List Place)
plain_lists lists = map (λ l. l.now) lists

-- what a term's list answers for a document: its places in every position
abbrev pub listed_places : List Posting → PlainTerm → List Place
listed_places postings t = map (λ p. p.place) (filter (λ p. is_listed t p.term) postings)

-- the places of each term in this document
abbrev pub places_in : ℤ → List Cursor → List (List Place)
places_in docid cursors = map (λ c. places_at docid (lists_left c)) cursors

-- ---- steps

-- how many places there are in all
abbrev pub total : List (List Place) → ℕ
total [] = 0
total (l ∷ ls) = length l + total ls

-- the most steps back from a chain's last phrase
abbrev pub linked_cost : PlainPhrase → List PlainLink → List (List Place) → ℕ
linked_cost p [] lists = 2 * total lists
linked_cost p (link ∷ links) lists =
    2 * total (take (length p.terms) lists) + linked_cost link.to links (drop (length p.terms) lists)
    + length (head_of (linked link.to links (drop (length p.terms) lists))) + 3 * length (starts_of p (take (length p.terms) lists))

-- the most steps for the marks of the phrases of these links
abbrev pub link_cost : ℕ → List Place → List PlainLink → List (List Place) → List (List Place) → ℕ
link_cost k starts [] lists all = 0
link_cost k starts (link ∷ links) lists all =
    let next = near_those link.most k starts (length link.to.terms) (head_of all) in
    length starts + 3 * length (head_of all) + total (take (length link.to.terms) lists) + length link.to.terms * length next
    + link_cost (length link.to.terms) next links (drop (length link.to.terms) lists) (drop 1 all)

-- the most steps for a query: one for each of its nodes, and those of its phrases and chains
abbrev pub visit_cost : Tree → List (List Place) → ℕ
visit_cost (phrase p) lists = 1 + (3 * total lists + length lists * length (starts_of p lists))
visit_cost (chain p links) lists =
    let all = linked p links lists in
    1 + length links + (linked_cost p links lists + total (take (length p.terms) lists) + length p.terms * length (head_of all)
    + link_cost (length p.terms) (head_of all) links (drop (length p.terms) lists) (drop 1 all))
visit_cost (both p q) lists = 1 + (visit_cost p (take (length (terms_in p)) lists) + visit_cost q (drop (length (terms_in p)) lists))
visit_cost (either p q) lists = 1 + (visit_cost p (take (length (terms_in p)) lists) + visit_cost q (drop (length (terms_in p)) lists))
visit_cost (without p q) lists = 1 + (visit_cost p (take (length (terms_in p)) lists) + visit_cost q (drop (length (terms_in p)) lists))
