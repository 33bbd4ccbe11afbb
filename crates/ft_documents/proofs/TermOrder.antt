-- Terms that are sorted at once, each with its postings by rising docid, have the lists of a map.
use Rattle.std.proofs.Common.{◌≡◌, true, false, cond, List, [], ◌∷◌, ◌++◌, map, Option, Some, None, refl, sym, ap, ◌∙◌, append_assoc, filter, unwrap_or, Bool, ℤ, ℕ, subst, append-nil, String, Vec, string_bytes, option_map, flat_map, Global, Less, Equal, Greater, int_cmp, int_eq, is_eq, nat_cmp, string_eq, ◌+◌, ◌<◌, ◌&&◌, length, get_or, arith, Bor, IsPermutation, IsTrue, All, Ordering, IsSortedBy, is_le, is_lt, true≢false}
use Rattle.std.specs.Cmp.Lexicographic.{nat_list_cmp_total}
use Rattle.std.specs.String.{string_eq_equiv}
use Rattle.std.proofs.lemmas.Map.{lookup-none}
use Rattle.std.proofs.lemmas.Map.Entries.{none_past_head, place_from_lookup, lookup_from_place}
use Rattle.std.proofs.lemmas.Map.Keys.{IsDistinct-tail, IsDistinct-IsPermutation, apart_from_distinct, sorted_from_all_adjacent}
use Rattle.std.proofs.lemmas.Map.Made.{lookup-map_values, keys_of-map_values}
use Rattle.std.proofs.lemmas.Map.Text.{is_eq-slice_cmp}
use Rattle.std.specs.Fn.{Called, ComparesAs}
use Rattle.std.specs.List.Sorted.{IsStrictlySortedBy}
use Rattle.std.proofs.lemmas.Simd.{map-map}
use denote.Param.Members.{Mut}
use lib.ListN.{length-map}
use Rattle.ft_rows.specs.declared.terms.Posting.{Posting}
use Rattle.ft_rows.specs.Terms.{joined_posting as before_lists}
use Rattle.ft_content.proofs.{key_cmp_total, key_cmp_exact}
use Rattle.ft_documents.proofs.Common.{eq_by_cmp, ordering_then, ordering_reverse, put, find, is_sorted, is_sorted-put, find-put, same_entries, below_all, map-append, get_or-map, filter-append, All-head, All-tail, IsDistinct, AllByRecursion, lookup, keys_of, slice_cmp, exact_bytes, option_or, IsStrictWeakOrder, IsTotalOrder, int_cmp_total, on_total, and_parts, and_from, always_returns_same, IsPermutation-sym, IsPermutation-map, All-permutation, Contains-permutation, ranks_by, slice_get-get_or, slice_get_within, get_or_from_slice_get, spot_of, lists_of_postings, TermLists, Key, key_cmp, Spot, with_spots, Group, group_spots, lists_in_groups, spots_of_docid, by_docids, lists_of_terms, rise}
use Rattle.ft_documents.proofs.KeyedRows.{true_of, of_true, tie, none_found, below_lower, same_int}
use Rattle.ft_documents.proofs.RowKinds.{find_under, below_under, sorted_under, or_none}

-- ---- what spots make under their keys, one after another

-- the spots of a key
abbrev pub spots_under : Key → List (Key × Spot) → List Spot
spots_under q xs = map (λ (x : Key × Spot). x.1) (filter (λ (x : Key × Spot). eq_by_cmp key_cmp q x.0) xs)

pub spots_under-append : (q : Key) (xs ys : List (Key × Spot)) → spots_under q (xs ++ ys) ≡ spots_under q xs ++ spots_under q ys
spots_under-append q xs ys = simp (filter-append, map-append)

pub with_spots-append : (xs ys : List (Key × Spot)) (lists : List (Key × List Spot)) → with_spots (xs ++ ys) lists ≡ with_spots ys (with_spots xs lists)
with_spots-append [] ys lists = refl
with_spots-append (x ∷ xs) ys lists = with_spots-append xs ys (put key_cmp x.0 (unwrap_or (find key_cmp x.0 lists) [] ++ x.1 ∷ []) lists)

-- spots behind those of a list, if there are any
abbrev pub joined : Option (List Spot) → List Spot → Option (List Spot)
joined o [] = o
joined o (s ∷ ss) = Some (unwrap_or o [] ++ s ∷ ss)

joined_more : (before : List Spot) (s : Spot) (ss : List Spot) → joined (Some (before ++ s ∷ [])) ss ≡ Some (before ++ s ∷ ss)
joined_more before s [] = refl
joined_more before s (t ∷ ts) = ap Some (append_assoc before (s ∷ []) (t ∷ ts))

pub found_joined : (q : Key) (xs : List (Key × Spot)) (lists : List (Key × List Spot)) → find key_cmp q (with_spots xs lists) ≡ joined (find key_cmp q lists) (spots_under q xs)
found_joined q [] lists = refl
found_joined q (x ∷ xs) lists =
    let spots = unwrap_or (find key_cmp x.0 lists) [] ++ x.1 ∷ [] in
    let rest = filter (λ (y : Key × Spot). eq_by_cmp key_cmp q y.0) xs in
    found_joined q xs (put key_cmp x.0 spots lists)
    ∙ ap (λ o. joined o (spots_under q xs)) (find-put key_cmp key_cmp_total q x.0 spots lists)
    ∙ elim (eq_by_cmp key_cmp q x.0) as (λ b. eq_by_cmp key_cmp q x.0 ≡ b → joined (cond b (Some spots) (find key_cmp q lists)) (spots_under q xs) ≡ joined (find key_cmp q lists) (map (λ (y : Key × Spot). y.1) (cond b (x ∷ rest) rest))) [
      | true ↦ λ same. ap (λ k. joined (Some (unwrap_or (find key_cmp k lists) [] ++ x.1 ∷ [])) (spots_under q xs)) (sym (key_cmp_exact q x.0 (tie _ same)))
          ∙ joined_more (unwrap_or (find key_cmp q lists) []) x.1 (spots_under q xs)
      | false ↦ λ _. refl
    ] refl

pub sorted_joined : (xs : List (Key × Spot)) (lists : List (Key × List Spot)) → is_sorted key_cmp lists ≡ true → is_sorted key_cmp (with_spots xs lists) ≡ true
sorted_joined [] lists h = h
sorted_joined (x ∷ xs) lists h =
    let spots = unwrap_or (find key_cmp x.0 lists) [] ++ x.1 ∷ [] in
    sorted_joined xs (put key_cmp x.0 spots lists) (true_of _ (is_sorted-put key_cmp key_cmp_total x.0 spots lists (of_true _ h)))

-- Lists in order are those that spots make, where under each key they have the spots of that key.
pub made_of : (lists : List (Key × List Spot)) (xs : List (Key × Spot)) → is_sorted key_cmp lists ≡ true → ((q : Key) → find key_cmp q lists ≡ joined None (spots_under q xs)) → lists ≡ with_spots xs []
made_of lists xs sorted same = same_entries key_cmp key_cmp_total key_cmp_exact lists (with_spots xs []) (of_true _ sorted) (of_true _ (sorted_joined xs [] refl)) (λ q. same q ∙ sym (found_joined q xs []))

-- ---- the spots of terms, in whatever order they stand, and a posting more of one of them

abbrev Term : Type 0
Term = String Global

-- ---- a term among bytes

abbrev pub is_term : List ℕ → String Global → Bool
is_term s t = is_eq (slice_cmp nat_cmp s (string_bytes t))

pub same_test : (t : String Global) → is_term (string_bytes t) ≡ string_eq t
same_test t = λ i u. is_eq-slice_cmp (string_bytes t) (string_bytes u) i

pub term_is : (s : List ℕ) (t : String Global) → is_term s t ≡ true → s ≡ string_bytes t
term_is s t h = exact_bytes s (string_bytes t) (tie _ h)

-- ---- what terms have in documents

abbrev pub Has : Type 0
Has = String Global × (ℤ → List Spot)

abbrev pub has_in : Group → Has
has_in g = (g.0, spots_of_docid g.1.items)

-- the spots of a key
abbrev pub had_under : Key → Has → List Spot
had_under q m = cond (is_term q.0 m.0) (m.1 q.1) []

own_spots : (q : Key) (t : Term) (ps : List Posting) → spots_under q (map (λ (p : Posting). ((string_bytes t, p.docid), p.spot)) ps) ≡ cond (is_term q.0 t) (spots_of_docid ps q.1) []
own_spots q t [] = elim (is_term q.0 t) as (λ b. ◌≡◌ {A = List Spot} [] (cond b [] [])) [ true ↦ refl | false ↦ refl ]
own_spots q t (p ∷ ps) =
    let x : Key × Spot = ((string_bytes t, p.docid), p.spot) in
    let left : List (Key × Spot) = filter (λ (y : Key × Spot). is_eq (key_cmp q y.0)) (map (λ (r : Posting). ((string_bytes t, r.docid), r.spot)) ps) in
    let right : List Posting = filter (λ (r : Posting). int_eq q.1 r.docid) ps in
    let rest : map (λ (y : Key × Spot). y.1) left ≡ cond (is_term q.0 t) (map spot_of right) [] = own_spots q t ps in
    elim (slice_cmp nat_cmp q.0 (string_bytes t)) as (λ o. slice_cmp nat_cmp q.0 (string_bytes t) ≡ o → map (λ (y : Key × Spot). y.1) (cond (is_eq (ordering_then o (int_cmp q.1 p.docid))) (x ∷ left) left) ≡ cond (is_eq o) (map spot_of (cond (int_eq q.1 p.docid) (p ∷ right) right)) []) [
      | Less ↦ λ h. rest ∙ ap (λ o. cond (is_eq o) (map spot_of right) []) h
      | Equal ↦ λ h.
          let same : map (λ (y : Key × Spot). y.1) left ≡ map spot_of right = rest ∙ ap (λ o. cond (is_eq o) (map spot_of right) []) h in
          elim (int_eq q.1 p.docid) as (λ b. map (λ (y : Key × Spot). y.1) (cond b (x ∷ left) left) ≡ map spot_of (cond b (p ∷ right) right)) [ true ↦ ap (λ ss. p.spot ∷ ss) same | false ↦ same ]
      | Greater ↦ λ h. rest ∙ ap (λ o. cond (is_eq o) (map spot_of right) []) h
    ] refl

pub spots_in_groups : (q : Key) (gs : List Group) → spots_under q (flat_map group_spots gs) ≡ flat_map (had_under q) (map has_in gs)
spots_in_groups q [] = refl
spots_in_groups q (g ∷ gs) = spots_under-append q (group_spots g) (flat_map group_spots gs) ∙ (λ i. own_spots q g.0 g.1.items i ++ spots_in_groups q gs i)

-- of terms that differ one has the key
pub found_had : (q : Key) (ms : List Has) → IsDistinct string_eq (keys_of ms) → flat_map (had_under q) ms ≡ unwrap_or (lookup (is_term q.0) ms) (λ _. []) q.1
found_had q [] once = refl
found_had q (m ∷ ms) once = ap (λ ss. had_under q m ++ ss) (found_had q ms (IsDistinct-tail string_eq m.0 (keys_of ms) once)) ∙ by_head (is_term q.0 m.0) refl
  where
    rest : Option (ℤ → List Spot)
    rest = lookup (is_term q.0) ms

    none : is_term q.0 m.0 ≡ true → rest ≡ None
    none h =
        ap (λ s. lookup (is_term s) ms) (term_is q.0 m.0 h) ∙ ap (λ test. lookup test ms) (same_test m.0)
        ∙ lookup-none (string_eq m.0) ms (none_past_head string_eq_equiv m.0 m ms once (string_eq_equiv.refl m.0))

    by_head : (b : Bool) → is_term q.0 m.0 ≡ b → cond b (m.1 q.1) [] ++ unwrap_or rest (λ _. []) q.1 ≡ unwrap_or (cond b (Some m.1) rest) (λ _. []) q.1
    by_head true h = ap (λ (o : Option (ℤ → List Spot)). m.1 q.1 ++ unwrap_or o (λ _. []) q.1) (none h) ∙ append-nil (m.1 q.1)
    by_head false h = refl

-- ---- a posting more

-- the postings that were found
abbrev pub held : Option (Vec Posting Global) → List Posting
held None = []
held (Some v) = v.items

of_held : (o : Option (Vec Posting Global)) (d : ℤ) → unwrap_or (option_map (λ (v : Vec Posting Global). spots_of_docid v.items) o) (λ _. []) d ≡ spots_of_docid (held o) d
of_held None d = refl
of_held (Some v) d = refl

spots_held : (q : Key) (gs : List Group) → IsDistinct string_eq (keys_of gs) → spots_under q (flat_map group_spots gs) ≡ spots_of_docid (held (lookup (is_term q.0) gs)) q.1
spots_held q gs once =
    let spots = λ (v : Vec Posting Global). spots_of_docid v.items in
    spots_in_groups q gs ∙ found_had q (map has_in gs) (subst (IsDistinct string_eq) (sym (keys_of-map_values spots gs)) once)
    ∙ ap (λ (o : Option (ℤ → List Spot)). unwrap_or o (λ _. []) q.1) (lookup-map_values spots (is_term q.0) gs) ∙ of_held (lookup (is_term q.0) gs) q.1

module _ (t : String Global) (p : Posting) (v : Vec Posting Global) (old new : List Group) (joins : (q : String Global) → lookup (string_eq q) new ≡ cond (string_eq t q) (Some v) (lookup (string_eq q) old)) where
  abbrev Joined : List ℕ → Type 0
  Joined s = lookup (is_term s) new ≡ cond (is_term s t) (Some v) (lookup (is_term s) old)

  at_term : (q : Term) → Joined (string_bytes q)
  at_term q =
      ap (λ test. lookup test new) (same_test q) ∙ joins q
      ∙ (λ i. cond (sym (ap (λ test. test t) (same_test q) ∙ string_eq_equiv.symm q t) i) (Some v) (lookup (sym (same_test q) i) old))

  at_bytes : (s : List ℕ) → Joined s
  at_bytes s = go (is_term s t) (lookup (is_term s) new) (lookup (is_term s) old) refl refl refl
    where
      at : (q : Term) → is_term s q ≡ true → Joined s
      at q h = subst Joined (sym (term_is s q h)) (at_term q)

      go : (b : Bool) (m o : Option (Vec Posting Global)) → is_term s t ≡ b → lookup (is_term s) new ≡ m → lookup (is_term s) old ≡ o → Joined s
      go true m o h _ _ = at t h
      go false (Some w) o h j _ = let k = place_from_lookup (is_term s) new w j in at k.1 k.3
      go false None (Some w) h _ j = let k = place_from_lookup (is_term s) old w j in at k.1 k.3
      go false None None h j k = j ∙ sym (ap (λ b. cond b (Some v) (lookup (is_term s) old)) h ∙ k)

  pub posting_joins : IsDistinct string_eq (keys_of old) → IsDistinct string_eq (keys_of new) → v.items ≡ held (lookup (string_eq t) old) ++ p ∷ [] →
      lists_in_groups new ≡ put key_cmp (string_bytes t, p.docid) (unwrap_or (find key_cmp (string_bytes t, p.docid) (lists_in_groups old)) [] ++ p.spot ∷ []) (lists_in_groups old)
  posting_joins once still more =
      let x : Key × Spot = ((string_bytes t, p.docid), p.spot) in
      made_of (lists_in_groups new) (flat_map group_spots old ++ x ∷ []) (sorted_joined (flat_map group_spots new) [] refl) (λ q.
      found_joined q (flat_map group_spots new) [] ∙ ap (joined None) (spots_held q new still ∙ one_more q ∙ ap (λ ss. ss ++ spots_under q (x ∷ [])) (sym (spots_held q old once)) ∙ sym (spots_under-append q (flat_map group_spots old) (x ∷ []))))
      ∙ with_spots-append (flat_map group_spots old) (x ∷ []) []
    where
      at_docid : (ps : List Posting) (d : ℤ) → spots_of_docid (ps ++ p ∷ []) d ≡ spots_of_docid ps d ++ map spot_of (cond (int_eq d p.docid) (p ∷ []) [])
      at_docid ps d = simp (filter-append, map-append)

      one_more : (q : Key) → spots_of_docid (held (lookup (is_term q.0) new)) q.1 ≡ spots_of_docid (held (lookup (is_term q.0) old)) q.1 ++ spots_under q (((string_bytes t, p.docid), p.spot) ∷ [])
      one_more q =
          let x : Key × Spot = ((string_bytes t, p.docid), p.spot) in
          let before = spots_of_docid (held (lookup (is_term q.0) old)) q.1 in
          ap (λ o. spots_of_docid (held o) q.1) (at_bytes q.0)
          ∙ elim (slice_cmp nat_cmp q.0 (string_bytes t)) as (λ o. slice_cmp nat_cmp q.0 (string_bytes t) ≡ o →
          spots_of_docid (held (cond (is_eq o) (Some v) (lookup (is_term q.0) old))) q.1 ≡ before ++ map (λ (y : Key × Spot). y.1) (cond (is_eq (ordering_then o (int_cmp q.1 p.docid))) (x ∷ []) [])) [
            | Less ↦ λ h. sym (append-nil before)
            | Equal ↦ λ h.
                let own : lookup (is_term q.0) old ≡ lookup (string_eq t) old = ap (λ s. lookup (is_term s) old) (exact_bytes q.0 (string_bytes t) h) ∙ ap (λ test. lookup test old) (same_test t) in
                ap (λ ps. spots_of_docid ps q.1) (more ∙ ap (λ o. held o ++ p ∷ []) (sym own)) ∙ at_docid (held (lookup (is_term q.0) old)) q.1
                ∙ ap (λ ss. before ++ ss) (elim (int_eq q.1 p.docid) as (λ b. map spot_of (cond b (p ∷ []) []) ≡ map (λ (y : Key × Spot). y.1) (cond b (x ∷ []) [])) [ true ↦ refl | false ↦ refl ])
            | Greater ↦ λ h. sym (append-nil before)
          ] refl

-- ---- terms and lists

abbrev Lists : Type 0
Lists = List (Key × List Spot)

abbrev DocLists : Type 0
DocLists = List (ℤ × List Spot)

-- ---- the lists of postings by rising docid

-- the lists stand in order, the first is that of the first posting, and each is found
record AreOrdered (ps : List Posting) (lists : DocLists) : Type 0 where
  sorted : is_sorted int_cmp lists ≡ true
  found : (d : ℤ) → find int_cmp d lists ≡ joined None (spots_of_docid ps d)

equal_or_less : (o : Ordering) → is_le o ≡ true → is_eq o ≡ false → is_lt o ≡ true
equal_or_less Less h k = refl
equal_or_less Equal h k = absurd (let no = k in cc)
equal_or_less Greater h k = absurd (let no = h in cc)

some_joined : (ss ts : List Spot) → Some ts ≡ joined None ss → ts ≡ ss
some_joined [] ts h = absurd (let no = h in cc)
some_joined (s ∷ ss) ts h = ap (λ o. unwrap_or o ts) h

none_joined : (ss : List Spot) → None ≡ joined None ss → ss ≡ []
none_joined [] h = refl
none_joined (s ∷ ss) h = absurd (let no = h in cc)

-- the first list is of the first posting
abbrev Begins : Posting → DocLists → Type 0
Begins p [] = ⊥
Begins p (l ∷ ls) = l.0 ≡ p.docid

begins : (p : Posting) (ps : List Posting) → Begins p (lists_of_postings (p ∷ ps))
begins p ps = go (lists_of_postings ps)
  where
    go : (ls : DocLists) → Begins p (before_lists p ls)
    go [] = refl
    go (l ∷ ls) = elim (int_eq p.docid l.0) as (λ b. Begins p (cond b ((p.docid, p.spot ∷ l.1) ∷ ls) ((p.docid, p.spot ∷ []) ∷ l ∷ ls))) [ true ↦ refl | false ↦ refl ]

-- a posting before those of its document, or of a later one
before : (p q : Posting) (ps : List Posting) (ls : DocLists) → by_docids p q ≡ true → Begins q ls → AreOrdered ps ls → AreOrdered (p ∷ ps) (before_lists p ls)
before p q ps [] up first so_far = absurd first
before p q ps (l ∷ ls) up first so_far =
    elim (int_eq p.docid l.0) as (λ b. int_eq p.docid l.0 ≡ b → AreOrdered (p ∷ ps) (cond b ((p.docid, p.spot ∷ l.1) ∷ ls) ((p.docid, p.spot ∷ []) ∷ l ∷ ls))) [
      | true ↦ λ same.
          let is : p.docid ≡ l.0 = same_int p.docid l.0 same in
          record {
            sorted = ap (λ d. below_all int_cmp d ls && is_sorted int_cmp ls) is ∙ so_far.sorted;
            found = λ d.
                let right : List Posting = filter (λ (r : Posting). int_eq d r.docid) ps in
                elim (int_eq d p.docid) as (λ b. int_eq d p.docid ≡ b → cond b (Some (p.spot ∷ l.1)) (find int_cmp d ls) ≡ joined None (map spot_of (cond b (p ∷ right) right))) [
                  | true ↦ λ here. ap (λ ss. Some (p.spot ∷ ss)) (some_joined (map spot_of right) l.1 (ap (λ b. cond b (Some l.1) (find int_cmp d ls)) (sym (ap (int_eq d) (sym is) ∙ here)) ∙ so_far.found d))
                  | false ↦ λ apart. ap (λ b. cond b (Some l.1) (find int_cmp d ls)) (sym (ap (int_eq d) (sym is) ∙ apart)) ∙ so_far.found d
                ] refl;
          }
      | false ↦ λ differ.
          let lower : is_lt (int_cmp p.docid l.0) ≡ true = equal_or_less (int_cmp p.docid l.0) (ap (λ d. is_le (int_cmp p.docid d)) first ∙ up) differ in
          let parts = and_parts (below_all int_cmp l.0 ls) (is_sorted int_cmp ls) so_far.sorted in
          let below : below_all int_cmp p.docid (l ∷ ls) ≡ true = and_from (is_lt (int_cmp p.docid l.0)) (below_all int_cmp p.docid ls) lower (below_lower int_cmp int_cmp_total p.docid l.0 ls lower parts.0) in
          record {
            sorted = and_from (below_all int_cmp p.docid (l ∷ ls)) (is_sorted int_cmp (l ∷ ls)) below so_far.sorted;
            found = λ d.
                let right : List Posting = filter (λ (r : Posting). int_eq d r.docid) ps in
                elim (int_eq d p.docid) as (λ b. int_eq d p.docid ≡ b → cond b (Some (p.spot ∷ [])) (find int_cmp d (l ∷ ls)) ≡ joined None (map spot_of (cond b (p ∷ right) right))) [
                  | true ↦ λ here. ap (λ ss. Some (p.spot ∷ ss)) (sym (none_joined (map spot_of right) (sym (ap (λ e. find int_cmp e (l ∷ ls)) (same_int d p.docid here) ∙ none_found int_cmp p.docid (l ∷ ls) below) ∙ so_far.found d)))
                  | false ↦ λ _. so_far.found d
                ] refl;
          }
    ] refl

ordered : (ps : List Posting) → rise by_docids ps ≡ true → AreOrdered ps (lists_of_postings ps)
ordered [] h = record { sorted = refl; found = λ d. refl }
ordered (p ∷ []) h = record { sorted = refl; found = λ d. elim (int_eq d p.docid) as (λ b. cond b (Some (p.spot ∷ [])) None ≡ joined None (map spot_of (cond b (p ∷ []) []))) [ true ↦ refl | false ↦ refl ] }
ordered (p ∷ q ∷ qs) h =
    let parts = and_parts (by_docids p q) (rise by_docids (q ∷ qs)) h in
    before p q (q ∷ qs) (lists_of_postings (q ∷ qs)) parts.0 (begins q qs) (ordered (q ∷ qs) parts.1)

-- ---- the lists of a term before those of others

abbrev pub term_cmp : String Global → String Global → Ordering
term_cmp a b = slice_cmp nat_cmp (string_bytes a) (string_bytes b)

term_total : IsTotalOrder term_cmp
term_total = on_total (λ (t : Term). string_bytes t) nat_list_cmp_total

abbrev terms_of : List TermLists → List Term
terms_of ts = map (λ (t : TermLists). t.term) ts

below_terms : (t : Term) (d : ℤ) (ts : List TermLists) → AllByRecursion (λ y. term_cmp t y ≡ Less) (terms_of ts) → below_all key_cmp (string_bytes t, d) (lists_of_terms ts) ≡ true
below_terms t d [] all = refl
below_terms t d (u ∷ us) all = below_under (slice_cmp nat_cmp) nat_list_cmp_total (string_bytes t, d) (string_bytes u.term) (lists_of_postings u.postings.items) (lists_of_terms us) (ap is_lt all.0) (below_terms t d us all.1)

-- ---- the lists of terms in order

abbrev pub term_has : TermLists → Has
term_has t = (t.term, spots_of_docid t.postings.items)

abbrev pub HasRisen : TermLists → Type 0
HasRisen t = IsTrue (rise by_docids t.postings.items)

record AreMade (ts : List TermLists) : Type 0 where
  sorted : is_sorted key_cmp (lists_of_terms ts) ≡ true
  found : (q : Key) → find key_cmp q (lists_of_terms ts) ≡ joined None (flat_map (had_under q) (map term_has ts))

made : (ts : List TermLists) → IsStrictlySortedBy term_cmp (terms_of ts) → All HasRisen ts → AreMade ts
unfolding IsStrictlySortedBy
made [] sorted all = record { sorted = refl; found = λ q. refl }
made (t ∷ ts) sorted all =
    let own = ordered t.postings.items (All-head HasRisen t ts all) in
    let rest = made ts sorted.1 (All-tail HasRisen t ts all) in
    let lists : DocLists = lists_of_postings t.postings.items in
    let others : Lists = lists_of_terms ts in
    record {
      sorted = sorted_under (slice_cmp nat_cmp) nat_list_cmp_total (string_bytes t.term) lists others own.sorted (λ d. below_terms t.term d ts sorted.0) rest.sorted;
      found = λ q.
          let spots = spots_of_docid t.postings.items q.1 in
          let had = flat_map (had_under q) (map term_has ts) in
          find_under (slice_cmp nat_cmp) nat_list_cmp_total q (string_bytes t.term) lists others
          ∙ elim (is_term q.0 t.term) as (λ b. is_term q.0 t.term ≡ b → cond b (option_or (find int_cmp q.1 lists) (find key_cmp q others)) (find key_cmp q others) ≡ joined None (cond b spots [] ++ had)) [
            | true ↦ λ h.
                let none : find key_cmp q others ≡ None = none_found key_cmp q others (ap (λ s. below_all key_cmp (s, q.1) others) (term_is q.0 t.term h) ∙ below_terms t.term q.1 ts sorted.0) in
                let nil : had ≡ [] = none_joined had (sym none ∙ rest.found q) in
                (λ i. option_or (own.found q.1 i) (none i)) ∙ or_none (joined None spots) ∙ ap (joined None) (sym (append-nil spots) ∙ ap (λ ss. spots ++ ss) (sym nil))
            | false ↦ λ _. rest.found q
          ] refl;
    }

-- ---- terms that change places

some_found : (ms ns : List Has) → IsPermutation ms ns → IsDistinct string_eq (keys_of ns) → (s : List ℕ) (f : ℤ → List Spot) → lookup (is_term s) ms ≡ Some f → lookup (is_term s) ns ≡ Some f
some_found ms ns moves once s f h =
    let p = place_from_lookup (is_term s) ms f h in
    let at = Contains-permutation ms ns (p.1, f) moves (p.0, slice_get_within ms p.0 (p.1, f) p.2, get_or_from_slice_get ms p.0 (p.1, f) (p.1, f) p.2) in
    ap (λ b. lookup (is_term b) ns) (term_is s p.1 p.3) ∙ ap (λ test. lookup test ns) (same_test p.1)
    ∙ lookup_from_place string_eq_equiv ns at.0 p.1 f once (slice_get-get_or ns at.0 (p.1, f) at.1 ∙ ap Some at.2)

same_found : (ms ns : List Has) → IsPermutation ms ns → IsDistinct string_eq (keys_of ms) → IsDistinct string_eq (keys_of ns) → (s : List ℕ) → lookup (is_term s) ms ≡ lookup (is_term s) ns
same_found ms ns moves once still s = by (lookup (is_term s) ms) (lookup (is_term s) ns) refl refl
  where
    by : (a b : Option (ℤ → List Spot)) → lookup (is_term s) ms ≡ a → lookup (is_term s) ns ≡ b → lookup (is_term s) ms ≡ lookup (is_term s) ns
    by (Some f) b h k = h ∙ sym (some_found ms ns moves still s f h)
    by None (Some f) h k = some_found ns ms (IsPermutation-sym ms ns moves) once s f k ∙ sym k
    by None None h k = h ∙ sym k

-- ---- what a sort by terms gives

abbrev AreRising : List TermLists → Type 0
AreRising ts = IsSortedBy (λ (x y : TermLists). is_lt (term_cmp x.term y.term)) ts

-- from the clause of the sort, where each call compares the terms of two
pub rising_from_sort : {F : Type 0} {g : Mut F (Bor TermLists × (Bor TermLists × Unit {0})) Ordering} {f : F} (ts : List TermLists)
    → ((lt : TermLists → TermLists → Bool) → IsStrictWeakOrder lt → ComparesAs g lt f → IsSortedBy lt ts)
    → ((a : Bor TermLists × (Bor TermLists × Unit {0})) (r : Ordering) (f' : F) → Called g f a r f' → (r ≡ term_cmp a.0.now.term a.1.0.now.term) × (f' ≡ f)) → IsSortedBy (λ (x y : TermLists). is_lt (term_cmp x.term y.term)) ts
rising_from_sort {g = g} {f = f} ts sorted h = sorted (λ x y. is_lt (term_cmp x.term y.term)) (ranks_by term_total (λ (t : TermLists). t.term))
    (always_returns_same g (λ a r. is_lt r ≡ is_lt (term_cmp a.0.now.term a.1.0.now.term)) f (λ a r f' k. (ap is_lt (h a r f' k).0, (h a r f' k).1)))

module _ (t : TermLists) (ts : List TermLists) (rising : AreRising (t ∷ ts)) (once : IsDistinct string_eq (terms_of (t ∷ ts))) where
  abbrev term_at : ℕ → Term
  term_at k = get_or (terms_of (t ∷ ts)) k t.term

  is_at : (k : ℕ) → k < length (t ∷ ts) → term_at k ≡ (get_or (t ∷ ts) k t).term
  is_at k inside = get_or-map (λ (x : TermLists). x.term) (t ∷ ts) k t t.term inside

  apart : (a b : Term) → string_eq a b ≡ false → is_lt (term_cmp b a) ≡ false → term_cmp a b ≡ Less
  apart a b differ above = elim (term_cmp a b) as (λ o. term_cmp a b ≡ o → term_cmp a b ≡ Less) [
    | Less ↦ λ h. h
    | Equal ↦ λ h. absurd (true≢false (sym (ap is_eq h) ∙ is_eq-slice_cmp (string_bytes a) (string_bytes b) ∙ differ))
    | Greater ↦ λ h. absurd (true≢false (sym (ap is_lt (term_total.antisymm b a ∙ ap ordering_reverse h)) ∙ above))
  ] refl

  next : (k : ℕ) → k + 1 < length (terms_of (t ∷ ts)) → term_cmp (term_at k) (term_at (k + 1)) ≡ Less
  next k more =
      let inside : k + 1 < length (t ∷ ts) = let same = length-map (t ∷ ts) (λ (x : TermLists). x.term) in omega arith in
      let above = rising k t (omega arith) inside in
      apart (term_at k) (term_at (k + 1)) (apart_from_distinct string_eq (terms_of (t ∷ ts)) k (k + 1) t.term once (omega arith) more)
      (ap is_lt (λ i. term_cmp (is_at (k + 1) inside i) (is_at k (omega arith) i)) ∙ above)

  strictly : IsStrictlySortedBy term_cmp (terms_of (t ∷ ts))
  strictly = sorted_from_all_adjacent term_total (terms_of (t ∷ ts)) t.term next

strictly_sorted : (ts : List TermLists) → AreRising ts → IsDistinct string_eq (terms_of ts) → IsStrictlySortedBy term_cmp (terms_of ts)
unfolding IsStrictlySortedBy
strictly_sorted [] rising once = tt
strictly_sorted (t ∷ ts) rising once = strictly t ts rising once

pub sorted_terms : (found sorted : List TermLists) (gs : List Group) → map term_has found ≡ map has_in gs → IsDistinct string_eq (keys_of gs) → All HasRisen found → IsPermutation found sorted
    → IsSortedBy (λ (x y : TermLists). is_lt (term_cmp x.term y.term)) sorted → lists_of_terms sorted ≡ lists_in_groups gs
sorted_terms found sorted gs are once risen moves rising =
    let ms : List Has = map has_in gs in
    let ns : List Has = map term_has sorted in
    let moved : IsPermutation ms ns = subst (λ (l : List Has). IsPermutation l ns) are (IsPermutation-map term_has found sorted moves) in
    let own : IsDistinct string_eq (keys_of ms) = subst (IsDistinct string_eq) (sym (keys_of-map_values (λ (v : Vec Posting Global). spots_of_docid v.items) gs)) once in
    let still : IsDistinct string_eq (keys_of ns) = IsDistinct-IsPermutation string_eq string_eq_equiv.symm (keys_of ms) (keys_of ns) (IsPermutation-map (λ (m : Has). m.0) ms ns moved) own in
    let all = made sorted (strictly_sorted sorted rising (subst (IsDistinct string_eq) (map-map (λ (m : Has). m.0) term_has sorted) still)) (All-permutation HasRisen found sorted moves risen) in
    made_of (lists_of_terms sorted) (flat_map group_spots gs) all.sorted (λ q.
    all.found q
    ∙ ap (joined None) (found_had q ns still ∙ ap (λ (o : Option (ℤ → List Spot)). unwrap_or o (λ _. []) q.1) (sym (same_found ms ns moved own still q.0)) ∙ sym (found_had q ms own) ∙ sym (spots_in_groups q gs)))
