-- The index of a content, document by document.
use Rattle.std.proofs.Common.{◌≡◌, ℕ, Bool, true, false, cond, T, List, [], ◌∷◌, ◌++◌, map, Some, ℤ, refl, sym, ap, subst, ◌∙◌, IsTrue, filter, unwrap_or}
use Rattle.std.specs.Cmp.Lexicographic.{slice_cmp, nat_list_cmp_total}
use Rattle.std.proofs.lemmas.List.Elements.{filter-append}
use Rattle.std.proofs.lemmas.Cmp.{on_total, then_total}
use Rattle.std.proofs.lemmas.Map.Lookups.{CmpEqualImpliesEq, exact_pairs, exact_bytes, exact_signed}
use Rattle.ft_content.proofs.Common.{flat_map, Ordering, Less, Equal, Greater, int_cmp, int_eq, eq_by_cmp, is_eq, nat_cmp, ordering_then, IsTotalOrder, eq_by_cmp_equiv, int_cmp_total, int_cmp-IsAntisymmetric, find, where_key, find-put, Cell, Documents, Spot, Entry, Key, key_cmp, key_of, spots_at, document_postings, entry_at, document_entries, entries_of_docid, spots_of_key, some_if_any, ListsAreEntries}
use Rattle.ft_content.specs.Content.{Column}
use Rattle.ft_content.specs.Index.{spot_lists}

-- ---- a filter that answers alike at each element

filter-map_alike : {A X : Type 0} (q : X → Bool) (b : Bool) (g : A → X) → ((a : A) → q (g a) ≡ b) → (as' : List A) → filter q (map g as') ≡ cond b (map g as') []
filter-map_alike q true g same [] = refl
filter-map_alike q false g same [] = refl
filter-map_alike q true g same (a ∷ as') = ap (λ t. cond t (g a ∷ filter q (map g as')) (filter q (map g as'))) (same a) ∙ ap (λ xs. g a ∷ xs) (filter-map_alike q true g same as')
filter-map_alike q false g same (a ∷ as') = ap (λ t. cond t (g a ∷ filter q (map g as')) (filter q (map g as'))) (same a) ∙ filter-map_alike q false g same as'

-- each entry of a document has its docid
pub own_entries : (p : ℤ → Bool) (columns : List Column) (d : ℤ × List Cell) → filter (λ (e : Entry). p e.docid) (document_entries columns d) ≡ cond (p d.0) (document_entries columns d) []
own_entries p columns d = filter-map_alike (λ (e : Entry). p e.docid) (p d.0) (entry_at d.0) (λ t. refl) (document_postings columns d.1)

-- ---- documents by docid

-- what comes of documents, of those whose docid passes, is what comes of those documents
module _ {X : Type 0} (f : ℤ × List Cell → List X) (docid_of : X → ℤ) (own : (p : ℤ → Bool) (d : ℤ × List Cell) → filter (λ x. p (docid_of x)) (f d) ≡ cond (p d.0) (f d) []) where
  pub where_docid : (p : ℤ → Bool) (documents : Documents) → filter (λ x. p (docid_of x)) (flat_map f documents) ≡ flat_map f (where_key int_cmp p documents)
  where_docid p [] = refl
  where_docid p (d ∷ ds) = filter-append (λ x. p (docid_of x)) (f d) (flat_map f ds) ∙ (λ i. own p d i ++ where_docid p ds i)
      ∙ elim (p d.0) as (λ t. cond t (f d) [] ++ flat_map f (where_key int_cmp p ds) ≡ flat_map f (cond t (d ∷ where_key int_cmp p ds) (where_key int_cmp p ds))) [ true ↦ refl | false ↦ refl ]

pub holds : (b : Bool) → IsTrue b → T b
holds b h = subst T (sym h) tt

turned : (x y : ℤ) → int_eq x y ≡ int_eq y x
turned x y = (eq_by_cmp_equiv int_cmp_total).symm x y

-- ---- lists

pub key_cmp_total : IsTotalOrder key_cmp
key_cmp_total = then_total (on_total (λ (k : Key). k.0) nat_list_cmp_total) (on_total (λ (k : Key). k.1) int_cmp_total)

pub key_cmp_exact : CmpEqualImpliesEq key_cmp
key_cmp_exact = exact_pairs (slice_cmp nat_cmp) int_cmp exact_bytes exact_signed

unwrap_any : (ss : List Spot) → unwrap_or (some_if_any ss) [] ≡ ss
unwrap_any [] = refl
unwrap_any (s ∷ ss) = refl

tie : (o : Ordering) → is_eq o ≡ true → o ≡ Equal
tie Less h = cc
tie Equal h = refl
tie Greater h = cc

second_tie : (a b : Ordering) → is_eq (ordering_then a b) ≡ true → is_eq b ≡ true
second_tie Less b h = cc
second_tie Equal b h = h
second_tie Greater b h = cc

pub lists_are_entries : ListsAreEntries
unfolding spot_lists
lists_are_entries [] term docid = refl
lists_are_entries (e ∷ es) term docid =
    let rest = filter (λ (x : Entry). eq_by_cmp key_cmp (term, docid) (x.term, x.docid)) es in
    let before = spot_lists es in
    let spots = spots_at before (key_of e) in
    find-put key_cmp key_cmp_total (term, docid) (e.term, e.docid) (e.spot ∷ spots) before
    ∙ elim (eq_by_cmp key_cmp (term, docid) (e.term, e.docid)) as (λ b. eq_by_cmp key_cmp (term, docid) (e.term, e.docid) ≡ b → cond b (Some (e.spot ∷ spots)) (find key_cmp (term, docid) before) ≡ some_if_any (map (λ (x : Entry). x.spot) (cond b (e ∷ rest) rest))) [
      | true ↦ λ same. ap (λ ss. Some (e.spot ∷ ss))
          (ap (λ o. unwrap_or o []) (lists_are_entries es e.term e.docid) ∙ unwrap_any (spots_of_key (e.term, e.docid) es)
          ∙ ap (λ (k : Key). spots_of_key k es) (sym (key_cmp_exact (term, docid) (e.term, e.docid) (tie _ same))))
      | false ↦ λ apart. lists_are_entries es term docid
    ] refl

-- a second filter that passes all that the first passes
filter-within : {X : Type 0} (p q : X → Bool) → ((x : X) → p x ≡ true → q x ≡ true) → (xs : List X) → filter p (filter q xs) ≡ filter p xs
filter-within p q implies [] = refl
filter-within p q implies (x ∷ xs) =
    elim (p x) as (λ b. p x ≡ b → filter p (cond (q x) (x ∷ filter q xs) (filter q xs)) ≡ cond b (x ∷ filter p xs) (filter p xs)) [
      | true ↦ λ passes. ap (λ b. filter p (cond b (x ∷ filter q xs) (filter q xs))) (implies x passes) ∙ ap (λ b. cond b (x ∷ filter p (filter q xs)) (filter p (filter q xs))) passes ∙ ap (λ ys. x ∷ ys) (filter-within p q implies xs)
      | false ↦ λ fails. elim (q x) as (λ b. filter p (cond b (x ∷ filter q xs) (filter q xs)) ≡ filter p xs) [
        | true ↦ ap (λ b. cond b (x ∷ filter p (filter q xs)) (filter p (filter q xs))) fails ∙ filter-within p q implies xs
        | false ↦ filter-within p q implies xs
      ]
    ] refl

-- a key's spots are those of the entries of its docid
pub spots_in-own : (term : List ℕ) (docid : ℤ) (es : List Entry) → spots_of_key (term, docid) es ≡ spots_of_key (term, docid) (entries_of_docid docid es)
spots_in-own term docid es = ap (map (λ (e : Entry). e.spot)) (sym (filter-within (λ (e : Entry). eq_by_cmp key_cmp (term, docid) (e.term, e.docid)) (λ (e : Entry). int_eq docid e.docid) (λ e h. second_tie (slice_cmp nat_cmp term e.term) (int_cmp docid e.docid) h) es))

pub same_docid : (docid other : ℤ) → int_eq docid other ≡ true → docid ≡ other
same_docid docid other h = int_cmp-IsAntisymmetric docid other (tie _ h)
