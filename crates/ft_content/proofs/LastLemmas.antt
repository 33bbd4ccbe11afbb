-- The last docid of documents, and those that are taken, after a document is put among them.
use Rattle.std.proofs.Common.{◌≡◌, Bool, true, false, cond, ◌||◌, List, [], ◌∷◌, Option, Some, None, ℤ, is_some, refl, sym, ap, subst, ◌∙◌, ◌<ℤ◌, int_lt, slice_get, unwrap_or}
use Rattle.ft_content.proofs.Common.{Ordering, Less, Equal, Greater, MatchOrdering, int_cmp, int_eq, is_eq, is_lt, int_cmp_total, int_ranks, by_order, put, find, below_all, is_sorted, and_parts, Decides-int_eq, has_docid, move_fault, moves_fault, int_max, MatchOption, Cell, Documents, DocidIsTaken, last_docid}
use Rattle.ft_content.proofs.TableLemmas.{less_is}

-- the last docid of some documents
abbrev last_from : ℤ × List Cell → Documents → ℤ
last_from d [] = d.0
last_from d (e ∷ es) = last_from e es

last_is : (d : ℤ × List Cell) (ds : Documents) → last_docid (d ∷ ds) ≡ Some (last_from d ds)
last_is d [] = refl
last_is d (e ∷ es) = last_is e es

below_last : (x : ℤ) (d : ℤ × List Cell) (ds : Documents) → below_all int_cmp x (d ∷ ds) ≡ true → int_cmp x (last_from d ds) ≡ Less
below_last x d [] h = less_is (int_cmp x d.0) (and_parts (is_lt (int_cmp x d.0)) true h).0
below_last x d (e ∷ es) h = below_last x e es (and_parts (is_lt (int_cmp x d.0)) (below_all int_cmp x (e ∷ es)) h).1

last_behind : (d : ℤ × List Cell) (k : ℤ) (v : List Cell) (e : ℤ × List Cell) (es : Documents) → last_docid (d ∷ put int_cmp k v (e ∷ es)) ≡ last_docid (put int_cmp k v (e ∷ es))
last_behind d k v e es =
    elim (int_cmp k e.0) as (λ o. last_docid (d ∷ by_order o ((k, v) ∷ e ∷ es) ((e.0, v) ∷ es) (e ∷ put int_cmp k v es)) ≡ last_docid (by_order o ((k, v) ∷ e ∷ es) ((e.0, v) ∷ es) (e ∷ put int_cmp k v es)))
    [ Less ↦ refl | Equal ↦ refl | Greater ↦ refl ]

last_put : (k : ℤ) (v : List Cell) (d : ℤ × List Cell) (ds : Documents) → is_sorted int_cmp (d ∷ ds) ≡ true →
    last_docid (put int_cmp k v (d ∷ ds)) ≡ Some (by_order (int_cmp k (last_from d ds)) (last_from d ds) (last_from d ds) k)
last_put k v d [] h =
    elim (int_cmp k d.0) as (λ o. last_docid (by_order o ((k, v) ∷ d ∷ []) ((d.0, v) ∷ []) (d ∷ (k, v) ∷ [])) ≡ Some (by_order o d.0 d.0 k)) [ Less ↦ refl | Equal ↦ refl | Greater ↦ refl ]
last_put k v d (e ∷ es) h = by_first (last_put k v e es (and_parts (below_all int_cmp d.0 (e ∷ es)) (is_sorted int_cmp (e ∷ es)) h).1) (int_cmp k d.0) refl
  where
    parts : (below_all int_cmp d.0 (e ∷ es) ≡ true) × (is_sorted int_cmp (e ∷ es) ≡ true)
    parts = and_parts (below_all int_cmp d.0 (e ∷ es)) (is_sorted int_cmp (e ∷ es)) h

    stays : int_cmp k (last_from e es) ≡ Less → last_docid (e ∷ es) ≡ Some (by_order (int_cmp k (last_from e es)) (last_from e es) (last_from e es) k)
    stays less = last_is e es ∙ ap (λ (o : Ordering). Some (by_order o (last_from e es) (last_from e es) k)) (sym less)

    by_first : last_docid (put int_cmp k v (e ∷ es)) ≡ Some (by_order (int_cmp k (last_from e es)) (last_from e es) (last_from e es) k) → (o : Ordering) → int_cmp k d.0 ≡ o →
        last_docid (by_order o ((k, v) ∷ d ∷ e ∷ es) ((d.0, v) ∷ e ∷ es) (d ∷ put int_cmp k v (e ∷ es))) ≡ Some (by_order (int_cmp k (last_from e es)) (last_from e es) (last_from e es) k)
    by_first rest Less same = stays (int_cmp_total.trans k d.0 (last_from e es) same (below_last d.0 e es parts.0))
    by_first rest Equal same = stays (int_cmp_total.congr k d.0 (last_from e es) same ∙ below_last d.0 e es parts.0)
    by_first rest Greater same = last_behind d k v e es ∙ rest

-- the greater of a docid and the last one, if there is one
abbrev pub greater : ℤ → Option ℤ → ℤ
greater k None = k
greater k (Some n) = by_order (int_cmp k n) n n k

last_after : (k : ℤ) (v : List Cell) (documents : Documents) → is_sorted int_cmp documents ≡ true → last_docid (put int_cmp k v documents) ≡ Some (greater k (last_docid documents))
last_after k v [] h = refl
last_after k v (d ∷ ds) h = last_put k v d ds h ∙ ap (λ (o : Option ℤ). Some (greater k o)) (sym (last_is d ds))

pub last_put_among : (k : ℤ) (v : List Cell) (documents : Documents) (last : Option ℤ) → is_sorted int_cmp documents ≡ true → last_docid documents ≡ last → last_docid (put int_cmp k v documents) ≡ Some (greater k last)
last_put_among k v documents last h same = last_after k v documents h ∙ ap (λ (o : Option ℤ). Some (greater k o)) same

pub greater_of : (k : ℤ) (last : Option ℤ) (r : ℤ) → MatchOption last (r ≡ k) (λ n. r ≡ int_max n k) → greater k last ≡ r
greater_of k None r e = sym e
greater_of k (Some n) r e = by_tests (int_lt k n) (int_lt n k) refl refl ∙ sym e
  where
    by_tests : (a b : Bool) → int_lt k n ≡ a → int_lt n k ≡ b → by_order (cond a Less (cond b Greater Equal)) n n k ≡ cond a n k
    by_tests true b below above = refl
    by_tests false true below above = refl
    by_tests false false below above = sym (subst (λ o. MatchOrdering o (k <ℤ n) (k ≡ n) (n <ℤ k)) (λ i. cond (below i) Less (cond (above i) Greater Equal)) (int_ranks k n))

-- ---- docids that are taken

or_again : (a b c : Bool) → (a || (b || c)) ≡ (b || (a || c))
or_again true true c = refl
or_again true false c = refl
or_again false true c = refl
or_again false false c = refl

or_once : (a c : Bool) → (a || c) ≡ (a || (a || c))
or_once true c = refl
or_once false c = refl

-- after a document is put, its docid is taken and each that was
has_docid_put : (q k : ℤ) (v : List Cell) (documents : Documents) → has_docid (put int_cmp k v documents) q ≡ (int_eq q k || has_docid documents q)
has_docid_put q k v [] = elim (int_eq q k) as (λ b. is_some (cond b (Some v) None) ≡ (b || false)) [ true ↦ refl | false ↦ refl ]
has_docid_put q k v (d ∷ ds) = by_first (has_docid_put q k v ds) (int_cmp k d.0) refl
  where
    at : (b : Bool) (x : List Cell) (rest : Option (List Cell)) → is_some (cond b (Some x) rest) ≡ (b || is_some rest)
    at true x rest = refl
    at false x rest = refl

    by_first : has_docid (put int_cmp k v ds) q ≡ (int_eq q k || has_docid ds q) → (o : Ordering) → int_cmp k d.0 ≡ o → is_some (find int_cmp q (by_order o ((k, v) ∷ d ∷ ds) ((d.0, v) ∷ ds) (d ∷ put int_cmp k v ds))) ≡ (int_eq q k || is_some (find int_cmp q (d ∷ ds)))
    by_first rest Less same = at (int_eq q k) v (find int_cmp q (d ∷ ds))
    by_first rest Equal same =
        at (int_eq q d.0) v (find int_cmp q ds) ∙ or_once (int_eq q d.0) (is_some (find int_cmp q ds))
        ∙ ap (λ (k : ℤ). int_eq q k || (int_eq q d.0 || is_some (find int_cmp q ds))) (sym ((Decides-int_eq k d.0).0 (ap is_eq same)))
        ∙ ap (λ b. int_eq q k || b) (sym (at (int_eq q d.0) d.1 (find int_cmp q ds)))
    by_first rest Greater same =
        at (int_eq q d.0) d.1 (find int_cmp q (put int_cmp k v ds)) ∙ ap (λ b. int_eq q d.0 || b) rest
        ∙ or_again (int_eq q d.0) (int_eq q k) (is_some (find int_cmp q ds)) ∙ ap (λ b. int_eq q k || b) (sym (at (int_eq q d.0) d.1 (find int_cmp q ds)))

pub docid_is_taken : DocidIsTaken
docid_is_taken documents docid other cells = has_docid_put other docid cells documents

-- ---- where an Update sets a docid

pub moves_by_first : (documents picked : Documents) (docids : List ℤ) (docid : ℤ) → slice_get docids 0 ≡ Some docid → moves_fault documents picked docids ≡ move_fault documents picked docid
moves_by_first documents picked [] docid first = absurd (let none = first in cc)
moves_by_first documents picked (other ∷ docids) docid first = ap (λ (o : Option ℤ). move_fault documents picked (unwrap_or o other)) first
