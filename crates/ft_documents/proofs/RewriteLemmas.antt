-- Documents after rewrites, found by their docids.
use Rattle.std.proofs.Common.{◌≡◌, Bool, true, false, cond, not, List, [], ◌∷◌, ◌++◌, Option, Some, None, ℤ, refl, sym, ap, ◌∙◌, All, flat_map, option_and_then, Ordering, int_cmp, int_eq, is_lt}
use Rattle.ft_documents.proofs.Common.{IsTotalOrder, int_cmp_total, int_cmp-IsAntisymmetric, find, below_all, is_sorted, is_sorted-put, is_sorted-where_key, find-put, find-where_key, same_entries, and_parts, and_from, All-map, CmpEqualImpliesEq, Cell, Documents, Rewrite, with_cells, rewritten, document_if, befores, afters, under_docids, all_put, changed}
use Rattle.ft_documents.proofs.KeyedRows.{true_of, of_true, none_below, sorted_put, sorted_dropped, all_dropped, replaced, find_renewed, found_holds, turned_round}

abbrev pub Cells : Type 0
Cells = Option (List Cell)

-- ---- documents as they were and as they are to be

abbrev pub held_in : (Rewrite → Cells) → List Rewrite → Documents
held_in held rewrites = flat_map (λ (r : Rewrite). document_if r.docid (held r)) rewrites

below_held : (held : Rewrite → Cells) (docid : ℤ) (rewrites : List Rewrite) → below_all int_cmp docid (under_docids rewrites) ≡ true → below_all int_cmp docid (held_in held rewrites) ≡ true
below_held held docid [] h = refl
below_held held docid (r ∷ rs) h =
    let parts = and_parts (is_lt (int_cmp docid r.docid)) (below_all int_cmp docid (under_docids rs)) h in
    let rest = below_held held docid rs parts.1 in
    elim (held r) as (λ cells. below_all int_cmp docid (document_if r.docid cells ++ held_in held rs) ≡ true) [ None ↦ rest | Some cells ↦ and_from (is_lt (int_cmp docid r.docid)) (below_all int_cmp docid (held_in held rs)) parts.0 rest ]

pub sorted_held : (held : Rewrite → Cells) (rewrites : List Rewrite) → is_sorted int_cmp (under_docids rewrites) ≡ true → is_sorted int_cmp (held_in held rewrites) ≡ true
sorted_held held [] h = refl
sorted_held held (r ∷ rs) h =
    let parts = and_parts (below_all int_cmp r.docid (under_docids rs)) (is_sorted int_cmp (under_docids rs)) h in
    let rest = sorted_held held rs parts.1 in
    elim (held r) as (λ cells. is_sorted int_cmp (document_if r.docid cells ++ held_in held rs) ≡ true) [ None ↦ rest | Some cells ↦ and_from (below_all int_cmp r.docid (held_in held rs)) (is_sorted int_cmp (held_in held rs)) (below_held held r.docid rs parts.0) rest ]

-- a docid below all others has no rewrite
unwritten : (docid : ℤ) (r : Rewrite) (rs : List Rewrite) → int_eq docid r.docid ≡ true → below_all int_cmp r.docid (under_docids rs) ≡ true → find int_cmp docid (under_docids rs) ≡ None
unwritten docid r rs same h = none_below int_cmp int_cmp_total int_cmp-IsAntisymmetric docid r.docid (under_docids rs) same h

find_held : (held : Rewrite → Cells) (docid : ℤ) (rewrites : List Rewrite) → is_sorted int_cmp (under_docids rewrites) ≡ true → find int_cmp docid (held_in held rewrites) ≡ option_and_then held (find int_cmp docid (under_docids rewrites))
find_held held docid [] h = refl
find_held held docid (r ∷ rs) h =
    let parts = and_parts (below_all int_cmp r.docid (under_docids rs)) (is_sorted int_cmp (under_docids rs)) h in
    let rest = find_held held docid rs parts.1 in
    let later = find int_cmp docid (under_docids rs) in
    elim (held r) as (λ cells. held r ≡ cells → find int_cmp docid (document_if r.docid cells ++ held_in held rs) ≡ option_and_then held (cond (int_eq docid r.docid) (Some r) later)) [
      | None ↦ λ is. elim (int_eq docid r.docid) as (λ b. int_eq docid r.docid ≡ b → find int_cmp docid (held_in held rs) ≡ option_and_then held (cond b (Some r) later)) [ true ↦ λ same. rest ∙ ap (option_and_then held) (unwritten docid r rs same parts.0) ∙ sym is | false ↦ λ _. rest ] refl
      | Some cells ↦ λ is. elim (int_eq docid r.docid) as (λ b. cond b (Some cells) (find int_cmp docid (held_in held rs)) ≡ option_and_then held (cond b (Some r) later)) [ true ↦ sym is | false ↦ rest ]
    ] refl

-- ---- documents after rewrites

find_with : (docid : ℤ) (other : ℤ) (cells : Cells) (documents : Documents) → find int_cmp docid (with_cells other cells documents) ≡ cond (int_eq docid other) cells (find int_cmp docid documents)
find_with docid other None documents =
    let p = λ (d : ℤ). not (int_eq other d) in
    find-where_key int_cmp p docid (λ x t. ap p (sym (int_cmp-IsAntisymmetric docid x t))) documents
    ∙ ap (λ b. cond (not b) (find int_cmp docid documents) None) (turned_round other docid)
    ∙ elim (int_eq docid other) as (λ b. cond (not b) (find int_cmp docid documents) None ≡ cond b None (find int_cmp docid documents)) [ true ↦ refl | false ↦ refl ]
find_with docid other (Some cells) documents = find-put int_cmp int_cmp_total docid other cells documents

sorted_with : (docid : ℤ) (cells : Cells) (documents : Documents) → is_sorted int_cmp documents ≡ true → is_sorted int_cmp (with_cells docid cells documents) ≡ true
sorted_with docid None documents h = true_of _ (is_sorted-where_key int_cmp (λ d. not (int_eq docid d)) documents (of_true _ h))
sorted_with docid (Some cells) documents h = true_of _ (is_sorted-put int_cmp int_cmp_total docid cells documents (of_true _ h))

pub sorted_rewritten : (rewrites : List Rewrite) (documents : Documents) → is_sorted int_cmp documents ≡ true → is_sorted int_cmp (rewritten rewrites documents) ≡ true
sorted_rewritten [] documents h = h
sorted_rewritten (r ∷ rs) documents h = sorted_rewritten rs (with_cells r.docid r.after documents) (sorted_with r.docid r.after documents h)

-- what a docid holds after the rewrite of it, if there is one
abbrev pub written : Option Rewrite → Cells → Cells
written None before = before
written (Some r) before = r.after

pub find_rewritten : (docid : ℤ) (rewrites : List Rewrite) (documents : Documents) → is_sorted int_cmp (under_docids rewrites) ≡ true → find int_cmp docid (rewritten rewrites documents) ≡ written (find int_cmp docid (under_docids rewrites)) (find int_cmp docid documents)
find_rewritten docid [] documents h = refl
find_rewritten docid (r ∷ rs) documents h =
    let parts = and_parts (below_all int_cmp r.docid (under_docids rs)) (is_sorted int_cmp (under_docids rs)) h in
    find_rewritten docid rs (with_cells r.docid r.after documents) parts.1
    ∙ ap (written (find int_cmp docid (under_docids rs))) (find_with docid r.docid r.after documents)
    ∙ elim (int_eq docid r.docid) as (λ b. int_eq docid r.docid ≡ b → written (find int_cmp docid (under_docids rs)) (cond b r.after (find int_cmp docid documents)) ≡ written (cond b (Some r) (find int_cmp docid (under_docids rs))) (find int_cmp docid documents)) [
      | true ↦ λ same. ap (λ o. written o r.after) (unwritten docid r rs same parts.0)
      | false ↦ λ _. refl
    ] refl

-- the rewrite of a docid knows what the document was
pub before_found : (docid : ℤ) (documents : Documents) (rewrites : List Rewrite) (r : Rewrite) → All (λ (x : Rewrite). x.before ≡ find int_cmp x.docid documents) rewrites → find int_cmp docid (under_docids rewrites) ≡ Some r → r.before ≡ find int_cmp docid documents
before_found docid documents rewrites r h =
    let P : ℤ × Rewrite → Type 0 = λ e. e.1.before ≡ find int_cmp e.0 documents in
    found_holds int_cmp int_cmp_total int_cmp-IsAntisymmetric P docid r (under_docids rewrites) (All-map P (λ (r : Rewrite). (r.docid, r)) rewrites h)

-- ---- rows that come of documents

-- Rows of documents: in order, and what is found at a key is what comes of the one document of its
-- docid.
pub record AreRowsOf {K V : Type 0} (S : K → K → Ordering) (docid_of : K → ℤ) (rows : Documents → List (K × V)) (one : K → Cells → Option V) : Type 0 where
  pub sorted : (documents : Documents) → is_sorted int_cmp documents ≡ true → is_sorted S (rows documents) ≡ true
  pub found : (q : K) (documents : Documents) → is_sorted int_cmp documents ≡ true → find S q (rows documents) ≡ one q (find int_cmp (docid_of q) documents)
  pub none : (q : K) → one q None ≡ None

module _ {K V : Type 0} (S : K → K → Ordering) (o : IsTotalOrder S) (exact : CmpEqualImpliesEq S) (docid_of : K → ℤ) (rows : Documents → List (K × V)) (one : K → Cells → Option V) (are : AreRowsOf S docid_of rows one)
    (documents : Documents) (rewrites : List Rewrite) (ordered : is_sorted int_cmp documents ≡ true) (rising : is_sorted int_cmp (under_docids rewrites) ≡ true) (known : All (λ (r : Rewrite). r.before ≡ find int_cmp r.docid documents) rewrites) where
  old_rows : (q : K) → find S q (rows (befores rewrites)) ≡ one q (option_and_then (λ (r : Rewrite). r.before) (find int_cmp (docid_of q) (under_docids rewrites)))
  old_rows q = are.found q (befores rewrites) (sorted_held (λ r. r.before) rewrites rising) ∙ ap (one q) (find_held (λ r. r.before) (docid_of q) rewrites rising)

  new_rows : (q : K) → find S q (rows (afters rewrites)) ≡ one q (option_and_then (λ (r : Rewrite). r.after) (find int_cmp (docid_of q) (under_docids rewrites)))
  new_rows q = are.found q (afters rewrites) (sorted_held (λ r. r.after) rewrites rising) ∙ ap (one q) (find_held (λ r. r.after) (docid_of q) rewrites rising)

  pub last_rows : (q : K) → find S q (rows (rewritten rewrites documents)) ≡ one q (written (find int_cmp (docid_of q) (under_docids rewrites)) (find int_cmp (docid_of q) documents))
  last_rows q = are.found q (rewritten rewrites documents) (sorted_rewritten rewrites documents ordered) ∙ ap (one q) (find_rewritten (docid_of q) rewrites documents rising)

  -- the rows that documents had are there
  pub old_there : (q : K) (v : V) → find S q (rows (befores rewrites)) ≡ Some v → find S q (rows documents) ≡ Some v
  old_there q v =
      elim (find int_cmp (docid_of q) (under_docids rewrites)) as (λ x. find int_cmp (docid_of q) (under_docids rewrites) ≡ x → find S q (rows (befores rewrites)) ≡ Some v → find S q (rows documents) ≡ Some v) [
        | None ↦ λ is h. absurd (let no : None ≡ Some v = sym (old_rows q ∙ ap (λ x. one q (option_and_then (λ (r : Rewrite). r.before) x)) is ∙ are.none q) ∙ h in cc)
        | Some r ↦ λ is h. are.found q documents ordered ∙ ap (one q) (sym (before_found (docid_of q) documents rewrites r known is)) ∙ sym (old_rows q ∙ ap (λ x. one q (option_and_then (λ (r : Rewrite). r.before) x)) is) ∙ h
      ] refl

  pub sorted_befores : is_sorted S (rows (befores rewrites)) ≡ true
  sorted_befores = are.sorted (befores rewrites) (sorted_held (λ r. r.before) rewrites rising)

  pub sorted_afters : is_sorted S (rows (afters rewrites)) ≡ true
  sorted_afters = are.sorted (afters rewrites) (sorted_held (λ r. r.after) rewrites rising)

  replaced_by : (q : K) → replaced S o exact (find S q (rows (befores rewrites))) (find S q (rows (afters rewrites))) (find S q (rows documents)) ≡ find S q (rows (rewritten rewrites documents))
  replaced_by q =
      let there = are.found q documents ordered in
      elim (find int_cmp (docid_of q) (under_docids rewrites)) as (λ x. find int_cmp (docid_of q) (under_docids rewrites) ≡ x → replaced S o exact (find S q (rows (befores rewrites))) (find S q (rows (afters rewrites))) (find S q (rows documents)) ≡ find S q (rows (rewritten rewrites documents))) [
        | None ↦ λ is.
            (λ i. replaced S o exact ((old_rows q ∙ ap (λ x. one q (option_and_then (λ (r : Rewrite). r.before) x)) is ∙ are.none q) i) ((new_rows q ∙ ap (λ x. one q (option_and_then (λ (r : Rewrite). r.after) x)) is ∙ are.none q) i) (there i))
            ∙ sym (last_rows q ∙ ap (λ x. one q (written x (find int_cmp (docid_of q) documents))) is)
        | Some r ↦ λ is.
            (λ i. replaced S o exact ((old_rows q ∙ ap (λ x. one q (option_and_then (λ (r : Rewrite). r.before) x)) is) i) ((new_rows q ∙ ap (λ x. one q (option_and_then (λ (r : Rewrite). r.after) x)) is) i) ((there ∙ ap (one q) (sym (before_found (docid_of q) documents rewrites r known is))) i))
            ∙ settled (one q r.before) (one q r.after)
            ∙ sym (last_rows q ∙ ap (λ x. one q (written x (find int_cmp (docid_of q) documents))) is)
      ] refl
    where
      settled : (a b : Option V) → replaced S o exact a b a ≡ b
      settled None None = refl
      settled (Some v) None = refl
      settled a (Some w) = refl

  -- Rows of rewrites: where those that are gone or differ are dropped and the changed ones are put,
  -- the rows are those of the documents as they are to be.
  pub rows_renewed : (same other : V → V → Bool) → ((v w : V) → same v w ≡ true → (v ≡ w) × (other w v ≡ true)) →
      all_put S (changed S same (rows (befores rewrites)) (rows (afters rewrites))) (all_dropped S o exact (changed S other (rows (afters rewrites)) (rows (befores rewrites))) (rows documents)) ≡ rows (rewritten rewrites documents)
  rows_renewed same other sound =
      let old = rows (befores rewrites) in
      let new = rows (afters rewrites) in
      let gone = changed S other new old in
      same_entries S o exact _ _ (of_true _ (sorted_put S o exact (changed S same old new) (all_dropped S o exact gone (rows documents)) (sorted_dropped S o exact gone (rows documents) (are.sorted documents ordered))))
      (of_true _ (are.sorted (rewritten rewrites documents) (sorted_rewritten rewrites documents ordered)))
      (λ q. find_renewed S o exact same other sound q old new (rows documents) sorted_befores sorted_afters (old_there q) ∙ replaced_by q)
