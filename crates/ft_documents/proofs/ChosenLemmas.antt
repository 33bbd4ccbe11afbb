-- Documents that are chosen, found by their docids.
use Rattle.std.proofs.Common.{◌≡◌, ℕ, Bool, true, false, cond, List, [], ◌∷◌, map, Option, Some, ℤ, refl, sym, ap, ◌∙◌, filter, unwrap_or, int_cmp, int_eq, is_lt}
use Rattle.ft_content.specs.Answer.{chosen}
use Rattle.ft_documents.proofs.Common.{AllByRecursion, int_cmp_total, eq_by_cmp_equiv, find, below_all, is_sorted, and_parts, exact_signed, PlainHit, Tree, Cell, Content, Documents, IsContent, Filter, All, Docid, is_chosen, query_in, hit_read, chosen_hits, as_wanted, document_if}
use Rattle.ft_documents.specs.Chosen.{document_at}
use Rattle.ft_documents.proofs.KeyedRows.{tie, below_apart, none_below, each_found}

-- a document is found under its docid
abbrev AreFound : (ℤ → Option (List Cell)) → Documents → Type 0
AreFound look documents = AllByRecursion (λ (d : ℤ × List Cell). look d.0 ≡ Some d.1) documents

pub less_apart : (a b : ℤ) → is_lt (int_cmp a b) ≡ true → int_eq b a ≡ false
less_apart a b less = (eq_by_cmp_equiv int_cmp_total).symm b a ∙ below_apart _ less

pub all_found : (ds : Documents) → is_sorted int_cmp ds ≡ true → AreFound (λ k. find int_cmp k ds) ds
all_found ds rising = each_found int_cmp int_cmp_total exact_signed ds rising

found_again : (look : ℤ → Option (List Cell)) (p : ℤ × List Cell → Bool) (ds : Documents) → AreFound look ds → map (λ (d : ℤ × List Cell). (d.0, unwrap_or (look d.0) [])) (filter p ds) ≡ filter p ds
found_again look p [] found = refl
found_again look p (d ∷ ds) found =
    let again : ℤ × List Cell → ℤ × List Cell = λ (d : ℤ × List Cell). (d.0, unwrap_or (look d.0) []) in
    let rest = found_again look p ds found.1 in
    elim (p d) as (λ b. map again (cond b (d ∷ filter p ds) (filter p ds)) ≡ cond b (d ∷ filter p ds) (filter p ds)) [
      | true ↦ λ i. (d.0, unwrap_or (found.0 i) []) ∷ rest i
      | false ↦ rest
    ]

-- the chosen documents, found by their docids
pub chosen_again : (name : List ℕ) (content : Content) (f : Filter) → IsContent name content → map (λ (d : ℤ × List Cell). document_at content d.0) (chosen content f) ≡ chosen content f
unfolding chosen
chosen_again name content f is = found_again (λ k. find int_cmp k content.documents) (is_chosen content f) content.documents (all_found content.documents is.rising)

-- ---- the one of a docid

one_of : (docid : ℤ) (ds : Documents) → is_sorted int_cmp ds ≡ true → filter (λ (d : ℤ × List Cell). int_eq docid d.0) ds ≡ document_if docid (find int_cmp docid ds)
one_of docid [] rising = refl
one_of docid (d ∷ ds) rising =
    let parts = and_parts (below_all int_cmp d.0 ds) (is_sorted int_cmp ds) rising in
    let rest = one_of docid ds parts.1 in
    elim (int_eq docid d.0) as (λ b. int_eq docid d.0 ≡ b → cond b (d ∷ filter (λ (d : ℤ × List Cell). int_eq docid d.0) ds) (filter (λ (d : ℤ × List Cell). int_eq docid d.0) ds) ≡ document_if docid (cond b (Some d.1) (find int_cmp docid ds))) [
      | true ↦ λ same. λ i. (sym (exact_signed docid d.0 (tie _ same)) i, d.1) ∷ (rest ∙ ap (document_if docid) (none_below int_cmp int_cmp_total exact_signed docid d.0 ds same parts.0)) i
      | false ↦ λ apart. rest
    ] refl

pub chosen_one : (name : List ℕ) (content : Content) (docid : ℤ) → IsContent name content → chosen content (Docid docid) ≡ document_if docid (find int_cmp docid content.documents)
unfolding chosen
chosen_one name content docid is = one_of docid content.documents is.rising

-- ---- the documents of hits

pub of_hits : {H : Type 0} (docid : H → ℤ) (plain : H → PlainHit) → ((h : H) → (plain h).docid ≡ docid h) → (name : List ℕ) (content : Content) (f : Filter) (wanted : Bool) (hits : List H) → IsContent name content → map plain hits ≡ map (as_wanted wanted) (chosen_hits content f) →
    map (λ h. document_at content (docid h)) hits ≡ chosen content f
of_hits docid plain same name content f wanted hits is are =
    by_docid hits ∙ ap (map (λ (h : PlainHit). document_at content h.docid)) are ∙ by_document (query_in content f) (chosen content f) ∙ chosen_again name content f is
  where
    by_docid : (hs : List _) → map (λ h. document_at content (docid h)) hs ≡ map (λ (h : PlainHit). document_at content h.docid) (map plain hs)
    by_docid [] = refl
    by_docid (h ∷ hs) = λ i. document_at content (sym (same h) i) ∷ by_docid hs i

    by_document : (query : Option Tree) (ds : Documents) → map (λ (h : PlainHit). document_at content h.docid) (map (as_wanted wanted) (map (hit_read content query) ds)) ≡ map (λ (d : ℤ × List Cell). document_at content d.0) ds
    by_document query [] = refl
    by_document query (d ∷ ds) = ap (λ l. document_at content d.0 ∷ l) (by_document query ds)

all_pass : (ds : Documents) → filter (λ (d : ℤ × List Cell). true) ds ≡ ds
all_pass [] = refl
all_pass (d ∷ ds) = ap (λ l. d ∷ l) (all_pass ds)

pub chosen_all : (content : Content) → chosen content All ≡ content.documents
unfolding chosen
chosen_all content = all_pass content.documents
