-- What lists mean that can be relied on, and what reads leave of them.
use Rattle.std.proofs.Common.{◌≡◌, ℕ, ℤ, ◌+◌, ◌-◌, ◌^◌, ◌&&◌, min, true, Bool, List, map, sym, ap, subst, ◌∙◌, arith, IsTrue, bytes_eq, int_eq, is_eq}
use Rattle.ft_index.proofs.Common.{eq_by_cmp_equiv, where_key, HasCleanDisk, Survives, Database, Ghosts, lists_with, StoreValue, ListKey}
use Rattle.ft_index.proofs.Common.{list_key_cmp, name_cmp, value_of, StoreState, shows, value_in, Content, IsContent, IndexRows, index_rows}
use Rattle.ft_index.proofs.Common.{content_documents, table_index, table_documents, IsIndexed}
use Rattle.std.specs.Cmp.Lexicographic.{nat_list_cmp_total}
use Rattle.std.proofs.lemmas.Map.Text.{is_eq-slice_cmp}
use Rattle.std.proofs.lemmas.Slice.Eq.{bytes_eq-Decides}
use Rattle.ft_match.specs.Documents.{AreDocuments, PlaceList}
use Rattle.ft_match.proofs.{postings_rise, documents_are}
use Rattle.ft_values.specs.declared.rows.ListRow.{ListRow}
use Rattle.ft_rows.specs.Shown.{shown_list, bare_list, lists_under_term}
use Rattle.ft_store.specs.Calls.{Keeps}
use Rattle.ft_content.specs.Meaning.{documents_in, DocumentsAreInOrder}
use Rattle.ft_content.proofs.{lists_mean, terms_are_their_lists, terms_are_counted, documents_are_in_order}
use Rattle.ft_documents.specs.Placed.{list_of, AreListsOf}
use Rattle.ft_index.specs.Walked.{AreReliable, ReadsStore}
use Rattle.ft_store.specs.Kept.{more_rows}
use Rattle.ft_documents.proofs.{asked_answer, term_rows}

in_order : DocumentsAreInOrder
in_order = documents_are_in_order documents_are

-- what lists of a content's index rows mean
pub indexed_means : {S : Type 0} (g : Ghosts S) (tab : ℤ) (store : StoreState S) (name : List ℕ) (content : Content) → IsContent name content → table_index tab (value_in g store) ≡ index_rows content → table_documents g tab store ≡ content_documents content
unfolding table_documents
indexed_means g tab store name content is index = ap (λ (rows : IndexRows). documents_in rows.lists) index ∙ lists_mean postings_rise name content is

-- the lists of a table whose index rows are those of a content
pub reliable_of : {S : Type 0} (g : Ghosts S) (tab : ℤ) (store : StoreState S) (name : List ℕ) (content : Content) → HasCleanDisk (shows g store) → IsTrue (shows g store).is_open → IsContent name content →
    table_index tab (value_in g store) ≡ index_rows content → AreReliable g tab store
reliable_of g tab store name content clean is_open is index = record {
  clean = clean;
  is_open = is_open;
  name = name;
  content = content;
  is_content = is;
  index = index;
  in_order = subst AreDocuments (sym (indexed_means g tab store name content is index)) (in_order name content is);
}

-- the test of a term
pub asks_term : (tab : ℤ) (term : List ℕ) (k : ListKey) → (int_eq tab k.0 && is_eq (name_cmp term k.1)) ≡ (int_eq tab k.0 && bytes_eq k.1 term)
asks_term tab term k = ap (λ b. int_eq tab k.0 && b) ((eq_by_cmp_equiv nat_list_cmp_total).symm term k.1 ∙ is_eq-slice_cmp k.1 term)

module _ {S : Type 0} (g : Ghosts S) (tab : ℤ) (old new : StoreState S) (kept : HasCleanDisk (shows g new) → Keeps (shows g old) (shows g new)) where
  same_value : AreReliable g tab new → value_in g new ≡ value_in g old
  same_value h = ap (λ (d : Database). value_of d.trees) (kept h.clean h.is_open).0

  -- reads leave what the lists mean
  still_reliable : Survives (shows g old) (shows g new) (λ _. IsTrue (shows g old).is_open → ⊥) → AreReliable g tab new → AreReliable g tab old × (table_documents g tab new ≡ table_documents g tab old)
  unfolding table_documents
  still_reliable survives h =
      let same = same_value h in (
        reliable_of g tab old h.name h.content (omega (arith, survives.clean, h.clean)) (kept h.clean h.is_open).2 h.is_content (subst (λ (v : StoreValue). table_index tab v ≡ index_rows h.content) same h.index),
        ap (λ (v : StoreValue). documents_in (table_index tab v).lists) same,
      )

  -- the same, said of lists that stand so
  pub still_after : {at : ℤ} {store : StoreState S} → Survives (shows g old) (shows g new) (λ _. IsTrue (shows g old).is_open → ⊥) → at ≡ tab → store ≡ new → AreReliable g at store → AreReliable g tab old × (table_documents g at store ≡ table_documents g tab old)
  still_after {at} {store} survives same_tab same h =
      let stays = still_reliable survives (subst (AreReliable g tab) same (subst (λ k. AreReliable g k store) same_tab h)) in
      (stays.0, (λ i. table_documents g (same_tab i) (same i)) ∙ stays.1)

  -- the rows of the lists that are asked are what a walk wants
  pub walk_answer : (asks : ListKey → Bool) (test : List ℕ → Bool) → ((k : ListKey) → asks k ≡ (int_eq tab k.0 && test k.1)) → (rows : List ListRow) →
      (HasCleanDisk (shows g new) → map shown_list rows ≡ map bare_list (where_key list_key_cmp asks (value_in g old).lists)) →
      (found : List PlaceList) → AreListsOf rows found → AreReliable g tab new → found ≡ lists_with test (table_documents g tab new)
  walk_answer asks test same rows read found shown h =
      let order = in_order h.name h.content h.is_content in
      let lists = (index_rows h.content).lists in
      asked_answer (content_documents h.content) order test lists (terms_are_their_lists postings_rise h.name h.content test h.is_content) (terms_are_counted h.name h.content test h.is_content)
      tab asks same (value_in g new).lists (ap (λ (r : IndexRows). r.lists) h.index) rows (read h.clean ∙ ap (λ (v : StoreValue). map bare_list (where_key list_key_cmp asks v.lists)) (sym (same_value h))) found shown
      ∙ ap (lists_with test) (sym (indexed_means g tab new h.name h.content h.is_content h.index))

  -- those of one term are its rows, as they come
  pub term_answer : (term : List ℕ) (rows : List ListRow) → (HasCleanDisk (shows g new) → map shown_list rows ≡ map bare_list (lists_under_term tab term (value_in g old))) →
      AreReliable g tab new → map list_of rows ≡ lists_with (λ t. bytes_eq t term) (table_documents g tab new)
  term_answer term rows read h =
      let test : List ℕ → Bool = λ t. bytes_eq t term in
      let asks : ListKey → Bool = λ k. int_eq tab k.0 && is_eq (name_cmp term k.1) in
      walk_answer asks test (asks_term tab term) rows read (map list_of rows)
      (term_rows h.name h.content h.is_content test (λ a b here there. (bytes_eq-Decides a term).0 here ∙ sym ((bytes_eq-Decides b term).0 there)) tab asks (asks_term tab term) (value_in g new).lists
      (ap (λ (r : IndexRows). r.lists) h.index) rows (read h.clean ∙ ap (λ (v : StoreValue). map bare_list (lists_under_term tab term v)) (sym (same_value h)))) h

-- a read that is answered, which counts the places that it gives
pub gives : {S : Type 0} (g : Ghosts S) (old new : StoreState S) (given n : ℕ) {now : StoreState S} {given_now : ℕ} → (HasCleanDisk (shows g new) → Keeps (shows g old) (shows g new)) → (HasCleanDisk (shows g new) → IsTrue (shows g new).is_open) →
    Survives (shows g old) (shows g new) (λ _. IsTrue (shows g old).is_open → ⊥) → new.rows_read ≡ more_rows n old → now ≡ new → given_now ≡ min (given + n) (2 ^ 64 - 1) → ReadsStore g old given true now given_now
gives g old new given n {now} {given_now} kept live survives counted same is =
    subst (λ s. ReadsStore g old given true s given_now) (sym same) (record { kept = kept; live = λ clean _. live clean; survives = survives; counted = λ _. (n, counted, is) })

-- the lists of a table that was indexed can be relied on after reads
pub now_reliable : {S : Type 0} (g : Ghosts S) (tab at : ℤ) (old new : StoreState S) (content : Content) → at ≡ tab → (HasCleanDisk (shows g new) → Keeps (shows g old) (shows g new)) → IsIndexed g tab old new content →
    AreReliable g at new × (table_documents g at new ≡ content_documents content)
now_reliable g tab at old new content same kept h =
    let index : table_index at (value_in g new) ≡ index_rows content = (λ i. table_index (same i) (value_of ((kept h.clean h.is_open).0 i).trees)) ∙ h.index in
    (reliable_of g at new h.name content h.clean h.is_open h.is_content index, indexed_means g at new h.name content h.is_content index)

-- the same, said of equal states
pub indexed_at : {S : Type 0} {g : Ghosts S} {tab : ℤ} {old last : StoreState S} {content : Content} (at : ℤ) (first new : StoreState S) → IsIndexed g tab old last content → at ≡ tab → first ≡ old → last ≡ new → IsIndexed g at first new content
indexed_at {S} {g} {tab} {old} {last} {content} at first new h same_tab same_old same_new =
    subst (λ (s : StoreState S). IsIndexed g at first s content) same_new (subst (λ (s : StoreState S). IsIndexed g at s last content) (sym same_old) (subst (λ t. IsIndexed g t old last content) (sym same_tab) h))

pub rows_at : {S : Type 0} {g : Ghosts S} {tab : ℤ} {old last : StoreState S} {content : Content} {n : ℕ} (new : StoreState S) → IsIndexed g tab old last content → last ≡ new → new.rows_read ≡ n → last.rows_read ≡ n
rows_at new h same is = ap (λ s. s.rows_read) same ∙ is
