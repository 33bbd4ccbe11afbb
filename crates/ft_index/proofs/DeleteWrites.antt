-- What a Delete writes.
use Rattle.std.proofs.Common.{◌≡◌, ◌⊎◌, inl, inr, ℕ, Bool, true, false, cond, not, List, [], ◌∷◌, ◌++◌, map, filter, Option, Some, None, ℤ, refl, sym, ap, ◌∙◌, ◌≢◌}
use Rattle.ft_index.proofs.Common.{Cell, Fault, Content, Documents, IsContent, Filter, Delete, Done, is_chosen, chosen, bare_content, column_of}
use Rattle.ft_index.proofs.Common.{Contents, first_of, option_or, delete_tests, query_fault, deserved, deleted, docids_of, with_documents, on_table}
use Rattle.ft_index.proofs.Common.{after, touched, reply_to, removal, LeadsTo, WritesTable}
use Rattle.ft_values.specs.declared.fault.Fault.TheVariants as faults
use Rattle.ft_values.specs.declared.table.Column as source
use Rattle.ft_content.specs.Step.{delete_fault}
use Rattle.ft_content.proofs.{delete_keeps_content}
use Rattle.ft_index.proofs.SelectAnswers.{unnamed_bare, query_bare}
use Rattle.ft_index.proofs.ChosenWrites.{each_rewritten, chosen_lead, own_docids}
use Rattle.ft_index.proofs.Writing.{IsWrite, memory_or}

abbrev none_after : ℤ × List Cell → Option (List Cell)
none_after d = None

each_removed : (p : ℤ × List Cell → Bool) (ds : Documents) → each_rewritten none_after p ds ≡ filter (λ (d : ℤ × List Cell). not (p d)) ds
each_removed p [] = refl
each_removed p (d ∷ ds) = elim (p d) as (λ b. cond b [] (d ∷ []) ++ each_rewritten none_after p ds ≡ cond (not b) (d ∷ filter (λ (d : ℤ × List Cell). not (p d)) ds) (filter (λ (d : ℤ × List Cell). not (p d)) ds)) [ true ↦ each_removed p ds | false ↦ ap (λ l. d ∷ l) (each_removed p ds) ]

module _ (f : Filter) where
  abbrev pub due : List ℕ → Content → Option Fault
  due table content = delete_fault table content f

  abbrev pub made : Content → Documents
  made content = deleted content f

  abbrev pub gone : Content → List ℤ
  gone content = docids_of (chosen content f)

  pub leaves : (name : List ℕ) (contents : Contents) → after contents (Delete name f) ≡ on_table contents name (with_documents made)
  unfolding after
  leaves name contents = refl

  pub replies : (name : List ℕ) (contents : Contents) → reply_to contents (Delete name f) ≡ Done
  unfolding reply_to
  replies name contents = refl

  pub writes_table : (name : List ℕ) → WritesTable (Delete name f)
  writes_table name = record { name = name; made = made; leaves = leaves name; replies = replies name }

  pub is_write : (name : List ℕ) → IsWrite (Delete name f) name due made gone
  unfolding deserved touched
  is_write name = record {
    deserves = λ contents. refl;
    leaves = leaves name;
    touches = λ contents. refl;
    near = λ contents changes h. h;
    keeps = λ table content is fine. delete_keeps_content table content f is;
  }

  -- removals of the chosen documents
  pub leads : (name : List ℕ) (content : Content) → IsContent name content → LeadsTo content (made content) (gone content) (map removal (chosen content f))
  leads name content is = chosen_lead none_after name content f (made content) (gone content) is (each_removed (is_chosen content f) content.documents) (delete_keeps_content name content f is) (own_docids (chosen content f))

  module _ (content : Content) (cols : List source.Column) (columns_are : content.columns ≡ map column_of cols) (table : List ℕ) where
    tests_are : delete_tests table content f ≡ delete_tests table (bare_content cols) f
    tests_are = ap (λ b. first_of ((b, faults.NoSuchColumn) ∷ [])) (sym (unnamed_bare table (map column_of cols) content f columns_are))

    -- a test that refuses it, and a text that does
    pub tested_due : (fault : Fault) → delete_tests table (bare_content cols) f ≡ Some fault → due table content ≡ Some fault
    tested_due fault tested = ap (λ o. option_or o (query_fault content f)) (tests_are ∙ tested)

    pub text_due : (fault : Fault) → delete_tests table (bare_content cols) f ≡ None → (fault ≢ faults.Memory → query_fault (bare_content cols) f ≡ Some fault) → ((fault ≡ faults.Store) ⊎ (fault ≡ faults.Memory)) ⊎ (due table content ≡ Some fault)
    text_due fault tested refused = go (memory_or fault)
      where
        go : (fault ≡ faults.Memory) ⊎ (fault ≢ faults.Memory) → ((fault ≡ faults.Store) ⊎ (fault ≡ faults.Memory)) ⊎ (due table content ≡ Some fault)
        go (inl memory) = inl (inr memory)
        go (inr other) = inr (ap (λ o. option_or o (query_fault content f)) (tests_are ∙ tested) ∙ sym (query_bare (map column_of cols) content f columns_are) ∙ refused other)

    pub none_due : delete_tests table (bare_content cols) f ≡ None → query_fault (bare_content cols) f ≡ None → due table content ≡ None
    none_due tested fine = ap (λ o. option_or o (query_fault content f)) (tests_are ∙ tested) ∙ sym (query_bare (map column_of cols) content f columns_are) ∙ fine
