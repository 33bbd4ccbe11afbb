-- What an Update deserves, and what it writes.
use Rattle.std.proofs.Common.{◌≡◌, ◌≢◌, ◌⊎◌, inl, inr, ℕ, Bool, true, false, not, ◌&&◌, ◌||◌, List, [], ◌∷◌, map, length, Option, Some, None, ℤ, refl, sym, ap, ◌∙◌, cond, ◌++◌, subst, nat_lt, slice_get, Contains, Ordering, Less, Equal, Greater, int_cmp, int_eq, is_lt, is_eq}
use Rattle.ft_index.proofs.Common.{list_all, list_any, AllByRecursion, Cell, Fault, Content, Documents, is_docid, repeats_name, IsContent, Filter}
use Rattle.ft_index.proofs.Common.{Update, Done, chosen, is_chosen, bare_content, column_of, Contents, first_of, option_or, on_sound, has_column}
use Rattle.ft_index.proofs.Common.{docids_named, query_fault, moves_fault, update_tests, deserved, has_docid, updated, with_documents, on_table}
use Rattle.ft_index.proofs.Common.{after, touched, reply_to, docids_of, without_docid, WritesTable, LeadsTo, same_int, ordering_reverse}
use Rattle.ft_index.proofs.Common.{int_cmp_total, eq_by_cmp_equiv, put, find, is_sorted, is_sorted-put, is_sorted-where_key, find-put, find-where_key}
use Rattle.ft_index.proofs.Common.{same_entries, exact_signed, Contains-push, Contains-append_left, Rewrite, under_docids, rewritten}
use Rattle.ft_content.specs.Content.{is_too_long, has_nul}
use Rattle.ft_content.specs.Step.{is_text, is_null, update_fault, with_values}
use Rattle.ft_content.specs.Step.{docid_if_any, moved}
use Rattle.ft_content.proofs.{update_keeps_content}
use Rattle.ft_documents.specs.Updated.{update_touches, changing, leaving, coming, moved_from, MayMove}
use Rattle.ft_index.proofs.OneTable.{not_some}
use Rattle.ft_index.proofs.SelectAnswers.{unnamed_bare, query_bare}
use Rattle.ft_index.proofs.Writing.{IsWrite, memory_or}
use Rattle.std.proofs.lemmas.Float.{T_from_true}
use Rattle.ft_store.proofs.{put-without_key}
use Rattle.ft_documents.proofs.{own_put, all_found, are_of}
use Rattle.ft_index.proofs.ChosenWrites.{each_rewritten, befores, all_rewritten, chosen_lead, own_docids}
use Rattle.ft_values.specs.declared.fault.Fault.TheVariants as faults
use Rattle.ft_values.specs.declared.table.Column as source

module _ (sets : List (List ℕ × Cell)) (f : Filter) where
  abbrev pub due : List ℕ → Content → Option Fault
  due table content = update_fault table content sets f

  abbrev pub made : Content → Documents
  made content = updated content sets f

  abbrev pub touches : Content → List ℤ
  touches content = update_touches content sets f

  abbrev names : List (List ℕ)
  names = map (λ (s : List ℕ × Cell). s.0) sets

  pub leaves : (name : List ℕ) (contents : Contents) → after contents (Update name sets f) ≡ on_table contents name (with_documents made)
  unfolding after
  leaves name contents = refl

  pub replies : (name : List ℕ) (contents : Contents) → reply_to contents (Update name sets f) ≡ Done
  unfolding reply_to
  replies name contents = refl

  pub writes_table : (name : List ℕ) → WritesTable (Update name sets f)
  writes_table name = record { name = name; made = made; leaves = leaves name; replies = replies name }

  pub repeats_due : (name : List ℕ) (contents : Contents) → repeats_name names ≡ true → deserved contents (Update name sets f) ≡ Some faults.DuplicateColumn
  unfolding deserved
  repeats_due name contents twice = ap (λ b. option_or (first_of ((b, faults.DuplicateColumn) ∷ [])) (on_sound contents name due)) twice

  once : (name : List ℕ) (contents : Contents) → repeats_name names ≡ false → deserved contents (Update name sets f) ≡ on_sound contents name due
  unfolding deserved
  once name contents apart = ap (λ b. option_or (first_of ((b, faults.DuplicateColumn) ∷ [])) (on_sound contents name due)) apart

  pub is_write : (name : List ℕ) → repeats_name names ≡ false → IsWrite (Update name sets f) name due made touches
  unfolding touched
  is_write name apart = record {
    deserves = λ contents. once name contents apart;
    leaves = leaves name;
    touches = λ contents. refl;
    near = λ contents changes h. h;
    keeps = λ table content is fine. update_keeps_content table content sets f is fine;
  }

  module _ (content : Content) (cols : List source.Column) (columns_are : content.columns ≡ map column_of cols) (table : List ℕ) where
    abbrev later : List (Bool × Fault)
    later = (list_any (λ (s : List ℕ × Cell). is_docid s.0 && (is_text s.1 || is_null s.1)) sets, faults.DocidKind)
        ∷ (nat_lt 1 (length (docids_named sets)), faults.DocidTwice)
        ∷ (list_any (λ (s : List ℕ × Cell). is_too_long s.1) sets, faults.TooLong)
        ∷ (list_any (λ (s : List ℕ × Cell). has_nul s.1) sets, faults.HasNul)
        ∷ []

    tests_are : update_tests table content sets f ≡ update_tests table (bare_content cols) sets f
    tests_are = λ i. first_of ((not (list_all (λ (s : List ℕ × Cell). has_column (record { columns = columns_are i; documents = [] }) s.0) sets) || sym (unnamed_bare table (map column_of cols) content f columns_are) i, faults.NoSuchColumn) ∷ later)

    abbrev moves : Option Fault
    moves = moves_fault content.documents (chosen content f) (docids_named sets)

    -- a test that refuses it
    pub tested_due : (fault : Fault) → update_tests table (bare_content cols) sets f ≡ Some fault → due table content ≡ Some fault
    tested_due fault tested = ap (λ o. option_or o (option_or (query_fault content f) moves)) (tests_are ∙ tested)

    -- the text of its MATCH refuses it, or memory
    pub text_due : (fault : Fault) → update_tests table (bare_content cols) sets f ≡ None → (fault ≢ faults.Memory → query_fault (bare_content cols) f ≡ Some fault) → ((fault ≡ faults.Store) ⊎ (fault ≡ faults.Memory)) ⊎ (due table content ≡ Some fault)
    text_due fault tested refused = go (memory_or fault)
      where
        go : (fault ≡ faults.Memory) ⊎ (fault ≢ faults.Memory) → ((fault ≡ faults.Store) ⊎ (fault ≡ faults.Memory)) ⊎ (due table content ≡ Some fault)
        go (inl memory) = inl (inr memory)
        go (inr other) = inr (ap (λ o. option_or o (option_or (query_fault content f) moves)) (tests_are ∙ tested) ∙ ap (λ o. option_or o moves) (sym (query_bare (map column_of cols) content f columns_are) ∙ refused other))

    -- then it is what the docids deserve
    pub moves_due : update_tests table (bare_content cols) sets f ≡ None → query_fault (bare_content cols) f ≡ None → due table content ≡ moves
    moves_due tested fine = ap (λ o. option_or o (option_or (query_fault content f) moves)) (tests_are ∙ tested) ∙ ap (λ o. option_or o moves) (sym (query_bare (map column_of cols) content f columns_are) ∙ fine)

-- ---- documents that are put and taken out

-- what is put under a docid goes with it
gone_put : (docid : ℤ) (cells : List Cell) (ds : Documents) → is_sorted int_cmp ds ≡ true → without_docid docid (put int_cmp docid cells ds) ≡ without_docid docid ds
gone_put docid cells ds sorted =
    same_entries int_cmp int_cmp_total exact_signed (without_docid docid (put int_cmp docid cells ds)) (without_docid docid ds)
    (is_sorted-where_key int_cmp other (put int_cmp docid cells ds) (is_sorted-put int_cmp int_cmp_total docid cells ds (T_from_true _ sorted)))
    (is_sorted-where_key int_cmp other ds (T_from_true _ sorted))
    (λ q. find-where_key int_cmp other q (alike q) (put int_cmp docid cells ds) ∙ ap (λ o. cond (other q) o None) (find-put int_cmp int_cmp_total q docid cells ds) ∙ go q (int_eq q docid) refl
    ∙ sym (find-where_key int_cmp other q (alike q) ds))
  where
    other : ℤ → Bool
    other x = not (int_eq docid x)

    alike : (q x : ℤ) → int_cmp q x ≡ Equal → other x ≡ other q
    alike q x e = ap other (sym (exact_signed q x e))

    go : (q : ℤ) (b : Bool) → int_eq q docid ≡ b → cond (other q) (cond (int_eq q docid) (Some cells) (find int_cmp q ds)) None ≡ cond (other q) (find int_cmp q ds) None
    go q true e =
        let none : other q ≡ false = ap not ((eq_by_cmp_equiv int_cmp_total).symm docid q ∙ e) in
        ap (λ b. cond b (cond (int_eq q docid) (Some cells) (find int_cmp q ds)) None) none ∙ sym (ap (λ b. cond b (find int_cmp q ds) None) none)
    go q false e = ap (λ b. cond (other q) (cond b (Some cells) (find int_cmp q ds)) None) e

greater_is : (o : Ordering) → is_eq o ≡ false → is_lt o ≡ false → o ≡ Greater
greater_is Less eq lt = absurd (let no = lt in cc)
greater_is Equal eq lt = absurd (let no = eq in cc)
greater_is Greater eq lt = refl

-- a document that gets another docid
module _ (docs : Documents) (sorted : is_sorted int_cmp docs ≡ true) (r : Rewrite) (cells : List Cell) (after_is : r.after ≡ Some cells) (docid : ℤ) where
  abbrev Moved : Documents
  Moved = put int_cmp docid cells (without_docid r.docid docs)

  forwards : rewritten (leaving r ∷ coming r docid ∷ []) docs ≡ Moved
  forwards = ap (λ o. rewritten (record { docid = docid; before = None; after = o } ∷ []) (without_docid r.docid docs)) after_is

  backwards : int_eq r.docid docid ≡ false → rewritten (coming r docid ∷ leaving r ∷ []) docs ≡ Moved
  backwards apart =
      ap (λ o. rewritten (record { docid = docid; before = None; after = o } ∷ leaving r ∷ []) docs) after_is
      ∙ own_put int_cmp int_cmp_total exact_signed (λ x. not (int_eq r.docid x)) docid cells docs (ap not apart) sorted

  module _ (found : r.before ≡ find int_cmp r.docid docs) (free : find int_cmp docid docs ≡ None) (apart : int_eq r.docid docid ≡ false) where
    -- what is to be known of the two rewrites
    pub record AreMoves (rewrites : List Rewrite) : Type 0 where
      pub rising : is_sorted int_cmp (under_docids rewrites) ≡ true
      pub knows : AllByRecursion (λ (x : Rewrite). x.before ≡ find int_cmp x.docid docs) rewrites
      pub made : rewritten rewrites docs ≡ Moved
      pub near : AllByRecursion (λ (x : Rewrite). Contains (r.docid ∷ docid ∷ []) x.docid) rewrites

    first : Contains (r.docid ∷ docid ∷ []) r.docid
    first = Contains-append_left (r.docid ∷ []) (docid ∷ []) r.docid (Contains-push [] r.docid)

    second : Contains (r.docid ∷ docid ∷ []) docid
    second = Contains-push (r.docid ∷ []) docid

    pub are_moves : AreMoves (cond (is_lt (int_cmp r.docid docid)) (leaving r ∷ coming r docid ∷ []) (coming r docid ∷ leaving r ∷ []))
    are_moves = go (is_lt (int_cmp r.docid docid)) refl
      where
        go : (b : Bool) → is_lt (int_cmp r.docid docid) ≡ b → AreMoves (cond b (leaving r ∷ coming r docid ∷ []) (coming r docid ∷ leaving r ∷ []))
        go true less = record {
          rising = ap (λ b. (b && true) && true) less;
          knows = (found, (sym free, tt));
          made = forwards;
          near = (first, (second, tt));
        }
        go false not_less = record {
          rising = ap (λ o. (is_lt o && true) && true) (int_cmp_total.antisymm docid r.docid ∙ ap ordering_reverse (greater_is (int_cmp r.docid docid) apart not_less));
          knows = (sym free, (found, tt));
          made = backwards apart;
          near = (second, (first, tt));
        }

-- ---- the documents after an Update

module _ (sets : List (List ℕ × Cell)) (f : Filter) where
  abbrev set_in : Content → ℤ × List Cell → List Cell
  set_in content d = with_values sets content.columns d.1

  abbrev after_in : Content → ℤ × List Cell → Option (List Cell)
  after_in content d = Some (set_in content d)

  -- the documents with their values, before one moves
  abbrev set_all : Content → Documents
  set_all content = map (λ (d : ℤ × List Cell). cond (is_chosen content f d) (d.0, set_in content d) d) content.documents

  each_set : (content : Content) (ds : Documents) → each_rewritten (after_in content) (is_chosen content f) ds ≡ map (λ (d : ℤ × List Cell). cond (is_chosen content f d) (d.0, set_in content d) d) ds
  each_set content [] = refl
  each_set content (d ∷ ds) = elim (is_chosen content f d) as (λ b. cond b ((d.0, set_in content d) ∷ []) (d ∷ []) ++ each_rewritten (after_in content) (is_chosen content f) ds ≡ cond b (d.0, set_in content d) d ∷ map (λ (d : ℤ × List Cell). cond (is_chosen content f d) (d.0, set_in content d) d) ds) [
    | true ↦ ap (λ l. (d.0, set_in content d) ∷ l) (each_set content ds)
    | false ↦ ap (λ l. d ∷ l) (each_set content ds)
  ]

  abbrev moved_in : Content → Documents → List ℤ → Documents
  moved_in content picked docids = moved (set_all content) (map (λ (d : ℤ × List Cell). (d.0, set_in content d)) picked) docids

  -- where none moves
  stay : (name : List ℕ) (content : Content) (touched : List ℤ) → IsContent name content → IsContent name (record content { documents = set_all content }) → AllByRecursion (Contains touched) (docids_of (chosen content f)) →
      LeadsTo content (set_all content) touched (map (changing sets content.columns) (chosen content f))
  stay name content touched is makes near = chosen_lead (after_in content) name content f (set_all content) touched is (each_set content content.documents) makes near

  all_more : {X : Type 0} (docid : X → ℤ) (xs ys : List ℤ) (zs : List X) → AllByRecursion (λ z. Contains xs (docid z)) zs → AllByRecursion (λ z. Contains (xs ++ ys) (docid z)) zs
  all_more docid xs ys [] h = tt
  all_more docid xs ys (z ∷ zs) h = (Contains-append_left xs ys (docid z) h.0, all_more docid xs ys zs h.1)

  -- where the only one may get another docid
  alone : (content : Content) (d : ℤ × List Cell) → is_sorted int_cmp content.documents ≡ true → chosen content f ≡ d ∷ [] → set_all content ≡ put int_cmp d.0 (set_in content d) content.documents
  unfolding chosen
  alone content d sorted are =
      sym (all_rewritten (after_in content) (is_chosen content f) content.documents sorted ∙ each_set content content.documents)
      ∙ ap (λ ds. rewritten (map (changing sets content.columns) ds) content.documents) are

  found_one : (content : Content) (d : ℤ × List Cell) → is_sorted int_cmp content.documents ≡ true → chosen content f ≡ d ∷ [] → Some d.1 ≡ find int_cmp d.0 content.documents
  unfolding chosen
  found_one content d sorted are =
      (subst (λ ds. AllByRecursion (λ (r : Rewrite). r.before ≡ find int_cmp r.docid content.documents) (map (changing sets content.columns) ds)) are
      (befores (after_in content) (λ k. find int_cmp k content.documents) (is_chosen content f) content.documents (all_found content.documents sorted))).0

  free_one : (documents : Documents) (d : ℤ × List Cell) (docid : ℤ) → int_eq d.0 docid ≡ false → cond (has_docid documents docid && not (int_eq d.0 docid)) (Some (faults.DocidTaken docid)) None ≡ None → find int_cmp docid documents ≡ None
  free_one documents d docid apart fine = not_some (find int_cmp docid documents) (go (has_docid documents docid) (ap (λ b. cond (has_docid documents docid && not b) (Some (faults.DocidTaken docid)) None) (sym apart) ∙ fine))
    where
      go : (b : Bool) → cond (b && true) (Some (faults.DocidTaken docid)) None ≡ None → b ≡ false
      go true h = absurd (let no = h in cc)
      go false h = refl

  one_leads : (name : List ℕ) (content : Content) (docid : ℤ) (docids : List ℤ) (d : ℤ × List Cell) (rewrites : List Rewrite) → chosen content f ≡ d ∷ [] → IsContent name content → moves_fault content.documents (d ∷ []) (docid ∷ docids) ≡ None →
      IsContent name (record content { documents = moved_in content (d ∷ []) (docid ∷ docids) }) → rewrites ≡ moved_from (changing sets content.columns d) docid → LeadsTo content (moved_in content (d ∷ []) (docid ∷ docids)) (d.0 ∷ docid ∷ docids) rewrites
  one_leads name content docid docids d rewrites are is fine makes moves = go (int_eq d.0 docid) refl
    where
      r : Rewrite
      r = changing sets content.columns d

      docs : Documents
      docs = content.documents

      cells : List Cell
      cells = set_in content d

      touched : List ℤ
      touched = d.0 ∷ docid ∷ docids

      here : put int_cmp docid cells (without_docid d.0 (set_all content)) ≡ put int_cmp docid cells (without_docid d.0 docs)
      here = ap (λ ds. put int_cmp docid cells (without_docid d.0 ds)) (alone content d is.rising are) ∙ ap (put int_cmp docid cells) (gone_put d.0 cells docs is.rising)

      parts : List Rewrite
      parts = cond (is_lt (int_cmp d.0 docid)) (leaving r ∷ coming r docid ∷ []) (coming r docid ∷ leaving r ∷ [])

      go : (b : Bool) → int_eq d.0 docid ≡ b → LeadsTo content (put int_cmp docid cells (without_docid d.0 (set_all content))) touched rewrites
      go true same =
          let stays : put int_cmp docid cells (without_docid d.0 (set_all content)) ≡ set_all content =
          here ∙ ap (λ k. put int_cmp k cells (without_docid d.0 docs)) (sym (same_int d.0 docid same)) ∙ put-without_key int_cmp int_cmp_total exact_signed d.0 cells docs (T_from_true _ is.rising) ∙ sym (alone content d is.rising are) in
          let list : map (changing sets content.columns) (chosen content f) ≡ rewrites = ap (map (changing sets content.columns)) are ∙ sym (moves ∙ ap (λ b. cond b (r ∷ []) parts) same) in
          subst (λ (ds : Documents). LeadsTo content ds touched rewrites) (sym stays)
          (subst (LeadsTo content (set_all content) touched) list
          (stay name content touched is (subst (λ (ds : Documents). IsContent name (record content { documents = ds })) stays makes)
          (subst (λ (ds : Documents). AllByRecursion (Contains touched) (docids_of ds)) (sym are) (Contains-append_left (d.0 ∷ []) (docid ∷ docids) d.0 (Contains-push [] d.0), tt))))
      go false apart =
          let m = are_moves docs is.rising r cells refl docid (found_one content d is.rising are) (free_one docs d docid apart fine) apart in
          let list : parts ≡ rewrites = sym (moves ∙ ap (λ b. cond b (r ∷ []) parts) apart) in
          let made : rewritten parts docs ≡ put int_cmp docid cells (without_docid d.0 (set_all content)) = m.made ∙ sym here in
          subst (LeadsTo content (put int_cmp docid cells (without_docid d.0 (set_all content))) touched) list (record {
            are_of = are_of name content parts m.rising m.knows (subst (λ (ds : Documents). IsContent name (record content { documents = ds })) (sym made) makes);
            made = made;
            near = all_more (λ (x : Rewrite). x.docid) (d.0 ∷ docid ∷ []) docids parts m.near;
          })

  pub leads : (name : List ℕ) (content : Content) (docids : List ℤ) (picked : Documents) (rewrites : List Rewrite) → chosen content f ≡ picked → IsContent name content → moves_fault content.documents picked docids ≡ None →
      IsContent name (record content { documents = moved_in content picked docids }) → MayMove (slice_get docids 0) (map (changing sets content.columns) picked) rewrites →
      LeadsTo content (moved_in content picked docids) (docids_of picked ++ docid_if_any picked docids) rewrites
  leads name content [] picked rewrites are is fine makes moves =
      subst (λ (ds : Documents). LeadsTo content ds (docids_of picked ++ docid_if_any picked []) rewrites) (sym (none_moves picked))
      (subst (LeadsTo content (set_all content) (docids_of picked ++ docid_if_any picked [])) (ap (map (changing sets content.columns)) are ∙ sym moves)
      (stay name content (docids_of picked ++ docid_if_any picked []) is (subst (λ (ds : Documents). IsContent name (record content { documents = ds })) (none_moves picked) makes)
      (all_more (λ (k : ℤ). k) (docids_of picked) (docid_if_any picked []) (docids_of (chosen content f)) (subst (λ (ds : Documents). AllByRecursion (Contains (docids_of picked)) (docids_of ds)) (sym are) (own_docids picked)))))
    where
      none_moves : (ds : Documents) → moved_in content ds [] ≡ set_all content
      none_moves [] = refl
      none_moves (d ∷ ds) = refl
  leads name content (docid ∷ docids) [] rewrites are is fine makes moves =
      subst (LeadsTo content (set_all content) []) (ap (map (changing sets content.columns)) are ∙ sym moves)
      (stay name content [] is makes (subst (λ (ds : Documents). AllByRecursion (Contains []) (docids_of ds)) (sym are) tt))
  leads name content (docid ∷ docids) (d ∷ []) rewrites are is fine makes moves = one_leads name content docid docids d rewrites are is fine makes moves
  leads name content (docid ∷ docids) (d ∷ e ∷ picked) rewrites are is fine makes moves = absurd (let no = fine in cc)
