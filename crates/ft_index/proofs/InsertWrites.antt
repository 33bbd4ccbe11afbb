-- What an Insert writes.
use Rattle.std.proofs.Common.{◌≡◌, inl, inr, ℕ, Bool, true, false, cond, not, List, [], ◌∷◌, map, filter, zip, Option, Some, None, Result, Ok, Err, ℤ, refl, sym, ap, subst, ◌∙◌, Contains, Vec, is_some, Global, int_cmp, int_eq}
use Rattle.ft_index.proofs.Common.{Contains-append_left, Contains-push, same_int, unwrap_or, AllByRecursion, find, Cell, Fault, Content}
use Rattle.ft_index.proofs.Common.{Documents, IsContent, names_of, repeats_name, Insert, Done, bare_content, column_of, Contents, option_or}
use Rattle.ft_index.proofs.Common.{listed_columns, inserted_rows, has_docid, inserted, with_documents, on_table, after, touched, reply_to, Rewrite}
use Rattle.ft_index.proofs.Common.{shown_rewrite, rewritten, WritesDocuments, WritesTable}
use Rattle.std.proofs.lemmas.List.Elements.{Contains-append_right}
use Rattle.ft_values.specs.declared.table.Column.{Column}
use Rattle.std.specs.Result.{result_err, result_unwrap_or}
use Rattle.ft_content.specs.Step.{insert_tests, insert_fault}
use Rattle.ft_content.specs.Step.{new_docids}
use Rattle.ft_content.proofs.{insert_keeps_content}
use Rattle.ft_documents.specs.declared.rewrite.Rewrite as source
use Rattle.ft_documents.specs.Inserted.{IsNewIn, MakesDocuments}
use Rattle.ft_documents.proofs.{insert_deserves, all_written, are_of}
use Rattle.ft_index.proofs.Writing.{IsWrite}

-- a document that was not there has a new docid
new_in : (old new : Documents) (docid : ℤ) (cells : List Cell) → find int_cmp docid new ≡ Some cells → has_docid old docid ≡ false → Contains (new_docids old new) docid
new_in old [] docid cells found apart = absurd (let no = found in cc)
new_in old (d ∷ ds) docid cells found apart = go (int_eq docid d.0) refl found (λ behind. new_in old ds docid cells behind apart)
  where
    rest : Documents
    rest = filter (λ (x : ℤ × List Cell). not (has_docid old x.0)) ds

    docid_of : ℤ × List Cell → ℤ
    docid_of x = x.0

    more : (b : Bool) → Contains (map docid_of rest) docid → Contains (map docid_of (cond b (d ∷ rest) rest)) docid
    more true h = Contains-append_right (d.0 ∷ []) (map docid_of rest) docid h
    more false h = h

    go : (b : Bool) → int_eq docid d.0 ≡ b → cond b (Some d.1) (find int_cmp docid ds) ≡ Some cells → (find int_cmp docid ds ≡ Some cells → Contains (map docid_of rest) docid) → Contains (map docid_of (cond (not (has_docid old d.0)) (d ∷ rest) rest)) docid
    go true is h behind =
        let same : docid ≡ d.0 = same_int docid d.0 is in
        let fresh : not (has_docid old d.0) ≡ true = ap (λ x. not (has_docid old x)) (sym same) ∙ ap not apart in
        subst (λ b. Contains (map docid_of (cond b (d ∷ rest) rest)) docid) (sym fresh) (subst (Contains (d.0 ∷ map docid_of rest)) (sym same) (Contains-append_left (d.0 ∷ []) (map docid_of rest) d.0 (Contains-push [] d.0)))
    go false is h behind = more (not (has_docid old d.0)) (behind h)

all_new : (documents after : Documents) (all rs : List Rewrite) → rewritten all documents ≡ after → AllByRecursion (λ (r : Rewrite). find int_cmp r.docid (rewritten all documents) ≡ r.after) rs → AllByRecursion (IsNewIn documents) rs →
    AllByRecursion (λ (r : Rewrite). Contains (new_docids documents after) r.docid) rs
all_new documents after all [] made found new = tt
all_new documents after all (r ∷ rs) made found new = (
  new_in documents after r.docid new.0.1.0
      (ap (find int_cmp r.docid) (sym made) ∙ found.0 ∙ new.0.1.1)
      (ap is_some new.0.0),
  all_new documents after all rs made found.1 new.1,
)

module _ (columns : Option (List (List ℕ))) (rows : List (List Cell)) where
  abbrev pub due : Content → Option Fault
  due content = insert_fault content (listed_columns content columns) rows

  abbrev pub made : Content → Documents
  made content = inserted content columns rows

  abbrev pub news : Content → List ℤ
  news content = new_docids content.documents (inserted content columns rows)

  pub leaves : (name : List ℕ) (contents : Contents) → after contents (Insert name columns rows) ≡ on_table contents name (with_documents made)
  unfolding after
  leaves name contents = refl

  pub replies : (name : List ℕ) (contents : Contents) → reply_to contents (Insert name columns rows) ≡ Done
  unfolding reply_to
  replies name contents = refl

  pub writes_table : (name : List ℕ) → WritesTable (Insert name columns rows)
  writes_table name = record { name = name; made = made; leaves = leaves name; replies = replies name }

  pub is_write : (name : List ℕ) → repeats_name (unwrap_or columns []) ≡ false → IsWrite (Insert name columns rows) name (λ table content. due content) made news
  unfolding touched
  is_write name apart = record {
    deserves = λ contents. insert_deserves contents name columns rows false apart;
    leaves = leaves name;
    touches = λ contents. refl;
    near = λ contents changes h. h;
    keeps = λ table content is fine. insert_keeps_content table content columns rows is fine;
  }

  abbrev Made : Content → Result Documents Fault
  Made content = inserted_rows content.columns (map (zip (listed_columns content columns)) rows) content.documents

  -- the rewrites that its rows make
  pub writes : (name : List ℕ) (content : Content) (result : Result (Vec source.Rewrite Global) Fault) → IsContent name content → insert_tests content (listed_columns content columns) rows ≡ None → MakesDocuments content.documents (Made content) result →
      WritesDocuments content (due content) (made content) (news content) result
  writes name content (Ok rewrites) is tested h =
      let rs = map shown_rewrite rewrites.items in
      let fine : due content ≡ None = ap (λ o. option_or o (result_err (Made content))) tested ∙ ap result_err h.made in
      let leads : rewritten rs content.documents ≡ made content = sym (ap (λ r. result_unwrap_or r content.documents) h.made) in (
        fine,
        record {
          are_of = are_of name content rs h.rising h.befores (subst (λ ds. IsContent name (record content { documents = ds })) (sym leads) (insert_keeps_content name content columns rows is fine));
          made = leads;
          near = all_new content.documents (made content) rs rs leads (all_written content.documents rs h.rising) h.news;
        },
      )
  writes name content (Err fault) is tested (inl memory) = inl (inr memory)
  writes name content (Err fault) is tested (inr fails) = inr (ap (λ o. option_or o (result_err (Made content))) tested ∙ ap result_err fails)

  -- a test that refuses it
  pub tested_writes : (content : Content) (fault : Fault) → insert_tests content (listed_columns content columns) rows ≡ Some fault → due content ≡ Some fault
  tested_writes content fault tested = ap (λ o. option_or o (result_err (Made content))) tested

  -- tests of the columns alone are tests of the content
  pub names_are : (content : Content) (cols : List Column) (names : List (List ℕ)) → content.columns ≡ map column_of cols → names ≡ listed_columns (bare_content cols) columns → names ≡ listed_columns content columns
  names_are content cols names columns_are is = is ∙ ap (λ cs. unwrap_or columns (names_of cs)) (sym columns_are)

  pub tests_are : (content : Content) (cols : List Column) (names : List (List ℕ)) (result : Option Fault) → content.columns ≡ map column_of cols → names ≡ listed_columns (bare_content cols) columns → result ≡ insert_tests (bare_content cols) names rows →
      insert_tests content (listed_columns content columns) rows ≡ result
  tests_are content cols names result columns_are named is =
      ap (λ ns. insert_tests content ns rows) (sym (names_are content cols names columns_are named)) ∙ ap (λ cs. insert_tests (record { columns = cs; documents = [] }) names rows) columns_are ∙ sym is

  -- and what the rows make is so by the content's columns
  pub rows_are : (content : Content) (cols : List Column) (names : List (List ℕ)) (result : Result (Vec source.Rewrite Global) Fault) → content.columns ≡ map column_of cols → names ≡ listed_columns (bare_content cols) columns →
      MakesDocuments content.documents (inserted_rows (map column_of cols) (map (zip names) rows) content.documents) result → MakesDocuments content.documents (Made content) result
  rows_are content cols names result columns_are named h =
      subst (λ ns. MakesDocuments content.documents (inserted_rows content.columns (map (zip ns) rows) content.documents) result) (names_are content cols names columns_are named)
      (subst (λ cs. MakesDocuments content.documents (inserted_rows cs (map (zip names) rows) content.documents) result) (sym columns_are) h)
