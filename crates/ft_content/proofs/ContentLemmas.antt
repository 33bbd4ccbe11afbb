-- What a command makes of a content is a content.
use Rattle.std.specs.Option.{option_or}
use Rattle.std.specs.Result.{result_unwrap_or}
use Rattle.std.proofs.Common.{◌≡◌, ℕ, suc, pred, Bool, true, false, cond, not, T, ◌&&◌, ◌||◌, List, [], ◌∷◌, map, length, ◌==◌, Option, Some, None, Result, Ok, Err, ℤ, refl, sym, ap, subst, ◌∙◌, eqb-true, eq-eqb, le-leb, nat_lt, nat_le, filter, zip, unwrap_or, option_map}
use Rattle.std.specs.List.{find}
use Rattle.ft_content.proofs.Common.{list_any, list_all, Less, Equal, Greater, int_cmp, int_eq, is_lt, int_cmp_total, int_cmp-IsAntisymmetric, by_order, put, below_all, is_sorted, is_sorted-put, is_sorted-where_key, and_parts, and_from, ltb-false, Fault, Cell, Null, Documents, same_name, is_name, names_of, names_clash, is_too_long, has_nul, is_cell, is_document, is_chosen, listed_columns, docids_named, value_under, with_values, new_cells, next_docid, append_document, insert_row, then_rows, has_docid, without_docid, made_column, moved, InsertKeepsContent, UpdateKeepsContent, DeleteKeepsContent, CreateMakesContent}
use Rattle.ft_content.specs.Content.{Column}
use Rattle.ft_content.specs.Answer.{chosen}
use Rattle.ft_content.specs.Step.{inserted_rows}
use Rattle.ft_values.specs.declared.fault.Fault.TheVariants as faults

true_of : (b : Bool) → T b → b ≡ true
true_of true h = refl
true_of false h = absurd h

of_true : (b : Bool) → b ≡ true → T b
of_true b h = subst T (sym h) tt

-- ---- tests of each element

list_all-put : (p : ℤ × List Cell → Bool) (k : ℤ) (v : List Cell) (es : Documents) → p (k, v) ≡ true → list_all p es ≡ true → list_all p (put int_cmp k v es) ≡ true
list_all-put p k v [] new h = and_from (p (k, v)) true new refl
list_all-put p k v (e ∷ es) new h =
    let parts = and_parts (p e) (list_all p es) h in
    elim (int_cmp k e.0) as (λ o. int_cmp k e.0 ≡ o → list_all p (by_order o ((k, v) ∷ e ∷ es) ((e.0, v) ∷ es) (e ∷ put int_cmp k v es)) ≡ true) [
      | Less ↦ λ _. and_from (p (k, v)) (p e && list_all p es) new h
      | Equal ↦ λ same. and_from (p (e.0, v)) (list_all p es) (subst (λ (x : ℤ). p (x, v) ≡ true) (int_cmp-IsAntisymmetric k e.0 same) new) parts.1
      | Greater ↦ λ _. and_from (p e) (list_all p (put int_cmp k v es)) parts.0 (list_all-put p k v es new parts.1)
    ] refl

list_all-filter : {X : Type 0} (p q : X → Bool) (xs : List X) → list_all p xs ≡ true → list_all p (filter q xs) ≡ true
list_all-filter p q [] h = refl
list_all-filter p q (x ∷ xs) h =
    let parts = and_parts (p x) (list_all p xs) h in
    elim (q x) as (λ b. list_all p (cond b (x ∷ filter q xs) (filter q xs)) ≡ true) [ true ↦ and_from (p x) (list_all p (filter q xs)) parts.0 (list_all-filter p q xs parts.1) | false ↦ list_all-filter p q xs parts.1 ]

list_all-map : {X Y : Type 0} (p : X → Bool) (q : Y → Bool) (g : X → Y) → ((x : X) → p x ≡ true → q (g x) ≡ true) → (xs : List X) → list_all p xs ≡ true → list_all q (map g xs) ≡ true
list_all-map p q g keeps [] h = refl
list_all-map p q g keeps (x ∷ xs) h = let parts = and_parts (p x) (list_all p xs) h in and_from (q (g x)) (list_all q (map g xs)) (keeps x parts.0) (list_all-map p q g keeps xs parts.1)

-- ---- order

below_all-filter : (k : ℤ) (q : ℤ × List Cell → Bool) (es : Documents) → below_all int_cmp k es ≡ true → below_all int_cmp k (filter q es) ≡ true
below_all-filter k q es h = below_is k (filter q es) ∙ list_all-filter (λ (e : ℤ × List Cell). is_lt (int_cmp k e.0)) q es (sym (below_is k es) ∙ h)
  where
    below_is : (k : ℤ) (es : Documents) → below_all int_cmp k es ≡ list_all (λ (e : ℤ × List Cell). is_lt (int_cmp k e.0)) es
    below_is k [] = refl
    below_is k (e ∷ es) = ap (λ b. is_lt (int_cmp k e.0) && b) (below_is k es)

is_sorted-filter : (q : ℤ × List Cell → Bool) (es : Documents) → is_sorted int_cmp es ≡ true → is_sorted int_cmp (filter q es) ≡ true
is_sorted-filter q [] h = refl
is_sorted-filter q (e ∷ es) h =
    let parts = and_parts (below_all int_cmp e.0 es) (is_sorted int_cmp es) h in
    elim (q e) as (λ b. is_sorted int_cmp (cond b (e ∷ filter q es) (filter q es)) ≡ true) [
      | true ↦ and_from (below_all int_cmp e.0 (filter q es)) (is_sorted int_cmp (filter q es)) (below_all-filter e.0 q es parts.0) (is_sorted-filter q es parts.1)
      | false ↦ is_sorted-filter q es parts.1
    ]

-- a change that keeps docids keeps the order
below_all-map : (k : ℤ) (g : ℤ × List Cell → ℤ × List Cell) → ((d : ℤ × List Cell) → (g d).0 ≡ d.0) → (es : Documents) → below_all int_cmp k (map g es) ≡ below_all int_cmp k es
below_all-map k g same [] = refl
below_all-map k g same (e ∷ es) = λ i. is_lt (int_cmp k (same e i)) && below_all-map k g same es i

is_sorted-map : (g : ℤ × List Cell → ℤ × List Cell) → ((d : ℤ × List Cell) → (g d).0 ≡ d.0) → (es : Documents) → is_sorted int_cmp (map g es) ≡ is_sorted int_cmp es
is_sorted-map g same [] = refl
is_sorted-map g same (e ∷ es) = ap (λ k. below_all int_cmp k (map g es) && is_sorted int_cmp (map g es)) (same e) ∙ (λ i. below_all-map e.0 g same es i && is_sorted-map g same es i)

pub delete_keeps_content : DeleteKeepsContent
delete_keeps_content table content f h = record {
  columns = h.columns;
  documents = list_all-filter (is_document (length content.columns)) (λ (d : ℤ × List Cell). not (is_chosen content f d)) content.documents h.documents;
  rising = is_sorted-filter (λ (d : ℤ × List Cell). not (is_chosen content f d)) content.documents h.rising;
}

-- ---- faults that don't apply

no_first : (a b : Option Fault) → option_or a b ≡ None → (a ≡ None) × (b ≡ None)
no_first None b h = (refl, h)
no_first (Some fault) b h = absurd (let no = h in cc)

not_this : (b : Bool) (fault : Fault) (rest : Option Fault) → cond b (Some fault) rest ≡ None → (b ≡ false) × (rest ≡ None)
not_this true fault rest h = absurd (let no = h in cc)
not_this false fault rest h = (refl, h)

-- where no element passes either of two tests, each passes neither
list_all-from_none : {X : Type 0} (p q : X → Bool) (xs : List X) → list_any p xs ≡ false → list_any q xs ≡ false → list_all (λ x. not (p x) && not (q x)) xs ≡ true
list_all-from_none p q [] a b = refl
list_all-from_none p q (x ∷ xs) a b =
    let pa = neither (p x) (list_any p xs) a in
    let qb = neither (q x) (list_any q xs) b in
    and_from (not (p x) && not (q x)) (list_all (λ x. not (p x) && not (q x)) xs) (and_from (not (p x)) (not (q x)) (ap not pa.0) (ap not qb.0)) (list_all-from_none p q xs pa.1 qb.1)
  where
    neither : (x y : Bool) → (x || y) ≡ false → (x ≡ false) × (y ≡ false)
    neither true y h = absurd (let no = h in cc)
    neither false y h = (refl, h)

rows_from_none : (rows : List (List Cell)) → list_any (list_any is_too_long) rows ≡ false → list_any (list_any has_nul) rows ≡ false → list_all (list_all is_cell) rows ≡ true
rows_from_none [] a b = refl
rows_from_none (row ∷ rows) a b =
    let pa = neither (list_any is_too_long row) (list_any (list_any is_too_long) rows) a in
    let qb = neither (list_any has_nul row) (list_any (list_any has_nul) rows) b in
    and_from (list_all is_cell row) (list_all (list_all is_cell) rows) (list_all-from_none is_too_long has_nul row pa.0 qb.0) (rows_from_none rows pa.1 qb.1)
  where
    neither : (x y : Bool) → (x || y) ≡ false → (x ≡ false) × (y ≡ false)
    neither true y h = absurd (let no = h in cc)
    neither false y h = (refl, h)

-- ---- values under names

abbrev are_values : List (List ℕ × Cell) → Bool
are_values values = list_all (λ (v : List ℕ × Cell). is_cell v.1) values

are_values-zip : (names : List (List ℕ)) (row : List Cell) → list_all is_cell row ≡ true → are_values (zip names row) ≡ true
are_values-zip [] row h = refl
are_values-zip (name ∷ names) [] h = refl
are_values-zip (name ∷ names) (cell ∷ row) h = let parts = and_parts (is_cell cell) (list_all is_cell row) h in and_from (is_cell cell) (are_values (zip names row)) parts.0 (are_values-zip names row parts.1)

value_under-cell : (values : List (List ℕ × Cell)) (column : Column) (cell : Cell) → are_values values ≡ true → is_cell cell ≡ true → is_cell (value_under values column cell) ≡ true
value_under-cell [] column cell h here = here
value_under-cell (v ∷ values) column cell h here =
    let parts = and_parts (is_cell v.1) (are_values values) h in
    elim (same_name v.0 column.name) as (λ b. is_cell (unwrap_or (option_map (λ (v : List ℕ × Cell). v.1) (cond b (Some v) (find (λ (v : List ℕ × Cell). same_name v.0 column.name) values))) cell) ≡ true) [
      | true ↦ parts.0
      | false ↦ value_under-cell values column cell parts.1 here
    ]

new_cells-cells : (values : List (List ℕ × Cell)) (columns : List Column) → are_values values ≡ true → list_all is_cell (new_cells values columns) ≡ true
new_cells-cells values [] h = refl
new_cells-cells values (column ∷ columns) h = and_from (is_cell (value_under values column Null)) (list_all is_cell (new_cells values columns)) (value_under-cell values column Null h refl) (new_cells-cells values columns h)

new_cells-length : (values : List (List ℕ × Cell)) (columns : List Column) → length (new_cells values columns) ≡ length columns
new_cells-length values [] = refl
new_cells-length values (column ∷ columns) = ap suc (new_cells-length values columns)

new_document : (docid : ℤ) (values : List (List ℕ × Cell)) (columns : List Column) → are_values values ≡ true → is_document (length columns) (docid, new_cells values columns) ≡ true
new_document docid values columns h = and_from (length (new_cells values columns) == length columns) (list_all is_cell (new_cells values columns)) (eq-eqb _ _ (new_cells-length values columns)) (new_cells-cells values columns h)

-- ---- Insert

-- documents of a table with this many columns, by rising docid
record AreDocuments (width : ℕ) (documents : Documents) : Type 0 where
  pub each : list_all (is_document width) documents ≡ true
  pub rising : is_sorted int_cmp documents ≡ true

put_documents : (width : ℕ) (documents : Documents) (docid : ℤ) (cells : List Cell) → is_document width (docid, cells) ≡ true → AreDocuments width documents → AreDocuments width (put int_cmp docid cells documents)
put_documents width documents docid cells new h = record {
  each = list_all-put (is_document width) docid cells documents new h.each;
  rising = true_of _ (is_sorted-put int_cmp int_cmp_total docid cells documents (of_true _ h.rising));
}

abbrev IfFine : (Documents → Type 0) → Result Documents Fault → Type 0
IfFine P (Ok documents) = P documents
IfFine P (Err fault) = Unit {0}

append_fine : (P : Documents → Type 0) (documents : Documents) (next : Option ℤ) (cells : List Cell) → ((docid : ℤ) → P (put int_cmp docid cells documents)) → IfFine P (append_document documents next cells)
append_fine P documents None cells h = tt
append_fine P documents (Some docid) cells h = h docid

insert_row_fine : (P : Documents → Type 0) (documents : Documents) (docids : List ℤ) (cells : List Cell) → ((docid : ℤ) → P (put int_cmp docid cells documents)) → IfFine P (insert_row documents docids cells)
insert_row_fine P documents [] cells h = append_fine P documents (next_docid documents) cells h
insert_row_fine P documents (docid ∷ docids) cells h = elim (has_docid documents docid) as (λ b. IfFine P (cond b (Err (faults.DocidTaken docid)) (Ok (put int_cmp docid cells documents)))) [ true ↦ tt | false ↦ h docid ]

then_fine : (P : Documents → Type 0) (first : Result Documents Fault) (rest : Documents → Result Documents Fault) → IfFine P first → ((after : Documents) → P after → IfFine P (rest after)) → IfFine P (then_rows first rest)
then_fine P (Ok after) rest fine goes_on = goes_on after fine
then_fine P (Err fault) rest fine goes_on = tt

insert_rows_fine : (columns : List Column) (rows : List (List (List ℕ × Cell))) (documents : Documents) → list_all are_values rows ≡ true → AreDocuments (length columns) documents → IfFine (AreDocuments (length columns)) (inserted_rows columns rows documents)
unfolding inserted_rows
insert_rows_fine columns [] documents h are = are
insert_rows_fine columns (values ∷ rows) documents h are =
    let parts = and_parts (are_values values) (list_all are_values rows) h in
    then_fine (AreDocuments (length columns)) (insert_row documents (docids_named values) (new_cells values columns)) (inserted_rows columns rows)
    (insert_row_fine (AreDocuments (length columns)) documents (docids_named values) (new_cells values columns) (λ docid. put_documents (length columns) documents docid (new_cells values columns) (new_document docid values columns parts.0) are))
    (λ after fine. insert_rows_fine columns rows after parts.1 fine)

inserted_fine : (width : ℕ) (documents : Documents) (r : Result Documents Fault) → AreDocuments width documents → IfFine (AreDocuments width) r → AreDocuments width (result_unwrap_or r documents)
inserted_fine width documents (Ok after) are fine = fine
inserted_fine width documents (Err fault) are fine = are

zip_rows : (names : List (List ℕ)) (rows : List (List Cell)) → list_all (list_all is_cell) rows ≡ true → list_all are_values (map (zip names) rows) ≡ true
zip_rows names rows h = list_all-map (list_all is_cell) are_values (zip names) (are_values-zip names) rows h

pub insert_keeps_content : InsertKeepsContent
insert_keeps_content table content columns rows h none =
    let names = listed_columns content columns in
    let tests = (no_first _ _ none).0 in
    let after_columns = (not_this _ faults.NoSuchColumn _ tests).1 in
    let after_count = (not_this _ faults.Count _ after_columns).1 in
    let after_kind = (not_this _ faults.DocidKind _ after_count).1 in
    let after_twice = (not_this _ faults.DocidTwice _ after_kind).1 in
    let long = not_this (list_any (list_any is_too_long) rows) faults.TooLong _ after_twice in
    let nul = not_this (list_any (list_any has_nul) rows) faults.HasNul _ long.1 in
    let are : AreDocuments (length content.columns) content.documents = record { each = h.documents; rising = h.rising } in
    let fine = inserted_fine (length content.columns) content.documents (inserted_rows content.columns (map (zip names) rows) content.documents) are
    (insert_rows_fine content.columns (map (zip names) rows) content.documents (zip_rows names rows (rows_from_none rows long.0 nul.0)) are) in
    record { columns = h.columns; documents = fine.each; rising = fine.rising }

-- ---- Update

with_values-cells : (values : List (List ℕ × Cell)) (columns : List Column) (cells : List Cell) → are_values values ≡ true → list_all is_cell cells ≡ true → list_all is_cell (with_values values columns cells) ≡ true
with_values-cells values [] cells h here = refl
with_values-cells values (column ∷ columns) [] h here = refl
with_values-cells values (column ∷ columns) (cell ∷ cells) h here =
    let parts = and_parts (is_cell cell) (list_all is_cell cells) here in
    and_from (is_cell (value_under values column cell)) (list_all is_cell (with_values values columns cells)) (value_under-cell values column cell h parts.0) (with_values-cells values columns cells h parts.1)

with_values-length : (values : List (List ℕ × Cell)) (columns : List Column) (cells : List Cell) → length cells ≡ length columns → length (with_values values columns cells) ≡ length columns
with_values-length values [] cells e = refl
with_values-length values (column ∷ columns) [] e = e
with_values-length values (column ∷ columns) (cell ∷ cells) e = ap suc (with_values-length values columns cells (ap pred e))

changed_document : (values : List (List ℕ × Cell)) (columns : List Column) (d : ℤ × List Cell) → are_values values ≡ true → is_document (length columns) d ≡ true → is_document (length columns) (d.0, with_values values columns d.1) ≡ true
changed_document values columns d h here =
    let parts = and_parts (length d.1 == length columns) (list_all is_cell d.1) here in
    and_from (length (with_values values columns d.1) == length columns) (list_all is_cell (with_values values columns d.1))
    (eq-eqb _ _ (with_values-length values columns d.1 (eqb-true (length d.1) (length columns) parts.0))) (with_values-cells values columns d.1 h parts.1)

moved_fine : (width : ℕ) (documents picked : Documents) (docids : List ℤ) → AreDocuments width documents → list_all (is_document width) picked ≡ true → AreDocuments width (moved documents picked docids)
moved_fine width documents [] docids are h = are
moved_fine width documents (d ∷ more) [] are h = are
moved_fine width documents (d ∷ more) (docid ∷ docids) are h =
    let parts = and_parts (is_document width d) (list_all (is_document width) more) h in
    put_documents width (without_docid d.0 documents) docid d.1 parts.0 (record {
      each = list_all-filter (is_document width) (λ (x : ℤ × List Cell). not (int_eq d.0 x.0)) documents are.each;
      rising = true_of _ (is_sorted-where_key int_cmp (λ x. not (int_eq d.0 x)) documents (of_true _ are.rising));
    })

pub update_keeps_content : UpdateKeepsContent
unfolding chosen
update_keeps_content table content sets f h none =
    let width = length content.columns in
    let tests = (no_first _ _ none).0 in
    let after_columns = (not_this _ faults.NoSuchColumn _ tests).1 in
    let after_kind = (not_this _ faults.DocidKind _ after_columns).1 in
    let after_twice = (not_this _ faults.DocidTwice _ after_kind).1 in
    let long = not_this (list_any (λ (s : List ℕ × Cell). is_too_long s.1) sets) faults.TooLong _ after_twice in
    let nul = not_this (list_any (λ (s : List ℕ × Cell). has_nul s.1) sets) faults.HasNul _ long.1 in
    let values : are_values sets ≡ true = list_all-from_none (λ (s : List ℕ × Cell). is_too_long s.1) (λ (s : List ℕ × Cell). has_nul s.1) sets long.0 nul.0 in
    let change : ℤ × List Cell → ℤ × List Cell = λ (d : ℤ × List Cell). (d.0, with_values sets content.columns d.1) in
    let keep : ℤ × List Cell → ℤ × List Cell = λ (d : ℤ × List Cell). cond (is_chosen content f d) (change d) d in
    let kept_docid : (d : ℤ × List Cell) → (keep d).0 ≡ d.0 = λ d. elim (is_chosen content f d) as (λ b. (cond b (change d) d).0 ≡ d.0) [ true ↦ refl | false ↦ refl ] in
    let kept_document : (d : ℤ × List Cell) → is_document width d ≡ true → is_document width (keep d) ≡ true =
    λ d is. elim (is_chosen content f d) as (λ b. is_document width (cond b (change d) d) ≡ true) [ true ↦ changed_document sets content.columns d values is | false ↦ is ] in
    let all : AreDocuments width (map keep content.documents) = record {
      each = list_all-map (is_document width) (is_document width) keep kept_document content.documents h.documents;
      rising = is_sorted-map keep kept_docid content.documents ∙ h.rising;
    } in
    let picked : list_all (is_document width) (map change (filter (is_chosen content f) content.documents)) ≡ true =
    list_all-map (is_document width) (is_document width) change (λ d is. changed_document sets content.columns d values is) (filter (is_chosen content f) content.documents) (list_all-filter (is_document width) (is_chosen content f) content.documents h.documents) in
    let fine = moved_fine width (map keep content.documents) (map change (filter (is_chosen content f) content.documents)) (docids_named sets) all picked in
    record { columns = h.columns; documents = fine.each; rising = fine.rising }

-- ---- Create

made_names : (options : List (List ℕ × List ℕ)) (names : List (List ℕ)) → names_of (map (made_column options) names) ≡ names
made_names options [] = refl
made_names options (name ∷ names) = ap (λ ns. name ∷ ns) (made_names options names)

made_length : (options : List (List ℕ × List ℕ)) (names : List (List ℕ)) → length (map (made_column options) names) ≡ length names
made_length options [] = refl
made_length options (name ∷ names) = ap suc (made_length options names)

not_false : (b : Bool) → not b ≡ false → b ≡ true
not_false true h = refl
not_false false h = absurd (let no = h in cc)

pub create_makes_content : CreateMakesContent
create_makes_content contents table module_name options names if_new some none =
    let after_module = (not_this _ faults.Module _ none).1 in
    let after_tokenizer = (not_this _ faults.Tokenizer _ after_module).1 in
    let after_parameter = (not_this _ faults.Parameter _ after_tokenizer).1 in
    let name = not_this (not (list_all is_name (table ∷ names))) faults.Name _ after_parameter in
    let clash = not_this (names_clash table names) faults.DuplicateColumn _ name.1 in
    let many = not_this (nat_lt 100 (length names)) faults.TooManyColumns _ clash.1 in
    let good = (and_parts (is_name table) (list_all is_name names) (not_false _ name.0)).1 in
    let few : nat_le (length names) 100 ≡ true = le-leb (length names) 100 (ltb-false 100 (length names) many.0) in
    let here : (nat_lt 0 (length names) && nat_le (length names) 100 && list_all is_name names && not (names_clash table names)) ≡ true =
    and_from _ _ (and_from _ _ (and_from _ _ some few) good) (ap not clash.0) in
    record {
      columns = ap (λ n. nat_lt 0 n && nat_le n 100 && list_all is_name (names_of (map (made_column options) names)) && not (names_clash table (names_of (map (made_column options) names)))) (made_length options names)
          ∙ ap (λ ns. nat_lt 0 (length names) && nat_le (length names) 100 && list_all is_name ns && not (names_clash table ns)) (made_names options names) ∙ here;
      documents = refl;
      rising = refl;
    }
