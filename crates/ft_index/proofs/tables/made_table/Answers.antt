-- the names of the tables are those of the contents
use Rattle.std.proofs.Common.{◌≡◌, inr, List, Option, String, Global, refl, sym, ap, ◌∙◌, map, string_bytes, Some, FitsSigned, w64, to_z-of_z, rules, is_some, position, Bool, None, find, ℕ}
use Rattle.ft_index.proofs.Common.{table_info, Fault, RustTableInfo, same_name, Contents, create_fault, deserved, made_columns, made_column}
use Rattle.ft_index.proofs.Common.{TableInfo, shown_info, option_of, texts_of, creation_of, info_named}
use Rattle.ft_documents.proofs.{placed, unplaced}
use Rattle.ft_index.proofs.OneTable.{not_some, same_names, same_ids, create_due, is_named, none_named}
use Rattle.ft_index.proofs.Doing.{err_of}
use Rattle.ft_index.proofs.NoStore.{created_other, names_as, some_contents}
use Rattle.ft_index.proofs.tables.made_table.Goals as goal
use Rattle.ft_index.proofs.tables.made_table.Goals.{After-create_fault}

-- one passes exactly where it has a place
found_is : {A B : Type 0} (f : A → B) (q : B → Bool) (xs : List A) → is_some (find q (map f xs)) ≡ is_some (position (λ x. q (f x)) xs)
found_is f q xs = go (position (λ x. q (f x)) xs) refl
  where
    go : (at : Option ℕ) → position (λ x. q (f x)) xs ≡ at → is_some (find q (map f xs)) ≡ is_some (position (λ x. q (f x)) xs)
    go None h = ap is_some (unplaced f q xs h) ∙ sym (ap is_some h)
    go (Some i) h = ap is_some (placed f q xs i h).found ∙ sym (ap is_some h)

-- what the tests tell, as the definitions have it
due_in : (c : After-create_fault) (due : Option Fault) → c.create_fault.result ≡ due → (contents : Contents) → map shown_info c.args.tables.now ≡ map table_info contents → deserved contents (creation_of c.args.creation.now) ≡ due
due_in c due is contents told =
    let t = c.args.creation.now in
    let table = string_bytes t.table in
    let module_name = string_bytes t.module in
    let options = map option_of t.options.items in
    let made : map string_bytes c.in_ok-names.names.items ≡ made_columns (texts_of t.columns) = c.in_ok-names.ensures ∙ ap (λ (v : List (String Global)). made_columns (map string_bytes v)) c.as_slice.ensures.value in
    create_due contents table module_name options (texts_of t.columns) (map string_bytes c.in_ok-names.names.items) t.if_new due made
    (sym is ∙ c.create_fault.ensures contents (same_names c.args.tables.now contents told)
    ∙ ap (λ (v : List (String Global)). create_fault contents table module_name options (map string_bytes v) t.if_new) c.as_slice-2.ensures.value)

pub returns-in-Some-clause-makes : goal.returns-in-Some-clause-makes
returns-in-Some-clause-makes c = λ contents told. inr (due_in (goal.at.returns-in-Some-clause-makes c).After-create_fault _ c.in-Some.is contents told)

pub returns-then-is_some-clause-makes : goal.returns-then-is_some-clause-makes
returns-then-is_some-clause-makes c = λ contents told.
    let tables = c.args.tables.now in
    let table = string_bytes c.args.creation.now.table in
    let placed : c.table_place.result ≡ position (λ (k : RustTableInfo). same_name (string_bytes k.name) table) tables =
    c.table_place.ensures ∙ ap (λ n. position (λ (k : RustTableInfo). same_name (string_bytes k.name) n) tables) c.as_str.ensures.value in (
      due_in (goal.at.returns-then-is_some-clause-makes c).After-create_fault _ c.in_default.is contents told,
      is_named contents table (info_named (map shown_info tables) table) (ap (λ ts. info_named ts table) (sym told))
          ∙ found_is shown_info (λ (k : TableInfo). same_name k.name table) tables
          ∙ ap is_some (sym placed) ∙ sym c.is_some.ensures ∙ c.if-is_some.true,
    )

pub returns-clause-makes : goal.returns-clause-makes
returns-clause-makes c = λ contents told.
    let t = c.args.creation.now in
    let tables = c.args.tables.now in
    let table = string_bytes t.table in
    let made : map string_bytes c.in_ok-names.names.items ≡ made_columns (texts_of t.columns) = c.in_ok-names.ensures ∙ ap (λ (v : List (String Global)). made_columns (map string_bytes v)) c.as_slice.ensures.value in
    let placed : c.table_place.result ≡ position (λ (k : RustTableInfo). same_name (string_bytes k.name) table) tables =
    c.table_place.ensures ∙ ap (λ n. position (λ (k : RustTableInfo). same_name (string_bytes k.name) n) tables) c.as_str.ensures.value in (
      due_in (goal.at.returns-clause-makes c).After-create_fault _ c.in_default.is contents told,
      none_named contents table (ap (λ ts. info_named ts table) (sym told) ∙ unplaced shown_info (λ (k : TableInfo). same_name k.name table) tables (sym placed ∙ not_some c.table_place.result (sym c.is_some.ensures ∙ c.if-is_some.false))),
      record {
        id = (let fits : FitsSigned w64 c.free_id.result = search rules in to_z-of_z fits) ∙ c.free_id.ensures.id contents (same_ids tables contents told);
        name = search rules;
        columns = c.in_ok-columns.ensures ∙ (λ i. map (made_column (map option_of (c.as_slice-3.ensures.value i))) (made i));
        sound = refl;
      },
    )

pub returns-in-Some-clause-never : goal.returns-in-Some-clause-never
returns-in-Some-clause-never c = λ told.
    let t = c.args.creation.now in
    let tables = c.args.tables.now in
    created_other (some_contents tables) (string_bytes t.table) (string_bytes t.module) (map option_of t.options.items) (map string_bytes c.as_slice-2.result.now) t.if_new
    (sym (c.create_fault.ensures (some_contents tables) (names_as tables)) ∙ c.in-Some.is ∙ ap Some (err_of _ c.in-Some.fault refl told))
