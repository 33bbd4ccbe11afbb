-- No test of a command finds that the store refuses.
use Rattle.std.proofs.Common.{◌≡◌, ◌≢◌, inl, inr, ℕ, ℤ, Bool, true, false, cond, List, [], ◌∷◌, ◌&&◌, not, map, is_some, Option, Some, None, Result, Ok, Err, refl, sym, ap, ◌∙◌, slice_get, IfSome, int_cmp, int_eq, is_eq}
use Rattle.ft_index.proofs.Common.{int_cmp_total, tied_itself, put, Cell, Fault, RustTableInfo, Column, Documents, Contents, Loose, inserted_rows}
use Rattle.ft_index.proofs.Common.{moves_fault, create_fault, docids_named, has_docid, docids_of, TableInfo, info_names, shown_info}
use Rattle.ft_index.proofs.Common.{table_names, IsUnfit}
use Rattle.ft_content.specs.Step.{insert_row, move_fault, next_docid, new_cells, then_rows, append_document}
use Rattle.ft_values.specs.declared.fault.Fault.TheVariants as faults

abbrev is_store : Fault → Bool
is_store faults.Store = true
is_store _ = false

abbrev pub IsOther : Option Fault → Type 0
IsOther due = due ≡ Some faults.Store → ⊥

-- one test more, of another fault
test_other : (b : Bool) (fault : Fault) (rest : Option Fault) → is_store fault ≡ false → IsOther rest → IsOther (cond b (Some fault) rest)
test_other true fault rest other others is = absurd (let e : fault ≡ faults.Store = cc in let no : true ≡ false = sym (ap is_store e) ∙ other in cc)
test_other false fault rest other others is = others is

none_other : IsOther None
none_other is = absurd (let no = is in cc)

pub created_other : (contents : Contents) (table module_name : List ℕ) (options : List (List ℕ × List ℕ)) (names : List (List ℕ)) (if_new : Bool) → IsOther (create_fault contents table module_name options names if_new)
created_other contents table module_name options names if_new =
    test_other _ faults.Module _ refl (test_other _ faults.Tokenizer _ refl (test_other _ faults.Parameter _ refl (test_other _ faults.Name _ refl (test_other _ faults.DuplicateColumn _ refl
    (test_other _ faults.TooManyColumns _ refl (test_other _ faults.TableExists _ refl (test_other _ faults.TooManyTables _ refl (test_other _ faults.NoSuchColumn _ refl none_other))))))))

-- contents that have the names of these tables
abbrev pub some_contents : List RustTableInfo → Contents
some_contents [] = []
some_contents (t ∷ ts) = (t.id, record { name = (shown_info t).name; held = Loose (record { columns = []; skipped = []; cells = [] }) }) ∷ some_contents ts

pub names_as : (tables : List RustTableInfo) → table_names (some_contents tables) ≡ info_names tables
names_as [] = refl
names_as (t ∷ ts) = ap (λ l. (shown_info t).name ∷ l) (names_as ts)

-- the rows of an Insert
abbrev pub RefusesOther : Result Documents Fault → Type 0
RefusesOther made = made ≡ Err faults.Store → ⊥

row_other : (documents : Documents) (docids : List ℤ) (cells : List Cell) → RefusesOther (insert_row documents docids cells)
row_other documents [] cells = go (next_docid documents)
  where
    go : (next : Option ℤ) → RefusesOther (append_document documents next cells)
    go None is = absurd (let no = is in cc)
    go (Some docid) is = absurd (let no = is in cc)
row_other documents (docid ∷ docids) cells = go (has_docid documents docid)
  where
    go : (b : Bool) → RefusesOther (cond b (Err (faults.DocidTaken docid)) (Ok (put int_cmp docid cells documents)))
    go true is = absurd (let no = is in cc)
    go false is = absurd (let no = is in cc)

then_other : (made : Result Documents Fault) → RefusesOther made → (rest : Documents → Result Documents Fault) → ((next : Documents) → RefusesOther (rest next)) → RefusesOther (then_rows made rest)
then_other (Ok next) other rest others = others next
then_other (Err fault) other rest others = other

pub rows_other : (columns : List Column) (rows : List (List (List ℕ × Cell))) (documents : Documents) → RefusesOther (inserted_rows columns rows documents)
unfolding inserted_rows
rows_other columns [] documents is = absurd (let no = is in cc)
rows_other columns (values ∷ rows) documents is =
    then_other (insert_row documents (docids_named values) (new_cells values columns)) (row_other documents (docids_named values) (new_cells values columns)) (inserted_rows columns rows) (λ next. rows_other columns rows next) is

-- a table that can't be used
pub unfit_other : (tables : List TableInfo) (name : List ℕ) (fault : Fault) → IsUnfit tables name fault → fault ≢ faults.Store
unfit_other tables name fault (inl none) is = absurd (let no = sym none.0 ∙ is in cc)
unfit_other tables name fault (inr unsound) is = absurd (let no = sym unsound.0 ∙ is in cc)

-- where a document may move, whatever the documents are
moving_other : (documents picked : Documents) (docid : ℤ) → IsOther (move_fault documents picked docid)
moving_other documents [] docid is = none_other is
moving_other documents (d ∷ []) docid is = test_other (has_docid documents docid && not (int_eq d.0 docid)) (faults.DocidTaken docid) None refl none_other is
moving_other documents (d ∷ e ∷ picked) docid is = test_other true (faults.DocidTaken docid) None refl none_other is

abbrev bare : List ℤ → Documents
bare docids = map (λ (docid : ℤ). (docid, [])) docids

same : (docids : List ℤ) → docids_of (bare docids) ≡ docids
same [] = refl
same (d ∷ ds) = ap (λ l. d ∷ l) (same ds)

abbrev taken : ℤ → Bool → Documents
taken docid true = (docid, []) ∷ []
taken docid false = []

abbrev no_cells : List Cell
no_cells = []

known : (docid : ℤ) (b : Bool) → has_docid (taken docid b) docid ≡ b
known docid true = ap (λ o. is_some (cond (is_eq o) (Some no_cells) None)) (tied_itself int_cmp_total docid)
known docid false = refl

pub moved_other : (chosen : List ℤ) (given : Option ℤ) (is_taken : Bool) (due : Option Fault) →
    ((documents picked : Documents) (docids : List ℤ) → docids_of picked ≡ chosen → slice_get docids 0 ≡ given → IfSome given (λ docid. has_docid documents docid ≡ is_taken) → due ≡ moves_fault documents picked docids) → IsOther due
moved_other chosen None is_taken due computed is = none_other (sym (computed [] (bare chosen) [] (same chosen) refl tt) ∙ is)
moved_other chosen (Some docid) is_taken due computed is =
    moving_other (taken docid is_taken) (bare chosen) docid (sym (computed (taken docid is_taken) (bare chosen) (docid ∷ []) (same chosen) refl (known docid is_taken)) ∙ is)
