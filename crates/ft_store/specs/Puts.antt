-- Meaning. Why the database refuses rows that are put. The database gives a row the rowid after the last one of its table, a number of 64
-- bits, and takes no row of more than a billion bytes, with 18 for each value.
use Rattle.std.specs.Prelude.{Bool, if◌then◌else◌, IfOk, ◌≡◌, ◌≢◌, ◌⊎◌, ◌≤◌, ◌<◌, ◌+◌, ◌-◌, ◌*◌, ◌^◌, ◌≤ℤ◌, ◌++◌, ℕ, ℤ, pos, negsuc}
use Rattle.std.specs.Prelude.{List, [], ◌∷◌, length, fold, Any, Some, Result, Err, IsTrue, OnOk}
use Rattle.std.specs.List.{AllByRecursion, sum_by}
use Rattle.std.specs.Ordering.{int_cmp}
use Rattle.std.specs.FinMap.Entries.{find}
use Rattle.sqlite.specs.Order.{Row}
use Rattle.sqlite_value.specs.Order.{bytes}
use Rattle.sqlite_value.specs.Keys.{without_case}
use Rattle.sqlite.specs.Tree.{Trees}
use Rattle.sqlite_trees.specs.Tree.{IsTable, rowid}
use Rattle.sqlite_rules.specs.Edit.{id_in}
use Rattle.sqlite.specs.State.{State, HasCleanDisk, ExecutesInside}
use Rattle.sqlite.specs.declared.error.Error.{Error}
use Rattle.sqlite.specs.declared.error.Error.TheVariants.{SqliteFailure}
use Rattle.sqlite.specs.declared.error.ErrorCode.TheVariants as code
use Rattle.sqlite_schema.specs.declared.schema.Constraint.{Constraint}
use Rattle.sqlite.specs.Store.{Ghosts}
use Rattle.sqlite.specs.Held.{Held, state}
use Rattle.ft_rows.specs.Packed.{packed}
use Rattle.ft_rows.specs.Store.{StoreValue, Change, AddTable, PutCell, PutEntries, PutSize, Note, all_applied}
use Rattle.ft_store.specs.declared.fault.StoreFault.{StoreFault}
use Rattle.ft_store.specs.declared.fault.StoreFault.TheVariants as fault
use Rattle.ft_store.specs.Rows.{txt_of, value_of}
use Rattle.ft_store.specs.Calls.{IsStore}
use Rattle.ft_store.specs.Blame.{IsBlamed}
use Rattle.ft_store.specs.Groups.{PackedList}

-- a number, and 0 for one below it
abbrev pub at_least_zero : ℤ → ℕ
at_least_zero (pos n) = n
at_least_zero (negsuc n) = 0

-- the rowid of the last row, and 0 where it is below that or there is no row
abbrev pub last_number : List Row → ℕ
last_number = fold (λ _ r. at_least_zero (id_in (rowid r))) 0

-- rowids as the database keeps them: they rise, and none is below the least number of 64 bits
pub record AreRowids (rows : List Row) : Type 0 where
  pub rise : IsTable rows
  pub fit : AllByRecursion (λ r. negsuc (2 ^ 63 - 1) ≤ℤ id_in (rowid r)) rows

-- a table has no room for so many rows more: its rowids would pass the greatest number
abbrev pub IsFull : ℕ → List Row → Type 0
IsFull count rows = AreRowids rows → 2 ^ 63 ≤ last_number rows + count

-- so many rows at most were added, each behind the last, and others were taken out
abbrev pub IsGrown : ℕ → List Row → List Row → Type 0
IsGrown count old new = AreRowids old → AreRowids new × (last_number new ≤ last_number old + count)

-- the trees of the tables whose rowids the database gives
abbrev pub chosen_trees : List ℕ
chosen_trees = 3 ∷ 5 ∷ 7 ∷ 9 ∷ 11 ∷ 13 ∷ []

-- the same of each such table
abbrev pub AreGrown : ℕ → Trees → Trees → Type 0
AreGrown count old new = AllByRecursion (λ tree. IsGrown count (old tree) (new tree)) chosen_trees

-- so many values with so many bytes are too big for a row
abbrev pub IsTooBig : ℕ → ℕ → Type 0
IsTooBig values count = 10 ^ 9 < 18 * values + count

-- how many rows a change puts whose rowids the database gives
abbrev pub rows_put : Change → ℕ
rows_put (AddTable tab name columns skipped) = length columns + length skipped
rows_put (PutCell tab docid column value) = 1
rows_put (PutEntries tab term docid spots) = 1
rows_put (PutSize tab docid column n) = 1
rows_put (Note name) = 1
rows_put _ = 0

-- another table has the name, but for the case of its letters
pub record IsOthers (tab : ℤ) (name : List ℕ) (tables : List (ℤ × List ℕ)) : Type 0 where
  pub other : ℤ
  pub other_name : List ℕ
  pub there : find int_cmp other tables ≡ Some other_name
  pub apart : other ≢ tab
  pub same : without_case other_name ≡ without_case name

-- why a change is refused, where so many rows are put into these trees, which have such a value then
abbrev pub CantPut : ℕ → Trees → StoreValue → Change → Type 0
CantPut count db value (AddTable tab name columns skipped) =
    IsFull count (db 3) ⊎ (IsFull count (db 13) ⊎ (IsTooBig 3 (length name) ⊎ (Any (λ c. IsTooBig 4 (length c)) columns ⊎ IsOthers tab name value.tables)))
CantPut count db value (PutCell tab docid column cell) = IsFull count (db 5) ⊎ IsTooBig 6 (length (bytes (txt_of cell)))
CantPut count db value (PutEntries tab term docid spots) = IsFull count (db 7) ⊎ IsTooBig 5 (length term + length (packed spots))
CantPut count db value (PutSize tab docid column n) = IsFull count (db 9)
CantPut count db value (Note name) = IsFull count (db 11) ⊎ IsTooBig 2 (length name)
CantPut count db value _ = ⊥

-- why changes are refused, one after the other: one of them can't be made of what those before it made
pub record CantPutAll (db : Trees) (changes : List Change) : Type 0 where
  pub done : List Change
  pub change : Change
  pub left : List Change
  pub are : changes ≡ done ++ change ∷ left
  pub why : CantPut (sum_by rows_put changes) db (all_applied done (value_of db)) change

-- in a transaction of a store a call is refused only by what lies outside it, or for a reason in the rows that it had before the call
abbrev pub BlamesRows : {S X : Type 0} → Ghosts S → Held S → Held S → Result X StoreFault → (Trees → Type 0) → Type 0
BlamesRows g old new result Why =
    HasCleanDisk (state g new) → IsTrue (state g old).in_transaction → (IsTrue (state g old).is_open → IsStore (state g old).now) → result ≡ Err fault.Refused
    → IsBlamed (state g old) (state g new) ⊎ Why (state g old).now.trees

-- in a transaction of a store a call that is answered Ok puts so many rows at most
abbrev pub GrowsOnOk : {S X : Type 0} → Ghosts S → Held S → Held S → Result X StoreFault → ℕ → Type 0
GrowsOnOk g old new result count =
    HasCleanDisk (state g new) → IsTrue (state g old).in_transaction → (IsTrue (state g old).is_open → IsStore (state g old).now)
    → OnOk result (AreGrown count (state g old).now.trees (state g new).now.trees)

-- the same of rows that are added or left out, and of a call in an open database
abbrev pub GrowsIfAdded : {S : Type 0} → Ghosts S → Held S → Held S → Result Bool StoreFault → ℕ → Type 0
GrowsIfAdded g old new result count =
    HasCleanDisk (state g new) → IsTrue (state g old).in_transaction → (IsTrue (state g old).is_open → IsStore (state g old).now)
    → IfOk result (λ added. AreGrown (if added then count else 0) (state g old).now.trees (state g new).now.trees)

abbrev pub GrowsIfOpen : {S X : Type 0} → Ghosts S → Held S → Held S → Result X StoreFault → ℕ → Type 0
GrowsIfOpen g old new result count =
    HasCleanDisk (state g new) → IsTrue (state g old).in_transaction → IsTrue (state g old).is_open → IsStore (state g old).now
    → OnOk result (AreGrown count (state g old).now.trees (state g new).now.trees)

abbrev pub BlamesIfOpen : {S X : Type 0} → Ghosts S → Held S → Held S → Result X StoreFault → (Trees → Type 0) → Type 0
BlamesIfOpen g old new result Why =
    HasCleanDisk (state g new) → IsTrue (state g old).in_transaction → IsTrue (state g old).is_open → IsStore (state g old).now → result ≡ Err fault.Refused
    → IsBlamed (state g old) (state g new) ⊎ Why (state g old).now.trees

-- The statement fails inside a transaction, not for want of memory and not for a rule of its table.
abbrev pub FailsUnruled : {S : Type 0} → Ghosts S → Held S → Held S → List ℕ → Row → Type 0
FailsUnruled g old new sql params =
    (e : Error) × (e ≢ SqliteFailure code.OutOfMemory) × ((rule : Constraint) → e ≢ SqliteFailure (code.ConstraintViolation rule))
    × ExecutesInside 0 sql params (state g old) (state g new) (Err e)

-- why a statement is refused that breaks no rule of its table: as the database says
abbrev pub RefusesAdd : {S X : Type 0} → Ghosts S → Held S → Held S → Result X StoreFault → List ℕ → Row → Type 0
RefusesAdd g old new result sql params =
    HasCleanDisk (state g new) → IsTrue (state g old).in_transaction → result ≡ Err fault.Refused → FailsUnruled g old new sql params

-- the tables whose rowids the database gives keep their rows, but for one
abbrev pub KeepsRest : ℕ → Trees → Trees → Type 0
KeepsRest tree old new = AllByRecursion (λ t. t ≢ tree → new t ≡ old t) chosen_trees

-- so does a call in a transaction of a store, or in an open one, that is answered Ok
abbrev pub KeepsRestOnOk : {S X : Type 0} → Ghosts S → Held S → Held S → Result X StoreFault → ℕ → Type 0
KeepsRestOnOk g old new result tree =
    HasCleanDisk (state g new) → IsTrue (state g old).in_transaction → (IsTrue (state g old).is_open → IsStore (state g old).now)
    → OnOk result (KeepsRest tree (state g old).now.trees (state g new).now.trees)

abbrev pub KeepsRestIfOpen : {S X : Type 0} → Ghosts S → Held S → Held S → Result X StoreFault → ℕ → Type 0
KeepsRestIfOpen g old new result tree =
    HasCleanDisk (state g new) → IsTrue (state g old).in_transaction → IsTrue (state g old).is_open → IsStore (state g old).now
    → OnOk result (KeepsRest tree (state g old).now.trees (state g new).now.trees)

-- a list that is added is too big
abbrev pub IsBigEntry : PackedList → Type 0
IsBigEntry e = IsTooBig 5 (length e.0.1 + length e.1)

-- a call outside a transaction is refused by the database only so
abbrev pub BlamesPuts : {X : Type 0} → State → State → Result X StoreFault → List Change → Type 0
BlamesPuts old new result changes = HasCleanDisk new → result ≡ Err fault.Refused → IsBlamed old new ⊎ CantPutAll old.now.trees changes
