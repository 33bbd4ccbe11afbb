-- Steps. Posting rows that are written by one statement.
use Rattle.std.specs.Prelude.{◌≡◌, ℕ, pos, List, [], ◌∷◌, map, unwrap_or, string_bytes, Result, All, IfOk, IsTrue}
use Rattle.std.specs.declared.cmp.Ordering.{Ordering}
use Rattle.std.specs.FinMap.Entries.{put}
use Rattle.sqlite.specs.declared.types.Value.TheVariants.{Int, Text, Blob}
use Rattle.sqlite.specs.Order.{Row}
use Rattle.sqlite.specs.State.{HasCleanDisk}
use Rattle.sqlite.specs.Store.{Ghosts}
use Rattle.sqlite.specs.Held.{Held, state}
use Rattle.ft_store.specs.declared.fault.StoreFault.{StoreFault}
use Rattle.ft_values.specs.declared.rows.Spot.{Spot}
use Rattle.ft_rows.specs.Packed.{CanPack, packed, unpacked}
use Rattle.ft_rows.specs.Store.{ListKey, list_key_cmp, StoreValue}
use Rattle.ft_values.specs.declared.rows.RowChange.{RowChange}
use Rattle.ft_values.specs.declared.rows.RowChange.TheVariants as row
use Rattle.ft_store.specs.Rows.{value_of}
use Rattle.ft_store.specs.Calls.{IsStore, Goes}

-- a packed list under its key
abbrev pub PackedList : Type 0
PackedList = ListKey × List ℕ

-- what is bound for its row
abbrev pub entry_values : PackedList → Row
entry_values e = Int e.0.0 ∷ Text e.0.1 ∷ Int e.0.2 ∷ Blob e.1 ∷ []

-- with the places that it stands for, none for a damaged list
abbrev pub entry_spots : PackedList → ListKey × List Spot
entry_spots e = (e.0, unwrap_or (unpacked e.1) [])

-- rows that are put one after the other
abbrev pub put_each : {K X : Type 0} → (K → K → Ordering) → List (K × X) → List (K × X) → List (K × X)
put_each R [] rows = rows
put_each R (e ∷ es) rows = put_each R es (put R e.0 e.1 rows)

abbrev pub with_lists : List PackedList → StoreValue → StoreValue
with_lists es store = record store { lists = put_each list_key_cmp (map entry_spots es) store.lists }

-- the list that a change puts, where it puts one that can be packed
abbrev pub entry_put : RowChange → PackedList
entry_put (row.PutEntries tab term docid spots) = ((tab, string_bytes term, docid), packed spots.items)
entry_put _ = ((pos 0, [], pos 0), [])

abbrev pub PutsList : RowChange → Type 0
PutsList (row.PutEntries tab term docid spots) = CanPack spots.items
PutsList _ = ⊥

-- the packed lists that changes put, each of which puts one
pub record ArePacked (changes : List RowChange) (lists : List (List ℕ)) : Type 0 where
  pub puts : All PutsList changes
  pub packed : lists ≡ map (λ c. (entry_put c).1) changes

-- What steps in a transaction do: where the disk returned what was written and they are Ok, the value is that of `f`, which reads what they
-- answer.
abbrev pub GoesOnOk : {S X : Type 0} → Ghosts S → Held S → Held S → Result X StoreFault → (X → StoreValue → StoreValue) → Type 0
GoesOnOk g old new result f =
    HasCleanDisk (state g new) → IsTrue (state g old).in_transaction → (IsTrue (state g old).is_open → IsStore (state g old).now)
    → IfOk result (λ x. Goes (state g old) (state g new) (f x (value_of (state g old).now.trees)))
