-- What one number in `meta` says, and the rowids of the tables of a file that was opened.
use Rattle.std.proofs.Common.{◌≡◌, ◌≢◌, ℤ, get_or, arith, List, [], ◌∷◌, map, length, sym, ap, ◌∙◌, ℕ, filter, subst, inl, inr, Less}
use Rattle.ft_opening.proofs.Common.{length-map, Int, Row, column, AllZip, Schema, Table, Trees, value_cmp, value_cmp_total}
use Rattle.ft_opening.proofs.Common.{tied_itself, rowid, IsShaped, IsOrdered, all_from, IsSound, IsTableRow, is_table_row, AreFoundIn}
use Rattle.sqlite_trees.specs.declared.store.Shape.TheVariants as shape
use Rattle.std.proofs.Math.Logic.{∥∥₁_elim}
use Rattle.sqlite_wal.specs.Recovery.{Image}
use Rattle.sqlite_trees.specs.Objects.{catalog_tree, IsListed}
use Rattle.sqlite_trees.specs.Props.{IsOrdered-prop}
use Rattle.sqlite_trees.specs.declared.store.Shape.{Shape}
use Rattle.sqlite_trees.proofs.ListLemmas.{ascending_weaker}
use Rattle.sqlite_catalog.proofs.LayoutLemmas.{table_shape}
use Rattle.sqlite_store.specs.Listing.{all_shapes, all_reals}
use Rattle.sqlite_store.specs.Listed.{catalog_rows, is_listed}
use Rattle.sqlite_store.proofs.ListingLemmas.{all_ordered}
use Rattle.ft_store.specs.Calls.{HasOwnRowids, HaveOwnRowids}
use Rattle.ft_store.proofs.{AreNumbers}

-- what is said of a table's third column by the first column of the rows that a query gives
abbrev Seen : List Row → List Row → Type 0
Seen rows found = (length found ≡ length rows) × ((n : ℤ) → map (λ (r : Row). column r 0) rows ≡ Int n ∷ [] → map (λ (r : Row). column r 2) found ≡ Int n ∷ [])

pub only_one : (numbers : List ℤ) (rows found : List Row) (n : ℤ) → AreNumbers numbers rows → Seen rows found → length numbers ≡ 1 → n ≡ get_or numbers 0 n → map (λ (r : Row). column r 2) found ≡ Int n ∷ []
only_one [] rows found n h seen one is = absurd (omega (arith, one))
only_one (m ∷ []) rows found n h seen one is = seen.1 n (sym h ∙ ap (λ x. Int x ∷ []) (sym is))
only_one (m ∷ k ∷ numbers) rows found n h seen one is = absurd (omega (arith, one))

pub not_one : (numbers : List ℤ) (rows found : List Row) → AreNumbers numbers rows → Seen rows found → length numbers ≢ 1 → length found ≢ 1
not_one numbers rows found h seen none e =
    none (sym (length-map numbers (λ n. Int n)) ∙ ap length h ∙ length-map rows (λ (row : Row). column row 0) ∙ sym seen.0 ∙ e)

-- ---- the trees of a file are in the order of their rowids

differ : (a b : Row) → value_cmp (rowid a) (rowid b) ≡ Less → rowid a ≢ rowid b
differ a b lower same = let tied = ap (value_cmp (rowid a)) (sym same) ∙ tied_itself value_cmp_total (rowid a) in let both = sym lower ∙ tied in cc

own : (rows : List Row) → IsShaped shape.Table rows → HasOwnRowids rows
own rows shaped = (ascending_weaker _ (λ a b. rowid a ≢ rowid b) differ rows shaped.0, shaped.1)

module _ (schema : Schema) (db : Trees) (shapes : ℕ → Shape) (reals : ℕ → ℕ) (listed : IsListed (db catalog_tree) shapes reals)
    (ordered : IsOrdered shapes db) (sound : IsSound schema db) where
  rows : (tree : ℕ) → shapes tree ≡ shape.Table → IsShaped shape.Table (db tree)
  rows tree is = subst (λ s. IsShaped s (db tree)) is (ordered tree)

  numbered : HaveOwnRowids schema.tables db
  numbered = all_from (λ t. HasOwnRowids (db t.tree)) schema.tables (λ t has. own (db t.tree) (rows t.tree (table_shape listed (rows catalog_tree listed.itself.0).0 sound.lists.listed t has).0))

none : (tables : List Table) (db : Trees) → AllZip IsTableRow [] tables → HaveOwnRowids tables db
none [] db h = tt
none (t ∷ tables) db h = absurd h

pub found_numbered : (image : Image) (schema : Schema) (db : Trees) → AreFoundIn image db → IsSound schema db → HaveOwnRowids schema.tables db
found_numbered image schema db (inl (size, pages, wanted, adopts, ours, is)) sound =
    numbered schema db (all_shapes wanted) (all_reals wanted)
    (subst (λ d. IsListed (d catalog_tree) (all_shapes wanted) (all_reals wanted)) (sym is) (rw (catalog_rows size wanted _) (is_listed wanted)))
    (subst (IsOrdered (all_shapes wanted)) (sym is) (∥∥₁_elim ours (IsOrdered-prop _ _) (λ file. all_ordered file.file.db _)))
    sound
found_numbered image schema db (inr (nothing, empty)) sound =
    none schema.tables db (subst (λ objects. AllZip IsTableRow (filter is_table_row objects) schema.tables) empty.1 sound.lists.listed.tables)
