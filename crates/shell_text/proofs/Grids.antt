-- The texts of a grid are those of its table.
use Rattle.std.proofs.Common.{◌≡◌, refl, sym, ap, ◌∙◌, ℕ, false, List, [], ◌∷◌, length, map, string_bytes, Vec, Global}
use Rattle.std.specs.Prelude.{◌==◌, if◌then◌else◌}
use Rattle.std.proofs.lemmas.List.{length-map}
use Rattle.shell_text.specs.Print.{Settings, printed_cell, layout, name_in, printed, table_of, value_of_cell}
use Rattle.shell_text.specs.declared.print.Cell.{Cell}
use Rattle.shell_text.specs.declared.print.Grid.{Grid}

map_map : {A B C : Type 0} (f : B → C) (g : A → B) (xs : List A) → map (λ (x : A). f (g x)) xs ≡ map f (map g xs)
map_map f g [] = refl
map_map f g (x ∷ xs) = ap (λ ys. f (g x) ∷ ys) (map_map f g xs)

row_table : (settings : Settings) (rows : List (Vec Cell Global)) → map (λ (row : Vec Cell Global). map (λ cell. printed_cell settings (value_of_cell cell)) row.items) rows ≡ map (map (printed_cell settings)) (map (λ (row : Vec Cell Global). map value_of_cell row.items) rows)
row_table settings [] = refl
row_table settings (row ∷ rows) =
    ap (λ r. r ∷ map (λ (row : Vec Cell Global). map (λ cell. printed_cell settings (value_of_cell cell)) row.items) rows) (map_map (printed_cell settings) value_of_cell row.items)
    ∙ ap (λ rs. map (printed_cell settings) (map value_of_cell row.items) ∷ rs) (row_table settings rows)

pub printed_grid : (settings : Settings) (grid : Grid) (names : List (List ℕ)) (rows : List (List (List ℕ))) → (length grid.rows.items == 0) ≡ false
    → names ≡ map (λ name. name_in settings.mode (string_bytes name)) grid.names.items → rows ≡ map (λ (row : Vec Cell Global). map (λ cell. printed_cell settings (value_of_cell cell)) row.items) grid.rows.items
    → layout settings.mode settings names rows ≡ printed settings (table_of grid)
printed_grid settings grid names rows some n r =
    let t = table_of grid in
    ap (λ ns. layout settings.mode settings ns rows) (n ∙ map_map (name_in settings.mode) string_bytes grid.names.items)
    ∙ ap (layout settings.mode settings (map (name_in settings.mode) t.names)) (r ∙ row_table settings grid.rows.items)
    ∙ sym (ap (λ b. if b then [] else layout settings.mode settings (map (name_in settings.mode) t.names) (map (map (printed_cell settings)) t.rows))
    (ap (λ k. k == 0) (length-map grid.rows.items (λ (row : Vec Cell Global). map value_of_cell row.items)) ∙ some))
