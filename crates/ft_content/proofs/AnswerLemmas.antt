-- Rows of an answer.
use Rattle.std.proofs.Common.{◌≡◌, ℕ, zero, suc, false, List, [], ◌∷◌, ◌++◌, map, take, drop, Option, Some, None, ℤ, refl, ap, ◌∙◌}
use Rattle.ft_content.proofs.Common.{list_any, flat_map, Tree, Cell, Content, Item, AllColumns, Named, OffsetsOf, cells_with, item_cells, offsets_cell, cut, is_offsets, RowsAreCutFirst}

-- the cells of items are those with the offsets of the query
pub item_cells_are : (query : Option Tree) (content : Content) (document : ℤ × List Cell) (items : List Item) →
    flat_map (item_cells query content document) items ≡ flat_map (cells_with (offsets_cell query content document) content document) items
item_cells_are query content document [] = refl
item_cells_are query content document (AllColumns ∷ items) = ap (λ cells. document.1 ++ cells) (item_cells_are query content document items)
item_cells_are query content document (Named name ∷ items) = ap (λ cells. item_cells query content document (Named name) ++ cells) (item_cells_are query content document items)
item_cells_are query content document (OffsetsOf name ∷ items) = ap (λ cells. item_cells query content document (OffsetsOf name) ++ cells) (item_cells_are query content document items)

-- where no offsets are asked for, any text will do
pub offsets_unasked : (one other : Cell) (content : Content) (document : ℤ × List Cell) (items : List Item) → list_any is_offsets items ≡ false →
    flat_map (cells_with one content document) items ≡ flat_map (cells_with other content document) items
offsets_unasked one other content document [] h = refl
offsets_unasked one other content document (AllColumns ∷ items) h = ap (λ cells. document.1 ++ cells) (offsets_unasked one other content document items h)
offsets_unasked one other content document (Named name ∷ items) h = ap (λ cells. cells_with one content document (Named name) ++ cells) (offsets_unasked one other content document items h)
offsets_unasked one other content document (OffsetsOf name ∷ items) h = absurd (let no = h in cc)

drop_of_map : {A B : Type 0} (f : A → B) (n : ℕ) (xs : List A) → drop n (map f xs) ≡ map f (drop n xs)
drop_of_map f zero xs = refl
drop_of_map f (suc n) [] = refl
drop_of_map f (suc n) (x ∷ xs) = drop_of_map f n xs

take_of_map : {A B : Type 0} (f : A → B) (n : ℕ) (xs : List A) → take n (map f xs) ≡ map f (take n xs)
take_of_map f zero xs = refl
take_of_map f (suc n) [] = refl
take_of_map f (suc n) (x ∷ xs) = ap (λ ys. f x ∷ ys) (take_of_map f n xs)

pub cut_of_map : {A B : Type 0} (f : A → B) (limit : Option ℕ) (offset : ℕ) (xs : List A) → cut limit offset (map f xs) ≡ map f (cut limit offset xs)
cut_of_map f None offset xs = drop_of_map f offset xs
cut_of_map f (Some limit) offset xs = ap (take limit) (drop_of_map f offset xs) ∙ take_of_map f limit (drop offset xs)

pub rows_are_cut_first : RowsAreCutFirst
rows_are_cut_first row limit offset documents = cut_of_map row limit offset documents
