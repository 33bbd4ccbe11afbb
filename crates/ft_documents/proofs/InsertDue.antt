-- What an Insert deserves.
use Rattle.std.proofs.Common.{◌≡◌, ℕ, Bool, List, [], ◌∷◌, Option, ap, unwrap_or}
use Rattle.std.specs.Option.{option_or}
use Rattle.ft_content.specs.Step.{deserved}
use Rattle.ft_documents.proofs.Common.{Cell, repeats_name, Insert, Contents, first_of, on_sound, listed_columns, insert_fault}
use Rattle.ft_values.specs.declared.fault.Fault.TheVariants as faults

-- the test of its columns, and then the others
pub insert_deserves : (contents : Contents) (name : List ℕ) (columns : Option (List (List ℕ))) (rows : List (List Cell)) (repeats : Bool) → repeats_name (unwrap_or columns []) ≡ repeats →
    deserved contents (Insert name columns rows) ≡ option_or (first_of ((repeats, faults.DuplicateColumn) ∷ [])) (on_sound contents name (λ table content. insert_fault content (listed_columns content columns) rows))
unfolding deserved
insert_deserves contents name columns rows repeats is = ap (λ b. option_or (first_of ((b, faults.DuplicateColumn) ∷ [])) (on_sound contents name (λ table content. insert_fault content (listed_columns content columns) rows))) is
