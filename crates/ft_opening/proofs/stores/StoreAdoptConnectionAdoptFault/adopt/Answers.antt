use Rattle.std.proofs.Common.{inl, inr, rules, ◌≡◌, sym, refl, length, map, List, [], ◌∷◌, ◌∙◌, ℤ, pos}
use Rattle.ft_opening.proofs.Common.{Row, column}
use Rattle.sqlite_catalog.proofs.ReadLemmas.{lists_once}
use Rattle.sqlite.specs.declared.types.Value.TheVariants as value
use Rattle.ft_store.specs.Tables.{store_schema}
use Rattle.ft_opening.specs.Older.{older_schema}
use Rattle.ft_opening.proofs.stores.StoreAdoptConnectionAdoptFault.adopt.Goals as goal

one : (n : ℤ) (rows : List Row) → map (λ (r : Row). column r 2) rows ≡ value.Int n ∷ [] → length rows ≡ 1
one n [] e = search rules
one n (r ∷ []) e = refl
one n (r ∷ s ∷ rows) e = search rules

same : (m n : ℤ) (rows : List Row) → map (λ (r : Row). column r 2) rows ≡ value.Int n ∷ [] → map (λ (r : Row). column r 2) rows ≡ value.Int m ∷ [] → n ≡ m
same m n rows e f = let both = sym e ∙ f in cc

pub returns-in-Err-clause-again : goal.returns-in-Err-clause-again
returns-in-Err-clause-again g c out clean is_open v left =
    let why = c.in-Err.ensures.refused in
    let schema : c.args.conn.schema ≡ store_schema = lists_once _ _ _ (c.schema-schema.ensures.live is_open).0.lists left.sound.lists in (
      λ is. why.unmarked clean (inl schema) is (one (pos 3) _ left.marked),
      λ n is. let found = why.version clean n (inl schema) is in found.1.1 (same (pos 3) n _ found.0 left.marked),
    )

pub returns-in-Err-clause-again_older : goal.returns-in-Err-clause-again_older
returns-in-Err-clause-again_older g c out clean is_open left =
    let why = c.in-Err.ensures.refused in
    let schema : c.args.conn.schema ≡ older_schema = lists_once _ _ _ (c.schema-schema.ensures.live is_open).0.lists left.sound.lists in (
      λ is. why.unmarked clean (inr schema) is (one (pos 2) _ left.marked),
      λ n is. let found = why.version clean n (inr schema) is in found.1.0 (same (pos 2) n _ found.0 left.marked),
    )
