-- Documents that are written group by group.
use Rattle.std.proofs.Common.{◌≡◌, inr, Ok, Err, Result, List, [], ◌∷◌, ◌++◌, map, Option, Some, None, ℤ, pos, refl, sym, ap, subst, ◌∙◌, append-nil, cond, IsTrue, All, Vec, is_ok, OnOk, IfErr, Global, flat_map, vec_items}
use Rattle.ft_index.proofs.Common.{IsOutside, MakesRows, HasCleanDisk, All-nil, Ghosts, Change, all_applied, StoreState, shows, value_in, changes_in}
use Rattle.ft_index.proofs.Common.{RowChange, Fault, Column, column_of, Rewrite, AreOf, AreRight, shown_rewrite, rewritten_docids, IsOfDocids}
use Rattle.ft_index.proofs.Common.{Written, table_change, AreRewrites, alone, behind, first_parts, MakesWritten, MakesAnew}
use Rattle.sqlite_keyed.proofs.ListLemmas.{flat_map-map, map-flat_map}
use Rattle.ft_values.specs.declared.fault.Fault.TheVariants as faults
use Rattle.ft_documents.specs.declared.rewrite.Rewrite as source
use Rattle.ft_documents.specs.RewriteRows.{rewrite_changes}
use Rattle.ft_documents.proofs.{groups_right, groups_near}
use Rattle.ft_index.specs.Written.{AreOfWritten, IsOfContent}
use Rattle.ft_index.proofs.Doing.{no_rewrites, nothing_done}

abbrev Groups : Type 0
Groups = List (Vec source.Rewrite Global)

abbrev shown : Groups → List (List Rewrite)
shown groups = map (λ (group : Vec source.Rewrite Global). map shown_rewrite group.items) groups

joined : (groups : Groups) → flat_map (λ group. group) (shown groups) ≡ map shown_rewrite (flat_map vec_items groups)
joined groups = flat_map-map (λ (g : List Rewrite). g) (λ (group : Vec source.Rewrite Global). map shown_rewrite group.items) groups ∙ sym (map-flat_map shown_rewrite vec_items groups)

-- the part of each group
abbrev pub parts_of : ℤ → List Column → Groups → List (List Change)
parts_of tab columns groups = map (λ (group : Vec source.Rewrite Global). rewrite_changes tab columns (map shown_rewrite group.items)) groups

parts_are : (tab : ℤ) (columns : List Column) (groups : Groups) → flat_map (rewrite_changes tab columns) (shown groups) ≡ changes_in (parts_of tab columns groups)
parts_are tab columns [] = refl
parts_are tab columns (group ∷ groups) = ap (λ l. rewrite_changes tab columns (map shown_rewrite group.items) ++ l) (parts_are tab columns groups)

-- a change that comes first, and the parts after it
pub parts_behind : (first : Option RowChange) (parts : List (List Change)) → changes_in (first_parts first ++ parts) ≡ changes_in (first_parts first) ++ changes_in parts
parts_behind None parts = refl
parts_behind (Some change) parts = refl

-- where nothing is made
unmade : {S X : Type 0} (g : Ghosts S) (store : StoreState S) (changes : List Change) (result : Result X Fault) → value_in g store ≡ cond (is_ok result) (all_applied changes (value_in g store)) (value_in g store) →
    (HasCleanDisk (shows g store) → OnOk result (IsTrue (shows g store).is_open → IsTrue (shows g store).is_open)) → IfErr result IsOutside → MakesRows g store store changes result
unmade g store changes result same live cause = record { changed = record { was_up = λ tables others up. record { clean = up.clean; is_open = up.is_open }; value = λ tables up. same }; crash = nothing_done (shows g store); live = live; cause = cause; unread = refl }

module _ (written : Written) where
  abbrev tab : ℤ
  tab = written.table.now.id

  abbrev columns : List Column
  columns = map column_of written.table.now.columns.items

  pub of_groups : (groups : Groups) → flat_map vec_items groups ≡ written.rewrites.items → AreOfWritten written (changes_in (parts_of tab columns groups))
  of_groups groups is =
      let all : flat_map (λ (group : List Rewrite). group) (shown groups) ≡ map shown_rewrite written.rewrites.items = joined groups ∙ ap (map shown_rewrite) is in
      let P : List Rewrite → List Change → Type 0 = λ rewrites changes. AreRight tab columns rewrites changes × All (IsOfDocids tab (rewritten_docids rewrites)) changes in
      subst (λ rewrites. P rewrites (changes_in (parts_of tab columns groups))) all
      (subst (P (flat_map (λ group. group) (shown groups))) (parts_are tab columns groups) (groups_right tab columns (shown groups), groups_near tab columns (shown groups)))

  -- and each of them once, where the documents are of a content
  pub own_groups : (groups : Groups) → flat_map vec_items groups ≡ written.rewrites.items → IsOfContent written → AreRewrites tab (changes_in (parts_of tab columns groups))
  own_groups groups is of_content = record {
    content = of_content.content;
    groups = shown groups;
    are_of = subst (AreOf of_content.content) (sym (joined groups ∙ ap (map shown_rewrite) is)) of_content.are_of;
    are = sym (parts_are tab columns groups) ∙ ap (λ cs. flat_map (rewrite_changes tab cs) (shown groups)) (sym of_content.columns_are);
  }

  -- where nothing is made, for want of memory
  pub makes_nothing : {S : Type 0} (g : Ghosts S) (first : List Change) (store : StoreState S) → MakesWritten {X = Unit {0}} g first written store store (Err faults.Memory)
  makes_nothing g first store = record {
    changes = changes_in (parts_of tab columns (written.rewrites ∷ []));
    of_written = of_groups (written.rewrites ∷ []) (append-nil written.rewrites.items);
    own = own_groups (written.rewrites ∷ []) (append-nil written.rewrites.items);
    refused = λ clean told. absurd (let no = told in cc);
    makes = unmade g store _ (Err faults.Memory) refl (λ clean. tt) (inr refl);
  }

  -- a table that is made first is made anew
  pub makes_anew : {S : Type 0} (g : Ghosts S) (old new : StoreState S) (result : Result (Unit {0}) Fault) → MakesWritten g (table_change written.table.now ∷ []) written old new result → MakesAnew g (Some written) old new result
  makes_anew g old new result made = record { changes = table_change written.table.now ∷ made.changes; of_anew = record { rest = made.changes; are = refl; of_written = made.of_written }; own = λ some. behind _ _ _ _ made.changes (made.own some); makes = made.makes; refused = made.refused }

-- where nothing is to be made
pub made_already : {S : Type 0} (g : Ghosts S) (store : StoreState S) → MakesAnew {X = Unit {0}} g None store store (Ok tt)
made_already g store = record {
  changes = [];
  of_anew = refl;
  own = λ _. alone (pos 0) [] (no_rewrites (pos 0) []);
  refused = λ clean told. absurd (let no = told in cc);
  makes = unmade g store [] (Ok tt) refl (λ clean is_open. is_open) tt;
}

-- no documents are of any content
pub none_written : (columns : List Column) (written : Written) → map column_of written.table.now.columns.items ≡ columns → map shown_rewrite written.rewrites.items ≡ [] → IsOfContent written
none_written columns written same none = record {
  content = record { columns = columns; documents = [] };
  columns_are = sym same;
  are_of = subst (AreOf (record { columns = columns; documents = [] })) (sym none) (record { rising = refl; befores = All-nil _; afters = All-nil _ });
}
