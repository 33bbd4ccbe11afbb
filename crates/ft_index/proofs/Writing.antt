-- From rewrites of one table's documents to a plan of the command that writes them.
use Rattle.std.proofs.Common.{◌≡◌, ◌≢◌, ◌⊎◌, inl, inr, ℕ, zero, suc, ◌<◌, List, [], ◌∷◌, length, Option, Some, None, Ok, Err, ℤ, refl, sym, ap, subst, ◌∙◌, arith, map, Result, string_bytes, All, Contains, slice_index_or, Vec, Global}
use Rattle.ft_index.proofs.Common.{AllByRecursion, recursion_from_All, All-from_recursion, StoreValue, AreInOrder, Change, AddTable, DropTable}
use Rattle.ft_index.proofs.Common.{ClearIndex, Note, all_applied, Fault, Content, Documents, IsContent, content_rows, Column, index_rows, Command}
use Rattle.ft_index.proofs.Common.{TableInfo, column_of, shown_info, Contents, table_named, on_sound, deserved, with_documents, on_table, after}
use Rattle.ft_index.proofs.Common.{touched, info_named, IsUnfit, IsSoundNamed, Rewrite, AreRight, rewritten_docids, rewritten_content, HasContent}
use Rattle.ft_index.proofs.Common.{shown_rewrite, AreHeld, StoreHolds, StaysNear, PlansFrom, is_outside, IsUp, TableState, held_content, IsOfDocids, LeadsTo}
use Rattle.ft_index.proofs.Common.{HasAll, WritesDocuments, WritesIn, PlansTo, Ghosts, StoreState, value_in, with_tables, Written}
use Rattle.ft_index.proofs.OneTable.{held_named, IsSoundTable, sound_table, sound_is, unfit_is, sound_rows, leaves_rest, lifts, keeps_changed}
use Rattle.ft_content.specs.Step.{touched_of, touched_found, touched_held}
use Rattle.ft_calls.specs.Kept.{AreOfFound}
use Rattle.ft_values.specs.declared.fault.Fault.TheVariants as faults
use Rattle.ft_documents.specs.declared.rewrite.Rewrite as source

-- A command that writes documents of the table of a name: what it deserves where that table is
-- sound, the documents after it, and the docids that it touches.
pub record IsWrite (command : Command) (name : List ℕ) (due : List ℕ → Content → Option Fault) (change : Content → Documents) (touch : Content → List ℤ) : Type 0 where
  pub deserves : (contents : Contents) → deserved contents command ≡ on_sound contents name due
  pub leaves : (contents : Contents) → after contents command ≡ on_table contents name (with_documents change)
  pub touches : (contents : Contents) → touched contents command ≡ touched_of contents name touch
  pub near : (contents : Contents) (changes : List Change) → AreOfFound (table_named contents name) (touched contents command) changes → StaysNear contents command changes
  pub keeps : (table : List ℕ) (content : Content) → IsContent table content → due table content ≡ None → IsContent table (record content { documents = change content })

pub memory_or : (fault : Fault) → (fault ≡ faults.Memory) ⊎ (fault ≢ faults.Memory)
memory_or faults.Memory = inl refl
memory_or _ = inr (λ e. let no = e in cc)

-- ---- changes are of documents that are touched

contained : (touched : List ℤ) (rewrites : List Rewrite) → AllByRecursion (λ (r : Rewrite). Contains touched r.docid) rewrites → (docid : ℤ) (k : ℕ) → k < length (rewritten_docids rewrites) → slice_index_or (rewritten_docids rewrites) k docid ≡ docid → Contains touched docid
contained touched [] near docid k inside is = absurd (omega (arith, inside))
contained touched (r ∷ rs) near docid zero inside is = subst (Contains touched) is near.0
contained touched (r ∷ rs) near docid (suc k) inside is = contained touched rs near.1 docid k (omega (arith, inside)) is

widened : (id : ℤ) (few many : List ℤ) → ((docid : ℤ) → Contains few docid → Contains many docid) → (change : Change) → IsOfDocids id few change → IsOfDocids id many change
widened id few many more (AddTable tab name columns skipped) h = absurd h
widened id few many more (DropTable tab) h = absurd h
widened id few many more (ClearIndex tab) h = absurd h
widened id few many more (Note name) h = absurd h
widened id few many more _ h = (h.0, more _ h.1)

all_widened : (id : ℤ) (few many : List ℤ) → ((docid : ℤ) → Contains few docid → Contains many docid) → (changes : List Change) → AllByRecursion (IsOfDocids id few) changes → AllByRecursion (IsOfDocids id many) changes
all_widened id few many more [] h = tt
all_widened id few many more (change ∷ changes) h = (widened id few many more change h.0, all_widened id few many more changes h.1)

-- ---- plans

module _ (command : Command) (name : List ℕ) (due : List ℕ → Content → Option Fault) (change : Content → Documents) (touch : Content → List ℤ) (is : IsWrite command name due change touch) (store : StoreValue) (tables : List TableInfo) (contents : Contents) (held : AreHeld store tables contents) where
  -- it deserves a fault, or something from outside does
  pub plan_fails : (known : TableInfo) (t : IsSoundTable contents name known) (fault : Fault) → ((fault ≡ faults.Store) ⊎ (fault ≡ faults.Memory)) ⊎ (due t.table.1.name t.content ≡ Some fault) → PlansFrom contents command store (Err fault)
  plan_fails known t fault (inl (inl store_is)) = inl (ap (λ f. is_outside (Err f)) store_is)
  plan_fails known t fault (inl (inr memory)) = inl (ap (λ f. is_outside (Err f)) memory)
  plan_fails known t fault (inr fails) = inr (is.deserves contents ∙ sound_is contents name known t due ∙ fails)

  -- row changes that are right for rewrites which lead to what the command leaves
  pub plan_written : (known : TableInfo) (t : IsSoundTable contents name known) (rewrites : List Rewrite) (changes : List Change) → AreInOrder store → due t.table.1.name t.content ≡ None → LeadsTo t.content (change t.content) (touch t.content) rewrites →
      AreRight t.table.0 t.content.columns rewrites changes → All (IsOfDocids t.table.0 (rewritten_docids rewrites)) changes → PlansFrom contents command store (Ok changes)
  plan_written known t rewrites changes order fine leads right of_docids =
      let has = sound_rows store tables contents name known t order held in
      let done = right t.table.1.name t.content store has refl leads.are_of in
      let same : rewritten_content rewrites t.content ≡ record t.content { documents = change t.content } = λ i. record t.content { documents = leads.made i } in
      let few = recursion_from_All (IsOfDocids t.table.0 (rewritten_docids rewrites)) changes of_docids in
      let leaves = leaves_rest t.table.0 (rewritten_docids rewrites) changes store few in
      let many = all_widened t.table.0 (rewritten_docids rewrites) (touch t.content) (λ docid inside. contained (touch t.content) rewrites leads.near docid inside.0 inside.1 inside.2) changes few in
      let touches : touched contents command ≡ touch t.content = is.touches contents ∙ ap (λ found. touched_found found touch) t.found ∙ ap (λ h. touched_held h touch) t.held in (
        is.deserves contents ∙ sound_is contents name known t due ∙ fine,
        subst (StoreHolds (all_applied changes store)) (sym (is.leaves contents))
            (lifts store (all_applied changes store) tables contents name known t change order held leaves (is.keeps t.table.1.name t.content has.is_content fine) (done.0 ∙ ap content_rows same) (done.1 ∙ ap index_rows same)),
        keeps_changed t.table.0 store (all_applied changes store) leaves ((held_named store name t.table store.tables contents held.held t.found).1),
        is.near contents changes (subst (λ docids. AreOfFound (table_named contents name) docids changes) (sym touches)
            (subst (λ found. AreOfFound found (touch t.content) changes) (sym t.found) (All-from_recursion (IsOfDocids t.table.0 (touch t.content)) changes many))),
      )

module _ {S : Type 0} (g : Ghosts S) (command : Command) (name : List ℕ) (due : List ℕ → Content → Option Fault) (change : Content → Documents) (touch : Content → List ℤ) (is : IsWrite command name due change touch) (old new : StoreState S) (tables : List TableInfo) where
  pub plans_unfit : (fault : Fault) → IsUnfit tables name fault → PlansTo g tables old new command (Err fault)
  plans_unfit fault unfit up contents held = inr (is.deserves contents ∙ unfit_is contents name fault due (subst (λ ts. IsUnfit ts name fault) held.told unfit))

  module _ (known : TableInfo) (order : AreInOrder (value_in g old)) (named : IsSoundNamed tables name known) where
    here : (contents : Contents) → AreHeld (value_in g old) tables contents → IsSoundTable contents name known
    here contents held = sound_table contents name known (ap (λ ts. info_named ts name) (sym held.told) ∙ named.0) named.1

    has_all : (contents : Contents) (held : AreHeld (value_in g old) tables contents) → IsUp g (with_tables new tables) → HasAll g known.id known.name known.columns old new (here contents held).content
    has_all contents held up =
        let t = here contents held in
        let has = sound_rows (value_in g old) tables contents name known t order held in
        record {
          clean = up.clean;
          is_open = up.is_open;
          has = subst (λ (k : TableInfo). HasContent k.name t.content k.id (value_in g old)) t.told has;
          columns_are = ap (λ (h : TableState). (held_content h).columns) (sym t.held) ∙ ap (λ (k : TableInfo). k.columns) t.told;
        }

    pub plans_fail : (fault : Fault) → ((content : Content) → HasAll g known.id known.name known.columns old new content → WritesDocuments content (due known.name content) (change content) (touch content) (Err fault)) → PlansTo g tables old new command (Err fault)
    plans_fail fault writes up contents held =
        let t = here contents held in
        plan_fails command name due change touch is (value_in g old) tables contents held known t fault
        (subst (λ (k : TableInfo). WritesDocuments t.content (due k.name t.content) (change t.content) (touch t.content) (Err fault)) (sym t.told) (writes t.content (has_all contents held up)))

    pub plans_failed : (fault : Fault) (found : Result Written Fault) → found ≡ Err fault → ((content : Content) → HasAll g known.id known.name known.columns old new content → WritesDocuments content (due known.name content) (change content) (touch content) (Err fault)) → WritesIn g tables old new command found
    plans_failed fault found failed writes = subst (WritesIn g tables old new command) (sym failed) (plans_fail fault writes)

    pub plans_do : (rewrites : Vec source.Rewrite Global) (changes : List Change) → ((content : Content) → HasAll g known.id known.name known.columns old new content → WritesDocuments content (due known.name content) (change content) (touch content) (Ok rewrites)) →
        AreRight known.id known.columns (map shown_rewrite rewrites.items) changes → All (IsOfDocids known.id (rewritten_docids (map shown_rewrite rewrites.items))) changes → PlansTo g tables old new command (Ok changes)
    plans_do rewrites changes writes right near up contents held =
        let t = here contents held in
        let has = has_all contents held up in
        let written = subst (λ (k : TableInfo). WritesDocuments t.content (due k.name t.content) (change t.content) (touch t.content) (Ok rewrites)) (sym t.told) (writes t.content has) in
        let id : known.id ≡ t.table.0 = ap (λ (k : TableInfo). k.id) (sym t.told) in
        plan_written command name due change touch is (value_in g old) tables contents held known t (map shown_rewrite rewrites.items) changes order written.0 written.1
        (subst (λ (columns : List Column). AreRight t.table.0 columns (map shown_rewrite rewrites.items) changes) (sym has.columns_are) (subst (λ k. AreRight k known.columns (map shown_rewrite rewrites.items) changes) id right))
        (subst (λ k. All (IsOfDocids k (rewritten_docids (map shown_rewrite rewrites.items))) changes) id near)

  -- the same of documents that were found to be written
  pub writes_do : (written : Written) (order : AreInOrder (value_in g old)) (named : IsSoundNamed tables name (shown_info written.table.now)) → ((content : Content) → HasAll g written.table.now.id (string_bytes written.table.now.name) (map column_of written.table.now.columns.items) old new content
      → WritesDocuments content (due (string_bytes written.table.now.name) content) (change content) (touch content) (Ok written.rewrites)) → WritesIn g tables old new command (Ok written)
  writes_do written order named writes =
      let known = shown_info written.table.now in (
        λ changes of_written. plans_do known order named written.rewrites changes writes of_written.0 of_written.1,
        λ up contents held.
            let t = here known order named contents held in
            let has = has_all known order named contents held up in
            record { content = t.content; columns_are = has.columns_are; are_of = (writes t.content has).1.are_of },
      )
