-- by the cells that are read, and then by the index rows: their sizes, and then their lists
use Rattle.std.proofs.Common.{◌≡◌, ◌↔◌, IsTrue, IfOk, Bool, Result, ℕ, ℤ, List, None, Ok, true, false, refl, FitsSigned, map, sym, ap, subst, ◌∙◌, rules, arith, to_z-of_z, w64, string_bytes, int_eq}
use Rattle.ft_index.proofs.Common.{HasCleanDisk, Looks, StoreFault, StoreValue, where_key, list_key_cmp, shows, value_in, column_of, Content}
use Rattle.ft_index.proofs.Common.{IsContent, content_rows, IsListed, table_rows, table_index}
use Rattle.ft_rows.specs.Terms.{lists_by_terms}
use Rattle.ft_documents.specs.Standing.{AreContent, HaveContent, shown_row, listed_rows}
use Rattle.ft_index.proofs.Doing.{looks_then}
use Rattle.ft_index.proofs.OpenedTables.{looked, CellsRead, SizesRead, rows_same, lists_same, sizes_others, listed, stands_loose, stands_sound, stands_stale, have_content, are_listed, are_named, blamed_after}
use Rattle.ft_index.proofs.row_state.read_state.Goals as goal
use Rattle.ft_index.proofs.row_state.read_state.Goals.{After-sizes, After-index_lists, After-has_lists}

pub returns-then-not-branch-clause-told : goal.returns-then-not-branch-clause-told
returns-then-not-branch-clause-told g c = λ named clean is.
    let old = value_in g.S.Store c.args.store.now in
    let table = c.args.table.now in
    let cells = c.in_ok-cells.cells.items in
    let fits : FitsSigned w64 table.id = search rules in
    let l = listed old named table cells is (subst (λ k. CellsRead k old cells) (to_z-of_z fits) (c.in_ok-cells.ensures.rows clean)) in
    let columns = ap (map column_of) c.as_slice.ensures.value ∙ c.in_ok-columns.ensures in
    let tests = c.in_ok-is_content.ensures columns in
    stands_loose named.1 (table_rows named.0 old) (table_index named.0 old)
    (λ are. absurd (let yes = tests.1 (subst (AreContent (string_bytes table.name)) (ap (listed_rows table) (sym c.as_slice-2.ensures.value)) (are_listed old named table cells l are)) in let no = sym yes ∙ c.if-not-branch.true in cc))

-- the reads one after another
looked_twice : (g : _) (c : After-sizes g) → Looks g.S.Store c.args.store.now c.sizes.new.self
looked_twice g c = looks_then g.S.Store c.args.store.now c.cells.new.self c.sizes.new.self (record { kept = c.in_ok-cells.ensures.read.kept; survives = c.in_ok-cells.ensures.read.survives }) (record { kept = c.sizes.ensures.read.kept; survives = c.sizes.ensures.read.survives })
    (λ clean _. c.in_ok-cells.ensures.read.live clean)

looked_thrice : (g : _) (c : After-has_lists g) → Looks g.S.Store c.args.store.now c.has_lists.new.self
looked_thrice g c = looks_then g.S.Store c.args.store.now c.sizes.new.self c.has_lists.new.self (looked_twice g (goal.at.After-has_lists g c).After-sizes) (record { kept = c.has_lists.ensures.read.kept; survives = c.has_lists.ensures.read.survives })
    (λ clean _. c.in_ok-sizes.ensures.read.live clean)

-- the content that the cells are of, and the sizes that were read beside it
record Contains (named : ℤ × List ℕ) (table : _) (columns : _) (cells : _) (old mid : StoreValue) (sizes : _) : Type 0 where
  content : Content
  is : IsContent named.1 content × (table_rows named.0 old ≡ content_rows content)
  have : HaveContent columns (map shown_row cells) content
  sized : SizesRead table mid sizes
  index : table_index table mid ≡ table_index named.0 old

content_in : (g : _) (c : After-index_lists g) (named : ℤ × List ℕ) → HasCleanDisk (shows g.S.Store c.sizes.new.self) → IsListed (value_in g.S.Store c.args.store.now) named c.args.table.now →
    Contains named c.args.table.now.id (map column_of c.as_slice-3.result.now) c.in_ok-cells.cells.items (value_in g.S.Store c.args.store.now) (value_in g.S.Store c.cells.new.self) c.as_slice-4.result.now
content_in g c named clean is =
    let old = value_in g.S.Store c.args.store.now in
    let table = c.args.table.now in
    let cells = c.in_ok-cells.cells.items in
    let middle : HasCleanDisk (shows g.S.Store c.cells.new.self) = omega (arith, c.in_ok-sizes.ensures.read.survives.clean, clean) in
    let same = looked g.S.Store c.args.store.now c.cells.new.self (record { kept = c.in_ok-cells.ensures.read.kept; survives = c.in_ok-cells.ensures.read.survives }) c.in_ok-cells.ensures.read.live middle in
    let fits : FitsSigned w64 table.id = search rules in
    let l = listed old named table cells is (subst (λ k. CellsRead k old cells) (to_z-of_z fits) (c.in_ok-cells.ensures.rows middle)) in
    let columns = ap (map column_of) c.as_slice.ensures.value ∙ c.in_ok-columns.ensures in
    let are = subst (AreContent (string_bytes table.name)) (ap (listed_rows table) c.as_slice-2.ensures.value) ((c.in_ok-is_content.ensures columns).0 c.if-not-branch.false) in
    let have = have_content (string_bytes table.name) (listed_rows table cells) (map column_of c.in_ok-columns.columns.items) c.in_ok-columns.ensures are in
    record {
      content = are.content;
      is = are_named old named table cells l are;
      have = subst (λ cs. HaveContent cs (map shown_row cells) are.content) (ap (map column_of) (sym c.as_slice-3.ensures.value)) have;
      sized = subst (SizesRead table.id (value_in g.S.Store c.cells.new.self)) (sym c.as_slice-4.ensures.value) ((simp (to_z-of_z, fits) at c.in_ok-sizes.ensures.rows) clean);
      index = λ i. table_index (l.id i) (same i);
    }

pub returns-in_default-clause-told : goal.returns-in_default-clause-told
returns-in_default-clause-told g c = λ named clean is.
    let old = value_in g.S.Store c.args.store.now in
    let k = content_in g (goal.at.returns-in_default-clause-told g c).After-index_lists named clean is in
    let none : c.in_ok-lists.field-0 ≡ None = search rules in
    let others = rw none at (c.in_ok-lists.ensures k.content k.have) in
    stands_stale named.1 (table_rows named.0 old) (table_index named.0 old) k.content k.is (λ own. sizes_others c.args.table.now.id (value_in g.S.Store c.cells.new.self) k.content c.as_slice-4.result.now k.sized others (k.index ∙ own))

-- the lists are those of the content where it is answered so
lists_in : (g : _) (c : After-has_lists g) (b : Bool) → c.has_lists.result ≡ Ok b → HasCleanDisk (shows g.S.Store c.has_lists.new.self) →
    IsTrue b ↔ (where_key list_key_cmp (λ k. int_eq c.args.table.now.id k.0) (value_in g.S.Store c.cells.new.self).lists ≡ lists_by_terms c.args.table.now.id c.in-Some.lists.items)
lists_in g c b answered clean =
    let Same : Bool → StoreValue → Type 0 = λ b v. IsTrue b ↔ (where_key list_key_cmp (λ k. int_eq c.args.table.now.id k.0) v.lists ≡ lists_by_terms c.args.table.now.id c.in-Some.lists.items) in
    let middle : HasCleanDisk (shows g.S.Store c.sizes.new.self) = omega (arith, c.has_lists.ensures.read.survives.clean, clean) in
    let same = looked g.S.Store c.cells.new.self c.sizes.new.self (record { kept = c.in_ok-sizes.ensures.read.kept; survives = c.in_ok-sizes.ensures.read.survives }) c.in_ok-sizes.ensures.read.live middle in
    let fits : FitsSigned w64 c.args.table.now.id = search rules in
    subst (Same b) same (subst (λ (r : Result Bool StoreFault). IfOk r (λ b. Same b (value_in g.S.Store c.sizes.new.self))) answered ((simp (to_z-of_z, fits) at c.has_lists.ensures.same) clean))

pub returns-then-branch-clause-told : goal.returns-then-branch-clause-told
returns-then-branch-clause-told g c = λ named clean is.
    let at = goal.at.returns-then-branch-clause-told g c in
    let old = value_in g.S.Store c.args.store.now in
    let middle : HasCleanDisk (shows g.S.Store c.sizes.new.self) = omega (arith, c.has_lists.ensures.read.survives.clean, clean) in
    let k = content_in g at.After-index_lists named middle is in
    let theirs = rw c.in-Some.is at (c.in_ok-lists.ensures k.content k.have) in
    stands_sound named.1 (table_rows named.0 old) (table_index named.0 old) k.content k.is
    (sym k.index ∙ rows_same c.args.table.now.id (value_in g.S.Store c.cells.new.self) k.content c.as_slice-4.result.now c.in-Some.lists.items k.sized theirs ((lists_in g at.After-has_lists true (search rules) clean).0 refl))

pub returns-clause-told : goal.returns-clause-told
returns-clause-told g c = λ named clean is.
    let at = goal.at.returns-clause-told g c in
    let old = value_in g.S.Store c.args.store.now in
    let middle : HasCleanDisk (shows g.S.Store c.sizes.new.self) = omega (arith, c.has_lists.ensures.read.survives.clean, clean) in
    let k = content_in g at.After-index_lists named middle is in
    let theirs = rw c.in-Some.is at (c.in_ok-lists.ensures k.content k.have) in
    stands_stale named.1 (table_rows named.0 old) (table_index named.0 old) k.content k.is (λ own. absurd (let wrong = (lists_in g at.After-has_lists false (search rules) clean).1
    (lists_same c.args.table.now.id (value_in g.S.Store c.cells.new.self) k.content c.in-Some.lists.items theirs.1 (k.index ∙ own)) in cc))

pub returns-in_err-sizes-clause-asks : goal.returns-in_err-sizes-clause-asks
returns-in_err-sizes-clause-asks g c = record { only = looked_twice g (goal.at.returns-in_err-sizes-clause-asks g c).After-sizes; live = search rules; cause = search rules }

pub returns-in_err-lists-clause-asks : goal.returns-in_err-lists-clause-asks
returns-in_err-lists-clause-asks g c = record { only = looked_twice g (goal.at.returns-in_err-lists-clause-asks g c).After-sizes; live = search rules; cause = search rules }

pub returns-in_default-clause-asks : goal.returns-in_default-clause-asks
returns-in_default-clause-asks g c = record { only = looked_twice g (goal.at.returns-in_default-clause-asks g c).After-sizes; live = search rules; cause = search rules }

pub returns-in_err-has_lists-clause-asks : goal.returns-in_err-has_lists-clause-asks
returns-in_err-has_lists-clause-asks g c = record { only = looked_thrice g (goal.at.returns-in_err-has_lists-clause-asks g c).After-has_lists; live = search rules; cause = search rules }

pub returns-then-branch-clause-asks : goal.returns-then-branch-clause-asks
returns-then-branch-clause-asks g c = record { only = looked_thrice g (goal.at.returns-then-branch-clause-asks g c).After-has_lists; live = search rules; cause = search rules }

pub returns-clause-asks : goal.returns-clause-asks
returns-clause-asks g c = record { only = looked_thrice g (goal.at.returns-clause-asks g c).After-has_lists; live = search rules; cause = search rules }

pub returns-in_err-sizes-clause-refused : goal.returns-in_err-sizes-clause-refused
returns-in_err-sizes-clause-refused g c = λ clean is. blamed_after g.S.Store c.args.store.now c.cells.new.self c.sizes.new.self c.in_ok-cells.ensures.read.survives c.sizes.ensures.read.survives clean (c.sizes.ensures.refused clean (search rules))

pub returns-in_err-has_lists-clause-refused : goal.returns-in_err-has_lists-clause-refused
returns-in_err-has_lists-clause-refused g c = λ clean is. blamed_after g.S.Store c.args.store.now c.sizes.new.self c.has_lists.new.self (looked_twice g (goal.at.returns-in_err-has_lists-clause-refused g c).After-sizes).survives c.has_lists.ensures.read.survives clean (c.has_lists.ensures.refused clean (search rules))
