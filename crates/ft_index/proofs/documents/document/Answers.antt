-- the cells of the rows, where there are rows
use Rattle.std.proofs.Common.{rules, ◌≡◌, ◌==◌, ℕ, Ok, Some, Result, Vec, Global, IfOk, map, length, vec_len, arith, sym, ap, subst, ◌∙◌, to_z-of_z}
use Rattle.ft_index.proofs.Common.{length-map, map-map, IfOk-weaker, YieldsList-from_map, items_from_collect, Value, shown_value, cells_of, value_in}
use Rattle.ft_index.proofs.Common.{more_rows, shows}
use Rattle.std.specs.declared.alloc.AllocError.{AllocError}
use Rattle.std.proofs.lemmas.Iterator.Adapters.{YieldsList-from_vec}
use Rattle.ft_values.specs.declared.rows.CellRow.{CellRow}
use Rattle.ft_documents.proofs.{none_read, some_read}
use Rattle.ft_index.proofs.Doing.{store_blamed}
use Rattle.ft_index.proofs.documents.document.Goals as goal
use Rattle.ft_index.proofs.documents.document.Goals.{After-collect}

-- the values of the rows
values_are : (g : _) (c : After-collect g) (values : Vec Value Global) → c.collect.result ≡ Ok values → cells_of values ≡ map (λ (row : CellRow). shown_value row.value) c.in_ok-rows.rows.items
values_are g c values is =
    subst (λ (r : Result (Vec Value Global) AllocError). IfOk r (λ v. cells_of v ≡ map (λ (row : CellRow). shown_value row.value) c.in_ok-rows.rows.items)) is
    (IfOk-weaker c.collect.result _ _ (λ values is. ap (map shown_value) is ∙ map-map shown_value (λ (row : CellRow). row.value) c.in_ok-rows.rows.items)
    (items_from_collect c.collect.result c.collect.ensures.ran (YieldsList-from_map _ (λ (row : CellRow). row.value) (YieldsList-from_vec {s = c.map.result.iter} c.in_ok-rows.rows.items (search rules) (search rules)) c.map.ensures.closure (λ x r q k. search rules))))

pub returns-then-is_empty-clause-told : goal.returns-then-is_empty-clause-told
returns-then-is_empty-clause-told g c = λ content rows.
    none_read c.args.tab c.args.docid (value_in g.S.Store c.args.store.now) rows.name content c.in_ok-rows.rows.items rows.is_content rows.rows
    ((simp (to_z-of_z, c.ranges.tab, c.ranges.docid) at c.in_ok-rows.ensures.rows) rows.clean) (ap (λ n. n == 0) (omega (arith, c.in_ok-rows.rows.ok.0)) ∙ sym c.is_empty.ensures ∙ c.if-is_empty.true)

pub returns-clause-told : goal.returns-clause-told
returns-clause-told g c = λ content rows.
    ap Some (values_are g (goal.at.returns-clause-told g c).After-collect c.in_ok-collect.field-0 (search rules))
    ∙ some_read c.args.tab c.args.docid (value_in g.S.Store c.args.store.now) rows.name content c.in_ok-rows.rows.items rows.is_content rows.rows
    ((simp (to_z-of_z, c.ranges.tab, c.ranges.docid) at c.in_ok-rows.ensures.rows) rows.clean) (ap (λ n. n == 0) (omega (arith, c.in_ok-rows.rows.ok.0)) ∙ sym c.is_empty.ensures ∙ c.if-is_empty.false)

pub returns-clause-counted : goal.returns-clause-counted
returns-clause-counted g c =
    let same : vec_len c.in_ok-rows.rows ≡ vec_len c.in_ok-collect.field-0 =
    c.in_ok-rows.rows.ok.0 ∙ sym (length-map c.in_ok-rows.rows.items (λ row. shown_value row.value)) ∙ ap length (sym (values_are g (goal.at.returns-clause-counted g c).After-collect c.in_ok-collect.field-0 (search rules))) ∙ length-map c.in_ok-collect.field-0.items shown_value ∙ sym c.in_ok-collect.field-0.ok.0 in
    c.in_ok-rows.ensures.read.counted ∙ ap (λ (n : ℕ). more_rows n c.args.store.now) same

pub returns-in_err-rows-clause-refused : goal.returns-in_err-rows-clause-refused
returns-in_err-rows-clause-refused g c = store_blamed (shows g.S.Store c.args.store.now) (shows g.S.Store c.document.new.self) c.in_err-rows.field-0.0 c.document.result c.from_residual.result (search rules) (search rules) (search rules) c.document.ensures.refused
