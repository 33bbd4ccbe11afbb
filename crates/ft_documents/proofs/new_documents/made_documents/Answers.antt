-- a row more
use Rattle.std.proofs.Common.{◌≡◌, ◌+◌, inl, inr, Err, Result, map, zip, drop, refl, sym, ap, subst, ◌∙◌, rules, true, false, None, ℤ, unwrap_or, get_or, ℕ, zero, suc, Bool, List, [], ◌∷◌, slice_get, int_cmp, IsTrue}
use Rattle.sqlite_keyed.proofs.ListLemmas.{map-map}
use Rattle.ft_documents.proofs.Common.{YieldsList-from_map_by, map_from_collect, YieldsList-at, YieldsList-from_rest, shown_rewrite, new_rewrite, drop_all, slice_get_read, Fault, inserted_rows, insert_row, docids_named, new_cells, cells_of, column_of, last_docid, NewDocuments, AllByRecursion, find, is_sorted, Cell, Documents, shown_new, shown_documents, with_new, AreBeside, Places, AreKnown, MakesDocuments, all_put}
use Rattle.ft_documents.proofs.Steps.{taken_more}
use Rattle.ft_documents.proofs.InsertRows.{rows_step, rows_fail, rows_none, row_at, new_are_inserts}
use Rattle.ft_documents.proofs.new_documents.made_documents.Goals.{After-add}
use Rattle.ft_documents.proofs.new_documents.made_documents.Goals as goal

got_or : (xs : List Bool) (k : ℕ) (d : Bool) → unwrap_or (slice_get xs k) d ≡ get_or xs k d
got_or [] k d = refl
got_or (x ∷ xs) zero d = refl
got_or (x ∷ xs) (suc k) d = got_or xs k d

-- no new documents yet
begins : (documents : Documents) (new : NewDocuments) → shown_documents new ≡ [] → is_sorted int_cmp documents ≡ true → last_docid documents ≡ new.last → AreBeside documents new
begins documents new none sorted last = record {
  sorted = sorted;
  rising = ap (is_sorted int_cmp) none;
  apart = subst (AllByRecursion (λ (d : ℤ × List Cell). find int_cmp d.0 documents ≡ None)) (sym none) tt;
  last = ap (λ new. last_docid (all_put int_cmp new documents)) none ∙ last;
}

pub loop-place-init : goal.loop-place-init
loop-place-init c documents sorted last known =
    let none : map shown_new c.new.result.entries ≡ [] = ap (map shown_new) c.new.ensures.empty in (
      begins documents _ none sorted last,
      ap (λ new. inserted_rows (map column_of c.args.columns.now) (map (zip (map (λ n. n.now) c.args.names.now)) (map cells_of c.args.rows.now)) (all_put int_cmp new documents)) none,
    )

module _ (c : After-add) (documents : Documents) (sorted : IsTrue (is_sorted int_cmp documents)) (last : last_docid documents ≡ c.args.last)
    (known : AreKnown documents (map (zip (map (λ n. n.now) c.args.names.now)) (map cells_of c.args.rows.now)) c.args.stored.now) where
  abbrev values : List (List ℕ × Cell)
  values = zip (map (λ n. n.now) c.args.names.now) (cells_of c.index-rows-place.result)

  abbrev row_tells : Result Documents Fault
  row_tells = insert_row (with_new c.loop-place.new documents) (docids_named values) (new_cells values (map column_of c.args.columns.now))

  placed : Places documents row_tells c.add.new.self c.add.result
  placed =
      let rows = c.args.rows.now in
      let place = c.loop-place.place in
      let stored_here : c.unwrap_or-is_stored.result ≡ unwrap_or (slice_get c.args.stored.now place) false = c.unwrap_or-is_stored.ensures ∙ ap (λ o. unwrap_or o false) c.copied.ensures ∙ c.get.ensures.lookup.4 (search rules) false ∙ sym (got_or c.args.stored.now place false) in
      let here = slice_get_read rows _ place c.index-rows-place.result refl c.loop-place-test.true c.index-rows-place.is in
      (simp (c.as_slice.ensures.value, stored_here) at c.add.ensures) documents (c.loop-place.invariant documents sorted last known).0 (known place values (row_at (map (λ n. n.now) c.args.names.now) cells_of rows place c.index-rows-place.result here))

  first : inserted_rows (map column_of c.args.columns.now) (map (zip (map (λ n. n.now) c.args.names.now)) (map cells_of c.args.rows.now)) documents ≡ inserted_rows (map column_of c.args.columns.now) (values ∷ map (zip (map (λ n. n.now) c.args.names.now)) (map cells_of (drop (c.loop-place.place + 1) c.args.rows.now))) (with_new c.loop-place.new documents)
  first = sym (c.loop-place.invariant documents sorted last known).1
      ∙ taken_more (λ xs. inserted_rows (map column_of c.args.columns.now) (map (zip (map (λ n. n.now) c.args.names.now)) (map cells_of xs)) (with_new c.loop-place.new documents)) c.args.rows.now c.loop-place.place c.index-rows-place.result c.loop-place-test.true c.index-rows-place.is

pub loop-place-preserved : goal.loop-place-preserved
loop-place-preserved c documents sorted last known =
    let at = (goal.at.loop-place-preserved c).After-add in
    let step = subst (Places documents (row_tells at documents sorted last known) c.add.new.self) c.in_ok-add.was (placed at documents sorted last known) in
    (step.0, sym (rows_step _ _ _ _ (with_new c.add.new.self documents) step.1) ∙ sym (first at documents sorted last known))

pub returns-in_err-add : goal.returns-in_err-add
returns-in_err-add c documents sorted last known =
    let at = (goal.at.returns-in_err-add c).After-add in
    let fault : Fault = c.in_err-add.field-0.0 in
    let is : c.from_residual.result ≡ Err fault = search rules in
    let failed = subst (Places documents (row_tells at documents sorted last known) c.add.new.self) c.in_err-add.was (placed at documents sorted last known) in
    subst (MakesDocuments documents (inserted_rows (map column_of c.args.columns.now) (map (zip (map (λ n. n.now) c.args.names.now)) (map cells_of c.args.rows.now)) documents)) (sym is)
    (elim failed [ inl memory ↦ inl memory | inr row_is ↦ inr (first at documents sorted last known ∙ rows_fail _ _ _ _ fault row_is) ])

pub returns : goal.returns
returns c documents sorted last known =
    let so_far = c.loop-place.invariant documents sorted last known in
    let columns = map column_of c.args.columns.now in
    let all = with_new c.loop-place.new documents in
    let road = YieldsList-at c.map-rewrites.ensures.source (YieldsList-from_rest c.loop-place.new.documents.entries (search rules)) in
    let rewrites = map_from_collect _ c.collect.ensures.ran (YieldsList-from_map_by _ shown_rewrite (λ e. new_rewrite (shown_new e)) road c.map-rewrites.ensures.closure (λ x r q k. search rules)) in
    new_are_inserts documents c.loop-place.new _ _ (search (rules, map-map)) so_far.0
    (sym so_far.1 ∙ ap (λ xs. inserted_rows columns (map (zip (map (λ n. n.now) c.args.names.now)) (map cells_of xs)) all) (drop_all c.loop-place.place c.args.rows.now c.loop-place-test.false) ∙ rows_none columns all)
