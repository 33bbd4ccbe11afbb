-- a count, the hits of a MATCH, the documents by their docids, or those that are read
use Rattle.std.proofs.Common.{option_map, Bor, rules, ◌≡◌, ◌+◌, ◌-◌, ◌*◌, ◌^◌, ◌||◌, ◌&&◌, not, min, cond, ℕ, ℤ, List, [], false, true, map, length, string_bytes, sym, ap, subst, ◌∙◌, to_z, of_z, w64, to_z-of_z, is_some}
use Rattle.ft_index.proofs.Common.{tree_of, list_any, length-map, IfOk-weaker, Hit, PlainHit, plain_hit, Cell, Content, Match, Listed, cut, is_match}
use Rattle.ft_index.proofs.Common.{is_offsets, items_in, items_of, filter_of, column_of, item_of, Document, document_at, ReadsFilterAs, chosen_hits}
use Rattle.ft_index.proofs.Common.{as_wanted, HasRows, reads_document, rows_asked, IsOf, IsIndexed, AreThere}
use Rattle.ft_commands.specs.declared.command.Item.{Item}
use Rattle.ft_commands.specs.declared.command.Items.{Items}
use Rattle.ft_commands.specs.Command.{All}
use Rattle.ft_content.specs.Answer.{answer_rows}
use Rattle.ft_index.proofs.Doing.{held_first, held_then, on_ok_from, then_blamed, has_at, rows_in, index_in, hits_there, docids_there, bare_docids}
use Rattle.ft_index.proofs.SelectAnswers.{hit_rows, hits_answered, as_many, counted_both, asked_items, bare_hit_rows, listed_rows_are, documents_again, document_rows_are, no_offsets, asked_count, asked_all, asked_whole}
use Rattle.ft_content.proofs.{cut_of_map}
use Rattle.ft_commands.specs.declared.command.Filter.{Filter}
use Rattle.ft_index.proofs.select.selected_rows.Goals as goal
use Rattle.ft_index.proofs.select.selected_rows.Goals.{After-hit_rows}

-- the hits of a MATCH that are answered
answered_in : (g : _) (c : After-hit_rows g) (content : Content) → IsIndexed g.S.Store (to_z w64 (of_z w64 c.args.tab)) c.args.store.now c.matched.new.store content → ReadsFilterAs content (filter_of c.args.select.now.filter) (option_map (λ q. tree_of q.now) c.args.query) →
    map plain_hit c.cut-answered.result.now ≡ cut c.args.select.now.limit c.args.select.now.offset (map (as_wanted c.any_offsets.result) (chosen_hits content (Match (string_bytes c.in-Match.name) (string_bytes c.in-Match.query))))
answered_in g c content indexed reads =
    let select = c.args.select.now in
    let name = string_bytes c.in-Match.name in
    let text = string_bytes c.in-Match.query in
    let all = map (as_wanted c.any_offsets.result) (chosen_hits content (Match name text)) in
    let as_read = subst (λ (x : Filter). ReadsFilterAs content (filter_of x) (option_map {T = Bor _} (λ q. tree_of q.now) c.args.query)) c.in-Match.is reads in
    hits_answered select.limit c.most_hits-most.result select.offset c.in_ok-hits-in-Match.hits.items c.cut-answered.result.now all
    (c.cut-answered.ensures ∙ ap (λ (hs : List Hit). cut select.limit select.offset hs) c.as_slice.ensures.value) (c.in_ok-hits-in-Match.ensures.told content name text as_read indexed) (c.most_hits-most.ensures.enough all)

pub returns-in_default-clause-counted : goal.returns-in_default-clause-counted
returns-in_default-clause-counted g c content asked =
    let held = subst (λ (k : ℤ). IsOf g.S.Store k c.args.store.now c.chosen_count.new.store content) (sym (to_z-of_z c.ranges.tab)) asked.held in
    let select = c.args.select.now in
    let f = filter_of select.filter in
    c.in_ok-count.ensures.counted content held asked.reads
    ∙ ap (λ (n : ℕ). min (c.args.store.now.rows_read + n) (2 ^ 64 - 1))
    (asked_count content f select.limit select.offset ∙ ap (λ (x : Items). rows_asked content (items_of x) f select.limit select.offset) (sym c.in_default.is))

pub returns-in_ok-hits-in-Match-clause-told : goal.returns-in_ok-hits-in-Match-clause-told
returns-in_ok-hits-in-Match-clause-told g c = IfOk-weaker c.hit_rows.result _ _ (λ rows read content asked.
    let select = c.args.select.now in
    let items = map item_of c.as_slice-items.result.now in
    let f = Match (string_bytes c.in-Match.name) (string_bytes c.in-Match.query) in
    let items_are : items_of select.items ≡ Listed items = ap items_of c.in-List.is ∙ ap (λ (l : List Item). Listed (map item_of l)) (sym c.as_slice-items.ensures.value) in
    let before = held_first g.S.Store c.args.store.now c.matched.new.store c.hit_rows.new.store c.matched.ensures.looks.only c.hit_rows.ensures.looks.only (to_z w64 (of_z w64 c.args.tab)) content (to_z-of_z c.ranges.tab) asked.held in
    let behind = held_then g.S.Store c.args.store.now c.matched.new.store c.hit_rows.new.store c.matched.ensures.looks.only c.hit_rows.ensures.looks.only (to_z w64 (of_z w64 c.args.tab)) content (to_z-of_z c.ranges.tab) asked.held in
    let answered = answered_in g (goal.at.returns-in_ok-hits-in-Match-clause-told g c).After-hit_rows content before.index asked.reads in
    read content behind
    ∙ hit_rows behind.name content f (map column_of c.args.columns.now) items select.limit select.offset behind.is_content asked.columns c.any_offsets.result c.any_offsets.ensures c.cut-answered.result.now answered
    ∙ (λ i. cut select.limit select.offset (answer_rows content (sym items_are i) (filter_of (sym c.in-Match.is i))))) c.hit_rows.ensures.told

pub returns-in_ok-hits-in-Match-clause-counted : goal.returns-in_ok-hits-in-Match-clause-counted
returns-in_ok-hits-in-Match-clause-counted g c = on_ok_from c.hit_rows.result _ _ (λ whole counted content asked.
    let rows : ℕ = c.args.store.now.rows_read in
    let select = c.args.select.now in
    let items = map item_of c.as_slice-items.result.now in
    let name = string_bytes c.in-Match.name in
    let text = string_bytes c.in-Match.query in
    let items_are : items_of select.items ≡ Listed items = ap items_of c.in-List.is ∙ ap (λ (l : List Item). Listed (map item_of l)) (sym c.as_slice-items.ensures.value) in
    let before = held_first g.S.Store c.args.store.now c.matched.new.store c.hit_rows.new.store c.matched.ensures.looks.only c.hit_rows.ensures.looks.only (to_z w64 (of_z w64 c.args.tab)) content (to_z-of_z c.ranges.tab) asked.held in
    let behind = held_then g.S.Store c.args.store.now c.matched.new.store c.hit_rows.new.store c.matched.ensures.looks.only c.hit_rows.ensures.looks.only (to_z w64 (of_z w64 c.args.tab)) content (to_z-of_z c.ranges.tab) asked.held in
    let as_read = subst (λ (x : Filter). ReadsFilterAs content (filter_of x) (option_map {T = Bor _} (λ q. tree_of q.now) c.args.query)) c.in-Match.is asked.reads in
    let answered = answered_in g (goal.at.returns-in_ok-hits-in-Match-clause-counted g c).After-hit_rows content before.index asked.reads in
    let many = as_many behind.name content (Match name text) (map column_of c.args.columns.now) items select.limit select.offset behind.is_content asked.columns c.any_offsets.result c.any_offsets.ensures c.cut-answered.result.now answered in
    let width : ℕ = cond (list_any reads_document items) (length content.columns) 0 in
    counted_both rows c.matched.new.store.rows_read c.hit_rows.new.store.rows_read _ (width * length c.cut-answered.result.now) (c.in_ok-hits-in-Match.ensures.counted content name text as_read before.index) (counted content behind)
    ∙ ap (λ (n : ℕ). min (rows + n) (2 ^ 64 - 1)) (asked_items content items name text select.limit select.offset (length c.cut-answered.result.now) many
    ∙ (λ i. rows_asked content (sym items_are i) (filter_of (sym c.in-Match.is i)) select.limit select.offset))) c.hit_rows.ensures.counted

pub returns-in_ok-hits-in-All-clause-told : goal.returns-in_ok-hits-in-All-clause-told
returns-in_ok-hits-in-All-clause-told g c = IfOk-weaker c.hit_rows-in-All.result _ _ (λ rows read content asked.
    let select = c.args.select.now in
    let items = map item_of c.as_slice-items.result.now in
    let columns = map column_of c.args.columns.now in
    let items_are : items_of select.items ≡ Listed items = ap items_of c.in-List.is ∙ ap (λ (l : List Item). Listed (map item_of l)) (sym c.as_slice-items.ensures.value) in
    let before = held_first g.S.Store c.args.store.now c.docids.new.store c.hit_rows-in-All.new.store c.docids.ensures.looks.only c.hit_rows-in-All.ensures.looks.only (to_z w64 (of_z w64 c.args.tab)) content (to_z-of_z c.ranges.tab) asked.held in
    let behind = held_then g.S.Store c.args.store.now c.docids.new.store c.hit_rows-in-All.new.store c.docids.ensures.looks.only c.hit_rows-in-All.ensures.looks.only (to_z w64 (of_z w64 c.args.tab)) content (to_z-of_z c.ranges.tab) asked.held in
    let docids = c.in_ok-docids-in-All.docids.items in
    let hits = ap (map plain_hit) c.as_slice-in-All-2.ensures.value ∙ c.in_ok-hits-in-All.ensures ∙ ap (map (λ (k : ℤ). record { docid = k; offsets = [] })) c.as_slice-in-All.ensures.value in
    read content behind
    ∙ bare_hit_rows columns content items c.as_slice-in-All-2.result.now docids hits
    ∙ listed_rows_are content columns items select.limit select.offset asked.columns (map (document_at content) docids)
    (documents_again behind.name content select.limit select.offset behind.is_content docids (c.in_ok-docids-in-All.ensures.told content before.rows))
    ∙ (λ i. cut select.limit select.offset (answer_rows content (sym items_are i) (filter_of (sym c.in-All.is i))))) c.hit_rows-in-All.ensures.told

pub returns-in_ok-document_rows-in-All-2-clause-told : goal.returns-in_ok-document_rows-in-All-2-clause-told
returns-in_ok-document_rows-in-All-2-clause-told g c = λ content asked.
    let first = c.args.store.now in
    let last = c.chosen_documents.new.store in
    let t = sym (to_z-of_z c.ranges.tab) in
    let select = c.args.select.now in
    let f = filter_of select.filter in
    let items = map item_of c.as_slice-items.result.now in
    let items_are : items_of select.items ≡ Listed items = ap items_of c.in-List.is ∙ ap (λ (l : List Item). Listed (map item_of l)) (sym c.as_slice-items.ensures.value) in
    let plainly : is_match f ≡ false = search rules in
    let found = c.in_ok-documents-in-All-2.ensures.told content (subst (λ (k : ℤ). HasRows g.S.Store k first last content) t asked.held.rows) (subst (λ (k : ℤ). IsIndexed g.S.Store k first last content) t asked.held.index) asked.reads in
    c.in_ok-document_rows-in-All-2.ensures (no_offsets f items plainly (subst (λ is. (list_any is_offsets (items_in is) && not (is_match f)) ≡ false) items_are asked.offsets))
    ∙ document_rows_are content f (map column_of c.args.columns.now) items select.limit select.offset plainly asked.columns c.in_ok-documents-in-All-2.documents.items c.cut-answered-in-All-2.result.now found
    (c.cut-answered-in-All-2.ensures ∙ ap (λ (ds : List Document). cut select.limit select.offset ds) c.as_slice-in-All-2-2.ensures.value)
    ∙ (λ i. cut select.limit select.offset (answer_rows content (sym items_are i) f))

pub returns-in_ok-hits-in-All-clause-counted : goal.returns-in_ok-hits-in-All-clause-counted
returns-in_ok-hits-in-All-clause-counted g c = on_ok_from c.hit_rows-in-All.result _ _ (λ whole counted content asked.
    let rows : ℕ = c.args.store.now.rows_read in
    let select = c.args.select.now in
    let items = map item_of c.as_slice-items.result.now in
    let items_are : items_of select.items ≡ Listed items = ap items_of c.in-List.is ∙ ap (λ (l : List Item). Listed (map item_of l)) (sym c.as_slice-items.ensures.value) in
    let before = held_first g.S.Store c.args.store.now c.docids.new.store c.hit_rows-in-All.new.store c.docids.ensures.looks.only c.hit_rows-in-All.ensures.looks.only (to_z w64 (of_z w64 c.args.tab)) content (to_z-of_z c.ranges.tab) asked.held in
    let behind = held_then g.S.Store c.args.store.now c.docids.new.store c.hit_rows-in-All.new.store c.docids.ensures.looks.only c.hit_rows-in-All.ensures.looks.only (to_z w64 (of_z w64 c.args.tab)) content (to_z-of_z c.ranges.tab) asked.held in
    let docids = c.in_ok-docids-in-All.docids.items in
    let hits : List Hit = c.as_slice-in-All-2.result.now in
    let bare : ℤ → PlainHit = λ k. record { docid = k; offsets = [] } in
    let docid : ℤ × List Cell → ℤ = λ d. d.0 in
    let answered : List (ℤ × List Cell) = cut select.limit select.offset content.documents in
    let are : map plain_hit hits ≡ map bare docids = ap (map plain_hit) c.as_slice-in-All-2.ensures.value ∙ c.in_ok-hits-in-All.ensures ∙ ap (map bare) c.as_slice-in-All.ensures.value in
    let many : length hits ≡ length answered =
    sym (length-map hits plain_hit) ∙ ap length are ∙ length-map docids bare ∙ ap length (c.in_ok-docids-in-All.ensures.told content before.rows ∙ cut_of_map docid select.limit select.offset content.documents) ∙ length-map answered docid in
    let by_docid : (is_some select.limit || not (list_any reads_document items)) ≡ true = search rules in
    let width : ℕ = cond (list_any reads_document items) (length content.columns) 0 in
    counted_both rows c.docids.new.store.rows_read c.hit_rows-in-All.new.store.rows_read _ (width * length hits) (c.in_ok-docids-in-All.ensures.counted content before.rows) (counted content behind)
    ∙ ap (λ (n : ℕ). min (rows + n) (2 ^ 64 - 1)) (asked_all content items select.limit select.offset (length hits) by_docid many
    ∙ (λ i. rows_asked content (sym items_are i) (filter_of (sym c.in-All.is i)) select.limit select.offset))) c.hit_rows-in-All.ensures.counted

pub returns-in_ok-document_rows-in-All-2-clause-counted : goal.returns-in_ok-document_rows-in-All-2-clause-counted
returns-in_ok-document_rows-in-All-2-clause-counted g c content asked =
    let first = c.args.store.now in
    let select = c.args.select.now in
    let f = filter_of select.filter in
    let items = map item_of c.as_slice-items.result.now in
    let items_are : items_of select.items ≡ Listed items = ap items_of c.in-List.is ∙ ap (λ (l : List Item). Listed (map item_of l)) (sym c.as_slice-items.ensures.value) in
    let plainly : is_match f ≡ false = search rules in
    let whole : f ≡ All → (is_some select.limit || not (list_any reads_document items)) ≡ false = search rules in
    c.in_ok-documents-in-All-2.ensures.counted content (subst (λ (k : ℤ). HasRows g.S.Store k first c.chosen_documents.new.store content) (sym (to_z-of_z c.ranges.tab)) asked.held.rows) plainly
    ∙ ap (λ (n : ℕ). min (first.rows_read + n) (2 ^ 64 - 1)) (asked_whole content items f select.limit select.offset plainly whole
    ∙ (λ i. rows_asked content (sym items_are i) f select.limit select.offset))

pub returns-in_ok-hits-in-Match-clause-refused : goal.returns-in_ok-hits-in-Match-clause-refused
returns-in_ok-hits-in-Match-clause-refused g c = λ name content has reads clean told.
    let first = c.args.store.now in
    let middle = c.matched.new.store in
    let tab : ℤ = to_z w64 (of_z w64 c.args.tab) in
    let t : tab ≡ c.args.tab = to_z-of_z c.ranges.tab in
    let select = c.args.select.now in
    then_blamed g.S.Store first middle c.hit_rows.new.store c.matched.ensures.looks.only c.in_ok-hits-in-Match.ensures.looks.live c.hit_rows.ensures.looks.only.survives clean (λ middle_clean is_open same.
    let answered = answered_in g (goal.at.returns-in_ok-hits-in-Match-clause-refused g c).After-hit_rows content (index_in g.S.Store tab c.args.tab t first middle name content has middle_clean is_open) reads in
    c.hit_rows.ensures.refused name content (has_at (sym same) (sym t) has) (hits_there name content has.is_content (Match (string_bytes c.in-Match.name) (string_bytes c.in-Match.query)) c.any_offsets.result select.limit select.offset c.cut-answered.result.now answered) clean told)

pub returns-in_ok-hits-in-All-clause-refused : goal.returns-in_ok-hits-in-All-clause-refused
returns-in_ok-hits-in-All-clause-refused g c = λ name content has reads clean told.
    let first = c.args.store.now in
    let middle = c.docids.new.store in
    let last = c.hit_rows-in-All.new.store in
    let tab : ℤ = to_z w64 (of_z w64 c.args.tab) in
    let t : tab ≡ c.args.tab = to_z-of_z c.ranges.tab in
    let select = c.args.select.now in
    let docids = c.in_ok-docids-in-All.docids.items in
    let hits = ap (map plain_hit) c.as_slice-in-All-2.ensures.value ∙ c.in_ok-hits-in-All.ensures ∙ ap (map (λ (k : ℤ). record { docid = k; offsets = [] })) c.as_slice-in-All.ensures.value in
    then_blamed g.S.Store first middle last c.docids.ensures.looks.only (λ middle_clean _. c.in_ok-docids-in-All.ensures.looks.live middle_clean) c.hit_rows-in-All.ensures.looks.only.survives clean (λ middle_clean is_open same.
    let read = c.in_ok-docids-in-All.ensures.told content (rows_in g.S.Store tab c.args.tab t first middle name content has middle_clean is_open) in
    c.hit_rows-in-All.ensures.refused name content (has_at (sym same) (sym t) has)
    (subst (AreThere content) (sym (bare_docids c.as_slice-in-All-2.result.now docids hits)) (docids_there name content has.is_content select.limit select.offset docids read)) clean told)
