-- what the walk finds, said of the store that the lists were lent, is what the query's text chooses
use Rattle.std.proofs.Common.{◌≡◌, ◌∙◌, ◌+◌, ◌-◌, ◌<◌, ◌^◌, ◌||◌, true, ℕ, zero, suc, List, [], Option, Some, None, refl, Ok, Err, Result, inl, inr, min, map, option_map, sym, ap, ap₂, subst, subst₂, arith, rules, is_ok, IsTrue, IfErr}
use Rattle.ft_index.proofs.Common.{HasCleanDisk, IsBlamed, shows, value_in, tree_of, plain_hit, PlainHit, StoreState, Fault, Content, cut, content_documents}
use Rattle.ft_index.proofs.Common.{HasContent, table_index, as_wanted, entries_asked, IsOutside, table_documents, IsIndexed}
use Rattle.ft_query.specs.Work.{entry_count}
use Rattle.ft_match.specs.Occurs.{hits_of}
use Rattle.ft_query.specs.Walk.{StandsBefore}
use Rattle.ft_query.specs.Lists.{is_failed}
use Rattle.ft_query.specs.declared.lists.ListFault.TheVariants as refusals
use Rattle.std.specs.Result.{result_unwrap_or}
use Rattle.ft_documents.proofs.{hits_chosen, none_chosen}
use Rattle.ft_index.specs.DocumentsRead.{LooksFor}
use Rattle.ft_index.specs.Walked.{AreReliable}
use Rattle.ft_index.proofs.Doing.{Read, Grows, all_read, all_same, all_fails, rows_of_walk, on_ok_if}
use Rattle.ft_index.proofs.WalkedLemmas.{indexed_at, now_reliable, rows_at}
use Rattle.ft_index.proofs.matching.matched.Goals as goal
use Rattle.ft_index.proofs.matching.matched.Goals.{After-open}

-- the calls of the lists one after another: they stay lists of the one store, and only read it
lent : (g : _) (c : After-open g) → c.open.new.lists.store.ghost_name ≡ c.new-lists.result.store.ghost_name
lent g c = all_same g.S.Store _ (λ l. l.store.now) (λ l. l.given) (λ x all y h. h.2) (λ l. l.store.ghost_name) (λ x all y h. h.0) _ _ _ c.open.ensures.becomes

reads_in : (g : _) (c : After-open g) → Read g.S.Store c.new-lists.result.store.now c.new-lists.result.given (is_ok c.open.result) c.open.new.lists.store.now c.open.new.lists.given
reads_in g c = all_read g.S.Store _ (λ l. l.store.now) (λ l. l.given) (λ x all y h. h.2) _ _ _ c.open.ensures.becomes

looks_for : {X : Type 0} (g : _) (c : After-open g) (new : StoreState g.row.S.Denot) (result : Result X Fault) → c.open.new.lists.store.now ≡ new → (IsTrue (is_ok result) → IsTrue (is_ok c.open.result)) → IfErr result IsOutside → LooksFor g.S.Store c.args.store.now new result IsOutside
looks_for g c new result same whole cause =
    let it = reads_in g c in
    subst₂ (λ s t. LooksFor g.S.Store s t result IsOutside) c.new-lists.ensures.same_store same (record { only = it.looks; live = λ clean. on_ok_if result _ (λ done is_open. it.live clean (whole done) is_open); cause = cause })

-- what the lists mean as the walk begins
here_in : (g : _) (c : After-open g) (content : Content) → IsIndexed g.S.Store c.new-lists.result.tab c.new-lists.result.store.now c.open.new.lists.store.now content →
    AreReliable g.S.Store c.open.new.lists.tab c.open.new.lists.store.now × (table_documents g.S.Store c.open.new.lists.tab c.open.new.lists.store.now ≡ content_documents content)
here_in g c content indexed =
    now_reliable g.S.Store c.new-lists.result.tab c.open.new.lists.tab c.new-lists.result.store.now c.open.new.lists.store.now content
    (all_same g.S.Store _ (λ l. l.store.now) (λ l. l.given) (λ x all y h. h.2) (λ l. l.tab) (λ x all y h. h.1) _ _ _ c.open.ensures.becomes) (reads_in g c).looks.kept indexed

-- lists of a content fail only for what lies outside the store
blamed_in : {X : Type 0} (g : _) (c : After-open g) (new : StoreState g.row.S.Denot) (result : Result X Fault) → LooksFor g.S.Store c.args.store.now new result IsOutside → c.open.new.lists.store.now ≡ new → c.open.result ≡ Err refusals.Failed → (name : List ℕ) (content : Content) → HasContent name content c.args.tab (value_in g.S.Store c.args.store.now) → HasCleanDisk (shows g.S.Store new) →
    IsBlamed (shows g.S.Store c.args.store.now) (shows g.S.Store new)
blamed_in g c new result looks same failed name content has clean =
    let fails = all_fails g.S.Store _ (λ l. l.store.now) (λ l. l.given) (λ l. l.tab) (λ l. l.has_failed) (λ x all y h. h.2) (λ x all y h. h.1) (λ x all y h. h.3) _ _ _ c.open.ensures.becomes in
    let tab : c.new-lists.result.tab ≡ c.args.tab = search rules in
    let now : c.open.new.lists.has_failed ≡ true = c.open.ensures.failed ∙ ap₂ (λ b r. b || is_failed r) c.new-lists.ensures.given.0 failed in
    let index = (λ i. table_index (tab i) (value_in g.S.Store (c.new-lists.ensures.same_store i))) ∙ has.index in
    subst₂ (λ s t. IsBlamed (shows g.S.Store s) (shows g.S.Store t)) c.new-lists.ensures.same_store same
    (elim (fails (subst (λ s. HasCleanDisk (shows g.S.Store s)) (sym same) clean) name content has.is_content index now) [ inl was ↦ absurd (let wrong = sym was ∙ c.new-lists.ensures.given.0 in cc) | inr blamed ↦ blamed ])

pub returns-in_ok-taken-in-Ok-clause-told : goal.returns-in_ok-taken-in-Ok-clause-told
returns-in_ok-taken-in-Ok-clause-told g c = λ content name text read indexed.
    let at = (goal.at.returns-in_ok-taken-in-Ok-clause-told g c).After-open in
    let tree = tree_of c.in-Some.query.now in
    let tab : c.new-lists.result.tab ≡ c.args.tab = search rules in
    let name_is = lent g at in
    let here = here_in g at content (indexed_at _ _ _ indexed tab c.new-lists.ensures.same_store (search rules)) in
    c.in_ok-taken-in-Ok.ensures (content_documents content) (subst (StandsBefore c.in-Ok.walk) here.1 (c.in-Ok.ensures.stands here.0))
    ∙ ap (λ q. cut c.args.most 0 (map (as_wanted c.args.wants_offsets) (hits_of (tree_of q) (content_documents content)))) c.in-Ok.ensures.query.0
    ∙ ap (λ hs. cut c.args.most 0 (map (as_wanted c.args.wants_offsets) hs)) (hits_chosen indexed.name content name text tree indexed.is_content (read ∙ ap (λ q. Ok (option_map (λ q. tree_of q.now) q)) c.in-Some.is))

pub returns-in_ok-taken-in-Ok-clause-counted : goal.returns-in_ok-taken-in-Ok-clause-counted
returns-in_ok-taken-in-Ok-clause-counted g c content name text read indexed =
    let at = (goal.at.returns-in_ok-taken-in-Ok-clause-counted g c).After-open in
    let tab : c.new-lists.result.tab ≡ c.args.tab = search rules in
    let name_is = lent g at in
    let here = here_in g at content (indexed_at _ _ _ indexed tab c.new-lists.ensures.same_store (search rules)) in
    let rows = ap (λ (s : StoreState _). s.rows_read) c.new-lists.ensures.same_store in
    let fits : c.new-lists.result.store.now.rows_read < 2 ^ 64 = omega (arith, rows, c.rows_read-read.ensures) in
    let count : ℕ = entry_count (tree_of c.in-Some.query.now) (content_documents content) in
    let none = c.new-lists.ensures.given.1 in
    let whole : IsTrue (is_ok c.open.result) = search rules in
    rows_at c.open.new.lists.store.now indexed (search rules)
    (rows_of_walk c.new-lists.result.store.now.rows_read c.open.new.lists.store.now.rows_read c.open.new.lists.given count fits
    (subst (λ (n : ℕ). Grows c.new-lists.result.store.now.rows_read n c.open.new.lists.store.now.rows_read c.open.new.lists.given) none ((reads_in g at).counted whole))
    (c.in-Ok.ensures.given here.0 (omega (arith, none)) ∙ (λ i. min (none i + entry_count (tree_of c.in-Some.query.now) (here.1 i)) (2 ^ 64 - 1)))
    ∙ ap (λ n. min (n + count) (2 ^ 64 - 1)) rows)
    ∙ ap (λ q. min (c.args.store.now.rows_read + entries_asked content (result_unwrap_or q None)) (2 ^ 64 - 1)) (sym (read ∙ ap (λ q. Ok (option_map (λ q. tree_of q.now) q)) c.in-Some.is))

pub returns-in_default-clause-told : goal.returns-in_default-clause-told
returns-in_default-clause-told g c = λ content name text read indexed.
    let none : c.args.query ≡ None = search rules in
    ap (map plain_hit) c.new.ensures.items
    ∙ sym (ap (λ hs. cut c.args.most 0 (map (as_wanted c.args.wants_offsets) hs)) (none_chosen content name text (read ∙ ap (λ q. Ok (option_map (λ q. tree_of q.now) q)) none)) ∙ elim c.args.most as (λ (most : Option ℕ). cut {A = PlainHit} most 0 [] ≡ []) [ None ↦ refl | Some n ↦ elim n as (λ n. cut {A = PlainHit} (Some n) 0 [] ≡ []) [ zero ↦ refl | suc m ↦ refl ] ])

pub returns-in_ok-taken-in-Ok-clause-looks : goal.returns-in_ok-taken-in-Ok-clause-looks
returns-in_ok-taken-in-Ok-clause-looks g c =
    let name_is = lent g (goal.at.returns-in_ok-taken-in-Ok-clause-looks g c).After-open in
    looks_for g (goal.at.returns-in_ok-taken-in-Ok-clause-looks g c).After-open _ _ (search rules) (λ done. search rules) (search rules)

pub returns-in_err-taken-in-Ok-clause-looks : goal.returns-in_err-taken-in-Ok-clause-looks
returns-in_err-taken-in-Ok-clause-looks g c =
    let name_is = lent g (goal.at.returns-in_err-taken-in-Ok-clause-looks g c).After-open in
    looks_for g (goal.at.returns-in_err-taken-in-Ok-clause-looks g c).After-open _ _ (search rules) (λ done. search rules) (search rules)

pub returns-in-Err-Failed-clause-looks : goal.returns-in-Err-Failed-clause-looks
returns-in-Err-Failed-clause-looks g c =
    let name_is = lent g (goal.at.returns-in-Err-Failed-clause-looks g c).After-open in
    looks_for g (goal.at.returns-in-Err-Failed-clause-looks g c).After-open _ _ (search rules) (λ done. absurd (let wrong = done in cc)) (search rules)

pub returns-in-Err-Memory-clause-looks : goal.returns-in-Err-Memory-clause-looks
returns-in-Err-Memory-clause-looks g c =
    let name_is = lent g (goal.at.returns-in-Err-Memory-clause-looks g c).After-open in
    looks_for g (goal.at.returns-in-Err-Memory-clause-looks g c).After-open _ _ (search rules) (λ done. absurd (let wrong = done in cc)) (search rules)

pub returns-in-Err-Failed-clause-refused : goal.returns-in-Err-Failed-clause-refused
returns-in-Err-Failed-clause-refused g c = λ name content has _ clean told.
    let name_is = lent g (goal.at.returns-in-Err-Failed-clause-refused g c).After-open in
    let failed : c.open.result ≡ Err refusals.Failed = search rules in
    blamed_in g (goal.at.returns-in-Err-Failed-clause-refused g c).After-open _ _ (returns-in-Err-Failed-clause-looks g c) (search rules) failed name content has clean
