-- the rows of one term
use Rattle.std.proofs.Common.{◌≡◌, ◌⊎◌, true, refl, subst, ℕ, ℤ, ◌+◌, ◌-◌, ◌^◌, min, w64, SFits, to_z-of_z, ◌&&◌, map, sym, ap, ◌∙◌, rules, bytes_eq, int_eq, is_eq}
use Rattle.ft_index.proofs.Common.{plain_list, lists_with, name_cmp, table_documents, HasCleanDisk, IsBlamed, shows, value_in}
use Rattle.ft_documents.proofs.{lists_count}
use Rattle.ft_match.specs.Documents.{place_count}
use Rattle.ft_rows.specs.Shown.{shown_list, spot_count}
use Rattle.ft_index.proofs.Doing.{none_damaged, read_failed}
use Rattle.ft_index.proofs.WalkedLemmas.{still_after, term_answer, asks_term, gives}
use Rattle.ft_index.proofs.table_lists.TableListsLists.word.Goals as goal

pub returns-in_ok-lists-in-Ok-clause-answer : goal.returns-in_ok-lists-in-Ok-clause-answer
returns-in_ok-lists-in-Ok-clause-answer g c reliable =
    let same = c.counts.ensures in
    let tab : ℤ = c.args.self.now.tab in
    let fits : SFits w64 c.args.self.now.tab = search rules in
    c.in_ok-lists-in-Ok.ensures
    ∙ term_answer g.S.Store tab c.args.self.now.store.now c.term_lists.new.self c.in-Ok.ensures.read.kept c.args.term.now c.in-Ok.rows.items (λ clean. (simp (to_z-of_z, fits) at (c.in-Ok.ensures.rows clean).0)) (rw same at reliable)
    ∙ sym (ap (λ l. lists_with (λ t. bytes_eq t c.args.term.now) (table_documents g.S.Store l.tab l.store.now)) same)

pub returns-in_ok-lists-in-Ok-clause-clean : goal.returns-in_ok-lists-in-Ok-clause-clean
returns-in_ok-lists-in-Ok-clause-clean g c = still_after g.S.Store c.args.self.now.tab c.args.self.now.store.now c.term_lists.new.self c.in-Ok.ensures.read.kept c.in-Ok.ensures.read.survives (ap (λ l. l.tab) c.counts.ensures) (ap (λ l. l.store.now) c.counts.ensures)

pub returns-in_ok-lists-in-Ok-clause-becomes : goal.returns-in_ok-lists-in-Ok-clause-becomes
returns-in_ok-lists-in-Ok-clause-becomes g c =
    let same = c.counts.ensures in
    let read = c.in-Ok.ensures.read in
    let given : ℕ = c.args.self.now.given in
    let places = ap (λ ls. place_count (map plain_list ls)) c.as_slice.ensures.value ∙ ap place_count c.in_ok-lists-in-Ok.ensures ∙ lists_count c.in-Ok.rows.items in (
      search rules,
      search rules,
      gives g.S.Store c.args.self.now.store.now c.term_lists.new.self given (spot_count (map shown_list c.in-Ok.rows.items)) read.kept read.live read.survives read.counted (ap (λ l. l.store.now) same)
          (ap (λ l. l.given) same ∙ ap (λ n. min (given + n) (2 ^ 64 - 1)) places),
      search rules,
    )

pub returns-in_err-lists-in-Ok-clause-clean : goal.returns-in_err-lists-in-Ok-clause-clean
returns-in_err-lists-in-Ok-clause-clean g c = still_after g.S.Store c.args.self.now.tab c.args.self.now.store.now c.term_lists.new.self c.in-Ok.ensures.read.kept c.in-Ok.ensures.read.survives refl refl

pub returns-in-Err-clause-clean : goal.returns-in-Err-clause-clean
returns-in-Err-clause-clean g c = still_after g.S.Store c.args.self.now.tab c.args.self.now.store.now c.term_lists.new.self c.in-Err.ensures.read.kept c.in-Err.ensures.read.survives (ap (λ l. l.tab) c.refused.ensures.noted) (ap (λ l. l.store.now) c.refused.ensures.noted)

pub returns-in-Err-clause-becomes : goal.returns-in-Err-clause-becomes
returns-in-Err-clause-becomes g c =
    let same = c.refused.ensures.noted in
    let tab : ℤ = c.args.self.now.tab in
    let fits : SFits w64 c.args.self.now.tab = search rules in (
      search rules,
      search rules,
      search rules,
      λ clean name content is index has.
          let read = c.term_lists.ensures in
          let whole = none_damaged tab (value_in g.S.Store c.args.self.now.store.now) content (λ k. int_eq tab k.0 && is_eq (name_cmp c.args.term.now k.1)) (λ k. bytes_eq k.1 c.args.term.now) (asks_term tab c.args.term.now) index in
          let now = ap (λ l. l.store.now) same in
          subst (λ s. (c.args.self.now.has_failed ≡ true) ⊎ IsBlamed (shows g.S.Store c.args.self.now.store.now) (shows g.S.Store s)) (sym now)
          (read_failed g.S.Store c.args.self.now.store.now c.term_lists.new.self c.in-Err.fault c.term_lists.result _ c.args.self.now.has_failed c.refused.new.self.has_failed (search rules) (search rules) read.refused
          (simp (to_z-of_z, fits) at read.damaged) whole c.refused.ensures.memory (subst (λ s. HasCleanDisk (shows g.S.Store s)) now clean) has),
    )
