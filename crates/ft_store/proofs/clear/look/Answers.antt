use Rattle.std.proofs.Common.{rules, ◌∙◌, arith, ap, sym, subst}
use Rattle.ft_store.proofs.Common.{state, Database, bound, understood, HasCleanDisk, IsPlain, survives_then}
use Rattle.ft_store.specs.Calls.{IsStore}
use Rattle.ft_store.proofs.BlameLemmas.{shown_commit, refused_commit, keeps_then, not_memory, blamed_then}
use Rattle.ft_store.proofs.ClearLemmas.{shown_from, look_blamed}
use Rattle.ft_store.proofs.clear.look.Goals as goal

pub returns-in_err-query_all-clause-done : goal.returns-in_err-query_all-clause-done
returns-in_err-query_all-clause-done g c =
    let old = state g.S.Store c.args.tx.now.conn.now in
    let mid = state g.S.Store c.go_on.new.tx.conn.now in
    let new = state g.S.Store c.query_all.new.self.conn.now in
    record {
      steps = search rules;
      stays = record {
        same_reference = c.query_all.ensures.same_reference ∙ c.go_on.ensures.done.stays.same_reference;
        kept = λ clean. keeps_then old mid new (c.go_on.ensures.done.stays.kept (omega (arith, c.query_all.ensures.survives.clean, clean))) (refused_commit c.args.sql.now (bound c.args.params.now) mid new c.in_err-query_all.field-0.0 (c.in_err-query_all.ensures.err clean));
        survives = survives_then old mid new _ _ _ (λ _ db none. none) (λ _ db none. none) c.go_on.ensures.done.stays.survives c.query_all.ensures.survives;
        fault = search rules;
      };
    }

pub returns-in_err-query_all-clause-refused : goal.returns-in_err-query_all-clause-refused
returns-in_err-query_all-clause-refused g c = λ tree terms limit offset it clean inside store is.
    let old = state g.S.Store c.args.tx.now.conn.now in
    let mid = state g.S.Store c.go_on.new.tx.conn.now in
    let new = state g.S.Store c.query_all.new.self.conn.now in
    let clean_mid : HasCleanDisk mid = omega (arith, c.query_all.ensures.survives.clean, clean) in
    let same = c.in_ok-go_on.ensures.done.steps clean_mid inside store in
    let kept = subst IsStore (sym same.0.now_is) (store same.0.was_open) in
    blamed_then old mid new _ _ clean_mid c.go_on.ensures.done.stays.survives c.query_all.ensures.survives
    (look_blamed c.args.sql.now (bound c.args.params.now) tree terms limit offset it mid new (c.in_ok-go_on.ensures.inside clean_mid) (λ _. kept) c.in_err-query_all.field-0.0 (not_memory c.in_err-query_all.field-0.0 (search rules)) (c.in_err-query_all.ensures.err clean))

pub returns-clause-done : goal.returns-clause-done
returns-clause-done g c =
    let old = state g.S.Store c.args.tx.now.conn.now in
    let mid = state g.S.Store c.go_on.new.tx.conn.now in
    let new = state g.S.Store c.query_all.new.self.conn.now in
    record {
      steps = λ tree terms limit offset it clean inside store.
          let clean_mid : HasCleanDisk mid = omega (arith, c.query_all.ensures.survives.clean, clean) in
          let same = c.in_ok-go_on.ensures.done.steps clean_mid inside store in
          let has = store same.0.was_open in
          let plain = subst (λ s. IsPlain (understood s c.args.sql.now)) (sym (ap (λ (d : Database). d.schema) same.0.now_is ∙ has.schema)) it.plain in
          let shown = shown_from c.args.sql.now (bound c.args.params.now) old mid new _ same plain (c.in_ok-query_all.ensures.ok clean) in
          (record { now = shown.1.0.now_is; committed = shown.1.0.committed_is; inside = shown.1.0.mode ∙ inside; opened = λ _. same.0.was_open }, same.0.was_open, shown.0);
      stays = record {
        same_reference = c.query_all.ensures.same_reference ∙ c.go_on.ensures.done.stays.same_reference;
        kept = λ clean.
            let clean_mid : HasCleanDisk mid = omega (arith, c.query_all.ensures.survives.clean, clean) in
            keeps_then old mid new (c.go_on.ensures.done.stays.kept clean_mid) (shown_commit c.args.sql.now (bound c.args.params.now) mid new _ (c.in_ok-go_on.ensures.inside clean_mid) (c.in_ok-query_all.ensures.ok clean));
        survives = survives_then old mid new _ _ _ (λ _ db none. none) (λ _ db none. none) c.go_on.ensures.done.stays.survives c.query_all.ensures.survives;
        fault = search rules;
      };
    }
