use Rattle.std.proofs.Common.{◌≡◌, ◌∙◌, false, not, List, Ok, None, refl, sym, ap, subst, IsTrue, rules, inl, inr, arith, ◌⊎◌}
use Rattle.ft_store.proofs.Common.{Row, bound, HasCleanDisk, Shown, Survives, Held, state}
use Rattle.ft_store.specs.Calls.{Keeps}
use Rattle.ft_store.proofs.BlameLemmas.{refused_keeps, kept_either, commits_nothing, begun, rows_shown, moved_unchanged, moved_survives}
use Rattle.ft_store.proofs.BlameLemmas.{keeps_unchanged, query_blamed, next_blamed, row_untaken, not_memory}
use Rattle.ft_store.specs.Blame.{IsBlamed, IsUnasked, GivesUntaken}
use Rattle.ft_store.proofs.stream.gather.Goals as goal

pub returns-in_err-rows-clause-given : goal.returns-in_err-rows-clause-given
returns-in_err-rows-clause-given g c =
    let settled = c.is_autocommit-settled.ensures.settled (c.is_autocommit-settled.ensures.value ∙ ap not c.requires.asked.settled) in
    let refused = rw c.in_err-rows.was at c.query.follows.holds-at-none in
    record {
      rows = search rules;
      read = record {
        kept = λ clean. kept_either _ _ settled (refused_keeps _ _ _ _ _ (refused.err clean));
        live = search rules;
        mode = refused.mode c.requires.asked.settled;
        survives = commits_nothing _ _ _ _ c.requires.asked.shown refused.survives;
        fault = search rules;
      };
    }

pub rows-init : goal.rows-init
rows-init g c =
    (begun g.S.Store c.args.sql.now (bound c.args.params.now) c.args.conn.now c.requires.asked.shown c.in_ok-rows.rows.conn.now _ (c.in_ok-rows.ensures.mode c.requires.asked.settled) c.in_ok-rows.ensures.survives c.in_ok-rows.ensures.begun c.requires.none, refl, refl)

pub returns-in-None-clause-given : goal.returns-in-None-clause-given
returns-in-None-clause-given g c =
    let moved = c.next.follows.holds-at-none in
    let ended = c.conn-in-None-1.given.1 (sym (moved.same_reference ∙ c.rows.invariant.1 ∙ c.in_ok-rows.ensures.same_reference)) ∙ c.drop-rows-in-None.ensures in
    record {
      rows =
          subst (λ (now : Held g.row.S.Denot). HasCleanDisk (state g.S.Store now) → (rows : List Row) × Shown c.args.sql.now (bound c.args.params.now) (state g.S.Store c.args.conn.now) (state g.S.Store now) rows × g.G.Gathered.is_made_of c.rows.into c.rows.whole rows) (sym ended)
          (rows_shown g.S.Store c.args.sql.now (bound c.args.params.now) c.args.conn.now c.requires.asked.shown c.rows.rows c.next.follows.lender-at-none c.next.result moved _ c.rows.invariant.0 (c.in_ok-row.was ∙ ap Ok c.in-None.is));
      read = record {
        kept = subst (λ (now : Held g.row.S.Denot). HasCleanDisk (state g.S.Store now) → Keeps (state g.S.Store c.args.conn.now) (state g.S.Store now)) (sym ended) (λ clean. keeps_unchanged _ _ (moved_unchanged g.S.Store c.args.sql.now (bound c.args.params.now) c.args.conn.now c.requires.asked.shown c.rows.rows c.next.follows.lender-at-none c.next.result moved _ c.rows.invariant.0 None (c.in_ok-row.was ∙ ap Ok c.in-None.is) clean));
        live = subst (λ (now : Held g.row.S.Denot). HasCleanDisk (state g.S.Store now) → IsTrue (state g.S.Store now).is_open) (sym ended) (λ clean. (moved_unchanged g.S.Store c.args.sql.now (bound c.args.params.now) c.args.conn.now c.requires.asked.shown c.rows.rows c.next.follows.lender-at-none c.next.result moved _ c.rows.invariant.0 None (c.in_ok-row.was ∙ ap Ok c.in-None.is) clean).0.is_open);
        mode = subst (λ (now : Held g.row.S.Denot). now.in_transaction ≡ false) (sym ended) (moved.mode c.rows.invariant.0.mode);
        survives = subst (λ (now : Held g.row.S.Denot). Survives (state g.S.Store c.args.conn.now) (state g.S.Store now) (λ _. IsTrue (state g.S.Store c.args.conn.now).is_open → ⊥)) (sym ended) (moved_survives g.S.Store c.args.sql.now (bound c.args.params.now) c.args.conn.now c.requires.asked.shown c.rows.rows c.next.follows.lender-at-none c.next.result moved _ c.rows.invariant.0);
        fault = search rules;
      };
    }

pub returns-in_err-rows-clause-refused : goal.returns-in_err-rows-clause-refused
returns-in_err-rows-clause-refused g c = λ clean is.
    let refused = rw c.in_err-rows.was at c.query.follows.holds-at-none in
    let other = not_memory c.in_err-rows.field-0.0 (search rules) in
    elim (query_blamed _ _ _ _ _ (c.requires.asked.shown (omega (arith, refused.survives.clean, clean))) other (refused.err clean)) [ inl blamed ↦ inl blamed | inr unasked ↦ inr (inl unasked) ]

pub returns-in_err-row-clause-refused : goal.returns-in_err-row-clause-refused
returns-in_err-row-clause-refused g c =
    let moved = c.next.follows.holds-at-none in
    let ended = c.conn-in_err-row-1.given.1 (sym (moved.same_reference ∙ c.rows.invariant.1 ∙ c.in_ok-rows.ensures.same_reference)) ∙ c.drop-rows.ensures in
    subst (λ (now : Held g.row.S.Denot). HasCleanDisk (state g.S.Store now) → c.from_residual-in_err-row.result ≡ Rattle.std.proofs.Common.Err Rattle.ft_store.specs.declared.fault.StoreFault.TheVariants.Refused → IsBlamed (state g.S.Store c.args.conn.now) (state g.S.Store now) ⊎ (IsUnasked (state g.S.Store c.args.conn.now) c.args.sql.now (bound c.args.params.now) ⊎ GivesUntaken (state g.S.Store c.args.conn.now) c.args.sql.now (bound c.args.params.now) g.G.Gathered.takes))
    (sym ended)
    (λ clean is. elim (next_blamed g.S.Store c.args.sql.now (bound c.args.params.now) c.args.conn.now c.requires.asked.shown c.rows.rows c.next.follows.lender-at-none c.next.result moved _ c.rows.invariant.0 _ c.in_err-row.was (not_memory _ (search rules)) clean) [ inl blamed ↦ inl blamed | inr unasked ↦ inr (inl unasked) ])

pub returns-in_err-whole-in-Some-clause-refused : goal.returns-in_err-whole-in-Some-clause-refused
returns-in_err-whole-in-Some-clause-refused g c =
    let moved = c.next.follows.holds-at-none in
    let ended = c.conn-in_err-whole-in-Some-1.given.1 (sym (moved.same_reference ∙ c.rows.invariant.1 ∙ c.in_ok-rows.ensures.same_reference)) ∙ c.drop-rows-in_err-whole-in-Some.ensures in
    λ clean is. inr (inr (row_untaken g.S.Store c.args.sql.now (bound c.args.params.now) c.args.conn.now c.requires.asked.shown c.rows.rows c.next.follows.lender-at-none c.next.result moved _ c.rows.invariant.0 c.in-Some.row (c.in_ok-row.was ∙ ap Ok c.in-Some.is) g.G.Gathered.takes (c.add.ensures.refused (search rules)) (subst (λ (now : Held g.row.S.Denot). HasCleanDisk (state g.S.Store now)) ended clean)))
