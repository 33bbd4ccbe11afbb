-- the store is asked, and then the names are read, without their small letters
use Rattle.std.proofs.Common.{◌≡◌, ℕ, List, map, string_bytes, sym, ap, subst, ◌∙◌, arith, rules, is_ok, true}
use Rattle.ft_index.proofs.Common.{map-map, doubt, StoreValue, shows, shown_info, FullText, OnlyLooks, store_value, Leaves, with_tables}
use Rattle.ft_rows.specs.Shown.{shown_note}
use Rattle.ft_index.specs.Changed.{LooksAsked}
use Rattle.ft_index.proofs.Doing.{asked_looks, read_leaves, read_looks, value_mid}
use Rattle.ft_index.proofs.full_text.FullText.noted.Goals as goal
use Rattle.ft_index.proofs.full_text.FullText.noted.Goals.{After-noted}

asked : (g : _) (c : After-noted g) → LooksAsked g.S.Store c.self.inside.store c.noted.new.self c.noted.result
asked g c = asked_looks g.S.Store c.self.inside.store c.ping.new.self _ c.ping.ensures c.in_ok-ping.ensures.live c.noted.new.self c.noted.result _ c.noted.ensures.read

pub returns-clause-names : goal.returns-clause-names
returns-clause-names g c = λ up.
    let all : doubt (shows g.S.Store c.noted.new.self).is_clean ≡ 0 = up.clean in
    let first = value_mid g.S.Store c.self.inside.store c.ping.new.self _ c.ping.ensures c.in_ok-ping.ensures.live (omega (arith, all, c.noted.ensures.read.survives.clean)) in
    subst (λ (k : FullText g.row.S.Denot). map string_bytes c.in_ok-noted.field-0.items ≡ map (λ (n : List ℕ × List ℕ). n.1) (store_value g.S.Store k).noted) c.self.view_is
    (sym (map-map (λ (n : List ℕ × List ℕ). n.1) shown_note c.in_ok-noted.field-0.items) ∙ ap (map (λ (n : List ℕ × List ℕ). n.1)) (c.in_ok-noted.ensures.rows up.clean ∙ ap (λ (v : StoreValue). v.noted) first))

pub returns-clause-looks : goal.returns-clause-looks
returns-clause-looks g c =
    let tables = map shown_info c.self.inside.tables.items in
    subst (λ (k : FullText g.row.S.Denot). OnlyLooks g.S.Store k (with_tables c.noted.new.self tables)) c.self.view_is
    (read_looks g.S.Store c.self.inside.store c.noted.new.self tables c.noted.result (asked g (goal.at.returns-clause-looks g c).After-noted))

pub returns-clause-leaves : goal.returns-clause-leaves
returns-clause-leaves g c =
    let tables = map shown_info c.self.inside.tables.items in
    subst (λ (k : FullText g.row.S.Denot). Leaves g.S.Store k (with_tables c.noted.new.self tables) true (λ _. ⊥)) c.self.view_is
    (subst (λ b. Leaves g.S.Store (with_tables c.self.inside.store tables) (with_tables c.noted.new.self tables) b (λ _. ⊥)) (ap is_ok c.in_ok-noted.was)
    (read_leaves g.S.Store c.self.inside.store c.noted.new.self tables c.noted.result (asked g (goal.at.returns-clause-leaves g c).After-noted) (λ up. c.is_settled.ensures up.clean up.is_open)))

pub returns-in_err-noted-clause-looks : goal.returns-in_err-noted-clause-looks
returns-in_err-noted-clause-looks g c =
    let tables = map shown_info c.self.inside.tables.items in
    subst (λ (k : FullText g.row.S.Denot). OnlyLooks g.S.Store k (with_tables c.noted.new.self tables)) c.self.view_is
    (read_looks g.S.Store c.self.inside.store c.noted.new.self tables c.noted.result (asked g (goal.at.returns-in_err-noted-clause-looks g c).After-noted))

pub returns-in_err-ping-clause-looks : goal.returns-in_err-ping-clause-looks
returns-in_err-ping-clause-looks g c =
    let tables = map shown_info c.self.inside.tables.items in
    subst (λ (k : FullText g.row.S.Denot). OnlyLooks g.S.Store k (with_tables c.ping.new.self tables)) c.self.view_is
    (read_looks g.S.Store c.self.inside.store c.ping.new.self tables c.ping.result (record { kept = c.ping.ensures.kept; survives = c.ping.ensures.survives; live = search rules; cause = search rules }))
