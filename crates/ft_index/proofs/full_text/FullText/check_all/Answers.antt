-- by what the store holds, and the marks as they are read
use Rattle.std.proofs.Common.{◌≡◌, ap, subst, ◌∙◌, rules, tests, IsTrue}
use Rattle.ft_index.proofs.Common.{list_all, YieldsList-from_slice, value_in, Contents, FullText, Holds, AreSound}
use Rattle.std.proofs.lemmas.Iterator.Search.{all_from_yields_List}
use Rattle.ft_values.specs.declared.table.TableInfo.{TableInfo}
use Rattle.ft_index.proofs.OpenedTables.{all_are_sound}
use Rattle.ft_index.proofs.full_text.FullText.check_all.Goals as goal

pub returns-clause-all : goal.returns-clause-all
returns-clause-all g c = λ up.
    let all : c.all.result ≡ list_all (λ (t : TableInfo). t.sound) c.in_ok-tables.tables.items =
    all_from_yields_List (λ (t : TableInfo). t.sound) _ _ c.all.result c.all.ensures.ran (YieldsList-from_slice c.deref.result.now cc) (λ x b q k. search (rules, tests)) ∙ ap (list_all (λ (t : TableInfo). t.sound)) c.deref.ensures.value in
    subst (λ (k : FullText g.row.S.Denot). (contents : Contents) → Holds g.S.Store k contents → (IsTrue c.all.result → AreSound contents) × (AreSound contents → IsTrue c.all.result)) c.self.view_is
    (λ contents holds. all_are_sound (value_in g.S.Store c.self.inside.store) c.in_ok-tables.tables.items contents c.all.result (c.in_ok-tables.ensures.told up.clean) holds.held all)
