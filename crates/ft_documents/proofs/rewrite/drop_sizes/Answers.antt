-- those that are gone, one after another
use Rattle.std.proofs.Common.{not, ℤ, rules, is_some, Bool}
use Rattle.std.proofs.lemmas.Iterator.{YieldsList-from_map}
use Rattle.std.proofs.lemmas.Iterator.Consumers.{YieldsList-from_filter}
use Rattle.sqlite_keyed.proofs.ListLemmas.{map-map}
use Rattle.ft_documents.proofs.Common.{YieldsList-from_rest, YieldsList-at, items_from_extend, map-append, find, column_key_cmp}
use Rattle.std.proofs.lemmas.Result.{on_ok_weaker}
use Rattle.ft_documents.proofs.KeyedRows.{find_looked_up}
use Rattle.ft_values.specs.declared.rows.RowChange.TheVariants as row
use Rattle.ft_documents.proofs.rewrite.drop_sizes.Goals as goal

pub returns : goal.returns
returns c =
    let p : (ℤ × ℤ) × ℤ → Bool = λ e. not (is_some (find column_key_cmp e.0 c.args.new.now.entries)) in
    on_ok_weaker c.extend.result (λ all. simp (all.0, map-append, map-map)) (items_from_extend c.extend.result c.extend.ensures.ran (YieldsList-from_map _ (λ (e : (ℤ × ℤ) × ℤ). row.DropSize c.args.tab e.0.0 e.0.1)
    (YieldsList-at c.map.ensures.source (YieldsList-from_filter _ p (YieldsList-at c.filter-gone.ensures.source (YieldsList-from_rest c.args.old.now.entries (search rules))) c.filter-gone.ensures.closure (λ x b q k. (search rules, rw (find_looked_up column_key_cmp) (search rules)))))
    c.map.ensures.closure (λ x r q k. (search rules, search rules))))
