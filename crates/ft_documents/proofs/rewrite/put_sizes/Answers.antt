-- those that are new or differ, one after another
use Rattle.std.proofs.Common.{not, ℤ, rules, int_eq, Bool, Ok}
use Rattle.std.proofs.lemmas.Iterator.{YieldsList-from_map}
use Rattle.std.proofs.lemmas.Iterator.Consumers.{YieldsList-from_filter}
use Rattle.sqlite_keyed.proofs.ListLemmas.{map-map}
use Rattle.ft_documents.proofs.Common.{YieldsList-from_rest, YieldsList-at, items_from_extend, map-append, find, column_key_cmp, was_there}
use Rattle.std.specs.declared.alloc.AllocError.{AllocError}
use Rattle.ft_documents.proofs.KeyedRows.{held_size}
use Rattle.ft_values.specs.declared.rows.RowChange.TheVariants as row
use Rattle.ft_documents.proofs.rewrite.put_sizes.Goals as goal

pub returns : goal.returns
returns c =
    let p : (ℤ × ℤ) × ℤ → Bool = λ e. not (was_there int_eq (find column_key_cmp e.0 c.args.old.now.entries) e.1) in
    let all = items_from_extend {E = AllocError} (Ok c.in_ok-extend.field-0) c.in_ok-extend.ensures.ran (YieldsList-from_map _ (λ (e : (ℤ × ℤ) × ℤ). row.PutSize c.args.tab e.0.0 e.0.1 e.1)
    (YieldsList-at c.map.ensures.source (YieldsList-from_filter _ p (YieldsList-at c.filter-changed.ensures.source (YieldsList-from_rest c.args.new.now.entries (search rules))) c.filter-changed.ensures.closure (λ x b q k. (search rules, search (rules, held_size x.0.now c.args.old.now.entries x.1)))))
    c.map.ensures.closure (λ x r q k. (search rules, search rules))) in
    simp (all.0, map-append, map-map)
