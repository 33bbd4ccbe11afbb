use Rattle.std.proofs.Common.{◌≡◌, rules, inl, inr}
use Rattle.ft_store.specs.Tables.{store_schema}
use Rattle.ft_opening.specs.Adopted.{no_schema}
use Rattle.ft_opening.specs.Older.{older_schema}
use Rattle.ft_opening.specs.declared.same.Layout.TheVariants.{Older, Present}
use Rattle.ft_opening.proofs.AdoptLemmas.{not_made, not_taken, err_too}
use Rattle.ft_opening.proofs.adopt.take.Goals as goal

pub returns-then-is_bare-clause-refused : goal.returns-then-is_bare-clause-refused
returns-then-is_bare-clause-refused g c =
    let bare : c.args.conn.now.schema ≡ no_schema = search rules in
    let it = c.make.ensures in
    not_made g.S.Store c.args.conn.now c.make.new.conn c.make.result bare it.made.none it.made.mode it.made.fault it.refused

pub returns-in-Some-Present-clause-refused : goal.returns-in-Some-Present-clause-refused
returns-in-Some-Present-clause-refused g c =
    let schema : c.args.conn.now.schema ≡ store_schema = search rules in
    let it = c.examine.ensures in
    not_taken g.S.Store c.args.conn.now c.examine.new.conn c.examine.result (inl schema) (λ clean. err_too c.examine.result (it.read.kept clean)) it.read.mode it.read.fault it.judged
    (λ clean is. elim (it.refused clean is) [ inl blamed ↦ inl blamed | inr odd ↦ inr (inr (Present, schema, odd)) ])

pub returns-in-Some-Older-clause-refused : goal.returns-in-Some-Older-clause-refused
returns-in-Some-Older-clause-refused g c =
    let schema : c.args.conn.now.schema ≡ older_schema = search rules in
    let it = c.take_older.ensures in
    not_taken g.S.Store c.args.conn.now c.take_older.new.conn c.take_older.result (inr schema) it.made.none it.made.mode it.made.fault it.judged
    (λ clean is. elim (it.refused clean is) [ inl blamed ↦ inl blamed | inr odd ↦ inr (inr (Older, schema, odd)) ])
