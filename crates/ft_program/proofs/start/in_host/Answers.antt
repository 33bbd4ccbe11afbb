-- both names, and the two databases that the host holds there
use Rattle.std.proofs.Common.{refl, ◌∙◌}
use Rattle.ft_program.proofs.MemoryLemmas.{from_files, names_apart, none_opened, one_refused, told_last}
use Rattle.ft_program.proofs.start.in_host.Goals as goal

pub open_both_in-requires : goal.open_both_in-requires
open_both_in-requires g c = record { apart = names_apart c.args.path.now c.as_str-tables.result.now c.as_str-texts.result.now (c.as_str-tables.ensures.value ∙ c.in-Ok.ensures.tables) (c.as_str-texts.ensures.value ∙ c.in-Ok.ensures.texts) }

pub returns-in-Err-clause-runs : goal.returns-in-Err-clause-runs
returns-in-Err-clause-runs g c = none_opened g.D.Disk g.H.Databases.tells c.args.path.now (g.H.Databases.holds c.args.host.now) (g.H.Databases.holds c.args.host.now) c.args.work.settings _ _ _ c.tell.result c.in-Err.fault c.in-Err.ensures.refused
    (record { out = refl; err = c.tell.ensures.line; ends = c.tell.ensures.status }) (λ is. let same = c.in-Err.ensures.long is in cc) (λ t other. refl)

pub returns-in-Ok-open_both_in-clause-runs : goal.returns-in-Ok-open_both_in-clause-runs
returns-in-Ok-open_both_in-clause-runs g c = from_files g.D.Disk g.H.Databases.tells c.args.path.now (g.H.Databases.holds c.args.host.now) (g.H.Databases.holds c.close-in-Ok-open_both_in.new.self) c.as_str-tables.result.now c.as_str-texts.result.now (c.as_str-tables.ensures.value ∙ c.in-Ok.ensures.tables) (c.as_str-texts.ensures.value ∙ c.in-Ok.ensures.texts)
    (λ is. let wrong = c.in-Ok.ensures.long is in cc) c.args.work.settings _ _ _ c.tell_close-status.result (g.H.Databases.holds c.open_both_in.new.host) (g.H.Databases.holds c.close.new.self) c.in-Ok-open_both_in.plain c.in-Ok-open_both_in.store c.on_databases-ended.result.1 c.on_databases-ended.result.2 c.left_files-tables_left.result c.left_files-texts_left.result
    c.in-Ok-open_both_in.ensures
    (told_last c.args.work.settings c.in-Ok-open_both_in.plain c.in-Ok-open_both_in.store _ c.on_databases-ended.result.1 c.on_databases-ended.result.2 _
    (record { out = g.O.Write.contents c.on_databases-ended.new.outputs.out.now; err = g.E.Write.contents c.on_databases-ended.new.outputs.err.now }) _ c.on_databases-ended.result.0 c.tell_close-status.result c.both_closed.result
    c.on_databases-ended.ensures.runs c.both_closed.ensures refl c.tell_close-status.ensures)
    c.left_files-tables_left.ensures c.left_files-texts_left.ensures c.close.ensures.held c.close.ensures.others c.close-in-Ok-open_both_in.ensures.held c.close-in-Ok-open_both_in.ensures.others

pub returns-in-Err-open_both_in-clause-runs : goal.returns-in-Err-open_both_in-clause-runs
returns-in-Err-open_both_in-clause-runs g c = one_refused g.D.Disk g.H.Databases.tells c.args.path.now (g.H.Databases.holds c.args.host.now) (g.H.Databases.holds c.open_both_in.new.host) c.as_str-tables.result.now c.as_str-texts.result.now (c.as_str-tables.ensures.value ∙ c.in-Ok.ensures.tables) (c.as_str-texts.ensures.value ∙ c.in-Ok.ensures.texts)
    (λ is. let wrong = c.in-Ok.ensures.long is in cc) c.args.work.settings _ _ _ c.tell-in-Err-open_both_in.result c.in-Err-open_both_in.fault c.in-Err-open_both_in.ensures (record { out = refl; err = c.tell-in-Err-open_both_in.ensures.line; ends = c.tell-in-Err-open_both_in.ensures.status })
