-- by what each command counts, and what it was found to write
use Rattle.std.proofs.Common.{List, map, option_map, string_bytes, sym, subst, subst₂, refl}
use Rattle.ft_index.proofs.Common.{shown_info, texts_of, rows_of, set_of, filter_of, command_of, insertion_of, modification_of, answer_of, Does}
use Rattle.ft_index.proofs.Common.{with_tables, CountsRows, BlamesDone}
use Rattle.ft_commands.specs.declared.command.Command.{Command}
use Rattle.ft_values.specs.declared.table.TableInfo.{TableInfo}
use Rattle.ft_commands.specs.Command as plain
use Rattle.ft_index.proofs.Doing.{counts_other}
use Rattle.ft_index.proofs.InsertWrites as inserts
use Rattle.ft_index.proofs.UpdateWrites as updates
use Rattle.ft_index.proofs.commands.execute_command.Goals as goal

pub returns-in-Insert-clause-does : goal.returns-in-Insert-clause-does
returns-in-Insert-clause-does g c =
    let w = c.in-Insert.insertion in
    subst₂ (λ (ts : List TableInfo) (x : Command). Does g.S.Store (with_tables c.args.store.now (map shown_info ts)) (command_of x) c.write_found.result (with_tables c.write_found.new.store (map shown_info ts))) c.as_slice.ensures.value (sym c.in-Insert.is)
    (c.write_found.ensures.answers c.args.store.now (map shown_info c.as_slice.result.now) (insertion_of w) (inserts.writes_table (option_map texts_of w.columns) (rows_of w.rows) (string_bytes w.table)) c.insert_written-written.ensures.told c.insert_written-written.ensures.looks)

pub returns-in-Update-clause-does : goal.returns-in-Update-clause-does
returns-in-Update-clause-does g c =
    let w = c.in-Update.modification in
    subst₂ (λ (ts : List TableInfo) (x : Command). Does g.S.Store (with_tables c.args.store.now (map shown_info ts)) (command_of x) c.write_found-in-Update.result (with_tables c.write_found-in-Update.new.store (map shown_info ts))) c.as_slice-in-Update.ensures.value (sym c.in-Update.is)
    (c.write_found-in-Update.ensures.answers c.args.store.now (map shown_info c.as_slice-in-Update.result.now) (modification_of w) (updates.writes_table (map set_of w.sets.items) (filter_of w.filter) (string_bytes w.table)) c.update_written-written.ensures.told c.update_written-written.ensures.looks)

pub returns-in-Select-clause-counts : goal.returns-in-Select-clause-counts
returns-in-Select-clause-counts g c =
    subst₂ (λ (ts : List TableInfo) (x : Command). CountsRows g.S.Store (with_tables c.args.store.now (map shown_info ts)) (command_of x) (answer_of c.select_from.result) (with_tables c.select_from.new.store (map shown_info ts))) c.as_slice-in-Select.ensures.value (sym c.in-Select.is) c.select_from.ensures.counts

pub returns-in-Check-clause-counts : goal.returns-in-Check-clause-counts
returns-in-Check-clause-counts g c =
    let w = c.in-Check in
    let tables = map shown_info c.args.tables.now.items in
    let answer = answer_of c.check_table.result in
    subst (λ (x : Command). CountsRows g.S.Store (with_tables c.args.store.now tables) (command_of x) answer (with_tables c.check_table.new.store tables)) (sym w.is)
    (counts_other g.S.Store (with_tables c.args.store.now tables) (with_tables c.check_table.new.store tables) (plain.Check (string_bytes w.table)) answer (λ contents. tt))

pub returns-in-Insert-clause-refused : goal.returns-in-Insert-clause-refused
returns-in-Insert-clause-refused g c =
    subst₂ (λ (ts : List TableInfo) (x : Command). BlamesDone g.S.Store (map shown_info ts) c.args.store.now (command_of x) c.write_found.new.store c.write_found.result) c.as_slice.ensures.value (sym c.in-Insert.is)
    (c.write_found.ensures.refused c.args.store.now (map shown_info c.as_slice.result.now) (insertion_of c.in-Insert.insertion) refl c.insert_written-written.ensures.told c.insert_written-written.ensures.looks c.insert_written-written.ensures.refused)

pub returns-in-Update-clause-refused : goal.returns-in-Update-clause-refused
returns-in-Update-clause-refused g c =
    subst₂ (λ (ts : List TableInfo) (x : Command). BlamesDone g.S.Store (map shown_info ts) c.args.store.now (command_of x) c.write_found-in-Update.new.store c.write_found-in-Update.result) c.as_slice-in-Update.ensures.value (sym c.in-Update.is)
    (c.write_found-in-Update.ensures.refused c.args.store.now (map shown_info c.as_slice-in-Update.result.now) (modification_of c.in-Update.modification) refl c.update_written-written.ensures.told c.update_written-written.ensures.looks c.update_written-written.ensures.refused)
