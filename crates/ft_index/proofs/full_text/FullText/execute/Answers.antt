-- the store is asked, and then the command is executed
use Rattle.std.proofs.Common.{◌≡◌, inl, inr, Err, Result, map, rules, sym, subst, is_ok}
use Rattle.ft_index.proofs.Common.{fault_of_read, Fault, Reply, shown_info, command_of, answer_of, FullText, Executes, AreHeld, with_tables}
use Rattle.ft_index.proofs.Common.{CountsRows, Database, shows}
use Rattle.ft_calls.specs.Kept.{CommitsCommand, Leaves}
use Rattle.ft_index.proofs.Doing.{looks_up, store_answer, store_blamed, then_either, pinged, counts_nothing, counts_then, does_nothing, does_then, outside_of, ok_then}
use Rattle.ft_store.specs.Rows.{value_of as rows_of}
use Rattle.ft_calls.specs.Causes.{CantDo}
use Rattle.ft_index.proofs.full_text.FullText.execute.Goals as goal

pub returns-in-Err : goal.returns-in-Err
returns-in-Err g c =
    let old = c.self.inside.store in
    let mid = c.ping.new.self in
    let tables = map shown_info c.self.inside.tables.items in
    let command = command_of c.args.command.now in
    let answer : Result Reply Fault = Err c.from.result in
    let is : answer ≡ Err (fault_of_read c.in-Err.fault) = search rules in
    let does = does_nothing g.S.Store old mid _ c.ping.ensures tables command answer (fault_of_read c.in-Err.fault) is (outside_of c.in-Err.fault) in
    let new = with_tables mid tables in
    record {
      executes = subst (λ (k : FullText g.row.S.Denot). Executes g.S.Store k command (answer_of answer) new) c.self.view_is does.executes;
      leaves = subst (λ (k : FullText g.row.S.Denot). Leaves g.S.Store k new (is_ok answer) (CommitsCommand g.S.Store k command)) c.self.view_is (record {
        live = λ clean done. ok_then answer (does.live clean) done;
        settled = λ up. c.is_settled.ensures up.clean up.is_open;
        survives = does.crash;
      });
      counts = subst (λ (k : FullText g.row.S.Denot). CountsRows g.S.Store k command (answer_of answer) new) c.self.view_is
          (counts_nothing g.S.Store old mid _ c.ping.ensures tables command answer (fault_of_read c.in-Err.fault) is);
      refused = rw (sym c.self.view_is) (λ clean told. inl (store_blamed (shows g.S.Store old) (shows g.S.Store mid) c.in-Err.fault c.ping.result answer (search rules) (search rules) is c.ping.ensures.refused clean (store_answer answer told)));
    }

pub returns : goal.returns
returns g c =
    let old = c.self.inside.store in
    let mid = c.ping.new.self in
    let tables = map shown_info c.self.inside.tables.items in
    let command = command_of c.args.command.now in
    let done = c.execute_command-result in
    let looks = pinged g.S.Store old mid _ c.ping.ensures in
    let new = with_tables done.new.store (map shown_info done.new.tables.items) in
    let does = does_then g.S.Store old mid _ c.ping.ensures c.in_default.ensures.live tables new command done.result done.ensures.does in
    record {
      executes = subst (λ (k : FullText g.row.S.Denot). Executes g.S.Store k command (answer_of done.result) new) c.self.view_is does.executes;
      leaves = subst (λ (k : FullText g.row.S.Denot). Leaves g.S.Store k new (is_ok done.result) (CommitsCommand g.S.Store k command)) c.self.view_is (record {
        live = λ clean done_so. ok_then done.result (does.live clean) done_so;
        settled = λ up. c.is_settled-2.ensures up.clean up.is_open;
        survives = does.crash;
      });
      counts = subst (λ (k : FullText g.row.S.Denot). CountsRows g.S.Store k command (answer_of done.result) new) c.self.view_is
          (counts_then g.S.Store old mid _ c.ping.ensures c.in_default.ensures.live tables new command done.result done.ensures.does done.ensures.counts);
      refused = rw (sym c.self.view_is) (λ clean told. then_either g.S.Store old mid done.new.store looks (λ middle _. c.in_default.ensures.live middle) done.ensures.does.crash clean (λ middle is_open same.
          let held = c.self.invariant (looks_up g.S.Store old mid tables tables looks (record { clean = middle; is_open = is_open })) in
          elim (done.ensures.refused held.0 (subst (λ (d : Database). AreHeld (rows_of d.trees) tables held.0) (sym same) held.1) clean (store_answer done.result told)) [
            | inl blamed ↦ inl blamed
            | inr cant ↦ inr (held.0, held.1, subst (λ (d : Database). CantDo held.0 command (rows_of d.trees) d.trees) same cant)
          ]));
    }
