-- by what was found, and what the store does
use Rattle.std.proofs.Common.{rules, ◌≡◌, ◌∙◌, inl, ap, Err, Ok, Result, subst, IsTrue, OnOk}
use Rattle.ft_index.proofs.Common.{shows, value_in, Fault, Written, WritesIn, alone}
use Rattle.ft_index.proofs.Doing.{told_kept, reached, does_failed, does_undone, does_made, done_blamed, err_of}
use Rattle.ft_index.proofs.written.write_found.Goals as goal

pub returns-in_err-found-clause-answers : goal.returns-in_err-found-clause-answers
returns-in_err-found-clause-answers g c old tables command writes told looks =
    let fault : Fault = c.in_err-found.field-0.0 in
    let is : c.from_residual.result ≡ Err fault = search rules in
    let found : c.args.found ≡ Err fault = c.in_err-found.was in
    does_failed g.S.Store old c.args.store.now tables command looks.only fault c.from_residual.result is
    (subst (λ (r : Result Written Fault). WritesIn g.S.Store tables old c.args.store.now command r) found told)

pub returns-in_err-make-clause-answers : goal.returns-in_err-make-clause-answers
returns-in_err-make-clause-answers g c old tables command writes told looks =
    let mid = c.args.store.now in
    let fault : Fault = c.in_err-make.field-0.0 in
    let is : c.from_residual-in_err-make.result ≡ Err fault = search rules in
    let refused : c.make.result ≡ Err fault = search rules in
    let found : c.args.found ≡ Ok c.in_ok-found.field-0 = c.in_ok-found.was in
    let did = c.make.ensures in
    let plans = subst (λ (r : Result Written Fault). WritesIn g.S.Store tables old mid command r) found told in
    does_undone g.S.Store old mid tables command looks.only
    (λ clean. subst (λ (r : Result Written Fault). OnOk r (IsTrue (shows g.S.Store old).is_open → IsTrue (shows g.S.Store mid).is_open)) found (looks.live clean)) c.make.new.store did.changes c.make.result did.makes
    (λ up first holds. reached first command (value_in g.S.Store old) did.changes (plans.0 did.changes did.of_written up first holds)) fault c.from_residual-in_err-make.result is refused

pub returns-clause-answers : goal.returns-clause-answers
returns-clause-answers g c old tables command writes told looks =
    let mid = c.args.store.now in
    let done : c.make.result ≡ Ok tt = search rules in
    let found : c.args.found ≡ Ok c.in_ok-found.field-0 = c.in_ok-found.was in
    let did = c.make.ensures in
    let plans = subst (λ (r : Result Written Fault). WritesIn g.S.Store tables old mid command r) found told in
    does_made g.S.Store old mid tables command looks.only
    (λ clean. subst (λ (r : Result Written Fault). OnOk r (IsTrue (shows g.S.Store old).is_open → IsTrue (shows g.S.Store mid).is_open)) found (looks.live clean)) c.make.new.store did.changes c.make.result did.makes
    (λ up first holds. reached first command (value_in g.S.Store old) did.changes (plans.0 did.changes did.of_written up first holds)) tables done
    (told_kept (value_in g.S.Store old) tables command writes.name writes.made writes.leaves) writes.replies

pub returns-in_err-found-clause-refused : goal.returns-in_err-found-clause-refused
returns-in_err-found-clause-refused g c = λ old tables command puts _ looks blames contents held clean told.
    inl (blames contents held clean (c.in_err-found.was ∙ ap Err (err_of c.from_residual.result c.in_err-found.field-0.0 (search rules) told)))

pub returns-in_err-make-clause-refused : goal.returns-in_err-make-clause-refused
returns-in_err-make-clause-refused g c = λ old tables command puts told looks blames.
    let mid = c.args.store.now in
    let found : c.args.found ≡ Ok c.in_ok-found.field-0 = c.in_ok-found.was in
    let did = c.make.ensures in
    let plans = subst (λ (r : Result Written Fault). WritesIn g.S.Store tables old mid command r) found told in
    done_blamed g.S.Store old mid tables command looks.only
    (λ clean. subst (λ (r : Result Written Fault). OnOk r (IsTrue (shows g.S.Store old).is_open → IsTrue (shows g.S.Store mid).is_open)) found (looks.live clean)) c.make.new.store did.changes c.make.result did.makes
    (λ up first holds. reached first command (value_in g.S.Store old) did.changes (plans.0 did.changes did.of_written up first holds))
    c.from_residual-in_err-make.result puts (λ up contents held. alone _ did.changes (did.own (plans.1 up contents held))) (λ told. search rules) did.refused
