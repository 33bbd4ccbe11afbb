use Rattle.std.proofs.Common.{◌∙◌, sym}
use Rattle.ft_store.proofs.Common.{IfOk-weaker}
use Rattle.ft_store.proofs.TableLemmas.{text_again, text_unreadable}
use Rattle.ft_store.proofs.read.shown_text.Goals as goal

pub returns-in-Ok : goal.returns-in-Ok
returns-in-Ok c =
    let it = c.in-Ok.ensures.cases in
    IfOk-weaker c.from_str.result _ _ (λ text is. is ∙ it.0 ∙ sym (text_again c.args.stored.now it.1)) c.from_str.ensures.ok

pub returns-in-Err : goal.returns-in-Err
returns-in-Err c = IfOk-weaker c.from_str-in-Err.result _ _ (λ text is. is ∙ sym (text_unreadable c.args.stored.now c.in-Err.ensures.cases.0)) c.from_str-in-Err.ensures.ok
