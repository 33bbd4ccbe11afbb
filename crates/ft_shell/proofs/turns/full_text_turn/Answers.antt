-- what is answered, and whether it is printed
use Rattle.std.proofs.Common.{rules, ◌≡◌, Ok, Err, ap, inl, inr}
use Rattle.shell_io.specs.OutputViews.{answer_as}
use Rattle.shell_io.specs.Outcomes.{blames, lacks_memory, says}
use Rattle.ft_shell.proofs.Common.{reply_of, reply_text, fault_text}
use Rattle.ft_shell.proofs.turns.full_text_turn.Goals as goal

pub returns-in_err-reply : goal.returns-in_err-reply
returns-in_err-reply g c =
    let fault = c.in_err-reply.field-0.0 in
    let is : answer_as c.from_residual.result ≡ blames (fault_text fault) = search rules in
    record { answer = Err fault; does = c.in_err-reply.ensures.does; tells = inl is }

pub returns-in_err-write_reply : goal.returns-in_err-write_reply
returns-in_err-write_reply g c =
    let is : answer_as c.from_residual-in_err-write_reply.result ≡ lacks_memory = search rules in
    record { answer = Ok (reply_of c.in_ok-reply.reply); does = c.in_ok-reply.ensures.does; tells = inr is }

pub returns : goal.returns
returns g c =
    let printed : c.write_reply.new.out.items ≡ reply_text c.args.settings.now (reply_of c.in_ok-reply.reply) = search rules in
    record { answer = Ok (reply_of c.in_ok-reply.reply); does = c.in_ok-reply.ensures.does; tells = inl (ap says printed) }
