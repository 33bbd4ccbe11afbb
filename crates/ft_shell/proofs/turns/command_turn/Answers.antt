-- by what `sqlite` says of the call
use Rattle.std.proofs.Common.{rules, ◌≡◌, ℕ, List, [], refl, string_bytes, subst, sym, option_map}
use Rattle.plain_sql.proofs.{if_clean}
use Rattle.shell_io.specs.OutputViews.{answer_as, complaint_as}
use Rattle.shell_io.specs.Outcomes.{silent}
use Rattle.plain_sql.specs.PlainStatements.{TellsRefusal}
use Rattle.ft_shell.proofs.Common.{MaybeNotes, NoteTurn, done, refused}
use Rattle.ft_shell.proofs.turns.command_turn.Goals as goal

pub returns-in-Some : goal.returns-in-Some
returns-in-Some g c =
    let answer = answer_as c.note_turn.result in
    let none : string_bytes c.new.result ≡ [] = search rules in
    done c.in-Ok.field-0 (if_clean g.P.Store c.args.plain.now c.execute.new.self c.execute.ensures.survives c.in-Ok.ensures.runs)
    (subst (λ made. MaybeNotes g.S.Store (option_map string_bytes made) (g.T.TextTables.known c.args.full_text.now) (g.T.TextTables.known c.note_turn.new.full_text) answer) (sym c.in-Some.is)
    (subst (λ (lines : List ℕ). NoteTurn g.S.Store lines (string_bytes c.in-Some.name) (g.T.TextTables.known c.args.full_text.now) (g.T.TextTables.known c.note_turn.new.full_text) answer) none
    (subst (λ (name : List ℕ). NoteTurn g.S.Store (string_bytes c.new.result) name (g.T.TextTables.known c.args.full_text.now) (g.T.TextTables.known c.note_turn.new.full_text) answer) c.as_str.ensures.value c.note_turn.ensures)))

pub returns-in-None : goal.returns-in-None
returns-in-None g c =
    done c.in-Ok.field-0 (if_clean g.P.Store c.args.plain.now c.execute.new.self c.execute.ensures.survives c.in-Ok.ensures.runs)
    (subst (λ made. MaybeNotes g.S.Store (option_map string_bytes made) (g.T.TextTables.known c.args.full_text.now) (g.T.TextTables.known c.args.full_text.now) silent) (sym c.in-None.is) (refl, refl))

pub returns-in-Err : goal.returns-in-Err
returns-in-Err g c =
    refused c.in-Err.error (if_clean g.P.Store c.args.plain.now c.execute.new.self c.execute.ensures.survives c.in-Err.ensures.runs) refl
    (subst (λ seeks. TellsRefusal seeks c.in-Err.error (complaint_as c.refusal.result)) c.requires c.refusal.ensures)
