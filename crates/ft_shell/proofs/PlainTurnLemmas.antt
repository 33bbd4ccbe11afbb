-- A plain statement is a query, or a command.
use Rattle.std.proofs.Common.{◌≡◌, ℕ, List, refl, subst, sym, Bool, MatchBool, true, false, Option}
use Rattle.shell_text.specs.Print.{Settings}
use Rattle.plain_sql.specs.PlainStatements.{QueryTurn}
use Rattle.shell_io.specs.Outcomes.{Answer}
use Rattle.ft_shell.proofs.Common.{Ghosts, Held, FullText, asks, made_name, seeks, sql_tokens, CommandTurn, PlainTurn}

pub asks_turn : {P S : Type 0} (g : Ghosts P) (h : Ghosts S) (settings : Settings) (text : List ℕ) (old new : Held P) (before : FullText S) (told : Answer) →
    (sought : Bool) → asks (sql_tokens text) ≡ true → sought ≡ seeks (sql_tokens text) → QueryTurn g settings text sought old new told → PlainTurn g h settings text old new before before told
asks_turn g h settings text old new before told sought is same query =
    subst (λ b. MatchBool b (QueryTurn g settings text (seeks (sql_tokens text)) old new told × (before ≡ before)) (CommandTurn g h text (made_name (sql_tokens text)) old new before before told)) (sym is)
    (subst (λ s. QueryTurn g settings text s old new told) same query, refl)

pub runs_turn : {P S : Type 0} (g : Ghosts P) (h : Ghosts S) (settings : Settings) (text : List ℕ) (old new : Held P) (before after : FullText S) (told : Answer) (made : Option (List ℕ)) →
    asks (sql_tokens text) ≡ false → made ≡ made_name (sql_tokens text) → CommandTurn g h text made old new before after told → PlainTurn g h settings text old new before after told
runs_turn g h settings text old new before after told made is same command =
    subst (λ b. MatchBool b (QueryTurn g settings text (seeks (sql_tokens text)) old new told × (after ≡ before)) (CommandTurn g h text (made_name (sql_tokens text)) old new before after told)) (sym is)
    (subst (λ m. CommandTurn g h text m old new before after told) same command)
